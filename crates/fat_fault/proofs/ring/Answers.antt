-- `fat_fault::ring` meets its contract.
use Rattle.std.proofs.Common.{arith}
use Rattle.std.proofs.Common.{◌≡◌, ℕ, suc}
use mathlib.Core.Path.{subst}
use Rattle.fat_fault.specs.Fault.{hop}
use Rattle.fat_fault.proofs.Cases.{marked_long}
use Rattle.fat_fault.proofs.Colours.{round_less, rounding_none, rounding_on, rounding_node, rounding_more, rounding_end}
use Rattle.fat_fault.proofs.ring.Goals as goal

pub loop-work-init : goal.loop-work-init
loop-work-init c = search rounding_none

pub hop-requires-clause-marked : goal.hop-requires-clause-marked
hop-requires-clause-marked c = marked_long (rounding_node _ _ _ _ _ _ c.loop-work.invariant c.requires.ring)

pub returns-in_default : goal.returns-in_default
returns-in_default c =
    let m = rounding_node _ _ _ _ _ _ c.loop-work.invariant c.requires.ring in
    absurd (rounding_on _ _ _ _ _ _ c.loop-work.invariant c.requires.ring (subst (λ (k : ℕ). hop k c.args.table.now c.loop-work.i ≡ 0) m.long c.in_default.ensures))

pub loop-work-smaller : goal.loop-work-smaller
loop-work-smaller c =
    let inv = c.loop-work.invariant in
    round_less c.loop-work.work c.loop-work.i (omega (arith, inv.below, inv.marked.long)) c.loop-work-test.true

pub loop-work-preserved : goal.loop-work-preserved
loop-work-preserved c =
    rounding_more _ _ _ _ _ _ _ c.loop-work.invariant c.requires.ring
    (subst (λ (k : ℕ). hop k c.args.table.now c.loop-work.i ≡ suc c.in-Some.next) (rounding_node _ _ _ _ _ _ c.loop-work.invariant c.requires.ring).long c.in-Some.ensures)

pub returns : goal.returns
returns c = search rounding_end
