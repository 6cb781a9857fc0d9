-- `fat_ends::wipe` meets its contract.
use mathlib.Core.Path.{refl, ap, ◌∙◌}
use Prim.Native.Nat.{ℕ, ◌<◌}
use native.Mathlib.Omega.{arith}
use lib.ListN.{length, length-set, replicate}
use Rattle.fat_table.specs.Sound.Starts.{begin, after}
use Rattle.fat_ends.proofs.Wipes.{at_nodes_set, zero_on, wiped, all_zero}
use Rattle.fat_ends.proofs.wipe.Goals as goal

pub loop-b-init : goal.loop-b-init
loop-b-init c = (omega arith, begin, omega arith, (λ x l. absurd (omega arith)), c.requires.covered.1)

pub returns-then-left-eq0 : goal.returns-then-left-eq0
returns-then-left-eq0 c =
    let inv = c.loop-b.invariant in
    wiped _ _ _ (omega (arith, inv.2)) inv.3 c.clear.ensures ∙ ap (λ (m : ℕ). replicate m 0) inv.2

pub loop-b-preserved : goal.loop-b-preserved
loop-b-preserved c =
    let nd = c.size_of.ensures in
    let inv = c.loop-b.invariant in
    let l : c.loop-b.b < length c.loop-b.work = omega (arith, inv.2) in (
      nd.within,
      after inv.1 nd refl,
      length-set c.loop-b.work c.loop-b.b 0 ∙ inv.2,
      zero_on _ _ _ _ c.loop-b.work inv.1 nd l inv.3 inv.4,
      at_nodes_set _ _ c.loop-b.work _ l inv.4,
    )

pub returns : goal.returns
returns c =
    let inv = c.loop-b.invariant in
    all_zero c.loop-b.work _ inv.2 (λ x l. inv.3 x (omega arith))
