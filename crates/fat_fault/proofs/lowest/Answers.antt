-- `fat_fault::lowest` meets its contract.
use Rattle.std.proofs.Common.{ap, ◌∙◌, ◌+◌, ℕ}
use mathlib.Core.Path.{subst, subst⁻¹}
use Rattle.fat_fault.specs.Fault.{untied}
use Rattle.fat_fault.specs.Inner.Marks.{Coloured}
use Rattle.fat_fault.proofs.Colours.{fresh_coloured}
use Rattle.fat_fault.proofs.Passes.{low_begin, low_more, low_found, low_end}
use Rattle.fat_fault.proofs.lowest.Goals as goal

pub loop-b-init : goal.loop-b-init
loop-b-init c = (low_begin _ _, fresh_coloured _ _ _ c.requires.fresh)

pub untied-requires-clause-coloured : goal.untied-requires-clause-coloured
untied-requires-clause-coloured c =
    let k = c.loop-b.invariant.1 in
    subst⁻¹ (λ (m : ℕ). Coloured m c.args.table.now c.loop-b.b c.loop-b.work) k.marked.long k

pub returns-then-untied : goal.returns-then-untied
returns-then-untied c =
    low_found _ _ _ _ c.loop-b.invariant.0 c.loop-b-test.true
    (c.untied.ensures.0 ∙ ap (λ (m : ℕ). untied m c.args.table.now c.loop-b.b) c.loop-b.invariant.1.marked.long) c.if-untied.true

pub loop-b-preserved : goal.loop-b-preserved
loop-b-preserved c =
    let l = c.loop-b.invariant.1.marked.long in (
      low_more _ _ _ _ c.loop-b.invariant.0 c.loop-b-test.true (c.untied.ensures.0 ∙ ap (λ (m : ℕ). untied m c.args.table.now c.loop-b.b) l) c.if-untied.false,
      subst (λ (m : ℕ). Coloured m c.args.table.now (c.loop-b.b + 1) c.untied.new.work) l (c.untied.ensures.1 c.if-untied.false),
    )

pub returns : goal.returns
returns c = low_end _ _ _ c.loop-b.invariant.0 c.loop-b-test.false
