-- `all_marked` meets its contract.
use mathlib.Core.Path.{refl, sym, ap, ◌∙◌}
use Prim.Native.Nat.{◌<◌}
use borrow.Author.Rules.{rules}
use Rattle.tree_marks.specs.Inner.Marks.{mark_at}
use Rattle.tree_marks.proofs.Gathering.{check_begin, check_on, check_stop, check_done}
use Rattle.tree_alone.proofs.Entries.{mark_none, mark_some}
use Rattle.tree_alone.proofs.all_marked.Goals as goal

pub loop-y-init : goal.loop-y-init
loop-y-init c = check_begin _

pub returns-then-work-off-eq0 : goal.returns-then-work-off-eq0
returns-then-work-off-eq0 c =
    check_stop {P = λ z. 0 < mark_at c.args.work.now c.args.off z} c.loop-y.invariant (search rules)
    (mark_none (ap (mark_at c.args.work.now c.args.off) (sym c.index.ensures) ∙ c.if-work-off-eq0.true)) refl

pub loop-y-preserved : goal.loop-y-preserved
loop-y-preserved c =
    check_on {P = λ z. 0 < mark_at c.args.work.now c.args.off z} c.loop-y.invariant
    (mark_some (λ e. c.if-work-off-eq0.false (ap (mark_at c.args.work.now c.args.off) c.index.ensures ∙ e))) refl

pub returns : goal.returns
returns c = check_done {P = λ z. 0 < mark_at c.args.work.now c.args.off z} c.loop-y.invariant (search rules)
