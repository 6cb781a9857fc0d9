use mathlib.Core.Path.{ap, sym, ◌∙◌}
use native.Mathlib.Omega.{arith}
use lib.ListN.{set}
use Rattle.tree_marks.proofs.Gathering.{sift_begin, sift_kept, sift_out, sift_done}
use Rattle.tree_marks.proofs.keep_gone.Goals as goal
use Rattle.tree_marks.proofs.keep_gone.Goals.{then-mark-eq-GONE, else-mark-eq-GONE}

pub loop-mark-init : goal.loop-mark-init
loop-mark-init c = sift_begin _

pub loop-mark-preserved : goal.loop-mark-preserved
loop-mark-preserved c =
    elim c.if-mark-eq-GONE.branch [
      | then-mark-eq-GONE w ↦ sift_kept c.loop-mark.invariant (ap (set c.loop-mark.mark-items c.loop-mark.mark-index) (w.mark-is ∙ sym w.if-mark-eq-GONE.true)) w.if-mark-eq-GONE.true
      | else-mark-eq-GONE w ↦ sift_out c.loop-mark.invariant (ap (set c.loop-mark.mark-items c.loop-mark.mark-index) w.mark-is) (omega arith) w.if-mark-eq-GONE.false
    ]

pub returns : goal.returns
returns c = sift_done c.args.work.now c.args.off c.args.count c.index.result c.index.ensures c.requires c.loop-mark.invariant c.loop-mark-test.false
