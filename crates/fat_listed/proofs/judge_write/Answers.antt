use Rattle.fat_listed.proofs.Judges.{write_used, write_uneven, write_unfit, write_retired}
use Rattle.fat_listed.proofs.judge_write.Goals as goal

pub returns-then-in_use : goal.returns-then-in_use
returns-then-in_use c =
    write_used _ _ c.args.list.now _ _ (c.in_use.ensures.yes c.if-in_use.true) c.judge.result c.judge.ensures

pub returns-then-uneven : goal.returns-then-uneven
returns-then-uneven c =
    write_uneven _ _ c.args.list.now _ _ _ c.in_use.ensures c.if-in_use.false c.uneven.ensures c.if-uneven.true

pub returns-then-unfit : goal.returns-then-unfit
returns-then-unfit c =
    write_unfit _ _ c.args.list.now _ _ _ c.in_use.ensures c.if-in_use.false c.uneven.ensures c.if-uneven.false
    c.unfit.ensures c.if-unfit.true

pub returns : goal.returns
returns c =
    write_retired _ _ c.args.list.now _ _ _ c.in_use.ensures c.if-in_use.false c.uneven.ensures c.if-uneven.false
    c.unfit.ensures c.if-unfit.false
