use borrow.Author.Rules.{rules}
use Rattle.fat_merge.proofs.Promised.{tested_done, tested_retired}
use Rattle.fat_merge.proofs.tested_merge.Goals as goal

pub returns-then-not-in_use : goal.returns-then-not-in_use
returns-then-not-in_use c =
    (tested_retired c.args.n c.args.table.now _ _ c.in_use.ensures (search rules), c.requires.work_value)

pub returns : goal.returns
returns c =
    (tested_done c.args.n c.args.table.now _ _ c.in_use.ensures (search rules) _ c.merge_sound.ensures.0, c.merge_sound.ensures.1)
