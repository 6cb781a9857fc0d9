use Rattle.audit_inner.proofs.Sweeping.{files_begin, inode_below, inode_inside, inode_room, files_fits, files_on, files_end}
use native.Mathlib.Omega.{arith}
use borrow.Author.Rules.{rules}
use Rattle.audit_inner.proofs.audit_files.Goals as goal

pub link_of-count-requires : goal.link_of-count-requires
link_of-count-requires c = (omega arith, omega arith)

pub loop-y-init : goal.loop-y-init
loop-y-init c = files_begin _ _ _ _ _ (omega arith)

pub judge_file-judged-requires : goal.judge_file-judged-requires
judge_file-judged-requires c = search (inode_below, inode_inside, inode_room)

pub put_file-found-requires : goal.put_file-found-requires
put_file-found-requires c = search (files_fits, rules)

pub loop-y-preserved : goal.loop-y-preserved
loop-y-preserved c = search (files_on, rules)

pub returns : goal.returns
returns c = search (files_end)
