-- `test_files` meets its contract.
use native.Mathlib.Omega.{arith}
use borrow.Author.Rules.{rules}
use Rattle.tree_test.proofs.FilesTest.{files_table, files_2, files_3, files_front}
use Rattle.tree_test.proofs.test_files.Goals as goal

pub returns-then-not-test_table : goal.returns-then-not-test_table
returns-then-not-test_table c =
    λ dh tell. files_table dh c.args.dirs.now c.args.hash.now c.args.table.now c.args.off c.args.work.now tell (omega arith) c.test_table.ensures (search rules)

pub mark_children-requires : goal.mark_children-requires
mark_children-requires c =
    let f = files_front c.args.dirs.now c.test_table.ensures (search rules) c.link_of-bound.ensures c.link_of-count.ensures in
    let s = c.test_table.ensures.within.size in
    (omega (arith, f.0), omega arith, omega (arith, f.0), omega (arith, f.0), omega (arith, f.0), f.2, omega arith, omega (arith, f.1))

pub returns-then-not-mark_children : goal.returns-then-not-mark_children
returns-then-not-mark_children c =
    λ dh tell.
    files_2 c.args.dirs.now c.test_table.ensures (search rules) c.link_of-bound.ensures c.link_of-count.ensures c.mark_children.ensures
    (omega arith) (omega arith) dh tell (search rules)

pub check_parents-requires : goal.check_parents-requires
check_parents-requires c =
    let f = files_front c.args.dirs.now c.test_table.ensures (search rules) c.link_of-bound.ensures c.link_of-count.ensures in
    let s = c.test_table.ensures.within.size in
    let u = c.mark_children.ensures.1.size in
    (f.2, omega arith, omega (arith, f.1))

pub returns : goal.returns
returns c =
    λ dh tell.
    files_3 c.args.dirs.now c.test_table.ensures (search rules) c.link_of-bound.ensures c.link_of-count.ensures c.mark_children.ensures
    (omega arith) (omega arith) dh tell (search rules) c.check_parents.ensures
