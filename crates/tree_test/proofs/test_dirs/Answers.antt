-- `test_dirs` meets its contract.
use native.Mathlib.Omega.{arith}
use Rattle.tree_test.proofs.DirsTest.{dirs_table, dirs_root, dirs_3, dirs_4, dirs_5, dirs_front}
use borrow.Author.Rules.{rules}
use Rattle.tree_test.proofs.test_dirs.Goals as goal

pub returns-then-not-test_table : goal.returns-then-not-test_table
returns-then-not-test_table c = dirs_table c.args.hash.now c.args.table.now c.args.work.now c.test_table.ensures (search rules)

pub bounds-work-1 : goal.bounds-work-1
bounds-work-1 c =
    let f = dirs_front c.test_table.ensures (search rules) c.link_of-count.ensures in
    let s = c.test_table.ensures.within.size in omega (arith, f.0, f.1)

pub root_fits-requires : goal.root_fits-requires
root_fits-requires c =
    let f = dirs_front c.test_table.ensures (search rules) c.link_of-count.ensures in
    omega (arith, f.0, f.2)

pub returns-then-not-root_fits : goal.returns-then-not-root_fits
returns-then-not-root_fits c =
    dirs_root c.args.hash.now c.args.table.now c.args.work.now c.test_table.ensures (search rules)
    c.root_fits.result c.root_fits.ensures (search rules)

pub mark_children-requires : goal.mark_children-requires
mark_children-requires c =
    let f = dirs_front c.test_table.ensures (search rules) c.link_of-count.ensures in
    let s = c.test_table.ensures.within.size in
    (f.2, omega arith, omega (arith, f.0), omega (arith, f.1), omega (arith, f.1), f.2, omega arith, omega (arith, f.1))

pub returns-then-not-mark_children : goal.returns-then-not-mark_children
returns-then-not-mark_children c =
    dirs_3 c.test_table.ensures (search rules) c.link_of-count.ensures c.root_fits.ensures (search rules)
    (search rules) c.mark_children.ensures (search rules)

pub check_parents-requires : goal.check_parents-requires
check_parents-requires c =
    let f = dirs_front c.test_table.ensures (search rules) c.link_of-count.ensures in
    let s = c.test_table.ensures.within.size in
    let u = c.mark_children.ensures.1.size in
    (f.2, omega arith, omega (arith, f.1))

pub returns-then-not-check_parents : goal.returns-then-not-check_parents
returns-then-not-check_parents c =
    dirs_4 c.test_table.ensures (search rules) c.link_of-count.ensures c.root_fits.ensures (search rules)
    (search rules) c.mark_children.ensures (search rules) c.check_parents.ensures (search rules)

pub all_reach-requires : goal.all_reach-requires
all_reach-requires c =
    let f = dirs_front c.test_table.ensures (search rules) c.link_of-count.ensures in
    let s = c.test_table.ensures.within.size in
    let u = c.mark_children.ensures.1.size in
    omega (arith, f.1)

pub returns : goal.returns
returns c =
    dirs_5 c.test_table.ensures (search rules) c.link_of-count.ensures c.root_fits.ensures (search rules)
    (search rules) c.mark_children.ensures (search rules) c.check_parents.ensures (search rules) c.all_reach.ensures
