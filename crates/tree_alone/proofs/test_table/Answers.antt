-- `test_table` meets its contract.
use mathlib.Core.Path.{refl, ap}
use Rattle.std.specs.Option.{is_some}
use native.Mathlib.Omega.{arith}
use Rattle.tree_alone.proofs.Singles.{single_front, single_lists, single_good, single_bounded, single_beyond, single_far, rooms_fit, count_is}
use borrow.Author.Rules.{rules}
use Rattle.tree_alone.proofs.test_table.Goals as goal

pub returns-then-not-front_fits : goal.returns-then-not-front_fits
returns-then-not-front_fits c =
    single_front c.args.hash.now c.args.table.now c.args.w c.args.least c.args.off c.args.work.now c.link_of-count.ensures c.link_of-maximum.ensures c.front_fits.ensures (search rules)

pub sort_table-requires : goal.sort_table-requires
sort_table-requires c =
    let n = c.front_fits.ensures.yes (search rules) in (
      count_is c.args.hash.now c.args.table.now c.args.w c.args.least c.args.off c.args.work.now c.link_of-count.ensures c.link_of-maximum.ensures c.front_fits.ensures,
      rooms_fit c.args.table.now c.args.w c.link_of-count.result (omega (arith, n.0, n.2)),
      n.1,
      omega (arith, n.0, n.2),
      search rules,
      search rules,
      search rules,
      omega (arith, n.0, n.2),
      c.requires.6,
    )

pub returns-in_default : goal.returns-in_default
returns-in_default c =
    single_lists c.args.hash.now c.args.table.now c.args.w c.args.least c.args.off c.args.work.now c.link_of-count.ensures c.link_of-maximum.ensures c.front_fits.ensures (search rules) c.sort_table.ensures (ap is_some c.in_default.is)

pub test_far-requires : goal.test_far-requires
test_far-requires c =
    let n = c.front_fits.ensures.yes (search rules) in (
      single_bounded c.args.hash.now c.args.table.now c.args.w c.args.least c.args.off c.args.work.now c.link_of-count.ensures c.link_of-maximum.ensures c.front_fits.ensures (search rules) c.in-Some.ensures refl,
      search rules,
      search rules,
      rooms_fit c.args.table.now c.args.w c.link_of-count.result (omega (arith, n.0, n.2)),
      omega (arith, n.0, n.2, c.in-Some.ensures.sorted.within.size),
      single_beyond c.args.hash.now c.args.table.now c.args.w c.args.least c.args.off c.args.work.now c.link_of-count.ensures c.link_of-maximum.ensures c.front_fits.ensures (search rules) c.in-Some.ensures c.requires.6,
    )

pub returns-then-longest-gt-NEAR : goal.returns-then-longest-gt-NEAR
returns-then-longest-gt-NEAR c =
    single_far c.args.hash.now c.args.table.now c.args.w c.args.least c.args.off c.args.work.now c.link_of-count.ensures c.link_of-maximum.ensures c.front_fits.ensures (search rules) c.in-Some.ensures refl c.test_far.ensures

pub keep_gone-requires : goal.keep_gone-requires
keep_gone-requires c =
    let n = c.front_fits.ensures.yes (search rules) in
    omega (arith, n.0, n.2, c.in-Some.ensures.sorted.within.size)

pub returns : goal.returns
returns c =
    single_good c.args.hash.now c.args.table.now c.args.w c.args.least c.args.off c.args.work.now c.link_of-count.ensures c.link_of-maximum.ensures c.front_fits.ensures (search rules) c.in-Some.ensures refl (omega arith) c.keep_gone.ensures
