use mathlib.Core.Path.{refl, ap}
use native.Mathlib.Omega.{arith}
use borrow.Author.Rules.{rules}
use lib.ListN.{length}
use Rattle.tree_table.proofs.Chain.{ends_short, goes, fits_at, stops}
use Rattle.tree_table.proofs.count_list.Goals as goal

pub overflow_add-n : goal.overflow_add-n
overflow_add-n c = omega (arith, ends_short c.requires.0, (goes c.loop-x.invariant.0 (omega arith) refl).less)

pub link_of-x-requires : goal.link_of-x-requires
link_of-x-requires c = (fits_at c.loop-x.invariant.0 (omega arith), search rules)

pub loop-x-smaller : goal.loop-x-smaller
loop-x-smaller c = omega (arith, (goes c.loop-x.invariant.0 (omega arith) c.link_of-x.ensures).less)

pub loop-x-preserved : goal.loop-x-preserved
loop-x-preserved c =
    let g = goes c.loop-x.invariant.0 (omega arith) c.link_of-x.ensures in
    (g.rest, omega (arith, g.less, c.loop-x.invariant.1))

pub returns : goal.returns
returns c = omega (arith, c.loop-x.invariant.1, ap length (stops c.args.table.now c.args.w c.args.at c.loop-x.x (omega arith)))
