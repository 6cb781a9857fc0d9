use native.Mathlib.Omega.{arith}
use borrow.Author.Rules.{rules}
use Rattle.tree_table.proofs.Chain.{goes, fits_at, write_begin, write_fits, write_step, write_end}
use Rattle.tree_table.proofs.write_list.Goals as goal

pub loop-x-init : goal.loop-x-init
loop-x-init c = write_begin c.requires.0 c.requires.2

pub bounds-list-i : goal.bounds-list-i
bounds-list-i c = write_fits c.loop-x.invariant (omega arith)

pub overflow_add-i : goal.overflow_add-i
overflow_add-i c = omega (arith, write_fits c.loop-x.invariant (omega arith))

pub link_of-x-requires : goal.link_of-x-requires
link_of-x-requires c = (fits_at c.loop-x.invariant.on (omega arith), search rules)

pub loop-x-smaller : goal.loop-x-smaller
loop-x-smaller c = omega (arith, (goes c.loop-x.invariant.on (omega arith) c.link_of-x.ensures).less)

pub loop-x-preserved : goal.loop-x-preserved
loop-x-preserved c = write_step c.loop-x.invariant (omega arith) c.link_of-x.ensures

pub returns : goal.returns
returns c = write_end c.loop-x.invariant (omega arith)
