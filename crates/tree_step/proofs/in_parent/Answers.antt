use native.Mathlib.Omega.{arith}
use Rattle.tree_step.proofs.Seats.{up_fits, list_ends, list_there, list_seat}
use Rattle.tree_step.proofs.in_parent.Goals as goal

pub link_of-first-requires : goal.link_of-first-requires
link_of-first-requires c = (up_fits c.requires.0 c.link_of-up.result 0 c.link_of-up.ensures, omega (arith, c.requires.1))

pub find_before-requires : goal.find_before-requires
find_before-requires c = (list_ends c.requires.0 c.link_of-up.result c.link_of-first.result c.link_of-up.ensures c.link_of-first.ensures, omega (arith, c.requires.2), list_there c.requires.0 c.link_of-up.result c.link_of-first.result c.link_of-up.ensures c.link_of-first.ensures)

pub returns : goal.returns
returns c = list_seat c.requires.0 c.link_of-up.result c.link_of-first.result c.link_of-up.ensures c.link_of-first.ensures c.find_before.result c.link_of.result (omega (arith, c.requires.0.inside)) c.find_before.ensures c.link_of.ensures
