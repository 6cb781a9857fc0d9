use Rattle.tree_test.proofs.Cases.{in_order, sizes_first, disordered}
use Rattle.tree_test.proofs.open_gate.Goals as goal

pub returns-then-well_formed : goal.returns-then-well_formed
returns-then-well_formed c = search (in_order)

pub returns-then-misfit : goal.returns-then-misfit
returns-then-misfit c = search (sizes_first)

pub returns : goal.returns
returns c = search (disordered)
