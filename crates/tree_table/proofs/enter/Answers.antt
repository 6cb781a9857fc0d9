use Rattle.tree_table.proofs.enter.Goals as goal

pub returns : goal.returns
returns c = cc
