use Rattle.tree_key.proofs.SaveExtKey.new.Goals as goal

pub returns : goal.returns
returns c = cc
