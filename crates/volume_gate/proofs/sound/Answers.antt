use Rattle.volume_gate.proofs.Cases.{blocks_broken, tree_sound}
use borrow.Author.Rules.{rules}
use Rattle.volume_gate.proofs.sound.Goals as goal

pub returns-in_err-gate : goal.returns-in_err-gate
returns-in_err-gate c = blocks_broken _ _ _ _ c.requires.fit _ _ c.requires.file_table_in_bounds _ c.in_err-gate.ensures _ (search rules)

pub returns : goal.returns
returns c = tree_sound _ _ _ _ c.requires.fit _ _ c.requires.file_table_in_bounds _ c.in_ok-gate.ensures _ _ (search rules) _ c.gate-2.ensures
