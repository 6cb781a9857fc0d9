use Rattle.volume_gate.proofs.Cases.{cleared_all}
use borrow.Author.Rules.{rules}
use Rattle.volume_gate.proofs.verdict.Goals as goal

pub returns : goal.returns
returns c = record { sound = c.sound-told.ensures; clear = search (cleared_all, rules) }
