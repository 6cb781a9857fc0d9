-- `salvage_shared::judge_all` meets its contract.
use Rattle.salvage_shared.proofs.Loops.{judging_end}
use Rattle.salvage_shared.proofs.judge_all.Goals as goal

pub returns : goal.returns
returns c = search (judging_end)
