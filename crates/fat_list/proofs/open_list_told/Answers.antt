use Rattle.fat_list.proofs.Lists.{list_done_lem}
use Rattle.fat_walk.proofs.Found.{file_from, are_bytes}
use Rattle.fat_list.proofs.open_list_told.Goals as goal

pub number_chain-requires-clause-chain_from : goal.number_chain-requires-clause-chain_from
number_chain-requires-clause-chain_from c = file_from _ _ c.requires.volume (search are_bytes) _ c.in_ok-judge_list.ensures.file

pub returns : goal.returns
returns c = list_done_lem _ _ _ _ c.in_ok-judge_list.ensures _ _ c.number_chain.ensures
