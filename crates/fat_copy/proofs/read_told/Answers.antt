use Rattle.fat_copy.proofs.Gives.{carry_goes, read_done_lem}
use Rattle.fat_walk.proofs.Found.{are_bytes}
use Rattle.fat_copy.proofs.read_told.Goals as goal

pub fetch-requires-clause-carries : goal.fetch-requires-clause-carries
fetch-requires-clause-carries c = carry_goes _ _ c.requires.volume (search are_bytes) _ _ _ _ _ _ c.in_ok-first.ensures

pub returns : goal.returns
returns c = read_done_lem _ _ c.requires.volume (search are_bytes) _ _ _ _ _ _ c.in_ok-first.ensures _ _ _ c.fetch.ensures
