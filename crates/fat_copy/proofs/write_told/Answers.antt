use Rattle.fat_copy.proofs.Gives.{carry_goes, write_done_lem}
use Rattle.fat_walk.proofs.Found.{are_bytes}
use Rattle.fat_copy.proofs.write_told.Goals as goal

pub store-requires-clause-carries : goal.store-requires-clause-carries
store-requires-clause-carries c = carry_goes _ _ c.requires.volume (search are_bytes) _ _ _ _ _ _ c.in_ok-first.ensures

pub returns : goal.returns
returns c = write_done_lem _ _ c.requires.volume (search are_bytes) _ _ _ _ _ _ c.in_ok-first.ensures _ c.args.buf.now _ c.store.ensures
