use Rattle.map_bits.proofs.Ones.{one_turnable, one_turned}
use Rattle.map_bits.proofs.turn_one.Goals as goal

pub turn_part-requires : goal.turn_part-requires
turn_part-requires c = let r = one_turnable _ _ _ c.requires in record { hi_bound = r.0; turnable = r.1 }

pub returns : goal.returns
returns c = search one_turned
