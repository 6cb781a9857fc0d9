use native.Mathlib.Omega.{arith}
use Rattle.map_bits.proofs.Turns.{part_over, part_under, part_turned, part_none}
use Rattle.map_bits.proofs.turn_part.Goals as goal

pub turned-requires : goal.turned-requires
turned-requires c = record { bits_bound = search part_over; bits_le_word = search part_under }

pub returns-then-lo-hi : goal.returns-then-lo-hi
returns-then-lo-hi c = search part_turned

pub returns-else-lo-hi : goal.returns-else-lo-hi
returns-else-lo-hi c = part_none _ _ _ _ (omega arith)
