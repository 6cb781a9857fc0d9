use native.Mathlib.Omega.{arith}
use Rattle.map_bits.proofs.Counts.{part_count, part_empty}
use Rattle.map_bits.proofs.count_part.Goals as goal

pub returns-then-lo-hi : goal.returns-then-lo-hi
returns-then-lo-hi c = part_count _ _ _ _ _ c.requires.lo_le_hi c.requires.hi_bound c.ones_in.ensures

pub returns-else-lo-hi : goal.returns-else-lo-hi
returns-else-lo-hi c = part_empty _ _ _ _ (omega arith)
