use Rattle.map_bits.proofs.Masks.{cut_ones}
use Rattle.map_bits.proofs.ones_in.Goals as goal

pub returns : goal.returns
returns c = cut_ones _ _ c.requires.lo_le_hi c.requires.hi_bound _
