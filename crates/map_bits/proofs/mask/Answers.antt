use Rattle.map_bits.proofs.Masks.{mask_order, mask_is}
use Rattle.map_bits.proofs.mask.Goals as goal

pub overflow_sub-result : goal.overflow_sub-result
overflow_sub-result c = mask_order _ _ c.requires.lo_le_hi c.requires.hi_bound

pub returns : goal.returns
returns c = mask_is _ _ c.requires.lo_le_hi c.requires.hi_bound
