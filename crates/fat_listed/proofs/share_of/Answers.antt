use native.Mathlib.Omega.{arith}
use Rattle.fat_listed.proofs.Shares.{share_few, share_says}
use Rattle.fat_listed.proofs.share_of.Goals as goal

pub overflow_mul-at : goal.overflow_mul-at
overflow_mul-at c = omega (arith, share_few c.args.b c.args.block_len c.requires.0 c.requires.1)

pub overflow_add-at : goal.overflow_add-at
overflow_add-at c = omega (arith, share_few c.args.b c.args.block_len c.requires.0 c.requires.1, c.requires.1, c.requires.2)

pub returns : goal.returns
returns c = share_says _ _ _ _ _ c.requires.2 c.min-len.ensures
