use Rattle.fat_apply.proofs.Copies.{move_begin, move_to, move_fits, move_next, move_end}
use Rattle.fat_apply.proofs.step.move_blocks.Goals as goal

pub loop-i-init : goal.loop-i-init
loop-i-init c = move_begin _ _ _ _

pub overflow_mul-m : goal.overflow_mul-m
overflow_mul-m c = move_to _ _ _ _ _ _ _ c.loop-i.invariant c.requires.fact c.requires.movable c.loop-i-test.true

pub copy_block-requires : goal.copy_block-requires
copy_block-requires c = move_fits _ _ _ _ _ _ _ c.loop-i.invariant c.requires.fact c.requires.movable c.loop-i-test.true

pub loop-i-preserved : goal.loop-i-preserved
loop-i-preserved c = move_next _ _ _ _ _ _ _ c.loop-i.invariant c.requires.fact c.requires.movable c.loop-i-test.true _ c.copy_block.ensures

pub returns : goal.returns
returns c = move_end _ _ _ _ _ _ c.loop-i.invariant c.loop-i-test.false
