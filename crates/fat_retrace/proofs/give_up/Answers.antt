use native.Mathlib.Omega.{arith}
use Rattle.fat_retrace.proofs.Gives.{giving_begin, giving_standing, giving_room, giving_place, giving_small, giving_sum, giving_less, giving_long, giving_on, giving_end}
use Rattle.fat_retrace.proofs.Puts.{put_delete}
use Rattle.fat_retrace.proofs.give_up.Goals as goal

pub loop-i-init : goal.loop-i-init
loop-i-init c = giving_begin _ _ _ _ c.last_index-i.ensures

pub put-at-requires : goal.put-at-requires
put-at-requires c = search (giving_place, giving_small)

pub size_at-blocks-requires : goal.size_at-blocks-requires
size_at-blocks-requires c = search giving_standing

pub overflow_add-blocks : goal.overflow_add-blocks
overflow_add-blocks c = let z = giving_sum _ _ _ _ _ _ _ _ _ c.requires.chain_from.chain c.loop-i.invariant c.loop-i-test.true _ c.size_at-blocks.ensures in omega (arith, z)

pub prev_of-i-requires : goal.prev_of-i-requires
prev_of-i-requires c = search giving_room

pub loop-i-smaller : goal.loop-i-smaller
loop-i-smaller c = search giving_less

pub loop-i-preserved : goal.loop-i-preserved
loop-i-preserved c = search (giving_on, put_delete)

pub shape_of-list : goal.shape_of-list
shape_of-list c = search giving_long

pub returns : goal.returns
returns c = search giving_end
