use native.Mathlib.Omega.{arith}
use Rattle.fat_retrace.proofs.Scans.{going_long}
use Rattle.fat_retrace.proofs.Turns.{make_begin, make_standing, make_size, make_room, make_small, make_on, make_end}
use Rattle.fat_retrace.proofs.Puts.{put_create}
use Rattle.fat_retrace.proofs.make_nodes.Goals as goal

pub loop-b-init : goal.loop-b-init
loop-b-init c = make_begin _ _ _

pub size_at-size-requires : goal.size_at-size-requires
size_at-size-requires c = search make_standing

pub put-k-requires : goal.put-k-requires
put-k-requires c = search (make_room, make_small)

pub overflow_add-b : goal.overflow_add-b
overflow_add-b c = let z = make_size _ _ _ _ _ _ c.requires.volume c.loop-b.invariant c.loop-b-test.true _ c.size_at-size.ensures in omega (arith, z.1)

pub loop-b-smaller : goal.loop-b-smaller
loop-b-smaller c = let z = make_size _ _ _ _ _ _ c.requires.volume c.loop-b.invariant c.loop-b-test.true _ c.size_at-size.ensures in omega (arith, z.0)

pub loop-b-preserved : goal.loop-b-preserved
loop-b-preserved c = search (make_on, put_create)

pub shape_of-list : goal.shape_of-list
shape_of-list c = search going_long

pub returns : goal.returns
returns c = search make_end
