use native.Mathlib.Omega.{arith}
use Rattle.fat_retrace.proofs.Scans.{going_long}
use Rattle.fat_retrace.proofs.Turns.{join_begin, join_node, join_standing, join_size, join_fits, join_on, join_end}
use Rattle.fat_retrace.proofs.join_files.Goals as goal

pub loop-b-init : goal.loop-b-init
loop-b-init c = join_begin _ _ _ _

pub join_at-at-requires : goal.join_at-at-requires
join_at-at-requires c = search (join_node, join_fits)

pub size_at-b-requires : goal.size_at-b-requires
size_at-b-requires c = search join_standing

pub overflow_add-b : goal.overflow_add-b
overflow_add-b c = let z = join_size _ _ _ _ _ _ _ c.requires.volume c.loop-b.invariant c.loop-b-test.true _ c.size_at-b.ensures in omega (arith, z.1)

pub loop-b-smaller : goal.loop-b-smaller
loop-b-smaller c = let z = join_size _ _ _ _ _ _ _ c.requires.volume c.loop-b.invariant c.loop-b-test.true _ c.size_at-b.ensures in omega (arith, z.0)

pub loop-b-preserved : goal.loop-b-preserved
loop-b-preserved c = search join_on

pub shape_of-list : goal.shape_of-list
shape_of-list c = search going_long

pub returns : goal.returns
returns c = search join_end
