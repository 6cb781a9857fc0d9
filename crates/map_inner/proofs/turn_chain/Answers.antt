use native.Mathlib.Omega.{arith}
use borrow.Author.Rules.{rules}
use Rattle.map_inner.proofs.Walks.{walk_begin, walk_end, walk_some, walk_standing, walk_room, walk_fits, walk_turnable, walk_less, walk_next}
use Rattle.map_inner.proofs.turn_chain.Goals as goal

pub loop-i-init : goal.loop-i-init
loop-i-init c = walk_begin _ _ _ _ _ _ c.requires

pub overflow_sub-b : goal.overflow_sub-b
overflow_sub-b c = walk_some _ _ _ _ _ _ _ _ c.loop-i.invariant c.loop-i-test.true

pub size_at-size-requires : goal.size_at-size-requires
size_at-size-requires c = walk_standing _ _ _ _ _ _ _ _ c.loop-i.invariant c.loop-i-test.true

pub overflow_add-b : goal.overflow_add-b
overflow_add-b c = omega (arith, walk_fits _ _ _ _ _ _ _ _ c.loop-i.invariant c.loop-i-test.true _ c.size_at-size.ensures)

pub turn-requires : goal.turn-requires
turn-requires c = walk_turnable _ _ _ _ _ _ _ _ c.loop-i.invariant c.loop-i-test.true _ c.size_at-size.ensures

pub next_of-i-requires : goal.next_of-i-requires
next_of-i-requires c = walk_room _ _ _ _ _ _ _ _ c.loop-i.invariant c.loop-i-test.true

pub loop-i-smaller : goal.loop-i-smaller
loop-i-smaller c = walk_less _ _ _ _ _ _ _ _ c.loop-i.invariant c.loop-i-test.true _ c.next_of-i.ensures

pub loop-i-preserved : goal.loop-i-preserved
loop-i-preserved c = walk_next _ _ _ _ _ _ _ _ c.loop-i.invariant c.loop-i-test.true _ c.size_at-size.ensures _ (search rules) c.turn.ensures _ c.next_of-i.ensures

pub shape_of-map : goal.shape_of-map
shape_of-map c = c.loop-i.invariant.long

pub returns : goal.returns
returns c = walk_end _ _ _ _ _ _ _ _ c.loop-i.invariant c.loop-i-test.false
