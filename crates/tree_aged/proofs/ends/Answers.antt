-- `tree_aged::ends` meets its contract.
use Rattle.tree_aged.proofs.Walks.{going_begin, going_at, going_back, back_less, going_on, on_place, on_less, going_met, going_end, going_place, going_some}
use Rattle.tree_aged.proofs.ends.Goals as goal

pub loop-x-init : goal.loop-x-init
loop-x-init c = search (going_begin)

pub open_link-z-requires : goal.open_link-z-requires
open_link-z-requires c = search (going_at)

pub bounds-work-i : goal.bounds-work-i
bounds-work-i c = search (going_place)

pub overflow_sub-x : goal.overflow_sub-x
overflow_sub-x c = search (going_some)

pub bounds-work-i-then-z-eq0 : goal.bounds-work-i-then-z-eq0
bounds-work-i-then-z-eq0 c = search (going_place)

pub loop-x-smaller-then-z-eq0 : goal.loop-x-smaller-then-z-eq0
loop-x-smaller-then-z-eq0 c = search (back_less)

pub loop-x-preserved-then-z-eq0 : goal.loop-x-preserved-then-z-eq0
loop-x-preserved-then-z-eq0 c = search (going_back)

pub bounds-work-j : goal.bounds-work-j
bounds-work-j c = search (on_place)

pub returns-then-work-j-ne0 : goal.returns-then-work-j-ne0
returns-then-work-j-ne0 c = search (going_met)

pub bounds-work-j-else-z-eq0 : goal.bounds-work-j-else-z-eq0
bounds-work-j-else-z-eq0 c = search (on_place)

pub loop-x-smaller : goal.loop-x-smaller
loop-x-smaller c = search (on_less)

pub loop-x-preserved : goal.loop-x-preserved
loop-x-preserved c = search (going_on)

pub returns : goal.returns
returns c = search (going_end)
