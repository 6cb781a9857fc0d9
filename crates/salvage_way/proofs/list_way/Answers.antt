-- `salvage_way::list_way` meets its contract.
use native.Mathlib.Omega.{arith}
use Rattle.salvage_way.proofs.Climbs.{list_begin, list_in, list_on, list_end}
use Rattle.salvage_way.proofs.list_way.Goals as goal

pub loop-place-init : goal.loop-place-init
loop-place-init c = list_begin _ _ _

pub parent_of-x-requires : goal.parent_of-x-requires
parent_of-x-requires c = list_in _ _ _ _ _ (omega arith) c.loop-place.invariant (omega arith)

pub loop-place-preserved : goal.loop-place-preserved
loop-place-preserved c = list_on _ _ _ _ _ (omega arith) c.loop-place.invariant (omega arith) _ c.parent_of-x.ensures

pub returns : goal.returns
returns c = list_end _ _ _ _ _ (omega arith) c.loop-place.invariant (omega arith)
