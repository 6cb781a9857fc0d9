-- `salvage_shared::lay_run` meets its contract.
use mathlib.Core.List.{[], ◌∷◌}
use Prim.Native.Nat.{◌-◌}
use Rattle.fat_node.specs.Node.{run}
use Rattle.salvage_shared.specs.Inner.Says.{Added}
use Rattle.salvage_shared.proofs.lay_run.Given as goal

abbrev pub invariant-loop-x : goal.invariant-loop-x
invariant-loop-x l = Added l.initial.work l.work (run l.b (l.x - l.b) ∷ [])
