-- `salvage_way::count_way` meets its contract.
use Prim.Native.Nat.{◌-◌}
use Rattle.salvage_way.proofs.Climbs.{Counting}
use Rattle.salvage_way.proofs.count_way.Given as goal

abbrev pub invariant-loop : goal.invariant-loop
invariant-loop l = Counting l.table l.n l.initial.work l.work l.inode l.x (l.n - l.counter) l.count
