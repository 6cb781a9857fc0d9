use Prim.Native.Nat.{◌-◌}
use lib.ListN.{length}
use Rattle.fat_table.specs.Chain.{chain_at}
use Rattle.fat_retrace.proofs.Gives.{Giving}
use Rattle.fat_retrace.proofs.give_up.Given as goal

abbrev pub invariant-loop-i : goal.invariant-loop-i
invariant-loop-i l = Giving (chain_at l.table l.n l.first) l.k l.initial.list l.i l.at l.blocks l.list

abbrev pub decreases-loop-i : goal.decreases-loop-i
decreases-loop-i l = length l.initial.list - l.at
