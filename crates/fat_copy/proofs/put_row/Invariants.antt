use Rattle.fat_copy.proofs.Puts.{Putting}
use Prim.Native.Nat.{◌-◌}
use Rattle.fat_copy.proofs.put_row.Given as goal

abbrev pub invariant-loop-i : goal.invariant-loop-i
invariant-loop-i l = Putting l.buf l.initial.data l.data l.at l.i

abbrev pub decreases-loop-i : goal.decreases-loop-i
decreases-loop-i l = l.len - l.i
