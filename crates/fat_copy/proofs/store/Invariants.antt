use Rattle.fat_copy.proofs.Carries.{Writing}
use Rattle.fat_judge.specs.Inner.Stretches.{CarriesAt}
use Rattle.fat_node.specs.Node.{Run}
use mathlib.Core.List.{List}
use lib.ListN.{length}
use Prim.Native.Nat.{ℕ, ◌-◌}
use Rattle.fat_copy.proofs.store.Given as goal

abbrev pub invariant-loop-done : goal.invariant-loop-done
invariant-loop-done l = ((c : List Run) (pos : ℕ) → CarriesAt l.n l.table l.block_len c pos (length l.buf) l.index l.from → Writing c l.buf l.block_len pos l.initial.data l.data l.i l.f l.done)

abbrev pub decreases-loop-done : goal.decreases-loop-done
decreases-loop-done l = l.len - l.done
