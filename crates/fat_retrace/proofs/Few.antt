-- How many calls a history has.
use mathlib.Core.Path.{◌≡◌, refl, ap}
use mathlib.Core.List.{List, [], ◌∷◌, ◌++◌}
use Prim.Native.Nat.{ℕ, suc, ◌+◌, ◌*◌, ◌≤◌}
use native.Mathlib.Omega.{arith}
use lib.ListN.{length, length-append}
use Rattle.fat_node.specs.Entry.{Bytes}
use Rattle.fat_node.specs.Node.{Run}
use Rattle.fat_table.specs.Chain.{free_at}
use Rattle.fat_table.specs.Layout.{joined}
use Rattle.fat_table.specs.Counts.{nodes}
use Rattle.fat_table.proofs.Layouts.{length_perm, end_after}
use Rattle.fat_table.proofs.Files.{Whole}
use Rattle.fat_retrace.specs.History.{delete, makes, gives, joins, joins_all, files_in, history}
use Rattle.fat_retrace.proofs.Found.{Read, read}

pub length_makes : (l : List Run) → length (makes l) ≡ length l
length_makes [] = refl
length_makes (r ∷ l) = ap suc (length_makes l)

pub length_gives : (l : List Run) → length (gives l) ≡ length l
length_gives [] = refl
length_gives (r ∷ l) = omega (arith, length-append (gives l) (delete r.start ∷ []), length_gives l)

-- one more than its nodes for a file of two nodes or more, else none
length_joins : (f : List Run) → 2 * length (joins f) ≤ 3 * length f
length_joins [] = omega arith
length_joins (r ∷ []) = omega arith
length_joins (r ∷ s ∷ l) = simp length-append (omega (arith, length_gives l))

length_joins_all : (fs : List (List Run)) → 2 * length (joins_all fs) ≤ 3 * length (joined fs)
length_joins_all [] = omega arith
length_joins_all (f ∷ fs) =
    omega (arith, length-append (joins f) (joins_all fs), length-append f (joined fs), length_joins f, length_joins_all fs)

-- the three parts of a history, and five calls for every two nodes at most
pub record Short (n : ℕ) (t : Bytes) : Type 0 where
  pub sum : length (history n t) ≡ length (nodes n t) + (length (joins_all (files_in n t (nodes n t))) + length (free_at n t))
  pub half : 2 * length (history n t) ≤ 5 * length (nodes n t)
  pub room : length (nodes n t) ≤ n

pub short : (n : ℕ) (t : Bytes) → Whole n t → Short n t
unfolding history
short n t w =
    let r : Read n t = read n t w in
    let T : List Run = nodes n t in
    let F : List (List Run) = files_in n t T in
    let e : length (makes T ++ (joins_all F ++ gives (free_at n t))) ≡ length T + (length (joins_all F) + length (free_at n t)) =
    omega (
      arith,
      length-append (makes T) (joins_all F ++ gives (free_at n t)),
      length-append (joins_all F) (gives (free_at n t)),
      length_makes T,
      length_gives (free_at n t),
    ) in
    record {
      sum = e;
      half = omega (arith, e, length_joins_all F, length_perm r.perm, length-append (free_at n t) (joined F));
      room = omega (arith, end_after 0 T n r.cover);
    }
