-- The blocks of runs, counted, and a list written in two parts.
use mathlib.Core.Path.{◌≡◌, refl, ap, ◌∙◌}
use mathlib.Core.List.{List, [], ◌∷◌, ◌++◌}
use Prim.Native.Nat.{ℕ, zero, suc, ◌+◌}
use native.Mathlib.Omega.{arith}
use lib.ListN.{length, set, length-append}
use lib.Seq.{sets}
use Rattle.fat_node.specs.Node.{Run}
use Rattle.fat_table.specs.Chain.{total}
use Rattle.fat_promises.specs.Blocks.{blocks_from, blocks_of}

pub length_from : (s b : ℕ) → length (blocks_from s b) ≡ s
length_from zero b = refl
length_from (suc s) b = ap suc (length_from s (suc b))

pub length_blocks : (l : List Run) → length (blocks_of l) ≡ total l
length_blocks [] = refl
length_blocks (r ∷ l) = omega (arith, length-append (blocks_from r.size r.start) (blocks_of l), length_from r.size r.start, length_blocks l)

pub sets_append : (xs ys l : List ℕ) (i : ℕ) → sets l i (xs ++ ys) ≡ sets (sets l i xs) (i + length xs) ys
sets_append [] ys l i = ap (λ (j : ℕ). sets l j ys) (omega arith)
sets_append (x ∷ xs) ys l i =
    let e : suc i + length xs ≡ i + suc (length xs) = omega arith in
    sets_append xs ys (set l i x) (suc i) ∙ ap (λ (j : ℕ). sets (sets (set l i x) (suc i) xs) j ys) e
