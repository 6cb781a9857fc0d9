-- The work list behind the test: only places where nodes start are not 0, and hopping from node to node meets them all.
use mathlib.Core.Path.{◌≡◌, refl, sym, ap, ◌∙◌}
use mathlib.Core.List.{List, [], ◌∷◌, ◌++◌}
use mathlib.Core.Logic.{◌⊎◌, inl, inr, ⊎_elim}
use Prim.Native.Nat.{ℕ, ◌+◌, ◌-◌, ◌<◌, ◌≤◌}
use native.Mathlib.Nat.{eq-or-lt_of_le}
use native.Mathlib.Omega.{arith}
use lib.ListN.{length, get_or, set, take, replicate, length-replicate, get_or-append}
use lib.Seq.{get_or-set_same, get_or-append-add, get_or-take, ext_get_or, length-take-le, drop-length}
use borrow.Rule.Slice.PartMut.{mid_of, post_of, put_mid, same_len_mid, Post-is}
use Rattle.fat_node.specs.Node.{NodeAt}
use Rattle.fat_node.proofs.Nodes.{le_or_lt}
use Rattle.fat_table.specs.Sound.{Starts}
use Rattle.fat_ends.specs.Inner.Ends.{AtNodes}
use Rattle.fat_ends.proofs.Laws.{none_or_some, set_cases, zeros_at}
use Rattle.links.proofs.Held.{same_or}
use Rattle.fat_ends.proofs.Fragments.{gap, other}

-- the places below b are 0
abbrev pub ZeroTo : List ℕ → ℕ → Type 0
ZeroTo w b = (x : ℕ) → x < b → get_or w x 0 ≡ 0

-- the place of a node is cleared
pub at_nodes_set : (t : List ℕ) (n : ℕ) (w : List ℕ) (b : ℕ) → b < length w → AtNodes t n w → AtNodes t n (set w b 0)
at_nodes_set t n w b h a x m =
    ⊎_elim
    (λ e. absurd (omega (arith, get_or-set_same w b 0 0 h, ap (λ (y : ℕ). get_or (set w b 0) y 0) e)))
    (λ e. a x (omega arith))
    (set_cases w b 0 x)

-- and with it all places up to the next node are 0
pub zero_on : (t : List ℕ) (n b s : ℕ) (w : List ℕ) → Starts t n b → NodeAt t n b s → b < length w → ZeroTo w b → AtNodes t n w → ZeroTo (set w b 0) (b + s)
zero_on t n b s w st nd h z a x l =
    ⊎_elim
    (λ e. ap (λ (y : ℕ). get_or (set w b 0) y 0) e ∙ get_or-set_same w b 0 0 h)
    (λ f. other w b 0 x f ∙ ⊎_elim (λ y. y) (λ y. absurd (node y (sides f))) (none_or_some (get_or w x 0)))
    (same_or x b)
  where
    sides : (x ≡ b → ⊥) → (x < b) ⊎ (b < x)
    sides f = ⊎_elim (λ q. ⊎_elim (λ e. absurd (f (sym e))) (λ m. inr m) (eq-or-lt_of_le q)) (λ q. inl q) (le_or_lt b x)

    node : 0 < get_or w x 0 → (x < b) ⊎ (b < x) → ⊥
    node y (inl m) = omega (arith, z x m)
    node y (inr m) = omega (arith, gap t n b s x st nd (a x y).0 m)

end_empty : (l : List ℕ) → l ++ [] ≡ l
end_empty [] = refl
end_empty (x ∷ l) = ap (λ (m : List ℕ). x ∷ m) (end_empty l)

-- the rest is cleared place by place: all are 0
pub wiped : (b : ℕ) (w y : List ℕ) → b ≤ length w → ZeroTo w b → y ≡ replicate (length (mid_of b (length w - b) w)) 0 → put_mid b (length w - b) w y ≡ replicate (length w) 0
wiped b w y l z e = ext_get_or 0 (put_mid b k w y) (replicate (length w) 0) (same_len_mid b k w y long ∙ sym (length-replicate (length w) 0)) (λ i m. at i ∙ sym (zeros_at (length w) i))
  where
    k : ℕ
    k = length w - b

    long : length y ≡ length (mid_of b k w)
    long = ap (λ (l : List ℕ). length l) e ∙ length-replicate (length (mid_of b k w)) 0

    front : length (take b w) ≡ b
    front = length-take-le b w l

    none : post_of b k w ≡ []
    none = Post-is b (length w) w l ∙ drop-length w

    behind : (j : ℕ) → get_or (y ++ post_of b k w) j 0 ≡ 0
    behind j = ap (λ (l : List ℕ). get_or (y ++ l) j 0) none ∙ ap (λ (l : List ℕ). get_or l j 0) (end_empty y ∙ e) ∙ zeros_at (length (mid_of b k w)) j

    at : (i : ℕ) → get_or (put_mid b k w y) i 0 ≡ 0
    at i =
        ⊎_elim
        (λ q.
        ap (λ (j : ℕ). get_or (put_mid b k w y) j 0) (omega (arith, front))
        ∙ get_or-append-add (take b w) (y ++ post_of b k w) (i - b) 0
        ∙ behind (i - b))
        (λ q. get_or-append (take b w) (y ++ post_of b k w) 0 i (omega (arith, front)) ∙ get_or-take b w i 0 q ∙ z i q)
        (le_or_lt b i)

-- every place is 0
pub all_zero : (w : List ℕ) (n : ℕ) → length w ≡ n → ZeroTo w n → w ≡ replicate n 0
all_zero w n l z = ext_get_or 0 w (replicate n 0) (l ∙ sym (length-replicate n 0)) (λ i m. z i (omega arith) ∙ sym (zeros_at n i))
