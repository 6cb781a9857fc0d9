-- The mathematics of the table's test.
use mathlib.Core.Path.{◌≡◌, refl, sym, ap, subst, ◌∙◌}
use mathlib.Core.List.{List, [], ◌∷◌}
use mathlib.Core.Logic.{◌⊎◌, inl, inr, ⊎_elim}
use Prim.Native.Nat.{ℕ, zero, suc, ◌+◌, ◌<◌, ◌≤◌}
use native.Mathlib.Nat.{eq-or-lt_of_le}
use native.Mathlib.Omega.{arith}
use lib.ListN.{length, get_or, set, replicate, length-set}
use lib.Seq.{get_or-set_same}
use Rattle.fat_node.specs.Node.{NodeAt}
use Rattle.fat_table.specs.Sound.{Starts, IsNode, Covered}
use Rattle.fat_table.specs.Sound.Starts.{begin, after}
use Rattle.fat_ends.specs.Inner.Marks.{sum, SizesAt}

-- ---- tests
pub none_or_some : (x : ℕ) → (x ≡ 0) ⊎ (0 < x)
none_or_some zero = inl refl
none_or_some (suc x) = inr (omega arith)

pub inside : (l : List ℕ) (i : ℕ) → 0 < get_or l i 0 → i < length l
inside [] i h = omega arith
inside (x ∷ l) zero h = omega arith
inside (x ∷ l) (suc i) h = let r = inside l i h in omega arith

-- ---- one place set
pub set_cases : (l : List ℕ) (i v j : ℕ) → (j ≡ i) ⊎ (get_or (set l i v) j 0 ≡ get_or l j 0)
set_cases [] i v j = inr refl
set_cases (x ∷ l) zero v zero = inl refl
set_cases (x ∷ l) zero v (suc j) = inr refl
set_cases (x ∷ l) (suc i) v zero = inr refl
set_cases (x ∷ l) (suc i) v (suc j) = ⊎_elim (λ e. inl (ap suc e)) (λ g. inr g) (set_cases l i v j)

-- ---- totals
pub total_in : (l : List ℕ) (i v : ℕ) → i < length l → get_or l i 0 ≡ 0 → sum (set l i v) ≡ sum l + v
unfolding sum
total_in [] i v h e = omega arith
total_in (x ∷ l) zero v h e = omega arith
total_in (x ∷ l) (suc i) v h e = omega (arith, total_in l i v (omega arith) e)

pub total_zeros : (n : ℕ) → sum (replicate n 0) ≡ 0
unfolding sum
total_zeros zero = refl
total_zeros (suc n) = omega (arith, total_zeros n)

pub zeros_at : (n i : ℕ) → ◌≡◌ {A = ℕ} (get_or (replicate n 0) i 0) 0
zeros_at zero i = refl
zeros_at (suc n) zero = refl
zeros_at (suc n) (suc i) = zeros_at n i

-- ---- a node's size is one number
pub one_size : (t : List ℕ) (n b s s' : ℕ) → NodeAt t n b s → NodeAt t n b s' → s ≡ s'
one_size t n b s s' p q = go (eq-or-lt_of_le p.some) (eq-or-lt_of_le q.some)
  where
    go : (1 ≡ s) ⊎ (1 < s) → (1 ≡ s') ⊎ (1 < s') → s ≡ s'
    go (inl e) (inl f) = omega arith
    go (inl e) (inr f) = absurd (omega (arith, p.one (sym e), q.more f))
    go (inr e) (inl f) = absurd (omega (arith, q.one (sym f), p.more e))
    go (inr e) (inr f) = omega (arith, p.more e, q.more f)

-- ---- the tiling, when it is about to read at b
pub record Tiling (t : List ℕ) (n : ℕ) (w : List ℕ) (b : ℕ) : Type 0 where
  pub long : length w ≡ n
  pub most : b ≤ n
  pub here : Starts t n b
  pub node : (i : ℕ) → 0 < get_or w i 0 → (i < b) × IsNode t n i × NodeAt t n i (get_or w i 0)
  pub begun : (b ≡ 0) ⊎ (0 < get_or w 0 0)
  pub next : (i : ℕ) → 0 < get_or w i 0 → (i + get_or w i 0 ≡ b) ⊎ (0 < get_or w (i + get_or w i 0) 0)
  pub sum : sum w ≡ b

pub tiling_none : (t : List ℕ) (n : ℕ) (w : List ℕ) → length w ≡ n → w ≡ replicate n 0 → Tiling t n w 0
tiling_none t n w l e =
    let z : (i : ℕ) → get_or w i 0 ≡ 0 = λ i. ap (λ (k : List ℕ). get_or k i 0) e ∙ zeros_at n i in
    record {
      long = l;
      most = omega arith;
      here = begin;
      node = λ i h. absurd (omega (arith, z i));
      begun = inl refl;
      next = λ i h. absurd (omega (arith, z i));
      sum = ap sum e ∙ total_zeros n;
    }

module _ (t : List ℕ) (n : ℕ) (w : List ℕ) (b s : ℕ) (k : Tiling t n w b) (h : b < n) (nd : NodeAt t n b s) where
  bare : get_or w b 0 ≡ 0
  bare = ⊎_elim (λ e. e) (λ m. absurd (omega (arith, (k.node b m).0))) (none_or_some (get_or w b 0))

  stored : get_or (set w b s) b 0 ≡ s
  stored = get_or-set_same w b s 0 (omega (arith, k.long))

  marked : (j : ℕ) → 0 < get_or w j 0 → 0 < get_or (set w b s) j 0
  marked j m =
      ⊎_elim (λ q. absurd (omega (arith, bare, ap (λ (x : ℕ). get_or w x 0) q))) (λ e. omega arith) (set_cases w b s j)

  marked_here : 0 < get_or (set w b s) b 0
  marked_here = omega (arith, stored, nd.some)

  tiled_node : (i : ℕ) → 0 < get_or (set w b s) i 0 → (i < b + s) × IsNode t n i × NodeAt t n i (get_or (set w b s) i 0)
  tiled_node i m =
      ⊎_elim
      (λ q. (
        omega (arith, nd.some),
        subst (IsNode t n) (sym q) (k.here, h),
        subst (λ (x : ℕ). NodeAt t n x (get_or (set w b s) x 0)) (sym q) (subst (NodeAt t n b) (sym stored) nd),
      ))
      (λ e.
      let m' : 0 < get_or w i 0 = omega arith in
      (omega (arith, (k.node i m').0), (k.node i m').1, subst (NodeAt t n i) (sym e) (k.node i m').2))
      (set_cases w b s i)

  tiled_next : (i : ℕ) → 0 < get_or (set w b s) i 0 → (i + get_or (set w b s) i 0 ≡ b + s) ⊎ (0 < get_or (set w b s) (i + get_or (set w b s) i 0) 0)
  tiled_next i m =
      ⊎_elim
      (λ q. inl (omega (arith, stored, ap (λ (x : ℕ). get_or (set w b s) x 0) q)))
      (λ e.
      inr (subst (λ (x : ℕ). 0 < get_or (set w b s) (i + x) 0) (sym e)
      (⊎_elim
      (λ q. subst (λ (x : ℕ). 0 < get_or (set w b s) x 0) (sym q) marked_here)
      (λ g. marked _ g)
      (k.next i (omega arith)))))
      (set_cases w b s i)

  pub tiling_more : Tiling t n (set w b s) (b + s)
  tiling_more =
      record {
        long = length-set w b s ∙ k.long;
        most = nd.within;
        here = after k.here nd refl;
        node = tiled_node;
        begun = inr (⊎_elim (λ e. subst (λ (x : ℕ). 0 < get_or (set w b s) x 0) e marked_here) (λ m. marked 0 m) k.begun);
        next = tiled_next;
        sum = omega (arith, total_in w b s (omega (arith, k.long)) bare, k.sum);
      }

module _ (t : List ℕ) (n : ℕ) (w : List ℕ) (k : Tiling t n w n) (some : 0 < n) where
  all_marked : (b : ℕ) → Starts t n b → b < n → 0 < get_or w b 0
  all_marked b begin h = ⊎_elim (λ e. absurd (omega arith)) (λ m. m) k.begun
  all_marked b (after {b = c} {s = s} st nd e) h =
      let m : 0 < get_or w c 0 = all_marked c st (omega (arith, nd.some)) in
      let f : get_or w c 0 ≡ s = one_size t n c _ s (k.node c m).2 nd in
      ⊎_elim
      (λ q. absurd (omega arith))
      (λ g. subst (λ (x : ℕ). 0 < get_or w x 0) (sym (omega arith)) g)
      (k.next c m)

  pub tiled : SizesAt t n w
  tiled = record { node = λ b m. ((k.node b m).1, (k.node b m).2); mark = λ b i. all_marked b i.0 i.1; whole = k.sum }

-- ---- after the tiling
module _ (t : List ℕ) (n : ℕ) (w : List ℕ) (k : SizesAt t n w) where
  pub covered : Covered t n
  covered b i = (get_or w b 0, (k.node b (k.mark b i)).1)
