-- Where no entry is newer than itself, every entry has an age: how many links the longest way from it has.
use mathlib.Core.Path.{◌≡◌, refl, sym, ap, ◌∙◌, subst, subst⁻¹}
use mathlib.Core.List.{List, [], ◌∷◌}
use mathlib.Core.Logic.{◌⊎◌, inl, inr, ⊎_elim, ◌≢◌}
use Prim.Native.Nat.{ℕ, zero, suc, ◌≤◌, ◌<◌}
use native.Mathlib.Omega.{arith}
use lib.ListN.{length}
use Rattle.links.specs.Links.{◌∈◌, Distinct}
use Rattle.links.proofs.Laws.{at_most}
use Rattle.links.proofs.Held.{same_or}
use Rattle.tree_aged.specs.Age.{Names, Newer, one, more}

-- ---- the larger of two

abbrev larger : ℕ → ℕ → ℕ
larger zero b = b
larger (suc a) zero = suc a
larger (suc a) (suc b) = suc (larger a b)

larger_left : (a b : ℕ) → a ≤ larger a b
larger_left zero b = omega arith
larger_left (suc a) zero = omega arith
larger_left (suc a) (suc b) = let r : a ≤ larger a b = larger_left a b in omega arith

larger_right : (a b : ℕ) → b ≤ larger a b
larger_right zero b = omega arith
larger_right (suc a) zero = omega arith
larger_right (suc a) (suc b) = let r : b ≤ larger a b = larger_right a b in omega arith

larger_which : (a b : ℕ) → (larger a b ≡ a) ⊎ (larger a b ≡ b)
larger_which zero b = inr refl
larger_which (suc a) zero = inl refl
larger_which (suc a) (suc b) = ⊎_elim (λ e. inl (ap suc e)) (λ e. inr (ap suc e)) (larger_which a b)

-- one more than the height of what a link names; 0 where it names none
abbrev up : (ℕ → ℕ) → ℕ → ℕ
up f zero = 0
up f (suc z) = suc (f (suc z))

up_some : (f : ℕ → ℕ) (z : ℕ) → 0 < z → up f z ≡ suc (f z)
up_some f zero p = absurd (omega (arith, p))
up_some f (suc z) p = refl

module _ (coll next : ℕ → ℕ) where
  -- the links of the longest way from x, k at most
  abbrev pub height : ℕ → ℕ → ℕ
  height zero x = 0
  height (suc k) x = larger (up (height k) (coll x)) (up (height k) (next x))

  up_few : (k z : ℕ) → ((y : ℕ) → height k y ≤ k) → up (height k) z ≤ suc k
  up_few k zero f = omega arith
  up_few k (suc z) f = let a : height k (suc z) ≤ k = f (suc z) in omega arith

  few : (k x : ℕ) → height k x ≤ k
  few zero x = omega arith
  few (suc k) x =
      let a = up_few k (coll x) (few k) in
      let b = up_few k (next x) (few k) in
      ⊎_elim (λ e. omega (arith, a, e)) (λ e. omega (arith, b, e)) (larger_which (up (height k) (coll x)) (up (height k) (next x)))

  -- below the most it is the longest
  stable_up : (k z : ℕ) → ((y : ℕ) → height k y < k → height (suc k) y ≡ height k y) → up (height k) z < suc k → up (height (suc k)) z ≡ up (height k) z
  stable_up k zero f h = refl
  stable_up k (suc z) f h = ap suc (f (suc z) (omega (arith, h)))

  stable : (k x : ℕ) → height k x < k → height (suc k) x ≡ height k x
  stable zero x h = absurd (omega (arith, h))
  stable (suc k) x h =
      let a = stable_up k (coll x) (stable k) (omega (arith, larger_left (up (height k) (coll x)) (up (height k) (next x)), h)) in
      let b = stable_up k (next x) (stable k) (omega (arith, larger_right (up (height k) (coll x)) (up (height k) (next x)), h)) in
      λ i. larger (a i) (b i)

  module _ (count : ℕ) (L : ℕ → Type 0) (low : (x : ℕ) → L x → x < count) (cl : (x : ℕ) → L x → 0 < coll x → L (coll x))
      (nl : (x : ℕ) → L x → 0 < next x → L (next x)) (none : (x : ℕ) → L x → Newer coll next x x → ⊥) where
    -- a way by links
    data Way : ℕ → List ℕ → Type 0 where
      end : (x : ℕ) → L x → Way x (x ∷ [])
      step : (x y : ℕ) (xs : List ℕ) → L x → Names coll next x y → Way y xs → Way x (x ∷ xs)

    way_newer : {y : ℕ} {xs : List ℕ} → Way y xs → (z : ℕ) → z ∈ xs → (z ≡ y) ⊎ Newer coll next y z
    way_newer (end x l) z (inr m) = elim m [ ]
    way_newer (end x l) z (inl e) = inl e
    way_newer (step x y xs l n w) z (inl e) = inl e
    way_newer (step x y xs l n w) z (inr m) =
        inr (⊎_elim (λ e. one x z (subst⁻¹ (λ v. Names coll next x v) e n)) (λ r. more x y z n r) (way_newer w z m))

    way_distinct : {x : ℕ} {xs : List ℕ} → Way x xs → Distinct xs
    way_distinct (end x l) = ((λ m. m), tt)
    way_distinct (step x y xs l n w) = (
      (λ m. none x l (⊎_elim (λ e. one x x (subst⁻¹ (λ v. Names coll next x v) e n)) (λ r. more x y x n r) (way_newer w x m))),
      way_distinct w,
    )

    way_low : {x : ℕ} {xs : List ℕ} → Way x xs → (z : ℕ) → z ∈ xs → z < count
    way_low (end x l) z (inr m) = elim m [ ]
    way_low (end x l) z (inl e) = subst⁻¹ (λ (v : ℕ). v < count) e (low x l)
    way_low (step x y xs l n w) z (inl e) = subst⁻¹ (λ (v : ℕ). v < count) e (low x l)
    way_low (step x y xs l n w) z (inr m) = way_low w z m

    -- a height that is the most is a way that long
    Long : ℕ → ℕ → Type 0
    Long k x = (xs : List ℕ) × Way x xs × (length xs ≡ suc k)

    over : (k x z : ℕ) → ((y : ℕ) → L y → height k y ≡ k → Long k y) → L x → (0 < z → Names coll next x z × L z) → up (height k) z ≡ suc k → Long (suc k) x
    unfolding Long
    over k x zero f l n e = absurd (omega (arith, e))
    over k x (suc z) f l n e =
        let q = n (omega arith) in
        let r = f (suc z) q.1 (omega (arith, e)) in
        (x ∷ r.0, step x (suc z) r.0 l q.0 r.1, ap suc r.2)

    longest : (k x : ℕ) → L x → height k x ≡ k → Long k x
    unfolding Long
    longest zero x l e = (x ∷ [], end x l, refl)
    longest (suc k) x l e =
        ⊎_elim
        (λ q. over k x (coll x) (longest k) l (λ p. ((p, inl refl), cl x l p)) (sym q ∙ e))
        (λ q. over k x (next x) (longest k) l (λ p. ((p, inr refl), nl x l p)) (sym q ∙ e))
        (larger_which (up (height k) (coll x)) (up (height k) (next x)))

    not_most : (x : ℕ) → L x → height count x < count
    unfolding Long
    not_most x l =
        ⊎_elim
        (λ (e : height count x ≡ count).
        let r = longest count x l e in
        let a : length r.0 ≤ count = at_most count r.0 (way_distinct r.1) (way_low r.1) in
        absurd (omega (arith, a, r.2)))
        (λ (n : height count x ≢ count). let a : height count x ≤ count = few count x in omega (arith, a, n))
        (same_or (height count x) count)

    -- an age falls along each link
    falls : (x z : ℕ) → L z → 0 < z → up (height count) z ≤ height (suc count) x → height (suc count) z < height (suc count) x
    falls x z l p h = omega (arith, stable count z (not_most z l), up_some (height count) z p, h)

    pub by_coll : (x : ℕ) → L x → 0 < coll x → height (suc count) (coll x) < height (suc count) x
    by_coll x l p = falls x (coll x) (cl x l p) p (larger_left (up (height count) (coll x)) (up (height count) (next x)))

    pub by_next : (x : ℕ) → L x → 0 < next x → height (suc count) (next x) < height (suc count) x
    by_next x l p = falls x (next x) (nl x l p) p (larger_right (up (height count) (coll x)) (up (height count) (next x)))

  pub young : (k x : ℕ) → height k x < suc k
  young k x = let a : height k x ≤ k = few k x in omega arith
