-- The laws of threaded lists: one list for a start, no entry twice, a walk computes it, entries below k are at most k, and what writes to link words do.
use mathlib.Core.Path.{◌≡◌, refl, sym, ap, ◌∙◌, subst}
use mathlib.Core.List.{List, [], ◌∷◌, ◌++◌}
use mathlib.Core.Logic.{◌⊎◌, inl, inr, ⊎_elim, ◌≢◌, ◌↔◌}
use mathlib.Core.Bool.{Bool, true, false}
use Prim.Native.Nat.{ℕ, zero, suc, ◌+◌, ◌≤◌, ◌<◌}
use native.Mathlib.Omega.{arith}
use lib.Dec.{eqb}
use borrow.Author.Tests.{eqb-true, eqb-false}
use lib.ListN.{length}
use Rattle.links.specs.Links.{◌∈◌, Distinct, Links}
use Rattle.links.specs.Change.{pick, without, walk}

-- a statement about the test `eqb a b`, by cases
pub by_eq : (a b : ℕ) (P : Bool → Type 0) → (a ≡ b → P true) → (a ≢ b → P false) → P (eqb a b)
by_eq a b P f g = go (eqb a b) refl
  where
    go : (t : Bool) → eqb a b ≡ t → P t
    go true e = f (eqb-true a b e)
    go false e = g (eqb-false a b e)

-- ---- taking out

pub in_without : (x : ℕ) (xs : List ℕ) (y : ℕ) → y ∈ without x xs → y ∈ xs
in_without x [] y = λ h. h
in_without x (a ∷ xs) y =
    by_eq a x (λ t. y ∈ pick t xs (a ∷ without x xs) → y ∈ (a ∷ xs)) (λ e h. inr h)
    (λ n. ⊎_elim (λ (e : y ≡ a). inl e) (λ (h : y ∈ without x xs). inr (in_without x xs y h)))

pub not_without : (x : ℕ) (xs : List ℕ) → Distinct xs → x ∈ without x xs → ⊥
not_without x [] d = λ h. h
not_without x (a ∷ xs) d =
    by_eq a x (λ t. x ∈ pick t xs (a ∷ without x xs) → ⊥) (λ e h. d.0 (subst (λ z. z ∈ xs) (sym e) h))
    (λ n. ⊎_elim (λ (e : x ≡ a). n (sym e)) (λ (h : x ∈ without x xs). not_without x xs d.1 h))

pub still_in : (x : ℕ) (xs : List ℕ) (y : ℕ) → y ≢ x → y ∈ xs → y ∈ without x xs
still_in x [] y n = λ h. h
still_in x (a ∷ xs) y n =
    by_eq a x (λ t. y ∈ (a ∷ xs) → y ∈ pick t xs (a ∷ without x xs)) (λ e. ⊎_elim (λ (q : y ≡ a). absurd (n (q ∙ e))) (λ (h : y ∈ xs). h))
    (λ m. ⊎_elim (λ (e : y ≡ a). inl e) (λ (h : y ∈ xs). inr (still_in x xs y n h)))

pub distinct_without : (x : ℕ) (xs : List ℕ) → Distinct xs → Distinct (without x xs)
distinct_without x [] d = d
distinct_without x (a ∷ xs) d =
    by_eq a x (λ t. Distinct (pick t xs (a ∷ without x xs))) (λ e. d.1)
    (λ n. (λ (h : a ∈ without x xs). d.0 (in_without x xs a h), distinct_without x xs d.1))

pub length_without : (x : ℕ) (xs : List ℕ) → length xs ≤ suc (length (without x xs))
length_without x [] = omega arith
length_without x (a ∷ xs) =
    let h : length xs ≤ suc (length (without x xs)) = length_without x xs in
    by_eq a x (λ t. suc (length xs) ≤ suc (length (pick t xs (a ∷ without x xs)))) (λ e. omega arith) (λ n. omega arith)

-- distinct numbers below k: at most k
pub at_most : (k : ℕ) (xs : List ℕ) → Distinct xs → ((y : ℕ) → y ∈ xs → y < k) → length xs ≤ k
at_most zero [] d b = omega arith
at_most zero (x ∷ xs) d b = let h : x < 0 = b x (inl refl) in omega arith
at_most (suc k) xs d b =
    let h : length (without k xs) ≤ k =
    at_most k (without k xs) (distinct_without k xs d)
    (λ y m.
    let p : y < suc k = b y (in_without k xs y m) in
    let q : y ≢ k = λ (e : y ≡ k). not_without k xs d (subst (λ z. z ∈ without k xs) e m) in
    omega arith) in
    let g : length xs ≤ suc (length (without k xs)) = length_without k xs in
    omega arith

module _ (next : ℕ → ℕ) where
  -- there is one such list
  pub one_list : (x z : ℕ) (xs ys : List ℕ) → x ≡ z → Links next x xs → Links next z ys → xs ≡ ys
  one_list x z [] [] e h k = refl
  one_list x z [] (b ∷ ys) e h k = absurd (omega arith)
  one_list x z (a ∷ xs) [] e h k = absurd (omega arith)
  one_list x z (a ∷ xs) (b ∷ ys) e h k =
      let f : a ≡ b = sym h.0 ∙ e ∙ k.0 in
      let g : xs ≡ ys = one_list (next a) (next b) xs ys (ap next f) h.2 k.2 in
      cc

  pub positive : (x : ℕ) (xs : List ℕ) → Links next x xs → (y : ℕ) → y ∈ xs → 0 < y
  positive x [] l y x4 = elim x4 [ ]
  positive x (a ∷ xs) l y (inl e) = let h : 0 < a = l.1 in omega arith
  positive x (a ∷ xs) l y (inr m) = positive (next a) xs l.2 y m

  -- what follows one of its entries is a shorter list
  pub after : (x : ℕ) (xs : List ℕ) → Links next x xs → (y : ℕ) → y ∈ xs
      → (ys : List ℕ) × Links next (next y) ys × (length ys < length xs) × ((z : ℕ) → z ∈ ys → z ∈ xs)
  after x [] l y x4 = elim x4 [ ]
  after x (a ∷ xs) l y (inl e) = (xs, subst (λ z. Links next (next z) xs) (sym e) l.2, omega arith, λ z m. inr m)
  after x (a ∷ xs) l y (inr m) =
      let r = after (next a) xs l.2 y m in
      (r.0, r.1, omega (arith, r.2), λ z k. inr (r.3 z k))

  pub distinct : (x : ℕ) (xs : List ℕ) → Links next x xs → Distinct xs
  distinct x [] l = tt
  distinct x (a ∷ xs) l = (
    λ (m : a ∈ xs).
        let r = after (next a) xs l.2 a m in
        let e : xs ≡ r.0 = one_list (next a) (next a) xs r.0 refl l.2 r.1 in
        let q : length xs ≡ length r.0 = ap length e in
        omega (arith, r.2),
    distinct (next a) xs l.2,
  )

  -- the link of an entry, where it is not 0, is a later entry
  pub next_in : (p h a : ℕ) (xs : List ℕ) → Links next h (a ∷ xs) → p ∈ (a ∷ xs) → 0 < next p → next p ∈ xs
  next_in p h a [] l (inr m) q = elim m [ ]
  next_in p h a [] l (inl e) q = absurd (omega (arith, ap next e))
  next_in p h a (b ∷ xs) l (inl e) q = inl (ap next e ∙ l.2.0)
  next_in p h a (b ∷ xs) l (inr m) q = inr (next_in p (next a) b xs l.2 m q)

  -- a list that is not empty holds its first
  pub first_in : (h z : ℕ) (xs : List ℕ) → Links next h xs → z ∈ xs → h ∈ xs
  first_in h z [] l m = elim m [ ]
  first_in h z (b ∷ xs) l m = inl l.0

  -- no entry's link is itself
  pub not_own : (p h : ℕ) (xs : List ℕ) → Links next h xs → p ∈ xs → next p ≢ p
  not_own p h [] l x3 q = elim x3 [ ]
  not_own p h (a ∷ xs) l (inl e) q =
      let z : 0 < a = l.1 in
      (distinct h (a ∷ xs) l).0 (subst (λ u. u ∈ xs) (q ∙ e) (next_in p h a xs l (inl e) (omega arith)))
  not_own p h (a ∷ xs) l (inr m) q = not_own p (next a) xs l.2 m q

  -- a walk with enough fuel computes it
  pub walked : (k x : ℕ) (xs : List ℕ) → Links next x xs → length xs ≤ k → walk next k x ≡ xs
  walked zero x [] l h = refl
  walked zero x (a ∷ xs) l h = absurd (omega arith)
  walked (suc k) zero [] l h = refl
  walked (suc k) (suc x) [] l h = absurd (omega arith)
  walked (suc k) zero (a ∷ xs) l h = absurd (omega arith)
  walked (suc k) (suc x) (a ∷ xs) l h =
      let e : suc x ≡ a = l.0 in
      let g : walk next k (next a) ≡ xs = walked k (next a) xs l.2 (omega arith) in
      cc

  -- entries below k: fewer than k
  pub fewer : (k x : ℕ) (xs : List ℕ) → 0 < k → Links next x xs → ((y : ℕ) → y ∈ xs → y < k) → length xs < k
  fewer k x xs p l b =
      at_most k (0 ∷ xs) ((λ (m : 0 ∈ xs). let q : 0 < 0 = positive x xs l 0 m in omega arith), distinct x xs l)
      (λ y. ⊎_elim (λ (e : y ≡ 0). omega arith) (λ (m : y ∈ xs). b y m))

-- ---- writes to link words

module _ (next next' : ℕ → ℕ) where
  -- no link of the list is changed
  pub kept : (x : ℕ) (xs : List ℕ) → ((y : ℕ) → y ∈ xs → next' y ≡ next y) → Links next x xs → Links next' x xs
  kept x [] e l = l
  kept x (a ∷ xs) e l =
      (l.0, l.1, subst (λ z. Links next' z xs) (sym (e a (inl refl))) (kept (next a) xs (λ y m. e y (inr m)) l.2))

  -- an entry is put in front
  pub pushed : (x h : ℕ) (xs : List ℕ) → 0 < x → next' x ≡ h → ((y : ℕ) → y ∈ xs → next' y ≡ next y) → Links next h xs → Links next' x (x ∷ xs)
  pushed x h xs p e k l = (refl, p, subst (λ z. Links next' z xs) (sym e) (kept h xs k l))

  -- the first entry is taken out
  pub out_first : (x h : ℕ) (xs : List ℕ) → x ≡ h → 0 < x → ((y : ℕ) → y ∈ xs → y ≢ x → next' y ≡ next y) → Links next h xs → Links next' (next x) (without x xs)
  out_first x h [] e p k l = absurd (omega arith)
  out_first x h (a ∷ xs) e p k l =
      by_eq a x (λ t. Links next' (next x) (pick t xs (a ∷ without x xs)))
      (λ (q : a ≡ x).
      let d = distinct next h (a ∷ xs) l in
      kept (next x) xs (λ y n. k y (inr n) (λ (r : y ≡ x). d.0 (subst (λ z. z ∈ xs) (r ∙ sym q) n))) (subst (λ z. Links next (next z) xs) q l.2))
      (λ n. absurd (n (sym (e ∙ l.0))))

  -- another entry is taken out, by a write to the link of the entry p before it
  pub out_after : (x p h : ℕ) (xs : List ℕ) → 0 < x → p ∈ xs → next p ≡ x → next' p ≡ next x
      → ((y : ℕ) → y ∈ xs → y ≢ x → y ≢ p → next' y ≡ next y) → Links next h xs → Links next' h (without x xs)
  out_after x p h [] px m e e' k l = elim m [ ]
  out_after x p h (a ∷ xs) px m e e' k l =
      let d = distinct next h (a ∷ xs) l in
      let i : x ∈ xs = subst (λ z. z ∈ xs) e (next_in next p h a xs l m (subst (λ z. 0 < z) (sym e) px)) in
      let n : a ≢ x = λ (q : a ≡ x). d.0 (subst (λ z. z ∈ xs) (sym q) i) in
      by_eq a x (λ t. Links next' h (pick t xs (a ∷ without x xs)))
      (λ (q : a ≡ x). absurd (n q))
      (λ _. (
        l.0,
        l.1,
        ⊎_elim
            (λ (q : p ≡ a).
            subst (λ z. Links next' z (without x xs)) (sym e' ∙ ap next' q)
            (out_first x (next a) xs (sym e ∙ ap next q) px (λ y j ny. k y (inr j) ny (λ (r : y ≡ p). d.0 (subst (λ z. z ∈ xs) (r ∙ q) j))) l.2))
            (λ (j : p ∈ xs).
            let np : a ≢ p = λ (r : a ≡ p). d.0 (subst (λ z. z ∈ xs) (sym r) j) in
            subst (λ z. Links next' z (without x xs)) (sym (k a (inl refl) n np))
            (out_after x p (next a) xs px j e e' (λ y i. k y (inr i)) l.2))
            m,
      ))
