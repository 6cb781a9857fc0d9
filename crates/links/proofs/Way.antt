-- Part of the way along a threaded list.
use mathlib.Core.Path.{◌≡◌, refl, sym, ap, ap₂, ◌∙◌, subst}
use mathlib.Core.List.{List, [], ◌∷◌, ◌++◌}
use mathlib.Core.Logic.{◌⊎◌, inl, inr}
use Prim.Native.Nat.{ℕ, ◌<◌}
use native.Mathlib.Omega.{arith}
use Rattle.links.specs.Links.{◌∈◌, Distinct, Links}
use Rattle.links.proofs.Laws.{distinct}

-- going from h by `next` one passes the entries ps, and stands at x
abbrev pub Way : (ℕ → ℕ) → ℕ → List ℕ → ℕ → Type 0
Way next h [] x = h ≡ x
Way next h (p ∷ ps) x = (h ≡ p) × (0 < p) × Way next (next p) ps x

module _ (next : ℕ → ℕ) where
  pub way_on : (h : ℕ) (ps : List ℕ) (x : ℕ) → Way next h ps x → 0 < x → Way next h (ps ++ x ∷ []) (next x)
  way_on h [] x w p = (w, p, refl)
  way_on h (a ∷ ps) x w p = (w.0, w.1, way_on (next a) ps x w.2 p)

  -- at 0 it was the whole list
  pub way_end : (h : ℕ) (ps : List ℕ) → Way next h ps 0 → Links next h ps
  way_end h [] w = w
  way_end h (a ∷ ps) w = (w.0, w.1, way_end (next a) ps w.2)

  -- if there is a list, what was passed is its first part
  pub way_part : (h : ℕ) (ps : List ℕ) (x : ℕ) (xs : List ℕ) → Way next h ps x → Links next h xs → (qs : List ℕ) × (xs ≡ ps ++ qs) × Links next x qs
  way_part h [] x xs w l = (xs, refl, subst (λ z. Links next z xs) w l)
  way_part h (a ∷ ps) x [] w l = absurd (let e : h ≡ a = w.0 in let p : 0 < a = w.1 in omega arith)
  way_part h (a ∷ ps) x (b ∷ xs) w l =
      let e : a ≡ b = sym w.0 ∙ l.0 in
      let r = way_part (next a) ps x xs w.2 (subst (λ z. Links next z xs) (ap next (sym e)) l.2) in
      (r.0, ap₂ (λ u v. u ∷ v) (sym e) r.1, r.2)

pub in_right : (y : ℕ) (ps qs : List ℕ) → y ∈ qs → y ∈ (ps ++ qs)
in_right y [] qs m = m
in_right y (a ∷ ps) qs m = inr (in_right y ps qs m)

pub in_left : (y : ℕ) (ps qs : List ℕ) → y ∈ ps → y ∈ (ps ++ qs)
in_left y [] qs x' = elim x' [ ]
in_left y (a ∷ ps) qs (inl e) = inl e
in_left y (a ∷ ps) qs (inr m) = inr (in_left y ps qs m)

not_twice : (y : ℕ) (ps qs : List ℕ) → Distinct (ps ++ y ∷ qs) → y ∈ ps → ⊥
not_twice y [] qs d x'' = elim x'' [ ]
not_twice y (a ∷ ps) qs d (inl e) = d.0 (in_right a ps (y ∷ qs) (inl (sym e)))
not_twice y (a ∷ ps) qs d (inr m) = not_twice y ps qs d.1 m

-- standing at an entry of a list that there is: it is of the list, and was not passed before
pub way_new : (next : ℕ → ℕ) (h : ℕ) (ps : List ℕ) (x : ℕ) (xs : List ℕ) → Way next h ps x → Links next h xs → 0 < x → (x ∈ xs) × (x ∈ ps → ⊥)
way_new next h ps x xs w l p = go r.0 r.1 r.2
  where
    r : (qs : List ℕ) × (xs ≡ ps ++ qs) × Links next x qs
    r = way_part next h ps x xs w l

    go : (qs : List ℕ) → xs ≡ ps ++ qs → Links next x qs → (x ∈ xs) × (x ∈ ps → ⊥)
    go [] e k = absurd (let z : x ≡ 0 = k in omega arith)
    go (q ∷ qs) e k =
        let f : xs ≡ ps ++ x ∷ qs = e ∙ ap (λ z. ps ++ z ∷ qs) (sym k.0) in (
          subst (λ l. x ∈ l) (sym f) (in_right x ps (x ∷ qs) (inl refl)),
          λ m. not_twice x ps qs (subst Distinct f (distinct next h xs l)) m,
        )
