-- The laws of a list that ends and holds exactly the entries that a rule names: nothing of it changed, an entry put in front, an entry taken out.
use mathlib.Core.Path.{◌≡◌, refl, sym, ap, ◌∙◌, subst}
use mathlib.Core.List.{List, [], ◌∷◌, ◌++◌}
use mathlib.Core.Logic.{◌⊎◌, inl, inr, ⊎_elim, ◌≢◌, ◌↔◌}
use mathlib.Core.Bool.{Bool, true, false}
use Prim.Native.Nat.{ℕ, zero, suc, ◌+◌, ◌≤◌, ◌<◌}
use native.Mathlib.Omega.{arith}
use lib.Dec.{eqb}
use lib.ListN.{length}
use Rattle.links.specs.Links.{◌∈◌, Distinct, Links, Holds}
use Rattle.links.specs.Change.{pick, upd, without, before, cut_head, cut_next}
use Rattle.links.proofs.Laws.{by_eq, in_without, not_without, still_in, positive, distinct, not_own, kept, pushed, out_first, out_after}

pub same_or : (a b : ℕ) → (a ≡ b) ⊎ (a ≢ b)
same_or a b = by_eq a b (λ _. (a ≡ b) ⊎ (a ≢ b)) (λ e. inl e) (λ n. inr n)

pub upd_same : {A : Type 0} (f : ℕ → A) (x : ℕ) (v : A) (y : ℕ) → y ≡ x → upd f x v y ≡ v
upd_same f x v y e = by_eq y x (λ t. pick t v (f y) ≡ v) (λ _. refl) (λ n. absurd (n e))

pub upd_other : {A : Type 0} (f : ℕ → A) (x : ℕ) (v : A) (y : ℕ) → y ≢ x → upd f x v y ≡ f y
upd_other f x v y n = by_eq y x (λ t. pick t v (f y) ≡ f y) (λ e. absurd (n e)) (λ _. refl)

module _ (next : ℕ → ℕ) where
  -- x is first, or follows the entry before it
  pub before_is : (x q h : ℕ) (xs : List ℕ) → Links next h xs → x ∈ xs → ((before x q xs ≡ q) × (h ≡ x)) ⊎ (before x q xs ∈ xs × (next (before x q xs) ≡ x))
  before_is x q h [] l m = elim m [ ]
  before_is x q h (a ∷ xs) l m =
      by_eq a x (λ t. ((pick t q (before x a xs) ≡ q) × (h ≡ x)) ⊎ (pick t q (before x a xs) ∈ (a ∷ xs) × (next (pick t q (before x a xs)) ≡ x)))
      (λ e. inl (refl, l.0 ∙ e))
      (λ n. ⊎_elim (λ (e : x ≡ a). absurd (n (sym e)))
      (λ (j : x ∈ xs).
      ⊎_elim
      (λ (r : (before x a xs ≡ a) × (next a ≡ x)). inr (inl r.0, ap next r.0 ∙ r.1))
      (λ (r : before x a xs ∈ xs × (next (before x a xs) ≡ x)). inr (inr r.0, r.1))
      (before_is x a (next a) xs l.2 j))
      m)

  module _ (next' : ℕ → ℕ) (P P' : ℕ → Type 0) where
    -- nothing of it is changed
    pub holds_kept : (h h' : ℕ) → h' ≡ h → ((y : ℕ) → P y → next' y ≡ next y) → ((y : ℕ) → P y ↔ P' y) → Holds next h P → Holds next' h' P'
    holds_kept h h' e k i H = (
      H.0,
      subst (λ z. Links next' z H.0) (sym e) (kept next next' h H.0 (λ y m. k y ((H.2 y).0 m)) H.1),
      λ y. (λ m. (i y).0 ((H.2 y).0 m), λ q. (H.2 y).1 ((i y).1 q)),
    )

    -- x is put in front
    pub holds_pushed : (h h' x : ℕ) → 0 < x → h' ≡ x → next' x ≡ h → ((y : ℕ) → P y → next' y ≡ next y)
        → ((y : ℕ) → P' y → (y ≡ x) ⊎ P y) → ((y : ℕ) → (y ≡ x) ⊎ P y → P' y) → Holds next h P → Holds next' h' P'
    holds_pushed h h' x p e q k i j H = (
      x ∷ H.0,
      subst (λ z. Links next' z (x ∷ H.0)) (sym e) (pushed next next' x h H.0 p q (λ y m. k y ((H.2 y).0 m)) H.1),
      λ y. (
        ⊎_elim (λ (r : y ≡ x). j y (inl r)) (λ (m : y ∈ H.0). j y (inr ((H.2 y).0 m))),
        λ r. ⊎_elim (λ (u : y ≡ x). inl u) (λ (u : P y). inr ((H.2 y).1 u)) (i y r),
      ),
    )

    -- x is taken out; next' may differ at x too
    pub holds_cut : (h h' x p : ℕ) → (H : Holds next h P) → P x → p ≡ before x 0 H.0
        → h' ≡ cut_head p (next x) h → ((y : ℕ) → P y → y ≢ x → next' y ≡ cut_next next p (next x) y)
        → ((y : ℕ) → P' y ↔ (P y × (y ≢ x))) → Holds next' h' P'
    holds_cut h h' x p H px ep eh k i = (
      without x xs,
      ⊎_elim first later (before_is x 0 h xs l mx),
      λ y. (
        λ m. (i y).1 ((H.2 y).0 (in_without x xs y m), λ (e : y ≡ x). not_without x xs d (subst (λ z. z ∈ without x xs) e m)),
        λ q. still_in x xs y ((i y).0 q).1 ((H.2 y).1 ((i y).0 q).0),
      ),
    )
      where
        xs : List ℕ
        xs = H.0

        l : Links next h xs
        l = H.1

        mx : x ∈ xs
        mx = (H.2 x).1 px

        d : Distinct xs
        d = distinct next h xs l

        x>0 : 0 < x
        x>0 = positive next h xs l x mx

        first : (before x 0 xs ≡ 0) × (h ≡ x) → Links next' h' (without x xs)
        first r =
            let z : p ≡ 0 = ep ∙ r.0 in
            subst (λ z. Links next' z (without x xs))
            (sym (eh ∙ by_eq p 0 (λ t. pick t (next x) h ≡ next x) (λ _. refl) (λ n. absurd (n z))))
            (out_first next next' x h xs (sym r.1) x>0
            (λ y m n. k y ((H.2 y).0 m) n ∙ ap (λ f. f y) (by_eq p 0 (λ t. pick t next (upd next p (next x)) ≡ next) (λ _. refl) (λ n. absurd (n z)))) l)

        later : before x 0 xs ∈ xs × (next (before x 0 xs) ≡ x) → Links next' h' (without x xs)
        later r =
            let m : p ∈ xs = subst (λ z. z ∈ xs) (sym ep) r.0 in
            let e : next p ≡ x = ap next ep ∙ r.1 in
            let nz : p ≢ 0 = λ (z : p ≡ 0). let q : 0 < p = positive next h xs l p m in omega arith in
            let g : cut_next next p (next x) ≡ upd next p (next x) = by_eq p 0 (λ t. pick t next (upd next p (next x)) ≡ upd next p (next x)) (λ z. absurd (nz z)) (λ _. refl) in
            let np : p ≢ x = λ (q : p ≡ x). not_own next p h xs l m (e ∙ sym q) in
            subst (λ z. Links next' z (without x xs))
            (sym (eh ∙ by_eq p 0 (λ t. pick t (next x) h ≡ h) (λ z. absurd (nz z)) (λ _. refl)))
            (out_after next next' x p h xs x>0 m e
            (k p ((H.2 p).0 m) np ∙ ap (λ f. f p) g ∙ upd_same next p (next x) p refl)
            (λ y j nx npp. k y ((H.2 y).0 j) nx ∙ ap (λ f. f y) g ∙ upd_other next p (next x) y npp) l)
