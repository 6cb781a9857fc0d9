-- Ways by links: they are put together, and where every way ends there is no circle.
use mathlib.Core.Path.{◌≡◌, refl, sym, subst}
use mathlib.Core.Logic.{◌⊎◌, inl, inr, ⊎_elim}
use Prim.Native.Nat.{ℕ, ◌<◌}
use Rattle.tree_aged.specs.Age.{Names, Newer, one, more, Lost}
use Rattle.tree_aged.specs.Inner.Walk.{Ends, ends}

module _ {coll next : ℕ → ℕ} where
  pub newer_on : {x y z : ℕ} → Newer coll next x y → Names coll next y z → Newer coll next x z
  newer_on {z = z} (one x y n) m = more x y z n (one y z m)
  newer_on {z = z} (more x u y n r) m = more x u z n (newer_on r m)

  -- the first link of a way
  split : {x z : ℕ} → Newer coll next x z → (y : ℕ) × Names coll next x y × ((y ≡ z) ⊎ Newer coll next y z)
  split (one x y n) = (y, n, inl refl)
  split (more x y z n r) = (y, n, inr r)

  pub ends_on : {x : ℕ} (y : ℕ) → Ends coll next x → Names coll next x y → Ends coll next y
  ends_on y (ends x f g) (p, inl e) = subst (λ z. Ends coll next z) e (f (subst (λ z. 0 < z) (sym e) p))
  ends_on y (ends x f g) (p, inr e) = subst (λ z. Ends coll next z) e (g (subst (λ z. 0 < z) (sym e) p))

  pub ends_far : {x y : ℕ} → Newer coll next x y → Ends coll next x → Ends coll next y
  ends_far (one x y n) h = ends_on y h n
  ends_far (more x y z n r) h = ends_far r (ends_on y h n)

  -- a circle over x is one over what x names
  round_on : {x y : ℕ} → Newer coll next x x → Names coll next x y → (y ≡ x) ⊎ Newer coll next y x → Newer coll next y y
  round_on r n (inl e) = subst (λ z. Newer coll next z z) (sym e) r
  round_on r n (inr q) = newer_on q n

  round_step : (x : ℕ) → (0 < coll x → Newer coll next (coll x) (coll x) → ⊥) → (0 < next x → Newer coll next (next x) (next x) → ⊥)
      → (y : ℕ) → Names coll next x y → Newer coll next y y → ⊥
  round_step x f g y (p, inl e) q = f (subst (λ z. 0 < z) (sym e) p) (subst (λ z. Newer coll next z z) (sym e) q)
  round_step x f g y (p, inr e) q = g (subst (λ z. 0 < z) (sym e) p) (subst (λ z. Newer coll next z z) (sym e) q)

  pub no_round : {x : ℕ} → Ends coll next x → Newer coll next x x → ⊥
  no_round (ends x f g) r =
      let s = split r in round_step x (λ h. no_round (f h)) (λ h. no_round (g h)) s.0 s.1 (round_on r s.1 s.2)

  pub not_lost : {x : ℕ} → Ends coll next x → Lost coll next x → ⊥
  not_lost h l =
      no_round (⊎_elim (λ e. subst (λ z. Ends coll next z) e h) (λ n. ends_far n h) l.leads) l.circle
