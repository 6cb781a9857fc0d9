-- The tests one by one, and what a call gives by them.
use mathlib.Core.Path.{◌≡◌, refl, sym, ap, ◌∙◌}
use mathlib.Core.Bool.{Bool, true, false, not}
use mathlib.Core.List.{List, [], ◌∷◌}
use mathlib.Core.Logic.{◌⊎◌, inl, inr, ⊎_elim}
use Prim.Native.Nat.{ℕ, suc, ◌+◌, ◌-◌, ◌*◌, ◌/◌, ◌%◌, ◌≤◌, ◌<◌}
use native.Mathlib.Omega.{arith}
use native.Mathlib.Nat.{add-mul, suc-mul, mod-lt, div-add-mod', mul-le-mul_right}
use lib.Dec.{eqb}
use borrow.Author.Tests.{eqb-true, eqb-false}
use Rattle.order.specs.First.{Row, First}
use Rattle.order.specs.Given.{Given, None}
use Rattle.order.specs.Giving.{giving}
use Rattle.order.specs.Answer.{Answer}
use Rattle.fat_node.proofs.Nodes.{le_or_lt}
use Rattle.std.specs.Prelude.{min}
use Rattle.order.specs.Tells.{Tells}
use Rattle.fat_listed.specs.Listed.{Uneven, Unfit}

-- a test that is answered yes, and one that is answered no
pub yes : {P : Type 0} {r : Bool} → r ≡ true → P → Tells P r
yes e p = record { yes = λ _. p; only = λ _. e }

pub no : {P : Type 0} {r : Bool} → r ≡ false → (P → ⊥) → Tells P r
no {P} {r} e n = record { yes = λ q. (let z : ◌≡◌ {A = Bool} true false = sym q ∙ e in absurd (clash z)); only = λ p. absurd (n p) }
  where
    clash : true ≡ false → ⊥
    clash z = let w : ◌≡◌ {A = ℕ} 0 1 = cc in omega arith

pub tells_not : {P : Type 0} {r : Bool} → Tells P r → r ≡ false → P → ⊥
tells_not {P} {r} t e p = let q = t.only p in let w : ◌≡◌ {A = ℕ} 0 1 = cc in omega arith

-- by a Bool that decides
pub decide : {P : Type 0} (r : Bool) → (r ≡ true → P) → (r ≡ false → P → ⊥) → Tells P r
decide true f g = yes refl (f refl)
decide false f g = no refl (g refl)

-- the sizes ---------------------------------------------------------------------------------------------------------------

-- what is left over tells whether the data are whole blocks
pub uneven_by : (d l r : ℕ) → d ≡ d / l * l + r → Tells (Uneven d l) (not (eqb r 0))
uneven_by d l r e = go (eqb r 0) refl
  where
    go : (t : Bool) → eqb r 0 ≡ t → Tells (Uneven d l) (not t)
    go true q = no refl (λ u. u (omega (arith, e, eqb-true r 0 q)))
    go false q = yes refl (λ z. eqb-false r 0 q (omega (arith, e, z)))

pub uneven_none : (d l : ℕ) → l ≡ 0 → Tells (Uneven d l) (not (eqb d 0))
uneven_none d l e = uneven_by d l d (omega (arith, ap (λ (x : ℕ). d / l * x) e))

pub fit_none : (d l : ℕ) → 1 ≤ l → l ≤ 65536 → 1 ≤ d / l → d / l ≤ 1000000 → Unfit d l → ⊥
fit_none d l a b c e (inl h) = omega arith
fit_none d l a b c e (inr (inl h)) = omega arith
fit_none d l a b c e (inr (inr (inl h))) = omega arith
fit_none d l a b c e (inr (inr (inr h))) = omega arith

-- the passed end ----------------------------------------------------------------------------------------------------------

module _ (count l pos len : ℕ) (some : 1 ≤ l) where
  pub past_before : count < pos / l → count * l < pos + len
  past_before h = omega (arith, div-add-mod' pos l, suc-mul count l, mul-le-mul_right {m = suc count} {n = pos / l} l (omega (arith, h)))

  pub past_whole : pos / l ≤ count → count - pos / l < len / l → count * l < pos + len
  past_whole h k =
      omega (
        arith,
        div-add-mod' pos l,
        div-add-mod' len l,
        suc-mul count l,
        add-mul (pos / l) (len / l) l,
        mul-le-mul_right {m = suc count} {n = pos / l + len / l} l (omega (arith, h, k)),
      )

  -- the rest in whole blocks, of which two hold all that is left
  module _ (h : pos / l ≤ count) (k : len / l ≤ count - pos / l) (left : ℕ) (w : left ≡ min (count - pos / l - len / l) 2) where
    abbrev rest : ℕ
    rest = count - pos / l - len / l

    sum : count * l ≡ pos / l * l + len / l * l + rest * l
    sum =
        let e : count ≡ pos / l + len / l + rest = omega (arith, h, k) in
        ap (λ (x : ℕ). x * l) e ∙ add-mul (pos / l + len / l) rest l ∙ ap (λ (x : ℕ). x + rest * l) (add-mul (pos / l) (len / l) l)

    pub past_rest : left * l < pos % l + len % l → count * l < pos + len
    past_rest z = ⊎_elim
        (λ (e : left ≡ rest). omega (arith, z, sum, div-add-mod' pos l, div-add-mod' len l, ap (λ (x : ℕ). x * l) e))
        (λ (e : left ≡ 2). let q : ⊥ = omega (arith, z, mod-lt pos some, mod-lt len some, ap (λ (x : ℕ). x * l) e, suc-mul 1 l, suc-mul 0 l) in absurd q)
        which
      where
        which : (left ≡ rest) ⊎ (left ≡ 2)
        which = ⊎_elim (λ h. inr (omega (arith, w, h))) (λ h. inl (omega (arith, w, h))) (le_or_lt 2 rest)

    pub within_rest : pos % l + len % l ≤ left * l → count * l < pos + len → ⊥
    within_rest z q = omega (arith, z, q, sum, div-add-mod' pos l, div-add-mod' len l, mul-le-mul_right {m = left} {n = rest} l (omega (arith, w)))

-- what a call gives -------------------------------------------------------------------------------------------------------

module _ {A : Type 0} (g : Answer → A) (done : A) where
  pub given_first : (rs : List (Row Answer)) (a : Answer) → Given rs a → First (giving g rs) done (g a)
  given_first [] a z = absurd z
  given_first (r ∷ rs) a (inl p) = inl (p.0, ap g p.1)
  given_first (r ∷ rs) a (inr p) = inr (p.0, given_first rs a p.1)

  pub none_first : (rs : List (Row Answer)) → None rs → First (giving g rs) done done
  none_first [] n = refl
  none_first (r ∷ rs) n = inr (n.0, none_first rs n.1)
