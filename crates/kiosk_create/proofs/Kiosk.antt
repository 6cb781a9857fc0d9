-- The create on a sound table: no free node is long enough, or the first that is gets its left part cut.
use mathlib.Core.Path.{◌≡◌, refl, sym, ap, ◌∙◌}
use mathlib.Core.List.{List}
use mathlib.Core.Logic.{◌⊎◌, inl, inr, ⊎_elim}
use Prim.Native.Nat.{ℕ, zero, suc, ◌+◌, ◌-◌, ◌≤◌, ◌<◌}
use native.Mathlib.Omega.{arith}
use Rattle.words.proofs.Laws as words
use Rattle.order.specs.Answer.{Done, InvalidValue, NoSpace}
use Rattle.fat_node.specs.Entry.{Bytes}
use Rattle.fat_node.specs.Node.{Run, run}
use Rattle.fat_table.specs.Chain.{free_at}
use Rattle.fat_table.specs.Layout.{hits, covers}
use Rattle.fat_table.proofs.Laying.{inside_of}
use Rattle.fat_table.proofs.Files.{Whole}
use Rattle.fat_promises.specs.Calls.{Create, create_gives}
use Rattle.fat_walk.specs.Volume.{Volume}
use Rattle.fat_walk.specs.Inner.Chains.{ChainFrom}
use Rattle.fat_walk.proofs.Found.{head_chain}
use Rattle.fat_walk.proofs.Hops.{whole_of}
use Rattle.fat_carve.specs.Carve.{fit, Window}
use Rattle.fat_carve.proofs.Carves.{fit_none, none_fits, fit_found, fit_window}
use Rattle.fat_place.specs.Place.{placed}
use Rattle.kiosk_create.specs.Create.{NoneLong, fit_at, KioskSound}

-- a number is 0 or one more than another
pub zero_or : (i : ℕ) → (i ≡ 0) ⊎ ((m : ℕ) × (i ≡ suc m))
zero_or zero = inl refl
zero_or (suc m) = inr (m, refl)

pub some_asked : (c : ℕ) → (c ≡ 0 → ⊥) → 1 ≤ c
some_asked zero k = absurd (k refl)
some_asked (suc c) k = omega arith

-- some free node is long enough exactly where the search along the chain finds one
pub long_found : (count : ℕ) (l : List Run) → (NoneLong count l → ⊥) → (m : ℕ) × (fit count l ≡ suc m)
long_found count l h = ⊎_elim (λ e. absurd (h (fit_none count l e))) (λ w. w) (zero_or (fit count l))

pub found_long : (count : ℕ) (l : List Run) (m : ℕ) → fit count l ≡ suc m → NoneLong count l → ⊥
found_long count l m e h = omega (arith, e, none_fits count l h)

pub none_asked : (n : ℕ) (t : Bytes) (count : ℕ) → count ≡ 0 → KioskSound n t count (create_gives InvalidValue 0 t)
none_asked n t count e = inl (e, refl)

module _ (n : ℕ) (t : Bytes) (count : ℕ) (some : count ≡ 0 → ⊥) (i : ℕ) (q : i ≡ fit count (free_at n t)) where
  pub none_fit : i ≡ 0 → KioskSound n t count (create_gives NoSpace 0 t)
  none_fit e = inr (some, inl (fit_none count (free_at n t) (sym q ∙ e), refl))

  module _ (h : i ≡ 0 → ⊥) where
    found : fit count (free_at n t) ≡ suc (i - 1)
    found = omega (arith, q, some_asked i h)

    -- what the step asks for
    pub fit_opens : Window (i - 1) count (free_at n t)
    fit_opens = fit_window count (i - 1) (free_at n t) (some_asked count some) (fit_found count (free_at n t) (i - 1) found)

    pub fit_inside : Volume n t → words.Bytes t → i - 1 + count ≤ n
    fit_inside v g =
        let c : ChainFrom n t _ = head_chain n t v g _ refl in
        inside_of n (run (i - 1) count) fit_opens.some (λ x. omega (arith, fit_opens.each x, c.chain.inside x))

    pub fit_done : (t' : Bytes) → t' ≡ placed n t (i - 1) count → KioskSound n t count (create_gives Done (i - 1) t')
    unfolding fit_at
    fit_done t' e =
        let m : i - 1 ≡ fit count (free_at n t) - 1 = ap (λ (x : ℕ). x - 1) q in
        inr (some, inr (found_long count (free_at n t) (i - 1) found, ap (create_gives Done (i - 1)) e ∙ ap (λ (x : ℕ). create_gives Done x (placed n t x count)) m))
