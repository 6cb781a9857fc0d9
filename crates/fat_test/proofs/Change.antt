-- Rows after soundness: what the gate without them tells, carried to a gate that has them.
use mathlib.Core.Path.{◌≡◌, refl, sym, subst⁻¹, ◌∙◌}
use mathlib.Core.Bool.{Bool, true, false}
use mathlib.Core.List.{List, []}
use mathlib.Core.Logic.{◌⊎◌, inl, inr, ⊎_elim}
use Prim.Native.Nat.{ℕ, ◌*◌, ◌≤◌, ◌<◌}
use native.Mathlib.Nat.{mul-le-mul}
use Rattle.std.specs.Prelude.{Result, Ok, Err}
use Rattle.order.specs.declared.Refusal as why
use Rattle.order.specs.declared.Refusal.TheVariants as refusals
use Rattle.order.specs.First.{Row}
use Rattle.order.specs.Gate.{Refusal, refusal}
use Rattle.order.specs.Given.{Given, None}
use Rattle.order.specs.Tells.{Tells}
use Rattle.order.specs.Answer.{Answer}
use Rattle.order.specs.Answer.{ReadOnlyVolume}
use Rattle.order.proofs.Gate.{later_says, later_past}
use Rattle.fat_node.specs.Entry.{Bytes}
use Rattle.fat_node.specs.declared.Counts.{Counts}
use Rattle.fat_node.specs.Sizes.{blocks, Misfit, Outside}
use Rattle.fat_node.proofs.Cases.{untrue}
use Rattle.fat_test.specs.Gate.{InUse, retired, Uneven, gate_with}
use Rattle.fat_test.specs.Inner.Gated.{OpenedWith, GateOf, ChangeGateOf, TableGateOf}

-- a block length that is told not to be in use
pub not_in_use : (l : ℕ) (r : Bool) → Tells (InUse l) r → r ≡ false → InUse l → ⊥
not_in_use l r t e u = untrue (sym e ∙ t.only u)

-- any rows after soundness -----------------------------------------------------------------------------------

module _ (misfit : Type 0) (t : Bytes) (l : ℕ) (work : List ℕ) (more : List (Row Answer)) where
  -- what a gate without further rows refuses, one with them refuses
  pub with_refused : (o : Refusal) → Given (gate_with refusal misfit t l [] work) o → Given (gate_with refusal misfit t l more work) o
  with_refused o (inl p) = inl p
  with_refused o (inr (m, inl p)) = inr (m, inl p)
  with_refused o (inr (m, inr (i, inl p))) = inr (m, inr (i, inl p))
  with_refused o (inr (m, inr (i, inr (s, inl p)))) = inr (m, inr (i, inr (s, inl p)))
  with_refused o (inr (m, inr (i, inr (s, inr (u, z))))) = absurd z

  module _ (work' : List ℕ) (free files : ℕ) (g : OpenedWith misfit t l [] work work' free files) where
    -- it is open, and one of them refuses
    pub with_row : (a : Answer) → Given more a → Given (gate_with refusal misfit t l more work) (refusal a work')
    with_row a p =
        let n = g.none in
        subst⁻¹ (λ (w : List ℕ). Given (gate_with refusal misfit t l more work) (refusal a w)) g.clear
        (inr (n.0, inr (n.1.0, inr (n.1.1.0, inr (n.1.1.1.0, later_says refusal (blocks t) work more a p)))))

    -- it is open, and none does
    pub with_none : None more → OpenedWith misfit t l more work work' free files
    with_none p =
        let n = g.none in
        record {
          none = (n.0, (n.1.0, (n.1.1.0, (n.1.1.1.0, later_past refusal (blocks t) work more p))));
          sound = g.sound;
          clear = g.clear;
          count = g.count;
          others = g.others;
        }

-- the gate of a call that changes something ------------------------------------------------------------------

module _ (t : Bytes) (d l : ℕ) (work work' : List ℕ) where
  pub change_refused : (a : why.Refusal) → GateOf t d l work work' (Err a) → ChangeGateOf t d l work work' (Err a)
  change_refused a g = with_refused (Uneven t d l) t l work (retired l) (refusal (Err a) work') g

  module _ (c : Counts) (g : GateOf t d l work work' (Ok c)) (b : Bool) (u : Tells (InUse l) b) where
    pub change_open : b ≡ true → ChangeGateOf t d l work work' (Ok c)
    change_open q = with_none (Uneven t d l) t l work (retired l) work' c.free c.files g ((λ n. n (u.yes q)), tt)

    pub change_retired : b ≡ false → ChangeGateOf t d l work work' (Err refusals.ReadOnlyVolume)
    change_retired q = with_row (Uneven t d l) t l work (retired l) work' c.free c.files g ReadOnlyVolume (inl (not_in_use l b u q, refl))

-- and of one that is lent no data ----------------------------------------------------------------------------

module _ (t : Bytes) (l : ℕ) (work : List ℕ) where
  pub table_misfit : Misfit t → TableGateOf t l work work (Err refusals.SizeMismatch)
  table_misfit m = inl (m, refl)

  module _ (m : Misfit t → ⊥) where
    pub table_outside : Outside t → TableGateOf t l work work (Err refusals.InvalidValue)
    table_outside o = inr (m, inl (inl o, refl))

    pub table_unfit : (l < 1) ⊎ (65536 < l) → TableGateOf t l work work (Err refusals.InvalidValue)
    table_unfit o = inr (m, inl (inr o, refl))

    -- data that fit are no reason to refuse
    even : (d : ℕ) → d ≡ blocks t * l → Uneven t d l → ⊥
    even d e u = ⊎_elim m (λ n. n e) u

    pub table_told : (d : ℕ) → d ≡ blocks t * l → (work' : List ℕ) (r : Result Counts why.Refusal) → ChangeGateOf t d l work work' r → TableGateOf t l work work' r
    table_told d e work' (Err a) (inl p) = absurd (even d e p.0)
    table_told d e work' (Err a) (inr p) = inr (m, p.1)
    table_told d e work' (Ok c) g = record { none = (m, g.none.1); sound = g.sound; clear = g.clear; count = g.count; others = g.others }

-- the product of blocks and block length is small
pub table_small : (n l : ℕ) → n ≤ 1000000 → l ≤ 65536 → n * l ≤ 65536000000
table_small n l a b = mul-le-mul a b
