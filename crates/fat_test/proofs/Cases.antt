-- Each way out of the test and of the gate, as a fact about the rows.
use mathlib.Core.Path.{◌≡◌, subst, refl}
use mathlib.Core.List.{List}
use mathlib.Core.Logic.{◌⊎◌, inl, inr, ⊎_elim}
use Prim.Native.Nat.{ℕ, ◌*◌, ◌<◌}
use lib.ListN.{length}
use Rattle.std.specs.Prelude.{Result, Ok, Err}
use Rattle.order.specs.declared.Fault.{Fault}
use Rattle.fat_fault.specs.Inner.Marks.{Finds}
use Rattle.order.specs.declared.Refusal as why
use Rattle.order.specs.First.{First}
use Rattle.order.specs.Gate.{cleared, Refusal, refusal}
use Rattle.order.specs.Given.{Given}
use Rattle.order.specs.Answer.{Done, SizeMismatch, InvalidValue, WorkTooShort}
use Rattle.fat_node.specs.Entry.{Bytes}
use Rattle.fat_node.specs.Sizes.{blocks, Misfit, Outside}
use Rattle.fat_node.specs.declared.Counts.{Counts}
use Rattle.fat_test.specs.Gate.{test_gate, block_gate}
use Rattle.fat_test.specs.Promise.{Tested, tested, tested_by, test_refused, test_done}
use Rattle.fat_test.specs.Inner.Gated.{Ruled, GateOf}

-- ---- the fault that was found
pub finds_is : {g f : Fault} (r : Result (Unit {0}) Fault) → Finds g r → r ≡ Err f → f ≡ g
finds_is {g} r p e = (subst (Finds g) e p).0

-- ---- the test
module _ (t : Bytes) (work : List ℕ) where
  abbrev Says : Tested → List ℕ → Type 0
  Says r w = First (test_gate test_refused t work) (test_done t work) (r, w)

  pub test_misfit : Misfit t → Says (tested SizeMismatch 0 0) work
  test_misfit m = inl (m, refl)

  module _ (m : Misfit t → ⊥) where
    pub test_outside : Outside t → Says (tested InvalidValue 0 0) work
    test_outside o = inr (m, inl (o, refl))

    module _ (o : Outside t → ⊥) where
      pub test_short : length work < blocks t → Says (tested WorkTooShort 0 0) work
      test_short s = inr (m, inr (o, inl (s, refl)))

      -- what is told of a table whose sizes fit is the test's answer
      pub test_ruled : {w : List ℕ} → (length work < blocks t → ⊥) → w ≡ cleared (blocks t) work → (r : Result Counts why.Refusal) → Ruled t (blocks t) r → Says (tested_by r) w
      test_ruled s c (Err a) u = inr (m, inr (o, inr (s, inl (u.0, λ i. (tested (Err (u.1 i)) 0 0, c i)))))
      test_ruled s c (Ok k) v = inr (m, inr (o, inr (s, inr ((λ u. u v.0), λ i. (tested Done (v.1 i) (v.2 i), c i)))))

-- ---- the gate
module _ (t : Bytes) (d l : ℕ) (work : List ℕ) where
  abbrev Refuses : Refusal → Type 0
  Refuses r = Given (block_gate refusal t d l work) r

  pub gate_misfit : Misfit t → Refuses (refusal SizeMismatch work)
  gate_misfit m = inl (inl m, refl)

  pub gate_uneven : (d ≡ blocks t * l → ⊥) → Refuses (refusal SizeMismatch work)
  gate_uneven e = inl (inr e, refl)

  module _ (m : Misfit t → ⊥) (e : d ≡ blocks t * l) where
    sized : Misfit t ⊎ (d ≡ blocks t * l → ⊥) → ⊥
    sized = ⊎_elim m (λ f. f e)

    pub gate_outside : Outside t → Refuses (refusal InvalidValue work)
    gate_outside o = inr (sized, inl (inl o, refl))

    pub gate_block : (l < 1) ⊎ (65536 < l) → Refuses (refusal InvalidValue work)
    gate_block o = inr (sized, inl (inr o, refl))

    module _ (o : Outside t → ⊥) (b : (l < 1) ⊎ (65536 < l) → ⊥) where
      valid : Outside t ⊎ (l < 1) ⊎ (65536 < l) → ⊥
      valid = ⊎_elim o b

      pub gate_short : length work < blocks t → Refuses (refusal WorkTooShort work)
      gate_short s = inr (sized, inr (valid, inl (s, refl)))

      module _ (s : length work < blocks t → ⊥) where
        -- what is told of a table whose sizes fit is the gate's answer
        pub gate_ruled : {w : List ℕ} → w ≡ cleared (blocks t) work → (r : Result Counts why.Refusal) → Ruled t (blocks t) r → GateOf t d l work w r
        gate_ruled c (Err a) u = inr (sized, inr (valid, inr (s, inl (u.0, λ i. refusal (Err (u.1 i)) (c i)))))
        gate_ruled c (Ok k) v = record {
          none = (sized, (valid, (s, ((λ u. u v.0), tt))));
          sound = v.0;
          clear = c;
          count = v.1;
          others = v.2;
        }
