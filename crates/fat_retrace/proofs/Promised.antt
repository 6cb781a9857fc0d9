-- retrace keeps its promise, where the test refuses, where the list is short, and where the history is written.
use mathlib.Core.Path.{◌≡◌, refl, ap, subst, subst⁻¹, ◌∙◌}
use mathlib.Core.List.{List}
use mathlib.Core.Logic.{inl, inr}
use Prim.Native.Nat.{ℕ, ◌*◌, ◌≤◌, ◌<◌}
use native.Mathlib.Omega.{arith}
use lib.ListN.{length}
use Rattle.words.proofs.Laws as words
use Rattle.order.specs.First.{First}
use Rattle.order.specs.Given.{Given, None}
use Rattle.order.specs.Gate.{cleared}
use Rattle.std.specs.Prelude.{Err}
use Rattle.order.specs.declared.Refusal.{Refusal}
use Rattle.order.specs.Beside.{Beside, beside}
use Rattle.order.specs.Answer.{Answer, Done, ListTooShort, number_of}
use Rattle.order.proofs.Beside as rows
use Rattle.fat_node.specs.Entry.{Bytes}
use Rattle.fat_node.specs.Sizes.{blocks}
use Rattle.fat_test.specs.Gate.{test_gate}
use Rattle.fat_test.specs.Promise.{Tested, tested, test_done, TestPromise}
use Rattle.fat_walk.specs.Volume.{Volume}
use Rattle.fat_history.proofs.Means.{test_means}
use Rattle.fat_retrace.specs.History.{history}
use Rattle.fat_retrace.specs.Inner.Written.{Written}
use Rattle.fat_retrace.specs.Promise.{Retrace, retrace_gives, retrace_rows, retrace_done, RetracePromise}

abbrev Out : Type 0
Out = Tested × List ℕ

module _ {A : Type 0} (refuse : Answer → List ℕ → A) (t : Bytes) (work : List ℕ) (o : Out) where
  -- the same row refuses
  given : TestPromise t work o → (o.0.answer ≡ Done → ⊥) → Given (test_gate refuse t work) (refuse o.0.answer o.1)
  given (inl p) h = inl (p.0, ap (λ (x : Out). refuse x.0.answer x.1) p.1)
  given (inr (a, inl p)) h = inr (a, inl (p.0, ap (λ (x : Out). refuse x.0.answer x.1) p.1))
  given (inr (a, inr (b, inl p))) h = inr (a, inr (b, inl (p.0, ap (λ (x : Out). refuse x.0.answer x.1) p.1)))
  given (inr (a, inr (b, inr (c, inl p)))) h = inr (a, inr (b, inr (c, inl (p.0, ap (λ (x : Out). refuse x.0.answer x.1) p.1))))
  given (inr (a, inr (b, inr (c, inr (d, p))))) h = absurd (h (ap (λ (x : Out). x.0.answer) p))

  -- none does
  none : TestPromise t work o → o.0.answer ≡ Done → None (test_gate refuse t work) × (o ≡ test_done t work)
  none (inl p) h = let z : ⊥ = omega (arith, ap number_of h, ap (λ (x : Out). number_of x.0.answer) p.1) in absurd z
  none (inr (a, inl p)) h = let z : ⊥ = omega (arith, ap number_of h, ap (λ (x : Out). number_of x.0.answer) p.1) in absurd z
  none (inr (a, inr (b, inl p))) h = let z : ⊥ = omega (arith, ap number_of h, ap (λ (x : Out). number_of x.0.answer) p.1) in absurd z
  none (inr (a, inr (b, inr (c, inl p)))) h = let z : ⊥ = omega (arith, ap number_of h, ap (λ (x : Out). number_of x.0.answer) p.1) in absurd z
  none (inr (a, inr (b, inr (c, inr (d, p))))) h = ((a, (b, (c, (d, tt)))), p)

module _ (t : Bytes) (work list : List ℕ) where
  abbrev refuse : Answer → List ℕ → Beside Retrace
  refuse a w = beside (retrace_gives a 0 list) w

  pub retrace_refused : (why : Refusal) (w : List ℕ) → TestPromise t work (tested (Err why) 0 0, w) → RetracePromise t work list (beside (retrace_gives (Err why) 0 list) w)
  retrace_refused why w p =
      rows.refused (test_gate refuse t work) (cleared (blocks t) work) (retrace_rows (blocks t) list) (retrace_done (blocks t) t list)
      (refuse (Err why) w) (given refuse t work (tested (Err why) 0 0, w) p (λ q. cc))

  module _ (free files : ℕ) (w : List ℕ) (p : TestPromise t work (tested Done free files, w)) (n : ℕ) (z : n ≡ blocks t) where
    abbrev o : Out
    o = (tested Done free files, w)

    accepted : None (test_gate refuse t work) × (o ≡ test_done t work)
    accepted = none refuse t work o p refl

    passes : (g : Retrace) → First (retrace_rows (blocks t) list) (retrace_done (blocks t) t list) g → RetracePromise t work list (beside g w)
    passes g q =
        subst⁻¹ (λ (x : Out). RetracePromise t work list (beside g x.1)) accepted.1
        (rows.passed (test_gate refuse t work) (cleared (blocks t) work) (retrace_rows (blocks t) list) (retrace_done (blocks t) t list) g accepted.0 q)

    pub accepted_volume : words.Bytes t → Volume n t
    accepted_volume g =
        let v = test_means t work o g p refl in
        subst⁻¹ (λ (x : ℕ). Volume x t) z (record { few = v.0.few; room = v.0.room; sound = v.1 })

    pub retrace_short : length list < 5 * n → RetracePromise t work list (beside (retrace_gives ListTooShort 0 list) w)
    retrace_short q = passes (retrace_gives ListTooShort 0 list) (inl (omega (arith, q, z), refl))

    pub retrace_done_lem : (r : ℕ) (list' : List ℕ) → 5 * n ≤ length list → Written (history n t) 0 list r list'
        → RetracePromise t work list (beside (retrace_gives Done r list') w)
    retrace_done_lem r list' q v =
        let v₁ : Written (history (blocks t) t) 0 list r list' = subst (λ (x : ℕ). Written (history x t) 0 list r list') z v in
        let c : r ≡ length (history (blocks t) t) = omega (arith, v₁.next) in
        passes (retrace_gives Done r list')
        (inr (
          (λ k. omega (arith, k, q, z)),
          ap (λ (x : ℕ). retrace_gives Done x list') c ∙ ap (retrace_gives Done (length (history (blocks t) t))) v₁.is,
        ))
