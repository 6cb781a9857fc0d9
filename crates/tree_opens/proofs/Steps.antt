-- The rows of a record's open and close, by the places of their code.
use mathlib.Core.Path.{◌≡◌, refl, sym, ap, ◌∙◌}
use mathlib.Core.Logic.{inl, inr}
use Prim.Native.Nat.{ℕ, ◌+◌, ◌≤◌, ◌<◌}
use native.Mathlib.Omega.{arith}
use Rattle.std.proofs.Common.{Result, Ok, Err}
use Rattle.order.specs.declared.Refusal.{Refusal}
use Rattle.order.specs.declared.Refusal.TheVariants.{Busy, NotOpen, TooManyOpens}
use Rattle.tree_opens.specs.Record.{writer, total}
use Rattle.tree_opens.specs.Step.{holds, more, less, more_tests, less_tests, SteppedBy}
use Rattle.tree_opens.specs.declared.Want.{Want}
use Rattle.tree_opens.specs.declared.Want.TheVariants.{Reader, Writer}

module _ (r : ℕ) (w : Want) where
  abbrev More : Result ℕ Refusal → Type 0
  More o = SteppedBy (more_tests r w) (more r w) o

  module _ (t : ℕ) (e : t ≡ total r) where
    pub more_full : 65535 ≤ t → More (Err TooManyOpens)
    more_full h = inl (omega arith, refl)

    module _ (h : t < 65535) where
      room : 65535 ≤ total r → ⊥
      room k = omega arith

      pub more_reader : w ≡ Reader → More (Ok (r + 1))
      more_reader q =
          ((room, (λ p. let s : w ≡ Writer = p.0 in let z : ◌≡◌ {A = ℕ} 0 1 = cc in omega arith, tt)), ap (more r) (sym q))

      module _ (v : ℕ) (q : w ≡ Writer) (f : v ≡ writer r) where
        pub more_busy : (v ≡ 0 → ⊥) → More (Err Busy)
        more_busy n = inr (room, inl ((q, λ z. n (f ∙ z)), refl))

        pub more_writer : v ≡ 0 → More (Ok (r + 2147483648))
        more_writer n = ((room, (λ p. p.1 (sym f ∙ n), tt)), ap (more r) (sym q))

  abbrev Less : Result ℕ Refusal → Type 0
  Less o = SteppedBy (less_tests r w) (less r w) o

  module _ (v : ℕ) (k : Want) (q : w ≡ k) (f : v ≡ holds r k) where
    pub less_none : v ≡ 0 → Less (Err NotOpen)
    less_none n = inl (ap (holds r) q ∙ sym f ∙ n, refl)

    pub less_one : (v ≡ 0 → ⊥) → Less (Ok (less r k))
    less_one n = ((λ z. n (f ∙ sym (ap (holds r) q) ∙ z), tt), ap (less r) (sym q))
