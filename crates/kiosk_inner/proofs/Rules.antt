-- The rules in their order, each by its test.
use mathlib.Core.Path.{◌≡◌, refl, sym, ap, ◌∙◌}
use mathlib.Core.List.{List, [], ◌∷◌}
use mathlib.Core.Bool.{Bool, true, false}
use mathlib.Core.Logic.{◌⊎◌, inl, inr}
use Prim.Native.Nat.{ℕ, zero, suc, ◌+◌, ◌/◌, ◌≤◌, ◌<◌}
use native.Mathlib.Omega.{arith}
use lib.ListN.{length, replicate}
use Rattle.words.proofs.Laws as words
use Rattle.fat_node.specs.Entry.{Bytes}
use Rattle.fat_walk.specs.Volume.{Volume}
use Rattle.fat_walk.proofs.Hops.{whole_of}
use Rattle.audit_inner.specs.Findings.{Finding, findings}
use Rattle.audit_inner.specs.Volume.{count_of, chain_of, subject}
use Rattle.audit_inner.specs.Inner.Marks.{Ready, Start, SweepSays}
use Rattle.audit_inner.proofs.Chains.{chains_of}
use Rattle.kiosk_inner.specs.Profile.{OtherDirectory, live_files, Scattered, OddName, Broken}
use Rattle.kiosk_inner.specs.Inner.Judge.{Decides, Counted, ProfileSays}

none_of : {A : Type 0} (l : List A) → length l ≡ 0 → l ≡ []
none_of [] e = refl
none_of (x ∷ l) e = let z : ⊥ = omega (arith, e) in absurd z

module _ (n : ℕ) (t d f : Bytes) (found : ℕ) where
  -- what each end of the tests says
  abbrev Ends : ℕ → Type 0
  Ends r = (l : ℕ) → found ≡ length (findings (subject n t l f)) → Broken n t l d f r

  pub rule_one : (found ≡ 0 → ⊥) → Ends 1
  rule_one h l e = inl (λ z. h (e ∙ ap {B = ℕ} length z), refl)

  module _ (z : found ≡ 0) where
    clean : (l : ℕ) → found ≡ length (findings (subject n t l f)) → (findings (subject n t l f) ≡ [] → ⊥) → ⊥
    clean l e h = h (none_of (findings (subject n t l f)) (sym e ∙ z))

    pub rule_two : 8191 < n → Ends 2
    rule_two h l e = inr (clean l e, inl (h, refl))

    module _ (k : n ≤ 8191) (r₃ : Bool) (d₃ : Decides r₃ (OtherDirectory d)) where
      pub rule_three : r₃ ≡ true → Ends 3
      rule_three q l e = inr (clean l e, inr ((λ h. omega (arith, h, k)), inl (d₃.yes q, refl)))

      module _ (q₃ : r₃ ≡ false) (live : ℕ) (i : live ≡ live_files f) where
        pub rule_four : 64 < live → Ends 4
        rule_four h l e = inr (clean l e, inr ((λ h. omega (arith, h, k)), inr (d₃.no q₃, inl (omega (arith, h, i), refl))))

        module _ (few : live ≤ 64) (r₅ : Bool) (d₅ : Decides r₅ (Scattered n t)) where
          pub rule_five : r₅ ≡ true → Ends 5
          rule_five q l e = inr (clean l e, inr ((λ h. omega (arith, h, k)), inr (d₃.no q₃, inr ((λ h. omega (arith, h, i, few)), inl (d₅.yes q, refl)))))

          module _ (q₅ : r₅ ≡ false) (r₆ : Bool) (d₆ : Decides r₆ (OddName f)) where
            pub rule_six : r₆ ≡ true → Ends 6
            rule_six q l e =
                inr (clean l e, inr ((λ h. omega (arith, h, k)), inr (d₃.no q₃, inr ((λ h. omega (arith, h, i, few)), inr (d₅.no q₅, inl (d₆.yes q, refl))))))

            pub rule_none : r₆ ≡ false → Ends 0
            rule_none q l e =
                inr (clean l e, inr ((λ h. omega (arith, h, k)), inr (d₃.no q₃, inr ((λ h. omega (arith, h, i, few)), inr (d₅.no q₅, inr (d₆.no q, refl))))))

-- ---- the whole test

pub swept : (n : ℕ) (t : Bytes) (l : ℕ) (f : Bytes) → Ready n t l f → words.Bytes t → (work₁ work₂ list list' : List ℕ) (found : ℕ) → Start n (chain_of n t) f work₁
    → SweepSays n l f work₁ list work₂ list' found
    → Counted n t l f work₂ found
swept n t l f R g work₁ work₂ list list' found s w =
    let o = w.says (chain_of n t) (chains_of n t (whole_of n t R.volume g)) s in
    record { count = o.count; dead = o.start.dead }

pub profile_says : (n : ℕ) (t : Bytes) (l : ℕ) (d f : Bytes) (work work₁ work' : List ℕ) (found rule : ℕ) → Counted n t l f work₁ found
    → ((k : ℕ) → found ≡ length (findings (subject n t k f)) → Broken n t k d f rule)
    → work' ≡ replicate (length work₁) 0
    → length work₁ ≡ length work
    → ProfileSays n t l d f work work' rule
profile_says n t l d f work work₁ work' found rule c j e a = record { says = j l c.count; clear = e ∙ ap (λ (m : ℕ). replicate m 0) a }
