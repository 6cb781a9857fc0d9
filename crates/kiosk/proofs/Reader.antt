-- No rule is broken exactly when the volume is in the profile.
use mathlib.Core.Path.{◌≡◌, refl, sym, ap, ◌∙◌}
use mathlib.Core.List.{List, [], ◌∷◌}
use mathlib.Core.Bool.{Bool, true, false}
use mathlib.Core.Logic.{◌⊎◌, inl, inr, ⊎_elim, ◌≢◌}
use Prim.Native.Nat.{ℕ, ◌≤◌, ◌<◌}
use native.Mathlib.Omega.{arith}
use lib.ListN.{length}
use Rattle.links.proofs.Held.{same_or}
use Rattle.order.specs.Given.{None}
use Rattle.fat_node.specs.Entry.{Bytes}
use Rattle.fat_node.proofs.Nodes.{le_or_lt}
use Rattle.fat_table.specs.Chain.{file_at}
use Rattle.fat_table.proofs.Files.{Whole}
use Rattle.tree_sound.specs.Tables.{Tables}
use Rattle.audit_inner.specs.Findings.{findings}
use Rattle.audit_inner.specs.Volume.{is_live, subject}
use Rattle.audit.proofs.Reader.{clean, live_in, in_live}
use Rattle.kiosk_inner.specs.Profile.{most_blocks, most_files, live_files, simple, name_of, profile_rules, Broken}
use Rattle.kiosk.specs.Reader.{InProfile}

clash : {A : Type 0} → true ≡ false → A
clash e = let z : ◌≡◌ {A = ℕ} 0 1 = cc in let z' : ⊥ = omega (arith, z) in absurd z'

empty : {A : Type 0} (l : List A) → ((l ≡ [] → ⊥) → ⊥) → l ≡ []
empty [] h = refl
empty (x ∷ l) h = absurd (h (λ e. let z : length (x ∷ l) ≡ 0 = ap {B = ℕ} length e in omega (arith, z)))

true_if : (t : Bool) → (t ≡ false → ⊥) → t ≡ true
true_if true h = refl
true_if false h = absurd (h refl)

at_most : (a b : ℕ) → (b < a → ⊥) → a ≤ b
at_most a b h = ⊎_elim (λ k. k) (λ k. absurd (h k)) (le_or_lt a b)

module _ (n : ℕ) (t : Bytes) (l : ℕ) (s : Tables) (w : Whole n t) where
  abbrev rules : Type 0
  rules = None (profile_rules n t l s.dir_table s.file_table)

  none_in : rules → InProfile n t l s
  none_in (a, (b, (c, (d, (e, (f, _)))))) = record {
    clean = (clean n t l s w).0 (empty (findings (subject n t l s.file_table)) a);
    small = at_most n most_blocks b;
    alone = λ y v. ⊎_elim (λ q. q) (λ (q : y ≢ 1). absurd (c (y, v, q))) (same_or y 1);
    few = at_most (live_files s.file_table) most_files d;
    single = λ x i. ⊎_elim (λ q. q) (λ q. absurd (e (x, i, q))) (same_or (length (file_at n t x)) 1);
    names = λ y v. true_if (simple (name_of s.file_table y)) (λ q. f (y, in_live s y v, q));
  }

  in_none : InProfile n t l s → rules
  in_none p = (
    λ h. h ((clean n t l s w).1 p.clean),
    (
      λ h. omega (arith, h, p.small),
      (
        λ h. h.2 (p.alone h.0 h.1),
        (λ h. omega (arith, h, p.few), (λ h. h.2 (p.single h.0 h.1), (λ h. clash (sym (p.names h.0 (live_in s h.0 h.1)) ∙ h.2), tt))),
      ),
    ),
  )

  -- profile: the test tells 0 exactly when the volume is in the profile
  pub profile_in : Broken n t l s.dir_table s.file_table 0 → InProfile n t l s
  profile_in p = none_in (zero_none p)
    where
      zero_none : Broken n t l s.dir_table s.file_table 0 → rules
      zero_none (inl q) = let z : ⊥ = omega (arith, q.1) in absurd z
      zero_none (inr (a, inl q)) = let z : ⊥ = omega (arith, q.1) in absurd z
      zero_none (inr (a, inr (b, inl q))) = let z : ⊥ = omega (arith, q.1) in absurd z
      zero_none (inr (a, inr (b, inr (c, inl q)))) = let z : ⊥ = omega (arith, q.1) in absurd z
      zero_none (inr (a, inr (b, inr (c, inr (d, inl q))))) = let z : ⊥ = omega (arith, q.1) in absurd z
      zero_none (inr (a, inr (b, inr (c, inr (d, inr (e, inl q)))))) = let z : ⊥ = omega (arith, q.1) in absurd z
      zero_none (inr (a, inr (b, inr (c, inr (d, inr (e, inr (f, q))))))) = (a, (b, (c, (d, (e, (f, tt))))))

  pub in_profile : InProfile n t l s → Broken n t l s.dir_table s.file_table 0
  in_profile p = let r = in_none p in inr (r.0, inr (r.1.0, inr (r.1.1.0, inr (r.1.1.1.0, inr (r.1.1.1.1.0, inr (r.1.1.1.1.1.0, refl))))))
