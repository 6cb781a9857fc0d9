-- Make on sound tables, by the places of its code.
use mathlib.Core.Path.{◌≡◌, refl, sym, ◌∙◌, subst}
use mathlib.Core.Bool.{Bool, true, false, false≢true}
use mathlib.Core.List.{List, [], ◌∷◌}
use mathlib.Core.Logic.{inl}
use Prim.Native.Nat.{ℕ, ◌-◌}
use Rattle.order.specs.First.{Row, row}
use Rattle.order.specs.Given.{Given, None}
use Rattle.order.specs.Answer.{Answer}
use Rattle.order.specs.Answer.{TooManyOpens}
use Rattle.tree_table.specs.Chain.{link_at}
use Rattle.links.specs.Change.{pick}
use Rattle.links.proofs.Laws.{by_eq}
use Rattle.tree_table.specs.Field.{field}
use Rattle.tree_table.specs.Steps.{taken}
use Rattle.tree_packed.specs.Put.{IsFull}
use Rattle.tree_packed.specs.Opens.{Opens, opens, NoPlace}
use Rattle.tree_sound.specs.Tables.{Tables}
use Rattle.tree_promises.specs.Calls.{make_tests}
use Rattle.tree_promises.specs.Packed.{make_tests_in}
use Rattle.tree_promises.specs.Inner.Ready.{alone, hashed}
use Rattle.tree_judge.proofs.Judges.{given_front, given_behind, none_both}

-- ---- the place of the new record

-- the entry that make uses
pub next_first : (t : List ℕ) (w first : ℕ) → first ≡ link_at t w (w - 4) 0 → (first ≡ 0 → ⊥) → first ≡ taken (alone w t)
unfolding field
next_first t w first e n = by_eq (field w t 0 0) 0 (λ b. first ≡ pick b (field w t 0 1) (field w t 0 0)) (λ z. absurd (n (e ∙ z))) (λ _. e)

pub next_fresh : (t : List ℕ) (w first count : ℕ) → first ≡ link_at t w (w - 4) 0 → first ≡ 0 → count ≡ link_at t w 0 0 → count ≡ taken (alone w t)
unfolding field
next_fresh t w first count e z c = by_eq (field w t 0 0) 0 (λ b. count ≡ pick b (field w t 0 1) (field w t 0 0)) (λ _. c) (λ n. absurd (n (sym e ∙ z)))

abbrev pub place_tests : Opens → ℕ → List (Row Answer)
place_tests o x = row (NoPlace o x) TooManyOpens ∷ []

module _ (s : Tables) (w : ℕ) (h t : List ℕ) (k : ℕ) (l : List ℕ) (p : ℕ) (name : List ℕ) where
  pub made_refused : (a : Answer) → Given (make_tests s (hashed w h t) p name) a → Given (make_tests_in s (hashed w h t) (opens k l) p name) a
  made_refused a g = given_front (make_tests s (hashed w h t) p name) (place_tests (opens k l) (taken (hashed w h t))) a g

  module _ (before : None (make_tests s (hashed w h t) p name)) (x : ℕ) (ex : x ≡ taken (alone w t)) (b : Bool)
      (F : (b ≡ true → IsFull k l x) × (IsFull k l x → b ≡ true)) where
    pub made_full : b ≡ true → Given (make_tests_in s (hashed w h t) (opens k l) p name) TooManyOpens
    made_full f =
        given_behind (make_tests s (hashed w h t) p name) (place_tests (opens k l) (taken (hashed w h t))) TooManyOpens before
        (inl (subst (λ z. IsFull k l z) ex (F.0 f), refl))

    pub made_go : b ≡ false → None (make_tests_in s (hashed w h t) (opens k l) p name)
    made_go f =
        none_both (make_tests s (hashed w h t) p name) (place_tests (opens k l) (taken (hashed w h t))) before
        (λ q. false≢true (sym f ∙ F.1 (subst (λ z. IsFull k l z) (sym ex) q)), tt)
