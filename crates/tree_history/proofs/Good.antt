-- What every call leaves, from its promise.
use mathlib.Core.Path.{◌≡◌, refl, ap}
use mathlib.Core.List.{List, [], ◌∷◌}
use mathlib.Core.Bool.{Bool, true, false, not, ◌&&◌, false≢true}
use Prim.Native.Nat.{ℕ, zero, suc, ◌<◌}
use lib.Dec.{eqb}
use borrow.Author.Tests.{eqb-false}
use native.Mathlib.Omega.{arith}
use Rattle.order.specs.First.{Row}
use Rattle.order.specs.Given.{None}
use Rattle.order.specs.Beside.{Beside}
use Rattle.order.specs.Answer.{number_of}
use Rattle.order.specs.Answer.{Answer}
use Rattle.order.specs.Answer.{Done, SizeMismatch, InvalidValue, WorkTooShort, BrokenTree}
use Rattle.order.specs.Giving.{giving}
use Rattle.tree_sound.specs.Tables.{SoundIn}
use Rattle.tree_promises.specs.declared.Kind.{Kind}
use Rattle.tree_promises.specs.Promise.{TreePromise, OpensPromise}
use Rattle.tree_history.specs.Whole.{Lent, Whole, SameSizes}
use Rattle.tree_history.specs.Call.{State}
use Rattle.tree_history.specs.Names.{AllLegal}
use Rattle.tree_history.proofs.Rows.{Each, each_giving, none_giving, Gate, of_tree, of_opens}

-- a call with the answer a led from the state s to the state u
pub record Good (s : State) (a : Answer) (u : State) : Type 0 where
  pub done : a ≡ Done → Whole u.tables × SameSizes s.tables u.tables
  pub same : (a ≡ Done → ⊥) → u ≡ s
  pub stays : Whole s.tables → Whole u.tables
  pub named : AllLegal s.tables → AllLegal u.tables
  pub unbroken : SoundIn s.tables → a ≡ BrokenTree → ⊥

-- a refusal, but BrokenTree, by its number
abbrev pub Refusal : Answer → Type 0
Refusal a = (0 < number_of a) × (number_of a ≡ 9 → ⊥)

pub good_refused : (s : State) (a : Answer) → Refusal a → Good s a s
good_refused s a r = record {
  done = λ e. absurd (let h : 0 < number_of a = r.0 in omega (arith, ap number_of e));
  same = λ _. refl;
  stays = λ w. w;
  named = λ a. a;
  unbroken = λ _ e. r.1 (ap number_of e);
}

pub good_broken : (s : State) → (SoundIn s.tables → ⊥) → Good s BrokenTree s
good_broken s n = record { done = λ e. absurd (omega (arith, ap number_of e)); same = λ _. refl; stays = λ w. w; named = λ a. a; unbroken = λ S _. n S }

pub good_done : (s u : State) → Whole u.tables × SameSizes s.tables u.tables → (AllLegal s.tables → AllLegal u.tables) → Good s Done u
good_done s u w a = record { done = λ _. w; same = λ n. absurd (n refl); stays = λ _. w.0; named = a; unbroken = λ _ e. omega (arith, ap number_of e) }

-- rows that refuse: a test, so that a call's rows need no list of their own here
abbrev pub refuses : Answer → Bool
refuses a = not (eqb (number_of a) 0) && not (eqb (number_of a) 9)

abbrev pub Refusals : List (Row Answer) → Bool
Refusals [] = true
Refusals (r ∷ rs) = refuses r.gives && Refusals rs

-- a test that holds of two, holds of each
pub both_left : (a b : Bool) → a && b ≡ true → a ≡ true
both_left true b e = refl
both_left false b e = e

pub both_right : (a b : Bool) → a && b ≡ true → b ≡ true
both_right true b e = e
both_right false b e = absurd (false≢true e)

pub refusal_of : (a : Answer) → refuses a ≡ true → Refusal a
refusal_of a = go (number_of a) (eqb (number_of a) 0) (eqb (number_of a) 9) refl refl
  where
    go : (n : ℕ) (t u : Bool) → eqb n 0 ≡ t → eqb n 9 ≡ u → not t && not u ≡ true → (0 < n) × (n ≡ 9 → ⊥)
    go n true u p q e = absurd (false≢true e)
    go n false true p q e = absurd (false≢true e)
    go n false false p q e = (let z : (n ≡ 0) → ⊥ = eqb-false n 0 p in positive n z, eqb-false n 9 q)
      where
        positive : (n : ℕ) → (n ≡ 0 → ⊥) → 0 < n
        positive zero z = absurd (z refl)
        positive (suc n) z = omega arith

module _ {A : Type 0} (s : State) (L : Lent s.tables) (answer_of : A → Answer) (after : A → State) (refuse : Answer → A)
    (unchanged : (a : Answer) → Good s a s → Good s (answer_of (refuse a)) (after (refuse a))) where
  abbrev GoodAt : A → Type 0
  GoodAt x = Good s (answer_of x) (after x)

  gate : Gate GoodAt refuse s.tables
  gate = record {
    misfit = unchanged SizeMismatch (good_refused s SizeMismatch (omega arith, λ e. omega arith));
    outside = unchanged InvalidValue (good_refused s InvalidValue (omega arith, λ e. omega arith));
    short = unchanged WorkTooShort (good_refused s WorkTooShort (omega arith, λ e. omega arith));
    broken = λ n. unchanged BrokenTree (good_broken s n);
  }

  each : (tests : List (Row Answer)) → Refusals tests ≡ true → Each (λ a. GoodAt (refuse a)) tests
  each [] h = tt
  each (r ∷ rs) h =
      (λ _. unchanged r.gives (good_refused s r.gives (refusal_of r.gives (both_left (refuses r.gives) (Refusals rs) h))), each rs (both_right (refuses r.gives) (Refusals rs) h))

  -- a call whose own rows are good, and that is good where none applies
  pub good_call : (work : List ℕ) (own : List (Row A)) (done : A) (o : Beside A) → Each GoodAt own → (Whole s.tables → None own → GoodAt done)
      → TreePromise refuse s.tables work own done o
      → GoodAt o.given
  good_call work own done o g f = of_tree GoodAt refuse s.tables gate work own done o g (λ w. f (w L))

  -- the same where the own rows say the answer alone; of a call that takes no open records, and of one that takes a kind's
  module _ (work : List ℕ) (tests : List (Row Answer)) (done : A) (o : Beside A) (h : Refusals tests ≡ true) (f : Whole s.tables → None tests → GoodAt done) where
    pub good_tree : TreePromise refuse s.tables work (giving refuse tests) done o → GoodAt o.given
    good_tree =
        of_tree GoodAt refuse s.tables gate work (giving refuse tests) done o (each_giving GoodAt refuse tests (each tests h))
        (λ w n. f (w L) (none_giving refuse tests n))

    pub good_opens : (kind : Kind) (opens : List ℕ) → OpensPromise kind refuse s.tables opens work (giving refuse tests) done o → GoodAt o.given
    good_opens =
        of_opens GoodAt refuse s.tables gate work (giving refuse tests) done o (each_giving GoodAt refuse tests (each tests h))
        (λ w n. f (w L) (none_giving refuse tests n))
