-- The calls that change neither tables nor open records, from their promises.
use mathlib.Core.Path.{refl}
use mathlib.Core.List.{List, []}
use Prim.Native.Nat.{ℕ}
use native.Mathlib.Omega.{arith}
use lib.ListN.{replicate}
use Rattle.order.specs.Beside.{Beside}
use Rattle.order.specs.Answer.{Answer}
use Rattle.order.specs.Answer.{Done, SizeMismatch, InvalidValue, WorkTooShort, NotFound}
use Rattle.tree_key.specs.Key.{name_key}
use Rattle.tree_table.specs.View.{View}
use Rattle.tree_test.specs.Gate.{tree_gate}
use Rattle.tree_test.specs.Promise.{tested, test_done, TestPromise}
use Rattle.tree_sound.specs.Tables.{Tables, dirs, files}
use Rattle.tree_promises.specs.declared.Kind.{Kind}
use Rattle.tree_promises.specs.Kinds.{carried_many, kind_view}
use Rattle.tree_promises.specs.Calls as calls
use Rattle.tree_promises.specs.Public.{LookupPromise, ListPromise, StatPromise, CarriedPromise}
use Rattle.tree.specs.Name.{NameAnswerPromise}
use Rattle.tree_history.specs.Whole.{Lent, Whole}
use Rattle.tree_history.specs.Call.{State}
use Rattle.tree_history.proofs.Rows.{of_first}
use Rattle.tree_history.proofs.Stable.{sound_stable}
use Rattle.tree_history.proofs.Sizes.{whole_step, after_wrote}
use Rattle.tree_history.proofs.Good.{Good, good_refused, good_broken, good_done, good_call, good_tree}

module _ (s : State) (L : Lent s.tables) (work : List ℕ) where
  abbrev t : Tables
  t = s.tables

  -- Done, and nothing changed
  looked : Whole t → Good s Done s
  looked w = good_done s s (whole_step t w t (after_wrote t [] [] [] []) w.sound) (λ a. a)

  pub good_test : (o : Answer × List ℕ) → TestPromise t work o → Good s o.0 s
  good_test o =
      of_first (λ (x : Answer × List ℕ). Good s x.0 s) (tree_gate tested t work) (test_done t work) o (
        λ _. good_refused s SizeMismatch (omega arith, λ e. omega arith),
        (
          λ _. good_refused s InvalidValue (omega arith, λ e. omega arith),
          (λ _. good_refused s WorkTooShort (omega arith, λ e. omega arith), (λ n. good_broken s n, tt)),
        ),
      )
      (λ n. looked (record { lent = L; fits = n.0; inside = n.1.0; sound = sound_stable (dirs t) (files t) n.1.1.1.0 }))

  pub good_lookup : (v : View) (p : ℕ) (name : List ℕ) (o : Beside calls.Lookup) → LookupPromise t v work p name o → Good s o.given.answer s
  good_lookup v p name o =
      good_call s L (λ (x : calls.Lookup). x.answer) (λ _. s) (λ a. calls.lookup_gives a 0 0) (λ a g. g) work (calls.lookup_rows v (name_key p name))
      (calls.lookup_done v (name_key p name)) o
      (λ _. good_refused s NotFound (omega arith, λ e. omega arith), tt)
      (λ w n. looked w)

  pub good_list : (v : View) (x : ℕ) (list : List ℕ) (o : Beside calls.Listing) → ListPromise t v work x list o → Good s o.given.answer s
  good_list v x list o =
      good_tree s L (λ (x : calls.Listing). x.answer) (λ _. s) (λ a. calls.list_gives a 0 list) (λ a g. g) work (calls.list_tests t v x list)
      (calls.list_done v x list) o refl (λ w n. looked w)

  pub good_stat : (o : Beside calls.Stat) → StatPromise t work o → Good s o.given.answer s
  good_stat o =
      good_tree s L (λ (x : calls.Stat). x.answer) (λ _. s) (λ a. calls.stat_gives a 0 0 0 0) (λ a g. g) work [] (calls.stat_done t) o refl (λ w n. looked w)

  module _ (kind : Kind) (x : ℕ) where
    pub good_name : (o : Beside Answer) → NameAnswerPromise t work kind x o → Good s o.given s
    good_name o =
        good_tree s L (λ (a : Answer). a) (λ _. s) (λ a. a) (λ a g. g) work (calls.live_tests (kind_view kind t) x) Done o refl (λ w n. looked w)

    pub good_carried : (o : Beside calls.Shown) → CarriedPromise kind t work x o → Good s o.given.answer s
    good_carried o =
        good_tree s L (λ (x : calls.Shown). x.answer) (λ _. s) (λ a. calls.shown_gives a (replicate (carried_many kind) 0)) (λ a g. g) work
        (calls.live_tests (kind_view kind t) x) (calls.carried_done kind t x) o refl (λ w n. looked w)
