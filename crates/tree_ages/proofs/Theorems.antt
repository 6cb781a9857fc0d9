-- Every history of calls from a format on leaves tables that are aged. The statements name definitions of specs/ alone, but for the ages that it carries.
use mathlib.Core.Path.{◌≡◌, refl, subst⁻¹}
use mathlib.Core.List.{List, [], ◌∷◌}
use mathlib.Core.Logic.{◌⊎◌, inl, inr}
use Prim.Native.Nat.{ℕ}
use Rattle.order.specs.First.{Row, First}
use Rattle.order.specs.Given.{None}
use Rattle.order.specs.Giving.{giving}
use Rattle.order.specs.Beside.{Beside}
use Rattle.order.specs.Answer.{Answer}
use Rattle.order.specs.Answer.{Done}
use Rattle.tree_sound.specs.Tables.{Tables, dirs, files}
use Rattle.tree_promises.specs.declared.Kind.{Kind}
use Rattle.tree_promises.specs.Kinds.{kind_view}
use Rattle.tree_promises.specs.Format.{format_rows, formatted, FormatPromise}
use Rattle.tree_promises.specs.Calls as own
use Rattle.tree_promises.specs.Calls.{Carry, carry_gives}
use Rattle.tree_history.specs.Whole.{Lent, Whole}
use Rattle.tree_history.specs.Call.{
  State,
  state,
  Call,
  format,
  test,
  lookup,
  list,
  stat,
  name_answer,
  carried,
  set_carried,
  make,
  rename,
  delete,
  opening,
  closing,
  opens_of,
}
use Rattle.tree_history.specs.Run.{Run, none, calls}
use Rattle.tree_history.proofs.Stable.{live_stable}
use Rattle.tree_history.proofs.May.{may_make, may_rename, may_delete}
use Rattle.tree_history.proofs.Rows.{Each, Gate, of_first, each_giving, none_giving, of_tree, of_opens}
use Rattle.tree_history.proofs.Formats.{good_format, format_bare}
use Rattle.tree_history.proofs.Theorems.{run_sound, format_sound}
use Rattle.tree_aged.specs.Age.{Aged}
use Rattle.tree_ages.proofs.Steps.{AgesIn, bare_ages, ages_found, ages_make, ages_rename, ages_delete, ages_carry, aged_of}

-- where no row applies Done is given
first_none : {A : Type 0} (rs : List (Row A)) (d : A) → None rs → First rs d d
first_none [] d n = refl
first_none (r ∷ rs) d n = inr (n.0, first_none rs d n.1)

-- what holds of all refusals holds of each
always : {P : Type 0} (tests : List (Row Answer)) → P → Each (λ a. P) tests
always [] p = tt
always (r ∷ rs) p = (λ _. p, always rs p)

-- a format leaves the root alone
ages_formatted : (s : State) → Lent s.tables → (dm fm : ℕ) (o : Carry) → FormatPromise s.tables dm fm o → o.answer ≡ Done → AgesIn o.tables
ages_formatted s L dm fm o q e =
    let w : Whole o.tables = ((good_format s L dm fm o q).done e).0 in
    let b = format_bare s.tables dm fm o q e in
    bare_ages o.tables w b.0 b.1

ages_format : (s : State) → Lent s.tables → AgesIn s.tables → (dm fm : ℕ) (o : Carry) → FormatPromise s.tables dm fm o → AgesIn o.tables
ages_format s L A dm fm o =
    of_first (λ (x : Carry). AgesIn x.tables) (format_rows s.tables dm fm) (carry_gives Done (formatted s.tables dm fm)) o (λ _. A, (λ _. A, tt))
    (λ n.
    ages_formatted s L dm fm (carry_gives Done (formatted s.tables dm fm))
    (first_none (format_rows s.tables dm fm) (carry_gives Done (formatted s.tables dm fm)) n) refl)

-- one call
ages_call : (s : State) → Lent s.tables → AgesIn s.tables → {a : Answer} {u : State} → Call s a u → AgesIn u.tables
ages_call s L A (format dm fm o p) = ages_format s L A dm fm o p
ages_call s L A (test work o p) = A
ages_call s L A (lookup kind work p name o q) = A
ages_call s L A (list kind work x xs o q) = A
ages_call s L A (stat work o q) = A
ages_call s L A (name_answer work kind x o q) = A
ages_call s L A (carried kind work x o q) = A
ages_call s L A (set_carried kind work x bytes o b q) =
    let t = s.tables in
    of_tree (λ (g : own.Carry). AgesIn g.tables) (λ a. own.carry_gives a t) t (record { misfit = A; outside = A; short = A; broken = λ _. A }) work
    (giving (λ a. own.carry_gives a t) (own.live_tests (kind_view kind t) x)) (own.carry_done kind t x bytes) o
    (each_giving (λ (g : own.Carry). AgesIn g.tables) (λ a. own.carry_gives a t) (own.live_tests (kind_view kind t) x) (always (own.live_tests (kind_view kind t) x) A))
    (λ w n. ages_carry t (w L) A kind x bytes b (live_stable (kind_view kind t) x n.0)) q
ages_call s L A (make kind work p name bytes o bn bb q) =
    let t = s.tables in
    let opens = opens_of kind s in
    of_opens (λ (g : own.Make). AgesIn g.tables) (λ a. own.make_gives a 0 t opens) t (record { misfit = A; outside = A; short = A; broken = λ _. A }) work
    (giving (λ a. own.make_gives a 0 t opens) (own.make_tests t (kind_view kind t) p name)) (own.make_done kind t opens p name bytes) o
    (each_giving (λ (g : own.Make). AgesIn g.tables) (λ a. own.make_gives a 0 t opens) (own.make_tests t (kind_view kind t) p name) (always (own.make_tests t (kind_view kind t) p name) A))
    (λ w n. ages_make t (w L) A kind p name bytes bn bb (may_make kind t p name (none_giving (λ a. own.make_gives a 0 t opens) (own.make_tests t (kind_view kind t) p name) n)))
    kind opens q
ages_call s L A (rename kind work x p name o bn q) =
    let t = s.tables in
    let opens = opens_of kind s in
    of_opens (λ (g : own.Change). AgesIn g.tables) (λ a. own.change_gives a t opens) t (record { misfit = A; outside = A; short = A; broken = λ _. A }) work
    (giving (λ a. own.change_gives a t opens) (own.rename_tests kind t opens x p name)) (own.rename_done kind t opens x p name) o
    (each_giving (λ (g : own.Change). AgesIn g.tables) (λ a. own.change_gives a t opens) (own.rename_tests kind t opens x p name) (always (own.rename_tests kind t opens x p name) A))
    (λ w n. ages_rename t (w L) A kind x p name bn (may_rename kind t opens x p name (none_giving (λ a. own.change_gives a t opens) (own.rename_tests kind t opens x p name) n)))
    kind opens q
ages_call s L A (delete kind work x o q) =
    let t = s.tables in
    let opens = opens_of kind s in
    of_opens (λ (g : own.Change). AgesIn g.tables) (λ a. own.change_gives a t opens) t (record { misfit = A; outside = A; short = A; broken = λ _. A }) work
    (giving (λ a. own.change_gives a t opens) (own.delete_tests kind t opens x)) (own.delete_done kind t opens x) o
    (each_giving (λ (g : own.Change). AgesIn g.tables) (λ a. own.change_gives a t opens) (own.delete_tests kind t opens x) (always (own.delete_tests kind t opens x) A))
    (λ w n. ages_delete t (w L) A kind opens x (may_delete kind t opens x (none_giving (λ a. own.change_gives a t opens) (own.delete_tests kind t opens x) n)))
    kind opens q
ages_call s L A (opening kind work x want o q) = A
ages_call s L A (closing kind work x want o q) = A

-- run_ages: over any history from sound tables whose entries have ages, they have ages
pub run_ages : (s t : State) → Whole s.tables → AgesIn s.tables → Run s t → AgesIn t.tables
run_ages s t w A none = A
run_ages s t w A (calls r u answer run c) = ages_call r (run_sound s r w run).lent (run_ages s r w A run) c

-- stays_aged: over any history from tables that are sound and aged, whoever wrote them, whatever the calls are given and whatever they answer, the tables
-- are aged
pub stays_aged : (s t : State) → Whole s.tables → Aged (dirs s.tables) (files s.tables) → Run s t → Aged (dirs t.tables) (files t.tables)
stays_aged s t w A r = aged_of t.tables (run_sound s t w r) (run_ages s t w (ages_found s.tables w A) r)

-- run_aged: over any history from a format that is answered Done, whatever stood there before, whatever the calls are given and whatever they answer, the
-- tables are aged: in neither is an entry newer than itself, and nothing is older than the root
pub run_aged : (s t : State) (dm fm : ℕ) (o : Carry) → Lent s.tables → FormatPromise s.tables dm fm o → o.answer ≡ Done
    → Run (state o.tables s.dir_opens s.file_opens) t → Aged (dirs t.tables) (files t.tables)
run_aged s t dm fm o L q e r =
    let w : Whole o.tables = ((good_format s L dm fm o q).done e).0 in
    aged_of t.tables (format_sound s t dm fm o L q e r)
    (run_ages (state o.tables s.dir_opens s.file_opens) t w (ages_formatted s L dm fm o q e) r)
