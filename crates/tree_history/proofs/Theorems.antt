-- The theorems of the entry tables over whole histories. Their statements name definitions of specs/ alone.
use mathlib.Core.Path.{◌≡◌, refl}
use mathlib.Core.List.{List}
use Prim.Native.Nat.{ℕ, ◌≤◌, ◌<◌}
use native.Mathlib.Omega.{arith}
use lib.ListN.{length}
use Rattle.order.specs.Answer.{Answer}
use Rattle.order.specs.Answer.{Done, BrokenTree}
use Rattle.tree_test.specs.Gate.{tree_gate}
use Rattle.tree_test.specs.Promise.{tested, test_done, TestPromise}
use Rattle.tree_sound.specs.Tables.{rooms_in}
use Rattle.tree_promises.specs.Kinds.{kind_view}
use Rattle.tree_promises.specs.Calls.{Carry}
use Rattle.tree_promises.specs.Format.{FormatPromise}
use Rattle.tree_history.specs.Whole.{Lent, Whole}
use Rattle.tree_history.specs.Call.{
  State,
  state,
  Call,
  format,
  test,
  lookup,
  list,
  stat,
  name_answer,
  carried,
  set_carried,
  make,
  rename,
  delete,
  opening,
  closing,
  KeptBy,
}
use Rattle.tree_history.specs.Run.{Run, none, calls}
use Rattle.tree_history.proofs.Rows.{of_first}
use Rattle.tree_history.proofs.Good.{Good}
use Rattle.tree_history.proofs.Calls as changes
use Rattle.tree_history.proofs.Looks as looks
use Rattle.tree_history.specs.Names.{AllLegal}
use Rattle.tree_history.proofs.Formats.{good_format, format_named}

good : (s : State) → Lent s.tables → {a : Answer} {u : State} → Call s a u → Good s a u
good s L (format dm fm o p) = good_format s L dm fm o p
good s L (test work o p) = looks.good_test s L work o p
good s L (lookup kind work p name o q) = looks.good_lookup s L work (kind_view kind s.tables) p name o q
good s L (list kind work x xs o q) = looks.good_list s L work (kind_view kind s.tables) x xs o q
good s L (stat work o q) = looks.good_stat s L work o q
good s L (name_answer work kind x o q) = looks.good_name s L work kind x o q
good s L (carried kind work x o q) = looks.good_carried s L work kind x o q
good s L (set_carried kind work x bytes o b q) = changes.good_set_carried s L work kind x bytes b o q
good s L (make kind work p name bytes o bn bb q) = changes.good_make s L work kind p name bytes bn bb o q
good s L (rename kind work x p name o bn q) = changes.good_rename s L work kind x p name bn o q
good s L (delete kind work x o q) = changes.good_delete s L work kind x o q
good s L (opening kind work x want o q) = changes.good_open s L work kind x want o q
good s L (closing kind work x want o q) = changes.good_close s L work kind x want o q

-- kept: a public call on tables of bytes, answered Done, leaves sound tables of bytes, as long as they were; refused, it leaves tables and open records as
-- they were
pub kept : (s u : State) (answer : Answer) → Lent s.tables → Call s answer u → KeptBy s answer u
kept s u answer L c = let g = good s L c in (g.done, g.same)

-- run_sound: over any history from sound tables, whatever the calls answer, the tables stay sound
pub run_sound : (s t : State) → Whole s.tables → Run s t → Whole t.tables
run_sound s t w none = w
run_sound s t w (calls r u answer run c) = let v : Whole r.tables = run_sound s r w run in (good r v.lent c).stays v

-- format_sound: and so from a format that is answered Done
pub format_sound : (s t : State) (dm fm : ℕ) (o : Carry) → Lent s.tables → FormatPromise s.tables dm fm o → o.answer ≡ Done
    → Run (state o.tables s.dir_opens s.file_opens) t → Whole t.tables
format_sound s t dm fm o L p e r = run_sound (state o.tables s.dir_opens s.file_opens) t ((good_format s L dm fm o p).done e).0 r

-- never_broken: after such a history no public call answers BrokenTree, the test among them
pub never_broken : (s t u : State) (answer : Answer) → Whole s.tables → Run s t → Call t answer u → answer ≡ BrokenTree → ⊥
never_broken s t u answer w r c = let v = run_sound s t w r in (good t v.lent c).unbroken v.sound

-- test_accepts: and the test, lent a work list that is long enough, answers Done
pub test_accepts : (s t : State) (work : List ℕ) (o : Answer × List ℕ) → Whole s.tables → Run s t
    → rooms_in t.tables ≤ length work
    → TestPromise t.tables work o
    → o.0 ≡ Done
test_accepts s t work o w r h =
    let v : Whole t.tables = run_sound s t w r in
    of_first (λ (x : Answer × List ℕ). x.0 ≡ Done)
    (tree_gate tested t.tables work)
    (test_done t.tables work) o (
      λ m. absurd (v.fits m),
      (λ m. absurd (v.inside m), (λ (k : length work < rooms_in t.tables). absurd (omega arith), (λ n. absurd (n v.sound), tt))),
    )
    (λ _. refl)

-- run_legal: over any history from sound tables with legal names alone, whatever names the calls are given and whatever they answer, every name stays legal
pub run_legal : (s t : State) → Whole s.tables → AllLegal s.tables → Run s t → AllLegal t.tables
run_legal s t w a none = a
run_legal s t w a (calls r u answer run c) = (good r (run_sound s r w run).lent c).named (run_legal s r w a run)

-- format_legal: and so from a format that is answered Done, whatever stood there before
pub format_legal : (s t : State) (dm fm : ℕ) (o : Carry) → Lent s.tables → FormatPromise s.tables dm fm o → o.answer ≡ Done
    → Run (state o.tables s.dir_opens s.file_opens) t → AllLegal t.tables
format_legal s t dm fm o L p e r =
    run_legal (state o.tables s.dir_opens s.file_opens) t ((good_format s L dm fm o p).done e).0 (format_named s.tables dm fm o p e) r
