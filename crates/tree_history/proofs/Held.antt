-- Readers and one writer, over whole histories. The statements name definitions of specs/ alone.
use mathlib.Core.Path.{◌≡◌, refl, sym, ap, ap₂, ◌∙◌}
use mathlib.Core.List.{List, [], ◌∷◌}
use mathlib.Core.Bool.{true}
use mathlib.Core.Logic.{◌⊎◌, inl, inr, ⊎_elim}
use Prim.Native.Nat.{ℕ, zero, suc, ◌+◌, ◌-◌, ◌≤◌, ◌<◌}
use native.Mathlib.Nat.{lt_of_not-le}
use native.Mathlib.Omega.{arith}
use lib.Dec.{eqb}
use lib.ListN.{length, get_or, set, length-set}
use lib.Seq.{get_or-set_same, set-get_or}
use borrow.Author.Tests.{eq-eqb, ne_eqb}
use Rattle.order.specs.Given.{None}
use Rattle.order.specs.Beside.{Beside, beside, within}
use Rattle.order.specs.First.{Row, First}
use Rattle.order.specs.Answer.{number_of}
use Rattle.order.specs.Answer.{Answer}
use Rattle.order.specs.Answer.{Done, Busy, NotOpen}
use Rattle.links.specs.Change.{pick}
use Rattle.tree_table.specs.View.{LiveIn}
use Rattle.tree_sound.specs.Tables.{Tables, dirs, files, rooms_in}
use Rattle.tree_opens.specs.Opens.{opened, with_open}
use Rattle.tree_opens.specs.Record.{readers, writer, total}
use Rattle.tree_opens.specs.Step.{holds, more, less, more_tests}
use Rattle.tree_opens.specs.declared.Want.{Want}
use Rattle.tree_opens.specs.declared.Want.TheVariants.{Reader, Writer}
use Rattle.tree_opens.proofs.Records.{reader_in, writer_in, reader_out, writer_out}
use Rattle.tree_promises.specs.declared.Kind.{Kind}
use Rattle.tree_promises.specs.declared.Kind.TheVariants.{Directory, File}
use Rattle.tree_promises.specs.Kinds.{kind_view, kind_room}
use Rattle.tree_promises.specs.Legal.{legal}
use Rattle.tree_promises.specs.Promise.{worked}
use Rattle.tree_promises.specs.Calls as calls
use Rattle.tree_promises.specs.Public.{RenamePromise, DeletePromise, OpenPromise, ClosePromise}
use Rattle.tree_history.specs.Whole.{Whole}
use Rattle.tree_history.specs.Call.{State, Call, opens_of}
use Rattle.tree_history.specs.Run.{Run, none, calls}
use Rattle.tree_history.specs.May.{MayRename}
use Rattle.tree_history.specs.Held.{NoneOpen, Move, stays, gains, loses, made, gone, move_of, counted, out, held_rename, held_delete}
use Rattle.tree_history.proofs.Stable.{le_stable, eq_stable, live_stable}
use Rattle.tree_history.proofs.Cures.{own_rows, rename_cures}
use Rattle.tree_history.proofs.Moves.{Told, told, Went, Refused, opens_outcome, live_low}

-- ---- one record

positive : (n : ℕ) → (n ≡ 0 → ⊥) → 0 < n
positive zero z = absurd (z refl)
positive (suc n) z = omega arith

module _ (r : ℕ) where
  room : (want : Want) → None (more_tests r want) → total r < 65535
  room want n = lt_of_not-le n.0

  no_writer : None (more_tests r Writer) → writer r ≡ 0
  no_writer n = eq_stable (writer r) 0 (λ k. n.1.0 (refl, k))

-- what is held after a move is what was held, counted on
held_move : (m : Move) (r r' : ℕ) (want : Want) → Told m r r' → holds r' want ≡ counted m want (holds r want)
held_move stays r r' want e = ap (λ z. holds z want) e
held_move (gains Reader) r r' Reader t = ap readers t.1 ∙ (reader_in r (room r Reader t.0)).0
held_move (gains Reader) r r' Writer t = ap writer t.1 ∙ (reader_in r (room r Reader t.0)).1
held_move (gains Writer) r r' Reader t = ap readers t.1 ∙ (writer_in r (no_writer r t.0)).0
held_move (gains Writer) r r' Writer t = ap writer t.1 ∙ (writer_in r (no_writer r t.0)).1 ∙ ap (λ z. z + 1) (sym (no_writer r t.0))
held_move (loses Reader) r r' Reader t = ap readers t.1 ∙ (reader_out r (positive (readers r) t.0.0)).0
held_move (loses Reader) r r' Writer t = ap writer t.1 ∙ (reader_out r (positive (readers r) t.0.0)).1
held_move (loses Writer) r r' Reader t = ap readers t.1 ∙ (writer_out r (positive (writer r) t.0.0)).0
held_move (loses Writer) r r' Writer t = ap writer t.1 ∙ (writer_out r (positive (writer r) t.0.0)).1
held_move made r r' Reader e = ap readers e
held_move made r r' Writer e = ap writer e
held_move gone r r' Reader e = ap readers e
held_move gone r r' Writer e = ap writer e

-- one writer at most, and within the limit
fine_move : (m : Move) (r r' : ℕ) → Told m r r' → (total r' ≤ total r) ⊎ (total r' ≤ 65535)
fine_move stays r r' e = inl (omega arith)
fine_move (gains Reader) r r' t = inr (omega (arith, held_move (gains Reader) r r' Reader t, held_move (gains Reader) r r' Writer t, room r Reader t.0))
fine_move (gains Writer) r r' t = inr (omega (arith, held_move (gains Writer) r r' Reader t, held_move (gains Writer) r r' Writer t, room r Writer t.0))
fine_move (loses Reader) r r' t = inl (omega (arith, held_move (loses Reader) r r' Reader t, held_move (loses Reader) r r' Writer t))
fine_move (loses Writer) r r' t = inl (omega (arith, held_move (loses Writer) r r' Reader t, held_move (loses Writer) r r' Writer t))
fine_move made r r' e = inr (omega arith)
fine_move gone r r' e = inl (omega arith)

single_move : (m : Move) (r r' : ℕ) → Told m r r' → writer r ≤ 1 → writer r' ≤ 1
single_move stays r r' e h = omega arith
single_move (gains Reader) r r' t h = omega (arith, held_move (gains Reader) r r' Writer t)
single_move (gains Writer) r r' t h = omega (arith, held_move (gains Writer) r r' Writer t, no_writer r t.0)
single_move (loses Reader) r r' t h = omega (arith, held_move (loses Reader) r r' Writer t)
single_move (loses Writer) r r' t h = omega (arith, held_move (loses Writer) r r' Writer t)
single_move made r r' e h = omega arith
single_move gone r r' e h = omega arith

-- ---- histories

-- limit: no call, whatever the records are, brings readers and writer of an inode together above 65,535
pub limit : (s u : State) (answer : Answer) → Call s answer u → (kind : Kind) (x : ℕ)
    → (total (opened (opens_of kind u) x) ≤ total (opened (opens_of kind s) x)) ⊎ (total (opened (opens_of kind u) x) ≤ 65535)
limit s u answer c kind x = fine_move (move_of kind x c) (opened (opens_of kind s) x) (opened (opens_of kind u) x) (told kind x s c)

module _ (s : State) (N : NoneOpen s) (kind : Kind) (x : ℕ) where
  -- held_out: over any history from none open, whatever the calls answer, the records say what the calls gave and did not get back
  pub held_out : (t : State) (r : Run s t) (want : Want) → holds (opened (opens_of kind t) x) want ≡ out r kind x want
  held_out t none Reader = ap readers (N kind x)
  held_out t none Writer = ap writer (N kind x)
  held_out t (calls u v a r c) want =
      held_move (move_of kind x c) (opened (opens_of kind u) x) (opened (opens_of kind v) x) want (told kind x u c)
      ∙ ap (counted (move_of kind x c) want) (held_out u r want)

  single : (t : State) → Run s t → writer (opened (opens_of kind t) x) ≤ 1
  single t none = omega (arith, N kind x)
  single t (calls u v a r c) =
      single_move (move_of kind x c) (opened (opens_of kind u) x) (opened (opens_of kind v) x) (told kind x u c) (single u r)

  -- one_writer: so there never are two writers
  pub one_writer : (t : State) (r : Run s t) → out r kind x Writer ≤ 1
  one_writer t r = omega (arith, held_out t r Writer, single t r)

  few : (t : State) → Run s t → total (opened (opens_of kind t) x) ≤ 65535
  few t none = omega (arith, N kind x)
  few t (calls u v a r c) =
      ⊎_elim (λ (h : total (opened (opens_of kind v) x) ≤ total (opened (opens_of kind u) x)). omega (arith, few u r)) (λ (h : total (opened (opens_of kind v) x) ≤ 65535). h)
      (limit u v a c kind x)

  -- within_limit: nor more than 65,535 readers and writers together
  pub within_limit : (t : State) (r : Run s t) → out r kind x Reader + out r kind x Writer ≤ 65535
  within_limit t r = omega (arith, held_out t r Reader, held_out t r Writer, few t r)

  -- given_back: and each open that is out can be given back, as long as the entry is there: a close with enough work list is answered Done
  pub given_back : (t : State) (r : Run s t) (want : Want) (work : List ℕ) (o : Beside calls.Opening) → 0 < out r kind x want
      → Whole t.tables → rooms_in t.tables ≤ length work → kind_room kind t.tables ≤ length (opens_of kind t) → LiveIn (kind_view kind t.tables) x
      → ClosePromise kind t.tables (opens_of kind t) work x want o → o.given.answer ≡ Done
  given_back t r want work o h w long full l p =
      ⊎_elim (λ q. absurd (q.0 l))
      (λ q. ⊎_elim (λ q. absurd (omega (arith, held_out t r want, q.0))) (λ q. ap (λ (x : Beside calls.Opening). x.given.answer) q.1) q.1)
      (own_rows kind t.tables w (opens_of kind t) work long full (λ a. calls.opening_gives a (opens_of kind t))
      (calls.close_rows (kind_view kind t.tables) (opens_of kind t) x want) (calls.close_done (opens_of kind t) x want) o p)

-- ---- rename and delete of what is held

module _ (kind : Kind) (s : Tables) (w : Whole s) (opens work : List ℕ) (long : rooms_in s ≤ length work) (full : kind_room kind s ≤ length opens) (x : ℕ)
    (o : Beside calls.Change) where
  abbrev record_of : ℕ
  record_of = opened opens x

  abbrev answer : Beside calls.Change → Answer
  answer c = c.given.answer

  -- rename_held: an entry that may be renamed and that its writer holds is renamed, whatever readers there are
  pub rename_held : (p : ℕ) (name : List ℕ) → MayRename kind s x p name → (writer record_of ≡ 0 → ⊥) → legal name ≡ true → RenamePromise kind s opens work x p name o
      → answer o ≡ held_rename (readers record_of)
  rename_held p name m h e q = rename_cures kind s w opens work long full x p name o m h e q

  -- delete_held: an entry that else may be deleted needs its writer, and is Busy while readers remain
  pub delete_held : LiveIn (kind_view kind s) x → (kind ≡ Directory → x ≡ 1 → ⊥) → (kind ≡ Directory → (0 < (dirs s).head x) ⊎ (0 < (files s).head x) → ⊥)
      → DeletePromise kind s opens work x o → answer o ≡ held_delete (writer record_of) (readers record_of)
  delete_held l root children p =
      go kind l root children (own_rows kind s w opens work long full (λ a. calls.change_gives a s opens) (calls.delete_rows kind s opens x) (calls.delete_done kind s opens x) o p)
    where
      shut : (a b : Answer) → writer record_of ≡ 0 → a ≡ pick (eqb (writer record_of) 0) a b
      shut a b h = sym (ap (λ t. pick t a b) (eq-eqb (writer record_of) 0 h))

      shared : (a b : Answer) → (writer record_of ≡ 0 → ⊥) → b ≡ pick (eqb (writer record_of) 0) a b
      shared a b h = sym (ap (λ t. pick t a b) (ne_eqb (writer record_of) 0 h))

      busy : (a b : Answer) → 0 < readers record_of → b ≡ pick (eqb (readers record_of) 0) a b
      busy a b h = sym (ap (λ t. pick t a b) (ne_eqb (readers record_of) 0 (λ (e : readers record_of ≡ 0). omega arith)))

      free : (a b : Answer) → (0 < readers record_of → ⊥) → a ≡ pick (eqb (readers record_of) 0) a b
      free a b h = sym (ap (λ t. pick t a b) (eq-eqb (readers record_of) 0 (eq_stable (readers record_of) 0 (λ k. h (positive (readers record_of) k)))))

      go : (k : Kind) → LiveIn (kind_view k s) x → (k ≡ Directory → x ≡ 1 → ⊥) → (k ≡ Directory → (0 < (dirs s).head x) ⊎ (0 < (files s).head x) → ⊥)
          → First (within (worked s work) (calls.delete_rows k s opens x)) (beside (calls.delete_done k s opens x) (worked s work)) o
          → answer o ≡ held_delete (writer record_of) (readers record_of)
      go k l root children (inl h) = absurd (h.0 l)
      go k l root children (inr (a, inl h)) = ap answer h.1 ∙ shut NotOpen (pick (eqb (readers record_of) 0) Done Busy) h.0
      go k l root children (inr (a, inr (b, inl h))) = ap answer h.1 ∙ busy Done Busy h.0 ∙ shared NotOpen (pick (eqb (readers record_of) 0) Done Busy) b
      go Directory l root children (inr (a, inr (b, inr (c, inl h)))) = absurd (root refl h.0)
      go Directory l root children (inr (a, inr (b, inr (c, inr (d, inl h))))) = absurd (children refl h.0)
      go Directory l root children (inr (a, inr (b, inr (c, inr (d, inr (e, h)))))) =
          ap answer h ∙ free Done Busy c ∙ shared NotOpen (pick (eqb (readers record_of) 0) Done Busy) b
      go File l root children (inr (a, inr (b, inr (c, h)))) = ap answer h ∙ free Done Busy c ∙ shared NotOpen (pick (eqb (readers record_of) 0) Done Busy) b

-- ---- an open and its close

again : (l : List ℕ) (x a b : ℕ) → set (set l x a) x b ≡ set l x b
again [] x a b = refl
again (y ∷ l) zero a b = refl
again (y ∷ l) (suc x) a b = ap (λ z. y ∷ z) (again l x a b)

back : (r : ℕ) (want : Want) → less (more r want) want ≡ r
back r Reader = omega arith
back r Writer = omega arith

-- after an open that may go, the kind is held
still : (r : ℕ) (want : Want) → None (more_tests r want) → holds (more r want) want ≡ 0 → ⊥
still r Reader n e = omega (arith, held_move (gains Reader) r (r + 1) Reader (n, refl), e)
still r Writer n e = omega (arith, held_move (gains Writer) r (r + 2147483648) Writer (n, refl), e)

module _ (kind : Kind) (s : Tables) (w : Whole s) (opens : List ℕ) (x : ℕ) (want : Want) where
  module _ (opens' work : List ℕ) (long : rooms_in s ≤ length work) (full : kind_room kind s ≤ length opens) (low : x < length opens) (l : LiveIn (kind_view kind s) x)
      (n : None (more_tests (opened opens x) want)) (e : opens' ≡ with_open opens x (more (opened opens x) want)) (o : Beside calls.Opening)
      (p : ClosePromise kind s opens' work x want o) where
    record_is : opened opens' x ≡ more (opened opens x) want
    unfolding opened with_open
    record_is = ap (λ (z : List ℕ). get_or z x 0) e ∙ get_or-set_same opens x (more (opened opens x) want) 0 low

    same_length : length opens' ≡ length opens
    unfolding with_open
    same_length = ap length e ∙ length-set opens x (more (opened opens x) want)

    restored : with_open opens' x (less (opened opens' x) want) ≡ opens
    unfolding opened with_open
    restored =
        ap₂ (λ (z : List ℕ) (r : ℕ). set z x r) e (ap (λ r. less r want) record_is ∙ back (opened opens x) want)
        ∙ again opens x (more (opened opens x) want) (opened opens x)
        ∙ set-get_or opens x 0

    closes : (o.given.answer ≡ Done) × (o.given.opens ≡ opens)
    closes =
        ⊎_elim (λ q. absurd (q.0 l))
        (λ q.
        ⊎_elim (λ q. absurd (still (opened opens x) want n (ap (λ r. holds r want) (sym record_is) ∙ q.0)))
        (λ q. (ap (λ (x : Beside calls.Opening). x.given.answer) q.1, ap (λ (x : Beside calls.Opening). x.given.opens) q.1 ∙ restored)) q.1)
        (own_rows kind s w opens' work long (omega (arith, same_length)) (λ a. calls.opening_gives a opens')
        (calls.close_rows (kind_view kind s) opens' x want) (calls.close_done opens' x want) o p)

  abbrev tests : List (Row Answer)
  tests = calls.open_tests (kind_view kind s) opens x want

  -- close_again: an open that was Done is given back by a close of its kind, which is Done and leaves the records as they were before the open
  pub close_again : (work work' : List ℕ) (o o' : Beside calls.Opening) → OpenPromise kind s opens work x want o → o.given.answer ≡ Done
      → rooms_in s ≤ length work' → ClosePromise kind s o.given.opens work' x want o'
      → (o'.given.answer ≡ Done) × (o'.given.opens ≡ opens)
  close_again work work' o o' p d long q =
      ⊎_elim
      (λ (g : Went s ((length work < rooms_in s) ⊎ (length opens < kind_room kind s)) tests (calls.open_done opens x want) o.given).
      let full : kind_room kind s ≤ length opens = le_stable (kind_room kind s) (length opens) (λ k. g.long (inr (lt_of_not-le k))) in
      let l : LiveIn (kind_view kind s) x = live_stable (kind_view kind s) x g.none.0 in
      closes o.given.opens work' long full (omega (arith, live_low kind s x w.sound l)) l g.none.1 (ap (λ (c : calls.Opening). c.opens) g.is) o' q)
      (λ (r : Refused (λ a. calls.opening_gives a opens) o.given).
      absurd (let e : r.answer ≡ Done = sym (ap (λ (c : calls.Opening). c.answer) r.is) ∙ d in omega (arith, r.some, ap number_of e)))
      (opens_outcome (λ a. calls.opening_gives a opens) s work (calls.open_done opens x want) o tests refl kind opens p)
