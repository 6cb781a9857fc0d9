-- New names: what a bad one is answered, and that a bad name that is there keeps no rename off.
use mathlib.Core.Path.{◌≡◌, refl, sym, ap, ◌∙◌}
use mathlib.Core.Bool.{true, false, false≢true}
use mathlib.Core.List.{List}
use mathlib.Core.Logic.{◌⊎◌, inl, inr, ⊎_elim}
use Prim.Native.Nat.{ℕ, ◌≤◌, ◌<◌}
use native.Mathlib.Omega.{arith}
use lib.Dec.{eqb}
use lib.ListN.{length}
use borrow.Author.Tests.{eq-eqb, ne_eqb}
use Rattle.order.specs.First.{Row, First}
use Rattle.order.specs.Giving.{giving}
use Rattle.order.specs.Beside.{Beside, beside, within, Promised}
use Rattle.order.specs.Answer.{Answer}
use Rattle.order.specs.Answer.{Done, InvalidValue, DeletingRoot, NotOpen}
use Rattle.links.specs.Change.{pick}
use Rattle.tree_key.specs.Key.{name_key}
use Rattle.tree_table.specs.View.{LiveIn}
use Rattle.tree_test.specs.Gate.{tree_gate}
use Rattle.tree_test.specs.Promise.{tested, test_done, TestPromise}
use Rattle.tree_sound.specs.Tables.{Tables, rooms_in}
use Rattle.tree_opens.specs.Opens.{opened}
use Rattle.tree_opens.specs.Record.{writer}
use Rattle.tree_promises.specs.declared.Kind.{Kind}
use Rattle.tree_promises.specs.declared.Kind.TheVariants.{Directory, File}
use Rattle.tree_promises.specs.Kinds.{kind_view, kind_room}
use Rattle.tree_promises.specs.Legal.{legal}
use Rattle.tree_promises.specs.Has.{Has}
use Rattle.tree_promises.specs.Promise.{worked, TreePromise, OpensPromise}
use Rattle.tree_promises.specs.Calls.{
  Lookup,
  Make,
  Change,
  lookup_gives,
  lookup_rows,
  lookup_done,
  make_gives,
  make_rows,
  make_done,
  change_gives,
  rename_tests,
  rename_rows,
  rename_done,
}
use Rattle.tree_promises.specs.Public.{LookupPromise, MakePromise, RenamePromise}
use Rattle.tree_history.specs.Whole.{Whole}
use Rattle.tree_history.specs.May.{MayRename}
use Rattle.tree_history.specs.Names.{name_in, bad_make, bad_rename, named_lookup, named_test}
use Rattle.tree_history.proofs.Rows.{Each, each_giving, of_first, of_within, front}

-- whole tables: once the work list is long enough, the call's own rows decide
module _ (s : Tables) (w : Whole s) (work : List ℕ) {A : Type 0} (refuse : Answer → A) (own : List (Row A)) (done : A) (o : Beside A) where
  passed : (short : Type 0) → (short → ⊥) → Promised (front refuse s short work) (worked s work) own done o
      → First (within (worked s work) own) (beside done (worked s work)) o
  passed short n (inl p) = absurd (w.fits p.0)
  passed short n (inr (m, inl p)) = absurd (w.inside p.0)
  passed short n (inr (m, inr (i, inl p))) = absurd (n p.0)
  passed short n (inr (m, inr (i, inr (k, inl p)))) = absurd (p.0 w.sound)
  passed short n (inr (m, inr (i, inr (k, inr (u, p))))) = p

module _ (s : Tables) (w : Whole s) (work : List ℕ) (long : rooms_in s ≤ length work) where
  looked : {A : Type 0} (refuse : Answer → A) (own : List (Row A)) (done : A) (o : Beside A) → TreePromise refuse s work own done o
      → First (within (worked s work) own) (beside done (worked s work)) o
  unfolding TreePromise
  looked refuse own done o p = passed s w work refuse own done o (length work < rooms_in s) (λ k. omega arith) p

  -- name_found: an entry is found under its key, whatever its name is
  pub name_found : (kind : Kind) (p : ℕ) (name : List ℕ) (o : Beside Lookup) → Has (kind_view kind s) (name_key p name)
      → LookupPromise s (kind_view kind s) work p name o → o.given.answer ≡ named_lookup (legal name)
  name_found kind p name o h q =
      ⊎_elim (λ n. absurd (n.0 h)) (λ n. ap (λ (x : Beside Lookup). x.given.answer) n.1)
      (looked (λ a. lookup_gives a 0 0) (lookup_rows (kind_view kind s) (name_key p name)) (lookup_done (kind_view kind s) (name_key p name)) o q)

  -- name_sound: and the test accepts the tables that it stands in
  pub name_sound : (kind : Kind) (x : ℕ) (o : Answer × List ℕ) → TestPromise s work o → o.0 ≡ named_test (legal (name_in ((kind_view kind s).key x)))
  name_sound kind x o =
      of_first (λ (y : Answer × List ℕ). y.0 ≡ Done) (tree_gate tested s work) (test_done s work) o
      (λ m. absurd (w.fits m), (λ m. absurd (w.inside m), (λ (k : length work < rooms_in s). absurd (omega arith), (λ n. absurd (n w.sound), tt))))
      (λ _. refl)

-- and open records that are long enough
module _ (kind : Kind) (s : Tables) (w : Whole s) (opens work : List ℕ) (long : rooms_in s ≤ length work) (counted : kind_room kind s ≤ length opens) where
  abbrev short : Type 0
  short = (length work < rooms_in s) ⊎ (length opens < kind_room kind s)

  not_short : short → ⊥
  not_short h = ⊎_elim (λ (k : length work < rooms_in s). omega arith) (λ (k : length opens < kind_room kind s). omega arith) h

  pub own_rows : {A : Type 0} (refuse : Answer → A) (own : List (Row A)) (done : A) (o : Beside A) → OpensPromise kind refuse s opens work own done o
      → First (within (worked s work) own) (beside done (worked s work)) o
  unfolding OpensPromise
  own_rows refuse own done o p = passed s w work refuse own done o short not_short p

  -- bad_make_lem: a make with a bad name is InvalidValue, whatever its parent is
  pub bad_make_lem : (p : ℕ) (name bytes : List ℕ) (o : Beside Make) → legal name ≡ false → MakePromise kind s opens work p name bytes o → o.given.answer ≡ bad_make
  bad_make_lem p name bytes o bad q =
      ⊎_elim (λ h. ap (λ (x : Beside Make). x.given.answer) h.1) (λ h. absurd (h.0 bad))
      (own_rows (λ a. make_gives a 0 s opens) (make_rows s (kind_view kind s) opens p name) (make_done kind s opens p name bytes) o q)

  module _ (x p : ℕ) (name : List ℕ) (o : Beside Change) where
    abbrev answer : Beside Change → Answer
    answer c = c.given.answer

    -- rename_cures: an entry that may be renamed and that a writer holds gets a legal name, whatever name it has
    pub rename_cures : MayRename kind s x p name → (writer (opened opens x) ≡ 0 → ⊥) → legal name ≡ true → RenamePromise kind s opens work x p name o → answer o ≡ Done
    rename_cures m held e q =
        of_within (λ (c : Change). c.answer ≡ Done) (worked s work) (rename_rows kind s opens x p name) (rename_done kind s opens x p name) o
        (each_giving (λ (c : Change). c.answer ≡ Done) (λ a. change_gives a s opens) (rename_tests kind s opens x p name) (none kind m))
        (λ _. refl)
        (own_rows (λ a. change_gives a s opens) (rename_rows kind s opens x p name) (rename_done kind s opens x p name) o q)
      where
        bad : {P : Type 0} → legal name ≡ false → P
        bad h = absurd (false≢true (sym h ∙ e))

        none : (k : Kind) → MayRename k s x p name → Each (λ a. a ≡ Done) (rename_tests k s opens x p name)
        none Directory m = (
          λ h. absurd (h m.subject),
          (
            λ h. absurd (held h),
            (
              λ h. absurd (m.not_root refl h),
              (λ h. bad h, (λ h. absurd (h m.parent), (λ h. absurd (m.not_into_itself refl h), (λ h. absurd (m.free_key h), tt)))),
            ),
          ),
        )
        none File m = (
          λ h. absurd (h m.subject),
          (λ h. absurd (held h), (λ h. bad h, (λ h. absurd (h m.parent), (λ h. absurd (m.free_key h), tt)))),
        )

    -- bad_rename_lem: a bad new name of a live entry is answered once the entry itself is judged, whatever the new parent is
    pub bad_rename_lem : LiveIn (kind_view kind s) x → legal name ≡ false → RenamePromise kind s opens work x p name o → answer o ≡ bad_rename kind (writer (opened opens x)) x
    bad_rename_lem l bad q = go kind l (own_rows (λ a. change_gives a s opens) (rename_rows kind s opens x p name) (rename_done kind s opens x p name) o q)
      where
        shut : (a b : Answer) → writer (opened opens x) ≡ 0 → a ≡ pick (eqb (writer (opened opens x)) 0) a b
        shut a b h = sym (ap (λ t. pick t a b) (eq-eqb (writer (opened opens x)) 0 h))

        kept : (a b : Answer) → (writer (opened opens x) ≡ 0 → ⊥) → b ≡ pick (eqb (writer (opened opens x)) 0) a b
        kept a b h = sym (ap (λ t. pick t a b) (ne_eqb (writer (opened opens x)) 0 h))

        go : (k : Kind) → LiveIn (kind_view k s) x → First (within (worked s work) (rename_rows k s opens x p name)) (beside (rename_done k s opens x p name) (worked s work)) o
            → answer o ≡ bad_rename k (writer (opened opens x)) x
        go k l (inl h) = absurd (h.0 l)
        go Directory l (inr (a, inl h)) = ap answer h.1 ∙ shut NotOpen (pick (eqb x 1) DeletingRoot InvalidValue) h.0
        go Directory l (inr (a, inr (b, inl h))) =
            ap answer h.1 ∙ sym (ap (λ t. pick t DeletingRoot InvalidValue) (eq-eqb x 1 h.0)) ∙ kept NotOpen (pick (eqb x 1) DeletingRoot InvalidValue) b
        go Directory l (inr (a, inr (b, inr (c, inl h)))) =
            ap answer h.1 ∙ sym (ap (λ t. pick t DeletingRoot InvalidValue) (ne_eqb x 1 c)) ∙ kept NotOpen (pick (eqb x 1) DeletingRoot InvalidValue) b
        go Directory l (inr (a, inr (b, inr (c, inr (d, h))))) = absurd (d bad)
        go File l (inr (a, inl h)) = ap answer h.1 ∙ shut NotOpen InvalidValue h.0
        go File l (inr (a, inr (b, inl h))) = ap answer h.1 ∙ kept NotOpen InvalidValue b
        go File l (inr (a, inr (b, inr (c, h)))) = absurd (c bad)
