-- What a gate that is open gives the calls on one table, and what they then give of the four.
use mathlib.Core.Path.{◌≡◌, refl, sym, subst⁻¹}
use mathlib.Core.Bool.{true, false, false≢true}
use mathlib.Core.List.{List, []}
use Prim.Native.Nat.{ℕ}
use Rattle.order.specs.First.{First}
use Rattle.order.specs.Giving.{giving}
use Rattle.order.specs.Beside.{beside}
use Rattle.std.specs.Prelude.{Ok, Err, is_err}
use Rattle.order.specs.declared.Refusal.{Refusal}
use Rattle.order.specs.Answer.{Answer, Done}
use Rattle.tree_sound.specs.Tables.{Tables, tables, dirs, files}
use Rattle.tree_test.specs.Promise.{TreeGateOf, PackedGateOf}
use Rattle.tree_promises.specs.declared.Kind.TheVariants.{Directory, File}
use Rattle.tree_packed.specs.Opens.{opens}
use Rattle.tree_opens.specs.declared.Want.{Want}
use Rattle.tree_promises.specs.Inner.Ready.{Single, SingleOpens, alone, set_gives, set_rows}
use Rattle.tree_promises.specs.Inner.Opening.{OpeningIn, opening_in, OpenIn, CloseIn}
use Rattle.tree_promises.specs.Packed.{Outcome, gives, open_tests, open_done, close_tests, close_done, PackedOpen, PackedClose}
use Rattle.tree_promises.specs.Steps.{with_carried}
use Rattle.tree_promises.specs.Calls.{carry_gives, carry_rows, carry_done}
use Rattle.tree_promises.specs.Public.{SetCarriedDirPromise, SetCarriedFilePromise}
use Rattle.tree_look.proofs.Opens.{seen, set_dir, set_file}
use Rattle.tree_promises.specs.declared.Kind.{Kind}
use Rattle.tree_promises.proofs.Gated.{tree_refused, tree_passed, tree_ready, packed_passed, packed_ready}
use Rattle.tree_look.proofs.Lists.{dir_single, file_single}
use Rattle.tree.specs.Name.{kind_name, name_tests, NameAnswerPromise, NamePromise}

module _ (dh d fh f work work' : List ℕ) (g : Answer) (e : g ≡ Done) where
  abbrev s : Tables
  s = tables dh d fh f

  pub tree_dirs : TreeGateOf s work work' g → Single dh d 40
  tree_dirs says = dir_single s (tree_ready s work work' g says e)

  pub tree_files : TreeGateOf s work work' g → Single fh f 48
  tree_files says = file_single s (tree_ready s work work' g says e)

  module _ (k : ℕ) (l : List ℕ) (says : PackedGateOf (tables dh d fh f) (opens k l) work work' g) where
    pub opens_dirs : SingleOpens dh d 40 (opens k l)
    opens_dirs = let r = packed_ready s (opens k l) work work' g says e in record { single = dir_single s r.ready; ordered = r.ordered }

    pub opens_files : SingleOpens fh f 48 (opens k l)
    opens_files = let r = packed_ready s (opens k l) work work' g says e in record { single = file_single s r.ready; ordered = r.ordered }

    -- open and close of one table, as calls on the four
    module _ (x : ℕ) (want : Want) (a : Answer) (k' : ℕ) (l' : List ℕ) where
      abbrev all : OpeningIn → Outcome
      all z = gives z.answer 0 s z.opens

      pub dir_opened : OpenIn (alone 40 d) (opens k l) x want (opening_in a (opens k' l'))
          → PackedOpen Directory (tables dh d fh f) (opens k l) work x want (beside (gives a 0 (tables dh d fh f) (opens k' l')) work')
      unfolding OpenIn
      dir_opened p =
          packed_passed s (opens k l) work work' (open_tests Directory s (opens k l) x want) (open_done Directory s (opens k l) x want) g (gives a 0 s (opens k' l')) says e
          (seen all (λ a. opening_in a (opens k l)) (open_tests Directory s (opens k l) x want) _ _ p)

      pub file_opened : OpenIn (alone 48 f) (opens k l) x want (opening_in a (opens k' l'))
          → PackedOpen File (tables dh d fh f) (opens k l) work x want (beside (gives a 0 (tables dh d fh f) (opens k' l')) work')
      unfolding OpenIn
      file_opened p =
          packed_passed s (opens k l) work work' (open_tests File s (opens k l) x want) (open_done File s (opens k l) x want) g (gives a 0 s (opens k' l')) says e
          (seen all (λ a. opening_in a (opens k l)) (open_tests File s (opens k l) x want) _ _ p)

      pub dir_closed : CloseIn (alone 40 d) (opens k l) x want (opening_in a (opens k' l'))
          → PackedClose Directory (tables dh d fh f) (opens k l) work x want (beside (gives a 0 (tables dh d fh f) (opens k' l')) work')
      unfolding CloseIn
      dir_closed p =
          packed_passed s (opens k l) work work' (close_tests Directory s (opens k l) x want) (close_done Directory s (opens k l) x want) g (gives a 0 s (opens k' l')) says e
          (seen all (λ a. opening_in a (opens k l)) (close_tests Directory s (opens k l) x want) _ _ p)

      pub file_closed : CloseIn (alone 48 f) (opens k l) x want (opening_in a (opens k' l'))
          → PackedClose File (tables dh d fh f) (opens k l) work x want (beside (gives a 0 (tables dh d fh f) (opens k' l')) work')
      unfolding CloseIn
      file_closed p =
          packed_passed s (opens k l) work work' (close_tests File s (opens k l) x want) (close_done File s (opens k l) x want) g (gives a 0 s (opens k' l')) says e
          (seen all (λ a. opening_in a (opens k l)) (close_tests File s (opens k l) x want) _ _ p)

-- carried bytes set in one table, as a change of the four
module _ (dh d fh f work work' : List ℕ) (x : ℕ) (bytes t : List ℕ) (a : Answer) (g : Answer) where
  pub set_dir_passed : TreeGateOf (tables dh d fh f) work work' g → g ≡ Done
      → First (set_rows 40 d x) (set_gives Done (with_carried Directory (tables [] d [] []) x bytes).dir_table) (set_gives a t)
      → SetCarriedDirPromise (tables dh d fh f) work x bytes (beside (carry_gives a (tables dh t fh f)) work')
  set_dir_passed says e p =
      tree_passed (λ a. carry_gives a (tables dh d fh f)) (tables dh d fh f) work work' (carry_rows (tables dh d fh f) (dirs (tables dh d fh f)) x) (carry_done Directory (tables dh d fh f) x bytes) g
      (carry_gives a (tables dh t fh f)) says e (set_dir (tables dh d fh f) x bytes a t p)

  pub set_file_passed : TreeGateOf (tables dh d fh f) work work' g → g ≡ Done
      → First (set_rows 48 f x) (set_gives Done (with_carried File (tables [] [] [] f) x bytes).file_table) (set_gives a t)
      → SetCarriedFilePromise (tables dh d fh f) work x bytes (beside (carry_gives a (tables dh d fh t)) work')
  set_file_passed says e p =
      tree_passed (λ a. carry_gives a (tables dh d fh f)) (tables dh d fh f) work work' (carry_rows (tables dh d fh f) (files (tables dh d fh f)) x) (carry_done File (tables dh d fh f) x bytes) g
      (carry_gives a (tables dh d fh t)) says e (set_file (tables dh d fh f) x bytes a t p)

-- a gate that gives no error is open, and one that gives an error refuses
pub is_open : (g : Answer) → is_err g ≡ false → g ≡ Done
is_open (Ok done) e = refl
is_open (Err why) e = absurd (false≢true (sym e))

pub is_shut : (g : Answer) → is_err g ≡ true → (why : Refusal) × (g ≡ Err why)
is_shut (Ok done) e = absurd (false≢true e)
is_shut (Err why) e = (why, refl)

-- a call on a name goes by its kind
module _ (s : Tables) (work work' : List ℕ) (x : ℕ) (kind k : Kind) (g : Answer) (says : TreeGateOf s work work' g) (e : g ≡ Done) (same : kind ≡ k) where
  pub name_answered : (o : Answer) → First (giving (λ a. a) (name_tests k s x)) Done o → NameAnswerPromise s work kind x (beside o work')
  name_answered o p =
      subst⁻¹ (λ (z : Kind). NameAnswerPromise s work z x (beside o work')) same
      (tree_passed (λ a. a) s work work' (giving (λ a. a) (name_tests k s x)) Done g o says e p)

  pub name_shown : (o : List ℕ) → First (giving (λ a. []) (name_tests k s x)) (kind_name k s x) o → NamePromise s work kind x (beside o work')
  name_shown o p =
      subst⁻¹ (λ (z : Kind). NamePromise s work z x (beside o work')) same
      (tree_passed (λ a. []) s work work' (giving (λ a. []) (name_tests k s x)) (kind_name k s x) g o says e p)

-- and shows nothing where the gate refuses
pub none_shown : (s : Tables) (work work' : List ℕ) (kind : Kind) (x : ℕ) (g : Answer) → TreeGateOf s work work' g → is_err g ≡ true
    → NamePromise s work kind x (beside [] work')
none_shown s work work' kind x g says e =
    let shut = is_shut g e in
    tree_refused (λ a. []) s work work' (giving (λ a. []) (name_tests kind s x)) (kind_name kind s x) g shut.0 [] says shut.1 refl
