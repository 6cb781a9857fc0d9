-- One answer for every export: what it promises and its input leave one number, one of each field, and one of every lent buffer.
use mathlib.Core.Path.{◌≡◌, refl, sym, ap, ◌∙◌}
use mathlib.Core.List.{List, [], ◌∷◌}
use mathlib.Core.Logic.{◌⊎◌}
use Prim.Native.Nat.{ℕ, ◌<◌}
use lib.ListN.{get_or, length}
use Rattle.order.specs.Beside.{Beside, beside}
use Rattle.std.specs.Prelude.{Ok, Err}
use Rattle.order.specs.Answer.{number_of, number_with, fault, fault_in, fault_with}
use Rattle.order.specs.Answer.{Answer}
use Rattle.order.specs.declared.Fault.{Fault}
use Rattle.order.specs.declared.Refusal.{Refusal}
use Rattle.order.specs.declared.Refusal.TheVariants as refusal
use Rattle.order.specs.Answer.{
  Done,
  SizeMismatch,
  InvalidValue,
  WorkTooShort,
  BrokenFat,
  NotAFile,
  NoSpace,
  OutOfBound,
  ListTooShort,
  BrokenTree,
  NotFound,
  AlreadyExist,
  Busy,
  DeletingRoot,
  NotEmpty,
  IntoItself,
  NotOpen,
  TooManyOpens,
  ReadOnlyVolume,
}
use Rattle.order.proofs.One.{one}
use Rattle.fat_node.specs.Entry.{Bytes}
use Rattle.fat_node.specs.Format as format
use Rattle.fat_test.specs.Promise as test
use Rattle.fat_test.proofs.Unique.{one_answer}
use Rattle.fat_promises.specs.Calls as fat
use Rattle.fat_promises.proofs.Unique as fat-one
use Rattle.fat_listed.specs.Listed.{ReadBlocksPromise, WriteBlocksPromise}
use Rattle.fat_listed.proofs.Same.{one_read_blocks, one_write_blocks}
use Rattle.tree_table.specs.View.{View}
use Rattle.tree_test.specs.Gate.{entry_gate}
use Rattle.tree_test.specs.Promise as tree-test
use Rattle.tree_test.proofs.Unique.{one_test}
use Rattle.tree_sound.specs.Tables.{Tables, OutsideIn, rooms_in}
use Rattle.tree_promises.specs.declared.Kind.{Kind}
use Rattle.tree_promises.specs.Calls as tree
use Rattle.tree_promises.specs.Format.{FormatPromise}
use Rattle.tree_promises.specs.Promise.{worked}
use Rattle.tree_promises.specs.Public as promised
use Rattle.tree_promises.proofs.Unique as tree-one
use Rattle.tree_promises.proofs.Unique.{One}
use Rattle.mukthiban.specs.Export.{Exported, Located}
use Rattle.mukthiban.specs.Name.{named_gives, name_rows, name_done, NamePromise}

-- the answers by their numbers, BrokenFat with what it says; 18 and 19 are no call's, and stand for Done here
abbrev answers : Fault → List Answer
answers f =
    Done
    ∷ SizeMismatch
    ∷ InvalidValue
    ∷ WorkTooShort
    ∷ BrokenFat f
    ∷ NotAFile
    ∷ NoSpace
    ∷ OutOfBound
    ∷ ListTooShort
    ∷ BrokenTree
    ∷ NotFound
    ∷ AlreadyExist
    ∷ Busy
    ∷ DeletingRoot
    ∷ NotEmpty
    ∷ IntoItself
    ∷ NotOpen
    ∷ TooManyOpens
    ∷ Done
    ∷ Done
    ∷ ReadOnlyVolume
    ∷ []

of_refusal : (why : Refusal) → get_or (answers (fault_with why)) (number_with why) Done ≡ Err why
of_refusal refusal.SizeMismatch = refl
of_refusal refusal.InvalidValue = refl
of_refusal refusal.WorkTooShort = refl
of_refusal (refusal.BrokenFat f) = refl
of_refusal refusal.NotAFile = refl
of_refusal refusal.NoSpace = refl
of_refusal refusal.OutOfBound = refl
of_refusal refusal.ListTooShort = refl
of_refusal refusal.BrokenTree = refl
of_refusal refusal.NotFound = refl
of_refusal refusal.AlreadyExist = refl
of_refusal refusal.Busy = refl
of_refusal refusal.DeletingRoot = refl
of_refusal refusal.NotEmpty = refl
of_refusal refusal.IntoItself = refl
of_refusal refusal.NotOpen = refl
of_refusal refusal.TooManyOpens = refl
of_refusal refusal.ReadOnlyVolume = refl

of_answer : (a : Answer) → get_or (answers (fault_in a)) (number_of a) Done ≡ a
of_answer (Ok done) = refl
of_answer (Err why) = of_refusal why

-- a number, with entry and rule, tells which answer it stands for
pub told_apart : (a b : Answer) → number_of a ≡ number_of b → fault_in a ≡ fault_in b → a ≡ b
told_apart a b e f = sym (of_answer a) ∙ (λ i. get_or (answers (f i)) (e i) Done) ∙ of_answer b

-- whatever the promise P: out a x is what a call gives with the answer a, and x is everything else of it, the other fields and the lent buffers
abbrev pub OneExport : {A X : Type 0} → (Answer → X → A) → (A → Type 0) → Type 0
OneExport {A} {X} out P =
    (n n' : ℕ) (x x' : X) → Exported n (λ a. P (out a x)) → Exported n' (λ a. P (out a x')) → (n ≡ n') × (x ≡ x')

module _ {A X : Type 0} (out : Answer → X → A) (answer : A → Answer) (rest : A → X) (P : A → Type 0) (same : (a : Answer) (x : X) → answer (out a x) ≡ a)
    (left : (a : Answer) (x : X) → rest (out a x) ≡ x) where
  pub one_export : One P → OneExport out P
  one_export u n n' x x' (a, e, p) (b, f, q) =
      let z : out a x ≡ out b x' = u (out a x) (out b x') p q in (
        e ∙ ap number_of (sym (same a x) ∙ ap answer z ∙ same b x') ∙ sym f,
        sym (left a x) ∙ ap rest z ∙ left b x',
      )

-- the same of a block call, whose answer has entry and rule
abbrev pub OneLocated : {A X : Type 0} → (Answer → X → A) → (A → Type 0) → Type 0
OneLocated {A} {X} out P =
    (n n' e e' r r' : ℕ) (x x' : X) → Located n e r (λ a. P (out a x)) → Located n' e' r' (λ a. P (out a x'))
    → (n ≡ n') × (e ≡ e') × (r ≡ r') × (x ≡ x')

module _ {A X : Type 0} (out : Answer → X → A) (answer : A → Answer) (rest : A → X) (P : A → Type 0) (same : (a : Answer) (x : X) → answer (out a x) ≡ a)
    (left : (a : Answer) (x : X) → rest (out a x) ≡ x) where
  pub one_located : One P → OneLocated out P
  one_located u n n' e e' r r' x x' (a, en, ef, p) (b, fn, ff, q) =
      let z : out a x ≡ out b x' = u (out a x) (out b x') p q in
      let w : a ≡ b = sym (same a x) ∙ ap answer z ∙ same b x' in
      let f : fault e r ≡ fault e' r' = ef ∙ ap fault_in w ∙ sym ff in
      (en ∙ ap number_of w ∙ sym fn, ap (λ (y : Fault). y.entry) f, ap (λ (y : Fault). y.rule) f, sym (left a x) ∙ ap rest z ∙ left b x')

-- a call with a work list: x is what it gives besides the answer, and the work list
module _ {G X : Type 0} (out : Answer → X → G) (answer : G → Answer) (rest : G → X) (P : Beside G → Type 0) (same : (a : Answer) (x : X) → answer (out a x) ≡ a)
    (left : (a : Answer) (x : X) → rest (out a x) ≡ x) where
  pub one_beside : One P → OneExport {X = X × List ℕ} (λ a x. beside (out a x.0) x.1) P
  one_beside u n n' x x' p q =
      one_export
      (λ (a : Answer) (x : X × List ℕ). beside (out a x.0) x.1)
      (λ o. answer o.given)
      (λ o. (rest o.given, o.work))
      P
      (λ a x. same a x.0)
      (λ a x. ap (λ (y : X). (y, x.1)) (left a x.0))
      u n n' x x' p q

-- and a block call with a work list
module _ {G X : Type 0} (out : Answer → X → G) (answer : G → Answer) (rest : G → X) (P : Beside G → Type 0) (same : (a : Answer) (x : X) → answer (out a x) ≡ a)
    (left : (a : Answer) (x : X) → rest (out a x) ≡ x) where
  pub one_located_beside : One P → OneLocated {X = X × List ℕ} (λ a x. beside (out a x.0) x.1) P
  one_located_beside u =
      one_located
      (λ (a : Answer) (x : X × List ℕ). beside (out a x.0) x.1)
      (λ o. answer o.given)
      (λ o. (rest o.given, o.work))
      P
      (λ a x. same a x.0)
      (λ a x. ap (λ (y : X). (y, x.1)) (left a x.0))
      u

-- ---- the block table

pub export_format : (t : Bytes) → OneExport {A = Answer × Bytes} {X = Bytes} (λ a x. (a, x)) (λ o. format.FormatPromise t o.0 o.1)
export_format t =
    one_export
    (λ (a : Answer) (x : Bytes). (a, x))
    (λ o. o.0)
    (λ o. o.1)
    (λ (o : Answer × Bytes). format.FormatPromise t o.0 o.1)
    (λ a x. refl)
    (λ a x. refl)
    (one (format.format_rows t) (format.format_done t))

pub export_test : (t : Bytes) (work : List ℕ)
    → OneLocated {X = (ℕ × ℕ) × List ℕ} (λ a x. (test.tested a x.0.0 x.0.1, x.1)) (test.TestPromise t work)
export_test t work =
    one_located
    (λ (a : Answer) (x : (ℕ × ℕ) × List ℕ). (test.tested a x.0.0 x.0.1, x.1))
    (λ o. o.0.answer)
    (λ o. ((o.0.free, o.0.files), o.1))
    (test.TestPromise t work)
    (λ a x. refl)
    (λ a x. refl)
    (one_answer t work)

pub export_create : (t : Bytes) (d l : ℕ) (work : List ℕ) (count : ℕ)
    → OneLocated {X = (ℕ × Bytes) × List ℕ} (λ a x. beside (fat.create_gives a x.0.0 x.0.1) x.1) (fat.CreatePromise t d l work count)
export_create t d l work count =
    one_located_beside (λ (a : Answer) (x : ℕ × Bytes). fat.create_gives a x.0 x.1) (λ g. g.answer) (λ g. (g.first, g.table)) (fat.CreatePromise t d l work count) (λ a x. refl) (λ a x. refl) (fat-one.one_create t d l work count)

pub export_resize : (t : Bytes) (d l : ℕ) (work : List ℕ) (b count : ℕ)
    → OneLocated {X = Bytes × List ℕ} (λ a x. beside (fat.change_gives a x.0) x.1) (fat.ResizePromise t d l work b count)
export_resize t d l work b count =
    one_located_beside (λ (a : Answer) (x : Bytes). fat.change_gives a x) (λ g. g.answer) (λ g. g.table) (fat.ResizePromise t d l work b count) (λ a x. refl) (λ a x. refl) (fat-one.one_resize t d l work b count)

pub export_delete : (t : Bytes) (d l : ℕ) (work : List ℕ) (b : ℕ)
    → OneLocated {X = Bytes × List ℕ} (λ a x. beside (fat.change_gives a x.0) x.1) (fat.DeletePromise t d l work b)
export_delete t d l work b =
    one_located_beside (λ (a : Answer) (x : Bytes). fat.change_gives a x) (λ g. g.answer) (λ g. g.table) (fat.DeletePromise t d l work b) (λ a x. refl) (λ a x. refl) (fat-one.one_delete t d l work b)

pub export_open_list : (t : Bytes) (d l : ℕ) (work : List ℕ) (b : ℕ) (list : List ℕ)
    → OneLocated {X = (ℕ × List ℕ) × List ℕ} (λ a x. beside (fat.list_gives a x.0.0 x.0.1) x.1) (fat.ListPromise t d l work b list)
export_open_list t d l work b list =
    one_located_beside (λ (a : Answer) (x : ℕ × List ℕ). fat.list_gives a x.0 x.1) (λ g. g.answer) (λ g. (g.count, g.list)) (fat.ListPromise t d l work b list) (λ a x. refl) (λ a x. refl) (fat-one.one_list t d l work b list)

pub export_read : (t d : Bytes) (l : ℕ) (work : List ℕ) (b pos : ℕ) (buf : Bytes)
    → OneLocated {X = Bytes × List ℕ} (λ a x. beside (fat.carry_gives a x.0) x.1) (fat.ReadPromise t d l work b pos buf)
export_read t d l work b pos buf =
    one_located_beside (λ (a : Answer) (x : Bytes). fat.carry_gives a x) (λ g. g.answer) (λ g. g.bytes) (fat.ReadPromise t d l work b pos buf) (λ a x. refl) (λ a x. refl) (fat-one.one_read t d l work b pos buf)

pub export_write : (t d : Bytes) (l : ℕ) (work : List ℕ) (b pos : ℕ) (buf : Bytes)
    → OneLocated {X = Bytes × List ℕ} (λ a x. beside (fat.carry_gives a x.0) x.1) (fat.WritePromise t d l work b pos buf)
export_write t d l work b pos buf =
    one_located_beside (λ (a : Answer) (x : Bytes). fat.carry_gives a x) (λ g. g.answer) (λ g. g.bytes) (fat.WritePromise t d l work b pos buf) (λ a x. refl) (λ a x. refl) (fat-one.one_write t d l work b pos buf)

pub export_read_blocks : (d : Bytes) (l : ℕ) (list : List ℕ) (pos : ℕ) (buf : Bytes)
    → OneExport {X = Bytes} (λ a x. fat.carry_gives a x) (ReadBlocksPromise d l list pos buf)
export_read_blocks d l list pos buf =
    one_export (λ (a : Answer) (x : Bytes). fat.carry_gives a x) (λ g. g.answer) (λ g. g.bytes) (ReadBlocksPromise d l list pos buf) (λ a x. refl) (λ a x. refl) (one_read_blocks d l list pos buf)

pub export_write_blocks : (d : Bytes) (l : ℕ) (list : List ℕ) (pos : ℕ) (buf : Bytes)
    → OneExport {X = Bytes} (λ a x. fat.carry_gives a x) (WriteBlocksPromise d l list pos buf)
export_write_blocks d l list pos buf =
    one_export (λ (a : Answer) (x : Bytes). fat.carry_gives a x) (λ g. g.answer) (λ g. g.bytes) (WriteBlocksPromise d l list pos buf) (λ a x. refl) (λ a x. refl) (one_write_blocks d l list pos buf)

-- ---- the entry tables; lookup and listing of a view, the directories or the files

pub export_tree_format : (s : Tables) (dm fm : ℕ)
    → OneExport {X = Tables} (λ a x. tree.carry_gives a x) (FormatPromise s dm fm)
export_tree_format s dm fm =
    one_export (λ (a : Answer) (x : Tables). tree.carry_gives a x) (λ g. g.answer) (λ g. g.tables) (FormatPromise s dm fm) (λ a x. refl) (λ a x. refl) (tree-one.one_format s dm fm)

pub export_tree_test : (s : Tables) (work : List ℕ) → OneExport {X = List ℕ} (λ a x. tree-test.tested a x) (tree-test.TestPromise s work)
export_tree_test s work =
    one_export
    (λ (a : Answer) (x : List ℕ). tree-test.tested a x)
    (λ o. o.0)
    (λ o. o.1)
    (tree-test.TestPromise s work)
    (λ a x. refl)
    (λ a x. refl)
    (one_test s work)

pub export_lookup : (s : Tables) (work : List ℕ) (v : View) (p : ℕ) (name : List ℕ)
    → OneExport {X = (ℕ × ℕ) × List ℕ} (λ a x. beside (tree.lookup_gives a x.0.0 x.0.1) x.1) (promised.LookupPromise s v work p name)
export_lookup s work v p name =
    one_beside (λ (a : Answer) (x : ℕ × ℕ). tree.lookup_gives a x.0 x.1) (λ g. g.answer) (λ g. (g.inode, g.compared)) (promised.LookupPromise s v work p name) (λ a x. refl) (λ a x. refl) (tree-one.one_lookup s work v p name)

pub export_list : (s : Tables) (work : List ℕ) (v : View) (x : ℕ) (list : List ℕ)
    → OneExport {X = (ℕ × List ℕ) × List ℕ} (λ a x. beside (tree.list_gives a x.0.0 x.0.1) x.1) (promised.ListPromise s v work x list)
export_list s work v x list =
    one_beside (λ (a : Answer) (x : ℕ × List ℕ). tree.list_gives a x.0 x.1) (λ g. g.answer) (λ g. (g.count, g.list)) (promised.ListPromise s v work x list) (λ a x. refl) (λ a x. refl) (tree-one.one_list s work v x list)

pub export_stat : (s : Tables) (work : List ℕ)
    → OneExport {X = ((ℕ × ℕ) × (ℕ × ℕ)) × List ℕ} (λ a x. beside (tree.stat_gives a x.0.0.0 x.0.0.1 x.0.1.0 x.0.1.1) x.1) (promised.StatPromise s work)
export_stat s work =
    one_beside (λ (a : Answer) (x : (ℕ × ℕ) × (ℕ × ℕ)). tree.stat_gives a x.0.0 x.0.1 x.1.0 x.1.1) (λ g. g.answer) (λ g. ((g.dir_total, g.dir_free), (g.file_total, g.file_free))) (promised.StatPromise s work) (λ a x. refl) (λ a x. refl) (tree-one.one_stat s work)

pub export_tree_carried : (kind : Kind) (s : Tables) (work : List ℕ) (x : ℕ)
    → OneExport {X = List ℕ × List ℕ} (λ a x. beside (tree.shown_gives a x.0) x.1) (promised.CarriedPromise kind s work x)
export_tree_carried kind s work x =
    one_beside (λ (a : Answer) (x : List ℕ). tree.shown_gives a x) (λ g. g.answer) (λ g. g.bytes) (promised.CarriedPromise kind s work x) (λ a x. refl) (λ a x. refl) (tree-one.one_carried kind s work x)

pub export_tree_set_carried : (kind : Kind) (s : Tables) (work : List ℕ) (x : ℕ) (carried : List ℕ)
    → OneExport {X = Tables × List ℕ} (λ a x. beside (tree.carry_gives a x.0) x.1) (promised.SetCarriedPromise kind s work x carried)
export_tree_set_carried kind s work x carried =
    one_beside (λ (a : Answer) (x : Tables). tree.carry_gives a x) (λ g. g.answer) (λ g. g.tables) (promised.SetCarriedPromise kind s work x carried) (λ a x. refl) (λ a x. refl) (tree-one.one_set_carried kind s work x carried)

-- ---- the name, whose field is the place in the table that the kind selects

pub one_name : (s : Tables) (work : List ℕ) (kind x : ℕ) → One (NamePromise s work kind x)
one_name s work kind x =
    tree-one.one_promised
    (entry_gate
    (λ a w. beside (named_gives a 0) w)
    s
    (OutsideIn s ⊎ (1 < kind))
    (length work < rooms_in s)
    work)
    (worked s work)
    (name_rows s kind x)
    (name_done kind x)

pub export_name : (s : Tables) (work : List ℕ) (kind x : ℕ)
    → OneExport {X = ℕ × List ℕ} (λ a x. beside (named_gives a x.0) x.1) (NamePromise s work kind x)
export_name s work kind x =
    one_beside (λ (a : Answer) (x : ℕ). named_gives a x) (λ g. g.answer) (λ g. g.offset) (NamePromise s work kind x) (λ a x. refl) (λ a x. refl) (one_name s work kind x)
