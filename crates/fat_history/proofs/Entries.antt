-- No other entry changes, by the promises of the calls: whatever is answered, every byte outside entry 0 and the entries that the step may write stays.
use mathlib.Core.Path.{◌≡◌, ap, subst⁻¹}
use mathlib.Core.List.{List}
use mathlib.Core.Logic.{⊎_elim}
use Prim.Native.Nat.{ℕ}
use lib.ListN.{get_or}
use Rattle.words.specs.Word.{AreBytes}
use Rattle.fat_node.specs.Entry.{Bytes}
use Rattle.fat_node.specs.Node.{run}
use Rattle.fat_node.specs.Sizes.{blocks}
use Rattle.fat_node.specs.Format.{FormatPromise}
use Rattle.order.specs.Answer.{Answer}
use Rattle.fat_table.specs.Changes.{Kept, entries_of, create_entries, resize_entries, delete_entries}
use Rattle.fat_table.proofs.Unchanged.{formatted_keeps, created_keeps, resized_keeps, deleted_keeps}
use Rattle.fat_promises.specs.Promise.{Beside}
use Rattle.fat_promises.specs.Calls.{Create, CreatePromise, Change, ResizePromise, DeletePromise}
use Rattle.fat_history.proofs.Passes.{are_bytes}
use Rattle.fat_history.proofs.Means.{format_means, create_keeps, resize_keeps, delete_keeps}
use Rattle.fat_history.proofs.Formats.{format_cases}

-- a table that is as it was
same : (e : List ℕ) (t t' : Bytes) → t' ≡ t → Kept e t t'
same e t t' q i h o = ap (λ (x : Bytes). get_or x i 0) q

pub other_format : (t t' : Bytes) (r : Answer) → AreBytes t → FormatPromise t r t' → Kept (entries_of (run 0 (blocks t))) t t'
other_format t t' r g p =
    let e : List ℕ = entries_of (run 0 (blocks t)) in
    ⊎_elim
    (λ q. same e t t' q)
    (λ q. subst⁻¹ (λ (x : Bytes). Kept e t x) (format_means t t' r p q).1 (formatted_keeps (blocks t) t (are_bytes t g)))
    (format_cases t t' r p)

module _ (t : Bytes) (d l : ℕ) (work : List ℕ) (g : AreBytes t) where
  pub other_create : (count : ℕ) (o : Beside Create) → CreatePromise t d l work count o → Kept (create_entries (blocks t) t count) t o.given.table
  other_create count o p =
      let e : List ℕ = create_entries (blocks t) t count in
      ⊎_elim
      (λ q. same e t o.given.table q)
      (λ q.
      subst⁻¹ (λ (x : Beside Create). Kept e t x.given.table) q.is
      (created_keeps (blocks t) t q.passed.whole count q.may.some q.may.enough))
      (create_keeps t d l work count o (are_bytes t g) p)

  pub other_resize : (b count : ℕ) (o : Beside Change) → ResizePromise t d l work b count o → Kept (resize_entries (blocks t) t b count) t o.given.table
  other_resize b count o p =
      let e : List ℕ = resize_entries (blocks t) t b count in
      ⊎_elim
      (λ q. same e t o.given.table q)
      (λ q.
      subst⁻¹ (λ (x : Beside Change). Kept e t x.given.table) q.is
      (resized_keeps (blocks t) t q.passed.whole b count q.may.file q.may.some q.may.enough))
      (resize_keeps t d l work b count o (are_bytes t g) p)

  pub other_delete : (b : ℕ) (o : Beside Change) → DeletePromise t d l work b o → Kept (delete_entries (blocks t) t b) t o.given.table
  other_delete b o p =
      let e : List ℕ = delete_entries (blocks t) t b in
      ⊎_elim
      (λ q. same e t o.given.table q)
      (λ q.
      subst⁻¹ (λ (x : Beside Change). Kept e t x.given.table) q.is
      (deleted_keeps (blocks t) t q.passed.whole b q.may.file))
      (delete_keeps t d l work b o (are_bytes t g) p)
