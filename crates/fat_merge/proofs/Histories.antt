-- The test and histories with merges. The statement names definitions of specs/ alone.
use mathlib.Core.Path.{◌≡◌, sym, ap, subst, subst⁻¹}
use mathlib.Core.List.{List}
use Prim.Native.Nat.{ℕ, ◌-◌, ◌/◌, ◌≤◌}
use native.Mathlib.Omega.{arith}
use lib.ListN.{length}
use Rattle.words.specs.Word.{AreBytes}
use Rattle.order.specs.Beside.{Beside}
use Rattle.order.specs.Answer.{Done}
use Rattle.fat_node.specs.Entry.{Bytes}
use Rattle.fat_node.specs.Sizes.{blocks, Misfit, Outside}
use Rattle.fat_table.specs.Sound.{Sound}
use Rattle.fat_table.specs.Chain.{free_at}
use Rattle.fat_table.specs.Layout.{Layout, layout}
use Rattle.fat_table.specs.Steps.{created, resized, deleted}
use Rattle.fat_table.specs.Agree.{Agree}
use Rattle.fat_table.proofs.Sounds.{holds_sound}
use Rattle.fat_table.proofs.Agreeing.{agree_holds}
use Rattle.fat_table.proofs.Files.{Whole, seen, whole_created, whole_resized, whole_deleted}
use Rattle.fat_test.specs.Promise.{TestPromise}
use Rattle.fat_test.specs.Promise.{Tested}
use Rattle.fat_promises.specs.Calls.{Create, Change}
use Rattle.fat_history.proofs.Passes.{fits}
use Rattle.fat_history.proofs.Means.{create_means, resize_means, delete_means, test_accepts}
use Rattle.fat_history.proofs.Honest.{blocks_of_lem, as_blocks, run_whole}
use Rattle.fat_history.proofs.Theorems.{honest}
use Rattle.fat_merge.specs.Merge.{merged}
use Rattle.fat_merge.specs.Merges.{MergeHistory, plain, creates, resizes, deletes, merges}
use Rattle.fat_merge.proofs.Merges.{merge_whole}
use Rattle.fat_merge.proofs.Means.{merge_means}

-- a whole table of at least one block
abbrev pub Stands : Bytes → Type 0
Stands t = Whole (blocks t) t × (1 ≤ blocks t)

-- a step from such a table leaves one
pub next : (t t' x : Bytes) → 1 ≤ blocks t → Whole (blocks t) t' → x ≡ t' → Stands x
next t t' x s h e = subst⁻¹ Stands e (as_blocks (blocks t) t' h, omega (arith, s, blocks_of_lem (blocks t) t' h.room))

pub history_stands : {t : Bytes} → MergeHistory t → Stands t
history_stands (plain k t h) = run_whole h
history_stands (creates t v d l work count o p e) =
    let i = history_stands v in
    let w = create_means t d l work count o i.0.bytes p e in
    next t (created (blocks t) t count) o.given.table i.1 (whole_created (blocks t) t i.0 count w.may.some w.may.enough)
    (ap (λ (x : Beside Create). x.given.table) w.is)
history_stands (resizes t v d l work b count o p e) =
    let i = history_stands v in
    let w = resize_means t d l work b count o i.0.bytes p e in
    next t (resized (blocks t) t b count) o.given.table i.1
    (whole_resized (blocks t) t i.0 b count w.may.file w.may.some w.may.enough)
    (ap (λ (x : Beside Change). x.given.table) w.is)
history_stands (deletes t v d l work b o p e) =
    let i = history_stands v in
    let w = delete_means t d l work b o i.0.bytes p e in
    next t (deleted (blocks t) t b) o.given.table i.1 (whole_deleted (blocks t) t i.0 b w.may.file)
    (ap (λ (x : Beside Change). x.given.table) w.is)
history_stands (merges t v l work o p e) =
    let i = history_stands v in
    let w = merge_means t l work o i.0.bytes p e in
    next t (merged (blocks t) t) o.given.table i.1 (merge_whole (blocks t) t i.0) (ap (λ (x : Beside Change). x.given.table) w.is)

-- a table that agrees with a whole one is sound
pub agrees_sound : (t t' : Bytes) → Whole (blocks t') t' → Agree (blocks t) t t' → Sound t (blocks t)
agrees_sound t t' w a =
    let e : blocks t' ≡ blocks t = ap (λ (x : ℕ). x / 8 - 1) (sym a.room) in
    let h : Whole (blocks t) t' = subst (λ (m : ℕ). Whole m t') e w in
    let s = seen (blocks t) t' h in
    let L : Layout = layout (free_at (blocks t) t') s.files in
    holds_sound (blocks t) h.small t L (agree_holds (blocks t) h.small t t' L a s.holds)

-- honest_merge: the test of a table of 1 to 1,000,000 blocks answers Done exactly when some history of format, create, resize, delete and merge, each
-- answered Done, ends in a table equal to it in every entry that the rules read
pub honest_merge : (t : Bytes) (work : List ℕ) (o : Tested × List ℕ) → AreBytes t → (Misfit t → ⊥) → (Outside t → ⊥) → blocks t ≤ length work
    → TestPromise t work o
    → (o.0.answer ≡ Done → (t' : Bytes) × MergeHistory t' × Agree (blocks t) t t')
    × ((t' : Bytes) → MergeHistory t' → Agree (blocks t) t t' → o.0.answer ≡ Done)
honest_merge t work o g m u h p = (
  λ e. let r = (honest t work o g m u h p).0 e in (r.1, plain r.0 r.1 r.2, r.3),
  λ t' v a. test_accepts t work o (fits t m u) h (agrees_sound t t' (history_stands v).0 a) p,
)
