-- Calls and histories with applied plans. The statements name definitions of specs/ alone.
use mathlib.Core.Path.{◌≡◌, sym, ap, subst, subst⁻¹, ◌∙◌}
use mathlib.Core.List.{List}
use mathlib.Core.Logic.{◌≢◌, ⊎_elim}
use Prim.Native.Nat.{ℕ, ◌*◌, ◌≤◌, ◌<◌}
use native.Mathlib.Omega.{arith}
use lib.ListN.{length, get_or}
use Rattle.words.specs.Word.{AreBytes}
use Rattle.order.specs.Beside.{Beside}
use Rattle.order.specs.Answer.{Done}
use Rattle.fat_node.specs.Entry.{Bytes}
use Rattle.fat_node.specs.Node.{Run}
use Rattle.fat_node.specs.Sizes.{blocks, Misfit, Outside}
use Rattle.fat_table.specs.Sound.{Sound, File}
use Rattle.fat_table.specs.Chain.{total, file_at}
use Rattle.fat_table.specs.Steps.{created, resized, deleted}
use Rattle.fat_table.specs.Agree.{Agree}
use Rattle.fat_table.proofs.Files.{Whole, whole_created, whole_resized, whole_deleted}
use Rattle.fat_test.specs.Promise.{TestPromise}
use Rattle.fat_test.specs.Promise.{Tested}
use Rattle.fat_promises.specs.Blocks.{blocks_of, place_of, bytes_at}
use Rattle.fat_promises.specs.Calls.{Create, Change}
use Rattle.fat_history.specs.Formats.{Stays}
use Rattle.fat_history.proofs.Passes.{are_bytes, fits, whole_of_fits}
use Rattle.fat_history.proofs.Means.{create_means, resize_means, delete_means, test_accepts}
use Rattle.fat_history.proofs.Honest.{blocks_of_lem}
use Rattle.fat_history.proofs.Places.{read_same}
use Rattle.fat_history.proofs.Apart.{SameFile, Still}
use Rattle.fat_merge.specs.Merge.{merged}
use Rattle.fat_merge.proofs.Merges.{merge_whole}
use Rattle.fat_merge.proofs.Means.{merge_means}
use Rattle.fat_merge.proofs.Theorems as merge
use Rattle.fat_merge.proofs.Histories as merges-too
use Rattle.fat_place.specs.Place.{applied}
use Rattle.fat_place.proofs.Tables.{apply_whole, apply_leaves}
use Rattle.fat_plan.specs.Plan.{target_of}
use Rattle.fat_plan.specs.Promise.{MayCheck}
use Rattle.fat_apply.specs.Apply.{Apply, copied, ApplyPromise}
use Rattle.fat_apply.specs.Applies.{Calls, ApplyHistory}
use Rattle.fat_apply.specs.Applies as calls
use Rattle.fat_apply.proofs.Means.{apply_means, apply_keeps}
use Rattle.fat_apply.proofs.Moved.{target_window, length_copied, copied_other}

-- apart, with applied plans among the calls ------------------------------------------------------------------------------------------

module _ (n l b : ℕ) (t d : Bytes) (w : Whole n t) (i : File t n b) where
  -- a plan applied to another file
  apply_step : (t₁ d₁ : Bytes) → Still n l b t d t₁ d₁ → (c : ℕ) (plan : List ℕ) → MayCheck n t₁ c plan → c ≢ b → 1 ≤ l → length d₁ ≡ n * l
      → Still n l b t d (applied n t₁ c (target_of plan)) (copied n t₁ d₁ l c (target_of plan))
  apply_step t₁ d₁ s c plan a ne some fits =
      let m : ℕ = target_of plan in
      let f : SameFile n t₁ (applied n t₁ c m) b = apply_leaves n t₁ s.whole c a.file m (target_window n t₁ s.whole c plan a) b s.file ne in
      record {
        whole = apply_whole n t₁ s.whole c a.file m (target_window n t₁ s.whole c plan a);
        long = length_copied n t₁ s.whole c plan a d₁ l some fits ∙ s.long;
        file = f.file;
        same = f.same ∙ s.same;
        bytes = λ k h.
            subst
            (λ (r : List Run). k < total r * l → get_or (copied n t₁ d₁ l c m) (place_of (blocks_of r) l k) 0 ≡ get_or d₁ (place_of (blocks_of r) l k) 0)
            s.same
            (copied_other n t₁ s.whole c plan a d₁ l some fits b s.file k)
            h
            ∙ s.bytes k h;
      }

  apply_on : (t₁ d₁ : Bytes) → Still n l b t d t₁ d₁ → (work : List ℕ) (c : ℕ) (plan : List ℕ) (o : Beside Apply) → c ≢ b
      → ApplyPromise t₁ d₁ l work c plan o
      → Still n l b t d o.given.table o.given.bytes
  apply_on t₁ d₁ s work c plan o ne p =
      ⊎_elim
      (λ r. subst⁻¹ (λ (x : Bytes × Bytes). Still n l b t d x.0 x.1) r s)
      (λ v.
      let m : ℕ = target_of plan in
      let e : blocks t₁ ≡ n = blocks_of_lem n t₁ s.whole.room in
      let x : o.given.table ≡ applied n t₁ c m = ap (λ (y : Beside Apply). y.given.table) v.is ∙ ap (λ (k : ℕ). applied k t₁ c m) e in
      let y : o.given.bytes ≡ copied n t₁ d₁ l c m = ap (λ (z : Beside Apply). z.given.bytes) v.is ∙ ap (λ (k : ℕ). copied k t₁ d₁ l c m) e in
      subst⁻¹ (λ (z : Bytes). Still n l b t d z o.given.bytes) x
      (subst⁻¹ (Still n l b t d (applied n t₁ c m)) y
      (apply_step t₁ d₁ s c plan (subst (λ (k : ℕ). MayCheck k t₁ c plan) e v.may) ne v.passed.length_fits.0
      (v.passed.data_fits ∙ ap (λ (k : ℕ). k * l) e))))
      (apply_keeps t₁ d₁ l work c plan o s.whole.bytes p)

  still_applies : {t' d' : Bytes} → Calls l b t d t' d' → Still n l b t d t' d'
  still_applies (calls.plain t' d' a) = merge.still_calls n l b t d w i a
  still_applies (calls.applies t₁ d₁ t' d' c work f plan o ne p a) =
      let s : Still n l b t d o.given.table o.given.bytes = apply_on t₁ d₁ (still_applies c) work f plan o ne p in
      merge.on n l b t d w i o.given.table o.given.bytes t' d' s
      (merge.still_calls n l b o.given.table o.given.bytes s.whole s.file a)

-- apart_apply: apart, with merges and applied plans anywhere among the calls: a file that no call names stays a file with the same chain, and holds the
-- same bytes
pub apart_apply : (l b : ℕ) (t d t' d' : Bytes) → AreBytes t → (Misfit t → ⊥) → (Outside t → ⊥) → Sound t (blocks t) → File t (blocks t) b → Calls l b t d t' d'
    → Stays l b t d t' d'
apart_apply l b t d t' d' g m u s i c =
    let n : ℕ = blocks t in
    let v = still_applies n l b t d (whole_of_fits t (are_bytes t g) (fits t m u) s) i c in
    record {
      file = v.file;
      chain = v.same;
      bytes = λ many pos h.
          ap (λ (f : List Run). bytes_at many d' l (blocks_of f) pos) v.same
          ∙ read_same many d d' l (blocks_of (file_at n t b)) pos (λ k x y. v.bytes k (omega (arith, y, h)));
    }

-- the test and histories with applied plans --------------------------------------------------------------------------------------------

history_stands : {t : Bytes} → ApplyHistory t → merges-too.Stands t
history_stands (calls.plain t h) = merges-too.history_stands h
history_stands (calls.creates t v d l work count o p e) =
    let i = history_stands v in
    let w = create_means t d l work count o i.0.bytes p e in
    merges-too.next t (created (blocks t) t count) o.given.table i.1 (whole_created (blocks t) t i.0 count w.may.some w.may.enough)
    (ap (λ (x : Beside Create). x.given.table) w.is)
history_stands (calls.resizes t v d l work b count o p e) =
    let i = history_stands v in
    let w = resize_means t d l work b count o i.0.bytes p e in
    merges-too.next t (resized (blocks t) t b count) o.given.table i.1
    (whole_resized (blocks t) t i.0 b count w.may.file w.may.some w.may.enough)
    (ap (λ (x : Beside Change). x.given.table) w.is)
history_stands (calls.deletes t v d l work b o p e) =
    let i = history_stands v in
    let w = delete_means t d l work b o i.0.bytes p e in
    merges-too.next t (deleted (blocks t) t b) o.given.table i.1 (whole_deleted (blocks t) t i.0 b w.may.file)
    (ap (λ (x : Beside Change). x.given.table) w.is)
history_stands (calls.merges t v l work o p e) =
    let i = history_stands v in
    let w = merge_means t l work o i.0.bytes p e in
    merges-too.next t (merged (blocks t) t) o.given.table i.1 (merge_whole (blocks t) t i.0) (ap (λ (x : Beside Change). x.given.table) w.is)
history_stands (calls.applies t v d l work b plan o p e) =
    let i = history_stands v in
    let w = apply_means t d l work b plan o i.0.bytes p e in
    merges-too.next t (applied (blocks t) t b (target_of plan)) o.given.table i.1
    (apply_whole (blocks t) t i.0 b w.may.file (target_of plan) (target_window (blocks t) t i.0 b plan w.may))
    (ap (λ (x : Beside Apply). x.given.table) w.is)

-- honest_apply: the test of a table of 1 to 1,000,000 blocks answers Done exactly when some history of format, create, resize, delete, merge and applied
-- plans, each answered Done, ends in a table equal to it in every entry that the rules read
pub honest_apply : (t : Bytes) (work : List ℕ) (o : Tested × List ℕ) → AreBytes t → (Misfit t → ⊥) → (Outside t → ⊥) → blocks t ≤ length work
    → TestPromise t work o
    → (o.0.answer ≡ Done → (t' : Bytes) × ApplyHistory t' × Agree (blocks t) t t')
    × ((t' : Bytes) → ApplyHistory t' → Agree (blocks t) t t' → o.0.answer ≡ Done)
honest_apply t work o g m u h p = (
  λ e. let r = (merges-too.honest_merge t work o g m u h p).0 e in (r.0, calls.plain r.0 r.1, r.2),
  λ t' v a. test_accepts t work o (fits t m u) h (merges-too.agrees_sound t t' (history_stands v).0 a) p,
)
