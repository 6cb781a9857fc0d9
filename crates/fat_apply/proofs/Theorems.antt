-- What apply does, by its promise. The statements name definitions of specs/ alone.
use mathlib.Core.Path.{◌≡◌, refl, sym, ap, subst, subst⁻¹, ◌∙◌}
use mathlib.Core.List.{List, [], ◌∷◌, ◌++◌}
use mathlib.Core.Logic.{◌≢◌, ◌⊎◌, ⊎_elim}
use Prim.Native.Nat.{ℕ, ◌+◌, ◌*◌, ◌≤◌, ◌<◌}
use native.Mathlib.Omega.{arith}
use lib.ListN.{length, get_or}
use Rattle.words.specs.Word.{AreBytes}
use Rattle.order.specs.Beside.{Beside}
use Rattle.order.specs.Answer.{Done}
use Rattle.fat_node.specs.Entry.{Bytes}
use Rattle.fat_node.specs.Node.{Run, run}
use Rattle.fat_node.specs.Sizes.{blocks}
use Rattle.fat_table.specs.Sound.{Sound, File}
use Rattle.fat_table.specs.Chain.{total, free_at, file_at}
use Rattle.fat_table.specs.Counts.{free_blocks}
use Rattle.fat_table.specs.Changes.{Kept}
use Rattle.fat_table.proofs.Files.{Whole}
use Rattle.fat_test.specs.Gate.{InUse}
use Rattle.fat_promises.specs.Blocks.{blocks_of, bytes_at}
use Rattle.fat_history.specs.KeptBy.{KeptBy}
use Rattle.fat_history.specs.Formats.{Stays}
use Rattle.fat_history.proofs.Passes.{are_bytes}
use Rattle.fat_history.proofs.Honest.{as_blocks}
use Rattle.fat_history.proofs.Places.{read_same}
use Rattle.fat_carve.specs.Carve.{carved}
use Rattle.fat_carve.specs.Entries.{chain_entries}
use Rattle.fat_place.specs.Place.{applied}
use Rattle.fat_place.proofs.Tables.{apply_whole, apply_file, apply_free, apply_count, apply_leaves, applied_kept}
use Rattle.fat_plan.specs.Plan.{target_of}
use Rattle.fat_apply.specs.Apply.{Apply, copied, ApplyPromise}
use Rattle.fat_apply.specs.Applies.{MadeWhole}
use Rattle.fat_apply.proofs.Means.{ApplyWent, apply_means, apply_keeps, apply_used}
use Rattle.fat_apply.proofs.Moved.{target_window, length_copied, copied_only, copied_other, moved_read}

module _ (t d : Bytes) (l : ℕ) (work : List ℕ) (b : ℕ) (plan : List ℕ) (o : Beside Apply) (g : AreBytes t) (p : ApplyPromise t d l work b plan o) where
  abbrev n : ℕ
  n = blocks t

  abbrev F : List Run
  F = file_at (blocks t) t b

  -- what went by left
  module _ (v : ApplyWent t d l work b plan o) where
    went_first : o.given.first ≡ target_of plan
    went_first = ap (λ (x : Beside Apply). x.given.first) v.is

    went_table : o.given.table ≡ applied n t b (target_of plan)
    went_table = ap (λ (x : Beside Apply). x.given.table) v.is

    went_bytes : o.given.bytes ≡ copied n t d l b (target_of plan)
    went_bytes = ap (λ (x : Beside Apply). x.given.bytes) v.is

    went_whole : Whole n (applied n t b (target_of plan))
    went_whole = apply_whole n t v.passed.whole b v.may.file (target_of plan) (target_window n t v.passed.whole b plan v.may)

  -- kept_apply: answered Done it leaves a sound table of the same length, and refused the table as it was
  pub kept_apply : KeptBy t o.given.answer o.given.table
  kept_apply = (
    λ e.
        let v = apply_means t d l work b plan o (are_bytes t g) p e in
        let w : Whole n (applied n t b (target_of plan)) = went_whole v in
        subst⁻¹ (λ (x : Bytes). Sound x (blocks x) × (length x ≡ length t)) (went_table v)
        ((as_blocks n (applied n t b (target_of plan)) w).sound, w.room ∙ sym v.passed.whole.room),
    λ e.
        ⊎_elim (λ r. ap (λ (x : Bytes × Bytes). x.0) r) (λ v. absurd (e (ap (λ (x : Beside Apply). x.given.answer) v.is)))
        (apply_keeps t d l work b plan o (are_bytes t g) p),
  )

  -- bytes_apply: the data keep their length, and refused they stay as they were
  pub bytes_apply : (length o.given.bytes ≡ length d) × ((o.given.answer ≡ Done → ⊥) → o.given.bytes ≡ d)
  bytes_apply =
      ⊎_elim
      (λ r. let q : o.given.bytes ≡ d = ap (λ (x : Bytes × Bytes). x.1) r in (ap {B = ℕ} length q, λ e. q))
      (λ v. (
        ap {B = ℕ} length (went_bytes v)
            ∙ length_copied n t v.passed.whole b plan v.may d l v.passed.length_fits.0 v.passed.data_fits,
        λ e. absurd (e (ap (λ (x : Beside Apply). x.given.answer) v.is)),
      ))
      (apply_keeps t d l work b plan o (are_bytes t g) p)

  -- read_only_apply: with a block length that is not in use table and data are left as they were
  pub read_only_apply : (InUse l → ⊥) → (o.given.table ≡ t) × (o.given.bytes ≡ d)
  read_only_apply u =
      ⊎_elim
      (λ r. (ap (λ (x : Bytes × Bytes). x.0) r, ap (λ (x : Bytes × Bytes). x.1) r))
      (λ v. absurd (u (apply_used t d l work b plan o v)))
      (apply_keeps t d l work b plan o (are_bytes t g) p)

  -- answered Done ------------------------------------------------------------------------------------------------------

  module _ (e : o.given.answer ≡ Done) where
    went : ApplyWent t d l work b plan o
    went = apply_means t d l work b plan o (are_bytes t g) p e

    abbrev whole : Whole (blocks t) t
    whole = went.passed.whole

    abbrev m : ℕ
    m = target_of plan

    -- one_node_apply: the file is one node from the answered block on, and reads as before
    pub one_node_apply : MadeWhole l b t d o.given.first o.given.table o.given.bytes
    one_node_apply =
        let T : Bytes = applied n t b m in
        let D : Bytes = copied n t d l b m in
        let f = apply_file n t whole b went.may.file m (target_window n t whole b plan went.may) in
        let made : MadeWhole l b t d m T D = record {
          file = f.0;
          chain = f.1;
          bytes = λ many pos h.
              ap (λ (c : List Run). bytes_at many D l (blocks_of c) pos) f.1
              ∙ moved_read n t whole b plan went.may d l went.passed.length_fits.0 went.passed.data_fits many pos h;
        } in
        subst⁻¹ (λ (x : ℕ). MadeWhole l b t d x o.given.table o.given.bytes) (went_first went)
        (subst⁻¹ (λ (x : Bytes). MadeWhole l b t d m x o.given.bytes) (went_table went)
        (subst⁻¹ (λ (x : Bytes). MadeWhole l b t d m T x) (went_bytes went) made))

    -- others_apply: every other file keeps its list and its bytes
    pub others_apply : (c : ℕ) → File t n c → b ≢ c → Stays l c t d o.given.table o.given.bytes
    others_apply c i ne =
        let T : Bytes = applied n t b m in
        let D : Bytes = copied n t d l b m in
        let f = apply_leaves n t whole b went.may.file m (target_window n t whole b plan went.may) c i ne in
        let stays : Stays l c t d T D = record {
          file = f.file;
          chain = f.same;
          bytes = λ many pos h.
              ap (λ (r : List Run). bytes_at many D l (blocks_of r) pos) f.same
              ∙ read_same many d D l (blocks_of (file_at n t c)) pos
              (λ k x y.
              copied_other n t whole b plan went.may d l went.passed.length_fits.0 went.passed.data_fits c i k (omega (arith, y, h)));
        } in
        subst⁻¹ (λ (x : Bytes). Stays l c t d x o.given.bytes) (went_table went)
        (subst⁻¹ (λ (x : Bytes). Stays l c t d T x) (went_bytes went) stays)

    -- free_apply: the free chain is the file's old nodes in their order, then the former free chain with the targets cut out in place
    pub free_apply : free_at n o.given.table ≡ F ++ carved o.given.first (total F) (free_at n t)
    free_apply =
        ap (free_at n) (went_table went)
        ∙ apply_free n t whole b went.may.file m (target_window n t whole b plan went.may)
        ∙ ap (λ (x : ℕ). F ++ carved x (total F) (free_at n t)) (sym (went_first went))

    -- count_apply: as many blocks are free as before
    pub count_apply : free_blocks n o.given.table ≡ free_blocks n t
    count_apply =
        ap (free_blocks n) (went_table went) ∙ apply_count n t whole b went.may.file m (target_window n t whole b plan went.may)

    -- entries_apply: every byte of the table outside entry 0 and the entries of the new node and of the free chain stays
    pub entries_apply : Kept (chain_entries (run o.given.first (total F) ∷ []) ++ chain_entries (free_at n o.given.table)) t o.given.table
    entries_apply =
        let E : ℕ → List Run → List ℕ = λ x f. chain_entries (run x (total F) ∷ []) ++ chain_entries f in
        subst⁻¹ (λ (x : List Run). Kept (E o.given.first x) t o.given.table) free_apply
        (subst⁻¹ (λ (x : ℕ). Kept (E x (F ++ carved x (total F) (free_at n t))) t o.given.table) (went_first went)
        (subst⁻¹ (λ (x : Bytes). Kept (E m (F ++ carved m (total F) (free_at n t))) t x) (went_table went)
        (applied_kept n t b m whole.bytes)))

    -- targets_apply: every byte of the data outside the target blocks stays
    pub targets_apply : (j : ℕ) → (j < o.given.first * l) ⊎ (o.given.first * l + total F * l ≤ j) → get_or o.given.bytes j 0 ≡ get_or d j 0
    targets_apply j h =
        ap (λ (x : Bytes). get_or x j 0) (went_bytes went)
        ∙ copied_only n t whole b plan went.may d l went.passed.length_fits.0 went.passed.data_fits j
        (subst (λ (x : ℕ). (j < x * l) ⊎ (x * l + total F * l ≤ j)) (went_first went) h)
