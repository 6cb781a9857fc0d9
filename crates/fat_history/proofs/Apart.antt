-- A file that no call names stays: its chain, and its bytes in the data.
use mathlib.Core.Path.{◌≡◌, refl, sym, ap, subst, subst⁻¹, ◌∙◌}
use mathlib.Core.List.Permᴰ
use mathlib.Core.List.{List, ◌∷◌, ◌++◌}
use mathlib.Core.Logic.{◌≢◌, ⊎_elim}
use Prim.Native.Nat.{ℕ, suc, ◌+◌, ◌-◌, ◌*◌, ◌≤◌, ◌<◌}
use native.Mathlib.Omega.{arith}
use lib.ListN.{length, get_or}
use Rattle.fat_node.specs.Entry.{Bytes}
use Rattle.fat_node.specs.Node.{Run, run}
use Rattle.fat_node.specs.Sizes.{blocks}
use Rattle.fat_node.proofs.Nodes.{le_or_lt}
use Rattle.fat_table.specs.Sound.{File}
use Rattle.fat_table.specs.Chain.{total, free_at, file_at}
use Rattle.fat_table.specs.Layout.{layout, taken, left, joined, hits, covers}
use Rattle.fat_table.specs.Steps.{first, created, resized, deleted}
use Rattle.fat_table.specs.Holds.{Holds}
use Rattle.fat_table.proofs.Layouts.{hits_most, hits_below, covers_append}
use Rattle.fat_table.proofs.Stepped.{holds_create, holds_delete, holds_order}
use Rattle.fat_table.proofs.Files.{
  Whole,
  seen_file,
  is_file,
  file_is,
  holds_resize_less,
  holds_resize_more,
  whole_created,
  whole_resized,
  whole_deleted,
}
use Rattle.fat_promises.specs.Promise.{Beside}
use Rattle.fat_promises.specs.Blocks.{blocks_of, place_of, written}
use Rattle.fat_promises.specs.Calls.{Create, Change, Carry}
use Rattle.fat_walk.proofs.Blocks.{length_blocks}
use Rattle.fat_history.specs.Away.{Away, none, creates, resizes, deletes, writes}
use Rattle.fat_history.proofs.Means.{create_keeps, resize_keeps, delete_keeps, write_keeps}
use Rattle.fat_history.proofs.Honest.{blocks_of_lem}
use Rattle.fat_history.proofs.Lies.{seen_two, two_apart}
use Rattle.fat_history.proofs.Places.{occurs, occurs_blocks, places_apart, length_written, written_other}

-- the file at b is in t' what it is in t
pub record SameFile (n : ℕ) (t t' : Bytes) (b : ℕ) : Type 0 where
  pub file : File t' n b
  pub same : file_at n t' b ≡ file_at n t b

-- where t' holds the chain among its files
same_file : (n : ℕ) → n ≤ 1000000 → (t t' : Bytes) (b : ℕ) (free : List Run) (files : List (List Run)) → Holds n t' (layout free (file_at n t b ∷ files))
    → first (file_at n t b) ≡ suc b
    → SameFile n t t' b
same_file n small t t' b free files h at = record {
  file = is_file n small t' free (file_at n t b) files b h at;
  same = file_is n small t' free (file_at n t b) files h b at;
}

-- the steps leave a file alone ---------------------------------------------------------------------------------------

module _ (n : ℕ) (t : Bytes) (w : Whole n t) (b : ℕ) (j : File t n b) where
  create_leaves : (c : ℕ) → 1 ≤ c → c ≤ total (free_at n t) → SameFile n t (created n t c) b
  create_leaves c h k =
      let s = seen_file n t b w j in
      let free : List Run = free_at n t in
      same_file n w.small t (created n t c) b (left free c) (taken free c ∷ s.others)
      (holds_order (Permᴰ.swap refl refl) (holds_create n w.small t free (file_at n t b ∷ s.others) s.holds c h k))
      s.at

  module _ (c : ℕ) (i : File t n c) (ne : c ≢ b) where
    delete_leaves : SameFile n t (deleted n t c) b
    delete_leaves =
        let s = seen_two n t c b w i j ne in
        same_file n w.small t (deleted n t c) b (file_at n t c ++ free_at n t) s.others
        (holds_delete n w.small t (free_at n t) (file_at n t c) (file_at n t b ∷ s.others) s.holds c s.at)
        s.next_at_lem

    resize_leaves : (m : ℕ) → 1 ≤ m → m ≤ total (file_at n t c) + total (free_at n t) → SameFile n t (resized n t c m) b
    resize_leaves m h k =
        let s = seen_two n t c b w i j ne in
        let free : List Run = free_at n t in
        let f : List Run = file_at n t c in
        ⊎_elim
        (λ l.
        same_file n w.small t (resized n t c m) b (left f m ++ free) (taken f m ∷ s.others)
        (holds_order (Permᴰ.swap refl refl)
        (holds_resize_less n w.small t free f (file_at n t b ∷ s.others) s.holds c s.at m h l))
        s.next_at_lem)
        (λ l.
        let d : ℕ = m - total f in
        let e : total f + d ≡ m = omega (arith, l) in
        same_file n w.small t (resized n t c m) b (left free d) ((f ++ taken free d) ∷ s.others)
        (holds_order (Permᴰ.swap refl refl)
        (subst (λ (x : ℕ). Holds n (resized n t c x) (layout (left free d) ((f ++ taken free d) ∷ (file_at n t b ∷ s.others)))) e
        (holds_resize_more n w.small t free f (file_at n t b ∷ s.others) s.holds c s.at d (omega (arith, l)) (omega (arith, l, k)))))
        s.next_at_lem)
        (le_or_lt m (total f))

-- the blocks of a file ---------------------------------------------------------------------------------------------------

module _ (n : ℕ) (t : Bytes) (w : Whole n t) where
  file_covers : (b : ℕ) → File t n b → (x : ℕ) → covers x (file_at n t b) ≤ hits x (run 0 n)
  file_covers b i x =
      let s = seen_file n t b w i in
      omega (
        arith,
        s.holds.tiled.once x,
        covers_append x (free_at n t) (file_at n t b ++ joined s.others),
        covers_append x (file_at n t b) (joined s.others),
      )

  pub blocks_once : (b : ℕ) → File t n b → (x : ℕ) → occurs x (blocks_of (file_at n t b)) ≤ 1
  blocks_once b i x = omega (arith, occurs_blocks x (file_at n t b), file_covers b i x, hits_most x (run 0 n))

  pub blocks_low : (b : ℕ) → File t n b → (x : ℕ) → 1 ≤ occurs x (blocks_of (file_at n t b)) → x < n
  blocks_low b i x h = omega (arith, hits_below x (run 0 n) (omega (arith, h, occurs_blocks x (file_at n t b), file_covers b i x)))

  pub blocks_apart : (c b : ℕ) → File t n c → File t n b → c ≢ b → (x : ℕ) → occurs x (blocks_of (file_at n t c)) + occurs x (blocks_of (file_at n t b)) ≤ 1
  blocks_apart c b i j ne x =
      omega (arith, occurs_blocks x (file_at n t c), occurs_blocks x (file_at n t b), two_apart n t c b w i j ne x, hits_most x (run 0 n))

  -- a byte below the file's end is one of so many blocks
  pub below_end : (b l k : ℕ) → k < total (file_at n t b) * l → k < length (blocks_of (file_at n t b)) * l
  below_end b l k h = subst⁻¹ (λ (m : ℕ). k < m * l) (length_blocks (file_at n t b)) h

  -- a write to one file changes no byte of another
  pub write_leaves : (d buf : Bytes) (l c b pos : ℕ) → 0 < l → File t n c → File t n b → c ≢ b → pos + length buf ≤ total (file_at n t c) * l
      → (k : ℕ)
      → k < total (file_at n t b) * l
      → get_or (written buf d l (blocks_of (file_at n t c)) pos) (place_of (blocks_of (file_at n t b)) l k) 0
      ≡ get_or d (place_of (blocks_of (file_at n t b)) l k) 0
  write_leaves d buf l c b pos h i j ne e k m =
      written_other buf d l (blocks_of (file_at n t c)) pos (place_of (blocks_of (file_at n t b)) l k)
      (λ a q r.
      places_apart l h (blocks_of (file_at n t c)) (blocks_of (file_at n t b)) (blocks_apart c b i j ne) (pos + a) k
      (below_end c l (pos + a) (omega (arith, q, e))) (below_end b l k m) (sym r))

-- a run of calls that do not name the file ---------------------------------------------------------------------------------

-- what the run leaves as it is
pub record Still (n l b : ℕ) (t d t' d' : Bytes) : Type 0 where
  pub whole : Whole n t'
  pub long : length d' ≡ length d
  pub file : File t' n b
  pub same : file_at n t' b ≡ file_at n t b
  pub bytes : (k : ℕ) → k < total (file_at n t b) * l
      → get_or d' (place_of (blocks_of (file_at n t b)) l k) 0 ≡ get_or d (place_of (blocks_of (file_at n t b)) l k) 0

-- a step that changes the table alone
step_table : (n l b : ℕ) (t d t₁ t₂ d₁ : Bytes) → Still n l b t d t₁ d₁ → Whole n t₂ → SameFile n t₁ t₂ b → Still n l b t d t₂ d₁
step_table n l b t d t₁ t₂ d₁ s w f = record { whole = w; long = s.long; file = f.file; same = f.same ∙ s.same; bytes = s.bytes }

as_is : (n l b : ℕ) (t d t₁ t₂ d₁ d₂ : Bytes) → t₂ ≡ t₁ → d₂ ≡ d₁ → Still n l b t d t₁ d₁ → Still n l b t d t₂ d₂
as_is n l b t d t₁ t₂ d₁ d₂ e q s =
    subst⁻¹ (λ (x : Bytes). Still n l b t d x d₂) e (subst⁻¹ (λ (x : Bytes). Still n l b t d t₁ x) q s)

pub still : (n l b : ℕ) (t d : Bytes) → Whole n t → File t n b → {t' d' : Bytes} → Away l b t d t' d' → Still n l b t d t' d'
still n l b t d w j none = record { whole = w; long = refl; file = j; same = refl; bytes = λ k h. refl }
still n l b t d w j (creates t₁ d₁ a work count o p) =
    let s = still n l b t d w j a in
    let e : blocks t₁ ≡ n = blocks_of_lem n t₁ s.whole.room in
    ⊎_elim
    (λ q. as_is n l b t d t₁ o.given.table d₁ d₁ q refl s)
    (λ q.
    let k : count ≤ total (free_at n t₁) = subst (λ (m : ℕ). count ≤ total (free_at m t₁)) e q.may.enough in
    let r : o.given.table ≡ created n t₁ count = ap (λ (x : Beside Create). x.given.table) q.is ∙ ap (λ (m : ℕ). created m t₁ count) e in
    as_is n l b t d (created n t₁ count) o.given.table d₁ d₁ r refl
    (step_table n l b t d t₁ (created n t₁ count) d₁ s (whole_created n t₁ s.whole count q.may.some k)
    (create_leaves n t₁ s.whole b s.file count q.may.some k)))
    (create_keeps t₁ (length d₁) l work count o s.whole.bytes p)
still n l b t d w j (resizes t₁ d₁ a work c count o ne p) =
    let s = still n l b t d w j a in
    let e : blocks t₁ ≡ n = blocks_of_lem n t₁ s.whole.room in
    ⊎_elim
    (λ q. as_is n l b t d t₁ o.given.table d₁ d₁ q refl s)
    (λ q.
    let i : File t₁ n c = subst (λ (m : ℕ). File t₁ m c) e q.may.file in
    let k : count ≤ total (file_at n t₁ c) + total (free_at n t₁) =
    subst (λ (m : ℕ). count ≤ total (file_at m t₁ c) + total (free_at m t₁)) e q.may.enough in
    let r : o.given.table ≡ resized n t₁ c count = ap (λ (x : Beside Change). x.given.table) q.is ∙ ap (λ (m : ℕ). resized m t₁ c count) e in
    as_is n l b t d (resized n t₁ c count) o.given.table d₁ d₁ r refl
    (step_table n l b t d t₁ (resized n t₁ c count) d₁ s (whole_resized n t₁ s.whole c count i q.may.some k)
    (resize_leaves n t₁ s.whole b s.file c i ne count q.may.some k)))
    (resize_keeps t₁ (length d₁) l work c count o s.whole.bytes p)
still n l b t d w j (deletes t₁ d₁ a work c o ne p) =
    let s = still n l b t d w j a in
    let e : blocks t₁ ≡ n = blocks_of_lem n t₁ s.whole.room in
    ⊎_elim
    (λ q. as_is n l b t d t₁ o.given.table d₁ d₁ q refl s)
    (λ q.
    let i : File t₁ n c = subst (λ (m : ℕ). File t₁ m c) e q.may.file in
    let r : o.given.table ≡ deleted n t₁ c = ap (λ (x : Beside Change). x.given.table) q.is ∙ ap (λ (m : ℕ). deleted m t₁ c) e in
    as_is n l b t d (deleted n t₁ c) o.given.table d₁ d₁ r refl
    (step_table n l b t d t₁ (deleted n t₁ c) d₁ s (whole_deleted n t₁ s.whole c i) (delete_leaves n t₁ s.whole b s.file c i ne)))
    (delete_keeps t₁ (length d₁) l work c o s.whole.bytes p)
still n l b t d w j (writes t₁ d₁ a work c pos buf o ne p) =
    let s = still n l b t d w j a in
    let e : blocks t₁ ≡ n = blocks_of_lem n t₁ s.whole.room in
    ⊎_elim
    (λ q. as_is n l b t d t₁ t₁ d₁ o.given.bytes refl q s)
    (λ q.
    let i : File t₁ n c = subst (λ (x : ℕ). File t₁ x c) e q.may.file in
    let k : pos + length buf ≤ total (file_at n t₁ c) * l = subst (λ (x : ℕ). pos + length buf ≤ total (file_at x t₁ c) * l) e q.may.enough in
    let C : List ℕ = blocks_of (file_at n t₁ c) in
    let d₂ : Bytes = written buf d₁ l C pos in
    let r : o.given.bytes ≡ d₂ = ap (λ (x : Beside Carry). x.given.bytes) q.is ∙ ap (λ (x : ℕ). written buf d₁ l (blocks_of (file_at x t₁ c)) pos) e in
    as_is n l b t d t₁ t₁ d₂ o.given.bytes refl r
    (record {
      whole = s.whole;
      long = length_written buf d₁ l C pos ∙ s.long;
      file = s.file;
      same = s.same;
      bytes = λ x h.
          subst (λ (f : List Run). x < total f * l → get_or d₂ (place_of (blocks_of f) l x) 0 ≡ get_or d₁ (place_of (blocks_of f) l x) 0) s.same
          (λ y. write_leaves n t₁ s.whole d₁ buf l c b pos (omega (arith, q.passed.length_fits.0)) i s.file ne k x y)
          h
          ∙ s.bytes x h;
    }))
    (write_keeps t₁ d₁ l work c pos buf o s.whole.bytes p)
