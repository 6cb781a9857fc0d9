-- Demand 3 over the calls' promises: what a run ends in is sound, and every sound table is what a run ends in, where the rules read.
use mathlib.Core.Path.{◌≡◌, refl, sym, ap, subst, subst⁻¹, ◌∙◌}
use mathlib.Core.List.{List, [], ◌∷◌, ◌++◌}
use mathlib.Core.Logic.{inl}
use Prim.Native.Nat.{ℕ, suc, ◌+◌, ◌-◌, ◌*◌, ◌/◌, ◌≤◌}
use native.Mathlib.Omega.{arith}
use lib.ListN.{length, replicate, length-replicate}
use Rattle.words.proofs.Laws as words
use Rattle.order.specs.Answer.{Done}
use Rattle.fat_node.specs.Entry.{Bytes}
use Rattle.fat_node.specs.Node.{Run, run}
use Rattle.fat_node.specs.Sizes.{blocks}
use Rattle.fat_node.specs.Format.{formatted}
use Rattle.fat_table.specs.Sound.{Sound, File}
use Rattle.fat_table.specs.Chain.{total, free_at}
use Rattle.fat_table.specs.Layout.{Layout, layout, taken, left}
use Rattle.fat_table.specs.Steps.{created, resized, deleted}
use Rattle.fat_table.specs.Holds.{Holds}
use Rattle.fat_table.specs.Agree.{Agree}
use Rattle.fat_table.proofs.Stepped.{free_read, holds_format, holds_create, holds_delete, holds_order}
use Rattle.fat_table.proofs.Sounds.{sound_holds, holds_sound}
use Rattle.fat_table.proofs.Files.{
  Whole,
  Seen,
  seen,
  some_first,
  is_file,
  bytes_formatted,
  bytes_created,
  bytes_deleted,
  whole_formatted,
  whole_created,
  whole_resized,
  whole_deleted,
}
use Rattle.fat_table.proofs.Agreeing.{holds_agree, agree_holds}
use Rattle.fat_promises.specs.Promise.{Beside}
use Rattle.fat_promises.specs.Calls.{Create, Change}
use Rattle.fat_history.specs.History as histories
use Rattle.words.specs.Word.{AreBytes}
use Rattle.fat_history.specs.History.{formats, creates, resizes, deletes}
use Rattle.fat_history.proofs.Passes.{are_bytes, Fits, Passed}
use Rattle.fat_history.proofs.Means.{
  format_means,
  format_done_lem,
  create_means,
  create_done_lem,
  create_last,
  resize_means,
  delete_means,
  delete_done_lem,
  delete_last,
}
use Rattle.fat_history.proofs.Reaches as reaches
use Rattle.fat_history.proofs.Reaches.{Reach, tiled_reach}

-- the number of blocks ------------------------------------------------------------------------------------------

pub blocks_of_lem : (n : ℕ) (t : Bytes) → length t ≡ 8 * (n + 1) → blocks t ≡ n
blocks_of_lem n t e = omega (arith, e)

pub as_blocks : (n : ℕ) (t : Bytes) → Whole n t → Whole (blocks t) t
as_blocks n t w = subst⁻¹ (λ (m : ℕ). Whole m t) (blocks_of_lem n t w.room) w

-- the tables of a run are whole -----------------------------------------------------------------------------------

pub run_whole : {k : ℕ} {t : Bytes} → histories.History k t → Whole (blocks t) t × (1 ≤ blocks t)
run_whole (formats t t' r g p e) =
    let w = format_means t t' r p e in
    let f : Fits t = w.0 in
    let h : Whole (blocks t) (formatted (blocks t) t) = whole_formatted (blocks t) t f.some f.few (are_bytes t g) f.room in
    subst⁻¹ (λ (x : Bytes). Whole (blocks x) x × (1 ≤ blocks x)) w.1
    (as_blocks (blocks t) (formatted (blocks t) t) h, omega (arith, f.some, blocks_of_lem (blocks t) (formatted (blocks t) t) h.room))
run_whole (creates k t v d l work count o p e) =
    let i = run_whole v in
    let w = create_means t d l work count o i.0.bytes p e in
    let n : ℕ = blocks t in
    let h : Whole n (created n t count) = whole_created n t i.0 count w.may.some w.may.enough in
    subst⁻¹ (λ (x : Bytes). Whole (blocks x) x × (1 ≤ blocks x)) (ap (λ (x : Beside Create). x.given.table) w.is)
    (as_blocks n (created n t count) h, omega (arith, i.1, blocks_of_lem n (created n t count) h.room))
run_whole (resizes k t v d l work b count o p e) =
    let i = run_whole v in
    let w = resize_means t d l work b count o i.0.bytes p e in
    let n : ℕ = blocks t in
    let h : Whole n (resized n t b count) = whole_resized n t i.0 b count w.may.file w.may.some w.may.enough in
    subst⁻¹ (λ (x : Bytes). Whole (blocks x) x × (1 ≤ blocks x)) (ap (λ (x : Beside Change). x.given.table) w.is)
    (as_blocks n (resized n t b count) h, omega (arith, i.1, blocks_of_lem n (resized n t b count) h.room))
run_whole (deletes k t v d l work b o p e) =
    let i = run_whole v in
    let w = delete_means t d l work b o i.0.bytes p e in
    let n : ℕ = blocks t in
    let h : Whole n (deleted n t b) = whole_deleted n t i.0 b w.may.file in
    subst⁻¹ (λ (x : Bytes). Whole (blocks x) x × (1 ≤ blocks x)) (ap (λ (x : Beside Change). x.given.table) w.is)
    (as_blocks n (deleted n t b) h, omega (arith, i.1, blocks_of_lem n (deleted n t b) h.room))

-- a table that agrees with a run's end is sound
pub run_sound : (t t' : Bytes) (k : ℕ) → histories.History k t' → Agree (blocks t) t t' → Sound t (blocks t)
run_sound t t' k r a =
    let w = run_whole r in
    let e : blocks t' ≡ blocks t = ap (λ (x : ℕ). x / 8 - 1) (sym a.room) in
    let h : Whole (blocks t) t' = subst (λ (m : ℕ). Whole m t') e w.0 in
    let s : Seen (blocks t) t' = seen (blocks t) t' h in
    let L : Layout = layout (free_at (blocks t) t') s.files in
    holds_sound (blocks t) h.small t L (agree_holds (blocks t) h.small t t' L a s.holds)

-- every tiled layout is held by the end of a run ------------------------------------------------------------------

-- the end of a run of k calls that holds a layout
record Made (n k : ℕ) (L : Layout) : Type 0 where
  end : Bytes
  run_to : histories.History k end
  bytes : words.Bytes end
  blocks_are : blocks end ≡ n
  holds : Holds n end L

module _ (n : ℕ) (some : 1 ≤ n) (small : n ≤ 1000000) where
  -- a table that holds a layout may be worked on, with blocks of 512 bytes
  ready : (t : Bytes) (L : Layout) → words.Bytes t → blocks t ≡ n → Holds n t L → Passed t (n * 512) 512 (replicate n 0)
  ready t L g e h =
      let w : Whole n t = record { small = small; bytes = g; room = h.room; sound = holds_sound n small t L h } in
      record {
        whole = as_blocks n t w;
        some = omega (arith, e, some);
        data_fits = omega (arith, e);
        length_fits = (omega arith, omega arith);
        work_fits = omega (arith, e, length-replicate {A = ℕ} n 0);
      }

  made_create : {k : ℕ} (free : List Run) (files : List (List Run)) (c : ℕ) → 1 ≤ c → c ≤ total free → Made n k (layout free files)
      → Made n (suc k) (layout (left free c) (taken free c ∷ files))
  made_create {k} free files c h l m =
      let t : Bytes = m.end in
      let L : Layout = layout free files in
      let o : Beside Create = create_last t (n * 512) 512 (replicate n 0) c in
      let e : blocks t ≡ n = m.blocks_are in
      let fr : total (free_at (blocks t) t) ≡ total free = ap (λ (x : ℕ). total (free_at x t)) e ∙ ap total (free_read n small t L m.holds) in
      let q : o.given.table ≡ created n t c = ap (λ (x : ℕ). created x t c) e in
      let s : Holds n o.given.table (layout (left free c) (taken free c ∷ files)) =
      subst⁻¹ (λ (x : Bytes). Holds n x (layout (left free c) (taken free c ∷ files))) q (holds_create n small t free files m.holds c h l) in
      record {
        end = o.given.table;
        run_to = creates k t m.run_to (n * 512) 512 (replicate n 0) c o
            (create_done_lem t (n * 512) 512 (replicate n 0) c (ready t L m.bytes e m.holds) (inl refl) (record { some = h; enough = omega (arith, fr, l) })) refl;
        bytes = bytes_created (blocks t) t 0 c m.bytes;
        blocks_are = blocks_of_lem n o.given.table s.room;
        holds = s;
      }

  made_delete : {k : ℕ} (free f : List Run) (files : List (List Run)) → Made n k (layout free (f ∷ files)) → Made n (suc k) (layout (f ++ free) files)
  made_delete {k} free f files m =
      let t : Bytes = m.end in
      let L : Layout = layout free (f ∷ files) in
      let at = some_first f (omega (arith, m.holds.tiled.nonempty)) in
      let b : ℕ = at.0 in
      let o : Beside Change = delete_last t (n * 512) 512 (replicate n 0) b in
      let e : blocks t ≡ n = m.blocks_are in
      let i : File t (blocks t) b = subst⁻¹ (λ (x : ℕ). File t x b) e (is_file n small t free f files b m.holds at.1) in
      let q : o.given.table ≡ deleted n t b = ap (λ (x : ℕ). deleted x t b) e in
      let s : Holds n o.given.table (layout (f ++ free) files) =
      subst⁻¹ (λ (x : Bytes). Holds n x (layout (f ++ free) files)) q (holds_delete n small t free f files m.holds b at.1) in
      record {
        end = o.given.table;
        run_to = deletes k t m.run_to (n * 512) 512 (replicate n 0) b o
            (delete_done_lem t (n * 512) 512 (replicate n 0) b (ready t L m.bytes e m.holds) (inl refl) (record { file = i })) refl;
        bytes = bytes_deleted (blocks t) t b 0 m.bytes;
        blocks_are = blocks_of_lem n o.given.table s.room;
        holds = s;
      }

made_format : (t : Bytes) → AreBytes t → Fits t → Made (blocks t) 0 (layout (run 0 (blocks t) ∷ []) [])
made_format t g f =
    let n : ℕ = blocks t in
    let s : Holds n (formatted n t) (layout (run 0 n ∷ []) []) = holds_format n f.few t f.some f.room in
    record {
      end = formatted n t;
      run_to = formats t (formatted n t) Done g (format_done_lem t f) refl;
      bytes = bytes_formatted n t 0 0 (are_bytes t g);
      blocks_are = blocks_of_lem n (formatted n t) s.room;
      holds = s;
    }

made : (t : Bytes) → AreBytes t → Fits t → {k : ℕ} {L : Layout} → Reach (blocks t) k L → Made (blocks t) k L
made t g f reaches.formatted = made_format t g f
made t g f (reaches.create {k} {free} {files} c h l r) = made_create (blocks t) f.some f.few free files c h l (made t g f r)
made t g f (reaches.delete {k} {free} {f = c} {files} r) = made_delete (blocks t) f.some f.few free c files (made t g f r)
made t g f (reaches.order {k} {free} {fs} {gs} r p) =
    let m : Made (blocks t) k (layout free fs) = made t g f r in
    record { end = m.end; run_to = m.run_to; bytes = m.bytes; blocks_are = m.blocks_are; holds = holds_order p m.holds }

-- a run of k calls after format whose end agrees with t
pub record Reached (t : Bytes) : Type 0 where
  pub k : ℕ
  pub end : Bytes
  pub run_to : histories.History k end
  pub agrees : Agree (blocks t) t end

pub sound_run : (t : Bytes) → AreBytes t → Fits t → Sound t (blocks t) → Reached t
sound_run t g f s =
    let n : ℕ = blocks t in
    let w = sound_holds n t (are_bytes t g) f.room s in
    let v = tiled_reach n w.0 f.some w.1.tiled in
    let m = made t g f v.2 in
    record {
      k = v.0;
      end = m.end;
      run_to = m.run_to;
      agrees = holds_agree n f.few t m.end w.0 w.1 m.holds;
    }
