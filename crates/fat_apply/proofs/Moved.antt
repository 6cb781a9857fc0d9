-- The bytes after an applied plan: the file's stand at its targets, and every other file keeps its own.
use mathlib.Core.Path.{◌≡◌, sym, ap, subst⁻¹, ◌∙◌}
use mathlib.Core.List.{List, [], ◌∷◌, ◌++◌}
use mathlib.Core.Logic.{◌⊎◌, inl, inr, ⊎_elim}
use Prim.Native.Nat.{ℕ, ◌+◌, ◌*◌, ◌/◌, ◌%◌, ◌≤◌, ◌<◌}
use native.Mathlib.Omega.{arith}
use native.Mathlib.Nat.{add-mul, suc-mul, mul-le-mul_right, mod-lt, div-lt_iff_lt-mul}
use lib.ListN.{length, get_or}
use lib.Seq.{sets, length-sets}
use Rattle.fat_node.specs.Entry.{Bytes}
use Rattle.fat_node.specs.Node.{Run, run}
use Rattle.fat_table.specs.Sound.{File}
use Rattle.fat_table.specs.Chain.{total, free_at, file_at}
use Rattle.fat_table.specs.Layout.{hits, covers, joined}
use Rattle.fat_table.proofs.Layouts.{hits_most, covers_append}
use Rattle.fat_table.proofs.Files.{Whole, seen_file}
use Rattle.fat_promises.specs.Blocks.{blocks_of, place_of, bytes_at}
use Rattle.fat_walk.specs.Volume.{Volume}
use Rattle.fat_walk.proofs.Blocks.{length_blocks}
use Rattle.fat_copy.proofs.InRow.{length_bytes, place_at}
use Rattle.fat_step.proofs.Over.{outside}
use Rattle.fat_history.proofs.Places.{occurs, occurs_at, occurs_blocks}
use Rattle.fat_history.proofs.Apart.{below_end}
use Rattle.fat_carve.specs.Carve.{Window}
use Rattle.fat_plan.specs.Plan.{target_of}
use Rattle.fat_plan.specs.Promise.{MayCheck}
use Rattle.fat_plan.proofs.Judges.{file_some}
use Rattle.fat_apply.specs.Apply.{copied}
use Rattle.fat_apply.proofs.Bytes.{sets_other, sets_in, bytes_at_lem, read_moved}
use Rattle.fat_apply.proofs.Steps.{window, target_within}

module _ (n : ℕ) (t : Bytes) (w : Whole n t) (b : ℕ) (plan : List ℕ) (a : MayCheck n t b plan) where
  abbrev F : List Run
  F = file_at n t b

  abbrev m : ℕ
  m = target_of plan

  volume : Volume n t
  volume = record { few = w.small; room = w.room; sound = w.sound }

  some_blocks : 1 ≤ total F
  some_blocks = file_some n t b volume w.bytes a.file

  pub target_window : Window m (total F) (free_at n t)
  target_window = window n t w b plan a some_blocks

  module _ (d : Bytes) (l : ℕ) (pos : 1 ≤ l) (fits : length d ≡ n * l) where
    X : Bytes
    X = bytes_at (total F * l) d l (blocks_of F) 0

    many : length X ≡ total F * l
    unfolding X
    many = length_bytes (total F * l) d l (blocks_of F) 0

    room : m * l + total F * l ≤ length d
    room = omega (arith, fits, add-mul m (total F) l, mul-le-mul_right l (target_within n t w b plan a some_blocks))

    pub length_copied : length (copied n t d l b m) ≡ length d
    unfolding copied
    length_copied = length-sets d (m * l) (bytes_at (total F * l) d l (blocks_of F) 0)

    -- a byte outside the targets stays
    pub copied_only : (j : ℕ) → (j < m * l) ⊎ (m * l + total F * l ≤ j) → get_or (copied n t d l b m) j 0 ≡ get_or d j 0
    unfolding copied X
    copied_only j h = sets_other X d (m * l) j (⊎_elim (λ p. inl p) (λ p. inr (omega (arith, p, many))) h)

    -- byte k of the file
    pub copied_here : (k : ℕ) → k < total F * l
        → get_or (copied n t d l b m) (place_of (blocks_of (run m (total F) ∷ [])) l k) 0 ≡ get_or d (place_of (blocks_of F) l k) 0
    unfolding copied X
    copied_here k h =
        let e : k ≡ 0 * l + k = omega arith in
        let z : 0 + k ≡ k = omega arith in
        let q : place_of (blocks_of (run m (total F) ∷ [])) l k ≡ m * l + k =
        ap (place_of (blocks_of (run m (total F) ∷ [])) l) e ∙ place_at [] (run m (total F)) [] l k (omega (arith, pos)) h in
        ap (λ (y : ℕ). get_or (sets d (m * l) X) y 0) q
        ∙ sets_in X d (m * l) k (omega (arith, h, many)) (omega (arith, room, many))
        ∙ bytes_at_lem (total F * l) d l (blocks_of F) 0 k h
        ∙ ap (λ (y : ℕ). get_or d (place_of (blocks_of F) l y) 0) z

    -- a block of a file is no target
    module _ (c : ℕ) (i : File t n c) where
      abbrev C : List Run
      C = file_at n t c

      once : (x : ℕ) → covers x (free_at n t) + covers x C ≤ hits x (run 0 n)
      once x =
          let s = seen_file n t c w i in
          omega (arith, s.holds.tiled.once x, covers_append x (free_at n t) (C ++ joined s.others), covers_append x C (joined s.others))

      no_target : (x : ℕ) → 1 ≤ occurs x (blocks_of C) → (x < m) ⊎ (m + total F ≤ x)
      no_target x h = outside x (run m (total F)) (omega (arith, target_window.each x, once x, hits_most x (run 0 n), occurs_blocks x C, h))

      -- byte k of that file stays
      pub copied_other : (k : ℕ) → k < total C * l → get_or (copied n t d l b m) (place_of (blocks_of C) l k) 0 ≡ get_or d (place_of (blocks_of C) l k) 0
      unfolding place_of
      copied_other k h =
          let x : ℕ = get_or (blocks_of C) (k / l) 0 in
          let p : 0 < l = omega (arith, pos) in
          let y : 1 ≤ occurs x (blocks_of C) = occurs_at (blocks_of C) (k / l) ((div-lt_iff_lt-mul p).1 (below_end n t w c l k h)) in
          copied_only (x * l + k % l)
          (⊎_elim
          (λ q. inl (omega (arith, mul-le-mul_right l q, suc-mul x l, mod-lt k p)))
          (λ q. inr (omega (arith, mul-le-mul_right l q, add-mul m (total F) l)))
          (no_target x y))

    -- the file reads as before
    pub moved_read : (more at : ℕ) → at + more ≤ total F * l
        → bytes_at more (copied n t d l b m) l (blocks_of (run m (total F) ∷ [])) at ≡ bytes_at more d l (blocks_of F) at
    moved_read more at h =
        read_moved more d (copied n t d l b m) l (blocks_of F) (blocks_of (run m (total F) ∷ [])) at (λ k x y. copied_here k (omega (arith, y, h)))
