-- The merged table: what it holds and what stays.
use mathlib.Core.Path.{◌≡◌, sym, ap, ◌∙◌}
use mathlib.Core.List.{List, [], ◌∷◌}
use Prim.Native.Nat.{ℕ, ◌≤◌}
use native.Mathlib.Omega.{arith}
use Rattle.words.proofs.Laws as words
use Rattle.fat_node.specs.Entry.{Bytes, entry, put}
use Rattle.fat_node.specs.Node.{Run, run, set_head}
use Rattle.fat_node.proofs.Entries.{put_same}
use Rattle.fat_table.specs.Sound.{File, Counted, none, one, skip}
use Rattle.fat_table.specs.Chain.{free_at, file_at}
use Rattle.fat_table.specs.Layout.{layout, joined, hits, covers, empties, Tiled}
use Rattle.fat_table.specs.Steps.{first, relaid}
use Rattle.fat_table.specs.Holds.{Holds}
use Rattle.fat_table.specs.Counts.{free_blocks, other_chains}
use Rattle.fat_table.specs.Changes.{Kept}
use Rattle.fat_table.proofs.Layouts.{covers_append, empties_append}
use Rattle.fat_table.proofs.Laying.{relaid_laid}
use Rattle.fat_table.proofs.Stepped.{free_read, holds_order}
use Rattle.fat_table.proofs.Writes.{lay_as}
use Rattle.fat_table.proofs.Sounds.{holds_sound}
use Rattle.fat_table.proofs.Files.{Whole, seen, seen_file, is_file, file_is, file_of, bytes_relaid}
use Rattle.fat_table.proofs.Counting.{files_counted, counted_files}
use Rattle.fat_carve.proofs.Totals.{total_same}
use Rattle.fat_carve.proofs.Relaid.{relaid_kept}
use Rattle.fat_history.proofs.Apart.{SameFile}
use Rattle.fat_merge.specs.Merge.{tidied, merged, merge_entries, Spread}
use Rattle.fat_merge.proofs.Stretches.{stretch_covers, stretch_sizes, stretch_spread, stretch_ext, spread_one}

-- every byte outside entry 0 and the entries of the new free nodes stays
pub merged_kept : (n : ℕ) (t : Bytes) → words.Bytes t → Kept (merge_entries n t) t (merged n t)
unfolding merged
merged_kept n t g = relaid_kept t [] (tidied n t) g

-- the free chain's runs, rising, with a gap between any two
pub tidied_spread : (n : ℕ) (t : Bytes) → Spread 0 (tidied n t)
unfolding tidied
tidied_spread n t = stretch_spread n 0 (λ x. covers x (free_at n t))

pub tidied_sizes : (n : ℕ) (t : Bytes) → empties (tidied n t) ≡ 0
unfolding tidied
tidied_sizes n t = stretch_sizes n 0 (λ x. covers x (free_at n t))

module _ (n : ℕ) (small : n ≤ 1000000) (t : Bytes) (free : List Run) (files : List (List Run)) (s : Holds n t (layout free files)) where
  free_is : free_at n t ≡ free
  free_is = free_read n small t (layout free files) s

  free_in : (x : ℕ) → covers x (free_at n t) ≤ hits x (run 0 n)
  free_in x = omega (arith, ap (covers x) free_is, s.tiled.once x, covers_append x free (joined files))

  -- it covers what the free chain covered
  pub tidied_covers : (x : ℕ) → covers x (tidied n t) ≡ covers x free
  unfolding tidied
  tidied_covers x = stretch_covers n (λ y. covers y (free_at n t)) free_in x ∙ ap (covers x) free_is

  -- the same files, and the stretches for the free chain
  pub holds_merged : Holds n (merged n t) (layout (tidied n t) files)
  unfolding merged
  holds_merged =
      let F : List Run = tidied n t in
      let T : Tiled n (layout F files) = record {
        positive = omega (arith, s.tiled.positive, tidied_sizes n t, empties_append free (joined files), empties_append F (joined files));
        once = λ x. omega (arith, s.tiled.once x, tidied_covers x, covers_append x free (joined files), covers_append x F (joined files));
        nonempty = s.tiled.nonempty;
      } in
      let a = relaid_laid n small t [] F files s.room s.files T.positive T.once in
      record { room = a.0; head = a.1; free = a.2; files = a.4; tiled = T }

-- on a sound table -----------------------------------------------------------------------------------------

module _ (n : ℕ) (t : Bytes) (w : Whole n t) where
  pub merge_holds : Holds n (merged n t) (layout (tidied n t) (seen n t w).files)
  merge_holds = let s = seen n t w in holds_merged n w.small t (free_at n t) s.files s.holds

  -- sound afterwards
  pub merge_whole : Whole n (merged n t)
  unfolding merged
  merge_whole = record {
    small = w.small;
    bytes = bytes_relaid t [] (tidied n t) w.bytes;
    room = merge_holds.room;
    sound = holds_sound n w.small (relaid t [] (tidied n t)) (layout (tidied n t) (seen n t w).files) merge_holds;
  }

  -- the free chain is the stretches
  pub merge_free : free_at n (merged n t) ≡ tidied n t
  merge_free = free_read n w.small (merged n t) (layout (tidied n t) (seen n t w).files) merge_holds

  pub merge_covers : (x : ℕ) → covers x (free_at n (merged n t)) ≡ covers x (free_at n t)
  merge_covers x =
      let s = seen n t w in
      ap (covers x) merge_free ∙ tidied_covers n w.small t (free_at n t) s.files s.holds x

  -- the free count is the same
  pub merge_count : free_blocks n (merged n t) ≡ free_blocks n t
  merge_count =
      let s = seen n t w in
      total_same n (free_at n (merged n t)) (free_at n t)
      (ap empties merge_free ∙ tidied_sizes n t)
      (omega (arith, s.holds.tiled.positive, empties_append (free_at n t) (joined s.files)))
      (λ x. omega (arith, s.holds.tiled.once x, covers_append x (free_at n t) (joined s.files)))
      merge_covers

  -- every file stays as it was
  pub merge_leaves : (b : ℕ) → File t n b → SameFile n t (merged n t) b
  merge_leaves b i =
      let s = seen_file n t b w i in
      let h = holds_merged n w.small t (free_at n t) (file_at n t b ∷ s.others) s.holds in
      record {
        file = is_file n w.small (merged n t) (tidied n t) (file_at n t b) s.others b h s.at;
        same = file_is n w.small (merged n t) (tidied n t) (file_at n t b) s.others h b s.at;
      }

  -- and there is no other file
  pub merge_only : (b : ℕ) → File (merged n t) n b → File t n b
  merge_only b i =
      let s = seen n t w in
      let o = file_of n w.small (merged n t) (layout (tidied n t) s.files) b merge_holds i in
      is_file n w.small t (free_at n t) o.0 o.1 b (holds_order o.2 s.holds) o.3

  -- a second call finds the same stretches
  pub merge_tidied : tidied n (merged n t) ≡ tidied n t
  unfolding tidied
  merge_tidied = stretch_ext n 0 (λ x. covers x (free_at n (merged n t))) (λ x. covers x (free_at n t)) merge_covers

-- a free chain laid as it is, and the head as it is
pub relaid_free : (n : ℕ) (t : Bytes) (w : Whole n t) → relaid t [] (free_at n t) ≡ t
unfolding set_head
relaid_free n t w =
    let s = seen n t w in
    ap (λ (x : Bytes). put x 0 (entry 0 (first (free_at n t)))) (lay_as t (free_at n t) 0 w.bytes s.holds.free)
    ∙ put_same t 0 (entry 0 (first (free_at n t))) w.bytes s.holds.head

-- a free chain that is tidy is left alone
pub merge_same : (n : ℕ) (t : Bytes) → Whole n t → tidied n t ≡ free_at n t → merged n t ≡ t
unfolding merged
merge_same n t w e = ap (relaid t []) e ∙ relaid_free n t w

-- a second call changes nothing
pub merge_again : (n : ℕ) (t : Bytes) → Whole n t → merged n (merged n t) ≡ merged n t
merge_again n t w = merge_same n (merged n t) (merge_whole n t w) (merge_tidied n t w ∙ sym (merge_free n t w))

-- the stretches are the only runs that cover the free blocks, none empty, rising, with a gap between any two
pub tidied_only : (n : ℕ) (t : Bytes) → Whole n t → (l : List Run) → Spread 0 l → empties l ≡ 0 → ((x : ℕ) → covers x l ≡ covers x (free_at n t)) → l ≡ tidied n t
tidied_only n t w l s e c =
    let v = seen n t w in
    spread_one 0 0 l (tidied n t) s (tidied_spread n t) e (tidied_sizes n t)
    (λ x. c x ∙ sym (tidied_covers n w.small t (free_at n t) v.files v.holds x))

-- the number of other chains is the same
counted_map : {P Q : ℕ → Type 0} {n c : ℕ} → ((b : ℕ) → P b → Q b) → ((b : ℕ) → Q b → P b) → Counted P n c → Counted Q n c
counted_map f g none = none
counted_map f g (one {n} k p) = one (counted_map f g k) (f n p)
counted_map f g (skip {n} k p) = skip (counted_map f g k) (λ q. p (g n q))

pub merge_others : (n : ℕ) (t : Bytes) → Whole n t → other_chains n (merged n t) ≡ other_chains n t
merge_others n t w =
    counted_files n t (other_chains n (merged n t)) w
    (counted_map (λ b i. merge_only n t w b i) (λ b i. (merge_leaves n t w b i).file) (files_counted n (merged n t) (merge_whole n t w)))
