-- The maps stay those of the table in any run of calls, whatever they answer, and so equal maps built afresh; answers and tables are those without maps.
use mathlib.Core.Path.{◌≡◌, refl, ap, ◌∙◌}
use mathlib.Core.List.{List}
use Prim.Native.Nat.{ℕ, ◌*◌, ◌≤◌, ◌<◌}
use native.Mathlib.Omega.{arith}
use Rattle.order.specs.First.{First}
use Rattle.order.proofs.One.{one}
use Rattle.map_bits.specs.Bits.{words_in, bit}
use Rattle.map_bits.proofs.Words.{bit_words}
use Rattle.fat_node.specs.Entry.{Bytes}
use Rattle.fat_table.specs.Sound.{File}
use Rattle.fat_table.proofs.Files.{Whole}
use Rattle.fat_promises.specs.Promise.{change_rows}
use Rattle.fat_promises.specs.Calls.{Create, create_gives, create_rows, create_done, Change, change_gives, resize_rows, resize_done, delete_rows, delete_done}
use Rattle.map_inner.specs.Map.{map_of}
use Rattle.fat_first.specs.Firsts.{first_at, firsts_of}
use Rattle.fat_first.specs.Calls.{CreateFirst, ResizeFirst, DeleteFirst}
use Rattle.fat_first.specs.Runs.{FirstRun, none, creates, resizes, deletes}
use Rattle.fat_first.proofs.Firsts.{first_file, file_first, first_most, first_out}

-- after any run of calls, whatever they answered, both maps are the table's: what a build gives
pub run_firsts : {n : ℕ} {t u : Bytes} {map firsts m f : List ℕ} → FirstRun n t map firsts u m f → map ≡ map_of n t → firsts ≡ firsts_of n t
    → (m ≡ map_of n u) × (f ≡ firsts_of n u)
run_firsts none p q = (p, q)
run_firsts (creates r l count o m f c) p q = (c.free, c.first)
run_firsts (resizes r l b count o m f c) p q = (c.free, c.first)
run_firsts (deletes r l b o m f c) p q = (c.free, c.first)

-- the bit of a block tells whether it is a file's first; the unused bits of the last word are 0
module _ (n : ℕ) (t : Bytes) (w : Whole n t) (x : ℕ) (h : x < 32 * words_in n) where
  at : bit (firsts_of n t) x ≡ first_at n t x
  unfolding firsts_of
  at = bit_words (words_in n) (first_at n t) x h (first_most n t w)

  pub bit_file : bit (firsts_of n t) x ≡ 1 → File t n x
  bit_file e = first_file n t w x (omega (arith, e, at))

  pub file_bit : File t n x → bit (firsts_of n t) x ≡ 1
  file_bit f = at ∙ file_first n t w x f

  pub bit_past : n ≤ x → bit (firsts_of n t) x ≡ 0
  bit_past k = at ∙ first_out n t w x k

-- the answer and the table are those of the call without maps
module _ (n : ℕ) (t : Bytes) (l : ℕ) (map firsts : List ℕ) where
  pub same_create : (count : ℕ) (o o' : Create) → CreateFirst n t l count o map firsts
      → First (change_rows (λ a. create_gives a 0 t) l (create_rows n t count)) (create_done n t count) o' → o ≡ o'
  same_create count o o' c s = one (change_rows (λ a. create_gives a 0 t) l (create_rows n t count)) (create_done n t count) o o' c.sound s

  pub same_resize : (b count : ℕ) (o o' : Change) → ResizeFirst n t l b count o map firsts
      → First (change_rows (λ a. change_gives a t) l (resize_rows n t b count)) (resize_done n t b count) o' → o ≡ o'
  same_resize b count o o' c s = one (change_rows (λ a. change_gives a t) l (resize_rows n t b count)) (resize_done n t b count) o o' c.sound s

  pub same_delete : (b : ℕ) (o o' : Change) → DeleteFirst n t l b o map firsts
      → First (change_rows (λ a. change_gives a t) l (delete_rows n t b)) (delete_done n t b) o' → o ≡ o'
  same_delete b o o' c s = one (change_rows (λ a. change_gives a t) l (delete_rows n t b)) (delete_done n t b) o o' c.sound s
