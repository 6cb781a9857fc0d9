-- The rows of the listings and of stat, by the places of their code.
use mathlib.Core.Path.{◌≡◌, sym, ap, ◌∙◌, subst}
use mathlib.Core.Bool.{Bool, true}
use mathlib.Core.List.{List, ◌++◌}
use mathlib.Core.Logic.{inr}
use Prim.Native.Nat.{ℕ, ◌+◌, ◌-◌, ◌*◌, ◌≤◌, ◌<◌}
use native.Mathlib.Omega.{arith}
use lib.ListN.{length, drop}
use Rattle.order.specs.First.{First}
use Rattle.order.specs.Answer.{Done}
use Rattle.words.specs.Word.{word}
use Rattle.tree_table.specs.Field.{field}
use Rattle.tree_table.specs.View.{children_of, removed_of, LiveIn}
use Rattle.tree_table.specs.Steps.{free_of}
use Rattle.tree_table.specs.Chain.{list_at, Ends}
use Rattle.order.specs.Tells.{Tells}
use Rattle.tree_sound.specs.Tables.{Tables, dirs, files}
use Rattle.tree_promises.specs.Inner.Ready.{Ready, LiveAt, Single, alone}
use Rattle.tree_promises.specs.Calls.{Listing, list_gives, short_rows, listed_done, ListDirs, ListFiles}
use Rattle.tree_look.proofs.Lists.{inside, all_fit, removed_ends, removed_list, child_ends, child_list, dir_single, file_single}
use Rattle.tree_look.proofs.Lives.{count_word}

pub short_done : (xs list l : List ℕ) (n : ℕ) → n ≡ length xs → n ≤ length list → l ≡ xs ++ drop (length xs) list
    → First (short_rows xs list) (listed_done xs list) (list_gives Done n l)
short_done xs list l n e h q = inr (λ k. omega arith, (ap (λ z. list_gives Done z l) e ∙ ap (list_gives Done (length xs)) q))

-- the listing of a live directory's children
module _ (s : Tables) (R : Ready s) (x i : ℕ) {r : Bool} (T : Tells (LiveAt 40 s.dir_table x) r) (yes : r ≡ true) (e : i ≡ x) where
  live_x : LiveIn (dirs s) x
  live_x = T.yes yes

  -- its entry lies in the table
  pub dir_fits : i * 40 + 40 ≤ length s.dir_table
  dir_fits =
      inside s.dir_table 40 i (field 40 s.dir_table 0 1) (let l : x < field 40 s.dir_table 0 1 = live_x.1 in omega arith)
      (all_fit s.dir_hash s.dir_table 40 (dir_single s R))

  sub_dir : word s.dir_table (i * 40 + 24) ≡ (dirs s).head x
  unfolding field
  sub_dir = ap (λ z. word s.dir_table (z * 40 + 24)) e

  sub_file : word s.dir_table (i * 40 + 28) ≡ (files s).head x
  unfolding field
  sub_file = ap (λ z. word s.dir_table (z * 40 + 28)) e

  module _ (first : ℕ) where
    pub dirs_end : first ≡ word s.dir_table (i * 40 + 24) → Ends s.dir_table 40 20 first
    dirs_end f =
        subst (λ z. Ends s.dir_table 40 20 z) (sym (f ∙ sub_dir))
        (child_ends s.dir_hash s.dir_table 40 (dir_single s R) ((dirs s).head x) _ (R.sound.dirs.below.lists x live_x))

    pub files_end : first ≡ word s.dir_table (i * 40 + 28) → Ends s.file_table 48 20 first
    files_end f =
        subst (λ z. Ends s.file_table 48 20 z) (sym (f ∙ sub_file))
        (child_ends s.file_hash s.file_table 48 (file_single s R) ((files s).head x) _ (R.sound.files.lists x live_x))

    dir_children : first ≡ word s.dir_table (i * 40 + 24) → list_at s.dir_table 40 20 first ≡ children_of (dirs s) x
    dir_children f =
        ap (list_at s.dir_table 40 20) (f ∙ sub_dir)
        ∙ child_list s.dir_hash s.dir_table 40 (dir_single s R) ((dirs s).head x) _ (R.sound.dirs.below.lists x live_x)

    file_children : first ≡ word s.dir_table (i * 40 + 28) → list_at s.file_table 48 20 first ≡ children_of (files s) x
    file_children f =
        ap (list_at s.file_table 48 20) (f ∙ sub_file)
        ∙ child_list s.file_hash s.file_table 48 (file_single s R) ((files s).head x) _ (R.sound.files.lists x live_x)

    pub dirs_listed : first ≡ word s.dir_table (i * 40 + 24) → (list : List ℕ) (o : Listing)
        → First (short_rows (list_at s.dir_table 40 20 first) list) (listed_done (list_at s.dir_table 40 20 first) list) o → ListDirs s x list o
    dirs_listed f list o p = inr (λ n. n live_x, subst (λ xs. First (short_rows xs list) (listed_done xs list) o) (dir_children f) p)

    pub files_listed : first ≡ word s.dir_table (i * 40 + 28) → (list : List ℕ) (o : Listing)
        → First (short_rows (list_at s.file_table 48 20 first) list) (listed_done (list_at s.file_table 48 20 first) list) o → ListFiles s x list o
    files_listed f list o p = inr (λ n. n live_x, subst (λ xs. First (short_rows xs list) (listed_done xs list) o) (file_children f) p)

-- the free entries of a table
module _ {h t : List ℕ} {w : ℕ} (S : Single h t w) where
  max_word : word t 4 ≡ field w t 0 2
  unfolding field
  max_word = ap (word t) (omega arith)

  removed_word : word t (w - 4) ≡ field w t 0 0
  unfolding field
  removed_word = ap (word t) (omega arith)

  pub removed_there : (first : ℕ) → first ≡ word t (w - 4) → Ends t w (w - 4) first
  removed_there first e = subst (λ z. Ends t w (w - 4) z) (sym (e ∙ removed_word)) (removed_ends h t w S)

  -- count is at most maximum, as the words that the code reads
  pub count_within : (c m : ℕ) → c ≡ word t 0 → m ≡ word t 4 → c ≤ m
  count_within c m e f = omega (arith, S.table.count_max, count_word w t, max_word)

  pub free_is : (c m k first : ℕ) → c ≡ word t 0 → m ≡ word t 4 → first ≡ word t (w - 4) → k ≡ length (list_at t w (w - 4) first) → m - c + k ≡ free_of (alone w t)
  free_is c m k first ec em ef ek =
      let l : list_at t w (w - 4) first ≡ removed_of (alone w t) = ap (list_at t w (w - 4)) (ef ∙ removed_word) ∙ removed_list h t w S in
      omega (arith, count_word w t, max_word, ap length l)

-- a table's entries in all
pub total_is : {h t : List ℕ} {w : ℕ} → Single h t w → (m : ℕ) → m ≡ word t 4 → (1 ≤ m) × (m - 1 ≡ field w t 0 2 - 1)
total_is {h} {t} {w} S m e = (omega (arith, S.table.count_one, S.table.count_max, max_word S), omega (arith, max_word S))
