-- Where only hash tables, collision fields of live entries and lists of children are damaged, every live file is lifted with its path and its record, and nothing else.
use mathlib.Core.Path.{◌≡◌, refl, sym, ap, subst, subst⁻¹, ◌∙◌}
use mathlib.Core.List.{List, [], ◌∷◌}
use mathlib.Core.Bool.{cond}
use mathlib.Core.Logic.{inl, inr, ◌↔◌}
use Prim.Native.Nat.{ℕ, ◌<◌}
use native.Mathlib.Omega.{arith}
use lib.Dec.{eqb}
use Rattle.links.specs.Links.{◌∈◌, Links}
use Rattle.tree_table.specs.View.{View, LiveIn, parent}
use Rattle.tree_sound.specs.Sound.{up}
use Rattle.tree_sound.specs.Tables.{Tables, dirs, files, SoundIn}
use Rattle.tree_sound.proofs.Bounds.{above_uncut}
use Rattle.tree_promises.specs.Has.{above}
use Rattle.salvage_tree.specs.Entries.{entries}
use Rattle.salvage_tree.proofs.Theorems.{SameList, listed_live, live_listed, once}
use Rattle.salvage_way.specs.Way.{way}
use Rattle.salvage_way.proofs.Theorems.{SameParents, live_above, way_exact}
use Rattle.salvage_paths.specs.Paths.{name, down, path_of, path_in, record_in, Spared, Damaged, Lifted}

-- the names along a way are the same where the keys of its directories are
down_same : (k k' : ℕ → List ℕ) (xs : List ℕ) (below : List (List ℕ)) → ((x : ℕ) → x ∈ xs → k x ≡ k' x) → down k xs below ≡ down k' xs below
down_same k k' [] below h = refl
down_same k k' (x ∷ xs) below h =
    ap (λ (l : List (List ℕ)). cond (eqb x 1) below l)
    (ap (λ (n : List ℕ). down k xs (name n ∷ below)) (h x (inl refl)) ∙ down_same k k' xs (name (k' x) ∷ below) (λ z i. h z (inr i)))

module _ (s t : Tables) (S : SoundIn s) (d : Damaged s t) where
  dir_list : SameList 40 t.dir_table t.dir_table (dirs s)
  dir_list = record {
    room = refl;
    count = d.dir_entries.count;
    first = d.dir_entries.first;
    removed = d.dir_entries.removed;
    fits = sym d.dir_entries.room;
  }

  file_list : SameList 48 t.file_table t.file_table (files s)
  file_list = record {
    room = refl;
    count = d.file_entries.count;
    first = d.file_entries.first;
    removed = d.file_entries.removed;
    fits = sym d.file_entries.room;
  }

  parents : SameParents t.dir_table (dirs s)
  parents = record { named = λ y l n. ap parent (d.dir_entries.keys y l) }

  dir_listed : (y : ℕ) → y ∈ entries 40 t.dir_table ↔ LiveIn (dirs s) y
  dir_listed y = (
    listed_live 40 t.dir_table t.dir_table (dirs s) S.dirs.below.table dir_list y,
    live_listed 40 t.dir_table t.dir_table (dirs s) S.dirs.below.table dir_list y,
  )

  file_listed : (y : ℕ) → y ∈ entries 48 t.file_table ↔ LiveIn (files s) y
  file_listed y = (
    listed_live 48 t.file_table t.file_table (files s) S.files.table file_list y,
    live_listed 48 t.file_table t.file_table (files s) S.files.table file_list y,
  )

  -- a live file's directory
  home : (y : ℕ) → LiveIn (files s) y → LiveIn (dirs s) (up (files s) y)
  home y l = S.files.parents y l (λ e. omega (arith, l.0, e))

  -- the way up from there
  same_way : (y : ℕ) → LiveIn (files s) y → way t.dir_table (up (files t) y) ≡ above (dirs s) (up (files s) y)
  same_way y l =
      ap (λ (k : List ℕ). way t.dir_table (parent k)) (d.file_entries.keys y l)
      ∙ way_exact t.dir_table t.dir_table (dirs s) S.dirs dir_list parents (up (files s) y) (home y l) (above (dirs s) (up (files s) y))
      (above_uncut (dirs s) S.dirs (up (files s) y) (home y l)).0

  same_path : (y : ℕ) → LiveIn (files s) y → path_in t y ≡ path_of s y
  same_path y l =
      ap (λ (xs : List ℕ). down (dirs t).key xs (name ((files t).key y) ∷ [])) (same_way y l)
      ∙ ap (λ (k : List ℕ). down (dirs t).key (above (dirs s) (up (files s) y)) (name k ∷ [])) (d.file_entries.keys y l)
      ∙ down_same (dirs t).key (dirs s).key (above (dirs s) (up (files s) y)) (name ((files s).key y) ∷ [])
      (λ x h. d.dir_entries.keys x
      (live_above t.dir_table t.dir_table (dirs s) S.dirs dir_list parents (up (files s) y) (above (dirs s) (up (files s) y)) (home y l)
      (above_uncut (dirs s) S.dirs (up (files s) y) (home y l)).0 x h))

  -- every live file of s is lifted from t, with its path and its record, and nothing else
  pub lifted : Lifted s t
  lifted = record {
    dirs_listed = dir_listed;
    dirs_once = once 40 t.dir_table;
    files_listed = file_listed;
    files_once = once 48 t.file_table;
    paths = λ y h. same_path y ((file_listed y).0 h);
    rooted = λ y h.
        let l : LiveIn (files s) y = (file_listed y).0 h in
        subst⁻¹ (λ (xs : List ℕ). 1 ∈ xs) (same_way y l) (above_uncut (dirs s) S.dirs (up (files s) y) (home y l)).1;
    records = λ y h. d.records y ((file_listed y).0 h);
  }
