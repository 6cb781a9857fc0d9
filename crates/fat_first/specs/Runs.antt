-- Runs of calls with both maps, whatever each answers: a step is what the call gives.
use Rattle.std.specs.Prelude.{List, ℕ}
use Rattle.fat_node.specs.Entry.{Bytes}
use Rattle.fat_promises.specs.Calls.{Create, Change}
use Rattle.fat_first.specs.Calls.{CreateFirst, ResizeFirst, DeleteFirst}

-- from the table t of n blocks with its maps to another table and maps
pub data FirstRun (n : ℕ) (t : Bytes) (map firsts : List ℕ) : Bytes → List ℕ → List ℕ → Type 0 where
  none : FirstRun n t map firsts t map firsts
  creates : {u : Bytes} {m f : List ℕ} → FirstRun n t map firsts u m f → (l count : ℕ) (o : Create) (m' f' : List ℕ) → CreateFirst n u l count o m' f'
      → FirstRun n t map firsts o.table m' f'
  resizes : {u : Bytes} {m f : List ℕ} → FirstRun n t map firsts u m f → (l b count : ℕ) (o : Change) (m' f' : List ℕ) → ResizeFirst n u l b count o m' f'
      → FirstRun n t map firsts o.table m' f'
  deletes : {u : Bytes} {m f : List ℕ} → FirstRun n t map firsts u m f → (l b : ℕ) (o : Change) (m' f' : List ℕ) → DeleteFirst n u l b o m' f'
      → FirstRun n t map firsts o.table m' f'
