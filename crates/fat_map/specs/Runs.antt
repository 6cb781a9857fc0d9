-- Runs of calls with a map, whatever each answers: a step is the call's own promise.
use Rattle.std.specs.Prelude.{List, ℕ}
use Rattle.fat_node.specs.Entry.{Bytes}
use Rattle.fat_promises.specs.Calls.{Create, Change}
use Rattle.fat_map.specs.Promise.{Beside, Mapped}
use Rattle.fat_map.specs.Calls.{MapCreatePromise, MapResizePromise, MapDeletePromise}

-- from the table t with its map to another table and map
pub data MapRun (t : Bytes) (map : List ℕ) : Bytes → List ℕ → Type 0 where
  none : MapRun t map t map
  creates : (u : Bytes) (m : List ℕ) → MapRun t map u m → (d l : ℕ) (work : List ℕ) (count : ℕ) (o : Beside (Mapped Create)) → MapCreatePromise u d l work m count o
      → MapRun t map o.given.given.table o.given.map
  resizes : (u : Bytes) (m : List ℕ) → MapRun t map u m → (d l : ℕ) (work : List ℕ) (b count : ℕ) (o : Beside (Mapped Change)) → MapResizePromise u d l work m b count o
      → MapRun t map o.given.given.table o.given.map
  deletes : (u : Bytes) (m : List ℕ) → MapRun t map u m → (d l : ℕ) (work : List ℕ) (b : ℕ) (o : Beside (Mapped Change)) → MapDeletePromise u d l work m b o
      → MapRun t map o.given.given.table o.given.map
