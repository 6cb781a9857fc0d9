-- One answer for the exports of the calls with a map.
use mathlib.Core.Path.{◌≡◌, refl}
use mathlib.Core.List.{List}
use Prim.Native.Nat.{ℕ}
use Rattle.order.specs.First.{Row}
use Rattle.order.specs.Answer.{Answer}
use Rattle.fat_node.specs.Entry.{Bytes}
use Rattle.fat_node.specs.Sizes.{blocks}
use Rattle.fat_table.specs.Steps.{created, resized, deleted}
use Rattle.fat_promises.specs.Calls.{Create, create_gives, create_tests, create_done, Change, change_gives, resize_tests, resize_done, delete_tests, delete_done}
use Rattle.fat_map.specs.Promise.{Mapped, beside, mapped, BuildPromise}
use Rattle.fat_map.specs.Calls.{MapCreatePromise, MapResizePromise, MapDeletePromise}
use Rattle.fat_map.specs.Count.{count_gives, CountPromise}
use Rattle.fat_map.proofs.Unique.{one_map, one_build, one_count}
use Rattle.mukthiban.proofs.One.{OneExport, one_export, OneLocated, one_located_beside}

module _ (t : Bytes) (d l : ℕ) (work map : List ℕ) where
  pub export_map_build : OneLocated {X = List ℕ × List ℕ} (λ a x. beside (mapped a x.0) x.1) (BuildPromise t d l work map)
  export_map_build =
      one_located_beside (λ (a : Answer) (x : List ℕ). mapped a x) (λ g. g.given) (λ g. g.map) (BuildPromise t d l work map) (λ a x. refl) (λ a x. refl) (one_build t d l work map)

  pub export_map_create : (count : ℕ)
      → OneLocated {X = (ℕ × Bytes × List ℕ) × List ℕ} (λ a x. beside (mapped (create_gives a x.0.0 x.0.1) x.0.2) x.1) (MapCreatePromise t d l work map count)
  export_map_create count =
      one_located_beside
      (λ (a : Answer) (x : ℕ × Bytes × List ℕ). mapped (create_gives a x.0 x.1) x.2)
      (λ g. g.given.answer)
      (λ g. (g.given.first, g.given.table, g.map))
      (MapCreatePromise t d l work map count)
      (λ a x. refl)
      (λ a x. refl)
      (one_map (λ a. create_gives a 0 t) t d l work map (create_tests (blocks t) t count) (create_done (blocks t) t count) (created (blocks t) t count))

  pub export_map_resize : (b count : ℕ)
      → OneLocated {X = (Bytes × List ℕ) × List ℕ} (λ a x. beside (mapped (change_gives a x.0.0) x.0.1) x.1) (MapResizePromise t d l work map b count)
  export_map_resize b count =
      one_located_beside (λ (a : Answer) (x : Bytes × List ℕ). mapped (change_gives a x.0) x.1) (λ g. g.given.answer) (λ g. (g.given.table, g.map))
      (MapResizePromise t d l work map b count) (λ a x. refl) (λ a x. refl)
      (one_map (λ a. change_gives a t) t d l work map (resize_tests (blocks t) t b count) (resize_done (blocks t) t b count) (resized (blocks t) t b count))

  pub export_map_delete : (b : ℕ)
      → OneLocated {X = (Bytes × List ℕ) × List ℕ} (λ a x. beside (mapped (change_gives a x.0.0) x.0.1) x.1) (MapDeletePromise t d l work map b)
  export_map_delete b =
      one_located_beside (λ (a : Answer) (x : Bytes × List ℕ). mapped (change_gives a x.0) x.1) (λ g. g.given.answer) (λ g. (g.given.table, g.map))
      (MapDeletePromise t d l work map b) (λ a x. refl) (λ a x. refl)
      (one_map (λ a. change_gives a t) t d l work map (delete_tests (blocks t) t b) (delete_done (blocks t) t b) (deleted (blocks t) t b))

pub export_map_count : (map : List ℕ) (n a b : ℕ) → OneExport {X = ℕ} (λ x f. count_gives x f) (CountPromise map n a b)
export_map_count map n a b =
    one_export (λ (x : Answer) (f : ℕ). count_gives x f) (λ g. g.answer) (λ g. g.free) (CountPromise map n a b) (λ x f. refl) (λ x f. refl) (one_count map n a b)
