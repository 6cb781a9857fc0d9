-- The promises of create, resize and delete with a map: those without, and the map.
use Rattle.std.specs.Prelude.{List, ℕ}
use Rattle.fat_node.specs.Entry.{Bytes}
use Rattle.fat_node.specs.Sizes.{blocks}
use Rattle.fat_table.specs.Steps.{created, resized, deleted}
use Rattle.fat_promises.specs.Calls.{Create, create_gives, create_tests, create_done, Change, change_gives, resize_tests, resize_done, delete_tests, delete_done}
use Rattle.fat_map.specs.Promise.{Beside, Mapped, MapPromise}

-- create of so many blocks
abbrev pub MapCreatePromise : (t : Bytes) (d l : ℕ) (work map : List ℕ) (count : ℕ) → Beside (Mapped Create) → Type 0
MapCreatePromise t d l work map count =
    MapPromise (λ a. create_gives a 0 t) t d l work map (create_tests (blocks t) t count) (create_done (blocks t) t count) (created (blocks t) t count)

-- resize of the file at block b to so many blocks
abbrev pub MapResizePromise : (t : Bytes) (d l : ℕ) (work map : List ℕ) (b count : ℕ) → Beside (Mapped Change) → Type 0
MapResizePromise t d l work map b count =
    MapPromise (λ a. change_gives a t) t d l work map (resize_tests (blocks t) t b count) (resize_done (blocks t) t b count) (resized (blocks t) t b count)

-- delete of the file at block b
abbrev pub MapDeletePromise : (t : Bytes) (d l : ℕ) (work map : List ℕ) (b : ℕ) → Beside (Mapped Change) → Type 0
MapDeletePromise t d l work map b =
    MapPromise (λ a. change_gives a t) t d l work map (delete_tests (blocks t) t b) (delete_done (blocks t) t b) (deleted (blocks t) t b)
