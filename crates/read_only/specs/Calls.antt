-- Calls on a volume with one block length, whatever each is given and answers.
use Rattle.std.specs.Prelude.{List, ℕ, length}
use Rattle.order.specs.Beside.{Beside}
use Rattle.fat_node.specs.Entry.{Bytes}
use Rattle.fat_promises.specs.Calls.{Create, CreatePromise, Change, ResizePromise, DeletePromise, Carry, WritePromise}
use Rattle.fat_listed.specs.Listed.{WriteBlocksPromise}
use Rattle.fat_merge.specs.Promise.{MergePromise}
use Rattle.fat_apply.specs.Apply.{Apply, ApplyPromise}
use Rattle.kiosk_create.specs.Create.{KioskPromise}
use Rattle.fat_map.specs.Promise.{Mapped}
use Rattle.fat_map.specs.Calls.{MapCreatePromise, MapResizePromise, MapDeletePromise}

-- calls with blocks of l bytes, from the table t and the data d on, that end in t' and d': every call of the interface that takes a block length and is lent
-- the table or the data to change them. A step is the call's own promise. The other calls with a block length (open list, read, read_blocks, audit, the
-- plan's check and find, build, the kiosk's test) are lent both unchangeable; format takes no block length.
pub data Calls (l : ℕ) (t d : Bytes) : Bytes → Bytes → Type 0 where
  none : Calls l t d t d
  creates : (t₁ d₁ : Bytes) → Calls l t d t₁ d₁ → (work : List ℕ) (count : ℕ) (o : Beside Create) → CreatePromise t₁ (length d₁) l work count o
      → Calls l t d o.given.table d₁
  resizes : (t₁ d₁ : Bytes) → Calls l t d t₁ d₁ → (work : List ℕ) (b count : ℕ) (o : Beside Change) → ResizePromise t₁ (length d₁) l work b count o
      → Calls l t d o.given.table d₁
  deletes : (t₁ d₁ : Bytes) → Calls l t d t₁ d₁ → (work : List ℕ) (b : ℕ) (o : Beside Change) → DeletePromise t₁ (length d₁) l work b o
      → Calls l t d o.given.table d₁
  writes : (t₁ d₁ : Bytes) → Calls l t d t₁ d₁ → (work : List ℕ) (b pos : ℕ) (buf : Bytes) (o : Beside Carry) → WritePromise t₁ d₁ l work b pos buf o
      → Calls l t d t₁ o.given.bytes
  writes_listed : (t₁ d₁ : Bytes) → Calls l t d t₁ d₁ → (list : List ℕ) (pos : ℕ) (buf : Bytes) (o : Carry) → WriteBlocksPromise d₁ l list pos buf o
      → Calls l t d t₁ o.bytes
  merges : (t₁ d₁ : Bytes) → Calls l t d t₁ d₁ → (work : List ℕ) (o : Beside Change) → MergePromise t₁ l work o → Calls l t d o.given.table d₁
  applies : (t₁ d₁ : Bytes) → Calls l t d t₁ d₁ → (work : List ℕ) (b : ℕ) (plan : List ℕ) (o : Beside Apply) → ApplyPromise t₁ d₁ l work b plan o
      → Calls l t d o.given.table o.given.bytes
  kiosk_creates : (t₁ d₁ : Bytes) → Calls l t d t₁ d₁ → (work : List ℕ) (count : ℕ) (o : Beside Create) → KioskPromise t₁ (length d₁) l work count o
      → Calls l t d o.given.table d₁
  map_creates : (t₁ d₁ : Bytes) → Calls l t d t₁ d₁ → (work map : List ℕ) (count : ℕ) (o : Beside (Mapped Create)) → MapCreatePromise t₁ (length d₁) l work map count o
      → Calls l t d o.given.given.table d₁
  map_resizes : (t₁ d₁ : Bytes) → Calls l t d t₁ d₁ → (work map : List ℕ) (b count : ℕ) (o : Beside (Mapped Change)) → MapResizePromise t₁ (length d₁) l work map b count o
      → Calls l t d o.given.given.table d₁
  map_deletes : (t₁ d₁ : Bytes) → Calls l t d t₁ d₁ → (work map : List ℕ) (b : ℕ) (o : Beside (Mapped Change)) → MapDeletePromise t₁ (length d₁) l work map b o
      → Calls l t d o.given.given.table d₁
