-- Calls on a table and its data that do not name one file.
use Rattle.std.specs.Prelude.{List, ◌≢◌, ℕ, length}
use Rattle.fat_node.specs.Entry.{Bytes}
use Rattle.fat_promises.specs.Promise.{Beside}
use Rattle.fat_promises.specs.Calls.{Create, CreatePromise, Change, ResizePromise, DeletePromise, Carry, WritePromise}

-- calls from the table t and the data d on, with blocks of l bytes, that end in t' and d': whatever each answers, and none is given the block b. The other
-- calls (test, open list, read) are lent table and data unchangeable.
pub data Away (l b : ℕ) (t d : Bytes) : Bytes → Bytes → Type 0 where
  none : Away l b t d t d
  creates : (t₁ d₁ : Bytes) → Away l b t d t₁ d₁ → (work : List ℕ) (count : ℕ) (o : Beside Create) → CreatePromise t₁ (length d₁) l work count o
      → Away l b t d o.given.table d₁
  resizes : (t₁ d₁ : Bytes) → Away l b t d t₁ d₁ → (work : List ℕ) (c count : ℕ) (o : Beside Change) → c ≢ b
      → ResizePromise t₁ (length d₁) l work c count o
      → Away l b t d o.given.table d₁
  deletes : (t₁ d₁ : Bytes) → Away l b t d t₁ d₁ → (work : List ℕ) (c : ℕ) (o : Beside Change) → c ≢ b → DeletePromise t₁ (length d₁) l work c o
      → Away l b t d o.given.table d₁
  writes : (t₁ d₁ : Bytes) → Away l b t d t₁ d₁ → (work : List ℕ) (c pos : ℕ) (buf : Bytes) (o : Beside Carry) → c ≢ b → WritePromise t₁ d₁ l work c pos buf o
      → Away l b t d t₁ o.given.bytes
