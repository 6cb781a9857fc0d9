-- Calls on a table and its data that do not name one file, with formats among them.
use Rattle.std.specs.Prelude.{◌≡◌, ℕ, ◌+◌, ◌≤◌}
use Rattle.order.specs.Answer.{Done}
use Rattle.fat_node.specs.Entry.{Bytes}
use Rattle.fat_node.specs.Sizes.{blocks}
use Rattle.fat_node.specs.Format.{FormatPromise}
use Rattle.order.specs.Answer.{Answer}
use Rattle.fat_table.specs.Sound.{File}
use Rattle.fat_table.specs.Chain.{file_at}
use Rattle.fat_promises.specs.Blocks.{blocks_of, bytes_at}
use Rattle.fat_promises.specs.Calls.{size_of}
use Rattle.fat_history.specs.Away.{Away}

-- calls as in Away, and formats anywhere among them, whatever each answers
pub data Calls (l b : ℕ) (t d : Bytes) : Bytes → Bytes → Type 0 where
  away : (t' d' : Bytes) → Away l b t d t' d' → Calls l b t d t' d'
  formats : (t₁ d₁ t₂ t' d' : Bytes) (r : Answer) → Calls l b t d t₁ d₁ → FormatPromise t₁ r t₂ → Away l b t₂ d₁ t' d' → Calls l b t d t' d'

-- the file at block b of t and d is in t' and d' a file with the same chain, and every stretch of it holds the same bytes
pub record Stays (l b : ℕ) (t d t' d' : Bytes) : Type 0 where
  pub file : File t' (blocks t) b
  pub chain : file_at (blocks t) t' b ≡ file_at (blocks t) t b
  pub bytes : (many pos : ℕ) → pos + many ≤ size_of (blocks t) t l b
      → bytes_at many d' l (blocks_of (file_at (blocks t) t' b)) pos ≡ bytes_at many d l (blocks_of (file_at (blocks t) t b)) pos

-- the first format that is answered Done: before it the file at block b stays, and the table that it leaves has no file
pub record Ended (l b : ℕ) (t d : Bytes) : Type 0 where
  pub table : Bytes
  pub bytes : Bytes
  pub before : Away l b t d table bytes
  pub stays : Stays l b t d table bytes
  pub formatted : Bytes
  pub answer : Answer
  pub format : FormatPromise table answer formatted
  pub done : answer ≡ Done
  pub empty : (c : ℕ) → File formatted (blocks formatted) c → ⊥
