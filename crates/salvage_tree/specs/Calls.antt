-- What the call that lists the entries of one table of any bytes promises. w is the width of an entry, 40 for directories and 48 for files.
use Rattle.std.specs.Prelude.{List, [], ◌∷◌, ◌++◌, ℕ, ◌/◌, ◌<◌, length, drop}
use Rattle.order.specs.First.{Row, row}
use Rattle.order.specs.Gate.{cleared, gate}
use Rattle.order.specs.Giving.{giving}
use Rattle.order.specs.Beside.{Beside, beside, Promised}
use Rattle.order.specs.Answer.{Answer}
use Rattle.order.specs.Answer.{Done, ListTooShort}
use Rattle.tree_sound.specs.Sizes.{Beyond}
use Rattle.salvage_tree.specs.Entries.{entries}

-- the answer, the number of entries, the lent list afterwards
pub record Entered : Type 0 where
  pub answer : Answer
  pub count : ℕ
  pub list : List ℕ

-- the same, by its parts
abbrev pub entered_gives : (answer : Answer) (count : ℕ) (list : List ℕ) → Entered
entered_gives answer count list = record { answer = answer; count = count; list = list }

-- its refusal: the list can't hold the entries; no count, and the list as it was
abbrev pub entered_rows : (w : ℕ) (t list : List ℕ) → List (Row Entered)
entered_rows w t list = giving (λ a. entered_gives a 0 list) (row (length list < length (entries w t)) ListTooShort ∷ [])

-- Done: the inodes of the live entries; later places stay. Key and record of inode x stand in the table from byte x times w on
abbrev pub entered_done : (w : ℕ) (t list : List ℕ) → Entered
entered_done w t list = entered_gives Done (length (entries w t)) (entries w t ++ drop (length (entries w t)) list)

-- the rows of sizes and work list: a table shorter than one entry, a room that is not from 1 to 65,536, fewer places than the room
abbrev pub entered_gate : {A : Type 0} (refuse : Answer → List ℕ → A) (w : ℕ) (t work : List ℕ) → List (Row A)
entered_gate refuse w t work = gate refuse (length t < w) (Beyond (length t / w)) (length work < length t / w) [] (length t / w) work

-- the promise of the call
abbrev pub EnteredPromise : (w : ℕ) (t work list : List ℕ) → Beside Entered → Type 0
EnteredPromise w t work list =
    Promised (entered_gate (λ a v. beside (entered_gives a 0 list) v) w t work) (cleared (length t / w) work) (entered_rows w t list) (entered_done w t list)
