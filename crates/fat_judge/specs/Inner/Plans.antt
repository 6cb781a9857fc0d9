-- What the judges say: a refusal is what the call's tests give; else no test applies, and these are the places where the step writes.
use Rattle.std.specs.Prelude.{◌≡◌, ◌++◌, Result, Ok, Err, ℕ, ◌-◌, ◌*◌, ◌<◌}
use Rattle.order.specs.declared.Refusal.{Refusal}
use Rattle.order.specs.Given.{Given}
use Rattle.order.specs.Answer.{Answer}
use Rattle.fat_node.specs.Entry.{Bytes}
use Rattle.fat_table.specs.Chain.{total, free_at, file_at}
use Rattle.fat_table.specs.Steps.{created_at}
use Rattle.fat_promises.specs.Calls.{create_tests, MayCreate, resize_tests, MayResize, delete_tests, MayDelete, list_tests, MayList, carry_tests, MayCarry}
use Rattle.fat_walk.specs.Inner.Chains.{Inside, LastAt}
use Rattle.fat_judge.specs.Inner.Stretches.{CursorAt}
use Rattle.fat_judge.specs.declared.Cut.{Cut}
use Rattle.fat_judge.specs.declared.ResizePlan.{ResizePlan}
use Rattle.fat_judge.specs.declared.ResizePlan.TheVariants.{Same, Shrink, Grow}
use Rattle.fat_judge.specs.declared.Cursor.{Cursor}

-- after m blocks of the node at block x the free chain has some count of blocks
pub record TakeAt (n : ℕ) (t : Bytes) (x m : ℕ) : Type 0 where
  pub count : ℕ
  pub cut : Inside (free_at n t) count x m

-- a create of c blocks may be done: its first block, and the cut of the free chain after m blocks of the node at block x
pub record CreateAt (n : ℕ) (t : Bytes) (c first x m : ℕ) : Type 0 where
  pub may : MayCreate n t c
  pub at : first ≡ created_at t
  pub cut : Inside (free_at n t) c x m

-- what the judge of a create of c blocks tells
abbrev pub CreatePlanned : (n : ℕ) (t : Bytes) (c : ℕ) → Result Cut Refusal → Type 0
CreatePlanned n t c (Err why) = Given (create_tests n t c) (Err why)
CreatePlanned n t c (Ok cut) = CreateAt n t c cut.first cut.node cut.part

-- a resize of the file at block b to c blocks may be done, and c is its count
pub record SameAt (n : ℕ) (t : Bytes) (b c : ℕ) : Type 0 where
  pub may : MayResize n t b c
  pub same : c ≡ total (file_at n t b)

-- it ends after the node at block last, and is to end after m blocks of its node at block x
pub record ShrinkAt (n : ℕ) (t : Bytes) (b c last x m : ℕ) : Type 0 where
  pub may : MayResize n t b c
  pub end : LastAt (file_at n t b) last
  pub cut : Inside (file_at n t b) c x m

-- it ends after the node at block last, and is to end after m blocks of the free node at block x
pub record GrowAt (n : ℕ) (t : Bytes) (b c last x m : ℕ) : Type 0 where
  pub may : MayResize n t b c
  pub end : LastAt (file_at n t b) last
  pub more : total (file_at n t b) < c
  pub cut : Inside (free_at n t) (c - total (file_at n t b)) x m

-- what the judge of a resize of the file at block b to c blocks tells
abbrev pub ResizePlanned : (n : ℕ) (t : Bytes) (b c : ℕ) → Result ResizePlan Refusal → Type 0
ResizePlanned n t b c (Err why) = Given (resize_tests n t b c) (Err why)
ResizePlanned n t b c (Ok Same) = SameAt n t b c
ResizePlanned n t b c (Ok (Shrink last x m)) = ShrinkAt n t b c last x m
ResizePlanned n t b c (Ok (Grow last x m)) = GrowAt n t b c last x m

-- either way: joined with the free chain and cut after c blocks, the cut is after m blocks of the node at block x
pub record RecutAt (n : ℕ) (t : Bytes) (b c last x m : ℕ) : Type 0 where
  pub may : MayResize n t b c
  pub end : LastAt (file_at n t b) last
  pub cut : Inside (file_at n t b ++ free_at n t) c x m

-- it is so of some file and count
pub record Recut (n : ℕ) (t : Bytes) (last x m : ℕ) : Type 0 where
  pub file : ℕ
  pub count : ℕ
  pub at : RecutAt n t file count last x m

-- a delete of the file at block b may be done, and its last node is at block last
pub record DeleteAt (n : ℕ) (t : Bytes) (b last : ℕ) : Type 0 where
  pub may : MayDelete n t b
  pub end : LastAt (file_at n t b) last

-- what the judge of a delete of the file at block b tells
abbrev pub DeletePlanned : (n : ℕ) (t : Bytes) (b : ℕ) → Result ℕ Refusal → Type 0
DeletePlanned n t b (Err why) = Given (delete_tests n t b) (Err why)
DeletePlanned n t b (Ok last) = DeleteAt n t b last

-- what the judge of an open list of the file at block b into room places tells
abbrev pub ListPlanned : (n : ℕ) (t : Bytes) (b room : ℕ) → Answer → Type 0
ListPlanned n t b room (Err why) = Given (list_tests n t b room) (Err why)
ListPlanned n t b room (Ok done) = MayList n t b room

-- a read or write of many bytes from byte pos on may be done, and the first of them is byte f of the node that index i names
pub record CarryAt (n : ℕ) (t : Bytes) (l b pos many i f : ℕ) : Type 0 where
  pub may : MayCarry n t l b pos many
  pub at : pos < total (file_at n t b) * l → CursorAt (file_at n t b) l pos i f

-- what the judge of a read or write of many bytes from byte pos on tells, with blocks of l bytes
abbrev pub CarryPlanned : (n : ℕ) (t : Bytes) (l b pos many : ℕ) → Result Cursor Refusal → Type 0
CarryPlanned n t l b pos many (Err why) = Given (carry_tests n t l b pos many) (Err why)
CarryPlanned n t l b pos many (Ok at) = CarryAt n t l b pos many at.index at.from
