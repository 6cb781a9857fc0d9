-- What a call leaves of the table.
use Rattle.std.specs.Prelude.{◌≡◌, length}
use Rattle.order.specs.Answer.{Answer}
use Rattle.order.specs.Answer.{Done}
use Rattle.fat_node.specs.Entry.{Bytes}
use Rattle.fat_node.specs.Sizes.{blocks}
use Rattle.fat_table.specs.Sound.{Sound}

-- the table t' after a call with this answer: sound and as long as it was where the answer is Done, else the table t as it was
abbrev pub KeptBy : (t : Bytes) (answer : Answer) (t' : Bytes) → Type 0
KeptBy t answer t' = (answer ≡ Done → Sound t' (blocks t') × (length t' ≡ length t)) × ((answer ≡ Done → ⊥) → t' ≡ t)
