-- The block lengths of a history.
use Rattle.std.specs.Prelude.{ℕ}
use Rattle.fat_node.specs.Entry.{Bytes}
use Rattle.fat_test.specs.Gate.{InUse}
use Rattle.fat_history.specs.History.{History, formats, creates, resizes, deletes}

-- every call of a history is made with a block length in use; format takes none
abbrev pub AllInUse : {k : ℕ} {t : Bytes} → History k t → Type 0
AllInUse (formats t t' r g p e) = Unit {0}
AllInUse (creates k t h d l work count o p e) = InUse l × AllInUse h
AllInUse (resizes k t h d l work b count o p e) = InUse l × AllInUse h
AllInUse (deletes k t h d l work b o p e) = InUse l × AllInUse h
