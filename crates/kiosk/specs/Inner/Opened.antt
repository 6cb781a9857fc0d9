-- The test once the gate is open.
use Rattle.std.specs.Prelude.{◌≡◌, List, ℕ}
use Rattle.fat_node.specs.Entry.{Bytes}
use Rattle.fat_node.specs.Sizes.{blocks}
use Rattle.audit.specs.Inner.Opened.{OpenVolume}
use Rattle.kiosk_inner.specs.Profile.{Broken}
use Rattle.kiosk_inner.specs.Inner.Judge.{Rooted}

-- what it asks for: sound tables, and a work list whose named places are 0
pub record OpenProfile (t : Bytes) (l : ℕ) (d f : Bytes) (work : List ℕ) : Type 0 where
  pub volume : OpenVolume t l d f work
  pub dirs : Rooted d

-- what it says: the first rule that is broken, and the work list is as it was
pub record OpenSays (t : Bytes) (l : ℕ) (d f : Bytes) (work work' : List ℕ) (rule : ℕ) : Type 0 where
  pub says : Broken (blocks t) t l d f rule
  pub same : work' ≡ work
