-- What the functions inside say.
use Rattle.std.specs.Prelude.{◌≡◌, List, ℕ, replicate}
use Rattle.order.specs.First.{First}
use Rattle.salvage_tree.specs.Entries.{gone}
use Rattle.salvage_tree.specs.Calls.{Entered}
use Rattle.salvage_tree.specs.Inner.Says.{Marks, Sized}
use Rattle.salvage_way.specs.Calls.{way_rows, way_done}

-- the removed directories are marked, and nothing else
pub record Ready (t : List ℕ) (n : ℕ) (work : List ℕ) : Type 0 where
  pub sized : Sized 40 t n work
  pub marks : Marks work (gone 40 t)

-- what the call gives where the sizes fit, and the work list then
pub record WaySays (t : List ℕ) (x : ℕ) (list : List ℕ) (o : Entered) (k : ℕ) (work' : List ℕ) : Type 0 where
  pub given : First (way_rows t x list) (way_done t x list) o
  pub clear : work' ≡ replicate k 0
