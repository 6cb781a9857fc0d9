-- Which call a number asks.
use Rattle.std.specs.Prelude.{List, [], ◌∷◌}
use Rattle.ask_blocks.specs.declared.Call.{Call}
use Rattle.ask_blocks.specs.declared.Call.TheVariants.{Format, Test, OpenList, Create, Resize, Delete, Read, Write, ReadBlocks, WriteBlocks, Merge, PlanCheck, PlanApply, PlanFind, MapBuild, MapCreate, MapResize, MapDelete, MapCount, KioskCreate}

-- the calls, in the order of their numbers
abbrev pub calls : List Call
calls =
    Format ∷ Test ∷ OpenList ∷ Create ∷ Resize ∷ Delete ∷ Read ∷ Write ∷ ReadBlocks ∷ WriteBlocks ∷ Merge ∷ PlanCheck ∷ PlanApply ∷ PlanFind ∷ MapBuild ∷ MapCreate
    ∷ MapResize ∷ MapDelete ∷ MapCount ∷ KioskCreate ∷ []
