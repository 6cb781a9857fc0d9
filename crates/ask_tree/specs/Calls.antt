-- Which call a number asks.
use Rattle.std.specs.Prelude.{List, [], ◌∷◌}
use Rattle.ask_tree.specs.declared.Call.{Call}
use Rattle.ask_tree.specs.declared.Call.TheVariants as call
use Rattle.ask_tree.specs.declared.Look.TheVariants as look
use Rattle.ask_tree.specs.declared.Change.TheVariants as change

-- the calls, in the order of their numbers
abbrev pub calls : List Call
calls =
    call.Format ∷ call.Look look.Test ∷ call.Look look.Lookup ∷ call.Change change.Make ∷ call.Change change.Rename ∷ call.Change change.Delete ∷ call.Look look.List
    ∷ call.Look look.Stat ∷ call.Look look.Name ∷ call.Look look.NameAnswer ∷ call.Look look.Carried ∷ call.Change change.SetCarried ∷ call.Change change.Open
    ∷ call.Change change.Close ∷ call.Look look.Aged ∷ []
