use mathlib.Core.Path.{◌≡◌}
use Rattle.std.proofs.lemmas.List.Edits.{sets}
use Rattle.fat_promises.specs.Blocks.{blocks_from}
use Rattle.fat_list.proofs.number_run.Given as goal

abbrev pub invariant-loop-k : goal.invariant-loop-k
invariant-loop-k l = l.list ≡ sets l.initial.list l.at (blocks_from l.k l.b)
