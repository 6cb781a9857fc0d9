-- `order::clear` meets its contract.
use mathlib.Core.Path.{◌≡◌}
use mathlib.Core.List.{◌++◌}
use lib.ListN.{drop, replicate}
use Rattle.order.proofs.clear.Given as goal

abbrev pub invariant-loop-place : goal.invariant-loop-place
invariant-loop-place l = l.place-items ≡ replicate l.place-index 0 ++ drop l.place-index l.initial.place-items
