use mathlib.Core.Path.{sym}
use native.Mathlib.Omega.{arith}
use Rattle.tree_packed.proofs.Laws.{found, not_found}
use Rattle.tree_packed.proofs.record_of.Goals as goal
use Rattle.tree_packed.proofs.record_of.Goals.{else-j-k-via-then-j-k+else-list-j, else-j-k-via-else-j-k}

pub returns-then-list-j : goal.returns-then-list-j
returns-then-list-j c = sym (found c.requires c.place_of-j.ensures c.if-j-k.true c.if-list-j.true)

pub returns-else-j-k : goal.returns-else-j-k
returns-else-j-k c =
    sym (not_found c.requires c.place_of-j.ensures
    (elim c.else-j-k.branch [ else-j-k-via-then-j-k+else-list-j w ↦ λ a. w.if-list-j.false | else-j-k-via-else-j-k w ↦ λ a. absurd (omega arith) ]))
