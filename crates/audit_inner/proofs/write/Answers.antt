use Rattle.audit_inner.proofs.Writing.{write_short, write_long}
use native.Mathlib.Omega.{arith}
use lib.ListN.{length-set}
use Rattle.audit_inner.proofs.write.Goals as goal

pub returns-then-list-at : goal.returns-then-list-at
returns-then-list-at c = λ l₀ out e w. write_short _ _ _ l₀ out _ e w c.if-list-at.true

pub bounds-list-at-2 : goal.bounds-list-at-2
bounds-list-at-2 c = simp length-set (omega arith)

pub returns : goal.returns
returns c = λ l₀ out e w. write_long _ _ _ l₀ out _ e w
