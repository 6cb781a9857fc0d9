use Rattle.audit_inner.proofs.Sweeping.{blocks_begin, blocks_on, blocks_end}
use native.Mathlib.Omega.{arith}
use borrow.Author.Rules.{rules}
use Rattle.audit_inner.proofs.audit_blocks.Goals as goal

pub loop-b-init : goal.loop-b-init
loop-b-init c = blocks_begin _ _ _ _

pub bounds-work-b : goal.bounds-work-b
bounds-work-b c = omega arith

pub bounds-work-b-in-loop-b : goal.bounds-work-b-in-loop-b
bounds-work-b-in-loop-b c = omega arith

pub overflow_cast-b : goal.overflow_cast-b
overflow_cast-b c = omega arith

pub put-count-requires : goal.put-count-requires
put-count-requires c = omega arith

pub loop-b-preserved : goal.loop-b-preserved
loop-b-preserved c = search (blocks_on, rules)

pub returns : goal.returns
returns c = blocks_end _ _ _ _ _ _ _ _ c.loop-b.invariant (λ h. omega (arith, h))
