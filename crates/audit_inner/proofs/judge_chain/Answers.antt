use Rattle.audit_inner.proofs.Judging.{chain_out, chain_nil, chain_some}
use native.Mathlib.Omega.{arith}
use mathlib.Core.Path.{refl}
use borrow.Author.Rules.{rules}
use Rattle.audit_inner.proofs.judge_chain.Goals as goal
use Rattle.audit_inner.proofs.judge_chain.Goals.{then-n-b-via-then-n-b, then-n-b-via-else-n-b+then-work-b-eq0}

pub returns-then-n-b : goal.returns-then-n-b
returns-then-n-b c =
    elim c.then-n-b.branch [
      | then-n-b-via-then-n-b w ↦ chain_out _ _ _ _ _ _ w.if-n-b.true refl
      | then-n-b-via-else-n-b+then-work-b-eq0 w ↦ chain_nil _ _ _ _ _ _ (omega arith) w.if-work-b-eq0.true refl
    ]

pub returns : goal.returns
returns c = chain_some _ _ _ _ _ _ (omega arith) (omega arith) (search rules) refl
