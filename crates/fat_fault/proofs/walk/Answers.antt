-- `fat_fault::walk` meets its contract.
use Rattle.std.proofs.Common.{arith}
use Rattle.std.proofs.lemmas.Result.{err_from_is_err_and}
use Rattle.fat_fault.proofs.Passes.{walking_none, walking_again, walking_found, walking_end}
use Rattle.fat_fault.proofs.walk.Goals as goal

pub loop-b-init : goal.loop-b-init
loop-b-init c = walking_none _ _ _ c.requires.work_value

pub returns-in_err-node : goal.returns-in_err-node
returns-in_err-node c =
    let p = err_from_is_err_and c.from_residual.result c.from_residual.ensures.1 in
    rw (p.1, p.2) (walking_found _ _ _ _ _ c.in_err-node.ensures c.loop-b.invariant c.loop-b-test.true)

pub loop-b-preserved : goal.loop-b-preserved
loop-b-preserved c = walking_again _ _ _ _ _ (omega arith) c.loop-b.invariant c.loop-b-test.true c.in_ok-node.ensures.0

pub returns : goal.returns
returns c = walking_end _ _ _ _ c.loop-b.invariant c.loop-b-test.false
