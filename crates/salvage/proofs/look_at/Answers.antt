-- `salvage::look_at` meets its contract.
use Rattle.std.proofs.lemmas.Result.{err_from_is_err_and}
use Rattle.salvage.proofs.Walks.{look_out, look_broken, look_missed}
use Rattle.salvage.proofs.look_at.Goals as goal

pub returns-then-n-b : goal.returns-then-n-b
returns-then-n-b c = look_out _ _ _ _ c.if-n-b.true

pub returns-in_err-node : goal.returns-in_err-node
returns-in_err-node c =
    let p = err_from_is_err_and c.from_residual.result c.from_residual.ensures.1 in
    rw (p.1, p.2) (look_broken _ _ _ _ _ c.if-n-b.false c.in_err-node.ensures)

pub returns-then-node-p : goal.returns-then-node-p
returns-then-node-p c = look_missed _ _ _ _ _ c.in_ok-node.ensures c.requires.n_bound c.if-node-p.true _ c.missed.ensures
