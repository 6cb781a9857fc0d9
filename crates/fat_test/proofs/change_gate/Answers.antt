-- `fat_test::change_gate` meets its contract.
use Rattle.std.proofs.lemmas.Result.{err_from_is_err_and}
use Rattle.fat_test.proofs.Change.{change_refused, change_open, change_retired}
use Rattle.fat_test.proofs.change_gate.Goals as goal

pub returns-in_err-counts : goal.returns-in_err-counts
returns-in_err-counts c =
    let p = err_from_is_err_and c.from_residual.result c.from_residual.ensures.1 in
    rw (p.1, p.2) (change_refused _ _ _ _ _ _ c.in_err-counts.ensures)

pub returns-then-not-in_use : goal.returns-then-not-in_use
returns-then-not-in_use c = change_retired _ _ _ _ _ _ c.in_ok-counts.ensures _ c.in_use.ensures c.if-not-in_use.true

pub returns : goal.returns
returns c = change_open _ _ _ _ _ _ c.in_ok-counts.ensures _ c.in_use.ensures c.if-not-in_use.false
