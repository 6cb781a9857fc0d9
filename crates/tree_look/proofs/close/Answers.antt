use mathlib.Core.Path.{refl}
use Rattle.std.proofs.lemmas.Result.{err_from_is_err_and}
use Rattle.tree_test.proofs.Cases.{tells_not}
use Rattle.tree_look.proofs.Opens.{close_none, close_refused, close_done}
use Rattle.tree_look.proofs.close.Goals as goal

pub returns-then-not-live : goal.returns-then-not-live
returns-then-not-live c = close_none _ _ _ _ _ _ (tells_not c.if-not-live.ensures refl)

pub returns-in_err-next : goal.returns-in_err-next
returns-in_err-next c =
    let p = err_from_is_err_and c.from_residual.result c.from_residual.ensures.1 in
    rw (p.1, p.2) (close_refused _ _ _ _ _ _ (c.if-not-live.ensures.yes refl) c.record_of-record.ensures c.in_err-next.field-0.0 c.in_err-next.ensures)

pub returns : goal.returns
returns c = close_done _ _ _ _ _ _ (c.if-not-live.ensures.yes refl) c.record_of-record.ensures c.in_ok-next.ensures c.put_record.ensures
