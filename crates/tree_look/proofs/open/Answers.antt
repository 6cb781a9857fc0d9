use mathlib.Core.Bool.{false≢true}
use mathlib.Core.Path.{refl, sym, ◌∙◌}
use Rattle.std.proofs.lemmas.Result.{err_from_is_err_and}
use Rattle.tree_test.proofs.Cases.{tells_not}
use Rattle.tree_look.proofs.Opens.{open_none, open_full, open_refused, open_done}
use Rattle.tree_look.proofs.open.Goals as goal

pub returns-then-not-live : goal.returns-then-not-live
returns-then-not-live c = open_none _ _ _ _ _ _ (tells_not c.if-not-live.ensures refl)

pub returns-then-is_full : goal.returns-then-is_full
returns-then-is_full c = open_full _ _ _ _ _ _ (c.if-not-live.ensures.yes refl) (c.is_full.ensures.0 c.if-is_full.true)

pub returns-in_err-next : goal.returns-in_err-next
returns-in_err-next c =
    let p = err_from_is_err_and c.from_residual.result c.from_residual.ensures.1 in
    rw (p.1, p.2) (open_refused _ _ _ _ _ _ (c.if-not-live.ensures.yes refl) c.record_of-record.ensures (λ f. false≢true (sym c.if-is_full.false ∙ c.is_full.ensures.1 f)) c.in_err-next.field-0.0 c.in_err-next.ensures)

pub returns : goal.returns
returns c = open_done _ _ _ _ _ _ (c.if-not-live.ensures.yes refl) c.record_of-record.ensures (λ f. false≢true (sym c.if-is_full.false ∙ c.is_full.ensures.1 f)) c.in_ok-next.ensures c.put_record.ensures
