-- `fat_fault::find` meets its contract.
use Rattle.std.proofs.Common.{ap, ◌∙◌, ℕ}
use Rattle.std.proofs.lemmas.Result.{err_from_is_err_and}
use mathlib.Core.Path.{subst⁻¹}
use Rattle.fat_fault.specs.Fault.{head_fits}
use Rattle.fat_fault.specs.Inner.Marks.{Fresh}
use Rattle.fat_fault.proofs.Cases.{marked_long}
use Rattle.fat_fault.proofs.Passes.{find_walk, find_head, find_lowest}
use Rattle.fat_fault.proofs.find.Goals as goal

pub returns-in_err-walk : goal.returns-in_err-walk
returns-in_err-walk c =
    let p = err_from_is_err_and c.from_residual.result c.from_residual.ensures.1 in
    rw (p.1, p.2) (find_walk _ _ _ c.in_err-walk.ensures)

pub head_fits-requires-clause-marked : goal.head_fits-requires-clause-marked
head_fits-requires-clause-marked c = marked_long c.in_ok-walk.ensures.1.marked

pub returns-then-not-head_fits : goal.returns-then-not-head_fits
returns-then-not-head_fits c =
    let w = c.in_ok-walk.ensures in
    find_head _ _ _ w.0 (c.head_fits.ensures ∙ ap (λ (m : ℕ). head_fits m c.args.table.now) w.1.marked.long) c.if-not-head_fits.true

pub lowest-requires-clause-fresh : goal.lowest-requires-clause-fresh
lowest-requires-clause-fresh c =
    let f = c.in_ok-walk.ensures.1 in
    subst⁻¹ (λ (m : ℕ). Fresh m c.args.table.now c.walk.new.work) f.marked.long f

pub returns : goal.returns
returns c =
    let w = c.in_ok-walk.ensures in
    find_lowest _ _ _ _ _ w.1.marked.long w.0 (c.head_fits.ensures ∙ ap (λ (m : ℕ). head_fits m c.args.table.now) w.1.marked.long) c.if-not-head_fits.false c.lowest.ensures
