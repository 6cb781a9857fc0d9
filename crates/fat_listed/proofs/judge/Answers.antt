use Rattle.fat_listed.proofs.Tests.{tells_not}
use Rattle.fat_listed.proofs.Judges.{fit_some, fit_few, not_past, judged_uneven, judged_unfit, judged_past, judged_foreign, judged_fits}
use borrow.Author.Rules.{rules}
use Rattle.fat_listed.proofs.judge.Goals as goal

pub returns-then-uneven : goal.returns-then-uneven
returns-then-uneven c = judged_uneven _ _ c.args.list.now _ _ c.uneven.ensures c.if-uneven.true

pub returns-then-unfit : goal.returns-then-unfit
returns-then-unfit c = judged_unfit _ _ c.args.list.now _ _ c.uneven.ensures c.if-uneven.false c.unfit.ensures c.if-unfit.true

pub passes-requires : goal.passes-requires
passes-requires c = (fit_some _ _ (tells_not c.unfit.ensures c.if-unfit.false), fit_few _ _ (tells_not c.unfit.ensures c.if-unfit.false))

pub returns-then-passes : goal.returns-then-passes
returns-then-passes c = judged_past _ _ c.args.list.now _ _ c.uneven.ensures c.if-uneven.false c.unfit.ensures c.if-unfit.false c.passes.ensures c.if-passes.true

pub nonzero_div-n : goal.nonzero_div-n
nonzero_div-n c = let h = fit_some _ _ (tells_not c.unfit.ensures c.if-unfit.false) in search rules

pub foreign-requires : goal.foreign-requires
foreign-requires c = (fit_some _ _ (tells_not c.unfit.ensures c.if-unfit.false), fit_few _ _ (tells_not c.unfit.ensures c.if-unfit.false), not_past _ _ c.passes.ensures c.if-passes.false)

pub returns-then-foreign : goal.returns-then-foreign
returns-then-foreign c = judged_foreign _ _ c.args.list.now _ _ c.uneven.ensures c.if-uneven.false c.unfit.ensures c.if-unfit.false c.passes.ensures c.if-passes.false c.foreign.ensures c.if-foreign.true

pub returns : goal.returns
returns c = judged_fits _ _ c.args.list.now _ _ c.uneven.ensures c.if-uneven.false c.unfit.ensures c.if-unfit.false c.passes.ensures c.if-passes.false c.foreign.ensures c.if-foreign.false
