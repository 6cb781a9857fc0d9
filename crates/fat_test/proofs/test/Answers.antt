-- `fat_test::test` meets its contract.
use Rattle.std.proofs.Common.{arith}
use Rattle.fat_node.proofs.Sizes.{denied}
use Rattle.fat_test.proofs.Cases.{test_misfit, test_outside, test_short, test_ruled}
use Rattle.fat_test.proofs.test.Goals as goal

pub returns-then-misfit : goal.returns-then-misfit
returns-then-misfit c = test_misfit _ _ (c.misfit.ensures.0 c.if-misfit.true)

pub returns-then-outside : goal.returns-then-outside
returns-then-outside c = test_outside _ _ (denied _ c.misfit.ensures.1 c.if-misfit.false) (c.outside.ensures.0 c.if-outside.true)

pub returns-then-work-blocks : goal.returns-then-work-blocks
returns-then-work-blocks c =
    test_short _ _ (denied _ c.misfit.ensures.1 c.if-misfit.false) (denied _ c.outside.ensures.1 c.if-outside.false) (omega arith)

pub verdict-requires : goal.verdict-requires
verdict-requires c = record {
  misfit = denied _ c.misfit.ensures.1 c.if-misfit.false;
  outside = denied _ c.outside.ensures.1 c.if-outside.false;
  table_in_bounds = omega arith;
}

pub returns : goal.returns
returns c =
    test_ruled _ _ (denied _ c.misfit.ensures.1 c.if-misfit.false) (denied _ c.outside.ensures.1 c.if-outside.false) (λ s. omega arith) c.verdict.ensures.1 c.verdict.result c.verdict.ensures.0
