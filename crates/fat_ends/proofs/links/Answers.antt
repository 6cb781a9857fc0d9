-- `fat_ends::links` meets its contract.
use Rattle.std.proofs.Common.{refl, arith}
use borrow.Author.Tests.{eqb-true, eq-eqb}
use Rattle.fat_table.specs.Sound.Starts.{begin, after}
use Rattle.fat_ends.proofs.Ends.{linked_on, ends_count_n, ends_agree_n}
use Rattle.fat_ends.proofs.Joins.{past_joined}
use Rattle.fat_ends.proofs.links.Goals as goal

pub loop-b-init : goal.loop-b-init
loop-b-init c = (omega arith, begin, c.requires.covered.1, omega arith)

pub loop-b-preserved : goal.loop-b-preserved
loop-b-preserved c =
    let nd = c.size_of.ensures in
    let st = c.loop-b.invariant.2 in
    let sb = c.loop-b.invariant.1 in (
      omega (arith, nd.within),
      after sb nd refl,
      past_joined sb nd (linked_on st (c.in-Some.ensures.1 _)),
      omega (arith, nd.some, c.in-Some.ensures.0),
    )

pub returns : goal.returns
returns c = (
  λ e. ends_agree_n (omega arith) c.loop-b.invariant.2 c.requires.backs (eqb-true _ _ e),
  λ s. eq-eqb _ _ (ends_count_n (omega arith) c.loop-b.invariant.2 c.requires.backs s),
)
