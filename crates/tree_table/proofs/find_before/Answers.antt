use mathlib.Core.Path.{sym, ◌∙◌}
use native.Mathlib.Omega.{arith}
use borrow.Author.Rules.{rules}
use Rattle.tree_table.proofs.Chain.{goes, fits_at, before_on, still_there, before_here, not_ended}
use Rattle.tree_table.proofs.find_before.Goals as goal

pub link_of-x-requires : goal.link_of-x-requires
link_of-x-requires c = (fits_at c.loop-x.invariant.0 (not_ended c.args.y c.loop-x.invariant.0 c.loop-x.invariant.1), search rules)

pub loop-x-smaller : goal.loop-x-smaller
loop-x-smaller c = omega (arith, (goes c.loop-x.invariant.0 (not_ended c.args.y c.loop-x.invariant.0 c.loop-x.invariant.1) c.link_of-x.ensures).less)

pub loop-x-preserved : goal.loop-x-preserved
loop-x-preserved c =
    let g = goes c.loop-x.invariant.0 (not_ended c.args.y c.loop-x.invariant.0 c.loop-x.invariant.1) c.link_of-x.ensures in
    (g.rest, still_there g (omega arith) c.loop-x.invariant.1, sym (before_on g c.loop-x.p (omega arith)) ∙ c.loop-x.invariant.2)

pub returns : goal.returns
returns c = sym (before_here c.loop-x.p c.loop-x.invariant.0 c.loop-x.invariant.1 (omega arith)) ∙ c.loop-x.invariant.2
