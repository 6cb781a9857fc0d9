use mathlib.Core.Path.{sym, ◌∙◌}
use native.Mathlib.Omega.{arith}
use borrow.Author.Rules.{rules}
use Rattle.tree_table.proofs.Chain.{goes, fits_at, member_on, member_found, member_none}
use Rattle.tree_table.proofs.in_list.Goals as goal

pub returns-then-x-y : goal.returns-then-x-y
returns-then-x-y c = member_found c.loop-x.invariant.0 (omega arith) c.if-x-y.true ∙ c.loop-x.invariant.1

pub link_of-x-requires : goal.link_of-x-requires
link_of-x-requires c = (fits_at c.loop-x.invariant.0 (omega arith), search rules)

pub loop-x-smaller : goal.loop-x-smaller
loop-x-smaller c = omega (arith, (goes c.loop-x.invariant.0 (omega arith) c.link_of-x.ensures).less)

pub loop-x-preserved : goal.loop-x-preserved
loop-x-preserved c =
    let g = goes c.loop-x.invariant.0 (omega arith) c.link_of-x.ensures in
    (g.rest, sym (member_on g c.if-x-y.false) ∙ c.loop-x.invariant.1)

pub returns : goal.returns
returns c = member_none c.args.y c.loop-x.invariant.0 (omega arith) ∙ c.loop-x.invariant.1
