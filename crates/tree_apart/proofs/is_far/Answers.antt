-- `is_far` meets its contract.
use mathlib.Core.Path.{refl, ap}
use Prim.Native.Nat.{◌-◌}
use native.Mathlib.Omega.{arith}
use borrow.Author.Rules.{rules}
use lib.ListN.{length}
use Rattle.tree_table.proofs.Chain.{goes, fits_at, stops}
use Rattle.tree_apart.proofs.Differing.{far_yes, far_no}
use Rattle.tree_apart.proofs.is_far.Goals as goal

pub returns-then-n-eq-NEAR : goal.returns-then-n-eq-NEAR
returns-then-n-eq-NEAR c = far_yes c.args.table.now c.args.w c.args.first (omega (arith, c.loop-x.invariant.1, (goes c.loop-x.invariant.0 (omega arith) refl).less))

pub link_of-x-requires : goal.link_of-x-requires
link_of-x-requires c = (fits_at c.loop-x.invariant.0 (omega arith), search rules)

pub loop-x-smaller : goal.loop-x-smaller
loop-x-smaller c = omega (arith, (goes c.loop-x.invariant.0 (omega arith) c.link_of-x.ensures).less)

pub loop-x-preserved : goal.loop-x-preserved
loop-x-preserved c = let g = goes c.loop-x.invariant.0 (omega arith) c.link_of-x.ensures in (g.rest, omega (arith, g.less, c.loop-x.invariant.1), omega (arith, c.loop-x.invariant.2))

pub returns : goal.returns
returns c = far_no c.args.table.now c.args.w c.args.first (omega (arith, c.loop-x.invariant.1, c.loop-x.invariant.2, ap length (stops c.args.table.now c.args.w (c.args.w - 4) c.loop-x.x (omega arith))))
