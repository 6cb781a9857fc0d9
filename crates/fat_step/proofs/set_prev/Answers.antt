use Rattle.fat_step.proofs.Cases.{fits, at_standing, with_none, with_some}
use mathlib.Core.Path.{refl}
use native.Mathlib.Omega.{arith}
use Rattle.fat_step.proofs.set_prev.Goals as goal

pub returns-then-i-eq0 : goal.returns-then-i-eq0
returns-then-i-eq0 c = search with_none

pub set_node-requires : goal.set_node-requires
set_node-requires c =
    let w = at_standing _ _ _ c.requires.standing_at c.if-i-eq0.false in
    let r = fits _ _ _ _ _ _ _ w refl c.node_at-node.ensures.0 (omega arith) (omega (arith, w.next, c.node_at-node.ensures.2)) in record { n_bound = r.0; le_size = r.1.0; prev_le_n = r.1.1 }

pub returns : goal.returns
returns c = search with_some
