use Rattle.std.proofs.Common.{◌-◌, arith}
use Rattle.retraced.proofs.replay.compare.Goals as goal

pub loop-block-init : goal.loop-block-init
loop-block-init c = omega arith

pub end_at-end-requires : goal.end_at-end-requires
end_at-end-requires c = omega arith

pub same_node-requires : goal.same_node-requires
same_node-requires c = omega arith

pub overflow_add-nodes : goal.overflow_add-nodes
overflow_add-nodes c = omega arith

pub loop-block-smaller : goal.loop-block-smaller
loop-block-smaller c = omega arith

pub loop-block-preserved : goal.loop-block-preserved
loop-block-preserved c = omega arith
