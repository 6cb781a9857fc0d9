-- `salvage_shared::lay_chain` meets its contract.
use borrow.Author.Rules.{rules}
use Rattle.salvage_shared.proofs.Goings.{lay_begin, lay_on, going_here, whole_below}
use Rattle.salvage_shared.proofs.lay_chain.Goals as goal

pub overflow_add-i : goal.overflow_add-i
overflow_add-i c = search (whole_below, rules)

pub loop-i-init : goal.loop-i-init
loop-i-init c = search (lay_begin)

pub node_size-size-requires : goal.node_size-size-requires
node_size-size-requires c = search (going_here)

pub loop-i-preserved : goal.loop-i-preserved
loop-i-preserved c = search (lay_on)
