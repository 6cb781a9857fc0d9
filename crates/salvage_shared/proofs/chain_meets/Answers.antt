-- `salvage_shared::chain_meets` meets its contract.
use borrow.Author.Rules.{rules}
use Rattle.salvage_shared.proofs.Goings.{meet_begin, meet_on, meet_found, going_here, whole_below}
use Rattle.salvage_shared.proofs.chain_meets.Goals as goal

pub overflow_add-i : goal.overflow_add-i
overflow_add-i c = search (whole_below, rules)

pub loop-i-init : goal.loop-i-init
loop-i-init c = search (meet_begin)

pub node_size-size-requires : goal.node_size-size-requires
node_size-size-requires c = search (going_here)

pub returns-then-run_meets : goal.returns-then-run_meets
returns-then-run_meets c = search (meet_found)

pub loop-i-preserved : goal.loop-i-preserved
loop-i-preserved c = search (meet_on)
