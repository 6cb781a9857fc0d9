-- `fat_fault::head_fits` meets its contract.
use Rattle.std.proofs.Common.{rules}
use Rattle.fat_node.specs.Node.{prev_at}
use Rattle.fat_fault.proofs.Cases.{head_none, head_some, answered_by}
use Rattle.fat_fault.proofs.head_fits.Goals as goal

pub returns-in-Some : goal.returns-in-Some
returns-in-Some c =
    head_some _ _ _ _ c.in-Some.ensures.0 c.in-Some.ensures.1
    (answered_by _ _ _ c.requires.marked (prev_at c.args.table.now) _ 0 _ _ c.named.ensures c.map_or.ensures (λ j e. search rules))

pub returns-in-None : goal.returns-in-None
returns-in-None c = head_none _ _ c.in-None.ensures
