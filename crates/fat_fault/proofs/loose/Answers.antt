-- `fat_fault::loose` meets its contract.
use Rattle.std.proofs.Common.{rules, ◌+◌}
use Rattle.fat_node.specs.Node.{prev_at, next_at}
use Rattle.fat_fault.proofs.Cases.{answered_by, loose_next, loose_prev}
use Rattle.fat_fault.proofs.loose.Goals as goal

pub returns-then-not-map_or : goal.returns-then-not-map_or
returns-then-not-map_or c =
    loose_next _ _ _ _ _ c.next_of-next.ensures
    (answered_by _ _ _ c.requires.marked (prev_at c.args.table.now) _ (c.args.b + 1) _ _ c.named.ensures c.map_or.ensures (λ j e. search rules)) c.if-not-map_or.true

pub returns-else-not-map_or : goal.returns-else-not-map_or
returns-else-not-map_or c =
    loose_prev _ _ _ _ _ _ _ c.next_of-next.ensures
    (answered_by _ _ _ c.requires.marked (prev_at c.args.table.now) _ (c.args.b + 1) _ _ c.named.ensures c.map_or.ensures (λ j e. search rules)) c.if-not-map_or.false
    c.prev_of-prev.ensures
    (answered_by _ _ _ c.requires.marked (next_at c.args.table.now) _ (c.args.b + 1) _ _ c.named-else-not-map_or.ensures c.map_or-else-not-map_or.ensures (λ j e. search rules))
