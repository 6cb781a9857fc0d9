use Rattle.audit_inner.proofs.Marking.{removed_table, removed_room, removed_marked}
use borrow.Author.Rules.{rules}
use Rattle.audit_inner.proofs.mark_removed.Goals as goal

pub mark_list-requires : goal.mark_list-requires
mark_list-requires c = search (removed_table, removed_room, rules)

pub returns : goal.returns
returns c = search (removed_marked)
