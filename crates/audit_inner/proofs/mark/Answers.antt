use native.Mathlib.Omega.{arith}
use Rattle.audit_inner.proofs.Marking.{mark_room, mark_clear, mark_start}
use borrow.Author.Rules.{rules}
use Rattle.audit_inner.proofs.mark.Goals as goal

pub mark_removed-requires : goal.mark_removed-requires
mark_removed-requires c = record { files = search rules; file_table_in_bounds = search (mark_room); n_bound = omega arith; clear = search (mark_clear) }

pub returns : goal.returns
returns c = search (mark_start)
