-- `sort_bucket` meets its contract.
use Rattle.tree_alone.proofs.Entries.{counted_ends, counted_far, counted_stop, counted_no, counted_yes}
use borrow.Author.Rules.{rules}
use Rattle.tree_alone.proofs.sort_bucket.Goals as goal

pub returns-in_err-n : goal.returns-in_err-n
returns-in_err-n c = rw c.from_residual.ensures (counted_stop c.in_err-n.ensures)

pub check_bucket-requires : goal.check_bucket-requires
check_bucket-requires c = (
  counted_ends c.args.table.now c.args.w c.args.first c.in_ok-n.ensures c.requires.1 c.requires.2 c.requires.0,
  search rules,
  search rules,
  search rules,
  counted_far c.args.table.now c.args.w c.args.first c.in_ok-n.ensures c.requires.1 c.requires.2 c.requires.0,
)

pub returns-then-not-check_bucket : goal.returns-then-not-check_bucket
returns-then-not-check_bucket c = counted_no c.in_ok-n.ensures c.check_bucket.ensures (search rules)

pub returns : goal.returns
returns c = counted_yes c.in_ok-n.ensures c.check_bucket.ensures c.requires.1 c.requires.2 c.requires.0 (search rules)
