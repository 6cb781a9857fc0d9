-- `sort_buckets` meets its contract.
use native.Mathlib.Omega.{arith}
use Rattle.tree_apart.proofs.Differing.{numbered}
use Rattle.tree_alone.proofs.Entries.{filling_begin, filling_on, filling_stop, filling_done}
use borrow.Author.Rules.{rules}
use Rattle.tree_alone.proofs.sort_buckets.Goals as goal

pub loop-b-init : goal.loop-b-init
loop-b-init c = filling_begin _ _ _ _ _ _ _

pub returns-in_err-n : goal.returns-in_err-n
returns-in_err-n c = rw c.from_residual.ensures (filling_stop c.loop-b.invariant (omega arith) (search rules) (numbered c.args.hash.now c.loop-b.b c.get_hash-first.ensures) c.in_err-n.ensures)

pub loop-b-preserved : goal.loop-b-preserved
loop-b-preserved c =
    filling_on c.loop-b.invariant (omega arith) (search rules) (numbered c.args.hash.now c.loop-b.b c.get_hash-first.ensures) c.in_ok-n.ensures (search rules) (search rules)

pub returns : goal.returns
returns c = filling_done c.loop-b.invariant (omega arith)
