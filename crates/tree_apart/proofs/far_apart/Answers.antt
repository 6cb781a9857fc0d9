-- `far_apart` meets its contract.
use mathlib.Core.Path.{refl}
use Prim.Native.Nat.{◌+◌}
use native.Mathlib.Omega.{arith}
use borrow.Author.Rules.{rules}
use Rattle.tree_apart.proofs.Differing.{see_begin, see_on, see_stop, see_end, Right, right_at, far_right, bucket_ends, bucket_short, numbered}
use Rattle.tree_apart.proofs.far_apart.Goals as goal

pub loop-b-init : goal.loop-b-init
loop-b-init c = (see_begin c.args.hash.now (Right c.args.hash.now c.args.table.now c.args.w), refl)

pub bucket_apart-requires : goal.bucket_apart-requires
bucket_apart-requires c = (bucket_ends c.requires.0 (numbered c.args.hash.now c.loop-b.b c.get_hash-first.ensures) c.loop-b.invariant.0.seen.some (omega (arith, c.loop-b.invariant.0.whole)), c.requires.1, omega (arith, bucket_short c.requires.0 (numbered c.args.hash.now c.loop-b.b c.get_hash-first.ensures) c.loop-b.invariant.0.seen.some (omega (arith, c.loop-b.invariant.0.whole)), c.loop-b.invariant.1))

pub returns-then-not-bucket_apart : goal.returns-then-not-bucket_apart
returns-then-not-bucket_apart c = far_right (see_stop c.args.hash.now (Right c.args.hash.now c.args.table.now c.args.w) c.loop-b.invariant.0 (omega arith) (right_at c.args.hash.now c.args.table.now c.args.w (c.loop-b.b + 1) (numbered c.args.hash.now c.loop-b.b c.get_hash-first.ensures) c.bucket_apart.ensures) (search rules))

pub loop-b-preserved : goal.loop-b-preserved
loop-b-preserved c = (see_on c.args.hash.now (Right c.args.hash.now c.args.table.now c.args.w) c.loop-b.invariant.0 (omega arith) (right_at c.args.hash.now c.args.table.now c.args.w (c.loop-b.b + 1) (numbered c.args.hash.now c.loop-b.b c.get_hash-first.ensures) c.bucket_apart.ensures) (search rules), search rules)

pub returns : goal.returns
returns c = far_right (see_end c.args.hash.now (Right c.args.hash.now c.args.table.now c.args.w) c.loop-b.invariant.0 (omega arith))
