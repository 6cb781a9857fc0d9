use borrow.Author.Tests.{eq-eqb}
use native.Mathlib.Omega.{arith}
use Rattle.tree_key.specs.Key.{key_words}
use Rattle.tree_judge.proofs.Judges.{key_ends, other_none, other_some}
use Rattle.tree_judge.proofs.has_other.Goals as goal

pub get-hit-requires : goal.get-hit-requires
get-hit-requires c = (key_ends c.requires (key_words c.args.key) c.hash-b.result c.get_hash-first.result (record { inode = 0; compared = 0 }) c.hash-b.ensures c.get_hash-first.ensures, omega (arith, c.requires.wide))

pub returns-then-hit-ne0 : goal.returns-then-hit-ne0
returns-then-hit-ne0 c =
    other_some c.requires (key_words c.args.key) c.hash-b.result c.get_hash-first.result c.get-hit.result c.hash-b.ensures c.get_hash-first.ensures c.args.x c.get-hit.ensures c.if-hit-ne0.true

pub returns-else-hit-ne0 : goal.returns-else-hit-ne0
returns-else-hit-ne0 c =
    rw (eq-eqb _ _ c.if-hit-ne0.false)
    (other_none c.requires (key_words c.args.key) c.hash-b.result c.get_hash-first.result c.get-hit.result c.hash-b.ensures c.get_hash-first.ensures c.args.x c.get-hit.ensures c.if-hit-ne0.false)
