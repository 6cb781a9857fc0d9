use native.Mathlib.Omega.{arith}
use Rattle.tree_key.specs.Key.{key_words}
use Rattle.tree_step.proofs.Seats.{own_ends, own_there, own_seat}
use Rattle.tree_step.proofs.in_bucket.Goals as goal

pub find_before-requires : goal.find_before-requires
find_before-requires c = (own_ends c.requires.0 c.requires.1 c.index.result c.hash-bucket.result c.get_hash-first.result (key_words c.get_key-key.result) c.index.ensures c.get_key-key.ensures c.hash-bucket.ensures c.get_hash-first.ensures, omega (arith, c.requires.0.wide), own_there c.requires.0 c.requires.1 c.index.result c.hash-bucket.result c.get_hash-first.result (key_words c.get_key-key.result) c.index.ensures c.get_key-key.ensures c.hash-bucket.ensures c.get_hash-first.ensures)

pub returns : goal.returns
returns c =
    own_seat c.requires.0 c.requires.1 c.index.result c.hash-bucket.result c.get_hash-first.result (key_words c.get_key-key.result) c.index.ensures c.get_key-key.ensures c.hash-bucket.ensures c.find_before.result c.link_of.result c.get_hash-first.ensures c.find_before.ensures c.link_of.ensures
