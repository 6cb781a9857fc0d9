use lib.ListN.{length}
use native.Mathlib.Omega.{arith}
use Rattle.fat_map.proofs.Gates.{short_told, long_told, less_words, long_words}
use borrow.Author.Rules.{rules}
use Rattle.fat_map.proofs.gate.Goals as goal

pub returns-then-map-words : goal.returns-then-map-words
returns-then-map-words c = short_told c.args.table.now _ _ c.args.work.now c.args.map.now (less_words c.args.table.now _ _ (length c.args.map.now) c.words_in-words.ensures c.blocks-n.ensures c.if-map-words.true) c.gate.new.work _ c.gate.ensures (search rules)

pub returns : goal.returns
returns c = long_told c.args.table.now _ _ c.args.work.now c.args.map.now (long_words c.args.table.now _ _ (length c.args.map.now) c.words_in-words.ensures c.blocks-n.ensures (omega arith)) _ _ c.gate-2.ensures
