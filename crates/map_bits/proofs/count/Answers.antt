use Rattle.map_bits.proofs.Counts.{count_one, count_parts}
use Rattle.map_bits.proofs.count.Goals as goal

pub returns-then-i-j : goal.returns-then-i-j
returns-then-i-j c = count_one _ _ _ c.requires.a_le_b _ c.if-i-j.true c.count_part.ensures

pub returns : goal.returns
returns c = count_parts _ _ _ c.requires.a_le_b _ _ _ c.if-i-j.false c.count_part-first.ensures c.count_whole-middle.ensures c.count_part-last.ensures
