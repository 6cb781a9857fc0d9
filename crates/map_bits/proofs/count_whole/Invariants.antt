use Rattle.map_bits.proofs.Counts.{Counting}
use Rattle.std.proofs.Common.{◌+◌}
use Rattle.map_bits.proofs.count_whole.Given as goal

abbrev pub invariant-loop-word : goal.invariant-loop-word
invariant-loop-word l = Counting l.map l.i l.j l.sum (l.i + l.word-index)
