-- `map_bits::count_whole` meets its contract.
use Rattle.std.proofs.Common.{◌≡◌, ◌+◌, ◌-◌, length, take, drop, arith}
use Rattle.std.proofs.lemmas.List.{length-take-le, length-drop}
use Rattle.map_bits.proofs.Counts.{words_fit, word_of, count_begin, count_fits, count_next, count_end}
use Rattle.map_bits.proofs.count_whole.Goals as goal

pub loop-word-init : goal.loop-word-init
loop-word-init c = count_begin _ _ _ _ (omega arith) c.requires.i_le_j

pub overflow_add-sum : goal.overflow_add-sum
overflow_add-sum c =
    let w = word_of c.args.map.now c.args.i c.args.j c.loop-word.word-index c.requires.j_in_bounds.0 c.loop-word-test.true in
    rw w.1 (omega (arith, count_fits _ _ _ _ _ c.loop-word.invariant w.0 (words_fit c.args.map.now c.type_inv.map (c.args.i + c.loop-word.word-index)) c.requires.j_in_bounds.1))

pub loop-word-preserved : goal.loop-word-preserved
loop-word-preserved c =
    let w = word_of c.args.map.now c.args.i c.args.j c.loop-word.word-index c.requires.j_in_bounds.0 c.loop-word-test.true in
    rw w.1 (count_next _ _ _ _ _ c.loop-word.invariant w.0 (words_fit c.args.map.now c.type_inv.map (c.args.i + c.loop-word.word-index)) _ (omega arith))

pub returns : goal.returns
returns c =
    let l : length (take (c.args.j - c.args.i) (drop c.args.i c.args.map.now)) ≡ c.args.j - c.args.i =
    length-take-le (c.args.j - c.args.i) (drop c.args.i c.args.map.now) (omega (arith, length-drop c.args.i c.args.map.now)) in
    count_end _ _ _ _ _ c.loop-word.invariant (omega arith)
