use native.Mathlib.Omega.{arith}
use Rattle.fat_map.proofs.Counts.{count_outside, count_few, count_short, count_crossed, count_over, count_room, count_done}
use Rattle.fat_map.proofs.count.Goals as goal
use Rattle.fat_map.proofs.count.Goals.{then-b-a-via-then-b-a, then-b-a-via-else-b-a+then-n-b}

pub returns-then-unfit : goal.returns-then-unfit
returns-then-unfit c = count_outside _ _ _ _ _ c.unfit.ensures c.if-unfit.true

pub words_in-words-requires : goal.words_in-words-requires
words_in-words-requires c = omega (arith, (count_few c.args.map.now c.args.n 0 0 _ c.unfit.ensures c.if-unfit.false).1)

pub returns-then-map-words : goal.returns-then-map-words
returns-then-map-words c = count_short _ _ _ _ _ c.unfit.ensures c.if-unfit.false _ c.words_in-words.ensures c.if-map-words.true

pub returns-then-b-a : goal.returns-then-b-a
returns-then-b-a c =
    elim c.then-b-a.branch [
      | then-b-a-via-then-b-a w ↦ count_crossed _ _ _ _ _ c.unfit.ensures c.if-unfit.false _ c.words_in-words.ensures (omega arith) w.if-b-a.true
      | then-b-a-via-else-b-a+then-n-b w ↦ count_over _ _ _ _ _ c.unfit.ensures c.if-unfit.false _ c.words_in-words.ensures (omega arith) w.if-n-b.true
    ]

pub count-requires : goal.count-requires
count-requires c = record { a_le_b = omega arith; b_bound = count_room c.args.map.now c.args.n c.args.a c.args.b _ c.unfit.ensures c.if-unfit.false _ c.words_in-words.ensures (omega arith) (omega arith) }

pub returns : goal.returns
returns c = count_done _ _ _ _ _ c.unfit.ensures c.if-unfit.false _ c.words_in-words.ensures (omega arith) _ (omega arith) (omega arith) c.count.ensures
