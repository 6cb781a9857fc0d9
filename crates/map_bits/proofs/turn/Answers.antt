use Rattle.map_bits.proofs.Turns.{one_turnable, one_turned, first_turnable, second_turnable, third_turnable, all_turned}
use borrow.Author.Rules.{rules}
use Rattle.map_bits.proofs.turn.Goals as goal

pub turn_part-requires : goal.turn_part-requires
turn_part-requires c = let r = one_turnable _ _ _ _ c.requires c.if-i-j.true in record { hi_bound = r.0; turnable = r.1 }

pub returns-then-i-j : goal.returns-then-i-j
returns-then-i-j c = search one_turned

pub turn_part-requires-2 : goal.turn_part-requires-2
turn_part-requires-2 c = let r = first_turnable _ _ _ _ c.requires c.if-i-j.false in record { hi_bound = r.0; turnable = r.1 }

pub turn_whole-requires : goal.turn_whole-requires
turn_whole-requires c = search second_turnable

pub turn_part-requires-3 : goal.turn_part-requires-3
turn_part-requires-3 c =
    let r = third_turnable _ _ _ _ c.requires c.if-i-j.false _ (search rules) c.turn_part-2.ensures _ (search rules) c.turn_whole.ensures in record { hi_bound = r.0; turnable = r.1 }

pub returns : goal.returns
returns c =
    all_turned _ _ _ _ c.requires c.if-i-j.false _ (search rules) c.turn_part-2.ensures _ (search rules) c.turn_whole.ensures _ (search rules) c.turn_part-3.ensures
