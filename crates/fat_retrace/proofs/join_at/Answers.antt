use native.Mathlib.Omega.{arith}
use Rattle.fat_retrace.proofs.Joined.{join_later, join_free, join_one, several, join_room, join_place, join_small, join_done}
use Rattle.fat_retrace.proofs.Puts.{put_create}
use Rattle.fat_retrace.proofs.join_at.Goals as goal
use Rattle.fat_retrace.proofs.join_at.Goals.{
  then-prev_of-ne0-via-then-prev_of-ne0,
  then-prev_of-ne0-via-else-prev_of-ne0+then-head_of-b,
  then-prev_of-ne0-via-else-prev_of-ne0+else-head_of-b+then-next_of-eq0,
}

pub returns-then-prev_of-ne0 : goal.returns-then-prev_of-ne0
returns-then-prev_of-ne0 c = elim c.then-prev_of-ne0.branch [
  | then-prev_of-ne0-via-then-prev_of-ne0 w ↦ join_later _ _ _ _ _ _ c.prev_of.ensures w.if-prev_of-ne0.true
  | then-prev_of-ne0-via-else-prev_of-ne0+then-head_of-b w ↦ join_free _ _ _ _ _ _ w.head_of.ensures w.if-head_of-b.true
  | then-prev_of-ne0-via-else-prev_of-ne0+else-head_of-b+then-next_of-eq0 w ↦
      join_one _ _ _ c.requires.volume (record { byte = λ k. omega (arith, c.type_inv.table k) }) c.requires.node _ _ _
      c.prev_of.ensures w.if-prev_of-ne0.false w.head_of.ensures w.if-head_of-b.false w.next_of.ensures _ _ w.if-next_of-eq0.true
]

pub give_up-given-requires : goal.give_up-given-requires
give_up-given-requires c = let w = several _ _ _ c.requires.volume (record { byte = λ k. omega (arith, c.type_inv.table k) }) c.requires.node _ _ _
    c.prev_of.ensures c.if-prev_of-ne0.false c.head_of.ensures c.if-head_of-b.false c.next_of.ensures c.if-next_of-eq0.false in record { chain_from = w.chain; first_in_bounds = join_room _ _ _ w _ c.args.list.now c.requires.b_in_bounds }

pub put-requires : goal.put-requires
put-requires c = let w = several _ _ _ c.requires.volume (record { byte = λ k. omega (arith, c.type_inv.table k) }) c.requires.node _ _ _
    c.prev_of.ensures c.if-prev_of-ne0.false c.head_of.ensures c.if-head_of-b.false c.next_of.ensures c.if-next_of-eq0.false in record { k_in_bounds = join_place _ _ _ w _ _ c.requires.b_in_bounds _ _ _ c.give_up-given.ensures; number_bound = join_small _ _ _ w _ _ c.requires.b_in_bounds _ _ _ c.give_up-given.ensures }

pub returns : goal.returns
returns c =
    let w = several _ _ _ c.requires.volume (record { byte = λ k. omega (arith, c.type_inv.table k) }) c.requires.node _ _ _
    c.prev_of.ensures c.if-prev_of-ne0.false c.head_of.ensures c.if-head_of-b.false c.next_of.ensures c.if-next_of-eq0.false in
    join_done _ _ _ w _ _ c.requires.b_in_bounds _ _ _ c.give_up-given.ensures _ _ (put_create _ _ _ _ _ c.put.ensures.next c.put.ensures.is)
