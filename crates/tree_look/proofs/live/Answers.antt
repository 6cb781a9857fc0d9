use native.Mathlib.Omega.{arith}
use Rattle.tree_look.proofs.Lives.{live_zero, live_beyond, live_inside, bucket_there, live_told}
use Rattle.tree_look.proofs.live.Goals as goal
use Rattle.tree_look.proofs.live.Goals.{then-x-eq0-via-then-x-eq0, then-x-eq0-via-else-x-eq0+then-get_u32-x}

pub returns-then-x-eq0 : goal.returns-then-x-eq0
returns-then-x-eq0 c =
    elim c.then-x-eq0.branch [
      | then-x-eq0-via-then-x-eq0 w ↦ search (live_zero)
      | then-x-eq0-via-else-x-eq0+then-get_u32-x w ↦ search (live_beyond)
    ]

pub overflow_mul-at : goal.overflow_mul-at
overflow_mul-at c = omega (arith, live_inside c.requires c.args.x c.get_u32.result c.index.result c.get_u32.ensures c.if-get_u32-x.false c.index.ensures)

pub overflow_add-end : goal.overflow_add-end
overflow_add-end c = omega (arith, live_inside c.requires c.args.x c.get_u32.result c.index.result c.get_u32.ensures c.if-get_u32-x.false c.index.ensures)

pub slice_bounds-get_key-end : goal.slice_bounds-get_key-end
slice_bounds-get_key-end c = omega (arith, live_inside c.requires c.args.x c.get_u32.result c.index.result c.get_u32.ensures c.if-get_u32-x.false c.index.ensures)

pub in_list-requires : goal.in_list-requires
in_list-requires c = (bucket_there c.requires c.hash-b.result c.get_u32-first.result _ c.hash-b.ensures c.get_u32-first.ensures, omega (arith, c.requires.wide))

pub returns : goal.returns
returns c =
    live_told (c.requires) c.args.x c.index.result c.hash-b.result c.get_u32-first.result _ c.in_list.result c.index.ensures c.get_key-key.ensures c.hash-b.ensures c.get_u32-first.ensures c.in_list.ensures
