use Prim.Native.Nat.{◌%◌}
use Rattle.std.proofs.Common.{arith}
use Rattle.std.proofs.Math.Nat.{mod-lt}
use Rattle.fat_listed.proofs.Seen.{touched_in, touched_some}
use Rattle.fat_listed.proofs.touched.Goals as goal

pub spanned-requires : goal.spanned-requires
spanned-requires c =
    (c.requires.0, omega (arith, mod-lt c.args.pos c.requires.0, mod-lt c.args.len c.requires.0))

pub slice_bounds-result-end-2 : goal.slice_bounds-result-end-2
slice_bounds-result-end-2 c = omega (arith, touched_in c.args.list.now _ _ _ c.requires.0 (omega arith) _ c.spanned.ensures c.requires.2)

pub returns : goal.returns
returns c = touched_some c.args.list.now _ _ _ c.requires.0 (omega arith) _ c.spanned.ensures _ (omega arith) (omega (arith, touched_in c.args.list.now _ _ _ c.requires.0 (omega arith) _ c.spanned.ensures c.requires.2))
