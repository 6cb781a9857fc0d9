-- `sift` meets its contract.
use Rattle.tree_marks.proofs.Parts.{part_within, part_room}
use Rattle.tree_apart.proofs.Differing.{part_bounded}
use Prim.Native.Nat.{◌+◌, ◌-◌}
use native.Mathlib.Omega.{arith}
use Rattle.tree_apart.proofs.sift.Goals as goal

pub far_apart-requires : goal.far_apart-requires
far_apart-requires c = (part_bounded c.args.work.now c.args.off c.index.result c.index.ensures c.requires.2 c.requires.0, c.requires.1)

pub returns : goal.returns
returns c = (c.far_apart.ensures, part_within c.args.work.now c.far_apart.new.room c.args.off c.args.count (c.args.off + c.index.result - c.args.off) c.requires.2 (omega (arith, c.index.ensures)) (omega (arith, part_room c.args.work.now c.args.off c.index.result c.args.count c.index.ensures c.requires.2, c.index.ensures)))
