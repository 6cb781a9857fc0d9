-- `wipe` meets its contract.
use Rattle.tree_marks.proofs.Parts.{part_room}
use Rattle.tree_apart.proofs.Differing.{part_wiped}
use Prim.Native.Nat.{◌+◌, ◌-◌}
use native.Mathlib.Omega.{arith}
use lib.ListN.{length, take, drop}
use Rattle.tree_apart.proofs.wipe.Goals as goal

pub returns : goal.returns
returns c = part_wiped c.args.work.now _ c.args.off c.args.count (c.args.off + c.index.result - c.args.off) c.requires (omega (arith, c.index.ensures)) (omega (arith, part_room c.args.work.now c.args.off c.index.result c.args.count c.index.ensures c.requires, c.index.ensures)) (length (take (c.args.off + c.index.result - c.args.off) (drop c.args.off c.args.work.now))) (omega (arith, part_room c.args.work.now c.args.off c.index.result c.args.count c.index.ensures c.requires, c.index.ensures)) c.clear.ensures
