use mathlib.Core.Path.{refl}
use Prim.Native.Nat.{◌-◌, ◌/◌}
use native.Mathlib.Omega.{arith}
use native.Mathlib.Nat.{mul-le-mul_right}
use Rattle.tree_table.proofs.Cases.{copy_begin, copy_step, copy_end}
use Rattle.tree_table.proofs.copy_entry.Goals as goal

pub loop-i-init : goal.loop-i-init
loop-i-init c = copy_begin c.args.w c.args.table.now c.args.x (c.args.w / 4 - 1)

pub link_of-v-requires : goal.link_of-v-requires
link_of-v-requires c = (omega (arith, c.loop-i.invariant.same, mul-le-mul_right c.args.w c.requires.2), omega arith)

pub loop-i-preserved : goal.loop-i-preserved
loop-i-preserved c = copy_step c.args.w c.args.table.now c.args.x (c.args.w / 4 - 1) c.loop-i.table c.loop-i.i c.requires.2 refl (omega arith) c.loop-i.invariant c.link_of-v.ensures c.put_link.ensures

pub returns : goal.returns
returns c = copy_end c.loop-i.invariant (omega arith)
