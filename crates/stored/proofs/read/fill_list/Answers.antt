-- `fill_list` meets its contract.
use Rattle.std.proofs.Common.{◌-◌, arith}
use Rattle.stored.proofs.read.fill_list.Goals as goal

pub get_u32-requires : goal.get_u32-requires
get_u32-requires c = omega arith
