-- `holds_list` meets its contract.
use Rattle.std.proofs.Common.{◌-◌, arith}
use Rattle.stored.proofs.read.holds_list.Goals as goal

pub get_u32-word-requires : goal.get_u32-word-requires
get_u32-word-requires c = omega arith
