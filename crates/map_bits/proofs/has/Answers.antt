use Rattle.map_bits.proofs.Ones.{bit_says}
use Rattle.map_bits.proofs.has.Goals as goal

pub returns : goal.returns
returns c = search bit_says
