-- `fat_fault::hop` meets its contract.
use Rattle.fat_fault.proofs.Cases.{hop_names}
use Rattle.fat_fault.proofs.hop.Goals as goal

pub returns : goal.returns
returns c = hop_names _ _ _ _ _ _ c.requires.marked c.next_of.ensures c.named.ensures
