use Rattle.fat_walk.proofs.Walks.{from_first}
use Rattle.fat_walk.proofs.seek.Goals as goal

pub seek_on-requires : goal.seek_on-requires
seek_on-requires c = search from_first
