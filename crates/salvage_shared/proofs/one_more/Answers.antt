-- `salvage_shared::one_more` meets its contract.
use Rattle.salvage_shared.proofs.Counted.{more_low, more_high}
use Rattle.salvage_shared.proofs.one_more.Goals as goal

pub returns-then-v-lt2 : goal.returns-then-v-lt2
returns-then-v-lt2 c = search (more_low)

pub returns-else-v-lt2 : goal.returns-else-v-lt2
returns-else-v-lt2 c = search (more_high)
