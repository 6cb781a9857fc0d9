use Rattle.fat_map.proofs.Used.{create_used, create_read_only}
use Rattle.fat_map.proofs.tested.tested_create.Goals as goal

pub returns-then-not-in_use : goal.returns-then-not-in_use
returns-then-not-in_use c = search create_read_only

pub returns : goal.returns
returns c = search create_used
