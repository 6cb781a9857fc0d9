use Rattle.fat_map.proofs.Used.{delete_used, delete_read_only}
use Rattle.fat_map.proofs.tested.tested_delete.Goals as goal

pub returns-then-not-in_use : goal.returns-then-not-in_use
returns-then-not-in_use c = search delete_read_only

pub returns : goal.returns
returns c = search delete_used
