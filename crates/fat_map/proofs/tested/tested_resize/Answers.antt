use Rattle.fat_map.proofs.Used.{resize_used, resize_read_only}
use Rattle.fat_map.proofs.tested.tested_resize.Goals as goal

pub returns-then-not-in_use : goal.returns-then-not-in_use
returns-then-not-in_use c = search resize_read_only

pub returns : goal.returns
returns c = search resize_used
