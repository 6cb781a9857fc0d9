-- `mukthiban_tested_fat_open_list` meets its contract.
use Rattle.mukthiban.proofs.tested_blocks.mukthiban_tested_fat_open_list.Goals as goal

pub returns : goal.returns
returns c = (_, c.into.ensures.0, c.into.ensures.1, rw c.into.ensures.2 c.open_list_sound.ensures)
