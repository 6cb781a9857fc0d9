use Rattle.fat_walk.proofs.Found.{last_in}
use Rattle.fat_walk.proofs.last_of.Goals as goal

pub returns-in-Within : goal.returns-in-Within
returns-in-Within c = search last_in
