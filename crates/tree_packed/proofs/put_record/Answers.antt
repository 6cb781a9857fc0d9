use Rattle.tree_packed.proofs.Opens.{put_kept, put_lost}
use Rattle.tree_packed.proofs.put_record.Goals as goal

pub returns-in-Some : goal.returns-in-Some
returns-in-Some c = search (put_kept)

pub returns-in_default : goal.returns-in_default
returns-in_default c = search (put_lost)
