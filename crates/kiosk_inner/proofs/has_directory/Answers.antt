use Rattle.kiosk_inner.proofs.Dirs.{directory_decided}
use Rattle.kiosk_inner.proofs.has_directory.Goals as goal

pub returns : goal.returns
returns c = search (directory_decided)
