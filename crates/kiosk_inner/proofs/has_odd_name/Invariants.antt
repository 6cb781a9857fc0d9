use Rattle.kiosk_inner.proofs.Files.{Naming}
use Rattle.kiosk_inner.proofs.has_odd_name.Given as goal

abbrev pub invariant-loop-y : goal.invariant-loop-y
invariant-loop-y l = Naming l.file_table l.y
