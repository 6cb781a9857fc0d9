use Rattle.kiosk_inner.proofs.Files.{Counting}
use Rattle.kiosk_inner.proofs.count_live.Given as goal

abbrev pub invariant-loop-y : goal.invariant-loop-y
invariant-loop-y l = Counting l.file_table l.live l.y
