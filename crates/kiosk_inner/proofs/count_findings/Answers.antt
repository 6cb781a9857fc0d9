use Rattle.kiosk_inner.proofs.Rules.{swept}
use Rattle.fat_walk.proofs.Found.{are_bytes}
use Rattle.kiosk_inner.proofs.count_findings.Goals as goal

pub returns : goal.returns
returns c = search (swept, are_bytes)
