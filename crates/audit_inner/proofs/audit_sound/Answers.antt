use Rattle.audit_inner.proofs.Sweeping.{audit_says, audit_clear}
use Rattle.fat_walk.proofs.Found.{are_bytes}
use borrow.Author.Rules.{rules}
use Rattle.audit_inner.proofs.audit_sound.Goals as goal

pub returns : goal.returns
returns c = record { says = search (audit_says, are_bytes); clear = search (audit_clear, rules) }
