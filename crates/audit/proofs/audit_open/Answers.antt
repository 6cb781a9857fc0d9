use Rattle.audit.proofs.Public.{part_ready, part_long, part_clear, part_says}
use mathlib.Core.Path.{sym}
use native.Mathlib.Omega.{arith}
use lib.Seq.{length-take-le}
use Rattle.audit.proofs.audit_open.Goals as goal

pub slice_bounds-audit_sound-end-2 : goal.slice_bounds-audit_sound-end-2
slice_bounds-audit_sound-end-2 c = sym (length-take-le _ _ (omega arith))

pub audit_sound-requires : goal.audit_sound-requires
audit_sound-requires c = record { ready = search (part_ready); file_table_in_bounds = search (part_long); clear = search (part_clear) }

pub returns : goal.returns
returns c = search (part_says)
