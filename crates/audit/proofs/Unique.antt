-- The audit's promise and its input leave one answer.
use mathlib.Core.Path.{◌≡◌}
use mathlib.Core.List.{List, ◌++◌}
use Prim.Native.Nat.{ℕ}
use Rattle.order.specs.Gate.{cleared}
use Rattle.order.specs.Beside.{Beside, beside, within}
use Rattle.order.proofs.One.{one}
use Rattle.fat_node.specs.Entry.{Bytes}
use Rattle.fat_node.specs.Sizes.{blocks}
use Rattle.tree_sound.specs.Tables.{Tables}
use Rattle.volume_gate.specs.Gate.{places, volume_gate}
use Rattle.audit_inner.specs.Volume.{subject}
use Rattle.audit_inner.specs.Calls.{Audit, audit_gives, audit_rows, audit_done}
use Rattle.audit.specs.Promise.{VolumePromise, AuditPromise}

pub one_answer : (t : Bytes) (d l : ℕ) (s : Tables) (work list : List ℕ) (o o' : Beside Audit)
    → AuditPromise t d l s work list o → AuditPromise t d l s work list o' → o ≡ o'
unfolding VolumePromise
one_answer t d l s work list o o' p q =
    let S = subject (blocks t) t l s.file_table in
    one (volume_gate (λ a w. beside (audit_gives a 0 list) w) t d l s work ++ within (cleared (places t s) work) (audit_rows S list))
    (beside (audit_done S list) (cleared (places t s) work)) o o' p q
