-- One answer for the export of the audit, and for its inner export.
use mathlib.Core.Path.{refl}
use mathlib.Core.List.{List}
use Prim.Native.Nat.{ℕ}
use Rattle.order.specs.Beside.{beside}
use Rattle.order.specs.Answer.{Answer}
use Rattle.fat_node.specs.Entry.{Bytes}
use Rattle.tree_sound.specs.Tables.{Tables}
use Rattle.order.proofs.One.{one}
use Rattle.audit_inner.specs.Calls.{Audit, audit_gives, audit_rows, audit_done}
use Rattle.audit_inner.specs.Volume.{subject}
use Rattle.audit_inner.specs.Inner.Marks.{AuditSays}
use Rattle.audit.specs.Promise.{AuditPromise}
use Rattle.audit.proofs.Unique.{one_answer}
use Rattle.mukthiban.proofs.One.{OneLocated, one_located, one_located_beside}

pub export_audit : (t : Bytes) (d l : ℕ) (s : Tables) (work list : List ℕ)
    → OneLocated {X = (ℕ × List ℕ) × List ℕ} (λ a x. beside (audit_gives a x.0.0 x.0.1) x.1) (AuditPromise t d l s work list)
export_audit t d l s work list =
    one_located_beside (λ (a : Answer) (x : ℕ × List ℕ). audit_gives a x.0 x.1) (λ g. g.answer) (λ g. (g.count, g.list)) (AuditPromise t d l s work list)
    (λ a x. refl) (λ a x. refl) (one_answer t d l s work list)

pub inner_audit : (n : ℕ) (t : Bytes) (l : ℕ) (f : Bytes) (work list work' : List ℕ) → OneLocated {X = ℕ × List ℕ} (λ a x. audit_gives a x.0 x.1) (AuditSays n t l f work list work')
inner_audit n t l f work list work' =
    one_located (λ (a : Answer) (x : ℕ × List ℕ). audit_gives a x.0 x.1) (λ g. g.answer) (λ g. (g.count, g.list)) (AuditSays n t l f work list work') (λ a x. refl) (λ a x. refl)
    (λ (o o' : Audit) p q. one (audit_rows (subject n t l f) list) (audit_done (subject n t l f) list) o o' p.says q.says)
