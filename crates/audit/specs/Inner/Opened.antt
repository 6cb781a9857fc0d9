-- The audit once the gate is open.
use Rattle.std.specs.Prelude.{◌≡◌, List, ℕ, ◌+◌, ◌≤◌, length, take, replicate}
use Rattle.fat_node.specs.Entry.{Bytes}
use Rattle.fat_node.specs.Sizes.{blocks}
use Rattle.tree_sound.specs.Sizes.{rooms}
use Rattle.audit_inner.specs.Volume.{subject}
use Rattle.audit_inner.specs.Calls.{Audit, AuditSound}
use Rattle.audit_inner.specs.Inner.Marks.{Ready}

-- what it asks for: sound tables, and a work list whose named places are 0
pub record OpenVolume (t : Bytes) (l : ℕ) (d f : Bytes) (work : List ℕ) : Type 0 where
  pub ready : Ready (blocks t) t l f
  pub zeros : take (blocks t + rooms d f) work ≡ replicate (blocks t + rooms d f) 0
  pub long : blocks t + rooms d f ≤ length work

-- what it says: the audit's own rows decide, and the work list is as it was
pub record OpenSays (t : Bytes) (l : ℕ) (f : Bytes) (work list work' : List ℕ) (o : Audit) : Type 0 where
  pub says : AuditSound (subject (blocks t) t l f) list o
  pub same : work' ≡ work
