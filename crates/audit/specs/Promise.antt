-- What the audit promises, on all inputs.
use Rattle.std.specs.Prelude.{List, ℕ, length}
use Rattle.order.specs.First.{Row}
use Rattle.order.specs.Gate.{cleared}
use Rattle.order.specs.Beside.{Promised}
pub use Rattle.order.specs.Beside.{Beside, beside}
use Rattle.order.specs.Answer.{Answer}
use Rattle.fat_node.specs.Entry.{Bytes}
use Rattle.fat_node.specs.Sizes.{blocks}
use Rattle.tree_sound.specs.Tables.{Tables}
use Rattle.volume_gate.specs.Gate.{places, volume_gate}
use Rattle.audit_inner.specs.Volume.{subject}
use Rattle.audit_inner.specs.Calls.{Audit, audit_gives, audit_rows, audit_done}

-- the whole promise of a call on both layers: refuse a is what the call gives with the answer a, own its own rows, done what it gives where none applies
unfoldable pub VolumePromise : {A : Type 0} (refuse : Answer → A) (t : Bytes) (d l : ℕ) (s : Tables) (work : List ℕ) (own : List (Row A)) (done : A) (o : Beside A) → Type 0
VolumePromise refuse t d l s work own done o = Promised (volume_gate (λ a w. beside (refuse a) w) t d l s work) (cleared (places t s) work) own done o

-- the promise of the audit: t is the block table, d the length of the data, l the block length, s the four entry tables
abbrev pub AuditPromise : (t : Bytes) (d l : ℕ) (s : Tables) (work list : List ℕ) → Beside Audit → Type 0
AuditPromise t d l s work list =
    VolumePromise (λ a. audit_gives a 0 list) t d l s work (audit_rows (subject (blocks t) t l s.file_table) list) (audit_done (subject (blocks t) t l s.file_table) list)
