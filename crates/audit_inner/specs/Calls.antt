-- What the audit gives on sound tables.
use Rattle.std.specs.Prelude.{List, [], ◌∷◌, ◌++◌, ℕ, ◌*◌, ◌<◌, ◌≤◌, length, drop}
use Rattle.order.specs.First.{Row, row, First}
use Rattle.order.specs.Giving.{giving}
use Rattle.order.specs.Answer.{Answer}
use Rattle.order.specs.Answer.{Done, ListTooShort}
use Rattle.audit_inner.specs.Findings.{Subject, findings, flat}

-- the answer, the number of findings, the lent list afterwards
pub record Audit : Type 0 where
  pub answer : Answer
  pub count : ℕ
  pub list : List ℕ

-- the same, by its parts
abbrev pub audit_gives : (answer : Answer) (count : ℕ) (list : List ℕ) → Audit
audit_gives answer count list = record { answer = answer; count = count; list = list }

-- its test, for a list of room places: it can't hold two places a finding
abbrev pub audit_tests : (S : Subject) (room : ℕ) → List (Row Answer)
audit_tests S room = row (room < 2 * length (findings S)) ListTooShort ∷ []

-- it does not apply
pub record MayAudit (S : Subject) (room : ℕ) : Type 0 where
  pub enough : 2 * length (findings S) ≤ room

-- its refusal: no count, and the list as it was
abbrev pub audit_rows : (S : Subject) (list : List ℕ) → List (Row Audit)
audit_rows S list = giving (λ a. audit_gives a 0 list) (audit_tests S (length list))

-- Done: the findings from the list's first place on; later places stay
abbrev pub audit_done : (S : Subject) (list : List ℕ) → Audit
audit_done S list = audit_gives Done (length (findings S)) (flat (findings S) ++ drop (2 * length (findings S)) list)

-- what the audit gives on sound tables
abbrev pub AuditSound : (S : Subject) (list : List ℕ) (o : Audit) → Type 0
AuditSound S list o = First (audit_rows S list) (audit_done S list) o
