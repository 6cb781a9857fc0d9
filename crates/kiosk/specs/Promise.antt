-- What the kiosk's test promises, on all inputs.
use Rattle.std.specs.Prelude.{◌≡◌, List, [], ◌∷◌, ℕ, length, replicate}
use Rattle.order.specs.First.{Row, row, First}
use Rattle.order.specs.Answer.{Answer}
use Rattle.order.specs.Answer.{Done}
use Rattle.fat_node.specs.Entry.{Bytes}
use Rattle.fat_node.specs.Sizes.{blocks}
use Rattle.tree_sound.specs.Tables.{Tables}
use Rattle.audit.specs.Promise.{VolumePromise}
pub use Rattle.audit.specs.Promise.{Beside, beside}
use Rattle.kiosk_inner.specs.Profile.{profile_rules}

-- the answer, and the first rule of the profile that is broken
pub record Profile : Type 0 where
  pub answer : Answer
  pub broken : ℕ

-- the same, by its parts
abbrev pub profile_gives : (answer : Answer) (broken : ℕ) → Profile
profile_gives answer broken = record { answer = answer; broken = broken }

-- rules as rows of the call: a broken rule is no refusal
abbrev pub ruled : List (Row ℕ) → List (Row Profile)
ruled [] = []
ruled (r ∷ rs) = row r.when (profile_gives Done r.gives) ∷ ruled rs

-- the rules of the profile, in their order
abbrev pub profile_rows : (n : ℕ) (t : Bytes) (l : ℕ) (d f : Bytes) → List (Row Profile)
profile_rows n t l d f = ruled (profile_rules n t l d f)

-- the promise of the test: t is the block table, d the length of the data, l the block length, s the four entry tables. In the profile: Done with 0
abbrev pub TestPromise : (t : Bytes) (d l : ℕ) (s : Tables) (work : List ℕ) → Beside Profile → Type 0
TestPromise t d l s work =
    VolumePromise (λ a. profile_gives a 0) t d l s work (profile_rows (blocks t) t l s.dir_table s.file_table) (profile_gives Done 0)

-- what it says to a side that has tested its tables once, of n blocks: the rules decide, and the work list is cleared
pub record TestSays (n : ℕ) (t : Bytes) (l : ℕ) (d f : Bytes) (work work' : List ℕ) (o : Profile) : Type 0 where
  pub says : First (profile_rows n t l d f) (profile_gives Done 0) o
  pub clear : work' ≡ replicate (length work) 0
