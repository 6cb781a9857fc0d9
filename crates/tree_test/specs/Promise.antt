-- What the test of the entry tables promises, and what the gate of a tree call tells.
use Rattle.std.specs.Prelude.{◌≡◌, List, Ok, Err, ℕ}
use Rattle.order.specs.First.{Row, First}
use Rattle.order.specs.Gate.{cleared, Refusal, refusal}
use Rattle.order.specs.Given.{Given, None}
use Rattle.order.specs.Answer.{Answer, Done}
use Rattle.tree_sound.specs.Tables.{Tables, rooms_in, SoundIn}
use Rattle.tree_packed.specs.Opens.{Opens}
use Rattle.tree_test.specs.Gate.{tree_gate, packed_gate}

-- the test gives its answer, and the work list afterwards
abbrev pub tested : Answer → List ℕ → Answer × List ℕ
tested answer work = (answer, work)

-- Done: the tables are sound
abbrev pub test_done : (s : Tables) (work : List ℕ) → Answer × List ℕ
test_done s work = tested Done (cleared (rooms_in s) work)

-- the whole promise of the test, on all inputs
abbrev pub TestPromise : (s : Tables) (work : List ℕ) → Answer × List ℕ → Type 0
TestPromise s work o = First (tree_gate tested s work) (test_done s work) o

-- a gate is open: no row applies, the tables are sound, and the work list is cleared, k places of it; or the first row that applies refuses
abbrev pub GateOf : List (Row Refusal) → Type 0 → ℕ → List ℕ → List ℕ → Answer → Type 0
GateOf rows sound k work work' (Ok done) = None rows × sound × (work' ≡ cleared k work)
GateOf rows sound k work work' (Err why) = Given rows (refusal (Err why) work')

unfoldable pub TreeGateOf : (s : Tables) (work work' : List ℕ) → Answer → Type 0
TreeGateOf s work work' g = GateOf (tree_gate refusal s work) (SoundIn s) (rooms_in s) work work' g

unfoldable pub PackedGateOf : (s : Tables) (o : Opens) (work work' : List ℕ) → Answer → Type 0
PackedGateOf s o work work' g = GateOf (packed_gate refusal s o work) (SoundIn s) (rooms_in s) work work' g
