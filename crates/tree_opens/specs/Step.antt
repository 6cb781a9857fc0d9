-- What open and close do to the record r of an inode, and the rows that are about the record alone. Opening says which it wants, a reader's open or the
-- writer's; closing says which it gives back.
use Rattle.std.specs.Prelude.{◌≡◌, List, [], ◌∷◌, Result, Ok, Err, ℕ, ◌+◌, ◌-◌, ◌≤◌}
use Rattle.order.specs.First.{Row, row}
use Rattle.order.specs.Given.{Given, None}
use Rattle.order.specs.Answer.{Answer, Busy, NotOpen, TooManyOpens}
use Rattle.order.specs.declared.Refusal.{Refusal}
use Rattle.tree_opens.specs.Record.{readers, writer, total, writer_alone}
use Rattle.tree_opens.specs.declared.Want.{Want}
use Rattle.tree_opens.specs.declared.Want.TheVariants.{Reader, Writer}

-- how many opens of the kind are held
abbrev pub holds : (r : ℕ) (want : Want) → ℕ
holds r Reader = readers r
holds r Writer = writer r

-- what one open of the kind counts in a record
abbrev pub weight : (want : Want) → ℕ
weight Reader = 1
weight Writer = writer_alone

-- the record with one open of the kind more, and with one less
abbrev pub more : (r : ℕ) (want : Want) → ℕ
more r want = r + weight want

abbrev pub less : (r : ℕ) (want : Want) → ℕ
less r want = r - weight want

-- one more: 65,535 readers and writer together are the most; then, a second writer is not let in
abbrev pub more_tests : (r : ℕ) (want : Want) → List (Row Answer)
more_tests r want =
    row (65535 ≤ total r) TooManyOpens
    ∷ row ((want ≡ Writer) × (writer r ≡ 0 → ⊥)) Busy
    ∷ []

-- one less: what is given back is held
abbrev pub less_tests : (r : ℕ) (want : Want) → List (Row Answer)
less_tests r want = row (holds r want ≡ 0) NotOpen ∷ []

-- what the code decides: no row applies and this is the record to be, or the first row that applies gives the answer
abbrev pub SteppedBy : (tests : List (Row Answer)) (to : ℕ) → Result ℕ Refusal → Type 0
SteppedBy tests to (Ok r) = None tests × (r ≡ to)
SteppedBy tests to (Err why) = Given tests (Err why)
