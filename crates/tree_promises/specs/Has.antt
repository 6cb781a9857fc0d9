-- What the rows ask of a table.
use Rattle.std.specs.Prelude.{◌≡◌, List, ℕ}
use Rattle.links.specs.Change.{walk}
use Rattle.tree_table.specs.View.{View, LiveIn, parent}

-- some live entry of the table has the key; another one than x has it
abbrev pub Has : (v : View) (key : List ℕ) → Type 0
Has v k = (y : ℕ) × LiveIn v y × (v.key y ≡ k)

abbrev pub HasOther : (v : View) (x : ℕ) (key : List ℕ) → Type 0
HasOther v x k = (y : ℕ) × LiveIn v y × (y ≡ x → ⊥) × (v.key y ≡ k)

-- directory p and the directories above it, up to the root
abbrev pub above : (v : View) (p : ℕ) → List ℕ
above v p = walk (λ y. parent (v.key y)) v.count p
