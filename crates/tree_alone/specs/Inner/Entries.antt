-- What the test asks of one entry by itself, once its table's buckets were gone along.
use Rattle.std.specs.Prelude.{◌≡◌, List, ◌⊎◌, Bool, false, ℕ, ◌+◌, ◌%◌}
use Rattle.links.specs.Links.{◌∈◌}
use Rattle.tree_key.specs.Hash.{hash_of}
use Rattle.tree_table.specs.Field.{start, collision_field, field}
use Rattle.tree_table.specs.View.{key_at}
use Rattle.tree_table.specs.Chain.{list_at}
use Rattle.tree_marks.specs.Inner.Marks.{gone}
use Rattle.tree_apart.specs.Inner.Apart.{Apart, far}

-- entry y, by its mark: removed; or met in the bucket of its own hash, counted from 1, and, unless the bucket is long, with no equal key behind it
abbrev pub Fits : List ℕ → ℕ → ℕ → Bool → ℕ → ℕ → Type 0
Fits t w buckets long y mark = (mark ≡ gone) ⊎ ((mark ≡ hash_of (key_at (field w t) y) % buckets + 1) × (long ≡ false → Apart t w y))

-- every entry of the list from `first` on, by one mark
abbrev pub AllFit : List ℕ → ℕ → ℕ → ℕ → ℕ → Type 0
AllFit t w buckets first mark = (y : ℕ) → y ∈ list_at t w (start w collision_field) first → Fits t w buckets (far t w first) y mark
