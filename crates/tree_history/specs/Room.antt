-- Why rename's rows have no NoSpace: what it needs is there.
use Rattle.std.specs.Prelude.{◌≡◌, ℕ, ◌<◌}
use Rattle.tree_table.specs.Steps.{taken, free_of}
use Rattle.tree_sound.specs.Tables.{Tables}
use Rattle.tree_promises.specs.declared.Kind.{Kind}
use Rattle.tree_promises.specs.Kinds.{kind_view}
use Rattle.tree_promises.specs.Steps.{deleted}

-- once entry x is given up an entry is free, and the one that would be taken next is x itself
pub record Room (kind : Kind) (s : Tables) (x : ℕ) : Type 0 where
  pub some : 0 < free_of (kind_view kind (deleted kind s x))
  pub own : taken (kind_view kind (deleted kind s x)) ≡ x
