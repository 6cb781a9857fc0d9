-- What the rows of a call let pass, by name: what holds where none of them applies.
use Rattle.std.specs.Prelude.{◌≡◌, List, ◌⊎◌, false, ℕ, ◌<◌}
use Rattle.links.specs.Links.{◌∈◌}
use Rattle.tree_key.specs.Key.{name_key}
use Rattle.tree_table.specs.View.{View, LiveIn}
use Rattle.tree_table.specs.Steps.{free_of}
use Rattle.tree_sound.specs.Tables.{Tables, dirs, files}
use Rattle.tree_opens.specs.Opens.{opened}
use Rattle.tree_opens.specs.Record.{readers, writer, total}
use Rattle.tree_opens.specs.Step.{holds}
use Rattle.tree_opens.specs.declared.Want.{Want}
use Rattle.tree_opens.specs.declared.Want.TheVariants.{Writer}
use Rattle.tree_promises.specs.declared.Kind.{Kind}
use Rattle.tree_promises.specs.declared.Kind.TheVariants.{Directory}
use Rattle.tree_promises.specs.Legal.{legal}
use Rattle.tree_promises.specs.Has.{Has, HasOther, above}
use Rattle.tree_promises.specs.Kinds.{kind_view}

-- an entry may be made in directory p with the name
pub record MayMake (kind : Kind) (s : Tables) (p : ℕ) (name : List ℕ) : Type 0 where
  pub legal_name : legal name ≡ false → ⊥
  pub parent : LiveIn (dirs s) p
  pub new_key : Has (kind_view kind s) (name_key p name) → ⊥
  pub space : free_of (kind_view kind s) ≡ 0 → ⊥

-- entry x may get the parent p and the name: the rows of rename that ask for the tables alone do not apply. Nothing is said of the name that it has
pub record MayRename (kind : Kind) (s : Tables) (x p : ℕ) (name : List ℕ) : Type 0 where
  pub subject : LiveIn (kind_view kind s) x
  pub not_root : kind ≡ Directory → x ≡ 1 → ⊥
  pub parent : LiveIn (dirs s) p
  -- IntoItself: directory x is not p, and not above it
  pub not_into_itself : kind ≡ Directory → x ∈ above (dirs s) p → ⊥
  pub free_key : HasOther (kind_view kind s) x (name_key p name) → ⊥

-- entry x may be deleted
pub record MayDelete (kind : Kind) (s : Tables) (opens : List ℕ) (x : ℕ) : Type 0 where
  pub subject : LiveIn (kind_view kind s) x
  pub held : writer (opened opens x) ≡ 0 → ⊥
  pub alone : 0 < readers (opened opens x) → ⊥
  pub not_root : kind ≡ Directory → x ≡ 1 → ⊥
  pub childless : kind ≡ Directory → (0 < (dirs s).head x) ⊎ (0 < (files s).head x) → ⊥

-- entry x of the table v may be opened once more by a reader or by the writer, or closed once
pub record MayOpen (v : View) (opens : List ℕ) (x : ℕ) (want : Want) : Type 0 where
  pub subject : LiveIn v x
  pub few : total (opened opens x) < 65535
  pub single : want ≡ Writer → writer (opened opens x) ≡ 0

pub record MayClose (v : View) (opens : List ℕ) (x : ℕ) (want : Want) : Type 0 where
  pub subject : LiveIn v x
  pub held : holds (opened opens x) want ≡ 0 → ⊥
