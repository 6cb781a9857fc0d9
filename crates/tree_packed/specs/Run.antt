-- One record for each inode, and the runs of puts that lead to it.
use Rattle.std.specs.Prelude.{◌≡◌, List, [], ◌∷◌, ℕ, Some, ◌<◌}
use Rattle.links.specs.Change.{upd}
use Rattle.tree_packed.specs.Put.{put_of, gives}

-- a put: the inode, and its record from then on
pub record Change : Type 0 where
  pub inode : ℕ
  pub to : ℕ

abbrev pub change : ℕ → ℕ → Change
change x r = record { inode = x; to = r }

-- the record of each inode after the changes, the last of which stands first; with none, nothing is open
abbrev pub dense : List Change → ℕ → ℕ
dense [] = λ x. 0
dense (c ∷ cs) = upd (dense cs) c.inode c.to

-- a run of puts from none open, none of which found the list full: the changes, the number of records and the list after them
pub data Run (start : List ℕ) : List Change → ℕ → List ℕ → Type 0 where
  none : Run start [] 0 start
  put : {cs : List Change} {k m : ℕ} {l l' : List ℕ} (x r : ℕ) → 0 < x → Run start cs k l → put_of k l x r ≡ gives (Some m) l'
      → Run start (change x r ∷ cs) m l'
