-- Where an entry stands in its two lists, as the code that takes it out finds it.
use Rattle.std.specs.Prelude.{◌≡◌, List, ℕ, ◌+◌, ◌*◌, ◌≤◌, length}
use Rattle.links.specs.Links.{◌∈◌}
use Rattle.links.specs.Change.{walk, before}
use Rattle.tree_table.specs.Field.{field}
use Rattle.tree_table.specs.View.{place, key_at}
use Rattle.tree_table.specs.Steps.{bucket_before}
use Rattle.tree_table.specs.Chain.{link_at, list_at, Ends}
use Rattle.tree_promises.specs.Inner.Ready.{hashed}
use Rattle.tree_step.specs.declared.Seat.{Seat}
use Rattle.tree_step.specs.declared.Child.{Child}

-- the first entry of the parent's list that entry x of the table t belongs to: at place `at` of the parent's entry in the directories d
abbrev pub head_of : List ℕ → ℕ → List ℕ → ℕ → ℕ → ℕ
head_of d at t w x = link_at d 40 at (field w t x 1)

-- entry x lies in the table, its parent's entry among the directories, and its parent's list ends and holds it
pub record InParent (d : List ℕ) (at : ℕ) (t : List ℕ) (w x : ℕ) : Type 0 where
  pub inside : x * w + w ≤ length t
  pub up_inside : field w t x 1 * 40 + 40 ≤ length d
  pub ends : Ends t w 20 (head_of d at t w x)
  pub there : x ∈ list_at t w 20 (head_of d at t w x)
  pub walked : list_at t w 20 (head_of d at t w x) ≡ walk (λ y. field w t y 6) (field w t 0 1) (head_of d at t w x)

-- where x stands in its bucket: the bucket, the entry before it, and what follows it
pub record InBucket (h t : List ℕ) (w x : ℕ) (r : Seat) : Type 0 where
  pub bucket : r.bucket ≡ place (hashed w h t) (key_at (field w t) x)
  pub before : r.before ≡ bucket_before (hashed w h t) x
  pub after : r.after ≡ field w t x 0
  -- both lie where they can be written
  pub bucket_inside : r.bucket * 4 + 4 ≤ length h
  pub before_inside : r.before * w + w ≤ length t

-- where x stands in its parent's list: the parent, the entry before it, and what follows it
pub record InList (d : List ℕ) (at : ℕ) (t : List ℕ) (w x : ℕ) (r : Child) : Type 0 where
  pub up : r.up ≡ field w t x 1
  pub before : r.before ≡ before x 0 (walk (λ y. field w t y 6) (field w t 0 1) (head_of d at t w x))
  pub after : r.after ≡ field w t x 6
  pub before_inside : r.before * w + w ≤ length t
