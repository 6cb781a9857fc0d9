-- What the call promises that tells whether the entry tables can be an honest writer's.
use Rattle.std.specs.Prelude.{◌≡◌, Result, Ok, Err, Option, Some, None, List, [], ◌∷◌, ◌++◌, ℕ, zero, suc, ◌-◌}
use Rattle.order.specs.First.{Row, row}
use Rattle.order.specs.Beside.{Beside}
use Rattle.order.specs.Answer.{Answer}
use Rattle.order.specs.Answer.{Done}
use Rattle.order.specs.declared.Refusal.{Refusal}
use Rattle.tree_table.specs.View.{View}
use Rattle.tree_sound.specs.Tables.{Tables, dirs, files}
use Rattle.tree_promises.specs.declared.Kind.{Kind}
use Rattle.tree_promises.specs.declared.Kind.TheVariants.{Directory, File}
use Rattle.tree_promises.specs.Promise.{TreePromise}
use Rattle.tree_aged.specs.declared.Entry.{Entry}
use Rattle.tree_aged.specs.Age.{LostIn}

-- the answer, a table (1 the directories, 2 the files, 0 none) and an entry of it
pub record Age : Type 0 where
  pub answer : Answer
  pub table : ℕ
  pub inode : ℕ

abbrev pub age_gives : (answer : Answer) (table inode : ℕ) → Age
age_gives answer table inode = record { answer = answer; table = table; inode = inode }

-- the number of a table
abbrev pub table_number : Kind → ℕ
table_number Directory = 1
table_number File = 2

-- what is told, with an answer: no table, or an entry of one
abbrev pub told : (answer : Answer) → Option Entry → Age
told answer None = age_gives answer 0 0
told answer (Some x) = age_gives answer (table_number x.kind) x.inode

-- what the call gives; with a refusal no table is told
abbrev pub aged_says : Result (Option Entry) Refusal → Age
aged_says (Ok x) = told Done x
aged_says (Err why) = told (Err why) None

-- a row for each of k inodes from x on, in their order: it is one of those that `lost` speaks of
abbrev pub lost_from : (k : ℕ) (lost : ℕ → Type 0) (table x : ℕ) → List (Row Age)
lost_from zero lost table x = []
lost_from (suc k) lost table x = row (lost x) (age_gives Done table x) ∷ lost_from k lost table (suc x)

-- so the first that applies names the lowest entry from which links lead into a circle
abbrev pub lost_rows : (v : View) (table : ℕ) → List (Row Age)
lost_rows v table = lost_from (v.count - 1) (LostIn v) table 1

-- what is told of sound tables: the root names another entry of its bucket; else the lowest directory from which links lead into a circle; else the
-- lowest such file
abbrev pub aged_rows : (s : Tables) → List (Row Age)
aged_rows s = row ((dirs s).coll 1 ≡ 0 → ⊥) (age_gives Done 1 1) ∷ (lost_rows (dirs s) 1 ++ lost_rows (files s) 2)

-- the whole promise of the call; no table is told where none of these rows applies
abbrev pub AgedPromise : (s : Tables) (work : List ℕ) → Beside Age → Type 0
AgedPromise s work = TreePromise (λ a. age_gives a 0 0) s work (aged_rows s) (age_gives Done 0 0)
