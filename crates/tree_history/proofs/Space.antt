-- Rename can't run out of room: so no row of it asks for an entry.
use mathlib.Core.Path.{◌≡◌, refl, ap}
use mathlib.Core.List.{List, [], ◌∷◌}
use mathlib.Core.Bool.{Bool, true, false, not, ◌&&◌, false≢true}
use Prim.Native.Nat.{ℕ, ◌+◌}
use native.Mathlib.Omega.{arith}
use lib.Dec.{eqb}
use borrow.Author.Tests.{eqb-false}
use Rattle.order.specs.First.{Row}
use Rattle.order.specs.Giving.{giving}
use Rattle.order.specs.Beside.{Beside}
use Rattle.order.specs.Answer.{number_of}
use Rattle.order.specs.Answer.{Answer}
use Rattle.order.specs.Answer.{Done, SizeMismatch, InvalidValue, WorkTooShort, NoSpace, BrokenTree}
use Rattle.tree_table.specs.View.{LiveIn}
use Rattle.tree_table.specs.Steps.{free_of}
use Rattle.tree_sound.specs.Tables.{Tables, dirs, files}
use Rattle.tree_promises.specs.declared.Kind.{Kind}
use Rattle.tree_promises.specs.declared.Kind.TheVariants.{Directory, File}
use Rattle.tree_promises.specs.Steps.{deleted}
use Rattle.tree_promises.specs.Calls.{Change, change_gives, rename_tests, rename_done}
use Rattle.tree_promises.specs.Public.{RenamePromise}
use Rattle.tree_kept.proofs.Kept.{given_dir_free, given_file_free, given_dir_next, given_file_next}
use Rattle.tree_history.specs.Whole.{Whole}
use Rattle.tree_history.specs.May.{MayRename}
use Rattle.tree_history.specs.Room.{Room}
use Rattle.tree_history.proofs.Rows.{Each, each_giving, Gate, of_opens}
use Rattle.tree_history.proofs.Good.{both_left, both_right}
use Rattle.tree_history.proofs.Sizes.{fine}

module _ (s : Tables) (w : Whole s) (x : ℕ) where
  -- given_up: an entry of sound tables that is given up is one more that can be used, in a full table too, of a directory whether or not it has children
  pub given_up_dir : LiveIn (dirs s) x → (x ≡ 1 → ⊥) → free_of (dirs (deleted Directory s x)) ≡ free_of (dirs s) + 1
  given_up_dir = given_dir_free s (fine s w) w.sound x

  pub given_up_file : LiveIn (files s) x → free_of (files (deleted File s x)) ≡ free_of (files s) + 1
  given_up_file = given_file_free s (fine s w) w.sound x

  -- rename_room: so where an entry may be renamed, one is there for it, and that one is its own
  pub rename_room : (kind : Kind) (p : ℕ) (name : List ℕ) → MayRename kind s x p name → Room kind s x
  rename_room Directory p name m = record {
    some = omega (arith, given_up_dir m.subject (m.not_root refl));
    own = given_dir_next s (fine s w) w.sound x m.subject (m.not_root refl);
  }
  rename_room File p name m = record {
    some = omega (arith, given_up_file m.subject);
    own = given_file_next s (fine s w) w.sound x m.subject;
  }

-- rows that give other answers: a test, so that rename's rows need no list of their own here
abbrev others : List (Row Answer) → Bool
others [] = true
others (r ∷ rs) = not (eqb (number_of r.gives) 6) && others rs

other : (a : Answer) → (number_of a ≡ 6 → ⊥) → a ≡ NoSpace → ⊥
other a n e = n (ap number_of e)

not_six : (n : ℕ) → not (eqb n 6) ≡ true → n ≡ 6 → ⊥
not_six n = go (eqb n 6) refl
  where
    go : (t : Bool) → eqb n 6 ≡ t → not t ≡ true → n ≡ 6 → ⊥
    go true p e = absurd (false≢true e)
    go false p e = eqb-false n 6 p

-- rename_space: no rename answers NoSpace, whatever it is lent
module _ (s : Tables) (opens work : List ℕ) (x p : ℕ) (name : List ℕ) (o : Beside Change) where
  abbrev Other : Change → Type 0
  Other c = c.answer ≡ NoSpace → ⊥

  gate : Gate Other (λ a. change_gives a s opens) s
  gate = record {
    misfit = other SizeMismatch (λ e. omega arith);
    outside = other InvalidValue (λ e. omega arith);
    short = other WorkTooShort (λ e. omega arith);
    broken = λ _. other BrokenTree (λ e. omega arith);
  }

  each : (tests : List (Row Answer)) → others tests ≡ true → Each (λ a. Other (change_gives a s opens)) tests
  each [] h = tt
  each (r ∷ rs) h = (
    λ _. other r.gives (not_six (number_of r.gives) (both_left (not (eqb (number_of r.gives) 6)) (others rs) h)),
    each rs (both_right (not (eqb (number_of r.gives) 6)) (others rs) h),
  )

  none_six : (kind : Kind) → others (rename_tests kind s opens x p name) ≡ true
  none_six Directory = refl
  none_six File = refl

  pub rename_space : (kind : Kind) → RenamePromise kind s opens work x p name o → o.given.answer ≡ NoSpace → ⊥
  rename_space kind =
      of_opens Other (λ a. change_gives a s opens) s gate work (giving (λ a. change_gives a s opens) (rename_tests kind s opens x p name))
      (rename_done kind s opens x p name) o
      (each_giving Other (λ a. change_gives a s opens) (rename_tests kind s opens x p name) (each (rename_tests kind s opens x p name) (none_six kind)))
      (λ _ _. other Done (λ e. omega arith)) kind opens
