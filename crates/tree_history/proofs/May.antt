-- Where no row of a call applies, the call may go: one law for each record of specs/May.antt.
use mathlib.Core.Path.{◌≡◌}
use mathlib.Core.List.{List}
use mathlib.Core.Bool.{false}
use Prim.Native.Nat.{ℕ}
use native.Mathlib.Nat.{lt_of_not-le}
use native.Mathlib.Omega.{arith}
use Rattle.order.specs.Given.{None}
use Rattle.tree_key.specs.Key.{name_key}
use Rattle.tree_table.specs.View.{View}
use Rattle.tree_sound.specs.Tables.{Tables, dirs, files}
use Rattle.tree_promises.specs.declared.Kind.{Kind}
use Rattle.tree_promises.specs.declared.Kind.TheVariants.{Directory, File}
use Rattle.tree_promises.specs.Kinds.{kind_view}
use Rattle.tree_promises.specs.Legal.{legal}
use Rattle.tree_promises.specs.Calls.{make_tests, rename_tests, delete_tests, open_tests, close_tests}
use Rattle.tree_opens.specs.Opens.{opened}
use Rattle.tree_opens.specs.Record.{writer}
use Rattle.tree_opens.specs.declared.Want.{Want}
use Rattle.tree_history.specs.May.{MayMake, MayRename, MayDelete, MayOpen, MayClose}
use Rattle.tree_history.proofs.Stable.{live_stable, eq_stable}

-- a file is no directory
other : {P : Type 0} → File ≡ Directory → P
other e = let z : ◌≡◌ {A = ℕ} 0 1 = cc in absurd (omega arith)

pub may_make : (kind : Kind) (s : Tables) (p : ℕ) (name : List ℕ) → None (make_tests s (kind_view kind s) p name) → MayMake kind s p name
may_make kind s p name n = record { legal_name = n.0; parent = live_stable (dirs s) p n.1.0; new_key = n.1.1.0; space = n.1.1.1.0 }

pub may_rename : (kind : Kind) (s : Tables) (opens : List ℕ) (x p : ℕ) (name : List ℕ) → None (rename_tests kind s opens x p name) → MayRename kind s x p name
may_rename Directory s opens x p name n = record {
  subject = live_stable (dirs s) x n.0;
  not_root = λ _. n.1.1.0;
  parent = live_stable (dirs s) p n.1.1.1.1.0;
  not_into_itself = λ _. n.1.1.1.1.1.0;
  free_key = n.1.1.1.1.1.1.0;
}
may_rename File s opens x p name n = record {
  subject = live_stable (files s) x n.0;
  not_root = λ e. other e;
  parent = live_stable (dirs s) p n.1.1.1.0;
  not_into_itself = λ e. other e;
  free_key = n.1.1.1.1.0;
}

-- and the new name is legal
pub rename_named : (kind : Kind) (s : Tables) (opens : List ℕ) (x p : ℕ) (name : List ℕ) → None (rename_tests kind s opens x p name) → legal name ≡ false → ⊥
rename_named Directory s opens x p name n = n.1.1.1.0
rename_named File s opens x p name n = n.1.1.0

pub may_delete : (kind : Kind) (s : Tables) (opens : List ℕ) (x : ℕ) → None (delete_tests kind s opens x) → MayDelete kind s opens x
may_delete Directory s opens x n = record {
  subject = live_stable (dirs s) x n.0;
  held = n.1.0;
  alone = n.1.1.0;
  not_root = λ _. n.1.1.1.0;
  childless = λ _. n.1.1.1.1.0;
}
may_delete File s opens x n = record {
  subject = live_stable (files s) x n.0;
  held = n.1.0;
  alone = n.1.1.0;
  not_root = λ e. other e;
  childless = λ e. other e;
}

pub may_open : (v : View) (opens : List ℕ) (x : ℕ) (want : Want) → None (open_tests v opens x want) → MayOpen v opens x want
may_open v opens x want n = record {
  subject = live_stable v x n.0;
  few = lt_of_not-le n.1.0;
  single = λ e. eq_stable (writer (opened opens x)) 0 (λ k. n.1.1.0 (e, k));
}

pub may_close : (v : View) (opens : List ℕ) (x : ℕ) (want : Want) → None (close_tests v opens x want) → MayClose v opens x want
may_close v opens x want n = record { subject = live_stable v x n.0; held = n.1.0 }
