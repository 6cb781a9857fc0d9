-- The ends of rename: what its steps ask for by the tests that passed, and what it gives. r is the record that was found.
use mathlib.Core.Path.{◌≡◌, subst}
use mathlib.Core.List.{List, []}
use Prim.Native.Nat.{ℕ, ◌+◌, ◌*◌, ◌/◌, ◌≤◌, ◌<◌}
use lib.ListN.{length}
use Rattle.order.specs.Given.{Given, None}
use Rattle.order.specs.Answer.{Answer, Done}
use Rattle.tree_key.specs.Key.{key_words, name_key}
use Rattle.tree_key.specs.declared.SaveExtKey.{SaveExtKey}
use Rattle.tree_sound.specs.Tables.{Tables, tables}
use Rattle.tree_packed.specs.Opens.{Opens, opens, record_of}
use Rattle.tree_promises.specs.declared.Kind.TheVariants.{Directory, File}
use Rattle.tree_promises.specs.Steps.{unlinked_from, linked_to}
use Rattle.tree_promises.specs.Calls.{rename_tests_of}
use Rattle.tree_promises.specs.Packed.{gives, refuse, Inside, rename_tests, rename_done}
use Rattle.tree_promises.specs.Inner.Ready.{ReadyOpens, LiveAt, Single}
use Rattle.tree_step.specs.Inner.Seat.{InParent}
use Rattle.tree_look.proofs.Given.{given_first}
use Rattle.tree_judge.proofs.Rows.{call_done}
use Rattle.tree_change.proofs.Changes.{rename_file_asks, link_file_asks, renamed_file, rename_dir_asks, link_dir_asks, renamed_dir}

-- what unlink left of the tables, and what link then left
abbrev FileCut : (d h f d1 h1 f1 : List ℕ) (x : ℕ) → Type 0
FileCut d h f d1 h1 f1 x =
    (d1 ≡ (unlinked_from File (tables [] d h f) x).dir_table) × (h1 ≡ (unlinked_from File (tables [] d h f) x).file_hash) × (f1 ≡ (unlinked_from File (tables [] d h f) x).file_table)

abbrev DirCut : (h d h1 d1 : List ℕ) (x : ℕ) → Type 0
DirCut h d h1 d1 x = (h1 ≡ (unlinked_from Directory (tables h d [] []) x).dir_hash) × (d1 ≡ (unlinked_from Directory (tables h d [] []) x).dir_table)

module _ (dh d h f l : List ℕ) (k r x p : ℕ) (name : List ℕ) where
  abbrev here : Tables
  here = tables dh d h f

  abbrev o : Opens
  o = opens k l

  pub rename_file_may : ReadyOpens (tables dh d h f) (opens k l) → None (rename_tests_of File (tables dh d h f) r x p name) → Single h f 48 × LiveAt 48 f x × InParent d 28 f 48 x
  rename_file_may R go = rename_file_asks here R.ready r x p name go

  pub link_file_may : ReadyOpens (tables dh d h f) (opens k l) → None (rename_tests_of File (tables dh d h f) r x p name) → {d1 h1 f1 : List ℕ} → FileCut d h f d1 h1 f1 x
      → (x * 48 + 48 ≤ length f1) × (p * 40 + 40 ≤ length d1) × (0 < length h1 / 4)
  link_file_may R go u = link_file_asks here R.ready r x p name go u.0 u.1 u.2

  module _ (er : r ≡ record_of (opens k l) x) where
    pub rename_file_no : (a : Answer) → Given (rename_tests_of File (tables dh d h f) r x p name) a
        → Inside (tables dh d h f) (opens k l) (rename_tests File (tables dh d h f) (opens k l) x p name) (rename_done File (tables dh d h f) (opens k l) x p name) (gives a 0 (tables dh d h f) (opens k l))
    rename_file_no a g =
        given_first (refuse here o) (rename_done File here o x p name) (rename_tests File here o x p name) a (subst (λ z. Given (rename_tests_of File here z x p name) a) er g)

    pub rename_file_done : None (rename_tests_of File (tables dh d h f) r x p name) → (key : SaveExtKey) → key_words key ≡ name_key p name → (d1 h1 f1 d2 h2 f2 : List ℕ) → FileCut d h f d1 h1 f1 x
        → ((n : List ℕ) → key_words key ≡ name_key p n → (d2 ≡ (linked_to File (tables [] d1 h1 f1) x p n).dir_table)
        × (h2 ≡ (linked_to File (tables [] d1 h1 f1) x p n).file_hash) × (f2 ≡ (linked_to File (tables [] d1 h1 f1) x p n).file_table))
        → Inside (tables dh d h f) (opens k l) (rename_tests File (tables dh d h f) (opens k l) x p name) (rename_done File (tables dh d h f) (opens k l) x p name) (gives Done 0 (tables dh d2 h2 f2) (opens k l))
    rename_file_done go key ek d1 h1 f1 d2 h2 f2 u v =
        call_done (refuse here o) (rename_done File here o x p name) (gives Done 0 (tables dh d2 h2 f2) o) (rename_tests File here o x p name)
        (subst (λ z. None (rename_tests_of File here z x p name)) er go)
        (renamed_file dh d h f d1 h1 f1 d2 h2 f2 o x p name u.0 u.1 u.2 (v name ek).0 (v name ek).1 (v name ek).2)

  pub rename_dir_may : ReadyOpens (tables dh d h f) (opens k l) → None (rename_tests_of Directory (tables dh d h f) r x p name) → Single dh d 40 × LiveAt 40 d x × InParent d 24 d 40 x
  rename_dir_may R go = rename_dir_asks here R.ready r x p name go

  pub link_dir_may : ReadyOpens (tables dh d h f) (opens k l) → None (rename_tests_of Directory (tables dh d h f) r x p name) → {h1 d1 : List ℕ} → DirCut dh d h1 d1 x
      → (x * 40 + 40 ≤ length d1) × (p * 40 + 40 ≤ length d1) × (0 < length h1 / 4)
  link_dir_may R go u = link_dir_asks here R.ready r x p name go u.0 u.1

  module _ (er : r ≡ record_of (opens k l) x) where
    pub rename_dir_no : (a : Answer) → Given (rename_tests_of Directory (tables dh d h f) r x p name) a
        → Inside (tables dh d h f) (opens k l) (rename_tests Directory (tables dh d h f) (opens k l) x p name) (rename_done Directory (tables dh d h f) (opens k l) x p name) (gives a 0 (tables dh d h f) (opens k l))
    rename_dir_no a g =
        given_first (refuse here o) (rename_done Directory here o x p name) (rename_tests Directory here o x p name) a (subst (λ z. Given (rename_tests_of Directory here z x p name) a) er g)

    pub rename_dir_done : None (rename_tests_of Directory (tables dh d h f) r x p name) → (key : SaveExtKey) → key_words key ≡ name_key p name → (h1 d1 h2 d2 : List ℕ) → DirCut dh d h1 d1 x
        → ((n : List ℕ) → key_words key ≡ name_key p n → (h2 ≡ (linked_to Directory (tables h1 d1 [] []) x p n).dir_hash) × (d2 ≡ (linked_to Directory (tables h1 d1 [] []) x p n).dir_table))
        → Inside (tables dh d h f) (opens k l) (rename_tests Directory (tables dh d h f) (opens k l) x p name) (rename_done Directory (tables dh d h f) (opens k l) x p name) (gives Done 0 (tables h2 d2 h f) (opens k l))
    rename_dir_done go key ek h1 d1 h2 d2 u v =
        call_done (refuse here o) (rename_done Directory here o x p name) (gives Done 0 (tables h2 d2 h f) o) (rename_tests Directory here o x p name)
        (subst (λ z. None (rename_tests_of Directory here z x p name)) er go)
        (renamed_dir dh d h f h1 d1 h2 d2 o x p name u.0 u.1 (v name ek).0 (v name ek).1)
