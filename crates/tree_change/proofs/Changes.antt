-- The calls that change sound tables, by the places of their code.
use mathlib.Core.Path.{◌≡◌, refl, sym, ap, ap₂, ◌∙◌, subst}
use mathlib.Core.List.{List, []}
use mathlib.Core.Logic.{◌≢◌}
use Prim.Native.Nat.{ℕ, ◌+◌, ◌*◌, ◌/◌, ◌≤◌, ◌<◌}
use native.Mathlib.Omega.{arith}
use lib.ListN.{length}
use Rattle.order.specs.Given.{Given, None}
use Rattle.order.specs.Answer.{Answer, Done}
use Rattle.links.specs.Links.{◌∈◌, Holds}
use Rattle.links.proofs.Laws.{walked, fewer}
use Rattle.tree_table.specs.Field.{field, wrote}
use Rattle.tree_table.specs.View.{LiveIn}
use Rattle.tree_table.specs.Steps.{give_writes}
use Rattle.tree_table.specs.Chain.{list_at}
use Rattle.tree_table.proofs.Field.{length_wrote}
use Rattle.tree_table.proofs.Table.{not_zero}
use Rattle.tree_sound.specs.Sound.{up}
use Rattle.tree_packed.specs.Opens.{Opens, opens, record_of, with_record}
use Rattle.tree_sound.specs.Tables.{Tables, tables, dirs, files}
use Rattle.tree_promises.specs.declared.Kind.TheVariants.{Directory, File}
use Rattle.tree_promises.specs.Steps.{unlinked_from, linked_to}
use Rattle.tree_promises.specs.Calls.{alone_tests_of, delete_tests_of, rename_tests_of}
use Rattle.tree_promises.specs.Packed.{gives, refuse, Inside, delete_tests, delete_done, rename_done}
use Rattle.tree_promises.specs.Inner.Ready.{Ready, ReadyOpens, LiveAt, Single, alone}
use Rattle.tree_step.specs.Inner.Seat.{InParent}
use Rattle.tree_look.proofs.Lists.{inside, all_fit, child_ends, child_list, dir_single, file_single}
use Rattle.tree_look.proofs.Given.{given_first}
use Rattle.tree_judge.proofs.Judges.{live_sure}
use Rattle.tree_judge.proofs.Rows.{call_done}

-- ---- where a live entry stands in its parent's list

module _ (s : Tables) (R : Ready s) (x : ℕ) where
  -- a list of live entries is what a walk of the code finds
  list_holds : (h t : List ℕ) (w : ℕ) (S : Single h t w) (first : ℕ) (P : ℕ → Type 0) (H : Holds (λ y. field w t y 6) first (λ y. LiveAt w t y × P y)) → list_at t w 20 first ≡ H.0
  list_holds h t w S first P H =
      child_list h t w S first P H
      ∙ walked (λ y. field w t y 6) (field w t 0 1) first H.0 H.1
      (let q : length H.0 < field w t 0 1 = fewer (λ y. field w t y 6) (field w t 0 1) first H.0 S.table.count_one H.1 (λ y m. ((H.2 y).0 m).0.1) in omega arith)

  module _ (l : LiveIn (dirs s) x) (n : x ≢ 1) where
    dir_up : LiveIn (dirs s) (field 40 s.dir_table x 1)
    dir_up = R.sound.dirs.below.parents x l n

    pub dir_listed : InParent s.dir_table 24 s.dir_table 40 x
    unfolding field
    dir_listed =
        let H = R.sound.dirs.below.lists (field 40 s.dir_table x 1) dir_up in
        let S = dir_single s R in
        let P : ℕ → Type 0 = λ y. up (dirs s) y ≡ field 40 s.dir_table x 1 in
        record {
          inside = inside s.dir_table 40 x (field 40 s.dir_table 0 1) l.1 (all_fit s.dir_hash s.dir_table 40 S);
          up_inside = inside s.dir_table 40 (field 40 s.dir_table x 1) (field 40 s.dir_table 0 1) dir_up.1 (all_fit s.dir_hash s.dir_table 40 S);
          ends = child_ends s.dir_hash s.dir_table 40 S ((dirs s).head (field 40 s.dir_table x 1)) P H;
          there = subst (λ z. x ∈ z) (sym (list_holds s.dir_hash s.dir_table 40 S ((dirs s).head (field 40 s.dir_table x 1)) P H)) ((H.2 x).1 (l, refl));
          walked = child_list s.dir_hash s.dir_table 40 S ((dirs s).head (field 40 s.dir_table x 1)) P H;
        }

  module _ (l : LiveIn (files s) x) where
    file_up : LiveIn (dirs s) (field 48 s.file_table x 1)
    file_up = R.sound.files.parents x l (not_zero l.0)

    pub file_listed : InParent s.dir_table 28 s.file_table 48 x
    unfolding field
    file_listed =
        let H = R.sound.files.lists (field 48 s.file_table x 1) file_up in
        let S = file_single s R in
        let P : ℕ → Type 0 = λ y. up (files s) y ≡ field 48 s.file_table x 1 in
        record {
          inside = inside s.file_table 48 x (field 48 s.file_table 0 1) l.1 (all_fit s.file_hash s.file_table 48 S);
          up_inside = inside s.dir_table 40 (field 48 s.file_table x 1) (field 40 s.dir_table 0 1) file_up.1 (all_fit s.dir_hash s.dir_table 40 (dir_single s R));
          ends = child_ends s.file_hash s.file_table 48 S ((files s).head (field 48 s.file_table x 1)) P H;
          there = subst (λ z. x ∈ z) (sym (list_holds s.file_hash s.file_table 48 S ((files s).head (field 48 s.file_table x 1)) P H)) ((H.2 x).1 (l, refl));
          walked = child_list s.file_hash s.file_table 48 S ((files s).head (field 48 s.file_table x 1)) P H;
        }

pub deleted_file : (dh d h f d' h' f1 f2 : List ℕ) (o o' : Opens) (x : ℕ) → d' ≡ (unlinked_from File (tables [] d h f) x).dir_table → h' ≡ (unlinked_from File (tables [] d h f) x).file_hash
    → f1 ≡ (unlinked_from File (tables [] d h f) x).file_table → f2 ≡ wrote 48 f1 (give_writes 48 (field 48 f1) x) → o' ≡ with_record o x 0
    → gives Done 0 (tables dh d' h' f2) o' ≡ delete_done File (tables dh d h f) o x
deleted_file dh d h f d' h' f1 f2 o o' x ed eh e1 e2 eo =
    ap (λ (z : Opens). gives Done 0 (tables dh d' h' f2) z) eo
    ∙ ap (λ z. gives Done 0 (tables dh z h' f2) (with_record o x 0)) ed
    ∙ ap₂ (λ y z. gives Done 0 (tables dh (unlinked_from File (tables [] d h f) x).dir_table y z) (with_record o x 0)) eh
    (e2 ∙ ap (λ z. wrote 48 z (give_writes 48 (field 48 z) x)) e1)

pub deleted_dir : (h d fh f h' d1 d2 : List ℕ) (o o' : Opens) (x : ℕ) → h' ≡ (unlinked_from Directory (tables h d [] []) x).dir_hash → d1 ≡ (unlinked_from Directory (tables h d [] []) x).dir_table
    → d2 ≡ wrote 40 d1 (give_writes 40 (field 40 d1) x) → o' ≡ with_record o x 0
    → gives Done 0 (tables h' d2 fh f) o' ≡ delete_done Directory (tables h d fh f) o x
deleted_dir h d fh f h' d1 d2 o o' x eh e1 e2 eo =
    ap (λ (z : Opens). gives Done 0 (tables h' d2 fh f) z) eo
    ∙ ap₂ (λ y z. gives Done 0 (tables y z fh f) (with_record o x 0)) eh (e2 ∙ ap (λ z. wrote 40 z (give_writes 40 (field 40 z) x)) e1)

pub renamed_file : (dh d h f d1 h1 f1 d2 h2 f2 : List ℕ) (o : Opens) (x p : ℕ) (name : List ℕ)
    → d1 ≡ (unlinked_from File (tables [] d h f) x).dir_table → h1 ≡ (unlinked_from File (tables [] d h f) x).file_hash → f1 ≡ (unlinked_from File (tables [] d h f) x).file_table
    → d2 ≡ (linked_to File (tables [] d1 h1 f1) x p name).dir_table → h2 ≡ (linked_to File (tables [] d1 h1 f1) x p name).file_hash → f2 ≡ (linked_to File (tables [] d1 h1 f1) x p name).file_table
    → gives Done 0 (tables dh d2 h2 f2) o ≡ rename_done File (tables dh d h f) o x p name
renamed_file dh d h f d1 h1 f1 d2 h2 f2 o x p name ed eh ef ed2 eh2 ef2 =
    ap (λ z. gives Done 0 (tables dh z h2 f2) o) ed2
    ∙ ap₂ (λ y z. gives Done 0 (tables dh (linked_to File (tables [] d1 h1 f1) x p name).dir_table y z) o) eh2 ef2
    ∙ ap (λ z. gives Done 0 (linked_to File (tables dh z h1 f1) x p name) o) ed
    ∙ ap₂ (λ y z. gives Done 0 (linked_to File (tables dh (unlinked_from File (tables [] d h f) x).dir_table y z) x p name) o) eh ef

pub renamed_dir : (h d fh f h1 d1 h2 d2 : List ℕ) (o : Opens) (x p : ℕ) (name : List ℕ) → h1 ≡ (unlinked_from Directory (tables h d [] []) x).dir_hash → d1 ≡ (unlinked_from Directory (tables h d [] []) x).dir_table
    → h2 ≡ (linked_to Directory (tables h1 d1 [] []) x p name).dir_hash → d2 ≡ (linked_to Directory (tables h1 d1 [] []) x p name).dir_table
    → gives Done 0 (tables h2 d2 fh f) o ≡ rename_done Directory (tables h d fh f) o x p name
renamed_dir h d fh f h1 d1 h2 d2 o x p name eh ed eh2 ed2 =
    ap₂ (λ y z. gives Done 0 (tables y z fh f) o) eh2 ed2
    ∙ ap₂ (λ y z. gives Done 0 (linked_to Directory (tables y z fh f) x p name) o) eh ed

-- the steps keep every length
pub same_dirs : (h d : List ℕ) (x : ℕ) (d1 : List ℕ) → d1 ≡ (unlinked_from Directory (tables h d [] []) x).dir_table → length d1 ≡ length d
same_dirs h d x d1 e = ap length e ∙ simp length_wrote

pub same_dir_hash : (h d : List ℕ) (x : ℕ) (h1 : List ℕ) → h1 ≡ (unlinked_from Directory (tables h d [] []) x).dir_hash → length h1 ≡ length h
same_dir_hash h d x h1 e = ap length e ∙ simp length_wrote

pub same_files : (d h f : List ℕ) (x : ℕ) (f1 : List ℕ) → f1 ≡ (unlinked_from File (tables [] d h f) x).file_table → length f1 ≡ length f
same_files d h f x f1 e = ap length e ∙ simp length_wrote

pub same_file_hash : (d h f : List ℕ) (x : ℕ) (h1 : List ℕ) → h1 ≡ (unlinked_from File (tables [] d h f) x).file_hash → length h1 ≡ length h
same_file_hash d h f x h1 e = ap length e ∙ simp length_wrote

pub same_file_dirs : (d h f : List ℕ) (x : ℕ) (d1 : List ℕ) → d1 ≡ (unlinked_from File (tables [] d h f) x).dir_table → length d1 ≡ length d
same_file_dirs d h f x d1 e = ap length e ∙ simp length_wrote

-- what the tests that passed say
module _ (s : Tables) (R : Ready s) (r x : ℕ) where
  module _ (n : None (alone_tests_of (files s) r x)) where
    gone_file : LiveIn (files s) x
    gone_file = live_sure 48 s.file_table x n.0

    pub delete_file_asks : Single s.file_hash s.file_table 48 × LiveAt 48 s.file_table x × InParent s.dir_table 28 s.file_table 48 x
    delete_file_asks = (file_single s R, gone_file, file_listed s R x gone_file)

    pub give_file_asks : {f1 : List ℕ} → f1 ≡ (unlinked_from File (tables [] s.dir_table s.file_hash s.file_table) x).file_table → (x * 48 + 48 ≤ length f1) × (4 ≤ 48) × (0 < x)
    give_file_asks {f1} e =
        (omega (arith, (file_listed s R x gone_file).inside, same_files s.dir_table s.file_hash s.file_table x f1 e), omega arith, gone_file.0)

  module _ (n : None (delete_tests_of Directory s r x)) where
    gone_dir : LiveIn (dirs s) x
    gone_dir = live_sure 40 s.dir_table x n.0

    not_root : x ≢ 1
    not_root = n.1.1.1.0

    pub delete_dir_asks : Single s.dir_hash s.dir_table 40 × LiveAt 40 s.dir_table x × InParent s.dir_table 24 s.dir_table 40 x
    delete_dir_asks = (dir_single s R, gone_dir, dir_listed s R x gone_dir not_root)

    pub give_dir_asks : {d1 : List ℕ} → d1 ≡ (unlinked_from Directory (tables s.dir_hash s.dir_table [] []) x).dir_table → (x * 40 + 40 ≤ length d1) × (4 ≤ 40) × (0 < x)
    give_dir_asks {d1} e =
        (omega (arith, (dir_listed s R x gone_dir not_root).inside, same_dirs s.dir_hash s.dir_table x d1 e), omega arith, gone_dir.0)

  module _ (p : ℕ) (name : List ℕ) where
    module _ (n : None (rename_tests_of File s r x p name)) where
      moved_file : LiveIn (files s) x
      moved_file = live_sure 48 s.file_table x n.0

      file_goal : LiveIn (dirs s) p
      file_goal = live_sure 40 s.dir_table p n.1.1.1.0

      pub rename_file_asks : Single s.file_hash s.file_table 48 × LiveAt 48 s.file_table x × InParent s.dir_table 28 s.file_table 48 x
      rename_file_asks = (file_single s R, moved_file, file_listed s R x moved_file)

      abbrev before_file : Tables
      before_file = tables [] s.dir_table s.file_hash s.file_table

      pub link_file_asks : {d1 h1 f1 : List ℕ} → d1 ≡ (unlinked_from File before_file x).dir_table → h1 ≡ (unlinked_from File before_file x).file_hash → f1 ≡ (unlinked_from File before_file x).file_table
          → (x * 48 + 48 ≤ length f1) × (p * 40 + 40 ≤ length d1) × (0 < length h1 / 4)
      link_file_asks {d1} {h1} {f1} qd qh qf =
          let ed = same_file_dirs s.dir_table s.file_hash s.file_table x d1 qd in
          let eh = same_file_hash s.dir_table s.file_hash s.file_table x h1 qh in
          let ef = same_files s.dir_table s.file_hash s.file_table x f1 qf in (
            omega (arith, (file_listed s R x moved_file).inside),
            omega (arith, inside s.dir_table 40 p (field 40 s.dir_table 0 1) file_goal.1 (all_fit s.dir_hash s.dir_table 40 (dir_single s R))),
            subst (λ z. 0 < z / 4) (sym eh) R.file_buckets,
          )

    module _ (n : None (rename_tests_of Directory s r x p name)) where
      moved_dir : LiveIn (dirs s) x
      moved_dir = live_sure 40 s.dir_table x n.0

      dir_goal : LiveIn (dirs s) p
      dir_goal = live_sure 40 s.dir_table p n.1.1.1.1.0

      pub rename_dir_asks : Single s.dir_hash s.dir_table 40 × LiveAt 40 s.dir_table x × InParent s.dir_table 24 s.dir_table 40 x
      rename_dir_asks = (dir_single s R, moved_dir, dir_listed s R x moved_dir n.1.1.0)

      abbrev before_dir : Tables
      before_dir = tables s.dir_hash s.dir_table [] []

      pub link_dir_asks : {h1 d1 : List ℕ} → h1 ≡ (unlinked_from Directory before_dir x).dir_hash → d1 ≡ (unlinked_from Directory before_dir x).dir_table
          → (x * 40 + 40 ≤ length d1) × (p * 40 + 40 ≤ length d1) × (0 < length h1 / 4)
      link_dir_asks {h1} {d1} qh qd =
          let eh = same_dir_hash s.dir_hash s.dir_table x h1 qh in
          let ed = same_dirs s.dir_hash s.dir_table x d1 qd in (
            omega (arith, (dir_listed s R x moved_dir n.1.1.0).inside),
            omega (arith, inside s.dir_table 40 p (field 40 s.dir_table 0 1) dir_goal.1 (all_fit s.dir_hash s.dir_table 40 (dir_single s R))),
            subst (λ z. 0 < z / 4) (sym eh) R.dir_buckets,
          )

-- ---- the ends of delete: what the tests that passed, the steps and the open records give together. r is the record that was found

module _ (dh d h f l : List ℕ) (k r x : ℕ) (er : r ≡ record_of (opens k l) x) where
  abbrev here : Tables
  here = tables dh d h f

  abbrev o : Opens
  o = opens k l

  pub delete_file_no : (a : Answer) → Given (alone_tests_of (alone 48 f) r x) a
      → Inside (tables dh d h f) (opens k l) (delete_tests File (tables dh d h f) (opens k l) x) (delete_done File (tables dh d h f) (opens k l) x) (gives a 0 (tables dh d h f) (opens k l))
  delete_file_no a g =
      given_first (refuse here o) (delete_done File here o x) (delete_tests File here o x) a (subst (λ z. Given (alone_tests_of (files here) z x) a) er g)

  pub delete_dir_no : (a : Answer) → Given (delete_tests_of Directory (tables dh d [] []) r x) a
      → Inside (tables dh d h f) (opens k l) (delete_tests Directory (tables dh d h f) (opens k l) x) (delete_done Directory (tables dh d h f) (opens k l) x) (gives a 0 (tables dh d h f) (opens k l))
  delete_dir_no a g =
      given_first (refuse here o) (delete_done Directory here o x) (delete_tests Directory here o x) a (subst (λ z. Given (delete_tests_of Directory here z x) a) er g)

  module _ (k' : ℕ) (l' : List ℕ) where
    pub delete_file_done : (d' h' f1 f2 : List ℕ) → None (alone_tests_of (alone 48 f) r x)
        → (d' ≡ (unlinked_from File (tables [] d h f) x).dir_table) × (h' ≡ (unlinked_from File (tables [] d h f) x).file_hash) × (f1 ≡ (unlinked_from File (tables [] d h f) x).file_table)
        → f2 ≡ wrote 48 f1 (give_writes 48 (field 48 f1) x) → opens k' l' ≡ with_record (opens k l) x 0
        → Inside (tables dh d h f) (opens k l) (delete_tests File (tables dh d h f) (opens k l) x) (delete_done File (tables dh d h f) (opens k l) x) (gives Done 0 (tables dh d' h' f2) (opens k' l'))
    delete_file_done d' h' f1 f2 go u e eo =
        call_done (refuse here o) (delete_done File here o x) (gives Done 0 (tables dh d' h' f2) (opens k' l')) (delete_tests File here o x)
        (subst (λ z. None (alone_tests_of (files here) z x)) er go)
        (deleted_file dh d h f d' h' f1 f2 o (opens k' l') x u.0 u.1 u.2 e eo)

    pub delete_dir_done : (h' d1 d2 : List ℕ) → None (delete_tests_of Directory (tables dh d [] []) r x)
        → (h' ≡ (unlinked_from Directory (tables dh d [] []) x).dir_hash) × (d1 ≡ (unlinked_from Directory (tables dh d [] []) x).dir_table)
        → d2 ≡ wrote 40 d1 (give_writes 40 (field 40 d1) x) → opens k' l' ≡ with_record (opens k l) x 0
        → Inside (tables dh d h f) (opens k l) (delete_tests Directory (tables dh d h f) (opens k l) x) (delete_done Directory (tables dh d h f) (opens k l) x) (gives Done 0 (tables h' d2 h f) (opens k' l'))
    delete_dir_done h' d1 d2 go u e eo =
        call_done (refuse here o) (delete_done Directory here o x) (gives Done 0 (tables h' d2 h f) (opens k' l')) (delete_tests Directory here o x)
        (subst (λ z. None (delete_tests_of Directory here z x)) er go)
        (deleted_dir dh d h f h' d1 d2 o (opens k' l') x u.0 u.1 e eo)

-- ---- what the steps of delete and rename ask for, by the tests that passed

module _ (dh d h f l : List ℕ) (k r x : ℕ) (R : ReadyOpens (tables dh d h f) (opens k l)) where
  module _ (go : None (alone_tests_of (alone 48 f) r x)) where
    pub unlink_file_may : Single h f 48 × LiveAt 48 f x × InParent d 28 f 48 x
    unlink_file_may = delete_file_asks (tables dh d h f) R.ready r x go

    pub give_file_may : {d' h' f1 : List ℕ}
        → (d' ≡ (unlinked_from File (tables [] d h f) x).dir_table) × (h' ≡ (unlinked_from File (tables [] d h f) x).file_hash) × (f1 ≡ (unlinked_from File (tables [] d h f) x).file_table)
        → (x * 48 + 48 ≤ length f1) × (4 ≤ 48) × (0 < x)
    give_file_may u = give_file_asks (tables dh d h f) R.ready r x go u.2

  module _ (go : None (delete_tests_of Directory (tables dh d [] []) r x)) where
    pub unlink_dir_may : Single dh d 40 × LiveAt 40 d x × InParent d 24 d 40 x
    unlink_dir_may = delete_dir_asks (tables dh d h f) R.ready r x go

    pub give_dir_may : {h' d1 : List ℕ} → (h' ≡ (unlinked_from Directory (tables dh d [] []) x).dir_hash) × (d1 ≡ (unlinked_from Directory (tables dh d [] []) x).dir_table)
        → (x * 40 + 40 ≤ length d1) × (4 ≤ 40) × (0 < x)
    give_dir_may u = give_dir_asks (tables dh d h f) R.ready r x go u.1
