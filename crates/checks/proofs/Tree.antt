-- The checks of the entry tables.
use mathlib.Core.Path.{◌≡◌, refl, sym, ap, ◌∙◌}
use mathlib.Core.Bool.{false, false≢true}
use mathlib.Core.List.{List, [], ◌∷◌}
use mathlib.Core.Logic.{inl, inr, ⊎_elim}
use Prim.Native.Nat.{ℕ, zero, suc, ◌/◌, ◌%◌, ◌<◌}
use native.Mathlib.Omega.{arith}
use lib.ListN.{length, replicate}
use Rattle.words.specs.Word.{word, put_word}
use Rattle.order.specs.Beside.{beside}
use Rattle.order.specs.Given.{None}
use Rattle.order.specs.Answer.{Answer}
use Rattle.order.specs.Answer.{Done, NoSpace}
use Rattle.tree_key.specs.Key.{name_key}
use Rattle.tree_key.specs.Hash.{hash_of, mix, rotated}
use Rattle.tree_table.specs.Field.{field}
use Rattle.tree_table.specs.View.{parent, LiveIn}
use Rattle.tree_table.specs.Steps.{free_of}
use Rattle.tree_sound.specs.Sizes.{Misfit, Outside}
use Rattle.tree_sound.specs.Sound.{Sound}
use Rattle.tree_test.specs.Gate.{tree_gate, open_gate}
use Rattle.tree_sound.specs.Tables.{Tables, tables, dirs, files}
use Rattle.tree_promises.specs.declared.Kind.TheVariants.{Directory, File}
use Rattle.tree_promises.specs.Has.{Has}
use Rattle.tree_promises.specs.Legal.{padded, legal}
use Rattle.tree_promises.specs.Calls.{Carry, carry_gives, Make, make_gives, make_rows, make_done, Lookup, lookup_gives, lookup_rows, lookup_done}
use Rattle.tree_promises.specs.Format.{format_rows, formatted, FormatMisfit, FormatOutside, FormatPromise}
use Rattle.tree_promises.specs.Steps.{made}
use Rattle.tree_promises.specs.Promise.{worked, TreePromise, OpensPromise}
use Rattle.tree_promises.specs.Public.{LookupPromise, MakeDirPromise, MakeFilePromise}
use Rattle.checks.specs.Check.{Check, Shows}
use Rattle.checks.specs.Tree.{
  root_key,
  name,
  key,
  junk,
  work5,
  opens4,
  computed,
  root_in5,
  root_in3,
  key_hash,
  key_in5,
  hashes,
  format_tree,
  make_dir,
  lookup,
  lookup_dir,
  lookup_root,
  tree,
  make_file,
  no_space,
}
use Rattle.checks.proofs.Passes.{none_first, Sole, sole, SoleGiven, sole_given}
use Rattle.checks.proofs.Then.{then}
use Rattle.checks.proofs.Fresh.{NoFiles, no_live, Fresh, fresh_sound, Second, second_sound, not_removed}

-- a number that is what it has to be, and the checks after it
shows_number : (number wanted : ℕ) (cs : List (Check (Unit {0}))) → number ≡ wanted → Shows cs tt → Shows (computed number wanted ∷ cs) tt
shows_number number wanted cs e rest =
    then (computed number wanted) cs tt tt (number, refl) (λ r p. (ap (λ (x : ℕ). x ∷ []) (p ∙ e), refl)) rest

root_hash : hash_of root_key ≡ 0xC091A2B3
unfolding hash_of mix rotated
root_hash = refl

key_hash_lem : hash_of key ≡ 0xF091A2BF
unfolding hash_of mix rotated word
key_hash_lem = refl

pub shows_hashes : Shows hashes.checks tt
shows_hashes =
    shows_number (hash_of root_key) 0xC091A2B3 (root_in5 ∷ root_in3 ∷ key_hash ∷ key_in5 ∷ []) root_hash
    (shows_number (hash_of root_key % 5) 3 (root_in3 ∷ key_hash ∷ key_in5 ∷ []) (ap (λ (x : ℕ). x % 5) root_hash)
    (shows_number (hash_of root_key % 3) 0 (key_hash ∷ key_in5 ∷ []) (ap (λ (x : ℕ). x % 3) root_hash)
    (shows_number (hash_of key) 0xF091A2BF (key_in5 ∷ []) key_hash_lem
    (shows_number (hash_of key % 5) 3 [] (ap (λ (x : ℕ). x % 5) key_hash_lem) tt))))

-- the tables, formatted; with the directory made
abbrev s1 : Tables
s1 = formatted junk 4 1

abbrev s2 : Tables
s2 = made Directory s1 1 name (replicate 4 0)

-- tables of these lengths pass the sizes
module _ (dh d fh f : List ℕ) (e1 : length dh ≡ 20) (e2 : length d ≡ 160) (e3 : length fh ≡ 4) (e4 : length f ≡ 48) where
  fits : Misfit dh d fh f → ⊥
  fits m =
      ⊎_elim
      (λ a. ⊎_elim (λ h. omega (arith, e1, h)) (λ h. h (omega (arith, e1))) a)
      (λ m2.
      ⊎_elim
      (λ h. omega (arith, e2, h))
      (λ m3.
      ⊎_elim
      (λ a. ⊎_elim (λ h. omega (arith, e3, h)) (λ h. h (omega (arith, e3))) a)
      (λ h. omega (arith, e4, h))
      m3)
      m2)
      m

  inside : Outside dh d fh f → ⊥
  inside m =
      ⊎_elim
      (λ a. ⊎_elim (λ h. omega (arith, e1, h)) (λ h. omega (arith, e1, h)) a)
      (λ m2.
      ⊎_elim
      (λ a. ⊎_elim (λ h. omega (arith, e2, h)) (λ h. omega (arith, e2, h)) a)
      (λ m3.
      ⊎_elim
      (λ a. ⊎_elim (λ h. omega (arith, e3, h)) (λ h. omega (arith, e3, h)) a)
      (λ a. ⊎_elim (λ h. omega (arith, e4, h)) (λ h. omega (arith, e4, h)) a)
      m3)
      m2)
      m

format_fits : FormatMisfit junk 4 1 → ⊥
format_fits m =
    ⊎_elim
    (fits junk.dir_hash junk.dir_table junk.file_hash junk.file_table refl refl refl refl)
    (λ m2. ⊎_elim (λ h. omega (arith, h)) (λ h. omega (arith, h)) m2)
    m

format_inside : FormatOutside junk 4 1 → ⊥
format_inside m =
    ⊎_elim
    (inside junk.dir_hash junk.dir_table junk.file_hash junk.file_table refl refl refl refl)
    (λ m2.
    ⊎_elim
    (λ h. omega (arith, h))
    (λ m3. ⊎_elim (λ h. omega (arith, h)) (λ m4. ⊎_elim (λ h. omega (arith, h)) (λ h. omega (arith, h)) m4) m3)
    m2)
    m

sees_format : format_tree.seen (carry_gives Done s1) ≡ format_tree.wanted
unfolding word put_word hash_of mix rotated
sees_format = refl

shows_format : (cs : List (Check Tables)) → Shows cs s1 → Shows (format_tree ∷ cs) junk
shows_format cs rest =
    let q : Sole (FormatPromise junk 4 1) (carry_gives Done s1) =
    sole (format_rows junk 4 1) (carry_gives Done s1) (carry_gives Done s1)
    (none_first (format_rows junk 4 1) (carry_gives Done s1) (format_fits, (format_inside, tt))) in
    then format_tree cs junk s1 q.0
    (λ o p. (ap (λ (x : Carry). format_tree.seen x) (q.1 o p) ∙ sees_format, ap (λ (x : Carry). x.tables) (q.1 o p))) rest

-- the formatted tables ------------------------------------------------------------------------------------------------------------------------------

-- every bucket of five but number 3 is empty
else1 : (b : ℕ) → b < 5 → (b ≡ 3 → ⊥) → (dirs s1).hash b ≡ 0
unfolding word put_word field hash_of mix rotated
else1 zero h ne = refl
else1 (suc zero) h ne = refl
else1 (suc (suc zero)) h ne = refl
else1 (suc (suc (suc zero))) h ne = absurd (ne refl)
else1 (suc (suc (suc (suc zero)))) h ne = refl
else1 (suc (suc (suc (suc (suc b))))) h ne = let z : ⊥ = omega (arith, h) in absurd z

no_file1 : (b : ℕ) → b < 1 → (files s1).hash b ≡ 0
unfolding word put_word field
no_file1 zero h = refl
no_file1 (suc b) h = let z : ⊥ = omega (arith, h) in absurd z

files1 : NoFiles (files s1)
unfolding word put_word field
files1 = record { max = (omega arith, omega arith); count = refl; removed = refl; hash = no_file1 }

fresh1 : Fresh (dirs s1) (files s1)
unfolding word put_word field hash_of mix rotated
fresh1 =
    record {
      max = (omega arith, omega arith);
      count = refl;
      removed = refl;
      coll = refl;
      key = refl;
      next = refl;
      sub_dirs = refl;
      sub_files = refl;
      here = refl;
      else = else1;
      files = files1;
    }

-- tables of those lengths that are sound pass the rows of sizes, work list and soundness
module _ (s : Tables) (e1 : length s.dir_hash ≡ 20) (e2 : length s.dir_table ≡ 160) (e3 : length s.file_hash ≡ 4)
    (e4 : length s.file_table ≡ 48) (sound : Sound (dirs s) (files s)) where
  tree_passes : {A : Type 0} (refuse : Answer → List ℕ → A) → None (tree_gate refuse s work5)
  tree_passes refuse = (
    fits s.dir_hash s.dir_table s.file_hash s.file_table e1 e2 e3 e4,
    (
      inside s.dir_hash s.dir_table s.file_hash s.file_table e1 e2 e3 e4,
      (λ h. omega (arith, e2, e4, h), (λ h. h sound, tt)),
    ),
  )

  open_passes : {A : Type 0} (refuse : Answer → List ℕ → A)
      → None (open_gate refuse s 4 (length s.dir_table / 40) work5)
  open_passes refuse = (
    fits s.dir_hash s.dir_table s.file_hash s.file_table e1 e2 e3 e4,
    (
      inside s.dir_hash s.dir_table s.file_hash s.file_table e1 e2 e3 e4,
      (λ m. ⊎_elim (λ h. omega (arith, e2, e4, h)) (λ h. omega (arith, e2, h)) m, (λ h. h sound, tt)),
    ),
  )

lengths1 : (length s1.dir_hash ≡ 20) × (length s1.dir_table ≡ 160) × (length s1.file_hash ≡ 4) × (length s1.file_table ≡ 48)
unfolding put_word hash_of mix rotated
lengths1 = (refl, refl, refl, refl)

live1 : LiveIn (dirs s1) 1
live1 = (fresh_sound (dirs s1) (files s1) fresh1).dirs.root_live

-- no directory has the new key yet
no_key1 : Has (dirs s1) key → ⊥
no_key1 m =
    let one : m.0 ≡ 1 = omega (arith, m.1.0, m.1.1, fresh1.count) in
    let p : (dirs s1).key 1 ≡ key = ap (dirs s1).key (sym one) ∙ m.2 in
    omega (arith, ap parent fresh1.key, ap parent p)

legal_name : legal name ≡ false → ⊥
unfolding legal padded
legal_name e = false≢true (sym e)

room1 : free_of (dirs s1) ≡ 2
unfolding word put_word field
room1 = refl

make_done_lem : SoleGiven (MakeDirPromise s1 opens4 work5 1 name (replicate 4 0)) (make_done Directory s1 opens4 1 name (replicate 4 0))
unfolding OpensPromise
make_done_lem =
    sole_given
    (open_gate (λ a w. beside (make_gives a 0 s1 opens4) w) s1 4 (length s1.dir_table / 40) work5)
    (worked s1 work5)
    (make_rows s1 (dirs s1) opens4 1 name)
    (make_done Directory s1 opens4 1 name (replicate 4 0))
    (make_done Directory s1 opens4 1 name (replicate 4 0))
    (open_passes s1 lengths1.0 lengths1.1 lengths1.2 lengths1.3 (fresh_sound (dirs s1) (files s1) fresh1)
    (λ a w. beside (make_gives a 0 s1 opens4) w))
    (none_first (make_rows s1 (dirs s1) opens4 1 name) (make_done Directory s1 opens4 1 name (replicate 4 0))
    (legal_name, (λ h. h live1, (no_key1, (λ h. omega (arith, room1, h), tt)))))

sees_make : make_dir.seen (beside (make_done Directory s1 opens4 1 name (replicate 4 0)) work5) ≡ make_dir.wanted
unfolding word put_word field hash_of mix rotated
sees_make = refl

shows_make : (cs : List (Check Tables)) → Shows cs s2 → Shows (make_dir ∷ cs) s1
shows_make cs rest =
    then make_dir cs s1 s2 make_done_lem.0
    (λ o p. (
      ap (λ (x : Make). make_dir.seen (beside x work5)) (make_done_lem.1 o p) ∙ sees_make,
      ap (λ (x : Make). x.tables) (make_done_lem.1 o p),
    )) rest

-- the tables with the directory -------------------------------------------------------------------------------------------------------------------

else2 : (b : ℕ) → b < 5 → (b ≡ 3 → ⊥) → (dirs s2).hash b ≡ 0
unfolding word put_word field hash_of mix rotated
else2 zero h ne = refl
else2 (suc zero) h ne = refl
else2 (suc (suc zero)) h ne = refl
else2 (suc (suc (suc zero))) h ne = absurd (ne refl)
else2 (suc (suc (suc (suc zero)))) h ne = refl
else2 (suc (suc (suc (suc (suc b))))) h ne = let z : ⊥ = omega (arith, h) in absurd z

files2 : NoFiles (files s2)
files2 = record { max = files1.max; count = files1.count; removed = files1.removed; hash = files1.hash }

second2 : Second (dirs s2) (files s2)
unfolding word put_word field hash_of mix rotated
second2 =
    record {
      max = (omega arith, omega arith);
      count = refl;
      removed = refl;
      coll = (refl, refl);
      key = refl;
      parent = refl;
      next = (refl, refl);
      sub_dirs = (refl, refl);
      sub_files = (refl, refl);
      same = refl;
      here = refl;
      else = else2;
      files = files2;
    }

lengths2 : (length s2.dir_hash ≡ 20) × (length s2.dir_table ≡ 160) × (length s2.file_hash ≡ 4) × (length s2.file_table ≡ 48)
unfolding word put_word field hash_of mix rotated
lengths2 = (refl, refl, refl, refl)

shows_lookup : (p : ℕ) (n wanted : List ℕ) (cs : List (Check Tables)) → Has (dirs s2) (name_key p n)
    → (lookup p n wanted).seen (beside (lookup_done (dirs s2) (name_key p n)) work5) ≡ wanted → Shows cs s2 → Shows (lookup p n wanted ∷ cs) s2
unfolding TreePromise
shows_lookup p n wanted cs has sees rest =
    let k : List ℕ = name_key p n in
    let q : SoleGiven (LookupPromise s2 (dirs s2) work5 p n) (lookup_done (dirs s2) (name_key p n)) =
    sole_given (tree_gate (λ a w. beside (lookup_gives a 0 0) w) s2 work5) (worked s2 work5)
    (lookup_rows (dirs s2) k) (lookup_done (dirs s2) k) (lookup_done (dirs s2) k)
    (tree_passes s2 lengths2.0 lengths2.1 lengths2.2 lengths2.3 (second_sound (dirs s2) (files s2) second2)
    (λ a w. beside (lookup_gives a 0 0) w))
    (none_first (lookup_rows (dirs s2) k) (lookup_done (dirs s2) k) (λ h. h has, tt)) in
    then (lookup p n wanted) cs s2 s2 q.0
    (λ o r. (ap (λ (x : Lookup). (lookup p n wanted).seen (beside x work5)) (q.1 o r) ∙ sees, refl)) rest

live2 : (y : ℕ) → 0 < y → y < 3 → LiveIn (dirs s2) y
live2 y lo hi = (lo, omega (arith, hi, second2.count), not_removed (dirs s2) second2.removed y)

has_key : Has (dirs s2) key
unfolding word put_word field hash_of mix rotated
has_key = (2, live2 2 (omega arith) (omega arith), refl)

has_root : Has (dirs s2) (name_key 0 (replicate 16 0))
unfolding word put_word field hash_of mix rotated
has_root = (1, live2 1 (omega arith) (omega arith), refl)

sees_lookup_dir : lookup_dir.seen (beside (lookup_done (dirs s2) key) work5) ≡ lookup_dir.wanted
unfolding word put_word field hash_of mix rotated
sees_lookup_dir = refl

sees_lookup_root : lookup_root.seen (beside (lookup_done (dirs s2) (name_key 0 (replicate 16 0))) work5) ≡ lookup_root.wanted
unfolding word put_word field hash_of mix rotated
sees_lookup_root = refl

pub shows_tree : Shows tree.checks junk
shows_tree =
    shows_format (make_dir ∷ lookup_dir ∷ lookup_root ∷ [])
    (shows_make (lookup_dir ∷ lookup_root ∷ [])
    (shows_lookup 1 name lookup_dir.wanted (lookup_root ∷ []) has_key sees_lookup_dir
    (shows_lookup 0 (replicate 16 0) lookup_root.wanted [] has_root sees_lookup_root tt)))

-- no file yet, and no room for one
no_file_key : Has (files s1) key → ⊥
no_file_key m = no_live (files s1) files1 m.0 m.1

no_room : free_of (files s1) ≡ 0
unfolding word put_word field
no_room = refl

file_passes : None (open_gate (λ a w. beside (make_gives a 0 s1 (replicate 1 0)) w) s1 1 (length s1.file_table / 48) work5)
file_passes = (
  fits s1.dir_hash s1.dir_table s1.file_hash s1.file_table lengths1.0 lengths1.1 lengths1.2 lengths1.3,
  (
    inside s1.dir_hash s1.dir_table s1.file_hash s1.file_table lengths1.0 lengths1.1 lengths1.2 lengths1.3,
    (
      λ m. ⊎_elim (λ h. omega (arith, lengths1.1, lengths1.3, h)) (λ h. omega (arith, lengths1.3, h)) m,
      (λ h. h (fresh_sound (dirs s1) (files s1) fresh1), tt),
    ),
  ),
)

file_refused : SoleGiven (MakeFilePromise s1 (replicate 1 0) work5 1 name (replicate 20 0)) (make_gives NoSpace 0 s1 (replicate 1 0))
unfolding OpensPromise
file_refused =
    sole_given
    (open_gate (λ a w. beside (make_gives a 0 s1 (replicate 1 0)) w) s1 1 (length s1.file_table / 48) work5)
    (worked s1 work5)
    (make_rows s1 (files s1) (replicate 1 0) 1 name)
    (make_done File s1 (replicate 1 0) 1 name (replicate 20 0))
    (make_gives NoSpace 0 s1 (replicate 1 0))
    file_passes
    (inr (legal_name, inr (λ h. h live1, inr (no_file_key, inl (no_room, refl)))))

sees_file : make_file.seen (beside (make_gives NoSpace 0 s1 (replicate 1 0)) work5) ≡ make_file.wanted
unfolding word put_word field hash_of mix rotated
sees_file = refl

-- beside the list
pub no_space_lem : Shows no_space.checks junk
no_space_lem =
    shows_format (make_file ∷ [])
    (then make_file [] s1 s1 file_refused.0
    (λ o p. (
      ap (λ (x : Make). make_file.seen (beside x work5)) (file_refused.1 o p) ∙ sees_file,
      ap (λ (x : Make). x.tables) (file_refused.1 o p),
    )) tt)
