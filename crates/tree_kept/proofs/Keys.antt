-- What a step leaves of the keys: who is live after it, and under which key. One law over two views for each kind of step, and then the calls' steps.
use mathlib.Core.Path.{◌≡◌, refl, ap, ◌∙◌, subst}
use mathlib.Core.List.{List, ◌∷◌}
use mathlib.Core.Logic.{◌⊎◌, inl, inr, ⊎_elim, ◌≢◌}
use Prim.Native.Nat.{ℕ, ◌<◌}
use native.Mathlib.Omega.{arith}
use lib.Dec.{eqb}
use Rattle.words.specs.Word.{word}
use Rattle.words.proofs.Laws.{Bytes, word_lt}
use Rattle.links.specs.Links.{◌∈◌}
use Rattle.links.specs.Change.{pick, upd}
use Rattle.links.proofs.Held.{same_or, upd_same, upd_other}
use Rattle.tree_key.specs.Key.{name_key}
use Rattle.tree_table.specs.View.{View, Live, LiveIn, removed_of}
use Rattle.tree_table.specs.Steps.{taken, free_of}
use Rattle.tree_table.proofs.Table.{Sound, rest, take, Took, took_live, gave_live, removed_is}
use Rattle.tree_table.proofs.Agree.{Agree, live_agree}
use Rattle.tree_sound.proofs.Tree.{Tree}
use Rattle.tree_sound.proofs.Equal.{tree_of}
use Rattle.tree_sound.specs.Tables.{Tables, dirs, files, SoundIn}
use Rattle.tree_promises.specs.declared.Kind.TheVariants.{Directory, File}
use Rattle.tree_promises.specs.Has.{Has, HasOther, above}
use Rattle.tree_promises.specs.Steps.{made, deleted, renamed, with_carried}
use Rattle.tree_kept.proofs.Tables.{dirs_past}
use Rattle.tree_kept.proofs.Loose.{entry_fits}
use Rattle.tree_kept.proofs.Files.{
  Fine,
  file_low,
  dir_low,
  unlinked_files,
  unlinked_dirs,
  deleted_file_key,
  deleted_file_removed,
  deleted_file_count,
  deleted_file_kept,
  renamed_file_agrees,
  renamed_file_dirs,
  renamed_file_kept,
}
use Rattle.tree_kept.proofs.MakeFile.{carried_files, carried_file_kept, made_file_agrees, made_file_taken, made_file_dirs, made_file_kept}
use Rattle.tree_kept.proofs.Dirs.{renamed_dir_agrees, renamed_dir_kept, carried_dir_kept}
use Rattle.tree_kept.proofs.MakeDir.{made_dir_agrees, made_dir_kept}
use Rattle.tree_kept.proofs.DeleteDir.{deleted_dir_key, deleted_dir_removed, deleted_dir_count}
use Rattle.tree_kept.proofs.Kept.{space, not_above}

-- entry y of the view v' is x under the key k, or was live in the view v, with the removed list R, under the key that it has
abbrev pub Told : (v : View) (R : List ℕ) (v' : View) (x : ℕ) (k : List ℕ) (y : ℕ) → Type 0
Told v R v' x k y = ((y ≡ x) × (v'.key y ≡ k)) ⊎ (Live v.count R y × (v'.key y ≡ v.key y))

-- live by the removed list that a walk finds, and by the one that is known
pub live_known : (v : View) (Dir : ℕ → Type 0) (R : List ℕ) → Sound v Dir R 0 → (y : ℕ) → LiveIn v y → Live v.count R y
live_known v Dir R S y l = subst (λ z. Live v.count z y) (removed_is v Dir R S) l

module _ (v v' : View) (R : List ℕ) where
  -- a step that leaves the table's keys
  pub kept_keys : Agree v v' → (y : ℕ) → Live v'.count R y → Live v.count R y × (v'.key y ≡ v.key y)
  kept_keys A y l = ((live_agree v v' A R y).1 l, A.key y l.0)

  module _ (x : ℕ) (k : List ℕ) (K : (y : ℕ) → 0 < y → v'.key y ≡ upd v.key x k y) where
    -- a step that gives x the key k
    pub renamed_keys : v'.count ≡ v.count → (y : ℕ) → Live v'.count R y → Told v R v' x k y
    renamed_keys c y l =
        ⊎_elim
        (λ (e : y ≡ x). inl (e, K y l.0 ∙ upd_same v.key x k y e))
        (λ (n : y ≢ x). inr (subst (λ n. Live n R y) c l, K y l.0 ∙ upd_other v.key x k y n))
        (same_or y x)

    -- a step that takes x and gives it the key k
    pub taken_keys : Took v R (rest R) x (take v).count → v'.count ≡ (take v).count → (y : ℕ) → Live v'.count (rest R) y → Told v R v' x k y
    taken_keys t c y l =
        ⊎_elim
        (λ (e : y ≡ x). inl (e, K y l.0 ∙ upd_same v.key x k y e))
        (λ (h : (y ≢ x) × Live v.count R y). inr (h.1, K y l.0 ∙ upd_other v.key x k y h.0))
        ((t.2 y).0 (subst (λ n. Live n (rest R) y) c l))

  -- a step that gives x up
  pub given_keys : (x : ℕ) → ((y : ℕ) → 0 < y → y ≢ x → v'.key y ≡ v.key y) → v'.count ≡ v.count
      → (y : ℕ) → Live v'.count (x ∷ R) y → Live v.count R y × (v'.key y ≡ v.key y)
  given_keys x K c y l =
      let g = (gave_live v R x y).0 (subst (λ n. Live n (x ∷ R) y) c l) in (g.0, K y l.0 g.1)

-- the calls' steps, on sound tables --------------------------------------------------------------------------------------------------------------------

-- as Told, of views as the rules read them; and where no entry is new
abbrev pub ToldIn : (v v' : View) (x : ℕ) (k : List ℕ) → Type 0
ToldIn v v' x k = (y : ℕ) → LiveIn v' y → Told v (removed_of v) v' x k y

abbrev pub SameIn : (v v' : View) → Type 0
SameIn v v' = (y : ℕ) → LiveIn v' y → LiveIn v y × (v'.key y ≡ v.key y)

-- tables that are sound before and after
module _ (s : Tables) (Q : Fine s.dir_hash s.dir_table s.file_hash s.file_table) (S : SoundIn s) where
  abbrev D : View
  D = dirs s

  abbrev F : View
  F = files s

  abbrev RD : List ℕ
  RD = removed_of D

  abbrev RF : List ℕ
  RF = removed_of F

  T : Tree D F RD RF
  T = tree_of D F refl refl S

  -- a view that agrees with one before: the removed list is the same
  same_in : (v v' : View) (Dir Dir' : ℕ → Type 0) → Sound v Dir (removed_of v) 0 → Agree v v' → Sound v' Dir' (removed_of v) 0 → SameIn v v'
  same_in v v' Dir Dir' B A B' y l = kept_keys v v' (removed_of v) A y (live_known v' Dir' (removed_of v) B' y l)

  module _ (x : ℕ) (lx : LiveIn D x) (n1 : x ≡ 1 → ⊥) where
    pub deleted_dir_same : SameIn D (dirs (deleted Directory s x))
    deleted_dir_same y l =
        given_keys D (dirs (deleted Directory s x)) RD x (deleted_dir_key s.dir_hash s.dir_table s.file_hash s.file_table Q RD RF T x lx n1)
        (deleted_dir_count s.dir_hash s.dir_table s.file_hash s.file_table Q RD RF T x lx n1) y
        (subst (λ z. Live (dirs (deleted Directory s x)).count z y)
        (deleted_dir_removed s.dir_hash s.dir_table s.file_hash s.file_table Q RD RF T x lx n1) l)

  module _ (x : ℕ) (lx : LiveIn F x) where
    pub deleted_file_same : SameIn F (files (deleted File s x))
    deleted_file_same y l =
        given_keys F (files (deleted File s x)) RF x (deleted_file_key s.dir_hash s.dir_table s.file_hash s.file_table Q RD RF T x lx)
        (deleted_file_count s.dir_hash s.dir_table s.file_hash s.file_table Q RD RF T x lx) y
        (subst (λ z. Live (files (deleted File s x)).count z y)
        (deleted_file_removed s.dir_hash s.dir_table s.file_hash s.file_table Q RD RF T x lx) l)

  module _ (x p : ℕ) (name : List ℕ) (bn : Bytes name) (lp : LiveIn D p) where
    module _ (lx : LiveIn D x) (n1 : x ≡ 1 → ⊥) (out : x ∈ above D p → ⊥) (free : HasOther D x (name_key p name) → ⊥) where
      pub renamed_dir_told : ToldIn D (dirs (renamed Directory s x p name)) x (name_key p name)
      renamed_dir_told y l =
          let A = renamed_dir_agrees s.dir_hash s.dir_table s.file_hash s.file_table Q RD RF T x lx n1 p lp name bn in
          let K = renamed_dir_kept s.dir_hash s.dir_table s.file_hash s.file_table Q RD RF T x lx n1 p lp name bn (λ y l n e. free (y, l, n, e)) (not_above s Q S x p lp out) in
          renamed_keys D (dirs (renamed Directory s x p name)) RD x (name_key p name) A.key A.count y
          (live_known (dirs (renamed Directory s x p name)) _ RD K.dirs y l)

    module _ (lx : LiveIn F x) (free : HasOther F x (name_key p name) → ⊥) where
      fresh : (y : ℕ) → LiveIn F y → y ≢ x → F.key y ≢ name_key p name
      fresh y l n e = free (y, l, n, e)

      after_file : Tree (dirs (renamed File s x p name)) (files (renamed File s x p name)) RD RF
      after_file = renamed_file_kept s.dir_hash s.dir_table s.file_hash s.file_table Q RD RF T x lx p lp name bn fresh

      pub renamed_file_told : ToldIn F (files (renamed File s x p name)) x (name_key p name)
      renamed_file_told y l =
          let A = renamed_file_agrees s.dir_hash s.dir_table s.file_hash s.file_table Q RD RF T x lx p lp name bn fresh in
          let B = unlinked_files s.dir_hash s.dir_table s.file_hash s.file_table Q RD RF T x lx in
          renamed_keys F (files (renamed File s x p name)) RF x (name_key p name)
          (λ y h. A.key y h ∙ ap (λ z. pick (eqb y x) (name_key p name) z) (B.key y h)) (A.count ∙ B.count) y
          (live_known (files (renamed File s x p name)) _ RF after_file.files y l)

      pub renamed_file_same : SameIn D (dirs (renamed File s x p name))
      renamed_file_same =
          same_in D (dirs (renamed File s x p name)) _ _ T.dirs
          (renamed_file_dirs s.dir_hash s.dir_table s.file_hash s.file_table Q RD RF T x lx p lp name bn fresh) after_file.dirs

  module _ (p : ℕ) (name bytes : List ℕ) (bn : Bytes name) (bb : Bytes bytes) (lp : LiveIn D p) where
    module _ (free : Has D (name_key p name) → ⊥) (full : free_of D ≡ 0 → ⊥) where
      pub made_dir_told : ToldIn D (dirs (made Directory s p name bytes)) (taken D) (name_key p name)
      made_dir_told y l =
          let f : (y : ℕ) → LiveIn D y → D.key y ≢ name_key p name = λ y l e. free (y, l, e) in
          let A = made_dir_agrees s.dir_hash s.dir_table s.file_hash s.file_table Q RD RF T p lp name bytes bn bb (space D full) f in
          let K = made_dir_kept s.dir_hash s.dir_table s.file_hash s.file_table Q RD RF T p lp name bytes bn bb (space D full) f in
          taken_keys D (dirs (made Directory s p name bytes)) RD (taken D) (name_key p name) A.key (took_live D _ RD T.dirs) A.count y
          (live_known (dirs (made Directory s p name bytes)) _ (rest RD) K.dirs y l)

    module _ (free : Has F (name_key p name) → ⊥) (full : free_of F ≡ 0 → ⊥) where
      fresh_file : (y : ℕ) → LiveIn F y → F.key y ≢ name_key p name
      fresh_file y l e = free (y, l, e)

      after_made : Tree (dirs (made File s p name bytes)) (files (made File s p name bytes)) RD (rest RF)
      after_made = made_file_kept s.dir_hash s.dir_table s.file_hash s.file_table Q RD RF T p lp name bytes bn bb (space F full) fresh_file

      pub made_file_told : ToldIn F (files (made File s p name bytes)) (taken F) (name_key p name)
      made_file_told y l =
          let A = made_file_agrees s.dir_hash s.dir_table s.file_hash s.file_table Q RD RF T p lp name bytes bn bb (space F full) fresh_file in
          let B = made_file_taken s.dir_hash s.dir_table s.file_hash s.file_table Q RD RF T p lp name bytes bn bb (space F full) fresh_file in
          taken_keys F (files (made File s p name bytes)) RF (taken F) (name_key p name)
          (λ y h. A.key y h ∙ ap (λ z. pick (eqb y (taken F)) (name_key p name) z) (B.key y h)) (took_live F _ RF T.files) (A.count ∙ B.count) y
          (live_known (files (made File s p name bytes)) _ (rest RF) after_made.files y l)

      pub made_file_same : SameIn D (dirs (made File s p name bytes))
      made_file_same =
          same_in D (dirs (made File s p name bytes)) _ _ T.dirs
          (made_file_dirs s.dir_hash s.dir_table s.file_hash s.file_table Q RD RF T p lp name bytes bn bb (space F full) fresh_file) after_made.dirs

  module _ (x : ℕ) (bytes : List ℕ) (bb : Bytes bytes) where
    pub carried_dir_same : LiveIn D x → SameIn D (dirs (with_carried Directory s x bytes))
    carried_dir_same lx =
        same_in D (dirs (with_carried Directory s x bytes)) _ _ T.dirs
        (dirs_past s.dir_hash s.dir_table x 9 (word bytes 0) (omega arith) (omega arith)
        (entry_fits 40 s.dir_table x (dir_low s.dir_hash s.dir_table s.file_hash s.file_table Q RD RF T x lx.1)) (word_lt bytes bb 0))
        (carried_dir_kept s.dir_hash s.dir_table s.file_hash s.file_table Q RD RF T x lx bytes bb).dirs

    pub carried_file_same : LiveIn F x → SameIn F (files (with_carried File s x bytes))
    carried_file_same lx =
        same_in F (files (with_carried File s x bytes)) _ _ T.files
        (carried_files s.dir_table s.file_hash s.file_table x (file_low s.dir_hash s.dir_table s.file_hash s.file_table Q RD RF T x lx.1) bytes bb)
        (carried_file_kept s.dir_hash s.dir_table s.file_hash s.file_table Q RD RF T x lx bytes bb).files

  -- deletes of files leave the directories' keys
  pub deleted_file_dirs : (x : ℕ) → LiveIn F x → SameIn D (dirs (deleted File s x))
  deleted_file_dirs x lx =
      same_in D (dirs (deleted File s x)) _ _ T.dirs (unlinked_dirs s.dir_hash s.dir_table s.file_hash s.file_table Q RD RF T x lx)
      (deleted_file_kept s.dir_hash s.dir_table s.file_hash s.file_table Q RD RF T x lx).dirs
