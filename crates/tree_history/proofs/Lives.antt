-- Who stays live: a step takes no entry away but the one that a delete gives up.
use mathlib.Core.Path.{◌≡◌, refl, sym, ◌∙◌, subst⁻¹}
use mathlib.Core.List.{List, ◌∷◌}
use mathlib.Core.Logic.{inl, inr, ◌≢◌}
use Prim.Native.Nat.{ℕ}
use native.Mathlib.Omega.{arith}
use Rattle.words.specs.Word.{word, AreBytes}
use Rattle.words.proofs.Laws.{word_lt}
use Rattle.tree_key.specs.Key.{name_key}
use Rattle.tree_table.specs.View.{View, Live, LiveIn, removed_of}
use Rattle.tree_table.specs.Steps.{taken}
use Rattle.tree_table.proofs.Table.{Sound, rest, take, Took, took_live, gave_live, removed_is}
use Rattle.tree_table.proofs.Agree.{Agree, live_agree}
use Rattle.tree_sound.proofs.Tree.{Tree}
use Rattle.tree_sound.proofs.Equal.{tree_of}
use Rattle.tree_sound.specs.Tables.{Tables, dirs, files}
use Rattle.tree_promises.specs.declared.Kind.{Kind}
use Rattle.tree_promises.specs.declared.Kind.TheVariants.{Directory, File}
use Rattle.tree_promises.specs.Kinds.{kind_view}
use Rattle.tree_promises.specs.Steps.{made, deleted, renamed, with_carried}
use Rattle.tree_kept.proofs.Tables.{dirs_past}
use Rattle.tree_kept.proofs.Loose.{entry_fits}
use Rattle.tree_kept.proofs.Files.{
  Fine,
  file_low,
  dir_low,
  unlinked_files,
  unlinked_dirs,
  deleted_file_removed,
  deleted_file_count,
  deleted_file_kept,
  renamed_file_agrees,
  renamed_file_dirs,
  renamed_file_kept,
}
use Rattle.tree_kept.proofs.MakeFile.{carried_files, carried_file_kept, made_file_agrees, made_file_taken, made_file_dirs, made_file_kept}
use Rattle.tree_kept.proofs.Dirs.{renamed_dir_agrees, renamed_dir_kept, carried_dir_kept}
use Rattle.tree_kept.proofs.MakeDir.{made_dir_agrees, made_dir_kept}
use Rattle.tree_kept.proofs.DeleteDir.{deleted_dir_removed, deleted_dir_count}
use Rattle.tree_kept.proofs.Kept.{space, not_above}
use Rattle.tree_history.specs.Whole.{Whole}
use Rattle.tree_history.specs.May.{MayMake, MayRename, MayDelete}
use Rattle.tree_history.proofs.Sizes.{are_bytes, fine}

-- live by the removed list that is known, and by the one that a walk finds
known_live : (v : View) (Dir : ℕ → Type 0) (R : List ℕ) → Sound v Dir R 0 → (y : ℕ) → Live v.count R y → LiveIn v y
known_live v Dir R S y l = subst⁻¹ (λ z. Live v.count z y) (removed_is v Dir R S) l

-- a view that agrees with one before
still_live : (v v' : View) (Dir : ℕ → Type 0) → Agree v v' → Sound v' Dir (removed_of v) 0 → (y : ℕ) → LiveIn v y → LiveIn v' y
still_live v v' Dir A B y l = known_live v' Dir (removed_of v) B y ((live_agree v v' A (removed_of v) y).0 l)

-- a view with as many entries
counted_live : (v v' : View) (Dir : ℕ → Type 0) (R : List ℕ) → v'.count ≡ v.count → Sound v' Dir R 0 → (y : ℕ) → Live v.count R y → LiveIn v' y
counted_live v v' Dir R c B y l = known_live v' Dir R B y (subst⁻¹ (λ n. Live n R y) c l)

-- a view in which an entry was taken: the others, and that one
module _ (v v' : View) (Dir : ℕ → Type 0) (R : List ℕ) (x : ℕ) (t : Took v R (rest R) x (take v).count) (c : v'.count ≡ (take v).count) (B : Sound v' Dir (rest R) 0) where
  others_live : (y : ℕ) → Live v.count R y → LiveIn v' y
  others_live y l =
      known_live v' Dir (rest R) B y
      (subst⁻¹ (λ n. Live n (rest R) y) c ((t.2 y).1 (inr ((λ (e : y ≡ x). t.1 (subst⁻¹ (λ z. Live v.count R z) (sym e) l)), l))))

  new_live : LiveIn v' x
  new_live = known_live v' Dir (rest R) B x (subst⁻¹ (λ n. Live n (rest R) x) c ((t.2 x).1 (inl refl)))

-- every live entry of both tables stays live
abbrev pub AllLive : (s s' : Tables) → Type 0
AllLive s s' = (k : Kind) (y : ℕ) → LiveIn (kind_view k s) y → LiveIn (kind_view k s') y

module _ (s : Tables) (w : Whole s) where
  abbrev D : View
  D = dirs s

  abbrev F : View
  F = files s

  abbrev RD : List ℕ
  RD = removed_of D

  abbrev RF : List ℕ
  RF = removed_of F

  T : Tree D F RD RF
  T = tree_of D F refl refl w.sound

  abbrev dh : List ℕ
  dh = s.dir_hash

  abbrev d : List ℕ
  d = s.dir_table

  abbrev fh : List ℕ
  fh = s.file_hash

  abbrev f : List ℕ
  f = s.file_table

  Q : Fine dh d fh f
  Q = fine s w

  pub live_carry : (kind : Kind) (x : ℕ) (bytes : List ℕ) → AreBytes bytes → LiveIn (kind_view kind s) x → AllLive s (with_carried kind s x bytes)
  live_carry Directory x bytes bb lx Directory y l =
      still_live D (dirs (with_carried Directory s x bytes)) _
      (dirs_past dh d x 9 (word bytes 0) (omega arith) (omega arith) (entry_fits 40 d x (dir_low dh d fh f Q RD RF T x lx.1)) (word_lt bytes (are_bytes bytes bb) 0))
      (carried_dir_kept dh d fh f Q RD RF T x lx bytes (are_bytes bytes bb)).dirs y l
  live_carry Directory x bytes bb lx File y l = l
  live_carry File x bytes bb lx Directory y l = l
  live_carry File x bytes bb lx File y l =
      still_live F (files (with_carried File s x bytes)) _ (carried_files d fh f x (file_low dh d fh f Q RD RF T x lx.1) bytes (are_bytes bytes bb))
      (carried_file_kept dh d fh f Q RD RF T x lx bytes (are_bytes bytes bb)).files y l

  pub live_delete : (kind : Kind) (opens : List ℕ) (x : ℕ) → MayDelete kind s opens x → (k : Kind) (y : ℕ) → (k ≡ kind → y ≡ x → ⊥)
      → LiveIn (kind_view k s) y → LiveIn (kind_view k (deleted kind s x)) y
  live_delete Directory opens x m Directory y n l =
      subst⁻¹ (λ z. Live (dirs (deleted Directory s x)).count z y) (deleted_dir_removed dh d fh f Q RD RF T x m.subject (m.not_root refl))
      (subst⁻¹ (λ z. Live z (x ∷ RD) y) (deleted_dir_count dh d fh f Q RD RF T x m.subject (m.not_root refl)) ((gave_live D RD x y).1 (l, n refl)))
  live_delete Directory opens x m File y n l = l
  live_delete File opens x m Directory y n l =
      still_live D (dirs (deleted File s x)) _ (unlinked_dirs dh d fh f Q RD RF T x m.subject) (deleted_file_kept dh d fh f Q RD RF T x m.subject).dirs y l
  live_delete File opens x m File y n l =
      subst⁻¹ (λ z. Live (files (deleted File s x)).count z y) (deleted_file_removed dh d fh f Q RD RF T x m.subject)
      (subst⁻¹ (λ z. Live z (x ∷ RF) y) (deleted_file_count dh d fh f Q RD RF T x m.subject) ((gave_live F RF x y).1 (l, n refl)))

  pub live_rename : (kind : Kind) (x p : ℕ) (name : List ℕ) → AreBytes name → MayRename kind s x p name → AllLive s (renamed kind s x p name)
  live_rename Directory x p name bn m Directory y l =
      let b = are_bytes name bn in
      let A = renamed_dir_agrees dh d fh f Q RD RF T x m.subject (m.not_root refl) p m.parent name b in
      let K = renamed_dir_kept dh d fh f Q RD RF T x m.subject (m.not_root refl) p m.parent name b (λ y l n e. m.free_key (y, l, n, e)) (not_above s Q w.sound x p m.parent (m.not_into_itself refl)) in
      counted_live D (dirs (renamed Directory s x p name)) _ RD A.count K.dirs y l
  live_rename Directory x p name bn m File y l = l
  live_rename File x p name bn m Directory y l =
      let b = are_bytes name bn in
      let g : (y : ℕ) → LiveIn F y → y ≢ x → F.key y ≢ name_key p name = λ y l n e. m.free_key (y, l, n, e) in
      still_live D (dirs (renamed File s x p name)) _ (renamed_file_dirs dh d fh f Q RD RF T x m.subject p m.parent name b g)
      (renamed_file_kept dh d fh f Q RD RF T x m.subject p m.parent name b g).dirs y l
  live_rename File x p name bn m File y l =
      let b = are_bytes name bn in
      let g : (y : ℕ) → LiveIn F y → y ≢ x → F.key y ≢ name_key p name = λ y l n e. m.free_key (y, l, n, e) in
      let A = renamed_file_agrees dh d fh f Q RD RF T x m.subject p m.parent name b g in
      let B = unlinked_files dh d fh f Q RD RF T x m.subject in
      counted_live F (files (renamed File s x p name)) _ RF (A.count ∙ B.count) (renamed_file_kept dh d fh f Q RD RF T x m.subject p m.parent name b g).files y l

  module _ (p : ℕ) (name bytes : List ℕ) (bn : AreBytes name) (bb : AreBytes bytes) where
    module _ (m : MayMake Directory s p name) where
      g_dir : (y : ℕ) → LiveIn D y → D.key y ≢ name_key p name
      g_dir y l e = m.new_key (y, l, e)

      dir_parts : ((y : ℕ) → LiveIn D y → LiveIn (dirs (made Directory s p name bytes)) y) × LiveIn (dirs (made Directory s p name bytes)) (taken D)
      dir_parts =
          let A = made_dir_agrees dh d fh f Q RD RF T p m.parent name bytes (are_bytes name bn) (are_bytes bytes bb) (space D m.space) g_dir in
          let K = made_dir_kept dh d fh f Q RD RF T p m.parent name bytes (are_bytes name bn) (are_bytes bytes bb) (space D m.space) g_dir in
          let t = took_live D _ RD T.dirs in (
            others_live D (dirs (made Directory s p name bytes)) _ RD (taken D) t A.count K.dirs,
            new_live D (dirs (made Directory s p name bytes)) _ RD (taken D) t A.count K.dirs,
          )

    module _ (m : MayMake File s p name) where
      g_file : (y : ℕ) → LiveIn F y → F.key y ≢ name_key p name
      g_file y l e = m.new_key (y, l, e)

      after : Tree (dirs (made File s p name bytes)) (files (made File s p name bytes)) RD (rest RF)
      after = made_file_kept dh d fh f Q RD RF T p m.parent name bytes (are_bytes name bn) (are_bytes bytes bb) (space F m.space) g_file

      file_parts : ((y : ℕ) → LiveIn F y → LiveIn (files (made File s p name bytes)) y) × LiveIn (files (made File s p name bytes)) (taken F)
      file_parts =
          let A = made_file_agrees dh d fh f Q RD RF T p m.parent name bytes (are_bytes name bn) (are_bytes bytes bb) (space F m.space) g_file in
          let B = made_file_taken dh d fh f Q RD RF T p m.parent name bytes (are_bytes name bn) (are_bytes bytes bb) (space F m.space) g_file in
          let t = took_live F _ RF T.files in (
            others_live F (files (made File s p name bytes)) _ RF (taken F) t (A.count ∙ B.count) after.files,
            new_live F (files (made File s p name bytes)) _ RF (taken F) t (A.count ∙ B.count) after.files,
          )

      dirs_too : (y : ℕ) → LiveIn D y → LiveIn (dirs (made File s p name bytes)) y
      dirs_too =
          still_live D (dirs (made File s p name bytes)) _
          (made_file_dirs dh d fh f Q RD RF T p m.parent name bytes (are_bytes name bn) (are_bytes bytes bb) (space F m.space) g_file) after.dirs

    pub live_make : (kind : Kind) → MayMake kind s p name → AllLive s (made kind s p name bytes)
    live_make Directory m Directory y l = (dir_parts m).0 y l
    live_make Directory m File y l = l
    live_make File m Directory y l = dirs_too m y l
    live_make File m File y l = (file_parts m).0 y l

    pub live_new : (kind : Kind) → MayMake kind s p name → LiveIn (kind_view kind (made kind s p name bytes)) (taken (kind_view kind s))
    live_new Directory m = (dir_parts m).1
    live_new File m = (file_parts m).1
