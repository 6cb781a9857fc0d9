-- The calls' steps on sound tables, by what they do to one table's links.
use mathlib.Core.Path.{◌≡◌, refl, sym, ap, ◌∙◌, subst, subst⁻¹}
use mathlib.Core.List.{List, [], ◌∷◌}
use mathlib.Core.Logic.{◌⊎◌, inl, inr, ⊎_elim, ◌≢◌}
use Prim.Native.Nat.{ℕ, zero, suc, ◌<◌}
use native.Mathlib.Omega.{arith}
use native.Mathlib.Nat.{mod-lt}
use Rattle.words.specs.Word.{AreBytes, word}
use Rattle.words.proofs.Laws.{word_lt}
use Rattle.links.specs.Links.{◌∈◌}
use Rattle.links.specs.Change.{upd}
use Rattle.links.proofs.Laws.{not_own}
use Rattle.links.proofs.Held.{upd_other}
use Rattle.tree_key.specs.Key.{name_key}
use Rattle.tree_key.specs.Hash.{hash_of}
use Rattle.tree_table.specs.View.{View, Live, LiveIn, parent, place, removed_of, dir_view, file_view}
use Rattle.tree_table.specs.Steps.{taken}
use Rattle.tree_table.proofs.Table.{Sound, link, unlink, take, give, rest, took_live, removed_is, not_zero}
use Rattle.tree_table.proofs.Agree.{Agree, link_agree}
use Rattle.tree_sound.proofs.Tree.{Tree, make_dir}
use Rattle.tree_sound.proofs.Equal.{tree_of}
use Rattle.tree_sound.specs.Tables.{Tables, dirs, files}
use Rattle.tree_promises.specs.declared.Kind.{Kind}
use Rattle.tree_promises.specs.declared.Kind.TheVariants.{Directory, File}
use Rattle.tree_promises.specs.Kinds.{kind_view}
use Rattle.tree_promises.specs.Steps.{made, deleted, renamed, with_carried, unlinked_from, taken_from}
use Rattle.tree_kept.proofs.Tables.{dirs_past}
use Rattle.tree_kept.proofs.Loose.{entry_fits}
use Rattle.tree_kept.proofs.Files.{
  Fine,
  dir_low,
  file_low,
  parent_live,
  unlinked_files,
  unlinked_dirs,
  deleted_file_given,
  deleted_file_removed,
  deleted_file_kept,
  renamed_file_agrees,
  renamed_file_dirs,
  renamed_file_kept,
}
use Rattle.tree_kept.proofs.MakeFile.{carried_files, carried_file_kept, made_file_agrees, made_file_taken, made_file_dirs, made_file_kept}
use Rattle.tree_kept.proofs.Dirs.{dir_parent, renamed_dir_agrees, renamed_dir_kept, carried_dir_kept}
use Rattle.tree_kept.proofs.MakeDir.{made_dir_agrees, made_dir_kept}
use Rattle.tree_kept.proofs.DeleteDir.{deleted_dir_given, deleted_dir_removed}
use Rattle.tree_kept.proofs.Kept.{space, not_above}
use Rattle.tree_history.specs.Whole.{Whole}
use Rattle.tree_history.specs.May.{MayMake, MayRename, MayDelete}
use Rattle.tree_history.proofs.Sizes.{are_bytes, fine}
use Rattle.tree_aged.specs.Age.{Newer, NoCircle, Aged}
use Rattle.tree_ages.proofs.Heights.{height, young, by_coll, by_next}
use Rattle.tree_ages.proofs.Ages.{Ages, AgesOf, ages_agree, ages_give, unlink_ages, relink_ages, make_ages, coll_here, next_here, older, link_in}

-- the entries of both tables have ages
pub record AgesIn (s : Tables) : Type 0 where
  pub of_dirs : AgesOf (dirs s) (removed_of (dirs s)) 0
  pub of_files : AgesOf (files s) (removed_of (files s)) 0

-- by the removed list that a walk finds
recount : (v : View) (Dir : ℕ → Type 0) (R : List ℕ) → Sound v Dir R 0 → AgesOf v R 0 → AgesOf v (removed_of v) 0
recount v Dir R S G = subst⁻¹ (λ (l : List ℕ). AgesOf v l 0) (removed_is v Dir R S) G

-- no file has the inode 0
no_root : {x : ℕ} → 0 < 0 → 0 ≢ x
no_root p = absurd (omega (arith, p))

module _ (s : Tables) (w : Whole s) where
  abbrev dh : List ℕ
  dh = s.dir_hash

  abbrev d : List ℕ
  d = s.dir_table

  abbrev fh : List ℕ
  fh = s.file_hash

  abbrev f : List ℕ
  f = s.file_table

  abbrev D : View
  D = dirs s

  abbrev F : View
  F = files s

  abbrev RD : List ℕ
  RD = removed_of D

  abbrev RF : List ℕ
  RF = removed_of F

  Q : Fine dh d fh f
  Q = fine s w

  T : Tree D F RD RF
  T = tree_of D F refl refl w.sound

  -- where the root is the only entry
  pub bare_ages : ((y : ℕ) → LiveIn D y → y ≡ 1) → ((y : ℕ) → LiveIn F y → ⊥) → AgesIn s
  bare_ages only none =
      let H = T.dirs.bucket (place D (D.key 1)) (mod-lt (hash_of (D.key 1)) Q.dir_some) in
      let in_it : 1 ∈ H.0 = (H.2 1).1 ((T.root_live, not_zero T.root_live.0), refl) in
      let alone : (n : ℕ) → n ≡ D.coll 1 → n ≡ 0 =
      λ n. root_alone n (λ e p. not_own D.coll 1 (D.hash (place D (D.key 1))) H.0 H.1 in_it
      (only (D.coll 1) ((H.2 (D.coll 1)).0 (link_in D.coll (D.hash (place D (D.key 1))) 1 H.0 H.1 in_it (subst (λ (z : ℕ). 0 < z) e p))).0.0))
      in
      let coll_1 : D.coll 1 ≡ 0 = alone (D.coll 1) refl in
      record {
        of_dirs = record {
          age = λ y. 0;
          clock = 1;
          young = λ y h. omega arith;
          by_coll = λ y h p. absurd (omega (arith, p, ap D.coll (only y h.0), coll_1));
          by_next = λ y h p. absurd (omega (arith, p, ap D.next (only y h.0), T.root_next));
          root_last = λ _. (coll_1, T.root_next);
        };
        of_files = record {
          age = λ y. 0;
          clock = 1;
          young = λ y h. absurd (none y h.0);
          by_coll = λ y h p. absurd (none y h.0);
          by_next = λ y h p. absurd (none y h.0);
          root_last = λ p. absurd (omega (arith, p));
        };
      }
    where
      root_alone : (n : ℕ) → (n ≡ D.coll 1 → 0 < n → ⊥) → n ≡ D.coll 1 → n ≡ 0
      root_alone zero g e = refl
      root_alone (suc n) g e = absurd (g e (omega arith))

  -- where there is no circle there are ages
  found : (v : View) (Dir : ℕ → Type 0) → 0 < v.buckets → Sound v Dir (removed_of v) 0 → NoCircle v → (0 < v.root → (v.coll v.root ≡ 0) × (v.next v.root ≡ 0))
      → AgesOf v (removed_of v) 0
  found v Dir some S none last =
      let cl : (y : ℕ) → LiveIn v y → 0 < v.coll y → LiveIn v (v.coll y) = λ y l p. (coll_here v Dir (removed_of v) some 0 S y (l, not_zero l.0) p).0 in
      let nl : (y : ℕ) → LiveIn v y → 0 < v.next y → LiveIn v (v.next y) =
      λ y l p. (next_here v Dir (removed_of v) some 0 S (λ q. (last q).1) y (l, not_zero l.0) p).0
      in
      record {
        age = height v.coll v.next (suc v.count);
        clock = suc (suc v.count);
        young = λ y h. young v.coll v.next (suc v.count) y;
        by_coll = λ y h p. by_coll v.coll v.next v.count (LiveIn v) (λ x l. l.1) cl nl none y h.0 p;
        by_next = λ y h p. by_next v.coll v.next v.count (LiveIn v) (λ x l. l.1) cl nl none y h.0 p;
        root_last = last;
      }

  pub ages_found : Aged D F → AgesIn s
  ages_found A = record {
    of_dirs = found D (Live D.count RD) Q.dir_some T.dirs A.of_dirs (λ _. (A.root_last, T.root_next));
    of_files = found F (Live D.count RD) Q.file_some T.files A.of_files (λ p. absurd (omega (arith, p)));
  }

  module _ (A : AgesIn s) where
    pub ages_make : (kind : Kind) (p : ℕ) (name bytes : List ℕ) → AreBytes name → AreBytes bytes → MayMake kind s p name → AgesIn (made kind s p name bytes)
    ages_make Directory p name bytes bn bb m =
        let fresh : (y : ℕ) → LiveIn D y → D.key y ≢ name_key p name = λ y l e. m.new_key (y, l, e) in
        let sp = space D m.space in
        let t = took_live D (Live D.count RD) RD T.dirs in
        let not_new : (y : ℕ) → Live D.count RD y → y ≢ taken D = λ y l e. t.1 (subst (λ (z : ℕ). Live D.count RD z) e l) in
        let K = made_dir_kept dh d fh f Q RD RF T p m.parent name bytes (are_bytes name bn) (are_bytes bytes bb) sp fresh in
        record {
          of_dirs =
              recount (dirs (made Directory s p name bytes)) _ (rest RD) K.dirs
              (ages_agree (make_dir D (name_key p name)) (dirs (made Directory s p name bytes)) (rest RD) 0
              (made_dir_agrees dh d fh f Q RD RF T p m.parent name bytes (are_bytes name bn) (are_bytes bytes bb) sp fresh)
              (make_ages D (Live D.count RD) RD Q.dir_some (name_key p name) (upd D.head (taken D) 0 p) sp T.dirs (λ _. not_new 1 T.root_live)
              m.parent (upd_other D.head (taken D) 0 p (not_new p m.parent)) A.of_dirs));
          of_files = A.of_files;
        }
    ages_make File p name bytes bn bb m =
        let fresh : (y : ℕ) → LiveIn F y → F.key y ≢ name_key p name = λ y l e. m.new_key (y, l, e) in
        let sp = space F m.space in
        let b = are_bytes name bn in
        let c = are_bytes bytes bb in
        let K = made_file_kept dh d fh f Q RD RF T p m.parent name bytes b c sp fresh in
        let B = made_file_taken dh d fh f Q RD RF T p m.parent name bytes b c sp fresh in
        record {
          of_dirs =
              recount (dirs (made File s p name bytes)) _ RD K.dirs
              (ages_agree D (dirs (made File s p name bytes)) RD 0 (made_file_dirs dh d fh f Q RD RF T p m.parent name bytes b c sp fresh) A.of_dirs);
          of_files =
              recount (files (made File s p name bytes)) _ (rest RF) K.files
              (ages_agree (link ((files (taken_from File s))) (taken F) (name_key p name)) (files (made File s p name bytes)) (rest RF) 0
              (made_file_agrees dh d fh f Q RD RF T p m.parent name bytes b c sp fresh)
              (ages_agree (link (take F) (taken F) (name_key p name)) (link ((files (taken_from File s))) (taken F) (name_key p name)) (rest RF) 0
              (link_agree (take F) ((files (taken_from File s))) (taken F) (name_key p name) m.parent.0 B)
              (make_ages F (Live D.count RD) RF Q.file_some (name_key p name) (F.head p) sp T.files no_root m.parent refl A.of_files)));
        }

    pub ages_rename : (kind : Kind) (x p : ℕ) (name : List ℕ) → AreBytes name → MayRename kind s x p name → AgesIn (renamed kind s x p name)
    ages_rename Directory x p name bn m =
        let b = are_bytes name bn in
        let n1 = m.not_root refl in
        let K = renamed_dir_kept dh d fh f Q RD RF T x m.subject n1 p m.parent name b (λ y l n e. m.free_key (y, l, n, e)) (not_above s Q w.sound x p m.parent (m.not_into_itself refl)) in
        record {
          of_dirs =
              recount (dirs (renamed Directory s x p name)) _ RD K.dirs
              (ages_agree (link (unlink D x) x (name_key p name)) (dirs (renamed Directory s x p name)) RD 0
              (renamed_dir_agrees dh d fh f Q RD RF T x m.subject n1 p m.parent name b)
              (relink_ages D (Live D.count RD) RD Q.dir_some x (name_key p name) m.subject T.dirs (λ _ e. n1 (sym e))
              (dir_parent dh d fh f Q RD RF T x m.subject n1) m.parent A.of_dirs));
          of_files = A.of_files;
        }
    ages_rename File x p name bn m =
        let b = are_bytes name bn in
        let fresh : (y : ℕ) → LiveIn F y → y ≢ x → F.key y ≢ name_key p name = λ y l n e. m.free_key (y, l, n, e) in
        let K = renamed_file_kept dh d fh f Q RD RF T x m.subject p m.parent name b fresh in
        record {
          of_dirs =
              recount (dirs (renamed File s x p name)) _ RD K.dirs
              (ages_agree D (dirs (renamed File s x p name)) RD 0 (renamed_file_dirs dh d fh f Q RD RF T x m.subject p m.parent name b fresh) A.of_dirs);
          of_files =
              recount (files (renamed File s x p name)) _ RF K.files
              (ages_agree (link (files (unlinked_from File s x)) x (name_key p name)) (files (renamed File s x p name)) RF 0
              (renamed_file_agrees dh d fh f Q RD RF T x m.subject p m.parent name b fresh)
              (ages_agree (link (unlink F x) x (name_key p name)) (link (files (unlinked_from File s x)) x (name_key p name)) RF 0
              (link_agree (unlink F x) (files (unlinked_from File s x)) x (name_key p name) m.parent.0 (unlinked_files dh d fh f Q RD RF T x m.subject))
              (relink_ages F (Live D.count RD) RF Q.file_some x (name_key p name) m.subject T.files no_root
              (parent_live dh d fh f Q RD RF T x m.subject) m.parent A.of_files)));
        }

    pub ages_delete : (kind : Kind) (opens : List ℕ) (x : ℕ) → MayDelete kind s opens x → AgesIn (deleted kind s x)
    ages_delete Directory opens x m =
        let n1 = m.not_root refl in
        let lx = m.subject in
        let v1 = dirs (unlinked_from Directory s x) in
        let g = deleted_dir_given dh d fh f Q RD RF T x lx n1 in
        record {
          of_dirs =
              subst⁻¹ (λ (l : List ℕ). AgesOf (dirs (deleted Directory s x)) l 0) (deleted_dir_removed dh d fh f Q RD RF T x lx n1)
              (ages_agree _ (dirs (deleted Directory s x)) (x ∷ RD) 0 g.1
              (ages_give v1.count v1.root v1.coll v1.next RD x (v1.coll 0) (v1.next 0) (λ _ e. n1 (sym e))
              (ages_agree (unlink D x) v1 RD x g.0
              (unlink_ages D (Live D.count RD) RD Q.dir_some x lx T.dirs (dir_parent dh d fh f Q RD RF T x lx n1) A.of_dirs))));
          of_files = A.of_files;
        }
    ages_delete File opens x m =
        let lx = m.subject in
        let v1 = files (unlinked_from File s x) in
        record {
          of_dirs =
              recount (dirs (deleted File s x)) _ RD (deleted_file_kept dh d fh f Q RD RF T x lx).dirs
              (ages_agree D (dirs (deleted File s x)) RD 0 (unlinked_dirs dh d fh f Q RD RF T x lx) A.of_dirs);
          of_files =
              subst⁻¹ (λ (l : List ℕ). AgesOf (files (deleted File s x)) l 0) (deleted_file_removed dh d fh f Q RD RF T x lx)
              (ages_agree (give v1 x) (files (deleted File s x)) (x ∷ RF) 0 (deleted_file_given dh d fh f Q RD RF T x lx)
              (ages_give v1.count v1.root v1.coll v1.next RF x (v1.coll 0) (v1.next 0) no_root
              (ages_agree (unlink F x) v1 RF x (unlinked_files dh d fh f Q RD RF T x lx)
              (unlink_ages F (Live D.count RD) RF Q.file_some x lx T.files (parent_live dh d fh f Q RD RF T x lx) A.of_files))));
        }

    pub ages_carry : (kind : Kind) (x : ℕ) (bytes : List ℕ) → AreBytes bytes → LiveIn (kind_view kind s) x → AgesIn (with_carried kind s x bytes)
    ages_carry Directory x bytes bb lx =
        let b = are_bytes bytes bb in
        record {
          of_dirs =
              recount (dirs (with_carried Directory s x bytes)) _ RD (carried_dir_kept dh d fh f Q RD RF T x lx bytes b).dirs
              (ages_agree D (dirs (with_carried Directory s x bytes)) RD 0
              (dirs_past dh d x 9 (word bytes 0) (omega arith) (omega arith) (entry_fits 40 d x (dir_low dh d fh f Q RD RF T x lx.1)) (word_lt bytes b 0))
              A.of_dirs);
          of_files = A.of_files;
        }
    ages_carry File x bytes bb lx =
        let b = are_bytes bytes bb in
        record {
          of_dirs = A.of_dirs;
          of_files =
              recount (files (with_carried File s x bytes)) _ RF (carried_file_kept dh d fh f Q RD RF T x lx bytes b).files
              (ages_agree F (files (with_carried File s x bytes)) RF 0 (carried_files d fh f x (file_low dh d fh f Q RD RF T x lx.1) bytes b) A.of_files);
        }

    -- what ages shut out
    circle_free : (v : View) (Dir : ℕ → Type 0) → 0 < v.buckets → Sound v Dir (removed_of v) 0 → AgesOf v (removed_of v) 0 → NoCircle v
    circle_free v Dir some S G x l r =
        let a =
        older v.count v.root v.coll v.next (removed_of v) G (λ y h p. (coll_here v Dir (removed_of v) some 0 S y (h, not_zero h.0) p).0)
        (λ y h p. (next_here v Dir (removed_of v) some 0 S (λ q. (G.root_last q).1) y (h, not_zero h.0) p).0) r l
        in
        omega (arith, a.0)

    pub aged_of : Aged D F
    aged_of = record {
      of_dirs = circle_free D (Live D.count RD) Q.dir_some T.dirs A.of_dirs;
      of_files = circle_free F (Live D.count RD) Q.file_some T.files A.of_files;
      root_last = (A.of_dirs.root_last (omega arith)).0;
    }
