-- Deleting a directory that has no children keeps the tree.
use mathlib.Core.Path.{◌≡◌, refl, sym, ap, ◌∙◌, subst}
use mathlib.Core.List.{List, [], ◌∷◌}
use mathlib.Core.Logic.{◌≢◌}
use Prim.Native.Nat.{ℕ, ◌-◌, ◌/◌, ◌<◌}
use native.Mathlib.Omega.{arith}
use lib.ListN.{length}
use Rattle.links.specs.Links.{◌∈◌}
use Rattle.links.specs.Change.{upd}
use Rattle.links.proofs.Laws.{kept, positive}
use Rattle.links.proofs.Held.{upd_other}
use Rattle.tree_table.specs.Field.{field, Write, write, wrote}
use Rattle.tree_table.specs.View.{View, view_of, hash_at, dir_view, file_view, parent, removed_of, Live}
use Rattle.tree_table.specs.Steps.{give_writes, copy_writes}
use Rattle.tree_table.proofs.Field.{Has, Fit, reads, length_wrote}
use Rattle.tree_table.proofs.Table.{Sound, unlink, unlinked, unlinked_next, give, gave, gave_live, not_zero}
use Rattle.tree_table.proofs.Agree.{Agree, agree_trans, table_alike, live_agree, sound_agree}
use Rattle.tree_table.proofs.Steps.{gave_field, gave_agrees}
use Rattle.tree_sound.specs.Sound.{up}
use Rattle.tree_sound.proofs.Tree.{Tree, heads, fewer_dirs, childless, not_above, root_up}
use Rattle.tree_sound.specs.Tables.{Tables, tables}
use Rattle.tree_promises.specs.declared.Kind.TheVariants.{Directory}
use Rattle.tree_promises.specs.Steps.{unlinked_from}
use Rattle.tree_kept.proofs.Tables.{field_lt, after}
use Rattle.tree_kept.proofs.Loose.{entry_fits, fit_append, fit_copy, removed_agree}
use Rattle.tree_kept.proofs.Files.{Fine}
use Rattle.tree_kept.proofs.Dirs.{unlinked_dir, unlinked_heads, unlinked_dir_fine, bucket_some, dir_parent}

module _ (dh d fh f : List ℕ) (Q : Fine dh d fh f) (RD RF : List ℕ) (T : Tree (dir_view dh d) (file_view d fh f) RD RF) (x : ℕ) (lx : Live (dir_view dh d).count RD x) (n1 : x ≢ 1) where
  abbrev D : View
  D = dir_view dh d

  abbrev F : View
  F = file_view d fh f

  abbrev s1 : Tables
  s1 = unlinked_from Directory (tables dh d fh f) x

  abbrev d1 : List ℕ
  d1 = s1.dir_table

  abbrev D1 : View
  D1 = dir_view s1.dir_hash d1

  abbrev gw : List Write
  gw = give_writes 40 (field 40 d1) x

  abbrev d2 : List ℕ
  d2 = wrote 40 d1 gw

  abbrev D2 : View
  D2 = dir_view s1.dir_hash d2

  A : Agree (unlink D x) D1
  A = unlinked_dir dh d fh f Q RD RF T x lx n1

  fine : Fine s1.dir_hash d1 fh f
  fine = unlinked_dir_fine dh d fh f Q RD RF T x lx n1

  lp : Live D.count RD (up D x)
  lp = dir_parent dh d fh f Q RD RF T x lx n1

  loose : Sound D1 (Live D.count RD) RD x
  loose =
      sound_agree (unlink D x) D1 A RD x (Live D.count RD) (Live D.count RD) (λ p. (λ l. l, λ l. l)) (λ p l. l.0)
      (unlinked D RD x lx (Live D.count RD) T.dirs (bucket_some dh d fh f Q RD RF T x lx n1) lp)

  still : Live D1.count RD x
  still = (live_agree (unlink D x) D1 A RD x).0 lx

  in_room : x < length d1 / 40
  in_room = let a = loose.count_max in let b = loose.max_room in let c = still.1 in omega arith

  fit : Fit 40 (length d1) gw
  fit =
      let e = entry_fits 40 d1 x in_room in
      fit_append 40 (length d1) (copy_writes (40 / 4 - 1) 1 (field 40 d1) x) (write x 0 (field 40 d1 0 0) ∷ write 0 0 x ∷ [])
      (fit_copy 40 (length d1) (40 / 4 - 1) 1 (field 40 d1) x e (omega arith) (λ g. field_lt 40 d1 0 g fine.dir_table))
      ((e, omega arith, field_lt 40 d1 0 0 fine.dir_table), (((let i = in_room in omega arith), omega arith, (let i = in_room in let k = fine.dir_few in omega arith)), tt))

  -- a field but the collision field, afterwards
  given : (y g : ℕ) → 0 < g → Has 40 g → field 40 d2 y g ≡ upd (λ z. field 40 d1 z g) x (field 40 d1 0 g) y
  given y g h hg = after 40 d1 gw fit y g hg ∙ gave_field 40 (field 40 d1) x y g h hg

  same : Agree (heads (give D1 x) (λ p. field 40 d2 p 7)) D2
  same =
      agree_trans (heads (give D1 x) (λ p. field 40 d2 p 7))
      (view_of (length s1.dir_hash / 4) (length d1 / 40) 1 (reads gw (field 40 d1)) (hash_at s1.dir_hash) (λ p. field 40 d2 p 7)) D2
      (gave_agrees (length s1.dir_hash / 4) (length d1 / 40) 1 (field 40 d1) (hash_at s1.dir_hash) (λ p. field 40 d2 p 7) x lx.0 40 (omega arith))
      (table_alike (length s1.dir_hash / 4) (length d1 / 40) 1 (length s1.dir_hash / 4) (length d2 / 40) (reads gw (field 40 d1)) (field 40 d2)
      (hash_at s1.dir_hash) (hash_at s1.dir_hash) (λ p. field 40 d2 p 7) (λ p. field 40 d2 p 7)
      refl (ap (λ n. n / 40) (length_wrote 40 gw d1)) (λ y g h. after 40 d1 gw fit y g (omega arith)) (λ b. refl) (λ q. refl))

  lives : (p : ℕ) → Live D.count (x ∷ RD) p → (p ≢ x) × Live D.count RD p
  lives p l = let r = (gave_live D RD x p).0 l in (r.1, r.0)

  back : (p : ℕ) → p ≢ x → Live D.count RD p → Live D.count (x ∷ RD) p
  back p n l = (gave_live D RD x p).1 (l, n)

  count_same : D2.count ≡ D.count
  count_same = same.count ∙ A.count

  -- the key of another entry afterwards
  pub deleted_dir_key : (y : ℕ) → 0 < y → y ≢ x → D2.key y ≡ D.key y
  deleted_dir_key y h n = same.key y h ∙ upd_other D1.key x (D1.key 0) y n ∙ A.key y h

  -- the table afterwards: x taken out of its lists, then given up
  pub deleted_dir_given : Agree (unlink D x) D1 × Agree (heads (give D1 x) (λ p. field 40 d2 p 7)) D2
  deleted_dir_given = (A, same)

  -- one more entry is free, whether or not x has children
  pub deleted_dir_removed : removed_of D2 ≡ x ∷ RD
  deleted_dir_removed = removed_agree (give D1 x) D2 (Live D.count RD) (x ∷ RD) (gave D1 (Live D.count RD) RD x still loose) same.count same.coll

  pub deleted_dir_count : D2.count ≡ D.count
  deleted_dir_count = count_same

  pub deleted_dir_maximum : D2.maximum ≡ D.maximum
  deleted_dir_maximum = same.maximum ∙ A.maximum

  -- x has no children
  module _ (no_dirs : D.head x ≡ 0) (no_files : F.head x ≡ 0) where
    no_own : up D x ≢ x
    no_own = childless D F RD RF T x lx n1 Q.dir_some no_dirs no_files x lx

    dirs_sound : Sound (heads (give D1 x) (λ p. field 40 d2 p 7)) (Live D.count (x ∷ RD)) (x ∷ RD) 0
    dirs_sound =
        fewer_dirs (give D1 x) (Live D.count RD) (Live D.count (x ∷ RD)) (x ∷ RD) 0 x (λ p. field 40 d2 p 7) (gave D1 (Live D.count RD) RD x still loose) lives back
        (λ p n. given p 7 (omega arith) (omega arith) ∙ upd_other (λ z. field 40 d1 z 7) x (field 40 d1 0 7) p n) lx
        (A.head x lx.0 ∙ upd_other D.head (up D x) _ x (λ (e : x ≡ up D x). no_own (sym e)) ∙ no_dirs)

    files_sound : Sound (file_view d2 fh f) (Live D.count (x ∷ RD)) RF 0
    files_sound =
        fewer_dirs F (Live D.count RD) (Live D.count (x ∷ RD)) RF 0 x (λ p. field 40 d2 p 8) T.files lives back
        (λ p n.
        given p 8 (omega arith) (omega arith) ∙ upd_other (λ z. field 40 d1 z 8) x (field 40 d1 0 8) p n
        ∙ unlinked_heads dh d fh f Q RD RF T x lx n1 p 8 (omega arith) (omega arith)) lx no_files

    -- the directories that are live are so by either count
    to : (p : ℕ) → Live D.count (x ∷ RD) p → Live D2.count (x ∷ RD) p
    to p l = (l.0, subst (λ n. p < n) (sym count_same) l.1, l.2)

    from : (p : ℕ) → Live D2.count (x ∷ RD) p → Live D.count (x ∷ RD) p
    from p l = (l.0, subst (λ n. p < n) count_same l.1, l.2)

    -- an entry but x keeps its key and its next field, as unlink left it
    key_same : (y : ℕ) → 0 < y → y ≢ x → D2.key y ≡ D.key y
    key_same y h n = same.key y h ∙ upd_other D1.key x (D1.key 0) y n ∙ A.key y h

    n1x : 1 ≢ x
    n1x e = n1 (sym e)

    pub deleted_dir_kept : Tree D2 (file_view d2 fh f) (x ∷ RD) RF
    deleted_dir_kept = record {
      dirs = sound_agree (heads (give D1 x) (λ p. field 40 d2 p 7)) D2 same (x ∷ RD) 0 (Live D.count (x ∷ RD)) (Live D2.count (x ∷ RD)) (λ p. (to p, from p)) (λ p l. l.0) dirs_sound;
      files = record {
        max_room = files_sound.max_room;
        count_one = files_sound.count_one;
        count_max = files_sound.count_max;
        removed = files_sound.removed;
        removed_below = files_sound.removed_below;
        bucket = files_sound.bucket;
        keys = files_sound.keys;
        child = λ p h. files_sound.child p (from p h);
        parents = λ y h n. to (parent (F.key y)) (files_sound.parents y h n);
      };
      dir_root = T.dir_root;
      file_root = T.file_root;
      root_live = to 1 (back 1 n1x T.root_live);
      root_key = key_same 1 (omega arith) n1x ∙ T.root_key;
      root_next =
          same.next 1 (omega arith) ∙ upd_other D1.next x (D1.next 0) 1 n1x ∙ A.next 1 (omega arith)
          ∙ unlinked_next D RD x lx (Live D.count RD) T.dirs lp 1 (λ (e : up D 1 ≡ up D x). not_zero lp.0 (sym e ∙ root_up D F RD RF T))
          ∙ T.root_next;
      reach = λ y ly.
          let w = lives y (from y ly) in
          let r = T.reach y w.1 in (
            r.0,
            kept (up D) (up D2) y r.0
                (λ z m. ap parent (key_same z (positive (up D) y r.0 r.1 z m)
                (λ (e : z ≡ x). not_above D F RD RF T x lx n1 Q.dir_some no_dirs no_files y r.0 w.1 w.0 r.1 (subst (λ u. u ∈ r.0) e m))))
                r.1,
            r.2,
          );
    }
