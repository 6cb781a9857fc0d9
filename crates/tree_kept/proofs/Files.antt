-- The steps on files keep the tree.
use mathlib.Core.Path.{◌≡◌, refl, sym, ap, ◌∙◌, subst}
use mathlib.Core.List.{List, [], ◌∷◌}
use mathlib.Core.Logic.{◌≢◌}
use mathlib.Core.Bool.{Bool, true, false}
use Prim.Native.Nat.{ℕ, ◌-◌, ◌/◌, ◌^◌, ◌≤◌, ◌<◌}
use native.Mathlib.Omega.{arith}
use native.Mathlib.Nat.{mod-lt}
use lib.Dec.{eqb}
use lib.ListN.{length}
use Rattle.words.specs.Word.{word}
use Rattle.words.proofs.Laws.{Bytes, word_lt}
use Rattle.links.specs.Change.{pick, upd}
use Rattle.links.proofs.Held.{upd_other}
use Rattle.tree_key.specs.Key.{name_key}
use Rattle.tree_key.specs.Hash.{hash_of}
use Rattle.tree_table.specs.Field.{field, Write, write, wrote}
use Rattle.tree_table.specs.View.{View, view_of, hash_at, dir_view, file_view, parent, place, removed_of, Live}
use Rattle.tree_table.specs.Steps.{bucket_before, child_before, cut_writes, head_writes, give_writes, copy_writes}
use Rattle.tree_table.proofs.Field.{Fit, reads, length_wrote}
use Rattle.tree_table.proofs.Table.{Sound, link, linked, unlink, unlinked, give, gave, not_zero}
use Rattle.tree_table.proofs.Agree.{Agree, agree_refl, agree_trans, table_alike, live_agree, sound_agree}
use Rattle.tree_table.proofs.Steps.{unlink_agrees, link_writes, gave_agrees}
use Rattle.tree_sound.proofs.Tree.{Tree}
use Rattle.tree_sound.specs.Tables.{Tables, tables}
use Rattle.tree_promises.specs.declared.Kind.TheVariants.{File}
use Rattle.tree_promises.specs.Steps.{cut, entered, unlinked_from, linked_to, deleted, renamed}
use Rattle.tree_kept.proofs.Tables.{bytes_wrote, field_lt, after, dirs_past, heads_after}
use Rattle.tree_kept.proofs.Loose.{entry_fits, before_low, fit_append, fit_cut, fit_copy, tree_files, removed_agree}

-- four tables of bytes with fitting sizes
pub record Fine (dh d fh f : List ℕ) : Type 0 where
  pub dir_hash : Bytes dh
  pub dir_table : Bytes d
  pub file_hash : Bytes fh
  pub file_table : Bytes f
  pub dir_few : length d / 40 ≤ 65536
  pub file_few : length f / 48 ≤ 65536
  pub dir_some : 0 < length dh / 4
  pub file_some : 0 < length fh / 4

-- ---- unlink

module _ (dh d fh f : List ℕ) (Q : Fine dh d fh f) (RD RF : List ℕ) (T : Tree (dir_view dh d) (file_view d fh f) RD RF) where
  abbrev D : View
  D = dir_view dh d

  abbrev F : View
  F = file_view d fh f

  pub file_low : (y : ℕ) → y < F.count → y < length f / 48
  file_low y h = let a = T.files.count_max in let b = T.files.max_room in omega arith

  pub dir_low : (y : ℕ) → y < D.count → y < length d / 40
  dir_low y h = let a = T.dirs.count_max in let b = T.dirs.max_room in omega arith

  module _ (x : ℕ) (lx : Live F.count RF x) where
    abbrev p : ℕ
    p = parent (F.key x)

    abbrev b : ℕ
    b = place F (F.key x)

    hb : b < length fh / 4
    hb = mod-lt (hash_of (F.key x)) Q.file_some

    pub parent_live : Live D.count RD p
    parent_live = T.files.parents x (lx, not_zero lx.0) (λ e. not_zero lx.0 (e ∙ T.file_root))

    bucket_low : bucket_before F x < F.count
    bucket_low =
        let H = T.files.bucket b hb in
        before_low F (Live D.count RD) RF T.files F.coll (F.hash b) (λ y. place F (F.key y) ≡ b) H x ((H.2 x).1 ((lx, not_zero lx.0), refl))

    child_low : child_before F x < F.count
    child_low =
        let H = T.files.child p parent_live in
        before_low F (Live D.count RD) RF T.files F.next (F.head p) (λ y. parent (F.key y) ≡ p) H x ((H.2 x).1 ((lx, not_zero lx.0), refl))

    abbrev s1 : Tables
    s1 = unlinked_from File (tables dh d fh f) x

    pub unlinked_dirs : Agree D (dir_view dh s1.dir_table)
    unlinked_dirs = go (eqb (child_before F x) 0)
      where
        go : (u : Bool) → Agree D (dir_view dh (wrote 40 d (head_writes u p 8 (F.next x))))
        go true =
            dirs_past dh d p 8 (F.next x) (omega arith) (omega arith) (entry_fits 40 d p (dir_low p parent_live.1)) (field_lt 48 f x 6 Q.file_table)
        go false = agree_refl D

    fit : Fit 48 (length f) (cut F x)
    fit =
        fit_append 48 (length f) (cut_writes (eqb (bucket_before F x) 0) (bucket_before F x) 0 (F.coll x)) (cut_writes (eqb (child_before F x) 0) (child_before F x) 6 (F.next x))
        (fit_cut 48 (length f) (eqb (bucket_before F x) 0) (bucket_before F x) 0 (F.coll x) (entry_fits 48 f (bucket_before F x) (file_low (bucket_before F x) bucket_low)) (omega arith) (field_lt 48 f x 0 Q.file_table))
        (fit_cut 48 (length f) (eqb (child_before F x) 0) (child_before F x) 6 (F.next x) (entry_fits 48 f (child_before F x) (file_low (child_before F x) child_low)) (omega arith) (field_lt 48 f x 6 Q.file_table))

    pub unlinked_files : Agree (unlink F x) (file_view s1.dir_table s1.file_hash s1.file_table)
    unlinked_files =
        agree_trans (unlink F x)
        (view_of (length fh / 4) (length f / 48) 0 (reads (cut F x) (field 48 f)) (pick (eqb (bucket_before F x) 0) (upd (hash_at fh) b (F.coll x)) (hash_at fh))
        (pick (eqb (child_before F x) 0) (upd F.head p (F.next x)) F.head))
        (file_view s1.dir_table s1.file_hash s1.file_table)
        (unlink_agrees (length fh / 4) (length f / 48) 0 (field 48 f) (hash_at fh) F.head x)
        (table_alike (length fh / 4) (length f / 48) 0 (length s1.file_hash / 4) (length s1.file_table / 48) (reads (cut F x) (field 48 f)) (field 48 s1.file_table)
        (pick (eqb (bucket_before F x) 0) (upd (hash_at fh) b (F.coll x)) (hash_at fh)) (hash_at s1.file_hash)
        (pick (eqb (child_before F x) 0) (upd F.head p (F.next x)) F.head) (λ y. field 40 s1.dir_table y 8)
        (ap (λ n. n / 4) (length_wrote 4 (head_writes (eqb (bucket_before F x) 0) b 0 (F.coll x)) fh)) (ap (λ n. n / 48) (length_wrote 48 (cut F x) f))
        (λ y g h. after 48 f (cut F x) fit y g (omega arith))
        (λ y. heads_after 4 fh (eqb (bucket_before F x) 0) b 0 (F.coll x) (entry_fits 4 fh b hb) (omega arith) (field_lt 48 f x 0 Q.file_table) y)
        (λ y. heads_after 40 d (eqb (child_before F x) 0) p 8 (F.next x) (entry_fits 40 d p (dir_low p parent_live.1)) (omega arith) (field_lt 48 f x 6 Q.file_table) y))

    -- with x loose
    pub unlinked_sound : Sound (file_view s1.dir_table s1.file_hash s1.file_table) (Live D.count RD) RF x
    unlinked_sound =
        sound_agree (unlink F x) (file_view s1.dir_table s1.file_hash s1.file_table) unlinked_files RF x (Live D.count RD) (Live D.count RD) (λ p. (λ l. l, λ l. l)) (λ p l. l.0)
        (unlinked F RF x lx (Live D.count RD) T.files hb parent_live)

-- ---- link

module _ (dh d fh f : List ℕ) (Q : Fine dh d fh f) (x p : ℕ) (name : List ℕ) (bn : Bytes name) (hx : 0 < x) (fx : x < length f / 48) (fp : p < length d / 40) where
  abbrev F1 : View
  F1 = file_view d fh f

  abbrev s2 : Tables
  s2 = linked_to File (tables dh d fh f) x p name

  x_lt : x < 2 ^ 32
  x_lt = let a = Q.file_few in omega arith

  p_lt : p < 2 ^ 32
  p_lt = let a = Q.dir_few in omega arith

  abbrev first : ℕ
  first = F1.hash (place F1 (name_key p name))

  pub linked_dirs : Agree (dir_view dh d) (dir_view dh s2.dir_table)
  linked_dirs = dirs_past dh d p 8 x (omega arith) (omega arith) (entry_fits 40 d p fp) x_lt

  link_fit : Fit 48 (length f) (entered F1 x p name)
  link_fit =
      let e = entry_fits 48 f x fx in (
        (e, omega arith, p_lt),
        (
          (e, omega arith, word_lt name bn 0),
          (
            (e, omega arith, word_lt name bn 4),
            (
              (e, omega arith, word_lt name bn 8),
              (
                (e, omega arith, word_lt name bn 12),
                ((e, omega arith, field_lt 40 d p 8 Q.dir_table), ((e, omega arith, field_lt 4 fh (place F1 (name_key p name)) 0 Q.file_hash), tt)),
              ),
            ),
          ),
        ),
      )

  pub linked_files : Agree (link F1 x (name_key p name)) (file_view s2.dir_table s2.file_hash s2.file_table)
  linked_files =
      agree_trans (link F1 x (name_key p name))
      (view_of (length fh / 4) (length f / 48) 0 (reads (entered F1 x p name) (field 48 f)) (upd (hash_at fh) (place F1 (name_key p name)) x) (upd F1.head p x))
      (file_view s2.dir_table s2.file_hash s2.file_table)
      (link_writes (length fh / 4) (length f / 48) 0 (field 48 f) (hash_at fh) F1.head x p (word name 0) (word name 4) (word name 8) (word name 12) hx (reads (entered F1 x p name) (field 48 f))
      (λ y. (refl, refl)) (λ y. (refl, refl, refl, refl, refl)))
      (table_alike (length fh / 4) (length f / 48) 0 (length s2.file_hash / 4) (length s2.file_table / 48) (reads (entered F1 x p name) (field 48 f)) (field 48 s2.file_table)
      (upd (hash_at fh) (place F1 (name_key p name)) x) (hash_at s2.file_hash) (upd F1.head p x) (λ y. field 40 s2.dir_table y 8)
      (ap (λ n. n / 4) (length_wrote 4 (write (place F1 (name_key p name)) 0 x ∷ []) fh)) (ap (λ n. n / 48) (length_wrote 48 (entered F1 x p name) f))
      (λ y g h. after 48 f (entered F1 x p name) link_fit y g (omega arith))
      (λ y. heads_after 4 fh true (place F1 (name_key p name)) 0 x (entry_fits 4 fh (place F1 (name_key p name)) (mod-lt (hash_of (name_key p name)) Q.file_some)) (omega arith) x_lt y)
      (λ y. heads_after 40 d true p 8 x (entry_fits 40 d p fp) (omega arith) x_lt y))

-- ---- sizes stay

pub fine_wrote : (dh d fh f : List ℕ) (a b c e : List Write) → Fine dh d fh f → Fine (wrote 4 dh a) (wrote 40 d b) (wrote 4 fh c) (wrote 48 f e)
fine_wrote dh d fh f a b c e Q = record {
  dir_hash = bytes_wrote 4 a dh Q.dir_hash;
  dir_table = bytes_wrote 40 b d Q.dir_table;
  file_hash = bytes_wrote 4 c fh Q.file_hash;
  file_table = bytes_wrote 48 e f Q.file_table;
  dir_few = subst (λ n. n / 40 ≤ 65536) (sym (length_wrote 40 b d)) Q.dir_few;
  file_few = subst (λ n. n / 48 ≤ 65536) (sym (length_wrote 48 e f)) Q.file_few;
  dir_some = subst (λ n. 0 < n / 4) (sym (length_wrote 4 a dh)) Q.dir_some;
  file_some = subst (λ n. 0 < n / 4) (sym (length_wrote 4 c fh)) Q.file_some;
}

-- ---- rename and delete of a file

module _ (dh d fh f : List ℕ) (Q : Fine dh d fh f) (RD RF : List ℕ) (T : Tree (dir_view dh d) (file_view d fh f) RD RF) (x : ℕ) (lx : Live (file_view d fh f).count RF x) where
  abbrev t1 : Tables
  t1 = unlinked_from File (tables dh d fh f) x

  abbrev G : View
  G = file_view t1.dir_table t1.file_hash t1.file_table

  fine : Fine dh t1.dir_table t1.file_hash t1.file_table
  fine =
      fine_wrote dh d fh f [] (head_writes (eqb (child_before (file_view d fh f) x) 0) (parent ((file_view d fh f).key x)) 8 ((file_view d fh f).next x))
      (head_writes (eqb (bucket_before (file_view d fh f) x) 0) (place (file_view d fh f) ((file_view d fh f).key x)) 0 ((file_view d fh f).coll x)) (cut (file_view d fh f) x) Q

  same : Agree (unlink (file_view d fh f) x) G
  same = unlinked_files dh d fh f Q RD RF T x lx

  still : Live G.count RF x
  still = (live_agree (unlink (file_view d fh f) x) G same RF x).0 lx

  loose : Sound G (Live (dir_view dh d).count RD) RF x
  loose = unlinked_sound dh d fh f Q RD RF T x lx

  in_room : x < length t1.file_table / 48
  in_room = let a = loose.count_max in let b = loose.max_room in let c = still.1 in omega arith

  abbrev G2 : View
  G2 = file_view t1.dir_table t1.file_hash (wrote 48 t1.file_table (give_writes 48 (field 48 t1.file_table) x))

  give_fit : Fit 48 (length t1.file_table) (give_writes 48 (field 48 t1.file_table) x)
  give_fit =
      let e = entry_fits 48 t1.file_table x in_room in
      fit_append 48 (length t1.file_table) (copy_writes (48 / 4 - 1) 1 (field 48 t1.file_table) x) (write x 0 (field 48 t1.file_table 0 0) ∷ write 0 0 x ∷ [])
      (fit_copy 48 (length t1.file_table) (48 / 4 - 1) 1 (field 48 t1.file_table) x e (omega arith) (λ g. field_lt 48 t1.file_table 0 g fine.file_table))
      ((e, omega arith, field_lt 48 t1.file_table 0 0 fine.file_table), (((let i = in_room in omega arith), omega arith, (let i = in_room in let k = fine.file_few in omega arith)), tt))

  gave_same : Agree (give G x) (file_view t1.dir_table t1.file_hash (wrote 48 t1.file_table (give_writes 48 (field 48 t1.file_table) x)))
  gave_same =
      agree_trans (give G x)
      (view_of (length t1.file_hash / 4) (length t1.file_table / 48) 0 (reads (give_writes 48 (field 48 t1.file_table) x) (field 48 t1.file_table)) (hash_at t1.file_hash) G.head)
      (file_view t1.dir_table t1.file_hash (wrote 48 t1.file_table (give_writes 48 (field 48 t1.file_table) x)))
      (gave_agrees (length t1.file_hash / 4) (length t1.file_table / 48) 0 (field 48 t1.file_table) (hash_at t1.file_hash) G.head x lx.0 48 (omega arith))
      (table_alike (length t1.file_hash / 4) (length t1.file_table / 48) 0 (length t1.file_hash / 4)
      (length (wrote 48 t1.file_table (give_writes 48 (field 48 t1.file_table) x)) / 48)
      (reads (give_writes 48 (field 48 t1.file_table) x) (field 48 t1.file_table)) (field 48 (wrote 48 t1.file_table (give_writes 48 (field 48 t1.file_table) x)))
      (hash_at t1.file_hash) (hash_at t1.file_hash) G.head G.head
      refl (ap (λ n. n / 48) (length_wrote 48 (give_writes 48 (field 48 t1.file_table) x) t1.file_table))
      (λ y g h. after 48 t1.file_table (give_writes 48 (field 48 t1.file_table) x) give_fit y g (omega arith)) (λ b. refl) (λ q. refl))

  -- the key of another entry afterwards
  pub deleted_file_key : (y : ℕ) → 0 < y → y ≢ x → G2.key y ≡ (file_view d fh f).key y
  deleted_file_key y h n = gave_same.key y h ∙ upd_other G.key x (G.key 0) y n ∙ same.key y h

  -- the table afterwards: x taken out of its lists, then given up
  pub deleted_file_given : Agree (give G x) G2
  deleted_file_given = gave_same

  pub deleted_file_kept : Tree (dir_view dh (deleted File (tables dh d fh f) x).dir_table)
      (file_view (deleted File (tables dh d fh f) x).dir_table (deleted File (tables dh d fh f) x).file_hash (deleted File (tables dh d fh f) x).file_table) RD (x ∷ RF)
  deleted_file_kept =
      tree_files (dir_view dh d) (dir_view dh t1.dir_table) (file_view d fh f) G2 RD RF (x ∷ RF) T (unlinked_dirs dh d fh f Q RD RF T x lx) refl
      (sound_agree (give G x) G2 gave_same (x ∷ RF) 0 (Live (dir_view dh d).count RD) (Live (dir_view dh d).count RD) (λ p. (λ l. l, λ l. l)) (λ p l. l.0)
      (gave G (Live (dir_view dh d).count RD) RF x still loose))

  -- one more entry is free
  pub deleted_file_removed : removed_of G2 ≡ x ∷ RF
  deleted_file_removed = removed_agree (give G x) G2 (Live (dir_view dh d).count RD) (x ∷ RF) (gave G (Live (dir_view dh d).count RD) RF x still loose) gave_same.count gave_same.coll

  pub deleted_file_count : G2.count ≡ (file_view d fh f).count
  deleted_file_count = gave_same.count ∙ same.count

  pub deleted_file_maximum : G2.maximum ≡ (file_view d fh f).maximum
  deleted_file_maximum = gave_same.maximum ∙ same.maximum

  module _ (p : ℕ) (lp : Live (dir_view dh d).count RD p) (name : List ℕ) (bn : Bytes name)
      (fresh : (y : ℕ) → Live (file_view d fh f).count RF y → y ≢ x → (file_view d fh f).key y ≢ name_key p name) where
    abbrev t2 : Tables
    t2 = renamed File (tables dh d fh f) x p name

    p_room : p < length t1.dir_table / 40
    p_room =
        let A = unlinked_dirs dh d fh f Q RD RF T x lx in
        subst (λ n. p < n) (sym A.room) (dir_low dh d fh f Q RD RF T p lp.1)

    -- the files afterwards, and the directories
    pub renamed_file_agrees : Agree (link G x (name_key p name)) (file_view t2.dir_table t2.file_hash t2.file_table)
    renamed_file_agrees = linked_files dh t1.dir_table t1.file_hash t1.file_table fine x p name bn lx.0 in_room p_room

    pub renamed_file_dirs : Agree (dir_view dh d) (dir_view dh t2.dir_table)
    renamed_file_dirs =
        agree_trans (dir_view dh d) (dir_view dh t1.dir_table) (dir_view dh t2.dir_table) (unlinked_dirs dh d fh f Q RD RF T x lx)
        (linked_dirs dh t1.dir_table t1.file_hash t1.file_table fine x p name bn lx.0 in_room p_room)

    pub renamed_file_kept : Tree (dir_view dh t2.dir_table) (file_view t2.dir_table t2.file_hash t2.file_table) RD RF
    renamed_file_kept =
        tree_files (dir_view dh d) (dir_view dh t2.dir_table) (file_view d fh f) (file_view t2.dir_table t2.file_hash t2.file_table) RD RF RF T
        renamed_file_dirs refl
        (sound_agree (link G x (name_key p name)) (file_view t2.dir_table t2.file_hash t2.file_table)
        renamed_file_agrees RF 0
        (Live (dir_view dh d).count RD) (Live (dir_view dh d).count RD) (λ q. (λ l. l, λ l. l)) (λ q l. l.0)
        (linked G RF x (name_key p name) still (Live (dir_view dh d).count RD) loose
        (λ y h e. fresh y ((live_agree (unlink (file_view d fh f) x) G same RF y).1 h.0) h.1 (sym (same.key y h.0.0) ∙ e)) lp))
