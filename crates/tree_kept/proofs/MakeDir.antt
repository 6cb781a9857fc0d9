-- Making a directory keeps the tree.
use mathlib.Core.Path.{◌≡◌, refl, sym, ap, ◌∙◌, subst}
use mathlib.Core.List.{List, [], ◌∷◌}
use mathlib.Core.Logic.{◌≢◌}
use mathlib.Core.Bool.{Bool, true, false}
use Prim.Native.Nat.{ℕ, ◌+◌, ◌/◌, ◌^◌, ◌≤◌, ◌<◌}
use native.Mathlib.Omega.{arith}
use lib.Dec.{eqb}
use lib.ListN.{length}
use Rattle.words.specs.Word.{word}
use Rattle.words.proofs.Laws.{Bytes, word_lt}
use Rattle.links.specs.Change.{pick, upd}
use Rattle.tree_key.specs.Key.{name_key}
use Rattle.tree_table.specs.Field.{field, Write, write, wrote}
use Rattle.tree_table.specs.View.{View, view_of, hash_at, dir_view, file_view, Live}
use Rattle.tree_table.specs.Steps.{taken, take_writes}
use Rattle.tree_table.proofs.Field.{Has, Fit, put_at, length_wrote}
use Rattle.tree_table.proofs.Table.{link, take, took, took_live, rest, Space, Took}
use Rattle.tree_table.proofs.Agree.{Agree, agree_trans, link_agree, table_alike}
use Rattle.tree_sound.proofs.Tree.{Tree, heads, make_dir, make_dir_files, made_dir}
use Rattle.tree_sound.specs.Tables.{Tables, tables}
use Rattle.tree_promises.specs.declared.Kind.TheVariants.{Directory}
use Rattle.tree_promises.specs.Steps.{linked_to, made}
use Rattle.tree_kept.proofs.Tables.{field_lt, after, put_other, dirs_past}
use Rattle.tree_kept.proofs.Loose.{entry_fits}
use Rattle.tree_kept.proofs.Files.{Fine, fine_wrote, dir_low}
use Rattle.tree_kept.proofs.MakeFile.{took_agrees}
use Rattle.tree_kept.proofs.Dirs.{tree_agree, files_same, linked_dir, linked_heads}

module _ (dh d fh f : List ℕ) (Q : Fine dh d fh f) (RD RF : List ℕ) (T : Tree (dir_view dh d) (file_view d fh f) RD RF)
    (p : ℕ) (lp : Live (dir_view dh d).count RD p) (name padding : List ℕ) (bn : Bytes name) (bp : Bytes padding) (sp : Space (dir_view dh d))
    (fresh : (y : ℕ) → Live (dir_view dh d).count RD y → (dir_view dh d).key y ≢ name_key p name) where
  abbrev D : View
  D = dir_view dh d

  abbrev F : View
  F = file_view d fh f

  abbrev x : ℕ
  x = taken D

  abbrev tw : List Write
  tw = take_writes (eqb (D.coll 0) 0) (field 40 d)

  abbrev d1 : List ℕ
  d1 = wrote 40 d tw

  abbrev cw : List Write
  cw = write x 7 0 ∷ write x 8 0 ∷ []

  abbrev d2 : List ℕ
  d2 = wrote 40 d1 cw

  abbrev k : List ℕ
  k = name_key p name

  abbrev s3 : Tables
  s3 = linked_to Directory (tables dh d2 fh f) x p name

  abbrev s4 : Tables
  s4 = made Directory (tables dh d fh f) p name padding

  Tk : Took D RD (rest RD) (taken D) (take D).count
  Tk = took_live D (Live D.count RD) RD T.dirs

  low0 : 40 ≤ length d
  low0 = let e = entry_fits 40 d 0 (dir_low dh d fh f Q RD RF T 0 (let a = T.dirs.count_one in omega arith)) in omega arith

  few : field 40 d 0 1 + 1 < 2 ^ 32
  few = let a = T.dirs.count_max in let b = T.dirs.max_room in let c = Q.dir_few in omega arith

  x_room : x < length d / 40
  x_room =
      let S = took D (Live D.count RD) RD T.dirs sp in
      let a = S.count_max in let b = S.max_room in let c = Tk.0.1 in omega arith

  x_in : x < length d1 / 40
  x_in = subst (λ n. x < n / 40) (sym (length_wrote 40 tw d)) x_room

  x_in2 : x < length d2 / 40
  x_in2 = subst (λ n. x < n / 40) (sym (length_wrote 40 cw d1)) x_in

  p_in2 : p < length d2 / 40
  p_in2 = subst (λ n. p < n / 40) (sym (length_wrote 40 cw d1 ∙ length_wrote 40 tw d)) (dir_low dh d fh f Q RD RF T p lp.1)

  untaken : (y g : ℕ) → 2 ≤ g → Has 40 g → field 40 d1 y g ≡ field 40 d y g
  untaken y g h hg = go (eqb (D.coll 0) 0)
    where
      go : (t : Bool) → field 40 (wrote 40 d (take_writes t (field 40 d))) y g ≡ field 40 d y g
      go true =
          after 40 d (write 0 1 (field 40 d 0 1 + 1) ∷ []) (((let l = low0 in omega arith), omega arith, few), tt) y g hg
          ∙ put_other 0 1 (field 40 d 0 1 + 1) (field 40 d) y g (omega arith)
      go false =
          after 40 d (write 0 0 (field 40 d (field 40 d 0 0) 0) ∷ []) (((let l = low0 in omega arith), omega arith, field_lt 40 d (field 40 d 0 0) 0 Q.dir_table), tt) y g hg
          ∙ put_other 0 0 (field 40 d (field 40 d 0 0) 0) (field 40 d) y g (omega arith)

  cw_fit : Fit 40 (length d1) cw
  cw_fit = let e = entry_fits 40 d1 x x_in in ((e, omega arith, omega arith), ((e, omega arith, omega arith), tt))

  dirs_2 : Agree (heads (take D) (upd D.head x 0)) (dir_view dh d2)
  dirs_2 =
      agree_trans (heads (take D) (upd D.head x 0)) (view_of (length dh / 4) (length d1 / 40) 1 (field 40 d1) (hash_at dh) (upd D.head x 0)) (dir_view dh d2)
      (took_agrees (length dh / 4) 1 40 (hash_at dh) (upd D.head x 0) d (omega arith) low0 Q.dir_table few)
      (table_alike (length dh / 4) (length d1 / 40) 1 (length dh / 4) (length d2 / 40) (field 40 d1) (field 40 d2) (hash_at dh) (hash_at dh) (upd D.head x 0) (λ y. field 40 d2 y 7)
      refl (ap (λ n. n / 40) (length_wrote 40 cw d1))
      (λ y g h. after 40 d1 cw cw_fit y g (omega arith) ∙ put_other x 8 0 (put_at (write x 7 0) (field 40 d1)) y g (omega arith) ∙ put_other x 7 0 (field 40 d1) y g (omega arith))
      (λ b. refl)
      (λ y. after 40 d1 cw cw_fit y 7 (omega arith) ∙ ap (λ z. pick (eqb y x) 0 z) (untaken y 7 (omega arith) (omega arith))))

  files_2 : Agree (heads F (upd F.head x 0)) (file_view d2 fh f)
  files_2 =
      table_alike (length fh / 4) (length f / 48) 0 (length fh / 4) (length f / 48) (field 48 f) (field 48 f) (hash_at fh) (hash_at fh) (upd F.head x 0) (λ y. field 40 d2 y 8)
      refl refl (λ y g h. refl) (λ b. refl)
      (λ y. after 40 d1 cw cw_fit y 8 (omega arith) ∙ ap (λ z. pick (eqb y x) 0 z) (untaken y 8 (omega arith) (omega arith)))

  fine_2 : Fine dh d2 fh f
  fine_2 = fine_wrote dh d1 fh f [] cw [] [] (fine_wrote dh d fh f [] tw [] [] Q)

  x_in3 : x < length s3.dir_table / 40
  x_in3 = subst (λ n. x < n) (sym (linked_dir dh d2 fh f fine_2 x p name bn Tk.0.0 x_in2 p_in2).room) x_in2

  last_fit : Fit 40 (length s3.dir_table) (write x 9 (word padding 0) ∷ [])
  last_fit = ((entry_fits 40 s3.dir_table x x_in3, omega arith, word_lt padding bp 0), tt)

  -- the directories afterwards
  pub made_dir_agrees : Agree (make_dir D k) (dir_view s4.dir_hash s4.dir_table)
  made_dir_agrees =
      agree_trans (make_dir D k) (link (dir_view dh d2) x k) (dir_view s4.dir_hash s4.dir_table) (link_agree (heads (take D) (upd D.head x 0)) (dir_view dh d2) x k lp.0 dirs_2)
      (agree_trans (link (dir_view dh d2) x k) (dir_view s3.dir_hash s3.dir_table) (dir_view s4.dir_hash s4.dir_table)
      (linked_dir dh d2 fh f fine_2 x p name bn Tk.0.0 x_in2 p_in2)
      (dirs_past s3.dir_hash s3.dir_table x 9 (word padding 0) (omega arith) (omega arith) (entry_fits 40 s3.dir_table x x_in3) (word_lt padding bp 0)))

  pub made_dir_kept : Tree (dir_view s4.dir_hash s4.dir_table) (file_view s4.dir_table fh f) (rest RD) RF
  made_dir_kept =
      tree_agree (make_dir D k) (dir_view s4.dir_hash s4.dir_table) (make_dir_files D F) (file_view s4.dir_table fh f) (rest RD) RF
      (made_dir D F RD RF T k sp lp fresh)
      made_dir_agrees
      (agree_trans (make_dir_files D F) (file_view d2 fh f) (file_view s4.dir_table fh f) files_2
      (files_same d2 s4.dir_table fh f
      (λ y. after 40 s3.dir_table (write x 9 (word padding 0) ∷ []) last_fit y 8 (omega arith) ∙ linked_heads dh d2 fh f fine_2 x p name bn Tk.0.0 x_in2 p_in2 y)))
