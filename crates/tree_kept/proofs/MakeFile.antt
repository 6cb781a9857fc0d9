-- Making a file and setting carried bytes keep the tree.
use mathlib.Core.Path.{◌≡◌, refl, sym, ap, ◌∙◌, subst}
use mathlib.Core.List.{List, [], ◌∷◌}
use mathlib.Core.Logic.{⊎_elim, ◌≢◌}
use mathlib.Core.Bool.{Bool, true, false}
use Prim.Native.Nat.{ℕ, ◌+◌, ◌/◌, ◌^◌, ◌≤◌, ◌<◌}
use native.Mathlib.Omega.{arith}
use lib.Dec.{eqb}
use borrow.Author.Tests.{ne_eqb}
use lib.ListN.{length}
use Rattle.words.specs.Word.{word}
use Rattle.words.proofs.Laws.{Bytes, word_lt}
use Rattle.links.specs.Change.{pick}
use Rattle.tree_key.specs.Key.{name_key}
use Rattle.tree_table.specs.Field.{field, Write, write, wrote}
use Rattle.tree_table.specs.View.{View, view_of, hash_at, dir_view, file_view, Live}
use Rattle.tree_table.specs.Steps.{taken, take_writes}
use Rattle.tree_table.proofs.Field.{Has, Fit, put_at, reads, length_wrote}
use Rattle.tree_table.proofs.Table.{Sound, link, linked, take, took, took_live, rest, Space, Took, not_zero}
use Rattle.tree_table.proofs.Agree.{Agree, agree_refl, table_alike, live_agree, sound_agree, agree_trans}
use Rattle.tree_table.proofs.Steps.{take_t}
use Rattle.tree_sound.proofs.Tree.{Tree}
use Rattle.tree_sound.specs.Tables.{Tables, tables}
use Rattle.tree_promises.specs.declared.Kind.TheVariants.{File}
use Rattle.tree_promises.specs.Steps.{linked_to, taken_from, with_carried, made}
use Rattle.tree_kept.proofs.Tables.{field_lt, after, put_other}
use Rattle.tree_kept.proofs.Loose.{entry_fits, tree_files}
use Rattle.tree_kept.proofs.Files.{Fine, fine_wrote, file_low, dir_low, linked_dirs, linked_files}

-- ---- take, at any width

module _ (n o w : ℕ) (h hd : ℕ → ℕ) (t : List ℕ) (hw : 28 ≤ w) (h0 : w ≤ length t) (B : Bytes t) (few : field w t 0 1 + 1 < 2 ^ 32) where
  abbrev v : View
  v = view_of n (length t / w) o (field w t) h hd

  took_t : (b : Bool) → Agree (take_t b v) (view_of n (length (wrote w t (take_writes b (field w t))) / w) o (field w (wrote w t (take_writes b (field w t)))) h hd)
  took_t true =
      let F : Fit w (length t) (write 0 1 (field w t 0 1 + 1) ∷ []) = ((omega arith, omega arith, few), tt) in
      let a : (y g : ℕ) → Has w g → field w (wrote w t (write 0 1 (field w t 0 1 + 1) ∷ [])) y g ≡ reads (write 0 1 (field w t 0 1 + 1) ∷ []) (field w t) y g = after w t (write 0 1 (field w t 0 1 + 1) ∷ []) F in
      record {
        buckets = refl;
        room = ap (λ z. z / w) (length_wrote w (write 0 1 (field w t 0 1 + 1) ∷ []) t);
        root = refl;
        count = a 0 1 (omega arith);
        maximum = a 0 2 (omega arith);
        hash = λ b. refl;
        coll = λ y. a y 0 (omega arith);
        next = λ y _. a y 6 (omega arith);
        head = λ y _. refl;
        key = λ y p.
            let k1 : field w (wrote w t (write 0 1 (field w t 0 1 + 1) ∷ [])) y 1 ≡ field w t y 1 =
            a y 1 (omega arith) ∙ ap (λ c. pick c (field w t 0 1 + 1) (field w t y 1)) (ne_eqb y 0 (not_zero p)) in
            let k2 : field w (wrote w t (write 0 1 (field w t 0 1 + 1) ∷ [])) y 2 ≡ field w t y 2 = a y 2 (omega arith) in
            let k3 : field w (wrote w t (write 0 1 (field w t 0 1 + 1) ∷ [])) y 3 ≡ field w t y 3 = a y 3 (omega arith) in
            let k4 : field w (wrote w t (write 0 1 (field w t 0 1 + 1) ∷ [])) y 4 ≡ field w t y 4 = a y 4 (omega arith) in
            let k5 : field w (wrote w t (write 0 1 (field w t 0 1 + 1) ∷ [])) y 5 ≡ field w t y 5 = a y 5 (omega arith) in cc;
      }
  took_t false =
      let F : Fit w (length t) (write 0 0 (field w t (field w t 0 0) 0) ∷ []) = ((omega arith, omega arith, field_lt w t (field w t 0 0) 0 B), tt) in
      let a : (y g : ℕ) → Has w g → field w (wrote w t (write 0 0 (field w t (field w t 0 0) 0) ∷ [])) y g ≡ reads (write 0 0 (field w t (field w t 0 0) 0) ∷ []) (field w t) y g = after w t (write 0 0 (field w t (field w t 0 0) 0) ∷ []) F in
      record {
        buckets = refl;
        room = ap (λ z. z / w) (length_wrote w (write 0 0 (field w t (field w t 0 0) 0) ∷ []) t);
        root = refl;
        count = a 0 1 (omega arith);
        maximum = a 0 2 (omega arith);
        hash = λ b. refl;
        coll = λ y. a y 0 (omega arith);
        next = λ y _. a y 6 (omega arith);
        head = λ y _. refl;
        key = λ y p.
            let k1 : field w (wrote w t (write 0 0 (field w t (field w t 0 0) 0) ∷ [])) y 1 ≡ field w t y 1 = a y 1 (omega arith) in
            let k2 : field w (wrote w t (write 0 0 (field w t (field w t 0 0) 0) ∷ [])) y 2 ≡ field w t y 2 = a y 2 (omega arith) in
            let k3 : field w (wrote w t (write 0 0 (field w t (field w t 0 0) 0) ∷ [])) y 3 ≡ field w t y 3 = a y 3 (omega arith) in
            let k4 : field w (wrote w t (write 0 0 (field w t (field w t 0 0) 0) ∷ [])) y 4 ≡ field w t y 4 = a y 4 (omega arith) in
            let k5 : field w (wrote w t (write 0 0 (field w t (field w t 0 0) 0) ∷ [])) y 5 ≡ field w t y 5 = a y 5 (omega arith) in cc;
      }

  pub took_agrees : Agree (take v) (view_of n (length (wrote w t (take_writes (eqb (v.coll 0) 0) (field w t))) / w) o (field w (wrote w t (take_writes (eqb (v.coll 0) 0) (field w t)))) h hd)
  took_agrees = took_t (eqb (v.coll 0) 0)

-- ---- carried bytes of a file

module _ (d fh f : List ℕ) (x : ℕ) (fx : x < length f / 48) (carried : List ℕ) (bc : Bytes carried) where
  abbrev ws : List Write
  ws =
      write x 7 (word carried 0) ∷ write x 8 (word carried 4) ∷ write x 9 (word carried 8) ∷ write x 10 (word carried 12) ∷ write x 11 (word carried 16) ∷ []

  fit : Fit 48 (length f) ws
  fit =
      let e = entry_fits 48 f x fx in
      ((e, omega arith, word_lt carried bc 0), ((e, omega arith, word_lt carried bc 4), ((e, omega arith, word_lt carried bc 8), ((e, omega arith, word_lt carried bc 12), ((e, omega arith, word_lt carried bc 16), tt)))))

  unseen : (y g : ℕ) → g ≤ 6 → reads ws (field 48 f) y g ≡ field 48 f y g
  unseen y g h =
      put_other x 11 (word carried 16) (put_at (write x 10 (word carried 12)) (put_at (write x 9 (word carried 8)) (put_at (write x 8 (word carried 4)) (put_at (write x 7 (word carried 0)) (field 48 f))))) y g (omega arith)
      ∙ put_other x 10 (word carried 12) (put_at (write x 9 (word carried 8)) (put_at (write x 8 (word carried 4)) (put_at (write x 7 (word carried 0)) (field 48 f)))) y g (omega arith)
      ∙ put_other x 9 (word carried 8) (put_at (write x 8 (word carried 4)) (put_at (write x 7 (word carried 0)) (field 48 f))) y g (omega arith)
      ∙ put_other x 8 (word carried 4) (put_at (write x 7 (word carried 0)) (field 48 f)) y g (omega arith)
      ∙ put_other x 7 (word carried 0) (field 48 f) y g (omega arith)

  pub carried_files : Agree (file_view d fh f) (file_view d fh (wrote 48 f ws))
  carried_files =
      table_alike (length fh / 4) (length f / 48) 0 (length fh / 4) (length (wrote 48 f ws) / 48) (field 48 f) (field 48 (wrote 48 f ws)) (hash_at fh) (hash_at fh) (λ p. field 40 d p 8) (λ p. field 40 d p 8)
      refl (ap (λ n. n / 48) (length_wrote 48 ws f)) (λ y g h. after 48 f ws fit y g (omega arith) ∙ unseen y g h) (λ b. refl) (λ p. refl)

-- ---- the theorems

module _ (dh d fh f : List ℕ) (Q : Fine dh d fh f) (RD RF : List ℕ) (T : Tree (dir_view dh d) (file_view d fh f) RD RF) where
  abbrev F : View
  F = file_view d fh f

  pub carried_file_kept : (x : ℕ) → Live F.count RF x → (carried : List ℕ) → Bytes carried
      → Tree (dir_view dh d) (file_view d fh (with_carried File (tables dh d fh f) x carried).file_table) RD RF
  carried_file_kept x lx carried bc =
      tree_files (dir_view dh d) (dir_view dh d) F (file_view d fh (with_carried File (tables dh d fh f) x carried).file_table) RD RF RF T (agree_refl (dir_view dh d)) refl
      (sound_agree F (file_view d fh (with_carried File (tables dh d fh f) x carried).file_table) (carried_files d fh f x (file_low dh d fh f Q RD RF T x lx.1) carried bc) RF 0
      (Live (dir_view dh d).count RD) (Live (dir_view dh d).count RD) (λ p. (λ l. l, λ l. l)) (λ p l. l.0) T.files)

  module _ (p : ℕ) (lp : Live (dir_view dh d).count RD p) (name carried : List ℕ) (bn : Bytes name) (bc : Bytes carried) (sp : Space F)
      (fresh : (y : ℕ) → Live F.count RF y → F.key y ≢ name_key p name) where
    abbrev x : ℕ
    x = taken F

    abbrev f1 : List ℕ
    f1 = (taken_from File (tables dh d fh f)).file_table

    abbrev G : View
    G = file_view d fh f1

    abbrev t2 : Tables
    t2 = linked_to File (tables dh d fh f1) x p name

    abbrev t3 : Tables
    t3 = made File (tables dh d fh f) p name carried

    Tk : Took F RF (rest RF) (taken F) (take F).count
    Tk = took_live F (Live (dir_view dh d).count RD) RF T.files

    S0 : Sound (take F) (Live (dir_view dh d).count RD) (rest RF) x
    S0 = took F (Live (dir_view dh d).count RD) RF T.files sp

    low0 : 0 < length f / 48
    low0 = file_low dh d fh f Q RD RF T 0 (let a = T.files.count_one in omega arith)

    same : Agree (take F) G
    same =
        took_agrees (length fh / 4) 0 48 (hash_at fh) (λ p. field 40 d p 8) f (omega arith) (let e = entry_fits 48 f 0 low0 in omega arith) Q.file_table
        (let a = T.files.count_max in let b = T.files.max_room in let c = Q.file_few in omega arith)

    loose : Sound G (Live (dir_view dh d).count RD) (rest RF) x
    loose = sound_agree (take F) G same (rest RF) x (Live (dir_view dh d).count RD) (Live (dir_view dh d).count RD) (λ p. (λ l. l, λ l. l)) (λ p l. l.0) S0

    still : Live G.count (rest RF) x
    still = (live_agree (take F) G same (rest RF) x).0 Tk.0

    fine : Fine dh d fh f1
    fine = fine_wrote dh d fh f [] [] [] (take_writes (eqb (F.coll 0) 0) (field 48 f)) Q

    in_room : x < length f1 / 48
    in_room = let a = loose.count_max in let b = loose.max_room in let c = still.1 in omega arith

    p_room : p < length d / 40
    p_room = dir_low dh d fh f Q RD RF T p lp.1

    linked_sound : Sound (file_view t2.dir_table t2.file_hash t2.file_table) (Live (dir_view dh d).count RD) (rest RF) 0
    linked_sound =
        sound_agree (link G x (name_key p name)) (file_view t2.dir_table t2.file_hash t2.file_table) (linked_files dh d fh f1 fine x p name bn Tk.0.0 in_room p_room) (rest RF) 0
        (Live (dir_view dh d).count RD) (Live (dir_view dh d).count RD) (λ q. (λ l. l, λ l. l)) (λ q l. l.0)
        (linked G (rest RF) x (name_key p name) still (Live (dir_view dh d).count RD) loose
        (λ y h e.
        ⊎_elim (λ (k : y ≡ taken F). h.1 k)
        (λ (k : (y ≢ taken F) × Live F.count RF y). fresh y k.1 (sym (same.key y h.0.0) ∙ e))
        ((Tk.2 y).0 ((live_agree (take F) G same (rest RF) y).1 h.0))) lp)

    in_file : x < length t2.file_table / 48
    in_file =
        let a = linked_sound.count_max in
        let b = linked_sound.max_room in
        let c : x < (file_view t2.dir_table t2.file_hash t2.file_table).count =
        subst (λ n. x < n) (sym (linked_files dh d fh f1 fine x p name bn Tk.0.0 in_room p_room).count) still.1 in
        omega arith

    -- the files afterwards, and the directories
    pub made_file_agrees : Agree (link G x (name_key p name)) (file_view t3.dir_table t3.file_hash t3.file_table)
    made_file_agrees =
        agree_trans (link G x (name_key p name)) (file_view t2.dir_table t2.file_hash t2.file_table) (file_view t3.dir_table t3.file_hash t3.file_table)
        (linked_files dh d fh f1 fine x p name bn Tk.0.0 in_room p_room)
        (carried_files t2.dir_table t2.file_hash t2.file_table x in_file carried bc)

    pub made_file_taken : Agree (take F) G
    made_file_taken = same

    pub made_file_dirs : Agree (dir_view dh d) (dir_view dh t3.dir_table)
    made_file_dirs = linked_dirs dh d fh f1 fine x p name bn Tk.0.0 in_room p_room

    pub made_file_kept : Tree (dir_view dh t3.dir_table) (file_view t3.dir_table t3.file_hash t3.file_table) RD (rest RF)
    made_file_kept =
        tree_files (dir_view dh d) (dir_view dh t3.dir_table) F (file_view t3.dir_table t3.file_hash t3.file_table) RD RF (rest RF) T
        made_file_dirs refl
        (sound_agree (file_view t2.dir_table t2.file_hash t2.file_table) (file_view t3.dir_table t3.file_hash t3.file_table)
        (carried_files t2.dir_table t2.file_hash t2.file_table x in_file carried bc)
        (rest RF) 0 (Live (dir_view dh d).count RD) (Live (dir_view dh d).count RD) (λ q. (λ l. l, λ l. l)) (λ q l. l.0) linked_sound)
