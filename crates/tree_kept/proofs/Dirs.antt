-- The steps on directories keep the tree: rename, make and carried bytes.
use mathlib.Core.Path.{◌≡◌, refl, sym, ap, ◌∙◌, subst}
use mathlib.Core.List.{List, [], ◌∷◌, ◌++◌}
use mathlib.Core.Logic.{◌≢◌}
use mathlib.Core.Bool.{Bool, true, false}
use Prim.Native.Nat.{ℕ, ◌+◌, ◌*◌, ◌/◌, ◌^◌, ◌≤◌, ◌<◌}
use native.Mathlib.Omega.{arith}
use native.Mathlib.Nat.{mod-lt}
use lib.Dec.{eqb}
use lib.ListN.{length}
use Rattle.words.specs.Word.{word}
use Rattle.words.proofs.Laws.{Bytes, word_lt}
use Rattle.links.specs.Links.{◌∈◌, Links}
use Rattle.links.specs.Change.{pick, upd}
use Rattle.tree_key.specs.Key.{name_key}
use Rattle.tree_key.specs.Hash.{hash_of}
use Rattle.tree_table.specs.Field.{field, Write, write}
use Rattle.tree_table.specs.View.{View, view_of, hash_at, dir_view, file_view, parent, place, Live}
use Rattle.tree_table.specs.Steps.{bucket_before, child_before, cut_writes, head_writes}
use Rattle.tree_table.proofs.Field.{Has, Fit, reads, put_at, length_wrote}
use Rattle.tree_table.proofs.Table.{link, unlink, not_zero}
use Rattle.tree_table.proofs.Agree.{Agree, agree_trans, link_agree, table_alike, sound_agree}
use Rattle.tree_table.proofs.Steps.{reads_append, unlink_agrees, link_writes}
use Rattle.tree_sound.specs.Sound.{up}
use Rattle.tree_sound.proofs.Tree.{Tree, renamed_dir}
use Rattle.tree_sound.specs.Tables.{Tables, tables}
use Rattle.tree_promises.specs.declared.Kind.TheVariants.{Directory}
use Rattle.tree_promises.specs.Steps.{cut, entered, unlinked_from, linked_to, with_carried, renamed}
use Rattle.tree_kept.proofs.Tables.{field_lt, after, put_other, dirs_past, heads_after}
use Rattle.tree_kept.proofs.Loose.{entry_fits, before_low, fit_append, fit_cut, tree_files}
use Rattle.tree_kept.proofs.Files.{Fine, fine_wrote, dir_low}

-- both tables as they were to the rule
pub tree_agree : (D D' F F' : View) (RD RF : List ℕ) → Tree D F RD RF → Agree D D' → Agree F F' → Tree D' F' RD RF
tree_agree D D' F F' RD RF T A B =
    tree_files D D' F F' RD RF RF T A (B.root ∙ T.file_root)
    (sound_agree F F' B RF 0 (Live D.count RD) (Live D.count RD) (λ p. (λ l. l, λ l. l)) (λ p l. l.0) T.files)

-- the files do not see a directory's other fields
pub files_same : (d d' fh f : List ℕ) → ((p : ℕ) → field 40 d' p 8 ≡ field 40 d p 8) → Agree (file_view d fh f) (file_view d' fh f)
files_same d d' fh f e =
    table_alike (length fh / 4) (length f / 48) 0 (length fh / 4) (length f / 48) (field 48 f) (field 48 f) (hash_at fh) (hash_at fh) (λ p. field 40 d p 8) (λ p. field 40 d' p 8)
    refl refl (λ y g h. refl) (λ b. refl) e

-- what a cut does not touch
pub uncut : (t u : Bool) (p q c e : ℕ) (m : ℕ → ℕ → ℕ) (y g : ℕ) → g ≢ 0 → g ≢ 6 → reads (cut_writes t p 0 c ++ cut_writes u q 6 e) m y g ≡ m y g
uncut true true p q c e m y g a b = refl
uncut true false p q c e m y g a b = put_other q 6 e m y g b
uncut false true p q c e m y g a b = put_other p 0 c m y g a
uncut false false p q c e m y g a b = put_other q 6 e (put_at (write p 0 c) m) y g b ∙ put_other p 0 c m y g a

unheaded : (u : Bool) (e f v : ℕ) (m : ℕ → ℕ → ℕ) (y g : ℕ) → g ≢ f → reads (head_writes u e f v) m y g ≡ m y g
unheaded true e f v m y g n = put_other e f v m y g n
unheaded false e f v m y g n = refl

fit_head : (w n : ℕ) (t : Bool) (p f v : ℕ) → p * w + w ≤ n → Has w f → v < 2 ^ 32 → Fit w n (head_writes t p f v)
fit_head w n true p f v a b c = ((a, b, c), tt)
fit_head w n false p f v a b c = tt

headed : (u : Bool) (e v : ℕ) (m : ℕ → ℕ → ℕ) (hd : ℕ → ℕ) → ((z : ℕ) → m z 7 ≡ hd z) → (y : ℕ) → reads (head_writes u e 7 v) m y 7 ≡ pick u (upd hd e v) hd y
headed true e v m hd q y = ap (λ z. pick (eqb y e) v z) (q y)
headed false e v m hd q y = q y

-- ---- unlink

module _ (dh d fh f : List ℕ) (Q : Fine dh d fh f) (RD RF : List ℕ) (T : Tree (dir_view dh d) (file_view d fh f) RD RF) (x : ℕ) (lx : Live (dir_view dh d).count RD x) (n1 : x ≢ 1) where
  abbrev D : View
  D = dir_view dh d

  abbrev p : ℕ
  p = parent (D.key x)

  abbrev b : ℕ
  b = place D (D.key x)

  pub bucket_some : b < length dh / 4
  bucket_some = mod-lt (hash_of (D.key x)) Q.dir_some

  pub dir_parent : Live D.count RD p
  dir_parent = T.dirs.parents x (lx, not_zero lx.0) (λ e. n1 (e ∙ T.dir_root))

  bucket_low : bucket_before D x < D.count
  bucket_low =
      let H = T.dirs.bucket b bucket_some in
      before_low D (Live D.count RD) RD T.dirs D.coll (D.hash b) (λ y. place D (D.key y) ≡ b) H x ((H.2 x).1 ((lx, not_zero lx.0), refl))

  child_low : child_before D x < D.count
  child_low =
      let H = T.dirs.child p dir_parent in
      before_low D (Live D.count RD) RD T.dirs D.next (D.head p) (λ y. parent (D.key y) ≡ p) H x ((H.2 x).1 ((lx, not_zero lx.0), refl))

  abbrev s1 : Tables
  s1 = unlinked_from Directory (tables dh d fh f) x

  abbrev ws : List Write
  ws = cut D x ++ head_writes (eqb (child_before D x) 0) p 7 (D.next x)

  fits_at : (y : ℕ) → y < D.count → y * 40 + 40 ≤ length d
  fits_at y h = entry_fits 40 d y (dir_low dh d fh f Q RD RF T y h)

  fit : Fit 40 (length d) ws
  fit =
      fit_append 40 (length d) (cut D x) (head_writes (eqb (child_before D x) 0) p 7 (D.next x))
      (fit_append 40 (length d) (cut_writes (eqb (bucket_before D x) 0) (bucket_before D x) 0 (D.coll x)) (cut_writes (eqb (child_before D x) 0) (child_before D x) 6 (D.next x))
      (fit_cut 40 (length d) (eqb (bucket_before D x) 0) (bucket_before D x) 0 (D.coll x) (fits_at (bucket_before D x) bucket_low) (omega arith) (field_lt 40 d x 0 Q.dir_table))
      (fit_cut 40 (length d) (eqb (child_before D x) 0) (child_before D x) 6 (D.next x) (fits_at (child_before D x) child_low) (omega arith) (field_lt 40 d x 6 Q.dir_table)))
      (fit_head 40 (length d) (eqb (child_before D x) 0) p 7 (D.next x) (fits_at p dir_parent.1) (omega arith) (field_lt 40 d x 6 Q.dir_table))

  split : (y g : ℕ) → Has 40 g → field 40 s1.dir_table y g ≡ reads (head_writes (eqb (child_before D x) 0) p 7 (D.next x)) (reads (cut D x) (field 40 d)) y g
  split y g h = after 40 d ws fit y g h ∙ reads_append (cut D x) (head_writes (eqb (child_before D x) 0) p 7 (D.next x)) (field 40 d) y g

  pub unlinked_heads : (y g : ℕ) → 7 < g → Has 40 g → field 40 s1.dir_table y g ≡ field 40 d y g
  unlinked_heads y g h hg =
      split y g hg ∙ unheaded (eqb (child_before D x) 0) p 7 (D.next x) (reads (cut D x) (field 40 d)) y g (omega arith)
      ∙ uncut (eqb (bucket_before D x) 0) (eqb (child_before D x) 0) (bucket_before D x) (child_before D x) (D.coll x) (D.next x) (field 40 d) y g (omega arith) (omega arith)

  pub unlinked_dir : Agree (unlink D x) (dir_view s1.dir_hash s1.dir_table)
  unlinked_dir =
      agree_trans (unlink D x)
      (view_of (length dh / 4) (length d / 40) 1 (reads (cut D x) (field 40 d)) (pick (eqb (bucket_before D x) 0) (upd (hash_at dh) b (D.coll x)) (hash_at dh))
      (pick (eqb (child_before D x) 0) (upd D.head p (D.next x)) D.head))
      (dir_view s1.dir_hash s1.dir_table)
      (unlink_agrees (length dh / 4) (length d / 40) 1 (field 40 d) (hash_at dh) D.head x)
      (table_alike (length dh / 4) (length d / 40) 1 (length s1.dir_hash / 4) (length s1.dir_table / 40) (reads (cut D x) (field 40 d)) (field 40 s1.dir_table)
      (pick (eqb (bucket_before D x) 0) (upd (hash_at dh) b (D.coll x)) (hash_at dh)) (hash_at s1.dir_hash)
      (pick (eqb (child_before D x) 0) (upd D.head p (D.next x)) D.head) (λ y. field 40 s1.dir_table y 7)
      (ap (λ n. n / 4) (length_wrote 4 (head_writes (eqb (bucket_before D x) 0) b 0 (D.coll x)) dh)) (ap (λ n. n / 40) (length_wrote 40 ws d))
      (λ y g h. split y g (omega arith) ∙ unheaded (eqb (child_before D x) 0) p 7 (D.next x) (reads (cut D x) (field 40 d)) y g (omega arith))
      (λ y. heads_after 4 dh (eqb (bucket_before D x) 0) b 0 (D.coll x) (entry_fits 4 dh b bucket_some) (omega arith) (field_lt 40 d x 0 Q.dir_table) y)
      (λ y.
      split y 7 (omega arith)
      ∙ headed (eqb (child_before D x) 0) p (D.next x) (reads (cut D x) (field 40 d)) D.head
      (λ z. uncut (eqb (bucket_before D x) 0) (eqb (child_before D x) 0) (bucket_before D x) (child_before D x) (D.coll x) (D.next x) (field 40 d) z 7 (omega arith) (omega arith)) y))

  pub unlinked_dir_fine : Fine s1.dir_hash s1.dir_table fh f
  unlinked_dir_fine = fine_wrote dh d fh f (head_writes (eqb (bucket_before D x) 0) b 0 (D.coll x)) ws [] [] Q

-- ---- link

module _ (dh d fh f : List ℕ) (Q : Fine dh d fh f) (x p : ℕ) (name : List ℕ) (bn : Bytes name) (hx : 0 < x) (fx : x < length d / 40) (fp : p < length d / 40) where
  abbrev D1 : View
  D1 = dir_view dh d

  abbrev s2 : Tables
  s2 = linked_to Directory (tables dh d fh f) x p name

  x_lt : x < 2 ^ 32
  x_lt = let a = Q.dir_few in omega arith

  p_lt : p < 2 ^ 32
  p_lt = let a = Q.dir_few in omega arith

  abbrev vs : List Write
  vs = entered D1 x p name ++ (write p 7 x ∷ [])

  link_fit : Fit 40 (length d) vs
  link_fit =
      let e = entry_fits 40 d x fx in (
        (e, omega arith, p_lt),
        (
          (e, omega arith, word_lt name bn 0),
          (
            (e, omega arith, word_lt name bn 4),
            (
              (e, omega arith, word_lt name bn 8),
              (
                (e, omega arith, word_lt name bn 12),
                ((e, omega arith, field_lt 40 d p 7 Q.dir_table), ((e, omega arith, field_lt 4 dh (place D1 (name_key p name)) 0 Q.dir_hash), ((entry_fits 40 d p fp, omega arith, x_lt), tt))),
              ),
            ),
          ),
        ),
      )

  pub linked_heads : (y : ℕ) → field 40 s2.dir_table y 8 ≡ field 40 d y 8
  linked_heads y = after 40 d vs link_fit y 8 (omega arith)

  pub linked_dir : Agree (link D1 x (name_key p name)) (dir_view s2.dir_hash s2.dir_table)
  linked_dir =
      agree_trans (link D1 x (name_key p name))
      (view_of (length dh / 4) (length d / 40) 1 (reads vs (field 40 d)) (upd (hash_at dh) (place D1 (name_key p name)) x) (upd D1.head p x))
      (dir_view s2.dir_hash s2.dir_table)
      (link_writes (length dh / 4) (length d / 40) 1 (field 40 d) (hash_at dh) D1.head x p (word name 0) (word name 4) (word name 8) (word name 12) hx (reads vs (field 40 d))
      (λ y. (refl, refl)) (λ y. (refl, refl, refl, refl, refl)))
      (table_alike (length dh / 4) (length d / 40) 1 (length s2.dir_hash / 4) (length s2.dir_table / 40) (reads vs (field 40 d)) (field 40 s2.dir_table)
      (upd (hash_at dh) (place D1 (name_key p name)) x) (hash_at s2.dir_hash) (upd D1.head p x) (λ y. field 40 s2.dir_table y 7)
      (ap (λ n. n / 4) (length_wrote 4 (write (place D1 (name_key p name)) 0 x ∷ []) dh)) (ap (λ n. n / 40) (length_wrote 40 vs d))
      (λ y g h. after 40 d vs link_fit y g (omega arith))
      (λ y. heads_after 4 dh true (place D1 (name_key p name)) 0 x (entry_fits 4 dh (place D1 (name_key p name)) (mod-lt (hash_of (name_key p name)) Q.dir_some)) (omega arith) x_lt y)
      (λ y. after 40 d vs link_fit y 7 (omega arith)))

-- ---- the theorems

module _ (dh d fh f : List ℕ) (Q : Fine dh d fh f) (RD RF : List ℕ) (T : Tree (dir_view dh d) (file_view d fh f) RD RF) where
  module _ (x : ℕ) (lx : Live (dir_view dh d).count RD x) (n1 : x ≢ 1) (p : ℕ) (lp : Live (dir_view dh d).count RD p) (name : List ℕ) (bn : Bytes name) where
    abbrev t1 : Tables
    t1 = unlinked_from Directory (tables dh d fh f) x

    abbrev t2 : Tables
    t2 = renamed Directory (tables dh d fh f) x p name

    A : Agree (unlink (dir_view dh d) x) (dir_view t1.dir_hash t1.dir_table)
    A = unlinked_dir dh d fh f Q RD RF T x lx n1

    fine : Fine t1.dir_hash t1.dir_table fh f
    fine = unlinked_dir_fine dh d fh f Q RD RF T x lx n1

    in_room : x < length t1.dir_table / 40
    in_room = subst (λ n. x < n) (sym A.room) (dir_low dh d fh f Q RD RF T x lx.1)

    p_room : p < length t1.dir_table / 40
    p_room = subst (λ n. p < n) (sym A.room) (dir_low dh d fh f Q RD RF T p lp.1)

    -- the directories afterwards, whether or not x went below itself
    pub renamed_dir_agrees : Agree (link (unlink (dir_view dh d) x) x (name_key p name)) (dir_view t2.dir_hash t2.dir_table)
    renamed_dir_agrees =
        agree_trans (link (unlink (dir_view dh d) x) x (name_key p name)) (link (dir_view t1.dir_hash t1.dir_table) x (name_key p name)) (dir_view t2.dir_hash t2.dir_table)
        (link_agree (unlink (dir_view dh d) x) (dir_view t1.dir_hash t1.dir_table) x (name_key p name) lp.0 A)
        (linked_dir t1.dir_hash t1.dir_table fh f fine x p name bn lx.0 in_room p_room)

    pub renamed_dir_kept : ((y : ℕ) → Live (dir_view dh d).count RD y → y ≢ x → (dir_view dh d).key y ≢ name_key p name)
        → ((qs : List ℕ) → Links (up (dir_view dh d)) p qs → x ∈ qs → ⊥)
        → Tree (dir_view t2.dir_hash t2.dir_table) (file_view t2.dir_table fh f) RD RF
    renamed_dir_kept fresh above =
        tree_agree (link (unlink (dir_view dh d) x) x (name_key p name)) (dir_view t2.dir_hash t2.dir_table) (file_view d fh f) (file_view t2.dir_table fh f) RD RF
        (renamed_dir (dir_view dh d) (file_view d fh f) RD RF T x (name_key p name) lx n1 lp Q.dir_some fresh above)
        renamed_dir_agrees
        (files_same d t2.dir_table fh f
        (λ y. linked_heads t1.dir_hash t1.dir_table fh f fine x p name bn lx.0 in_room p_room y ∙ unlinked_heads dh d fh f Q RD RF T x lx n1 y 8 (omega arith) (omega arith)))

  pub carried_dir_kept : (x : ℕ) → Live (dir_view dh d).count RD x → (bytes : List ℕ) → Bytes bytes
      → Tree (dir_view dh (with_carried Directory (tables dh d fh f) x bytes).dir_table) (file_view (with_carried Directory (tables dh d fh f) x bytes).dir_table fh f) RD RF
  carried_dir_kept x lx bytes bb =
      let e = entry_fits 40 d x (dir_low dh d fh f Q RD RF T x lx.1) in
      tree_agree (dir_view dh d) (dir_view dh (with_carried Directory (tables dh d fh f) x bytes).dir_table) (file_view d fh f) (file_view (with_carried Directory (tables dh d fh f) x bytes).dir_table fh f) RD RF T
      (dirs_past dh d x 9 (word bytes 0) (omega arith) (omega arith) e (word_lt bytes bb 0))
      (files_same d (with_carried Directory (tables dh d fh f) x bytes).dir_table fh f (λ y. after 40 d (write x 9 (word bytes 0) ∷ []) ((e, omega arith, word_lt bytes bb 0), tt) y 8 (omega arith)))
