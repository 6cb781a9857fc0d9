-- What the code that links and unlinks an entry has written: the steps of the specification.
use mathlib.Core.Path.{◌≡◌, sym, ap, ap₂, ◌∙◌}
use mathlib.Core.List.{List, [], ◌∷◌, ◌++◌}
use Prim.Native.Nat.{ℕ, ◌+◌, ◌*◌, ◌/◌, ◌%◌}
use lib.Dec.{eqb}
use lib.ListN.{length, get_or}
use Rattle.words.specs.Word.{put_word}
use Rattle.tree_key.specs.Key.{name_key, key_words}
use Rattle.tree_key.specs.Hash.{hash_of}
use Rattle.tree_key.specs.declared.SaveExtKey.{SaveExtKey}
use Rattle.tree_table.specs.Field.{field, Write, write, wrote}
use Rattle.tree_table.specs.View.{hash_at, parent}
use Rattle.tree_table.specs.Steps.{enter_writes, cut_writes, head_writes, bucket_before, child_before}
use Rattle.tree_table.specs.Chain.{link_at}
use Rattle.tree_table.proofs.Cases.{wrote_append}
use Rattle.tree_sound.specs.Tables.{Tables, tables, dirs, files}
use Rattle.tree_promises.specs.declared.Kind.TheVariants.{Directory, File}
use Rattle.tree_promises.specs.Steps.{linked_to, unlinked_from}
use Rattle.tree_step.specs.Inner.Seat.{InBucket, InList}
use Rattle.tree_step.specs.declared.Seat.{Seat}
use Rattle.tree_step.specs.declared.Child.{Child}

-- the writes of a cut, by what the code found
cut_hash : (h : List ℕ) {p p' b b' n n' : ℕ} → p ≡ p' → b ≡ b' → n ≡ n' → wrote 4 h (head_writes (eqb p 0) b 0 n) ≡ wrote 4 h (head_writes (eqb p' 0) b' 0 n')
cut_hash h {p} {p'} {b} {b'} {n} {n'} ep eb en = ap (λ z. wrote 4 h (head_writes (eqb z 0) b 0 n)) ep ∙ ap₂ (λ y z. wrote 4 h (head_writes (eqb p' 0) y 0 z)) eb en

cut_list : (w : ℕ) (t : List ℕ) (f : ℕ) {p p' n n' : ℕ} → p ≡ p' → n ≡ n' → wrote w t (cut_writes (eqb p 0) p f n) ≡ wrote w t (cut_writes (eqb p' 0) p' f n')
cut_list w t f {p} {p'} {n} {n'} ep en = ap₂ (λ y z. wrote w t (cut_writes (eqb y 0) y f z)) ep en

head_list : (w : ℕ) (t : List ℕ) (f : ℕ) {p p' u u' n n' : ℕ} → p ≡ p' → u ≡ u' → n ≡ n' → wrote w t (head_writes (eqb p 0) u f n) ≡ wrote w t (head_writes (eqb p' 0) u' f n')
head_list w t f {p} {p'} {u} {u'} {n} {n'} ep eu en = ap (λ z. wrote w t (head_writes (eqb z 0) u f n)) ep ∙ ap₂ (λ y z. wrote w t (head_writes (eqb p' 0) y f z)) eu en

three : (w : ℕ) (t : List ℕ) (a b c : List Write) → wrote w (wrote w (wrote w t a) b) c ≡ wrote w t ((a ++ b) ++ c)
three w t a b c = sym (wrote_append w (a ++ b) c t ∙ ap (λ z. wrote w z c) (wrote_append w a b t))

module _ (h d h' d1 d2 : List ℕ) (x : ℕ) (b : Seat) (l : Child) (B : InBucket h d 40 x b) (L : InList d 24 d 40 x l)
    (eh : h' ≡ wrote 4 h (head_writes (eqb b.before 0) b.bucket 0 b.after))
    (e1 : d1 ≡ wrote 40 d (cut_writes (eqb b.before 0) b.before 0 b.after))
    (e2 : d2 ≡ wrote 40 d1 (cut_writes (eqb l.before 0) l.before 6 l.after ++ head_writes (eqb l.before 0) l.up 7 l.after)) where
  abbrev s : Tables
  s = tables h d [] []

  pub unlinked_dir : (h' ≡ (unlinked_from Directory (tables h d [] []) x).dir_hash) × (d2 ≡ (unlinked_from Directory (tables h d [] []) x).dir_table)
  unfolding field
  unlinked_dir = (
    eh ∙ cut_hash h B.before B.bucket B.after,
    e2
        ∙ wrote_append 40 (cut_writes (eqb l.before 0) l.before 6 l.after) (head_writes (eqb l.before 0) l.up 7 l.after) d1
        ∙ ap (λ z. wrote 40 (wrote 40 z (cut_writes (eqb l.before 0) l.before 6 l.after)) (head_writes (eqb l.before 0) l.up 7 l.after))
        (e1 ∙ cut_list 40 d 0 B.before B.after)
        ∙ ap (λ z. wrote 40 z (head_writes (eqb l.before 0) l.up 7 l.after)) (cut_list 40 _ 6 L.before L.after)
        ∙ head_list 40 _ 7 L.before L.up L.after
        ∙ three 40 d
        (cut_writes (eqb (bucket_before (dirs s) x) 0) (bucket_before (dirs s) x) 0 ((dirs s).coll x))
        (cut_writes (eqb (child_before (dirs s) x) 0) (child_before (dirs s) x) 6 ((dirs s).next x))
        (head_writes (eqb (child_before (dirs s) x) 0) (parent ((dirs s).key x)) 7 ((dirs s).next x)),
  )

module _ (h d f h' d' f1 f2 : List ℕ) (x : ℕ) (b : Seat) (l : Child) (B : InBucket h f 48 x b) (L : InList d 28 f 48 x l)
    (eh : h' ≡ wrote 4 h (head_writes (eqb b.before 0) b.bucket 0 b.after))
    (e1 : f1 ≡ wrote 48 f (cut_writes (eqb b.before 0) b.before 0 b.after))
    (ed : d' ≡ wrote 40 d (head_writes (eqb l.before 0) l.up 8 l.after))
    (e2 : f2 ≡ wrote 48 f1 (cut_writes (eqb l.before 0) l.before 6 l.after)) where
  abbrev q : Tables
  q = tables [] d h f

  pub unlinked_file : (d' ≡ (unlinked_from File (tables [] d h f) x).dir_table) × (h' ≡ (unlinked_from File (tables [] d h f) x).file_hash) × (f2 ≡ (unlinked_from File (tables [] d h f) x).file_table)
  unfolding field
  unlinked_file = (
    ed ∙ head_list 40 d 8 L.before L.up L.after,
    eh ∙ cut_hash h B.before B.bucket B.after,
    e2
        ∙ ap (λ z. wrote 48 z (cut_writes (eqb l.before 0) l.before 6 l.after)) (e1 ∙ cut_list 48 f 0 B.before B.after)
        ∙ cut_list 48 _ 6 L.before L.after
        ∙ sym (wrote_append 48
        (cut_writes (eqb (bucket_before (files q) x) 0) (bucket_before (files q) x) 0 ((files q).coll x))
        (cut_writes (eqb (child_before (files q) x) 0) (child_before (files q) x) 6 ((files q).next x)) f),
  )

-- what enters an entry, by the key's words
abbrev enters : ℕ → List ℕ → ℕ → ℕ → List Write
enters x k next first = enter_writes x (get_or k 0 0) (get_or k 1 0) (get_or k 2 0) (get_or k 3 0) (get_or k 4 0) next first

module _ (h h' : List ℕ) (x p b first next : ℕ) (name : List ℕ) (key : SaveExtKey) (ek : key_words key ≡ name_key p name)
    (eb : b ≡ hash_of (key_words key) % (length h / 4)) (ef : first ≡ hash_at h b) (eh : h' ≡ wrote 4 h (write b 0 x ∷ [])) where
  abbrev at : ℕ
  at = hash_of (name_key p name) % (length h / 4)

  at_is : b ≡ at
  at_is = eb ∙ ap (λ k. hash_of k % (length h / 4)) ek

  hash_is : h' ≡ wrote 4 h (write at 0 x ∷ [])
  hash_is = eh ∙ ap (λ z. wrote 4 h (write z 0 x ∷ [])) at_is

  entered_is : (w : ℕ) (t : List ℕ) (next' : ℕ) → next ≡ next' → wrote w t (enters x (key_words key) next first) ≡ wrote w t (enters x (name_key p name) next' (hash_at h at))
  entered_is w t next' en =
      ap (λ k. wrote w t (enters x k next first)) ek
      ∙ ap₂ (λ n f. wrote w t (enters x (name_key p name) n f)) en (ef ∙ ap (hash_at h) at_is)

  pub linked_dir : (d d1 d2 : List ℕ) → next ≡ link_at d 40 24 p
      → d1 ≡ wrote 40 d (enter_writes x key.parent key.name0 key.name1 key.name2 key.name3 next first) → d2 ≡ put_word d1 (p * 40 + 24) x
      → (h' ≡ (linked_to Directory (tables h d [] []) x p name).dir_hash) × (d2 ≡ (linked_to Directory (tables h d [] []) x p name).dir_table)
  unfolding field
  linked_dir d d1 d2 en e1 e2 =
      (hash_is, e2 ∙ ap (λ z. put_word z (p * 40 + 24) x) (e1 ∙ entered_is 40 d (link_at d 40 24 p) en))

  pub linked_file : (d d' f f1 : List ℕ) → next ≡ link_at d 40 28 p
      → f1 ≡ wrote 48 f (enter_writes x key.parent key.name0 key.name1 key.name2 key.name3 next first) → d' ≡ put_word d (p * 40 + 28) x
      → (d' ≡ (linked_to File (tables [] d h f) x p name).dir_table) × (h' ≡ (linked_to File (tables [] d h f) x p name).file_hash) × (f1 ≡ (linked_to File (tables [] d h f) x p name).file_table)
  unfolding field
  linked_file d d' f f1 en e1 ed = (ed, hash_is, e1 ∙ entered_is 48 f (link_at d 40 28 p) en)
