-- Format makes sound tables.
use mathlib.Core.Path.{◌≡◌, refl, sym, ap, ◌∙◌, subst, subst⁻¹}
use mathlib.Core.List.{List, [], ◌∷◌, ◌++◌}
use mathlib.Core.Logic.{inl, inr, ⊎_elim, ◌≢◌}
use mathlib.Core.Bool.{Bool, true, false, ◌&&◌}
use Prim.Native.Nat.{ℕ, zero, suc, ◌+◌, ◌-◌, ◌*◌, ◌/◌, ◌%◌, ◌≤◌, ◌<◌}
use native.Mathlib.Nat.{lt_of_not-le, mod-lt}
use native.Mathlib.Decide.{dec_lt}
use native.Mathlib.Omega.{arith}
use lib.Dec.{eqb}
use lib.ListN.{length, get_or, drop, replicate, length-append, length-replicate, length-drop, get_or-replicate, get_or-append}
use lib.Seq.{get_or-append-add, get_or-drop}
use Rattle.words.specs.Word.{word}
use Rattle.words.proofs.Laws.{Bytes}
use Rattle.order.specs.Gate.{cleared}
use Rattle.order.specs.Answer.{number_of}
use Rattle.order.specs.Answer.{Done, SizeMismatch, InvalidValue}
use Rattle.links.specs.Links.{◌∈◌, Distinct, Links, Holds}
use Rattle.links.specs.Change.{pick, upd}
use Rattle.links.proofs.Held.{same_or, upd_same, upd_other}
use Rattle.tree_key.specs.Hash.{hash_of}
use Rattle.tree_table.specs.Field.{start, field, write}
use Rattle.tree_table.specs.View.{View, parent, place, removed_of, LiveIn}
use Rattle.tree_table.proofs.Field.{Has, reads, length_wrote}
use Rattle.tree_sound.specs.Sizes.{buckets}
use Rattle.tree_sound.specs.Sound.{Table, Sound, up}
use Rattle.tree_sound.specs.Tables.{Tables, dirs, files}
use Rattle.tree_promises.specs.Calls.{Carry, carry_gives}
use Rattle.tree_promises.specs.Format.{FormatMisfit, FormatOutside, format_rows, formatted, FormatPromise}
use Rattle.tree_kept.proofs.Tables.{after, bytes_wrote, heads_after}
use Rattle.tree_kept.proofs.Loose.{entry_fits}
use Rattle.tree_kept.proofs.Kept.{walk_zero}
use Rattle.tree_history.specs.Whole.{Lent}
use Rattle.tree_history.specs.Call.{State, state}
use Rattle.tree_history.proofs.Rows.{of_first}
use Rattle.tree_history.proofs.Stable.{le_stable}
use Rattle.tree_history.proofs.Sizes.{are_bytes, After, whole_after}
use Rattle.tree_history.specs.Names.{AllLegal}
use Rattle.tree_history.proofs.Good.{Good, good_refused, good_done}

-- zeros ------------------------------------------------------------------------------------------------------------------------------------------------

nothing : (k i : ℕ) (r : List ℕ) → i < k → get_or (replicate k 0 ++ r) i 0 ≡ 0
nothing k i r h = get_or-append (replicate k 0) r 0 i (subst⁻¹ (λ n. i < n) (length-replicate k 0) h) ∙ get_or-replicate k i 0 0 h

word_zeros : (k i : ℕ) (r : List ℕ) → i + 4 ≤ k → word (replicate k 0 ++ r) i ≡ 0
unfolding word
word_zeros k i r h = omega (arith, nothing k i r (omega arith), nothing k (i + 1) r (omega arith), nothing k (i + 2) r (omega arith), nothing k (i + 3) r (omega arith))

all_zero : (k i : ℕ) → ◌≡◌ {A = ℕ} (get_or (replicate k 0) i 0) 0
all_zero zero i = refl
all_zero (suc k) zero = refl
all_zero (suc k) (suc i) = all_zero k i

hash_zeros : (k b : ℕ) → field 4 (replicate k 0) b 0 ≡ 0
unfolding field word
hash_zeros k b =
    omega (arith, all_zero k (b * 4 + 0), all_zero k (b * 4 + 0 + 1), all_zero k (b * 4 + 0 + 2), all_zero k (b * 4 + 0 + 3))

bytes_zeros : (k : ℕ) → Bytes (replicate k 0)
bytes_zeros k = record { byte = λ i. omega (arith, all_zero k i) }

length_cleared : (k : ℕ) (t : List ℕ) → k ≤ length t → length (cleared k t) ≡ length t
length_cleared k t h = simp (length-append, length-replicate, length-drop) (omega arith)

bytes_cleared : (k : ℕ) (t : List ℕ) → Bytes t → Bytes (cleared k t)
bytes_cleared k t B = record { byte = λ i. go i (dec_lt i k) }
  where
    zeros : List ℕ
    zeros = replicate k 0

    go : (i : ℕ) → Dec (i < k) → get_or (cleared k t) i 0 < 256
    go i (yes h) = omega (arith, nothing k i (drop k t) h)
    go i (no h) =
        let e : length zeros ≡ k = length-replicate k 0 in
        let f : length zeros + (i - k) ≡ i = omega arith in
        subst (λ n. get_or (cleared k t) n 0 < 256) f (omega (arith, get_or-append-add zeros (drop k t) (i - k) 0, get_or-drop k t (i - k) 0, B.byte (k + (i - k))))

-- the views ----------------------------------------------------------------------------------------------------------------------------------------

-- what is left where no row of format applies
pub record Maxima (s : Tables) (dm fm : ℕ) : Type 0 where
  pub some : 0 < buckets s.dir_hash
  pub dir_two : 2 ≤ dm
  pub dir_few : dm ≤ 65536
  pub dir_long : dm * 40 ≤ length s.dir_table
  pub file_one : 1 ≤ fm
  pub file_few : fm ≤ 65536
  pub file_long : fm * 48 ≤ length s.file_table

-- an entry of zeros
zero_field : (w k y g : ℕ) (r : List ℕ) → Has w g → y * w + w ≤ k → field w (replicate k 0 ++ r) y g ≡ 0
unfolding field
zero_field w k y zero r h l = word_zeros k (y * w + start w zero) r (omega arith)
zero_field w k y (suc g) r h l = word_zeros k (y * w + start w (suc g)) r (omega arith)

module _ (s : Tables) (dm fm : ℕ) (M : Maxima s dm fm) where
  abbrev D : View
  D = dirs (formatted s dm fm)

  abbrev F : View
  F = files (formatted s dm fm)

  abbrev d1 : List ℕ
  d1 = cleared 80 s.dir_table

  abbrev f1 : List ℕ
  f1 = cleared 48 s.file_table

  abbrev root : ℕ
  root = hash_of (0 ∷ 0 ∷ 0 ∷ 0 ∷ 0 ∷ []) % buckets s.dir_hash

  long_d : length d1 ≡ length s.dir_table
  long_d = length_cleared 80 s.dir_table (let a = M.dir_two in let b = M.dir_long in omega arith)

  long_f : length f1 ≡ length s.file_table
  long_f = length_cleared 48 s.file_table (let a = M.file_one in let b = M.file_long in omega arith)

  -- fields of the directories
  dir_at : (y g : ℕ) → Has 40 g → field 40 (formatted s dm fm).dir_table y g ≡ reads (write 0 1 2 ∷ write 0 2 dm ∷ []) (field 40 d1) y g
  dir_at y g h =
      let a = M.dir_two in
      let b = M.dir_long in
      let c = M.dir_few in
      let e = long_d in
      after 40 d1 (write 0 1 2 ∷ write 0 2 dm ∷ []) ((omega arith, omega arith, omega arith), ((omega arith, omega arith, omega arith), tt)) y g h

  dir_zero : (y g : ℕ) → y < 2 → Has 40 g → field 40 d1 y g ≡ 0
  dir_zero y g h k = zero_field 40 80 y g (drop 80 s.dir_table) k (omega arith)

  count : D.count ≡ 2
  count = dir_at 0 1 (omega arith)

  maximum : D.maximum ≡ dm
  maximum = dir_at 0 2 (omega arith)

  first : D.coll 0 ≡ 0
  first = dir_at 0 0 (omega arith) ∙ dir_zero 0 0 (omega arith) (omega arith)

  coll : D.coll 1 ≡ 0
  coll = dir_at 1 0 (omega arith) ∙ dir_zero 1 0 (omega arith) (omega arith)

  next : D.next 1 ≡ 0
  next = dir_at 1 6 (omega arith) ∙ dir_zero 1 6 (omega arith) (omega arith)

  sub_dir : D.head 1 ≡ 0
  sub_dir = dir_at 1 7 (omega arith) ∙ dir_zero 1 7 (omega arith) (omega arith)

  sub_file : F.head 1 ≡ 0
  sub_file = dir_at 1 8 (omega arith) ∙ dir_zero 1 8 (omega arith) (omega arith)

  key_word : (g : ℕ) → Has 40 g → field 40 (formatted s dm fm).dir_table 1 g ≡ 0
  key_word g h = dir_at 1 g h ∙ other (eqb g 2) (eqb g 1) ∙ dir_zero 1 g (omega arith) h
    where
      other : (a b : Bool) → pick (a && eqb 1 0) dm (pick (b && eqb 1 0) 2 (field 40 d1 1 g)) ≡ field 40 d1 1 g
      other true true = refl
      other true false = refl
      other false true = refl
      other false false = refl

  key : D.key 1 ≡ 0 ∷ 0 ∷ 0 ∷ 0 ∷ 0 ∷ []
  key =
      let a = key_word 1 (omega arith) in
      let b = key_word 2 (omega arith) in
      let c = key_word 3 (omega arith) in
      let d = key_word 4 (omega arith) in
      let e = key_word 5 (omega arith) in
      cc

  removed : removed_of D ≡ []
  removed = walk_zero D.coll D.count (D.coll 0) first

  -- inode 1 alone is live
  live : LiveIn D 1
  live = (omega arith, (let c = count in omega arith), λ m. subst (λ l. 1 ∈ l) removed m)

  only : (y : ℕ) → LiveIn D y → y ≡ 1
  only y l = let a : 0 < y = l.0 in let b : y < D.count = l.1 in let c = count in omega arith

  -- the root's bucket
  hashed : (b : ℕ) → D.hash b ≡ upd (λ z. field 4 (replicate (length s.dir_hash) 0) z 0) root 1 b
  hashed b =
      heads_after 4 (replicate (length s.dir_hash) 0) true root 0 1
      (entry_fits 4 (replicate (length s.dir_hash) 0) root
      (subst⁻¹ (λ n. root < n / 4) (length-replicate (length s.dir_hash) 0) (mod-lt (hash_of (0 ∷ 0 ∷ 0 ∷ 0 ∷ 0 ∷ [])) M.some)))
      (omega arith) (omega arith) b

  here : (b : ℕ) → b ≡ root → D.hash b ≡ 1
  here b e = hashed b ∙ upd_same (λ z. field 4 (replicate (length s.dir_hash) 0) z 0) root 1 b e

  elsewhere : (b : ℕ) → b ≢ root → D.hash b ≡ 0
  elsewhere b n = hashed b ∙ upd_other (λ z. field 4 (replicate (length s.dir_hash) 0) z 0) root 1 b n ∙ hash_zeros (length s.dir_hash) b

  -- fields of the files
  file_at_lem : (y g : ℕ) → Has 48 g → field 48 (formatted s dm fm).file_table y g ≡ reads (write 0 1 1 ∷ write 0 2 fm ∷ []) (field 48 f1) y g
  file_at_lem y g h =
      let a = M.file_one in
      let b = M.file_long in
      let c = M.file_few in
      let e = long_f in
      after 48 f1 (write 0 1 1 ∷ write 0 2 fm ∷ []) ((omega arith, omega arith, omega arith), ((omega arith, omega arith, omega arith), tt)) y g h

  file_count : F.count ≡ 1
  file_count = file_at_lem 0 1 (omega arith)

  file_maximum : F.maximum ≡ fm
  file_maximum = file_at_lem 0 2 (omega arith)

  file_first : F.coll 0 ≡ 0
  file_first = file_at_lem 0 0 (omega arith) ∙ zero_field 48 48 0 0 (drop 48 s.file_table) (omega arith) (omega arith)

  file_removed : removed_of F ≡ []
  file_removed = walk_zero F.coll F.count (F.coll 0) file_first

  -- no file is live
  no_file : (y : ℕ) → LiveIn F y → ⊥
  no_file y l = let a : 0 < y = l.0 in let b : y < F.count = l.1 in let c = file_count in omega arith

  -- the tables -----------------------------------------------------------------------------------------------------------------------------------------

  same_buckets : D.buckets ≡ buckets s.dir_hash
  same_buckets =
      ap (λ n. n / 4)
      (length_wrote 4 (write root 0 1 ∷ []) (replicate (length s.dir_hash) 0) ∙ length-replicate (length s.dir_hash) 0)

  root_place : place D (D.key 1) ≡ root
  root_place = ap (λ k. hash_of k % D.buckets) key ∙ ap (λ n. hash_of (0 ∷ 0 ∷ 0 ∷ 0 ∷ 0 ∷ []) % n) same_buckets

  dir_bucket : (b : ℕ) → Holds D.coll (D.hash b) (λ y. LiveIn D y × (place D (D.key y) ≡ b))
  dir_bucket b =
      ⊎_elim
      (λ (e : b ≡ root). (
        1 ∷ [],
        (here b e, omega arith, coll),
        λ y. (
          ⊎_elim (λ (q : y ≡ 1). (subst⁻¹ (λ z. LiveIn D z) q live, ap (λ z. place D (D.key z)) q ∙ root_place ∙ sym e)) (λ z. absurd z),
          λ q. inl (only y q.0),
        ),
      ))
      (λ (n : b ≢ root). (
        [],
        elsewhere b n,
        λ y. (λ z. absurd z, λ q. absurd (n (sym q.1 ∙ ap (λ z. place D (D.key z)) (only y q.0) ∙ root_place))),
      ))
      (same_or b root)

  dir_table : Table D
  dir_table = record {
    max_room = subst⁻¹ (λ n. n ≤ D.room) maximum
        (subst⁻¹ (λ n. dm ≤ n / 40) (length_wrote 40 (write 0 1 2 ∷ write 0 2 dm ∷ []) d1 ∙ long_d) (let a = M.dir_long in omega arith));
    count_one = let a = count in omega arith;
    count_max = let a = count in let b = maximum in let c = M.dir_two in omega arith;
    removed = subst⁻¹ (λ l. Links D.coll (D.coll 0) l) removed first;
    removed_once = subst⁻¹ Distinct removed tt;
    removed_below = λ y m. absurd (subst (λ l. y ∈ l) removed m);
    bucket = λ b h. dir_bucket b;
    keys = λ y z a b e. only y a ∙ sym (only z b);
  }

  file_table : Table F
  file_table = record {
    max_room = subst⁻¹ (λ n. n ≤ F.room) file_maximum
        (subst⁻¹ (λ n. fm ≤ n / 48) (length_wrote 48 (write 0 1 1 ∷ write 0 2 fm ∷ []) f1 ∙ long_f) (let a = M.file_long in omega arith));
    count_one = let a = file_count in omega arith;
    count_max = let a = file_count in let b = file_maximum in let c = M.file_one in omega arith;
    removed = subst⁻¹ (λ l. Links F.coll (F.coll 0) l) file_removed file_first;
    removed_once = subst⁻¹ Distinct file_removed tt;
    removed_below = λ y m. absurd (subst (λ l. y ∈ l) file_removed m);
    bucket = λ b h. ([], hash_zeros (length s.file_hash) b, λ y. (λ z. absurd z, λ q. absurd (no_file y q.0)));
    keys = λ y z a b e. absurd (no_file y a);
  }

  up_root : up D 1 ≡ 0
  up_root = ap parent key

  pub formatted_sound : Sound D F
  formatted_sound = record {
    dirs = record {
      below = record {
        table = dir_table;
        parents = λ y l n. absurd (n (only y l));
        lists = λ p l. (
          [],
          ap D.head (only p l) ∙ sub_dir,
          λ y. (λ z. absurd z, λ q. absurd (let a = ap (up D) (only y q.0) ∙ up_root in let b : up D y ≡ p = q.1 in let c = only p l in omega arith)),
        );
      };
      count_two = let a = count in omega arith;
      root_live = live;
      root_key = key;
      root_next = next;
      reach = λ y l. (1 ∷ [], (only y l, omega arith, up_root), inl refl);
    };
    files = record {
      table = file_table;
      parents = λ y l _. absurd (no_file y l);
      lists = λ p l. ([], ap F.head (only p l) ∙ sub_file, λ y. (λ z. absurd z, λ q. absurd (no_file y q.0)));
    };
  }

  -- no entry but the root, so none with a bad name
  pub formatted_legal : AllLegal (formatted s dm fm)
  formatted_legal = record { of_dirs = λ y l n. absurd (n (only y l)); of_files = λ y l n. absurd (no_file y l) }

  pub formatted_bare : ((y : ℕ) → LiveIn (dirs (formatted s dm fm)) y → y ≡ 1) × ((y : ℕ) → LiveIn (files (formatted s dm fm)) y → ⊥)
  formatted_bare = (only, no_file)

  -- the same lengths, and bytes
  pub formatted_after : After s (formatted s dm fm)
  formatted_after = record {
    sizes = record {
      dir_hash = length_wrote 4 (write root 0 1 ∷ []) (replicate (length s.dir_hash) 0) ∙ length-replicate (length s.dir_hash) 0;
      dir_table = length_wrote 40 (write 0 1 2 ∷ write 0 2 dm ∷ []) d1 ∙ long_d;
      file_hash = length-replicate (length s.file_hash) 0;
      file_table = length_wrote 48 (write 0 1 1 ∷ write 0 2 fm ∷ []) f1 ∙ long_f;
    };
    lent = λ l. record {
      dir_hash = (bytes_wrote 4 (write root 0 1 ∷ []) (replicate (length s.dir_hash) 0) (bytes_zeros (length s.dir_hash))).byte;
      dir_table = (bytes_wrote 40 (write 0 1 2 ∷ write 0 2 dm ∷ []) d1 (bytes_cleared 80 s.dir_table (are_bytes s.dir_table l.dir_table))).byte;
      file_hash = (bytes_zeros (length s.file_hash)).byte;
      file_table = (bytes_wrote 48 (write 0 1 1 ∷ write 0 2 fm ∷ []) f1 (bytes_cleared 48 s.file_table (are_bytes s.file_table l.file_table))).byte;
    };
  }

-- the call --------------------------------------------------------------------------------------------------------------------------------------------

-- where no row applies
maxima : (s : Tables) (dm fm : ℕ) → (FormatMisfit s dm fm → ⊥) → (FormatOutside s dm fm → ⊥) → Maxima s dm fm
maxima s dm fm m o = record {
  some = le_stable 1 (buckets s.dir_hash) (λ k. o (inl (inl (inl (lt_of_not-le k)))));
  dir_two = le_stable 2 dm (λ k. o (inr (inl (lt_of_not-le k))));
  dir_few = le_stable dm 65536 (λ k. o (inr (inr (inl (lt_of_not-le k)))));
  dir_long = le_stable (dm * 40) (length s.dir_table) (λ k. m (inr (inl (lt_of_not-le k))));
  file_one = le_stable 1 fm (λ k. o (inr (inr (inr (inl (lt_of_not-le k))))));
  file_few = le_stable fm 65536 (λ k. o (inr (inr (inr (inr (lt_of_not-le k))))));
  file_long = le_stable (fm * 48) (length s.file_table) (λ k. m (inr (inr (lt_of_not-le k))));
}

pub good_format : (s : State) → Lent s.tables → (dm fm : ℕ) (o : Carry) → FormatPromise s.tables dm fm o
    → Good s o.answer (state o.tables s.dir_opens s.file_opens)
good_format s L dm fm o p =
    of_first (λ (x : Carry). Good s x.answer (state x.tables s.dir_opens s.file_opens)) (format_rows t dm fm) (carry_gives Done (formatted t dm fm)) o
    (λ _. good_refused s SizeMismatch (omega arith, λ e. omega arith), (λ _. good_refused s InvalidValue (omega arith, λ e. omega arith), tt))
    (λ n.
    good_done s (state (formatted t dm fm) s.dir_opens s.file_opens)
    (whole_after t (λ m. n.0 (inl m)) (λ m. n.1.0 (inl m)) L (formatted t dm fm) (formatted_after t dm fm (maxima t dm fm n.0 n.1.0))
    (formatted_sound t dm fm (maxima t dm fm n.0 n.1.0)))
    (λ _. formatted_legal t dm fm (maxima t dm fm n.0 n.1.0)))
    p
  where
    t : Tables
    t = s.tables

-- a format that is answered Done leaves no bad name
pub format_named : (s : Tables) (dm fm : ℕ) (o : Carry) → FormatPromise s dm fm o → o.answer ≡ Done → AllLegal o.tables
format_named s dm fm o =
    of_first (λ (x : Carry). x.answer ≡ Done → AllLegal x.tables) (format_rows s dm fm) (carry_gives Done (formatted s dm fm)) o
    (λ _ e. absurd (omega (arith, ap number_of e)), (λ _ e. absurd (omega (arith, ap number_of e)), tt))
    (λ n _. formatted_legal s dm fm (maxima s dm fm n.0 n.1.0))

-- a format that is answered Done leaves the root alone
pub format_bare : (s : Tables) (dm fm : ℕ) (o : Carry) → FormatPromise s dm fm o → o.answer ≡ Done
    → ((y : ℕ) → LiveIn (dirs o.tables) y → y ≡ 1) × ((y : ℕ) → LiveIn (files o.tables) y → ⊥)
format_bare s dm fm o =
    of_first (λ (x : Carry). x.answer ≡ Done → ((y : ℕ) → LiveIn (dirs x.tables) y → y ≡ 1) × ((y : ℕ) → LiveIn (files x.tables) y → ⊥))
    (format_rows s dm fm) (carry_gives Done (formatted s dm fm)) o
    (λ _ e. absurd (omega (arith, ap number_of e)), (λ _ e. absurd (omega (arith, ap number_of e)), tt))
    (λ n _. formatted_bare s dm fm (maxima s dm fm n.0 n.1.0))
