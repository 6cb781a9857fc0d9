-- What the kiosk's create does, by its promise. The statements name definitions of specs/ alone.
use mathlib.Core.Path.{◌≡◌, refl, sym, ap, subst, subst⁻¹, ◌∙◌}
use mathlib.Core.List.Memᴰ
use mathlib.Core.List.Permᴰ
use mathlib.Core.List.{List, [], ◌∷◌, ◌++◌, Memᴰ, Permᴰ}
use mathlib.Core.Logic.{◌≢◌, ◌⊎◌, inl, inr, ⊎_elim}
use Prim.Native.Nat.{ℕ, suc, ◌+◌, ◌-◌, ◌≤◌, ◌<◌}
use native.Mathlib.Omega.{arith}
use lib.ListN.{length}
use Rattle.words.specs.Word.{AreBytes}
use Rattle.links.proofs.Held.{same_or}
use Rattle.order.specs.Beside.{Beside}
use Rattle.order.specs.Answer.{Done}
use Rattle.fat_node.specs.Entry.{Bytes}
use Rattle.fat_node.specs.Node.{Run, run}
use Rattle.fat_node.specs.Sizes.{blocks}
use Rattle.fat_table.specs.Sound.{Sound, File}
use Rattle.fat_table.specs.Chain.{total, free_at, file_at}
use Rattle.fat_table.specs.Layout.{Layout, layout, joined, hits, covers, empties}
use Rattle.fat_table.specs.Steps.{first}
use Rattle.fat_table.specs.Counts.{free_blocks}
use Rattle.fat_table.proofs.Stepped.{holds_order}
use Rattle.fat_table.proofs.Layouts.{hits_in, hits_most, covers_append, empties_append}
use Rattle.fat_table.proofs.Files.{Whole, seen, seen_file, first_covered, file_of, is_file}
use Rattle.fat_test.specs.Gate.{InUse}
use Rattle.fat_promises.specs.Blocks.{blocks_of, bytes_at}
use Rattle.fat_promises.specs.Calls.{Create}
use Rattle.fat_history.specs.KeptBy.{KeptBy}
use Rattle.fat_history.proofs.Passes.{are_bytes}
use Rattle.fat_history.proofs.Honest.{as_blocks}
use Rattle.fat_carve.specs.Carve.{carved, fit, Window}
use Rattle.fat_carve.proofs.Carves.{Fits}
use Rattle.fat_place.specs.Place.{placed}
use Rattle.fat_place.proofs.Tables.{holds_place, place_whole, place_file, place_free, place_count, place_leaves, fit_free, fit_open, fit_leaves}
use Rattle.kiosk_create.specs.Create.{NoneLong, fit_at, FirstCut, Single, KioskPromise}
use Rattle.kiosk_create.proofs.Means.{KioskWent, kiosk_means, kiosk_keeps, kiosk_used}

-- ---- the files of a table whose free chain gave a window

perm_in : {A : Type 0} {r : A} {a b : List A} → Permᴰ a b → Memᴰ r a → Memᴰ r b
perm_in Permᴰ.nil m = m
perm_in (Permᴰ.cons e p) m = ⊎_elim (λ q. Memᴰ.head (q ∙ e)) (λ k. Memᴰ.tail (perm_in p k)) (Memᴰ.cases_cons m)
perm_in (Permᴰ.swap e e') m = ⊎_elim
    (λ q. Memᴰ.tail (Memᴰ.head (q ∙ e)))
    (λ k. ⊎_elim (λ q. Memᴰ.head (q ∙ e')) (λ j. Memᴰ.tail (Memᴰ.tail j)) (Memᴰ.cases_cons k))
    (Memᴰ.cases_cons m)
perm_in (Permᴰ.trans p q) m = perm_in q (perm_in p m)

-- what stands in a list can stand first
in_first : {A : Type 0} {r : A} (l : List A) → Memᴰ r l → (rest : List A) × Permᴰ l (r ∷ rest)
in_first [] m = absurd (Memᴰ.not-nil m)
in_first (x ∷ l) m = ⊎_elim
    (λ q. (l, Permᴰ.cons (sym q) (Permᴰ.refl l)))
    (λ k. let w = in_first l k in (x ∷ w.0, Permᴰ.trans (Permᴰ.cons refl w.1) (Permᴰ.swap refl refl)))
    (Memᴰ.cases_cons m)

module _ (n : ℕ) (t : Bytes) (w : Whole n t) (m c : ℕ) (q : Window m c (free_at n t)) where
  -- every file afterwards is one of before, or the new one
  pub place_only : (b : ℕ) → File (placed n t m c) n b → b ≢ m → File t n b
  place_only b i ne =
      let s = seen n t w in
      let L : Layout = layout (carved m c (free_at n t)) ((run m c ∷ []) ∷ s.files) in
      let o = file_of n w.small (placed n t m c) L b (holds_place n t w m c q) i in
      ⊎_elim
      (λ (e : o.0 ≡ run m c ∷ []). absurd (ne (omega (arith, ap first (sym e), o.3))))
      (λ (k : Memᴰ o.0 s.files).
      let p = in_first s.files k in
      is_file n w.small t (free_at n t) o.0 p.0 b (holds_order p.1 s.holds) o.3)
      (Memᴰ.cases_cons (perm_in (Permᴰ.symm o.2) (Memᴰ.head refl)))

  -- the new one was no file
  pub place_new : File t n m → ⊥
  place_new i =
      let s = seen_file n t m w i in
      omega (
        arith,
        q.each m,
        hits_in m (run m c) (omega arith) (omega (arith, q.some)),
        first_covered (file_at n t m) m s.at (omega (arith, s.holds.tiled.positive, empties_append (free_at n t) (file_at n t m ++ joined s.others), empties_append (file_at n t m) (joined s.others))),
        s.holds.tiled.once m,
        hits_most m (run 0 n),
        covers_append m (free_at n t) (file_at n t m ++ joined s.others),
        covers_append m (file_at n t m) (joined s.others),
      )

  -- so that files of one node stay files of one node
  pub place_single : Single n t → Single n (placed n t m c)
  place_single g b i = ⊎_elim
      (λ (e : b ≡ m). ap (λ (x : ℕ). length (file_at n (placed n t m c) x)) e ∙ ap {B = ℕ} length (place_file n t w m c q).1)
      (λ (ne : b ≢ m). let j : File t n b = place_only b i ne in ap {B = ℕ} length (place_leaves n t w m c q b j).same ∙ g b j)
      (same_or b m)

-- ---- the call

module _ (t : Bytes) (d l : ℕ) (work : List ℕ) (count : ℕ) (o : Beside Create) (g : AreBytes t) (p : KioskPromise t d l work count o) where
  abbrev n : ℕ
  n = blocks t

  -- what went by left
  module _ (v : KioskWent t d l work count o) where
    abbrev m : ℕ
    m = v.may.first

    went_at : fit_at n t count ≡ m
    unfolding fit_at
    went_at = omega (arith, v.may.found)

    abbrev window : Window m count (free_at n t)
    window = fit_open n t v.passed.whole m count v.may.some v.may.found

    went_first : o.given.first ≡ m
    went_first = ap (λ (x : Beside Create). x.given.first) v.is ∙ went_at

    went_table : o.given.table ≡ placed n t m count
    went_table = ap (λ (x : Beside Create). x.given.table) v.is ∙ ap (λ (x : ℕ). placed n t x count) went_at

    went_whole : Whole n (placed n t m count)
    went_whole = place_whole n t v.passed.whole m count window

  -- kept_kiosk: answered Done it leaves a sound table of the same length, and refused the table as it was
  pub kept_kiosk : KeptBy t o.given.answer o.given.table
  kept_kiosk = (
    λ e.
        let v = kiosk_means t d l work count o (are_bytes t g) p e in
        let w : Whole n (placed n t (m v) count) = went_whole v in
        subst⁻¹ (λ (x : Bytes). Sound x (blocks x) × (length x ≡ length t)) (went_table v)
        ((as_blocks n (placed n t (m v) count) w).sound, w.room ∙ sym v.passed.whole.room),
    λ e.
        ⊎_elim (λ r. r) (λ v. absurd (e (ap (λ (x : Beside Create). x.given.answer) v.is)))
        (kiosk_keeps t d l work count o (are_bytes t g) p),
  )

  -- read_only_kiosk: with a block length that is not in use the table is left as it was
  pub read_only_kiosk : (InUse l → ⊥) → o.given.table ≡ t
  read_only_kiosk u =
      ⊎_elim (λ r. r) (λ v. absurd (u (kiosk_used t d l work count o v))) (kiosk_keeps t d l work count o (are_bytes t g) p)

  -- answered Done --------------------------------------------------------------------------------------------------

  module _ (e : o.given.answer ≡ Done) where
    went : KioskWent t d l work count o
    went = kiosk_means t d l work count o (are_bytes t g) p e

    abbrev whole : Whole (blocks t) t
    whole = went.passed.whole

    abbrev at : ℕ
    at = went.may.first

    abbrev open_window : Window at count (free_at n t)
    open_window = window went

    -- one_node_kiosk: the new chain is a single node of so many blocks, at the answered first block
    pub one_node_kiosk : File o.given.table n o.given.first × (file_at n o.given.table o.given.first ≡ run o.given.first count ∷ [])
    one_node_kiosk =
        subst⁻¹ (λ (x : Bytes). File x n o.given.first × (file_at n x o.given.first ≡ run o.given.first count ∷ [])) (went_table went)
        (subst⁻¹ (λ (b : ℕ). File (placed n t at count) n b × (file_at n (placed n t at count) b ≡ run b count ∷ [])) (went_first went)
        (place_file n t whole at count open_window))

    -- others_kiosk: every other file's list stays, and so its bytes, whatever the data
    pub others_kiosk : (b : ℕ) → File t n b → File o.given.table n b × (file_at n o.given.table b ≡ file_at n t b)
    others_kiosk b i =
        let s = place_leaves n t whole at count open_window b i in
        subst⁻¹ (λ (x : Bytes). File x n b × (file_at n x b ≡ file_at n t b)) (went_table went) (s.file, s.same)

    pub bytes_kiosk : (b : ℕ) → File t n b → (bytes : Bytes) (many pos : ℕ)
        → bytes_at many bytes l (blocks_of (file_at n o.given.table b)) pos ≡ bytes_at many bytes l (blocks_of (file_at n t b)) pos
    bytes_kiosk b i bytes many pos = ap (λ (c : List Run). bytes_at many bytes l (blocks_of c) pos) (others_kiosk b i).1

    -- only_kiosk: no other file appears
    pub only_kiosk : (b : ℕ) → File o.given.table n b → b ≢ o.given.first → File t n b
    only_kiosk b i ne =
        place_only n t whole at count open_window b (subst (λ (x : Bytes). File x n b) (went_table went) i) (λ x. ne (x ∙ sym (went_first went)))

    -- new_kiosk: the answered block was no file's first
    pub new_kiosk : File t n o.given.first → ⊥
    new_kiosk i = place_new n t whole at count open_window (subst (File t n) (went_first went) i)

    -- single_kiosk: if the chain rule held, it holds
    pub single_kiosk : Single n t → Single n o.given.table
    single_kiosk h = subst⁻¹ (Single n) (went_table went) (place_single n t whole at count open_window h)

    -- cut_kiosk: the file is the left part of the first free node that is long enough; what is left of that node stands in its place, and one taken whole
    -- leaves its neighbours linked
    pub cut_kiosk : FirstCut count (free_at n t) o.given.first (free_at n o.given.table)
    cut_kiosk =
        let f : Fits count (free_at n t) at = fit_free n t whole at count went.may.some went.may.found in
        record {
          before = f.before;
          node = f.node;
          after = f.after;
          is = f.is;
          at = f.at ∙ sym (went_first went);
          long = f.long;
          short = f.first;
          leaves = ap (free_at n) (went_table went) ∙ place_free n t whole at count open_window
              ∙ fit_leaves n t whole at count went.may.some went.may.found;
        }

    -- count_kiosk: so many blocks fewer are free
    pub count_kiosk : free_blocks n o.given.table + count ≡ free_blocks n t
    count_kiosk = ap (λ (x : Bytes). free_blocks n x + count) (went_table went) ∙ place_count n t whole at count open_window
