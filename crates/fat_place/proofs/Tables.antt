-- A window of the free chain laid as a file of one node: the table after an applied plan, and after the kiosk's create.
use mathlib.Core.Path.{◌≡◌, refl, sym, ap, ◌∙◌}
use mathlib.Core.List.Permᴰ
use mathlib.Core.List.{List, [], ◌∷◌, ◌++◌}
use mathlib.Core.Logic.{◌≢◌}
use Prim.Native.Nat.{ℕ, suc, ◌+◌, ◌≤◌}
use native.Mathlib.Omega.{arith}
use Rattle.fat_node.specs.Entry.{Bytes}
use Rattle.fat_node.specs.Node.{Run, run}
use Rattle.fat_table.specs.Sound.{File}
use Rattle.fat_table.specs.Chain.{total, free_at, file_at}
use Rattle.fat_table.specs.Layout.{layout, left, joined, hits, covers, empties, Tiled}
use Rattle.fat_table.specs.Steps.{first, relaid}
use Rattle.fat_table.specs.Holds.{Holds}
use Rattle.fat_table.specs.Counts.{free_blocks}
use Rattle.fat_table.proofs.Layouts.{hits_most, covers_append, empties_append}
use Rattle.fat_table.proofs.Laying.{relaid_laid}
use Rattle.fat_table.proofs.Unchanged.{total_append}
use Rattle.fat_table.proofs.Stepped.{free_read, holds_order}
use Rattle.fat_table.proofs.Sounds.{holds_sound}
use Rattle.fat_table.proofs.Files.{Whole, seen, seen_file, is_file, file_is, bytes_relaid}
use Rattle.fat_carve.specs.Carve.{carved, Window, fit}
use Rattle.fat_place.specs.Place.{applied, placed}
use Rattle.fat_history.proofs.Lies.{seen_two}
use Rattle.fat_history.proofs.Apart.{SameFile}
use Rattle.words.proofs.Laws as words
use Rattle.fat_table.specs.Changes.{Kept}
use Rattle.fat_carve.specs.Entries.{chain_entries}
use Rattle.fat_carve.proofs.Relaid.{relaid_kept}
use Rattle.fat_carve.proofs.Carves.{covers_carved, empties_carved, total_carved, carved_at, Fits, fit_found, fit_window}

-- the file at b is in t' what it is in t
same_file : (n : ℕ) → n ≤ 1000000 → (t t' : Bytes) (b : ℕ) (free : List Run) (files : List (List Run)) → Holds n t' (layout free (file_at n t b ∷ files))
    → first (file_at n t b) ≡ suc b
    → SameFile n t t' b
same_file n small t t' b free files h at = record {
  file = is_file n small t' free (file_at n t b) files b h at;
  same = file_is n small t' free (file_at n t b) files h b at;
}

-- on a table that holds a layout -------------------------------------------------------------------------

module _ (n : ℕ) (small : n ≤ 1000000) (t : Bytes) (m k : ℕ) where
  -- the window becomes a file, what is left of the free chain stays in its place
  pub holds_placed : (free : List Run) (files : List (List Run)) → Holds n t (layout free files) → Window m k free
      → Holds n (relaid t (run m k ∷ []) (carved m k free)) (layout (carved m k free) ((run m k ∷ []) ∷ files))
  holds_placed free files s w =
      let C : List Run = carved m k free in
      let N : List Run = run m k ∷ [] in
      let cv : (x : ℕ) → covers x C + hits x (run m k) ≡ covers x free =
      λ x. covers_carved x m k free (omega (arith, s.tiled.once x, hits_most x (run 0 n), covers_append x free (joined files))) (w.each x) in
      let es : empties free + empties (joined files) ≡ 0 = omega (arith, s.tiled.positive, empties_append free (joined files)) in
      let T : Tiled n (layout C (N ∷ files)) = record {
        positive = omega (arith, w.some, empties_append C (N ++ joined files), empties_carved m k free (omega arith));
        once = λ x. omega (arith, s.tiled.once x, cv x, covers_append x free (joined files), covers_append x C (N ++ joined files));
        nonempty = omega (arith, s.tiled.nonempty);
      } in
      let a = relaid_laid n small t N C files s.room s.files T.positive T.once in
      record { room = a.0; head = a.1; free = a.2; files = (a.3, a.4); tiled = T }

  -- the same, and the nodes of the file f go before the free front
  pub holds_applied : (free f : List Run) (files : List (List Run)) → Holds n t (layout free (f ∷ files)) → Window m k free
      → Holds n (relaid t (run m k ∷ []) (f ++ carved m k free)) (layout (f ++ carved m k free) ((run m k ∷ []) ∷ files))
  holds_applied free f files s w =
      let C : List Run = carved m k free in
      let N : List Run = run m k ∷ [] in
      let cf : (x : ℕ) → covers x free + (covers x f + covers x (joined files)) ≡ hits x (run 0 n) =
      λ x. omega (arith, s.tiled.once x, covers_append x free (f ++ joined files), covers_append x f (joined files)) in
      let cv : (x : ℕ) → covers x C + hits x (run m k) ≡ covers x free =
      λ x. covers_carved x m k free (omega (arith, cf x, hits_most x (run 0 n))) (w.each x) in
      let es : empties free + (empties f + empties (joined files)) ≡ 0 =
      omega (arith, s.tiled.positive, empties_append free (f ++ joined files), empties_append f (joined files)) in
      let T : Tiled n (layout (f ++ C) (N ∷ files)) = record {
        positive = omega (arith, w.some, empties_append (f ++ C) (N ++ joined files), empties_append f C, empties_carved m k free (omega arith));
        once = λ x. omega (arith, cf x, cv x, covers_append x (f ++ C) (N ++ joined files), covers_append x f C);
        nonempty = omega (arith, s.tiled.nonempty);
      } in
      let a = relaid_laid n small t N (f ++ C) files s.room s.files.1 T.positive T.once in
      record { room = a.0; head = a.1; free = a.2; files = (a.3, a.4); tiled = T }

-- on a sound table -----------------------------------------------------------------------------------------

module _ (n : ℕ) (t : Bytes) (w : Whole n t) (m c : ℕ) (q : Window m c (free_at n t)) where
  small : n ≤ 1000000
  small = w.small

  free_inside : (x : ℕ) → covers x (free_at n t) ≤ hits x (run 0 n)
  free_inside x = let s = seen n t w in omega (arith, s.holds.tiled.once x, covers_append x (free_at n t) (joined s.files))

  free_sizes : empties (free_at n t) ≡ 0
  free_sizes = let s = seen n t w in omega (arith, s.holds.tiled.positive, empties_append (free_at n t) (joined s.files))

  -- the kiosk's create -------------------------------------------------------------------------------------

  pub holds_place : Holds n (placed n t m c) (layout (carved m c (free_at n t)) ((run m c ∷ []) ∷ (seen n t w).files))
  unfolding placed
  holds_place = let s = seen n t w in holds_placed n small t m c (free_at n t) s.files s.holds q

  pub place_whole : Whole n (placed n t m c)
  unfolding placed
  place_whole =
      let t' : Bytes = relaid t (run m c ∷ []) (carved m c (free_at n t)) in
      record {
        small = small;
        bytes = bytes_relaid t (run m c ∷ []) (carved m c (free_at n t)) w.bytes;
        room = holds_place.room;
        sound = holds_sound n small t' (layout (carved m c (free_at n t)) ((run m c ∷ []) ∷ (seen n t w).files)) holds_place;
      }

  -- the new file, in one node
  pub place_file : File (placed n t m c) n m × (file_at n (placed n t m c) m ≡ run m c ∷ [])
  place_file =
      let s = seen n t w in (
        is_file n small (placed n t m c) (carved m c (free_at n t)) (run m c ∷ []) s.files m holds_place refl,
        file_is n small (placed n t m c) (carved m c (free_at n t)) (run m c ∷ []) s.files holds_place m refl,
      )

  pub place_free : free_at n (placed n t m c) ≡ carved m c (free_at n t)
  place_free = free_read n small (placed n t m c) (layout (carved m c (free_at n t)) ((run m c ∷ []) ∷ (seen n t w).files)) holds_place

  pub place_count : free_blocks n (placed n t m c) + c ≡ free_blocks n t
  place_count = ap (λ (l : List Run). total l + c) place_free ∙ total_carved n m c (free_at n t) free_sizes free_inside q

  -- every file stays as it was
  pub place_leaves : (b : ℕ) → File t n b → SameFile n t (placed n t m c) b
  unfolding placed
  place_leaves b i =
      let s = seen_file n t b w i in
      same_file n small t (relaid t (run m c ∷ []) (carved m c (free_at n t))) b (carved m c (free_at n t)) ((run m c ∷ []) ∷ s.others)
      (holds_order (Permᴰ.swap refl refl) (holds_placed n small t m c (free_at n t) (file_at n t b ∷ s.others) s.holds q))
      s.at

-- the first free node that is long enough ------------------------------------------------------------------

module _ (n : ℕ) (t : Bytes) (w : Whole n t) (m c : ℕ) (some : 1 ≤ c) (e : fit c (free_at n t) ≡ suc m) where
  pub fit_free : Fits c (free_at n t) m
  fit_free = fit_found c (free_at n t) m e

  -- it is a window of the free chain: all of the above holds
  pub fit_open : Window m c (free_at n t)
  fit_open = fit_window c m (free_at n t) some fit_free

  -- the free chain with that node's left part cut: the right part stands in its place, or the neighbours are linked
  pub fit_leaves : carved m c (free_at n t) ≡ fit_free.before ++ (left (fit_free.node ∷ []) c ++ fit_free.after)
  fit_leaves =
      let f : Fits c (free_at n t) m = fit_free in
      let F : List Run = f.before ++ f.node ∷ f.after in
      ap (carved m c) f.is
      ∙ ap (λ (x : ℕ). carved x c F) (sym f.at)
      ∙ carved_at f.before f.node f.after c
      (ap empties (sym f.is) ∙ free_sizes n t w m c fit_open)
      (λ x. omega (arith, ap (covers x) f.is, free_inside n t w m c fit_open x, hits_most x (run 0 n)))
      some f.long

-- a plan applied ---------------------------------------------------------------------------------------------

module _ (n : ℕ) (t : Bytes) (w : Whole n t) (b : ℕ) (i : File t n b) (m : ℕ) (q : Window m (total (file_at n t b)) (free_at n t)) where
  abbrev k : ℕ
  k = total (file_at n t b)

  abbrev rest : List Run
  rest = file_at n t b ++ carved m (total (file_at n t b)) (free_at n t)

  pub holds_apply : Holds n (applied n t b m) (layout rest ((run m k ∷ []) ∷ (seen_file n t b w i).others))
  unfolding applied
  holds_apply = let s = seen_file n t b w i in holds_applied n w.small t m k (free_at n t) (file_at n t b) s.others s.holds q

  pub apply_whole : Whole n (applied n t b m)
  unfolding applied
  apply_whole = record {
    small = w.small;
    bytes = bytes_relaid t (run m k ∷ []) rest w.bytes;
    room = holds_apply.room;
    sound = holds_sound n w.small (relaid t (run m k ∷ []) rest) (layout rest ((run m k ∷ []) ∷ (seen_file n t b w i).others)) holds_apply;
  }

  -- the file, in one node
  pub apply_file : File (applied n t b m) n m × (file_at n (applied n t b m) m ≡ run m k ∷ [])
  apply_file =
      let s = seen_file n t b w i in (
        is_file n w.small (applied n t b m) rest (run m k ∷ []) s.others m holds_apply refl,
        file_is n w.small (applied n t b m) rest (run m k ∷ []) s.others holds_apply m refl,
      )

  -- the old nodes in their order, then the former free chain with the target blocks cut out in place
  pub apply_free : free_at n (applied n t b m) ≡ file_at n t b ++ carved m (total (file_at n t b)) (free_at n t)
  apply_free = free_read n w.small (applied n t b m) (layout rest ((run m k ∷ []) ∷ (seen_file n t b w i).others)) holds_apply

  pub apply_count : free_blocks n (applied n t b m) ≡ free_blocks n t
  apply_count =
      ap total apply_free
      ∙ omega (
        arith,
        total_append (file_at n t b) (carved m (total (file_at n t b)) (free_at n t)),
        total_carved n m (total (file_at n t b)) (free_at n t) (free_sizes n t w m k q) (free_inside n t w m k q) q,
      )

  -- every other file stays as it was
  pub apply_leaves : (c : ℕ) → File t n c → b ≢ c → SameFile n t (applied n t b m) c
  unfolding applied
  apply_leaves c j ne =
      let s = seen_two n t b c w i j ne in
      same_file n w.small t (relaid t (run m k ∷ []) rest) c rest ((run m k ∷ []) ∷ s.others)
      (holds_order (Permᴰ.swap refl refl)
      (holds_applied n w.small t m k (free_at n t) (file_at n t b) (file_at n t c ∷ s.others) s.holds q))
      s.next_at_lem

-- what is written: the entries of the new node and of the free chain ------------------------------------------

pub placed_kept : (n : ℕ) (t : Bytes) (m c : ℕ) → words.Bytes t
    → Kept (chain_entries (run m c ∷ []) ++ chain_entries (carved m c (free_at n t))) t (placed n t m c)
unfolding placed
placed_kept n t m c b = relaid_kept t (run m c ∷ []) (carved m c (free_at n t)) b

pub applied_kept : (n : ℕ) (t : Bytes) (b m : ℕ) → words.Bytes t
    → Kept (chain_entries (run m (total (file_at n t b)) ∷ []) ++ chain_entries (file_at n t b ++ carved m (total (file_at n t b)) (free_at n t))) t (applied n t b m)
unfolding applied
applied_kept n t b m g = relaid_kept t (run m (total (file_at n t b)) ∷ []) (file_at n t b ++ carved m (total (file_at n t b)) (free_at n t)) g
