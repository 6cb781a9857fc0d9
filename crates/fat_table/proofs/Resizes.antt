-- Grow as create and two links; shrink as a cut in two files and delete of the second; a resize to the same count changes nothing.
use mathlib.Core.Path.{◌≡◌, refl, sym, ap, subst, ◌∙◌}
use mathlib.Core.List.{List, [], ◌∷◌, ◌++◌, append-nil, append_assoc}
use Prim.Native.Nat.{ℕ, suc, ◌+◌, ◌-◌, ◌*◌, ◌≤◌, ◌<◌}
use native.Mathlib.Omega.{arith}
use lib.ListN.{length}
use borrow.Author.Tests.{le-leb, lt-leb}
use Rattle.words.proofs.Laws as words
use Rattle.fat_node.specs.Entry.{Bytes, entry, put}
use Rattle.fat_node.specs.Node.{Run, run, prev_at, next_at, NodeAt, set_node, set_head}
use Rattle.fat_node.proofs.Entries.{put_same}
use Rattle.fat_node.proofs.Nodes.{bytes_set_node}
use Rattle.fat_table.specs.Sound.{File}
use Rattle.fat_table.specs.Chain.{total, size_at, chain_at, free_at, file_at}
use Rattle.fat_table.specs.Layout.{Layout, layout, taken, left, joined, hits, covers, empties, Tiled}
use Rattle.fat_table.specs.Steps.{first, lay, relaid, created, grown, shrunk, resized, deleted}
use Rattle.fat_table.specs.Holds.{HoldsNode, Laid, Holds}
use Rattle.fat_table.proofs.Layouts.{covers_append, covers_cut, empties_append, empties_cut, hits_split, hits_most}
use Rattle.fat_table.proofs.Laying.{inside_of, first_inside, length_lay, lay_head, lay_keeps, lay_keeps_all, laid_lay}
use Rattle.fat_table.proofs.Stepped.{read_prev, read_next, read_size, free_read, file_read}
use Rattle.fat_table.proofs.Sounds.{holds_node}
use Rattle.fat_table.proofs.Files.{Whole, seen_file}
use Rattle.fat_table.proofs.Writes.{
  last_of,
  relink,
  relink_in,
  first_or,
  first_or_lem,
  bytes_relink_in,
  keep_relink_in,
  lay_as,
  lay_after,
  lay_relink,
  lay_turn,
  laid_suffix,
  keep_laid,
  cut_within,
  cut_between,
}
use Rattle.fat_table.proofs.Overwrites.{lay_set_node, lay_again, lay_relinked, set_head_relinked, set_head_set_node, lay_over}

-- what is read of a node within a chain that is laid --------------------------------------------------

pub last_inside : (n : ℕ) (A : List Run) (p : ℕ) → p ≤ n → empties A ≡ 0 → ((x : ℕ) → covers x A ≤ hits x (run 0 n)) → last_of A p ≤ n
last_inside n [] p h e c = h
last_inside n (a ∷ A) p h e c =
    last_inside n A (suc a.start) (omega (arith, inside_of n a (omega arith) (λ x. omega (arith, c x)))) (omega arith) (λ x. omega (arith, c x))

pub first_left : (A : List Run) (x : Run) (D : List Run) → first ((A ++ x ∷ []) ++ D) ≡ first (A ++ x ∷ [])
first_left [] x D = refl
first_left (a ∷ A) x D = refl

-- a node x of a chain, with the index before it and the index after it
pub record Met (t : Bytes) (n : ℕ) (x : Run) (p q : ℕ) : Type 0 where
  pub node : NodeAt t n x.start x.size
  pub size : size_at t x.start ≡ x.size
  pub prev : prev_at t x.start ≡ p
  pub next : next_at t x.start ≡ q

pub met : (n : ℕ) → n ≤ 1000000 → (t : Bytes) (A : List Run) (x : Run) (B : List Run) (p : ℕ) → p ≤ n → empties (A ++ x ∷ B) ≡ 0
    → ((z : ℕ) → covers z (A ++ x ∷ B) ≤ hits z (run 0 n)) → Laid t (A ++ x ∷ B) p → Met t n x (last_of A p) (first B)
met n small t A x B p hp e c w =
    let es : empties A + ((1 - x.size) + empties B) ≡ 0 = sym (empties_append A (x ∷ B)) ∙ e in
    let cs : (z : ℕ) → covers z A + (hits z x + covers z B) ≤ hits z (run 0 n) = λ z. omega (arith, c z, covers_append z A (x ∷ B)) in
    let l : ℕ = last_of A p in
    let hl : l ≤ n = last_inside n A p hp (omega arith) (λ z. omega (arith, cs z)) in
    let hf : first B ≤ n = first_inside n B (omega arith) (λ z. omega (arith, cs z)) in
    let hx : HoldsNode t x l (first B) = (laid_suffix t A (x ∷ B) p w).0 in
    record {
      node = holds_node n small t x l (first B) hl hf (omega arith) (inside_of n x (omega arith) (λ z. omega (arith, cs z))) hx;
      size = read_size n small t x l (first B) hl hf hx (omega arith);
      prev = read_prev n small t x l (first B) hl hf hx;
      next = read_next n small t x l (first B) hl hf hx;
    }

pub met_free : (n : ℕ) → n ≤ 1000000 → (t : Bytes) (A : List Run) (x : Run) (B : List Run) (files : List (List Run)) → Holds n t (layout (A ++ x ∷ B) files)
    → Met t n x (last_of A 0) (first B)
met_free n small t A x B files s =
    met n small t A x B 0 (omega arith)
    (omega (arith, s.tiled.positive, empties_append (A ++ x ∷ B) (joined files)))
    (λ z. omega (arith, s.tiled.once z, covers_append z (A ++ x ∷ B) (joined files)))
    s.free

pub met_file : (n : ℕ) → n ≤ 1000000 → (t : Bytes) (A : List Run) (x : Run) (B free : List Run) (files : List (List Run)) → Holds n t (layout free ((A ++ x ∷ B) ∷ files))
    → Met t n x (last_of A 0) (first B)
met_file n small t A x B free files s =
    met n small t A x B 0 (omega arith)
    (omega (arith, s.tiled.positive, empties_append free ((A ++ x ∷ B) ++ joined files), empties_append (A ++ x ∷ B) (joined files)))
    (λ z. omega (arith, s.tiled.once z, covers_append z free ((A ++ x ∷ B) ++ joined files), covers_append z (A ++ x ∷ B) (joined files)))
    s.files.0

-- grow -------------------------------------------------------------------------------------------------

module _ (n : ℕ) (small : n ≤ 1000000) (t : Bytes) (g : words.Bytes t) where
  -- grow is create, and then the file's last node y names the first node taken, and the reverse
  pub grown_linked : (F : List Run) (y : Run) (free : List Run) (files : List (List Run)) (b c : ℕ) → Holds n t (layout free ((F ++ y ∷ []) ∷ files))
      → first (F ++ y ∷ []) ≡ suc b
      → grown n t b c ≡ relink (taken free c) (suc y.start) (set_node (created n t c) y (last_of F 0) (first (taken free c)))
  unfolding grown created
  grown_linked F y free files b c s e =
      let f : List Run = F ++ y ∷ [] in
      let L : Layout = layout free (f ∷ files) in
      let T : Tiled n L = s.tiled in
      let K : List Run = taken free c in
      let R : List Run = left free c in
      let es : empties K + empties R + (1 - y.size) ≡ 0 =
      omega (arith, T.positive, empties_cut free c, empties_append free (f ++ joined files), empties_append f (joined files), empties_append F (y ∷ [])) in
      let cs : (z : ℕ) → covers z K + covers z R + hits z y ≤ 1 =
      λ z. omega (arith, T.once z, hits_most z (run 0 n), covers_cut z free c, covers_append z free (f ++ joined files), covers_append z f (joined files), covers_append z F (y ∷ [])) in
      let ek : empties K ≡ 0 = omega arith in
      let er : empties R ≡ 0 = omega arith in
      let py : 1 ≤ y.size = omega arith in
      let P : ℕ = last_of F 0 in
      let Q : ℕ = first K in
      let i : ℕ = suc y.start in
      let X : Bytes = lay K 0 t in
      let laying : lay (f ++ K) 0 t ≡ relink K i (set_node X y P Q) =
      ap (λ (l : List Run). lay l 0 t) (append_assoc F (y ∷ []) K)
      ∙ lay_after t F y y [] K 0 g refl s.files.0
      ∙ lay_again K 0 i (set_node t y P Q) ek (λ z. omega (arith, cs z))
      ∙ ap (relink K i) (lay_set_node K 0 t y P Q py ek (λ z. omega (arith, cs z))) in
      ap (λ (l : List Run). relaid t (file_at n t b ++ taken l c) (left l c)) (free_read n small t L s)
      ∙ ap (λ (l : List Run). relaid t (l ++ K) R) (ap (chain_at t n) (sym e) ∙ file_read n small t free f files s)
      ∙ ap (λ (x : Bytes). set_head (lay R 0 x) (first R)) laying
      ∙ ap (λ (x : Bytes). set_head x (first R))
      (lay_relinked R 0 (set_node X y P Q) K i ek er (λ z. omega (arith, cs z)) ∙ ap (relink K i) (lay_set_node R 0 X y P Q py er (λ z. omega (arith, cs z))))
      ∙ set_head_relinked (set_node (lay R 0 X) y P Q) (first R) K i ek
      ∙ ap (relink K i) (set_head_set_node (lay R 0 X) (first R) y P Q py)
      ∙ ap (λ (l : List Run). relink K i (set_node (relaid t (taken l c) (left l c)) y P Q)) (sym (free_read n small t L s))

  -- grow, where x is the last node taken, whole
  pub grown_whole : (F : List Run) (y : Run) (A : List Run) (x : Run) (B : List Run) (files : List (List Run)) (b : ℕ)
      → Holds n t (layout ((A ++ x ∷ []) ++ B) ((F ++ y ∷ []) ∷ files)) → first (F ++ y ∷ []) ≡ suc b
      → grown n t b (total (A ++ x ∷ []))
      ≡ set_head
      (relink B 0
      (set_node (relink_in A (suc x.start) (suc y.start) (set_node t y (last_of F 0) (first_or A (suc x.start)))) x (last_of A (suc y.start)) 0))
      (first B)
  unfolding grown
  grown_whole F y A x B files b s e =
      let free : List Run = (A ++ x ∷ []) ++ B in
      let f : List Run = F ++ y ∷ [] in
      let L : Layout = layout free (f ∷ files) in
      let T : Tiled n L = s.tiled in
      let c : ℕ = total (A ++ x ∷ []) in
      let es : empties A + ((1 - x.size) + empties B) + (1 - y.size) ≡ 0 =
      omega (arith, T.positive, empties_append free (f ++ joined files), empties_append (A ++ x ∷ []) B, empties_append A (x ∷ []), empties_append f (joined files), empties_append F (y ∷ [])) in
      let cs : (z : ℕ) → covers z A + (hits z x + covers z B) + hits z y ≤ 1 =
      λ z. omega (arith, T.once z, hits_most z (run 0 n), covers_append z free (f ++ joined files), covers_append z (A ++ x ∷ []) B, covers_append z A (x ∷ []), covers_append z f (joined files), covers_append z F (y ∷ [])) in
      let ef : empties (A ++ x ∷ B) ≡ 0 = omega (arith, empties_append A (x ∷ B)) in
      let cf : (z : ℕ) → covers z (A ++ x ∷ B) ≤ 1 = λ z. omega (arith, cs z, covers_append z A (x ∷ B)) in
      let w = cut_between (A ++ x ∷ []) B c (omega (arith, empties_append A (x ∷ []))) refl in
      let l : Laid t (A ++ x ∷ B) 0 = subst (λ (y : List Run). Laid t y 0) (append_assoc A (x ∷ []) B) s.free in
      let i : ℕ = suc x.start in
      let t₁ : Bytes = set_node t y (last_of F 0) (first_or A i) in
      let t₂ : Bytes = relink_in A i (suc y.start) t₁ in
      let t₃ : Bytes = set_node t₂ x (last_of A (suc y.start)) 0 in
      let g₁ : words.Bytes t₁ = bytes_set_node t y (last_of F 0) (first_or A i) g in
      let g₃ : words.Bytes t₃ = bytes_set_node t₂ x (last_of A (suc y.start)) 0 (bytes_relink_in t₁ A i (suc y.start) g₁) in
      let l₁ : Laid t₁ (A ++ x ∷ B) 0 = keep_laid t y (last_of F 0) (first_or A i) (A ++ x ∷ B) 0 (omega arith) ef (λ z. omega (arith, cs z, covers_append z A (x ∷ B))) l in
      let b₁ : Laid t₁ B i = (laid_suffix t₁ A (x ∷ B) 0 l₁).1 in
      let b₂ : Laid t₂ B i = keep_relink_in t₁ A i (suc y.start) B i (omega arith) (omega arith) (λ z. omega (arith, cs z)) b₁ in
      let b₃ : Laid t₃ B i = keep_laid t₂ x (last_of A (suc y.start)) 0 B i (omega arith) (omega arith) (λ z. omega (arith, cs z)) b₂ in
      let laying : lay (f ++ (A ++ x ∷ [])) 0 t ≡ t₃ =
      ap (λ (l : List Run). lay l 0 t) (append_assoc F (y ∷ []) (A ++ x ∷ []))
      ∙ lay_after t F y y [] (A ++ x ∷ []) 0 g refl s.files.0
      ∙ ap (λ (j : ℕ). lay (A ++ x ∷ []) (suc y.start) (set_node t y (last_of F 0) j)) (first_or_lem A x [] i refl)
      ∙ lay_turn t₁ A x x B [] 0 (suc y.start) g₁ refl ef cf l₁ in
      ap (λ (l : List Run). relaid t (file_at n t b ++ taken l c) (left l c)) (free_read n small t L s)
      ∙ ap (λ (l : List Run). relaid t (l ++ taken free c) (left free c)) (ap (chain_at t n) (sym e) ∙ file_read n small t free f files s)
      ∙ ap (λ (l : List Run). relaid t (f ++ l) (left free c)) w.0
      ∙ ap (λ (l : List Run). relaid t (f ++ (A ++ x ∷ [])) l) w.1
      ∙ ap (λ (z : Bytes). set_head (lay B 0 z) (first B)) laying
      ∙ ap (λ (z : Bytes). set_head z (first B)) (lay_relink t₃ B i 0 g₃ (omega arith) (λ z. omega (arith, cs z)) b₃)

-- shrink -----------------------------------------------------------------------------------------------

module _ (n : ℕ) (small : n ≤ 1000000) (t : Bytes) (free f : List Run) (files : List (List Run)) (b : ℕ) (s : Holds n t (layout free (f ∷ files)))
    (at : first f ≡ suc b) (W D : List Run) (es : empties W + empties D ≡ empties f) (cs : (z : ℕ) → covers z W + covers z D ≡ covers z f)
    (some-kept : 1 ≤ length W) (some-cut : 1 ≤ length D) where
  -- the file cut in two: W stays, D is a file of its own
  abbrev parted : Bytes
  parted = lay D 0 (lay W 0 t)

  holds_parted : Holds n parted (layout free (D ∷ (W ∷ files)))
  holds_parted =
      let T : Tiled n (layout free (f ∷ files)) = s.tiled in
      let e : empties free + (empties W + empties D + empties (joined files)) ≡ 0 =
      omega (arith, T.positive, empties_append free (f ++ joined files), empties_append f (joined files), es) in
      let k : (z : ℕ) → covers z free + (covers z W + covers z D + covers z (joined files)) ≡ hits z (run 0 n) =
      λ z. omega (arith, T.once z, covers_append z free (f ++ joined files), covers_append z f (joined files), cs z) in
      let m : (z : ℕ) → hits z (run 0 n) ≤ 1 = λ z. hits_most z (run 0 n) in
      let ew : empties W ≡ 0 = omega arith in
      let ed : empties D ≡ 0 = omega arith in
      let ef : empties free ≡ 0 = omega arith in
      let ej : empties (joined files) ≡ 0 = omega arith in
      let t₁ : Bytes = lay W 0 t in
      let l₁ : length t₁ ≡ 8 * (n + 1) = length_lay W 0 t ∙ s.room in
      let w₁ : Laid t₁ W 0 = laid_lay n small W 0 t s.room (omega arith) ew (λ z. omega (arith, k z)) in
      record {
        room = length_lay D 0 t₁ ∙ l₁;
        head = lay_head D 0 t₁ ed ∙ lay_head W 0 t ew ∙ s.head;
        free = lay_keeps D 0 t₁ free 0 ef ed (λ z. omega (arith, k z, m z)) (lay_keeps W 0 t free 0 ef ew (λ z. omega (arith, k z, m z)) s.free);
        files = (
          laid_lay n small D 0 t₁ l₁ (omega arith) ed (λ z. omega (arith, k z)),
          (
            lay_keeps D 0 t₁ W 0 ew ed (λ z. omega (arith, k z, m z)) w₁,
            lay_keeps_all D 0 t₁ files ej ed (λ z. omega (arith, k z, m z)) (lay_keeps_all W 0 t files ej ew (λ z. omega (arith, k z, m z)) s.files.1),
          ),
        );
        tiled = record {
          positive = omega (arith, e, empties_append free (D ++ (W ++ joined files)), empties_append D (W ++ joined files), empties_append W (joined files));
          once = λ z. omega (arith, k z, covers_append z free (D ++ (W ++ joined files)), covers_append z D (W ++ joined files), covers_append z W (joined files));
          nonempty = omega (arith, T.nonempty, some-kept, some-cut);
        };
      }

  -- shrink is that cut, and then the second file's delete
  shrunk_parted : (c d : ℕ) → taken f c ≡ W → left f c ≡ D → first D ≡ suc d → shrunk n t b c ≡ deleted n parted d
  unfolding shrunk deleted
  shrunk_parted c d w l e =
      let T : Tiled n (layout free (f ∷ files)) = s.tiled in
      let h : Holds n parted (layout free (D ∷ (W ∷ files))) = holds_parted in
      let ed : empties D ≡ 0 = omega (arith, T.positive, empties_append free (f ++ joined files), empties_append f (joined files), es) in
      let kd : (z : ℕ) → covers z D ≤ 1 =
      λ z. omega (arith, T.once z, hits_most z (run 0 n), covers_append z free (f ++ joined files), covers_append z f (joined files), cs z) in
      ap (λ (x : List Run). relaid t (taken (file_at n t b) c) (left (file_at n t b) c ++ x)) (free_read n small t (layout free (f ∷ files)) s)
      ∙ ap (λ (x : List Run). relaid t (taken x c) (left x c ++ free)) (ap (chain_at t n) (sym at) ∙ file_read n small t free f files s)
      ∙ ap (λ (x : List Run). relaid t x (left f c ++ free)) w
      ∙ ap (λ (x : List Run). relaid t W (x ++ free)) l
      ∙ ap (λ (x : Bytes). set_head x (first (D ++ free))) (sym (lay_over D free 0 (lay W 0 t) ed kd))
      ∙ ap (λ (x : List Run). relaid parted [] (x ++ free)) (sym (ap (chain_at parted n) (sym e) ∙ file_read n small parted free D (W ∷ files) h))
      ∙ ap (λ (x : List Run). relaid parted [] (file_at n parted d ++ x)) (sym (free_read n small parted (layout free (D ∷ (W ∷ files))) h))

-- a shrink: a table in which the file is cut in two, whose second part's delete gives the table after it
pub record Cut (n : ℕ) (t t' : Bytes) (b c : ℕ) (free W D : List Run) (files : List (List Run)) (d : ℕ) : Type 0 where
  pub holds : Holds n t' (layout free (D ∷ (W ∷ files)))
  pub at : first D ≡ suc d
  pub gives : shrunk n t b c ≡ deleted n t' d

module _ (n : ℕ) (small : n ≤ 1000000) (t : Bytes) (g : words.Bytes t) where
  -- within the node x: its left part of m blocks has no next, its right part no previous, and the node after it gets its previous
  pub shrunk_split : (A : List Run) (x : Run) (B free : List Run) (files : List (List Run)) (b m : ℕ) → Holds n t (layout free ((A ++ x ∷ B) ∷ files))
      → first (A ++ x ∷ B) ≡ suc b → 1 ≤ m → m < x.size
      → Cut n t
      (relink B (suc (x.start + m)) (set_node (set_node t (run x.start m) (last_of A 0) 0) (run (x.start + m) (x.size - m)) 0 (first B)))
      b (total A + m) free (A ++ run x.start m ∷ []) (run (x.start + m) (x.size - m) ∷ B) files (x.start + m)
  shrunk_split A x B free files b m s e h k =
      let f : List Run = A ++ x ∷ B in
      let T : Tiled n (layout free (f ∷ files)) = s.tiled in
      let x₁ : Run = run x.start m in
      let x₂ : Run = run (x.start + m) (x.size - m) in
      let W : List Run = A ++ x₁ ∷ [] in
      let D : List Run = x₂ ∷ B in
      let es : empties A + empties B ≡ 0 =
      omega (arith, T.positive, empties_append free (f ++ joined files), empties_append f (joined files), empties_append A (x ∷ B)) in
      let cs : (z : ℕ) → covers z A + (hits z x + covers z B) ≤ 1 =
      λ z. omega (arith, T.once z, hits_most z (run 0 n), covers_append z free (f ++ joined files), covers_append z f (joined files), covers_append z A (x ∷ B)) in
      let sp : (z : ℕ) → hits z x₁ + hits z x₂ ≡ hits z x = λ z. hits_split z x m (omega arith) in
      let w = cut_within A x B m (total A + m) (omega arith) h k refl in
      let ew : empties W + empties D ≡ empties f = omega (arith, es, empties_append A (x₁ ∷ []), empties_append A (x ∷ B)) in
      let cw : (z : ℕ) → covers z W + covers z D ≡ covers z f = λ z. omega (arith, sp z, covers_append z A (x₁ ∷ []), covers_append z A (x ∷ B)) in
      let sw : 1 ≤ length W = some_last A x₁ in
      let t₁ : Bytes = set_node t x₁ (last_of A 0) 0 in
      let t₂ : Bytes = set_node t₁ x₂ 0 (first B) in
      let l : Laid t B (suc x.start) = (laid_suffix t A (x ∷ B) 0 s.files.0).1 in
      let l₁ : Laid t₁ B (suc x.start) = keep_laid t x₁ (last_of A 0) 0 B (suc x.start) h (omega arith) (λ z. omega (arith, cs z, sp z)) l in
      let l₂ : Laid t₂ B (suc x.start) = keep_laid t₁ x₂ 0 (first B) B (suc x.start) (omega arith) (omega arith) (λ z. omega (arith, cs z, sp z)) l₁ in
      let g₂ : words.Bytes t₂ = bytes_set_node t₁ x₂ 0 (first B) (bytes_set_node t x₁ (last_of A 0) 0 g) in
      let same : lay D 0 (lay W 0 t) ≡ relink B (suc (x.start + m)) t₂ =
      ap (lay D 0) (lay_after t A x x₁ B [] 0 g refl s.files.0)
      ∙ lay_relink t₂ B (suc x.start) (suc (x.start + m)) g₂ (omega arith) (λ z. omega (arith, cs z)) l₂ in
      record {
        holds = subst (λ (y : Bytes). Holds n y (layout free (D ∷ (W ∷ files)))) same (holds_parted n small t free f files b s e W D ew cw sw (omega arith));
        at = refl;
        gives = shrunk_parted n small t free f files b s e W D ew cw sw (omega arith) (total A + m) (x.start + m) w.0 w.1 refl
            ∙ ap (λ (y : Bytes). deleted n y (x.start + m)) same;
      }
    where
      some_last : (A : List Run) (x : Run) → 1 ≤ length (A ++ x ∷ [])
      some_last [] x = omega arith
      some_last (a ∷ A) x = omega arith

  -- between the nodes x and y: x has no next, y no previous
  pub shrunk_between : (A : List Run) (x y : Run) (B free : List Run) (files : List (List Run)) (b : ℕ) → Holds n t (layout free (((A ++ x ∷ []) ++ y ∷ B) ∷ files))
      → first (A ++ x ∷ []) ≡ suc b
      → Cut n t (set_node (set_node t x (last_of A 0) 0) y 0 (first B)) b (total (A ++ x ∷ [])) free (A ++ x ∷ []) (y ∷ B) files y.start
  shrunk_between A x y B free files b s e =
      let W : List Run = A ++ x ∷ [] in
      let D : List Run = y ∷ B in
      let f : List Run = W ++ D in
      let T : Tiled n (layout free (f ∷ files)) = s.tiled in
      let es : empties A + ((1 - x.size) + ((1 - y.size) + empties B)) ≡ 0 =
      omega (arith, T.positive, empties_append free (f ++ joined files), empties_append f (joined files), empties_append W D, empties_append A (x ∷ [])) in
      let cs : (z : ℕ) → covers z A + (hits z x + (hits z y + covers z B)) ≤ 1 =
      λ z. omega (arith, T.once z, hits_most z (run 0 n), covers_append z free (f ++ joined files), covers_append z f (joined files), covers_append z W D, covers_append z A (x ∷ [])) in
      let w = cut_between W D (total W) (omega (arith, empties_append A (x ∷ []))) refl in
      let ew : empties W + empties D ≡ empties f = sym (empties_append W D) in
      let cw : (z : ℕ) → covers z W + covers z D ≡ covers z f = λ z. sym (covers_append z W D) in
      let sw : 1 ≤ length W = some_last A x in
      let l : Laid t (A ++ x ∷ D) 0 = subst (λ (y : List Run). Laid t y 0) (append_assoc A (x ∷ []) D) s.files.0 in
      let t₁ : Bytes = set_node t x (last_of A 0) 0 in
      let l₁ : Laid t₁ D (suc x.start) = keep_laid t x (last_of A 0) 0 D (suc x.start) (omega arith) (omega arith) (λ z. omega (arith, cs z)) (laid_suffix t A (x ∷ D) 0 l).1 in
      let same : lay D 0 (lay W 0 t) ≡ set_node t₁ y 0 (first B) =
      ap (lay D 0) (lay_after t A x x D [] 0 g refl l)
      ∙ lay_relink t₁ D (suc x.start) 0 (bytes_set_node t x (last_of A 0) 0 g) (omega arith) (λ z. omega (arith, cs z)) l₁ in
      let at : first f ≡ suc b = first_left A x D ∙ e in
      record {
        holds = subst (λ (y : Bytes). Holds n y (layout free (D ∷ (W ∷ files)))) same (holds_parted n small t free f files b s at W D ew cw sw (omega arith));
        at = refl;
        gives = shrunk_parted n small t free f files b s at W D ew cw sw (omega arith) (total W) y.start w.0 w.1 refl ∙ ap (λ (z : Bytes). deleted n z y.start) same;
      }
    where
      some_last : (A : List Run) (x : Run) → 1 ≤ length (A ++ x ∷ [])
      some_last [] x = omega arith
      some_last (a ∷ A) x = omega arith

-- resize -----------------------------------------------------------------------------------------------

-- chains laid as they are, and the head as it is
pub relaid_same : (n : ℕ) (t : Bytes) (free f : List Run) (files : List (List Run)) → words.Bytes t → Holds n t (layout free (f ∷ files)) → relaid t f free ≡ t
unfolding set_head
relaid_same n t free f files g s =
    ap (λ (x : Bytes). put (lay free 0 x) 0 (entry 0 (first free))) (lay_as t f 0 g s.files.0)
    ∙ ap (λ (x : Bytes). put x 0 (entry 0 (first free))) (lay_as t free 0 g s.free)
    ∙ put_same t 0 (entry 0 (first free)) g s.head

-- a resize to the present count changes nothing
pub resized_same : (n : ℕ) (t : Bytes) (b : ℕ) → Whole n t → File t n b → resized n t b (total (file_at n t b)) ≡ t
unfolding resized shrunk
resized_same n t b w i =
    let s = seen_file n t b w i in
    let f : List Run = file_at n t b in
    let T : Tiled n (layout (free_at n t) (f ∷ s.others)) = s.holds.tiled in
    let ef : empties f ≡ 0 = omega (arith, T.positive, empties_append (free_at n t) (f ++ joined s.others), empties_append f (joined s.others)) in
    let o = cut_between f [] (total f) ef refl in
    let a : taken f (total f) ≡ f = ap (λ (l : List Run). taken l (total f)) (sym (append-nil f)) ∙ o.0 in
    let d : left f (total f) ≡ [] = ap (λ (l : List Run). left l (total f)) (sym (append-nil f)) ∙ o.1 in
    rw (le-leb (total f) (total f) (omega arith))
    (ap (λ (x : List Run). relaid t x (left f (total f) ++ free_at n t)) a
    ∙ ap (λ (x : List Run). relaid t f (x ++ free_at n t)) d
    ∙ relaid_same n t (free_at n t) f s.others w.bytes s.holds)

pub resized_less : (n : ℕ) (t : Bytes) (b c : ℕ) → c ≤ total (file_at n t b) → resized n t b c ≡ shrunk n t b c
unfolding resized
resized_less n t b c h = rw (le-leb c (total (file_at n t b)) h)

pub resized_more : (n : ℕ) (t : Bytes) (b c : ℕ) → total (file_at n t b) < c → resized n t b c ≡ grown n t b (c - total (file_at n t b))
unfolding resized
resized_more n t b c h = rw (lt-leb c (total (file_at n t b)) h)
