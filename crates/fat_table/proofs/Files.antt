-- The files of a sound table are the chains of its layout; every step keeps soundness.
use mathlib.Core.Path.{◌≡◌, refl, sym, ap, subst, subst⁻¹, ◌∙◌}
use mathlib.Core.List.Memᴰ
use mathlib.Core.List.{List, [], ◌∷◌, ◌++◌, Permᴰ}
use mathlib.Core.Logic.{⊎_elim}
use Prim.Native.Nat.{ℕ, suc, ◌+◌, ◌-◌, ◌*◌, ◌≤◌}
use native.Mathlib.Omega.{arith}
use lib.ListN.{length}
use borrow.Author.Tests.{le-leb, lt-leb}
use Rattle.words.proofs.Laws as words
use Rattle.fat_node.specs.Entry.{Bytes, Entry}
use Rattle.fat_node.specs.Node.{Run, run, prev_at, next_at, set_node}
use Rattle.fat_node.proofs.Nodes.{le_or_lt, bytes_set_node, bytes_set_head, length_set_head}
use Rattle.fat_table.specs.Sound.{IsNode, Sound, File}
use Rattle.fat_table.specs.Chain.{total, chain_at, free_at, file_at}
use Rattle.fat_table.specs.Layout.{Layout, layout, taken, left, joined, covers, empties, Tiled}
use Rattle.fat_node.specs.Format.{formatted}
use Rattle.fat_table.specs.Steps.{first, lay, relaid, created, grown, shrunk, resized, deleted}
use Rattle.fat_table.specs.Holds.{Holds}
use Rattle.fat_table.proofs.Layouts.{hits_in, hits_most, covers_append, empties_append}
use Rattle.fat_table.proofs.Laying.{length_lay}
use Rattle.fat_table.proofs.Stepped.{free_read, file_read, holds_format, holds_create, holds_delete, holds_grow, holds_shrink, holds_order}
use Rattle.fat_table.proofs.Chains.{mem_right, mem_either, chain_of, Linked, path_prev}
use Rattle.fat_table.proofs.Sounds.{sound_holds, holds_sound, run_node, node_run}
use Rattle.fat_table.proofs.Laid.{laid_path}

pub first_covered : (l : List Run) (b : ℕ) → first l ≡ suc b → empties l ≡ 0 → 1 ≤ covers b l
first_covered [] b e h = omega arith
first_covered (r ∷ l) b e h = omega (arith, hits_in b r (omega arith) (omega arith))

pub some_first : (f : List Run) → 1 ≤ length f → (b : ℕ) × (first f ≡ suc b)
some_first [] h = let z : ⊥ = omega arith in absurd z
some_first (r ∷ f) h = (r.start, refl)

module _ (n : ℕ) (small : n ≤ 1000000) (t : Bytes) where
  pub free_path : (L : Layout) → Holds n t L → Linked (prev_at t) (next_at t) 0 L.free
  free_path L s = (laid_path n small t L.free 0 (omega arith)
      (omega (arith, s.tiled.positive, empties_append L.free (joined L.files)))
      (λ x. omega (arith, s.tiled.once x, covers_append x L.free (joined L.files))) s.free).0

  pub file_path : (free f : List Run) (files : List (List Run)) → Holds n t (layout free (f ∷ files)) → Linked (prev_at t) (next_at t) 0 f
  file_path free f files s = (laid_path n small t f 0 (omega arith)
      (omega (arith, s.tiled.positive, empties_append free (f ++ joined files), empties_append f (joined files)))
      (λ x. omega (arith, s.tiled.once x, covers_append x free (f ++ joined files), covers_append x f (joined files))) s.files.0).0

  -- a file of the layout is a file of the table
  pub is_file : (free f : List Run) (files : List (List Run)) (b : ℕ) → Holds n t (layout free (f ∷ files)) → first f ≡ suc b → File t n b
  is_file free [] files b s e = let z : ⊥ = omega arith in absurd z
  is_file free (r ∷ f) files b s e =
      let T : Tiled n (layout free ((r ∷ f) ∷ files)) = s.tiled in
      let q : r.start ≡ b = omega arith in
      let es : empties free + (empties (r ∷ f) + empties (joined files)) ≡ 0 =
      omega (arith, T.positive, empties_append free ((r ∷ f) ++ joined files), empties_append f (joined files)) in (
        subst (IsNode t n) q (run_node n small t (layout free ((r ∷ f) ∷ files)) s r (mem_right free (Memᴰ.head refl))).0,
        ap (prev_at t) (sym q) ∙ (file_path free (r ∷ f) files s).0,
        λ h. omega (
          arith,
          T.once b,
          hits_most b (run 0 n),
          covers_append b free ((r ∷ f) ++ joined files),
          covers_append b f (joined files),
          first_covered free b (ap (λ (w : Entry). w.v) (sym s.head) ∙ h ∙ omega arith) (omega arith),
          first_covered (r ∷ f) b e (omega arith),
        ),
      )

  -- and the other way round
  pub file_of : (L : Layout) (b : ℕ) → Holds n t L → File t n b
      → (f : List Run) × (gs : List (List Run)) × Permᴰ L.files (f ∷ gs) × (first f ≡ suc b)
  file_of L b s i =
      let o = node_run n small t L s b i.0 in
      let r : Run = o.0 in
      let first_of : prev_at t r.start ≡ 0 = ap (prev_at t) o.2 ∙ i.1 in
      ⊎_elim
      (λ k.
      ⊎_elim
      (λ w. absurd (i.2 (ap (λ (x : Entry). x.v) s.head ∙ w.1 ∙ omega (arith, o.2))))
      (λ w. let z : ⊥ = omega (arith, w.2, first_of) in absurd z)
      (path_prev (prev_at t) (next_at t) 0 L.free (free_path L s) r k))
      (λ k.
      let w = chain_of r L.files k in (
        w.0,
        w.1,
        w.2,
        ⊎_elim
            (λ x. x.1 ∙ ap suc o.2)
            (λ x. let z : ⊥ = omega (arith, x.2, first_of) in absurd z)
            (path_prev (prev_at t) (next_at t) 0 w.0 (file_path L.free w.0 w.1 (holds_order w.2 s)) r w.3),
      ))
      (mem_either L.free (joined L.files) o.1)

  -- a resize, on a table that holds a layout
  module _ (free f : List Run) (files : List (List Run)) (s : Holds n t (layout free (f ∷ files))) (b : ℕ) (at : first f ≡ suc b) where
    pub file_is : file_at n t b ≡ f
    file_is = ap (chain_at t n) (sym at) ∙ file_read n small t free f files s

    pub holds_resize_less : (c : ℕ) → 1 ≤ c → c ≤ total f → Holds n (resized n t b c) (layout (left f c ++ free) (taken f c ∷ files))
    unfolding resized
    holds_resize_less c h k = rw (file_is, le-leb c (total f) k) (holds_shrink n small t free f files s b at c h k)

    pub holds_resize_more : (c : ℕ) → 1 ≤ c → c ≤ total free → Holds n (resized n t b (total f + c)) (layout (left free c) ((f ++ taken free c) ∷ files))
    unfolding resized
    holds_resize_more c h k =
        let e : total f + c - total f ≡ c = omega arith in
        rw (file_is, lt-leb (total f + c) (total f) (omega arith), e) (holds_grow n small t free f files s b at c h k)

    pub holds_resize : (c : ℕ) → 1 ≤ c → c ≤ total (file_at n t b) + total (free_at n t) → (M : Layout) × Holds n (resized n t b c) M
    holds_resize c h k =
        let k' : c ≤ total f + total free = rw (file_is, free_read n small t (layout free (f ∷ files)) s) at k in
        ⊎_elim
        (λ l. (layout (left f c ++ free) (taken f c ∷ files), holds_resize_less c h l))
        (λ l.
        let d : ℕ = c - total f in (
          layout (left free d) ((f ++ taken free d) ∷ files),
          subst (λ (m : ℕ). Holds n (resized n t b m) (layout (left free d) ((f ++ taken free d) ∷ files))) (omega arith) (holds_resize_more d (omega arith) (omega arith)),
        ))
        (le_or_lt c (total f))

-- the layout of a sound table, with the file at block b first ------------------------------------------

-- a table of n blocks that a call works on
pub record Whole (n : ℕ) (t : Bytes) : Type 0 where
  pub small : n ≤ 1000000
  pub bytes : words.Bytes t
  pub room : length t ≡ 8 * (n + 1)
  pub sound : Sound t n

-- the layout's free chain and files are those that the table's reading gives
pub record Seen (n : ℕ) (t : Bytes) : Type 0 where
  pub files : List (List Run)
  pub holds : Holds n t (layout (free_at n t) files)

pub record SeenFile (n : ℕ) (t : Bytes) (b : ℕ) : Type 0 where
  pub others : List (List Run)
  pub holds : Holds n t (layout (free_at n t) (file_at n t b ∷ others))
  pub at : first (file_at n t b) ≡ suc b

pub seen : (n : ℕ) (t : Bytes) → Whole n t → Seen n t
seen n t w =
    let s = sound_holds n t w.bytes w.room w.sound in
    record {
      files = s.0.files;
      holds = subst⁻¹ (λ (f : List Run). Holds n t (layout f s.0.files)) (free_read n w.small t s.0 s.1) s.1;
    }

pub seen_file : (n : ℕ) (t : Bytes) (b : ℕ) → Whole n t → File t n b → SeenFile n t b
seen_file n t b w i =
    let s = seen n t w in
    let o = file_of n w.small t (layout (free_at n t) s.files) b s.holds i in
    let h : Holds n t (layout (free_at n t) (o.0 ∷ o.1)) = holds_order o.2 s.holds in
    let e : file_at n t b ≡ o.0 = file_is n w.small t (free_at n t) o.0 o.1 h b o.3 in
    record {
      others = o.1;
      holds = subst⁻¹ (λ (f : List Run). Holds n t (layout (free_at n t) (f ∷ o.1))) e h;
      at = subst⁻¹ (λ (f : List Run). first f ≡ suc b) e o.3;
    }

-- the steps keep a table whole --------------------------------------------------------------------------

pub bytes_lay : (l : List Run) (p : ℕ) (t : Bytes) → words.Bytes t → words.Bytes (lay l p t)
bytes_lay [] p t g = g
bytes_lay (r ∷ l) p t g = bytes_lay l (suc r.start) (set_node t r p (first l)) (bytes_set_node t r p (first l) g)

pub bytes_relaid : (t : Bytes) (file free : List Run) → words.Bytes t → words.Bytes (relaid t file free)
bytes_relaid t file free g = bytes_set_head (lay free 0 (lay file 0 t)) (first free) (bytes_lay free 0 (lay file 0 t) (bytes_lay file 0 t g))

pub length_relaid : (t : Bytes) (file free : List Run) → length (relaid t file free) ≡ length t
length_relaid t file free = length_set_head (lay free 0 (lay file 0 t)) (first free) ∙ length_lay free 0 (lay file 0 t) ∙ length_lay file 0 t

module _ (n : ℕ) (t : Bytes) (b c : ℕ) where
  pub bytes_formatted : words.Bytes t → words.Bytes (formatted n t)
  unfolding formatted
  bytes_formatted g = bytes_relaid t [] (run 0 n ∷ []) g

  pub bytes_created : words.Bytes t → words.Bytes (created n t c)
  unfolding created
  bytes_created g = bytes_relaid t (taken (free_at n t) c) (left (free_at n t) c) g

  pub bytes_deleted : words.Bytes t → words.Bytes (deleted n t b)
  unfolding deleted
  bytes_deleted g = bytes_relaid t [] (file_at n t b ++ free_at n t) g

  pub bytes_grown : words.Bytes t → words.Bytes (grown n t b c)
  unfolding grown
  bytes_grown g = bytes_relaid t (file_at n t b ++ taken (free_at n t) c) (left (free_at n t) c) g

  pub bytes_shrunk : words.Bytes t → words.Bytes (shrunk n t b c)
  unfolding shrunk
  bytes_shrunk g = bytes_relaid t (taken (file_at n t b) c) (left (file_at n t b) c ++ free_at n t) g

pub bytes_resized : (n : ℕ) (t : Bytes) (b c : ℕ) → words.Bytes t → words.Bytes (resized n t b c)
unfolding resized
bytes_resized n t b c g =
    ⊎_elim
    (λ h. rw (le-leb c (total (file_at n t b)) h) (bytes_shrunk n t b c g))
    (λ h. rw (lt-leb c (total (file_at n t b)) h) (bytes_grown n t b (c - total (file_at n t b)) g))
    (le_or_lt c (total (file_at n t b)))

whole_of : (n : ℕ) (t : Bytes) → n ≤ 1000000 → words.Bytes t → (L : Layout) × Holds n t L → Whole n t
whole_of n t small g w = record { small = small; bytes = g; room = w.1.room; sound = holds_sound n small t w.0 w.1 }

pub whole_formatted : (n : ℕ) (t : Bytes) → 1 ≤ n → n ≤ 1000000 → words.Bytes t → length t ≡ 8 * (n + 1) → Whole n (formatted n t)
whole_formatted n t some small g len = whole_of n (formatted n t) small (bytes_formatted n t 0 0 g) (layout (run 0 n ∷ []) [], holds_format n small t some len)

module _ (n : ℕ) (t : Bytes) (w : Whole n t) where
  pub whole_created : (c : ℕ) → 1 ≤ c → c ≤ total (free_at n t) → Whole n (created n t c)
  whole_created c h k =
      let s = seen n t w in
      whole_of n (created n t c) w.small (bytes_created n t 0 c w.bytes)
      (layout (left (free_at n t) c) (taken (free_at n t) c ∷ s.files), holds_create n w.small t (free_at n t) s.files s.holds c h k)

  pub whole_deleted : (b : ℕ) → File t n b → Whole n (deleted n t b)
  whole_deleted b i =
      let s = seen_file n t b w i in
      whole_of n (deleted n t b) w.small (bytes_deleted n t b 0 w.bytes)
      (layout (file_at n t b ++ free_at n t) s.others, holds_delete n w.small t (free_at n t) (file_at n t b) s.others s.holds b s.at)

  pub whole_grown : (b c : ℕ) → File t n b → 1 ≤ c → c ≤ total (free_at n t) → Whole n (grown n t b c)
  whole_grown b c i h k =
      let s = seen_file n t b w i in
      whole_of n (grown n t b c) w.small (bytes_grown n t b c w.bytes)
      (layout (left (free_at n t) c) ((file_at n t b ++ taken (free_at n t) c) ∷ s.others), holds_grow n w.small t (free_at n t) (file_at n t b) s.others s.holds b s.at c h k)

  pub whole_shrunk : (b c : ℕ) → File t n b → 1 ≤ c → c ≤ total (file_at n t b) → Whole n (shrunk n t b c)
  whole_shrunk b c i h k =
      let s = seen_file n t b w i in
      whole_of n (shrunk n t b c) w.small (bytes_shrunk n t b c w.bytes)
      (layout (left (file_at n t b) c ++ free_at n t) (taken (file_at n t b) c ∷ s.others), holds_shrink n w.small t (free_at n t) (file_at n t b) s.others s.holds b s.at c h k)

  pub whole_resized : (b c : ℕ) → File t n b → 1 ≤ c → c ≤ total (file_at n t b) + total (free_at n t) → Whole n (resized n t b c)
  whole_resized b c i h k =
      let s = seen_file n t b w i in
      whole_of n (resized n t b c) w.small (bytes_resized n t b c w.bytes)
      (holds_resize n w.small t (free_at n t) (file_at n t b) s.others s.holds b s.at c h k)
