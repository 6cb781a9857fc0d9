-- A chain that is laid is read back; each step, on a table that holds a layout, gives a table that holds the stepped layout.
use mathlib.Core.Path.{◌≡◌, refl, sym, ap, subst, ◌∙◌}
use mathlib.Core.List.{List, [], ◌∷◌, ◌++◌, Permᴰ}
use mathlib.Core.Logic.{⊎_elim}
use Prim.Native.Nat.{ℕ, zero, suc, ◌+◌, ◌*◌, ◌%◌, ◌≤◌, ◌<◌}
use native.Mathlib.Omega.{arith}
use lib.ListN.{length, length-append}
use borrow.Author.Tests.{le-leb, lt-leb}
use Rattle.fat_node.specs.Entry.{Bytes, Entry, top, v_at}
use Rattle.fat_node.specs.Node.{Run, run, prev_at, next_at, next_half}
use Rattle.fat_node.proofs.Nodes.{one_or_more, prev_half_index, next_half_index, next_half_one, next_half_more}
use Rattle.fat_table.specs.Chain.{total, size_at, chain_at, free_at, file_at}
use Rattle.fat_table.specs.Layout.{Layout, layout, taken, left, joined, hits, covers, empties, runs, Tiled}
use Rattle.fat_node.specs.Format.{formatted}
use Rattle.fat_table.specs.Steps.{first, created, grown, shrunk, deleted}
use Rattle.fat_table.specs.Holds.{HoldsNode, Laid, AllLaid, Holds}
use Rattle.fat_table.proofs.Layouts.{create, delete, grow, shrink, covers_append, empties_append, sorted, end_after, length_perm, tiled_step, tiled_order, tiled_format}
use Rattle.fat_table.proofs.Laying.{relaid_laid, inside_of, first_inside}

-- a node that the table holds is read back ---------------------------------------------------------

pub size_one : (t : Bytes) (b : ℕ) → v_at t (b + 1) < top → size_at t b ≡ 1
size_one t b h = rw (lt-leb top (v_at t (b + 1)) h)

pub size_more : (t : Bytes) (b s : ℕ) → top ≤ v_at t (b + 1) → v_at t (b + 2) ≡ b + s → size_at t b ≡ s
size_more t b s h e = rw (le-leb top (v_at t (b + 1)) h) (omega arith)

module _ (n : ℕ) (small : n ≤ 1000000) (t : Bytes) (r : Run) (p q : ℕ) (hp : p ≤ n) (hq : q ≤ n) (w : HoldsNode t r p q) where
  pub read_prev : prev_at t r.start ≡ p
  read_prev = ap (λ (x : Entry). x.u % top) w.start ∙ prev_half_index p (omega arith)

  pub read_next : next_at t r.start ≡ q
  read_next = ap (λ (x : Entry). x.v % top) w.start ∙ next_half_index r.size q (omega arith)

  pub read_size : 1 ≤ r.size → size_at t r.start ≡ r.size
  read_size h =
      let v : v_at t (r.start + 1) ≡ next_half r.size q = ap (λ (x : Entry). x.v) w.start in
      ⊎_elim
      (λ e. size_one t r.start (omega (arith, next_half_one r.size q e)) ∙ sym e)
      (λ e. size_more t r.start r.size (omega (arith, next_half_more r.size q e)) (ap (λ (x : Entry). x.v) (w.second e)))
      (one_or_more r.size)

-- a chain that is laid is read back
pub chain_read : (n : ℕ) → n ≤ 1000000 → (t : Bytes) (l : List Run) (p k : ℕ) → p ≤ n → empties l ≡ 0 → ((x : ℕ) → covers x l ≤ hits x (run 0 n))
    → Laid t l p → length l ≤ k → chain_at t k (first l) ≡ l
chain_read n small t [] p zero hp e c w h = refl
chain_read n small t [] p (suc k) hp e c w h = refl
chain_read n small t (r ∷ l) p zero hp e c w h = let z : ⊥ = omega arith in absurd z
chain_read n small t (r ∷ l) p (suc k) hp e c w h =
    let cl : (x : ℕ) → covers x l ≤ hits x (run 0 n) = λ x. omega (arith, c x) in
    let el : empties l ≡ 0 = omega arith in
    let f : first l ≤ n = first_inside n l el cl in
    let i : r.start + r.size ≤ n = inside_of n r (omega arith) (λ x. omega (arith, c x)) in
    rw (read_next n small t r p (first l) hp f w.0, read_size n small t r p (first l) hp f w.0 (omega arith))
    (ap {B = List Run} (λ m. r ∷ m) (chain_read n small t l (suc r.start) k (omega arith) el cl w.1 (omega arith)))

-- there are no more runs than blocks
pub few : {n : ℕ} {L : Layout} → Tiled n L → length (runs L) ≤ n
few {n} {L} t =
    let s = sorted (length (runs L)) 0 n n (runs L) (omega arith) (omega arith) t.positive t.once in
    omega (arith, end_after 0 s.0 n s.2, length_perm s.1)

module _ (n : ℕ) (small : n ≤ 1000000) where
  pub free_read : (t : Bytes) (L : Layout) → Holds n t L → free_at n t ≡ L.free
  free_read t L s =
      ap (λ (w : Entry). chain_at t n w.v) s.head
      ∙ chain_read n small t L.free 0 n (omega arith)
      (omega (arith, s.tiled.positive, empties_append L.free (joined L.files)))
      (λ x. omega (arith, s.tiled.once x, covers_append x L.free (joined L.files))) s.free
      (omega (arith, few s.tiled, length-append L.free (joined L.files)))

  pub file_read : (t : Bytes) (free f : List Run) (files : List (List Run)) → Holds n t (layout free (f ∷ files)) → chain_at t n (first f) ≡ f
  file_read t free f files s =
      let a : (x : ℕ) → covers x f ≤ hits x (run 0 n) = λ x. omega (arith, s.tiled.once x, covers_append x free (f ++ joined files), covers_append x f (joined files)) in
      chain_read n small t f 0 n (omega arith)
      (omega (arith, s.tiled.positive, empties_append free (f ++ joined files), empties_append f (joined files)))
      a s.files.0
      (omega (arith, few s.tiled, length-append free (f ++ joined files), length-append f (joined files)))

  -- each step, on a table that holds a layout
  pub holds_format : (t : Bytes) → 1 ≤ n → length t ≡ 8 * (n + 1) → Holds n (formatted n t) (layout (run 0 n ∷ []) [])
  unfolding formatted
  holds_format t h len =
      let a = relaid_laid n small t [] (run 0 n ∷ []) [] len tt (omega arith) (λ x. omega arith) in
      record { room = a.0; head = a.1; free = a.2; files = tt; tiled = tiled_format h }

  module _ (t : Bytes) (free : List Run) (files : List (List Run)) (s : Holds n t (layout free files)) (c : ℕ) (h : 1 ≤ c) (k : c ≤ total free) where
    pub holds_create : Holds n (created n t c) (layout (left free c) (taken free c ∷ files))
    unfolding created
    holds_create = rw (free_read t (layout free files) s) (
        let T : Tiled n (layout (left free c) (taken free c ∷ files)) = tiled_step (create c h k) s.tiled in
        let a = relaid_laid n small t (taken free c) (left free c) files s.room s.files T.positive T.once in
        record { room = a.0; head = a.1; free = a.2; files = (a.3, a.4); tiled = T })

  module _ (t : Bytes) (free f : List Run) (files : List (List Run)) (s : Holds n t (layout free (f ∷ files))) (b : ℕ) (at : first f ≡ suc b) where
    file_at_lem : file_at n t b ≡ f
    file_at_lem = rw (← at) (file_read t free f files s)

    pub holds_delete : Holds n (deleted n t b) (layout (f ++ free) files)
    unfolding deleted
    holds_delete = rw (free_read t (layout free (f ∷ files)) s, file_at_lem) (
        let T : Tiled n (layout (f ++ free) files) = tiled_step delete s.tiled in
        let a = relaid_laid n small t [] (f ++ free) files s.room s.files.1 T.positive T.once in
        record { room = a.0; head = a.1; free = a.2; files = a.4; tiled = T })

    pub holds_grow : (c : ℕ) → 1 ≤ c → c ≤ total free → Holds n (grown n t b c) (layout (left free c) ((f ++ taken free c) ∷ files))
    unfolding grown
    holds_grow c h k = rw (free_read t (layout free (f ∷ files)) s, file_at_lem) (
        let T : Tiled n (layout (left free c) ((f ++ taken free c) ∷ files)) = tiled_step (grow c h k) s.tiled in
        let a = relaid_laid n small t (f ++ taken free c) (left free c) files s.room s.files.1 T.positive T.once in
        record { room = a.0; head = a.1; free = a.2; files = (a.3, a.4); tiled = T })

    pub holds_shrink : (c : ℕ) → 1 ≤ c → c ≤ total f → Holds n (shrunk n t b c) (layout (left f c ++ free) (taken f c ∷ files))
    unfolding shrunk
    holds_shrink c h k = rw (free_read t (layout free (f ∷ files)) s, file_at_lem) (
        let T : Tiled n (layout (left f c ++ free) (taken f c ∷ files)) = tiled_step (shrink c h k) s.tiled in
        let a = relaid_laid n small t (taken f c) (left f c ++ free) files s.room s.files.1 T.positive T.once in
        record { room = a.0; head = a.1; free = a.2; files = (a.3, a.4); tiled = T })

-- the order of the files is not seen
pub all_laid_order : (t : Bytes) {fs gs : List (List Run)} → Permᴰ fs gs → AllLaid t fs → AllLaid t gs
all_laid_order t Permᴰ.nil w = tt
all_laid_order t (Permᴰ.cons e p) w = (subst (λ (f : List Run). Laid t f 0) e w.0, all_laid_order t p w.1)
all_laid_order t (Permᴰ.swap e e') w = (subst (λ (f : List Run). Laid t f 0) e' w.1.0, (subst (λ (f : List Run). Laid t f 0) e w.0, w.1.1))
all_laid_order t (Permᴰ.trans p q) w = all_laid_order t q (all_laid_order t p w)

pub holds_order : {n : ℕ} {t : Bytes} {free : List Run} {fs gs : List (List Run)} → Permᴰ fs gs → Holds n t (layout free fs) → Holds n t (layout free gs)
holds_order {n} {t} p s = record { room = s.room; head = s.head; free = s.free; files = all_laid_order t p s.files; tiled = tiled_order p s.tiled }
