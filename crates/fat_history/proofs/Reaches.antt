-- Every tiled layout is reached from a formatted one by creates and deletes, at most three for each of its runs. No table here.
use mathlib.Core.Path.{◌≡◌, refl, sym, ap, ◌∙◌}
use mathlib.Core.List.Permᴰ
use mathlib.Core.List.{List, [], ◌∷◌, ◌++◌, append_assoc, append-nil, Permᴰ}
use Prim.Native.Nat.{ℕ, zero, suc, ◌+◌, ◌-◌, ◌*◌, ◌≤◌, ◌<◌}
use native.Mathlib.Omega.{arith}
use lib.ListN.{length, length-append}
use Rattle.fat_node.specs.Node.{Run, run}
use Rattle.fat_table.specs.Chain.{total}
use Rattle.fat_table.specs.Layout.{Layout, layout, taken, left, joined, empties, blanks, runs, Tiled}
use Rattle.fat_table.proofs.Layouts.{EndToEnd, empties_append, taken_whole, taken_part, left_whole, left_part, sorted, end_after, length_perm}

-- what k creates and deletes after a format reach; the order of the files is not seen
pub data Reach (n : ℕ) : ℕ → Layout → Type 0 where
  formatted : Reach n 0 (layout (run 0 n ∷ []) [])
  create : {k : ℕ} {free : List Run} {files : List (List Run)} (c : ℕ) → 1 ≤ c → c ≤ total free → Reach n k (layout free files)
      → Reach n (suc k) (layout (left free c) (taken free c ∷ files))
  delete : {k : ℕ} {free f : List Run} {files : List (List Run)} → Reach n k (layout free (f ∷ files)) → Reach n (suc k) (layout (f ++ free) files)
  order : {k : ℕ} {free : List Run} {fs gs : List (List Run)} → Reach n k (layout free fs) → Permᴰ fs gs → Reach n k (layout free gs)

-- a step more, in at most so many calls ---------------------------------------------------------

-- L is reached in at most k calls
abbrev pub Within : ℕ → ℕ → Layout → Type 0
Within n k L = (j : ℕ) × (j ≤ k) × Reach n j L

then_create : {n j k : ℕ} {free : List Run} {files : List (List Run)} → Within n j (layout free files) → (c : ℕ) → 1 ≤ c → c ≤ total free → j < k
    → Within n k (layout (left free c) (taken free c ∷ files))
then_create w c h l k = (suc w.0, omega arith, create c h l w.2)

then_delete : {n j k : ℕ} {free f : List Run} {files : List (List Run)} → Within n j (layout free (f ∷ files)) → j < k → Within n k (layout (f ++ free) files)
then_delete w k = (suc w.0, omega arith, delete w.2)

as_files : {n k : ℕ} {free : List Run} {fs gs : List (List Run)} → Within n k (layout free fs) → Permᴰ fs gs → Within n k (layout free gs)
as_files w p = (w.0, w.1, order w.2 p)

more : {n j k : ℕ} {L : Layout} → Within n j L → j ≤ k → Within n k L
more w h = (w.0, omega arith, w.2)

-- stage 1: a file for each run ------------------------------------------------------------------

abbrev pub singles : List Run → List (List Run)
singles [] = []
singles (r ∷ l) = (r ∷ []) ∷ singles l

pub singles_append : (a b : List Run) → singles (a ++ b) ≡ singles a ++ singles b
singles_append [] b = refl
singles_append (r ∷ a) b = ap {B = List (List Run)} (λ t. (r ∷ []) ∷ t) (singles_append a b)

pub singles_perm : {a b : List Run} → Permᴰ a b → Permᴰ (singles a) (singles b)
singles_perm Permᴰ.nil = Permᴰ.nil
singles_perm (Permᴰ.cons e p) = Permᴰ.cons (ap {B = List Run} (λ r. r ∷ []) e) (singles_perm p)
singles_perm (Permᴰ.swap e e') = Permᴰ.swap (ap {B = List Run} (λ r. r ∷ []) e) (ap {B = List Run} (λ r. r ∷ []) e')
singles_perm (Permᴰ.trans p q) = Permᴰ.trans (singles_perm p) (singles_perm q)

pub run_path : (r : Run) (b : ℕ) → r.start ≡ b → run b r.size ≡ r
run_path r b e = ap (λ (y : ℕ). run y r.size) (sym e)

pub cut_all : (f : List Run) (c : ℕ) → empties f ≡ 0 → c ≡ total f → (taken f c ≡ f) × (left f c ≡ [])
cut_all [] c p q = (refl, refl)
cut_all (r ∷ f) zero p q = let z : ⊥ = omega arith in absurd z
cut_all (r ∷ f) (suc c) p q =
    let h : r.size ≤ suc c = omega arith in
    let w = cut_all f (suc c - r.size) (omega arith) (omega arith) in
    (taken_whole r f c h ∙ ap {B = List Run} (λ t. r ∷ t) w.0, left_whole r f c h ∙ w.1)

pub cut_part : (b m c : ℕ) → 1 ≤ c → c < m → (taken (run b m ∷ []) c ≡ run b c ∷ []) × (left (run b m ∷ []) c ≡ run (b + c) (m - c) ∷ [])
cut_part b m zero h k = let z : ⊥ = omega arith in absurd z
cut_part b m (suc c) h k = (taken_part (run b m) [] c k, left_part (run b m) [] c k)

pub end_some : (T : List Run) (n : ℕ) → 1 ≤ n → EndToEnd 0 T n → 1 ≤ length T
end_some [] n h t = omega arith
end_some (r ∷ T) n h t = omega arith

pub total_positive : (f : List Run) → 1 ≤ length f → empties f ≡ 0 → 1 ≤ total f
total_positive [] h p = omega arith
total_positive (r ∷ f) h p = omega arith

module _ (n : ℕ) where
  fresh : (T : List Run) (b m e k : ℕ) (fs : List (List Run)) → 1 ≤ length T → EndToEnd b T e → b + m ≡ e
      → Within n k (layout (run b m ∷ []) fs) → Within n (k + length T) (layout [] (singles T ++ fs))
  fresh [] b m e k fs h t q w = let z : ⊥ = omega arith in absurd z
  fresh (r ∷ []) b m e k fs h t q w =
      let f : List Run = run b m ∷ [] in
      let p : empties f ≡ 0 = omega arith in
      let z = cut_all f r.size p (omega arith) in
      let v : Within n (k + 1) (layout (left f r.size) (taken f r.size ∷ fs)) = then_create w r.size t.1 (omega arith) (omega arith) in
      let o : run b m ≡ r = ap (λ (s : ℕ). run b s) (omega arith) ∙ run_path r b t.0 in
      rw (← o) (rw (z.0, z.1) at v)
  fresh (r ∷ r' ∷ T) b m e k fs h t q w =
      let f : List Run = run b m ∷ [] in
      let lt : r.size < m = omega (arith, end_after (b + r.size) (r' ∷ T) e t.2) in
      let z = cut_part b m r.size t.1 lt in
      let v : Within n (k + 1) (layout (left f r.size) (taken f r.size ∷ fs)) = then_create w r.size t.1 (omega arith) (omega arith) in
      let u : Within n (k + 1) (layout (run (b + r.size) (m - r.size) ∷ []) ((r ∷ []) ∷ fs)) =
      rw (← (run_path r b t.0)) (rw (z.0, z.1) at v) in
      let g = fresh (r' ∷ T) (b + r.size) (m - r.size) e (k + 1) ((r ∷ []) ∷ fs) (omega arith) t.2 (omega arith) u in
      more (as_files g (Permᴰ.middle (r ∷ []) (singles (r' ∷ T)) fs)) (omega arith)

  -- stage 2: the files of one run each are put before the free chain, the last first
  gather : (f g : List Run) (k : ℕ) (rest : List (List Run)) → Within n k (layout g (singles f ++ rest)) → Within n (k + length f) (layout (f ++ g) rest)
  gather [] g k rest w = more w (omega arith)
  gather (a ∷ f) g k rest w =
      let v = gather f g k ((a ∷ []) ∷ rest) (as_files w (Permᴰ.symm (Permᴰ.middle (a ∷ []) (singles f) rest))) in
      then_delete v (omega arith)

  -- and each file is made of its runs, by one create
  assemble : (files : List (List Run)) (k : ℕ) (rest : List (List Run)) → blanks files ≡ 0 → empties (joined files) ≡ 0
      → Within n k (layout [] (singles (joined files) ++ rest)) → Within n (k + length (joined files) + length files) (layout [] (files ++ rest))
  assemble [] k rest h p w = more w (omega arith)
  assemble (f ∷ fs) k rest h p w =
      let pe : empties f + empties (joined fs) ≡ 0 = sym (empties_append f (joined fs)) ∙ p in
      let v = gather f [] k (singles (joined fs) ++ rest) (rw (singles_append, append_assoc) at w) in
      let x : Within n (k + length f) (layout f (singles (joined fs) ++ rest)) = rw append-nil at v in
      let z = cut_all f (total f) (omega arith) refl in
      let y : Within n (k + length f + 1) (layout (left f (total f)) (taken f (total f) ∷ (singles (joined fs) ++ rest))) =
      then_create x (total f) (total_positive f (omega arith) (omega arith)) (omega arith) (omega arith) in
      let u = as_files (rw (z.0, z.1) at y) (Permᴰ.symm (Permᴰ.middle f (singles (joined fs)) rest)) in
      let g = assemble fs (k + length f + 1) (f ∷ rest) (omega arith) (omega arith) u in
      more (as_files g (Permᴰ.middle f fs rest)) (omega (arith, length-append f (joined fs)))

files_runs : (files : List (List Run)) → blanks files ≡ 0 → length files ≤ length (joined files)
files_runs [] h = omega arith
files_runs (f ∷ fs) h = omega (arith, files_runs fs (omega arith), length-append f (joined fs))

-- every tiled layout is reached from the format by creates and deletes, at most three for each run
pub tiled_reach : (n : ℕ) (L : Layout) → 1 ≤ n → Tiled n L → Within n (3 * length (runs L)) L
tiled_reach n L h t =
    let s = sorted (length (runs L)) 0 n n (runs L) (omega arith) (omega arith) t.positive t.once in
    let pe : empties L.free + empties (joined L.files) ≡ 0 = sym (empties_append L.free (joined L.files)) ∙ t.positive in
    let T = s.0 in
    let one : 1 ≤ length T = end_some T n h s.2 in
    let a = fresh n T 0 n n 0 [] one s.2 (omega arith) (0, omega arith, formatted) in
    let b = as_files a (Permᴰ.trans (Permᴰ.append-nil (singles T)) (singles_perm (Permᴰ.symm s.1))) in
    let c = as_files (rw singles_append at b) (Permᴰ.append_comm (singles L.free) (singles (joined L.files))) in
    let d = assemble n L.files _ (singles L.free) t.nonempty (omega arith) c in
    let e = gather n L.free [] _ L.files (as_files d (Permᴰ.append_comm L.files (singles L.free))) in
    let g = rw append-nil at e in
    more g (omega (arith, length_perm s.1, length-append L.free (joined L.files), files_runs L.files t.nonempty))
