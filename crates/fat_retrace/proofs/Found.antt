-- The files that are found at the nodes, in the order of their blocks, are the files of the layout.
use mathlib.Core.Path.{◌≡◌, refl, sym, ap, subst, subst⁻¹, ◌∙◌}
use mathlib.Core.List.{List, [], ◌∷◌, ◌++◌, append_assoc, Permᴰ}
use mathlib.Core.Bool.{Bool, true, false, cond}
use Prim.Native.Nat.{ℕ, suc, ◌+◌, ◌≤◌}
use native.Mathlib.Omega.{arith}
use lib.Dec.{eqb}
use lib.ListN.{length}
use borrow.Author.Tests.{eqb-true, eqb-false}
use Rattle.fat_node.specs.Entry.{Bytes, Entry}
use Rattle.fat_node.specs.Node.{Run, prev_at, next_at}
use Rattle.fat_table.specs.Sound.{File}
use Rattle.fat_table.specs.Chain.{head_at, free_at, file_at}
use Rattle.fat_table.specs.Layout.{Layout, layout, joined, blanks, runs}
use Rattle.fat_table.specs.Steps.{first}
use Rattle.fat_table.specs.Holds.{Holds}
use Rattle.fat_table.specs.Counts.{nodes, starts}
use Rattle.fat_table.proofs.Chains.{Linked}
use Rattle.fat_table.proofs.Layouts.{EndToEnd, end_after}
use Rattle.fat_table.proofs.Sounds.{node_size, node_of, in_order, joined_perm}
use Rattle.fat_table.proofs.Stepped.{holds_order}
use Rattle.fat_table.proofs.Counting.{scan_read}
use Rattle.fat_table.proofs.Files.{Whole, seen, free_path, file_path, is_file, file_is}
use Rattle.fat_retrace.specs.History.{marked, files_in}

-- the mark of a node
pub starts_yes : (t : Bytes) (n b : ℕ) → File t n b → starts t b ≡ 1
unfolding starts
starts_yes t n b f = go (eqb (prev_at t b) 0) refl (eqb (head_at t) (b + 1)) refl
  where
    go : (x : Bool) → eqb (prev_at t b) 0 ≡ x → (y : Bool) → eqb (head_at t) (b + 1) ≡ y → cond x (cond {A = ℕ} y 0 1) 0 ≡ 1
    go true e true d = absurd (f.2 (eqb-true (head_at t) (b + 1) d))
    go true e false d = refl
    go false e y d = absurd (eqb-false (prev_at t b) 0 e f.1)

pub starts_later : (t : Bytes) (b p : ℕ) → prev_at t b ≡ suc p → starts t b ≡ 0
unfolding starts
starts_later t b p q = go (eqb (prev_at t b) 0) refl
  where
    go : (x : Bool) → eqb (prev_at t b) 0 ≡ x → cond x (cond {A = ℕ} (eqb (head_at t) (b + 1)) 0 1) 0 ≡ 0
    go true e = let z : ⊥ = omega (arith, eqb-true (prev_at t b) 0 e, q) in absurd z
    go false e = refl

pub starts_free : (t : Bytes) (b : ℕ) → head_at t ≡ suc b → starts t b ≡ 0
unfolding starts
starts_free t b q = go (eqb (prev_at t b) 0) (eqb (head_at t) (b + 1)) refl
  where
    go : (x y : Bool) → eqb (head_at t) (b + 1) ≡ y → cond x (cond {A = ℕ} y 0 1) 0 ≡ 0
    go true true d = refl
    go true false d = absurd (eqb-false (head_at t) (b + 1) d (omega (arith, q)))
    go false y d = refl

module _ (n : ℕ) (t : Bytes) where
  pub files_append : (a b : List Run) → files_in n t (a ++ b) ≡ files_in n t a ++ files_in n t b
  files_append [] b = refl
  files_append (r ∷ a) b =
      ap (λ (x : List (List Run)). marked (starts t r.start) (file_at n t r.start) ++ x) (files_append a b)
      ∙ sym (append_assoc (marked (starts t r.start) (file_at n t r.start)) (files_in n t a) (files_in n t b))

  abbrev of : Run → List (List Run)
  of r = marked (starts t r.start) (file_at n t r.start)

  files_perm : {a b : List Run} → Permᴰ a b → Permᴰ (files_in n t a) (files_in n t b)
  files_perm mathlib.Core.List.Permᴰ.nil = mathlib.Core.List.Permᴰ.nil
  files_perm (mathlib.Core.List.Permᴰ.cons {a = a} {b = b} {l₁ = l} {l₂ = m} e p) =
      subst⁻¹ (λ (x : Run). Permᴰ (of x ++ files_in n t l) (of b ++ files_in n t m)) e (mathlib.Core.List.Permᴰ.append_left (of b) (files_perm p))
  files_perm (mathlib.Core.List.Permᴰ.swap {a = a} {b = b} {a' = a'} {b' = b'} {l = l} e e') =
      subst (λ (x : Run). Permᴰ (of a ++ (of b ++ files_in n t l)) (of x ++ (of b' ++ files_in n t l))) e'
      (subst (λ (x : Run). Permᴰ (of a ++ (of b ++ files_in n t l)) (of b ++ (of x ++ files_in n t l))) e
      (swapped (of a) (of b) (files_in n t l)))
    where
      swapped : (x y z : List (List Run)) → Permᴰ (x ++ (y ++ z)) (y ++ (x ++ z))
      swapped x y z = rw (← append_assoc x y z, ← append_assoc y x z) (mathlib.Core.List.Permᴰ.append_right z (mathlib.Core.List.Permᴰ.append_comm x y))
  files_perm (mathlib.Core.List.Permᴰ.trans p q) = mathlib.Core.List.Permᴰ.trans (files_perm p) (files_perm q)

  -- no file starts at a later node of a chain
  later_none : (p : ℕ) (l : List Run) → Linked (prev_at t) (next_at t) (suc p) l → files_in n t l ≡ []
  later_none p [] w = refl
  later_none p (r ∷ l) w =
      ap (λ (k : ℕ). marked k (file_at n t r.start) ++ files_in n t l) (starts_later t r.start p w.0) ∙ later_none r.start l w.2

  free_none : (l : List Run) → Linked (prev_at t) (next_at t) 0 l → head_at t ≡ first l → files_in n t l ≡ []
  free_none [] w h = refl
  free_none (r ∷ l) w h =
      ap (λ (k : ℕ). marked k (file_at n t r.start) ++ files_in n t l) (starts_free t r.start h) ∙ later_none r.start l w.2

module _ (n : ℕ) (small : n ≤ 1000000) (t : Bytes) where
  file_found : (free f : List Run) (files : List (List Run)) → Holds n t (layout free (f ∷ files)) → 1 ≤ length f → files_in n t f ≡ f ∷ []
  file_found free [] files s h = let z : ⊥ = omega arith in absurd z
  file_found free (r ∷ l) files s h =
      let w = file_path n small t free (r ∷ l) files s in
      let y : starts t r.start ≡ 1 = starts_yes t n r.start (is_file n small t free (r ∷ l) files r.start s refl) in
      ap (λ (k : ℕ). marked k (file_at n t r.start) ++ files_in n t l) y
      ∙ ap (λ (x : List (List Run)). file_at n t r.start ∷ x) (later_none n t r.start l w.2)
      ∙ ap (λ (x : List Run). x ∷ []) (file_is n small t free (r ∷ l) files s r.start refl)

  all_found : (free : List Run) (fs gs : List (List Run)) → Holds n t (layout free (fs ++ gs)) → blanks fs ≡ 0 → files_in n t (joined fs) ≡ fs
  all_found free [] gs s h = refl
  all_found free (f ∷ fs) gs s h =
      files_append n t f (joined fs)
      ∙ ap (λ (x : List (List Run)). x ++ files_in n t (joined fs)) (file_found free f (fs ++ gs) s (omega arith))
      ∙ ap (λ (x : List (List Run)). f ∷ x) (all_found free fs (f ∷ gs) (holds_order (mathlib.Core.List.Permᴰ.symm (mathlib.Core.List.Permᴰ.middle f fs gs)) s) (omega arith))

  pub found : (L : Layout) (T : List Run) → Holds n t L → Permᴰ (runs L) T → Permᴰ (files_in n t T) L.files
  found L T s π =
      let v : head_at t ≡ first L.free = ap (λ (x : Entry). x.v) s.head in
      let a : files_in n t L.free ≡ [] = free_none n t L.free (free_path n small t L s) v in
      let p : Permᴰ (L.files ++ []) L.files = mathlib.Core.List.Permᴰ.append-nil L.files in
      let b : files_in n t (joined L.files) ≡ L.files =
      all_found L.free L.files [] (holds_order (mathlib.Core.List.Permᴰ.symm p) s) s.tiled.nonempty in
      let e : files_in n t (runs L) ≡ L.files =
      files_append n t L.free (joined L.files) ∙ ap (λ (x : List (List Run)). x ++ files_in n t (joined L.files)) a ∙ b in
      subst (λ (x : List (List Run)). Permᴰ (files_in n t T) x) e (files_perm n t (mathlib.Core.List.Permᴰ.symm π))

-- a table with its nodes in order, and its files as they are found
pub record Read (n : ℕ) (t : Bytes) : Type 0 where
  pub holds : Holds n t (layout (free_at n t) (files_in n t (nodes n t)))
  pub perm : Permᴰ (runs (layout (free_at n t) (files_in n t (nodes n t)))) (nodes n t)
  pub cover : EndToEnd 0 (nodes n t) n

pub read : (n : ℕ) (t : Bytes) → Whole n t → Read n t
read n t w =
    let s = seen n t w in
    let L : Layout = layout (free_at n t) s.files in
    let o = in_order n w.small t L s.holds in
    let nd = node_of n w.small t L s.holds o.0 o.1 o.2 in
    let q : nodes n t ≡ o.0 =
    scan_read n t o.0 n 0 (omega (arith, end_after 0 o.0 n o.2)) o.2 (λ r m. node_size t n r.start r.size (nd r m)) in
    let π : Permᴰ (runs L) (nodes n t) = subst⁻¹ (Permᴰ (runs L)) q o.1 in
    let f : Permᴰ (files_in n t (nodes n t)) s.files = found n w.small t L (nodes n t) s.holds π in
    record {
      holds = holds_order (mathlib.Core.List.Permᴰ.symm f) s.holds;
      perm = mathlib.Core.List.Permᴰ.trans (mathlib.Core.List.Permᴰ.append_left (free_at n t) (joined_perm f)) π;
      cover = subst⁻¹ (λ (T : List Run). EndToEnd 0 T n) q o.2;
    }
