-- Two files of a sound table lie apart, and each block lies in one chain.
use mathlib.Core.Path.{◌≡◌, refl, ap, subst⁻¹, ◌∙◌}
use mathlib.Core.List.Permᴰ
use mathlib.Core.List.{List, [], ◌∷◌, ◌++◌, Permᴰ}
use mathlib.Core.Logic.{◌≢◌, ◌⊎◌, inl, inr, ⊎_elim}
use Prim.Native.Nat.{ℕ, suc, ◌+◌, ◌≤◌, ◌<◌}
use native.Mathlib.Omega.{arith}
use Rattle.fat_node.specs.Entry.{Bytes, Entry}
use Rattle.fat_node.specs.Node.{Run, run, prev_at, next_at}
use Rattle.fat_node.proofs.Nodes.{le_or_lt}
use Rattle.fat_table.specs.Sound.{File}
use Rattle.fat_table.specs.Chain.{free_at, file_at}
use Rattle.fat_table.specs.Layout.{Layout, layout, joined, hits, covers}
use Rattle.fat_table.specs.Steps.{first}
use Rattle.fat_table.specs.Holds.{Holds}
use Rattle.fat_table.proofs.Layouts.{hits_in, covers_append}
use Rattle.fat_table.proofs.Chains.{mem_either, chain_of, path_prev}
use Rattle.fat_table.proofs.Stepped.{holds_order}
use Rattle.fat_table.proofs.Sounds.{node_run}
use Rattle.fat_table.proofs.Files.{Whole, seen, seen_file, some_first, free_path, file_path, is_file, file_is}
use Rattle.fat_history.specs.OneChain.{InFree, InFile, OneChain}

-- another file of the table is among the other chains of the layout
other_of : (n : ℕ) → n ≤ 1000000 → (t : Bytes) (free f : List Run) (files : List (List Run)) (b c : ℕ) → Holds n t (layout free (f ∷ files)) → first f ≡ suc b → c ≢ b → File t n c
    → (g : List Run) × (gs : List (List Run)) × Permᴰ files (g ∷ gs) × (first g ≡ suc c)
other_of n small t free f files b c s at ne i =
    let L : Layout = layout free (f ∷ files) in
    let o = node_run n small t L s c i.0 in
    let r : Run = o.0 in
    let first_of : prev_at t r.start ≡ 0 = ap (prev_at t) o.2 ∙ i.1 in
    ⊎_elim
    (λ k.
    ⊎_elim
    (λ w. absurd (i.2 (ap (λ (x : Entry). x.v) s.head ∙ w.1 ∙ omega (arith, o.2))))
    (λ w. let z : ⊥ = omega (arith, w.2, first_of) in absurd z)
    (path_prev (prev_at t) (next_at t) 0 free (free_path n small t L s) r k))
    (λ k.
    ⊎_elim
    (λ m.
    ⊎_elim
    (λ w. absurd (ne (omega (arith, w.1, at, o.2))))
    (λ w. let z : ⊥ = omega (arith, w.2, first_of) in absurd z)
    (path_prev (prev_at t) (next_at t) 0 f (file_path n small t free f files s) r m))
    (λ m.
    let w = chain_of r files m in
    let s' : Holds n t (layout free (w.0 ∷ (f ∷ w.1))) =
    holds_order (Permᴰ.trans (Permᴰ.cons refl w.2) (Permᴰ.swap refl refl)) s in (
      w.0,
      w.1,
      w.2,
      ⊎_elim
          (λ x. x.1 ∙ ap suc o.2)
          (λ x. let z : ⊥ = omega (arith, x.2, first_of) in absurd z)
          (path_prev (prev_at t) (next_at t) 0 w.0 (file_path n small t free w.0 (f ∷ w.1) s') r w.3),
    ))
    (mem_either f (joined files) k))
    (mem_either free (f ++ joined files) o.1)

-- the layout with two files first
pub record SeenTwo (n : ℕ) (t : Bytes) (c b : ℕ) : Type 0 where
  pub others : List (List Run)
  pub holds : Holds n t (layout (free_at n t) (file_at n t c ∷ (file_at n t b ∷ others)))
  pub at : first (file_at n t c) ≡ suc c
  pub next_at_lem : first (file_at n t b) ≡ suc b

pub seen_two : (n : ℕ) (t : Bytes) (c b : ℕ) → Whole n t → File t n c → File t n b → c ≢ b → SeenTwo n t c b
seen_two n t c b w i j ne =
    let s = seen_file n t b w j in
    let o = other_of n w.small t (free_at n t) (file_at n t b) s.others b c s.holds s.at ne i in
    let h : Holds n t (layout (free_at n t) (o.0 ∷ (file_at n t b ∷ o.1))) =
    holds_order (Permᴰ.trans (Permᴰ.cons refl o.2) (Permᴰ.swap refl refl)) s.holds in
    let e : file_at n t c ≡ o.0 = file_is n w.small t (free_at n t) o.0 (file_at n t b ∷ o.1) h c o.3 in
    record {
      others = o.1;
      holds = subst⁻¹ (λ (f : List Run). Holds n t (layout (free_at n t) (f ∷ (file_at n t b ∷ o.1)))) e h;
      at = subst⁻¹ (λ (f : List Run). first f ≡ suc c) e o.3;
      next_at_lem = s.at;
    }

-- two files share no block
pub two_apart : (n : ℕ) (t : Bytes) (c b : ℕ) → Whole n t → File t n c → File t n b → c ≢ b → (x : ℕ)
    → covers x (file_at n t c) + covers x (file_at n t b) ≤ hits x (run 0 n)
two_apart n t c b w i j ne x =
    let s = seen_two n t c b w i j ne in
    let f : List Run = file_at n t c in
    let g : List Run = file_at n t b in
    omega (
      arith,
      s.holds.tiled.once x,
      covers_append x (free_at n t) (f ++ (g ++ joined s.others)),
      covers_append x f (g ++ joined s.others),
      covers_append x g (joined s.others),
    )

-- a block that some chain covers is in a chain that can be put first
find_chain : (x : ℕ) (fs : List (List Run)) → 1 ≤ covers x (joined fs) → (f : List Run) × (gs : List (List Run)) × Permᴰ fs (f ∷ gs) × (1 ≤ covers x f)
find_chain x [] h = let z : ⊥ = omega arith in absurd z
find_chain x (f ∷ fs) h = go (le_or_lt 1 (covers x f)) (λ k. find_chain x fs k)
  where
    go : (1 ≤ covers x f) ⊎ (covers x f < 1) → (1 ≤ covers x (joined fs) → (g : List Run) × (gs : List (List Run)) × Permᴰ fs (g ∷ gs) × (1 ≤ covers x g))
        → (g : List Run) × (gs : List (List Run)) × Permᴰ (f ∷ fs) (g ∷ gs) × (1 ≤ covers x g)
    go (inl k) ih = (f, fs, Permᴰ.refl (f ∷ fs), k)
    go (inr k) ih =
        let w = ih (omega (arith, k, h, covers_append x f (joined fs))) in
        (w.0, f ∷ w.1, Permᴰ.trans (Permᴰ.cons refl w.2) (Permᴰ.swap refl refl), w.3)

module _ (n : ℕ) (t : Bytes) (w : Whole n t) (x : ℕ) (low : x < n) where
  free_once : 1 ≤ covers x (free_at n t) → InFree n t x
  free_once h =
      let s = seen n t w in
      let one : hits x (run 0 n) ≡ 1 = hits_in x (run 0 n) (omega arith) (omega (arith, low)) in
      record {
        once = omega (arith, h, one, s.holds.tiled.once x, covers_append x (free_at n t) (joined s.files));
        files = λ b i.
            let v = seen_file n t b w i in
            omega (
              arith,
              h,
              one,
              v.holds.tiled.once x,
              covers_append x (free_at n t) (file_at n t b ++ joined v.others),
              covers_append x (file_at n t b) (joined v.others),
            );
      }

  file_once : covers x (free_at n t) ≡ 0 → InFile n t x
  file_once z =
      let s = seen n t w in
      let one : hits x (run 0 n) ≡ 1 = hits_in x (run 0 n) (omega arith) (omega (arith, low)) in
      let o = find_chain x s.files (omega (arith, z, one, s.holds.tiled.once x, covers_append x (free_at n t) (joined s.files))) in
      let h : Holds n t (layout (free_at n t) (o.0 ∷ o.1)) = holds_order o.2 s.holds in
      let at = some_first o.0 (omega (arith, h.tiled.nonempty)) in
      let b : ℕ = at.0 in
      let i : File t n b = is_file n w.small t (free_at n t) o.0 o.1 b h at.1 in
      let e : file_at n t b ≡ o.0 = file_is n w.small t (free_at n t) o.0 o.1 h b at.1 in
      let c : covers x (file_at n t b) ≡ covers x o.0 = ap (covers x) e in
      record {
        first = b;
        file = i;
        once = omega (
          arith,
          c,
          o.3,
          one,
          h.tiled.once x,
          covers_append x (free_at n t) (o.0 ++ joined o.1),
          covers_append x o.0 (joined o.1),
        );
        free = z;
        others = λ a j ne. omega (arith, c, o.3, one, two_apart n t a b w j i ne x);
      }

  pub one_chain_of : OneChain n t x
  one_chain_of = ⊎_elim (λ h. inl (free_once h)) (λ h. inr (file_once (omega (arith, h)))) (le_or_lt 1 (covers x (free_at n t)))
