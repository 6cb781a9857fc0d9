-- What a window leaves of one node, put behind a waiting one.
use mathlib.Core.Path.{◌≡◌, refl, sym, ap, subst⁻¹, ◌∙◌}
use mathlib.Core.List.{List, [], ◌∷◌, ◌++◌}
use mathlib.Core.Logic.{⊎_elim}
use Prim.Native.Nat.{ℕ, zero, suc, ◌+◌, ◌-◌, ◌≤◌}
use Rattle.std.specs.Prelude.{min}
use native.Mathlib.Omega.{arith}
use lib.ListN.{length}
use Rattle.fat_node.specs.Entry.{Bytes}
use Rattle.fat_node.specs.Node.{Run, run, set_node}
use Rattle.fat_node.proofs.Nodes.{le_or_lt, length_set_node}
use Rattle.fat_table.specs.Layout.{taken, left, hits, covers, empties}
use Rattle.fat_table.specs.Steps.{lay}
use Rattle.fat_table.specs.Holds.{Laid}
use Rattle.fat_table.proofs.Layouts.{hits_lo, hits_hi, hits_split, taken_whole, taken_part, left_whole, left_part}
use Rattle.fat_table.proofs.Writes.{keep_laid}
use Rattle.fat_walk.specs.Inner.Chains.{Least}
use Rattle.fat_place.specs.Inner.Carving.{node_of, first_of, Wrote, unwritten, written, PutSays, PartsSay}

pub last_laid : (t : Bytes) (s b p : ℕ) (t' : Bytes) → (s ≡ 0 → ⊥) → t' ≡ set_node t (run b s) p 0 → t' ≡ lay (node_of s b) p t
last_laid t zero b p t' h e = absurd (h refl)
last_laid t (suc s) b p t' h e = e

pub last_none : (t : Bytes) (s b p : ℕ) → s ≡ 0 → t ≡ lay (node_of s b) p t
last_none t zero b p e = refl
last_none t (suc s) b p e = let z : ⊥ = omega (arith, e) in absurd z

-- one run as a node
node_is : (b s u v : ℕ) → 1 ≤ s → u ≡ s → v ≡ b → run b s ∷ [] ≡ node_of u v
node_is b zero u v h e f = let z : ⊥ = omega arith in absurd z
node_is b (suc s) u v h e f = ap (λ (y : ℕ). node_of y b) (sym e) ∙ ap (node_of u) (sym f)

-- the first c blocks of one run, and the others
taken_node : (b s c q : ℕ) → 1 ≤ s → Least s c q → taken (run b s ∷ []) c ≡ node_of q b
taken_node b s zero q h l = let z : q ≡ 0 = omega (arith, l.right) in ap (λ (y : ℕ). node_of y b) (sym z)
taken_node b s (suc c) q h l = ⊎_elim
    (λ k.
    let z : q ≡ s = ⊎_elim (λ j. omega (arith, j, l.left)) (λ j. let y : ⊥ = omega (arith, l.one j, k, j) in absurd y) (le_or_lt s q) in
    taken_whole (run b s) [] c k ∙ node_is b s q b h z refl)
    (λ k.
    let z : q ≡ suc c = ⊎_elim (λ j. let y : ⊥ = omega (arith, j, k, l.right) in absurd y) (λ j. l.one j) (le_or_lt s q) in
    taken_part (run b s) [] c k ∙ ap (λ (y : ℕ). node_of y b) (sym z))
    (le_or_lt s (suc c))

left_node : (b s c q : ℕ) → 1 ≤ s → Least s c q → left (run b s ∷ []) c ≡ node_of (s - q) (b + q)
left_node b s zero q h l =
    let z : q ≡ 0 = omega (arith, l.right) in
    node_is b s (s - q) (b + q) h (omega (arith, z)) (omega (arith, z))
left_node b s (suc c) q h l = ⊎_elim
    (λ k.
    let z : s - q ≡ 0 = ⊎_elim (λ j. omega (arith, j)) (λ j. let y : ⊥ = omega (arith, l.one j, k, j) in absurd y) (le_or_lt s q) in
    left_whole (run b s) [] c k ∙ ap (λ (y : ℕ). node_of y (b + q)) (sym z))
    (λ k.
    let z : q ≡ suc c = ⊎_elim (λ j. let y : ⊥ = omega (arith, j, k, l.right) in absurd y) (λ j. l.one j) (le_or_lt s q) in
    left_part (run b s) [] c k ∙ node_is (b + suc c) (s - suc c) (s - q) (b + q) (omega (arith, k)) (omega (arith, z)) (omega (arith, z)))
    (le_or_lt s (suc c))

covers_node : (q b x : ℕ) → covers x (node_of q b) ≡ hits x (run b q)
covers_node zero b x = ⊎_elim (λ h. sym (hits_hi x (run b 0) (omega (arith, h)))) (λ h. sym (hits_lo x (run b 0) h)) (le_or_lt b x)
covers_node (suc q) b x = omega arith

-- the two parts have blocks of the run, each once
parts_within : (b s q₁ q₂ x : ℕ) → q₁ ≤ q₂ → q₂ ≤ s → covers x (node_of q₁ b) + covers x (node_of (s - q₂) (b + q₂)) ≤ hits x (run b s)
parts_within b s q₁ q₂ x h k =
    omega (
      arith,
      covers_node q₁ b x,
      covers_node (s - q₂) (b + q₂) x,
      hits_split x (run b s) q₂ k,
      hits_split x (run b q₂) q₁ h,
    )

least_min : (s c q : ℕ) → q ≡ min s c → Least s c q
least_min s c q e = record { left = omega (arith, e); right = omega (arith, e); one = λ h. omega (arith, e, h) }

least_order : (s a b p q : ℕ) → a ≤ b → Least s a p → Least s b q → p ≤ q
least_order s a b p q h l k = ⊎_elim
    (λ j. omega (arith, j, l.left))
    (λ j. omega (arith, k.one j, l.right, h))
    (le_or_lt s q)

-- what a write of the waiting node keeps
wrote_keeps : (t : Bytes) (s b p i : ℕ) (t' : Bytes) → Wrote t s b p i t' → (l : List Run) (o : ℕ) → empties l ≡ 0 → ((x : ℕ) → covers x (node_of s b) + covers x l ≤ 1)
    → Laid t l o → Laid t' l o
wrote_keeps t s b p i t' (unwritten e) l o em c w = subst⁻¹ (λ (y : Bytes). Laid y l o) e w
wrote_keeps t s b p i t' (written h e) l o em c w =
    subst⁻¹ (λ (y : Bytes). Laid y l o) e (keep_laid t (run b s) p i l o h em (λ x. omega (arith, c x, covers_node s b x)) w)

wrote_long : (t : Bytes) (s b p i : ℕ) (t' : Bytes) → Wrote t s b p i t' → length t' ≡ length t
wrote_long t s b p i t' (unwritten e) = ap (λ (y : Bytes). length y) e
wrote_long t s b p i t' (written h e) = ap (λ (y : Bytes). length y) e ∙ length_set_node t (run b s) p i

module _ (n : ℕ) (t : Bytes) (s₀ b₀ p₀ f₀ b s m e q₁ q₂ : ℕ) (some : 1 ≤ s) (order : m ≤ e) (o₁ o₂ : ℕ) (z₁ : o₁ ≡ m - b) (z₂ : o₂ ≡ e - b) (k₁ : q₁ ≡ min s o₁) (k₂ : q₂ ≡ min s o₂)
    (t₁ : Bytes) (s₁ b₁ p₁ f₁ : ℕ) (u : PutSays n t s₀ b₀ p₀ f₀ q₁ b t₁ s₁ b₁ p₁ f₁) where
  pub parts_room : length t₁ ≡ length t
  parts_room = wrote_long t s₀ b₀ p₀ (suc b) t₁ u.wrote

  pub parts_say : (t₂ : Bytes) (s₂ b₂ p₂ f₂ : ℕ) → PutSays n t₁ s₁ b₁ p₁ f₁ (s - q₂) (b + q₂) t₂ s₂ b₂ p₂ f₂
      → PartsSay n t s₀ b₀ p₀ f₀ (run b s) m e t₂ s₂ b₂ p₂ f₂
  parts_say t₂ s₂ b₂ p₂ f₂ v =
      let l₁ : Least s (m - b) q₁ = least_min s (m - b) q₁ (omega (arith, z₁, k₁)) in
      let l₂ : Least s (e - b) q₂ = least_min s (e - b) q₂ (omega (arith, z₂, k₂)) in
      let N : List Run = node_of s₀ b₀ in
      let tk : taken (run b s ∷ []) (m - b) ≡ node_of q₁ b = taken_node b s (m - b) q₁ some l₁ in
      let lf : left (run b s ∷ []) (e - b) ≡ node_of (s - q₂) (b + q₂) = left_node b s (e - b) q₂ some l₂ in
      let in_run : (x : ℕ) → covers x (node_of q₁ b) + covers x (node_of (s - q₂) (b + q₂)) ≤ hits x (run b s) =
      λ x. parts_within b s q₁ q₂ x (least_order s (m - b) (e - b) q₁ q₂ (omega (arith, order)) l₁ l₂) l₂.left in
      record {
        lays = λ l.
            ap (λ (y : List Run). lay (N ++ (y ++ (left (run b s ∷ []) (e - b) ++ l))) p₀ t) tk
            ∙ ap (λ (y : List Run). lay (N ++ (node_of q₁ b ++ (y ++ l))) p₀ t) lf
            ∙ u.lays (node_of (s - q₂) (b + q₂) ++ l)
            ∙ v.lays l;
        firsts = λ l.
            ap (λ (y : List Run). first_of s₀ f₀ (y ++ (left (run b s ∷ []) (e - b) ++ l))) tk
            ∙ ap (λ (y : List Run). first_of s₀ f₀ (node_of q₁ b ++ (y ++ l))) lf
            ∙ u.firsts (node_of (s - q₂) (b + q₂) ++ l)
            ∙ v.firsts l;
        keeps = λ l o em c w.
            wrote_keeps t₁ s₁ b₁ p₁ (suc (b + q₂)) t₂ v.wrote l o em (λ x. omega (arith, c x, u.only x, in_run x))
            (wrote_keeps t s₀ b₀ p₀ (suc b) t₁ u.wrote l o em (λ x. omega (arith, c x)) w);
        long = wrote_long t₁ s₁ b₁ p₁ (suc (b + q₂)) t₂ v.wrote ∙ parts_room;
        waits = v.waits;
        only = λ x. omega (arith, v.only x, u.only x, in_run x);
      }
