-- The merge, call by call.
use mathlib.Core.Path.{◌≡◌, sym, ap, subst⁻¹, ◌∙◌}
use mathlib.Core.List.{List}
use mathlib.Core.Logic.{⊎_elim}
use Prim.Native.Nat.{ℕ, ◌+◌, ◌-◌, ◌*◌, ◌≤◌, ◌<◌}
use native.Mathlib.Omega.{arith}
use lib.ListN.{length, get_or, replicate, length-replicate, get_or-replicate}
use lib.Seq.{ext_get_or}
use Rattle.words.proofs.Laws as words
use Rattle.fat_node.specs.Entry.{Bytes}
use Rattle.fat_node.specs.Node.{Run, set_head}
use Rattle.fat_node.proofs.Nodes.{le_or_lt}
use Rattle.fat_table.specs.Chain.{free_at}
use Rattle.fat_table.specs.Layout.{covers}
use Rattle.fat_table.specs.Steps.{first, lay}
use Rattle.fat_table.proofs.Laying.{length_lay}
use Rattle.fat_walk.specs.Volume.{Volume}
use Rattle.fat_walk.proofs.Hops.{whole_of}
use Rattle.fat_merge.specs.Merge.{stretches, tidied, merged}
use Rattle.fat_merge.specs.Inner.Sweep.{marks, Ahead, Reading, LaidFrom, IndexIs}
use Rattle.fat_merge.proofs.Sweeps.{first_index}
use Rattle.fat_merge.proofs.Loops.{Skips}
use Rattle.fat_merge.proofs.Marked.{length_marks, marked_ahead}

-- the blocks of the free chain
abbrev colour : ℕ → Bytes → ℕ → ℕ
colour n t x = covers x (free_at n t)

pub merge_long : (n : ℕ) (w : List ℕ) → w ≡ replicate n 0 → length w ≡ n
merge_long n w z = ap (λ (l : List ℕ). length l) z ∙ length-replicate {A = ℕ} n 0

module _ (n : ℕ) (t : Bytes) (w₀ w : List ℕ) (v : Volume n t) (g : words.Bytes t) (z : w₀ ≡ replicate n 0) where
  module _ (m : w ≡ marks (free_at n t) w₀) where
    ahead : Ahead n t w (colour n t) 0
    ahead =
        subst⁻¹ (λ (l : List ℕ). Ahead n t l (colour n t) 0) (m ∙ ap (marks (free_at n t)) z)
        (marked_ahead n t (whole_of n t v g))

    pub marked_long : length w ≡ n
    marked_long = ap (λ (l : List ℕ). length l) m ∙ length_marks (free_at n t) w₀ ∙ merge_long n w₀ z

    pub merge_reading : Reading n t w 0
    merge_reading = record { few = v.few; room = v.room; long = marked_long; told = colour n t; ahead = ahead }

    module _ (f : ℕ) (s : Skips n t w 0 f) where
      pub merge_from : Reading n t w f
      merge_from = record { few = v.few; room = v.room; long = marked_long; told = colour n t; ahead = (s (colour n t) ahead).ahead }

      pub merge_met : f < n → get_or w f 0 ≡ 0 → ⊥
      merge_met = (s (colour n t) ahead).met

      pub merge_low : f ≤ n
      merge_low = (s (colour n t) ahead).within

      tidied_is : tidied n t ≡ stretches (n - f) f (colour n t)
      unfolding tidied
      tidied_is = let q : n ≡ n - 0 = omega arith in ap (λ (y : ℕ). stretches y 0 (colour n t)) q ∙ (s (colour n t) ahead).same

      -- the stretches are laid and the head is set
      pub merge_done_lem : (h : ℕ) (t₁ t₂ : Bytes) (w₁ : List ℕ) → IndexIs n f h
          → LaidFrom n t t₁ w w₁ f
          → t₂ ≡ set_head t₁ h
          → t₂ ≡ merged n t
      unfolding merged
      merge_done_lem h t₁ t₂ w₁ i l e =
          let o = s (colour n t) ahead in
          let q : t₁ ≡ lay (tidied n t) 0 t = l.each (colour n t) o.ahead ∙ ap (λ (y : List Run). lay y 0 t) (sym tidied_is) in
          let p : h ≡ first (tidied n t) = sym (ap first tidied_is ∙ first_index n t w (colour n t) f o.ahead o.met h i) in
          e ∙ ap (λ (y : Bytes). set_head y h) q ∙ ap (set_head (lay (tidied n t) 0 t)) p

      pub merge_room : (t₁ : Bytes) (w₁ : List ℕ) → LaidFrom n t t₁ w w₁ f → length t₁ ≡ 8 * (n + 1)
      merge_room t₁ w₁ l =
          ap (λ (y : Bytes). length y) (l.each (colour n t) (s (colour n t) ahead).ahead)
          ∙ length_lay (stretches (n - f) f (colour n t)) 0 t
          ∙ v.room

      -- no mark is left: none stood before the first stretch, and the others are taken away
      pub merge_clear : (t₁ : Bytes) (w₁ : List ℕ) → LaidFrom n t t₁ w w₁ f → w₁ ≡ replicate n 0
      merge_clear t₁ w₁ l =
          let k : length w₁ ≡ n = l.swept.long ∙ marked_long in
          let none : (x : ℕ) → x < n → get_or w₁ x 0 ≡ 0 =
          λ x h.
          ⊎_elim
          (λ p. l.swept.gone x p h)
          (λ p. l.swept.below x p ∙ (s (colour n t) ahead).none x (omega arith) p)
          (le_or_lt f x) in
          ext_get_or 0 w₁ (replicate n 0) (k ∙ sym (length-replicate {A = ℕ} n 0))
          (λ x h. none x (omega (arith, h, k)) ∙ sym (get_or-replicate {A = ℕ} n x 0 0 (omega (arith, h, k))))

-- the index of a block is small
pub index_small : (n f h : ℕ) → n ≤ 1000000 → f ≤ n → IndexIs n f h → h ≤ 1000000
index_small n f h k l i = ⊎_elim (λ z. omega (arith, i.none z)) (λ z. omega (arith, i.some z, z)) (le_or_lt n f)
