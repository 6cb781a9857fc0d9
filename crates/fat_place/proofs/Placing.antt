-- The free chain laid without the window, then the window's node, then the head: that is the step.
use mathlib.Core.Path.{◌≡◌, sym, ap, subst⁻¹, ◌∙◌}
use mathlib.Core.List.{List}
use Prim.Native.Nat.{ℕ, ◌+◌, ◌-◌, ◌*◌, ◌≤◌}
use native.Mathlib.Omega.{arith}
use lib.ListN.{length}
use Rattle.words.proofs.Laws as words
use Rattle.fat_node.specs.Entry.{Bytes}
use Rattle.fat_node.specs.Node.{Run, run, set_node, set_head}
use Rattle.fat_node.proofs.Nodes.{length_set_node}
use Rattle.fat_table.specs.Chain.{free_at}
use Rattle.fat_table.specs.Layout.{hits, covers, empties, joined}
use Rattle.fat_table.specs.Steps.{first, lay}
use Rattle.fat_table.proofs.Layouts.{hits_most, covers_append, empties_append}
use Rattle.fat_table.proofs.Laying.{length_lay, first_inside}
use Rattle.fat_table.proofs.Overwrites.{lay_set_node}
use Rattle.fat_table.proofs.Files.{seen}
use Rattle.fat_walk.specs.Volume.{Volume}
use Rattle.fat_walk.proofs.Hops.{whole_of}
use Rattle.fat_carve.specs.Carve.{carved, Window}
use Rattle.fat_carve.proofs.Carves.{covers_carved, empties_carved}
use Rattle.fat_place.specs.Place.{placed}
use Rattle.fat_place.specs.Inner.Carving.{CarvedBy}

module _ (n : ℕ) (t : Bytes) (v : Volume n t) (g : words.Bytes t) (m k : ℕ) (w : Window m k (free_at n t)) where
  free_inside : (x : ℕ) → covers x (free_at n t) ≤ hits x (run 0 n)
  free_inside x = let s = seen n t (whole_of n t v g) in omega (arith, s.holds.tiled.once x, covers_append x (free_at n t) (joined s.files))

  free_sizes : empties (free_at n t) ≡ 0
  free_sizes = let s = seen n t (whole_of n t v g) in omega (arith, s.holds.tiled.positive, empties_append (free_at n t) (joined s.files))

  beside : (x : ℕ) → covers x (carved m k (free_at n t)) + hits x (run m k) ≡ covers x (free_at n t)
  beside x = covers_carved x m k (free_at n t) (omega (arith, free_inside x, hits_most x (run 0 n))) (w.each x)

  module _ (t₁ : Bytes) (i : ℕ) (e : ℕ) (ee : e ≡ m + k) (c' : CarvedBy n t m e t₁ i) where
    c : CarvedBy n t m (m + k) t₁ i
    c = subst⁻¹ (λ (y : ℕ). CarvedBy n t m y t₁ i) (sym ee) c'

    width : m + k - m ≡ k
    width = omega arith

    lays : t₁ ≡ lay (carved m k (free_at n t)) 0 t
    lays = c.lays ∙ ap (λ (y : ℕ). lay (carved m y (free_at n t)) 0 t) width

    at : i ≡ first (carved m k (free_at n t))
    at = c.at ∙ ap (λ (y : ℕ). first (carved m y (free_at n t))) width

    pub place_room : length t₁ ≡ 8 * (n + 1)
    place_room = ap {B = ℕ} length lays ∙ length_lay (carved m k (free_at n t)) 0 t ∙ v.room

    pub place_low : i ≤ n
    place_low =
        omega (
          arith,
          at,
          first_inside n (carved m k (free_at n t)) (empties_carved m k (free_at n t) free_sizes) (λ x. omega (arith, beside x, free_inside x)),
        )

    module _ (t₂ : Bytes) (s : t₂ ≡ set_node t₁ (run m k) 0 0) where
      pub place_long : length t₂ ≡ 8 * (n + 1)
      place_long = ap {B = ℕ} length s ∙ length_set_node t₁ (run m k) 0 0 ∙ place_room

      pub place_done : (t₃ : Bytes) → t₃ ≡ set_head t₂ i → t₃ ≡ placed n t m k
      unfolding placed
      place_done t₃ h =
          let D : List Run = carved m k (free_at n t) in
          let a : t₂ ≡ lay D 0 (set_node t (run m k) 0 0) =
          s
          ∙ ap (λ (y : Bytes). set_node y (run m k) 0 0) lays
          ∙ sym (lay_set_node D 0 t (run m k) 0 0 w.some (empties_carved m k (free_at n t) free_sizes) (λ x. omega (arith, beside x, free_inside x, hits_most x (run 0 n)))) in
          h ∙ ap (λ (y : Bytes). set_head y i) a ∙ ap (set_head (lay D 0 (set_node t (run m k) 0 0))) at
