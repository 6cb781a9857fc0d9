-- The words of n's blocks, lent as a part of a map or of a work list.
use mathlib.Core.Path.{◌≡◌, refl, sym, ap, subst, subst⁻¹, ◌∙◌}
use mathlib.Core.List.{List, ◌++◌}
use mathlib.Core.Bool.{Bool}
use Prim.Native.Nat.{ℕ, ◌+◌, ◌-◌, ◌/◌, ◌≤◌, ◌<◌}
use native.Mathlib.Omega.{arith}
use lib.ListN.{length, take, drop, replicate, length-append, length-replicate, take-append-drop, replicate-append-replicate}
use lib.Seq.{length-take-le, take-append-le, take_at, drop_at, take-take}
use Rattle.order.specs.Gate.{cleared}
use Rattle.order.specs.Tells.{Tells}
use Rattle.fat_node.specs.Entry.{Bytes}
use Rattle.fat_node.specs.Sizes.{blocks}
use Rattle.map_bits.specs.Bits.{words_in}
use Rattle.map_inner.specs.Map.{map_of}
use Rattle.map_inner.proofs.Told.{length_map}
use Rattle.fat_map.specs.Gate.{IsMap}
use Rattle.fat_map.specs.Promise.{redrawn}

-- no more words than blocks
pub few_words : (n : ℕ) → words_in n ≤ n
few_words n = omega arith

-- the first words of a cleared work list are 0
zeros : ℕ → List ℕ
zeros k = replicate k 0

take_zeros : (w n : ℕ) (rest : List ℕ) → w ≤ n → take w (replicate n 0 ++ rest) ≡ replicate w 0
unfolding zeros
take_zeros w n rest h =
    let s : n ≡ w + (n - w) = omega arith in
    let e : zeros n ≡ zeros w ++ zeros (n - w) = ap zeros s ∙ sym (replicate-append-replicate w (n - w) 0) in
    let k : w ≤ length (zeros w ++ zeros (n - w)) = omega (arith, length-append (zeros w) (zeros (n - w)), length-replicate {A = ℕ} w 0) in
    ap (λ (l : List ℕ). take w (l ++ rest)) e ∙ take-append-le w (zeros w ++ zeros (n - w)) rest k ∙ take_at (zeros w) (zeros (n - w)) w (length-replicate w 0)

module _ (n : ℕ) (work : List ℕ) (h : n ≤ length work) (e : work ≡ cleared n work) where
  pub scratch_zero : (w : ℕ) → w ≡ words_in n → take w work ≡ replicate (words_in n) 0
  scratch_zero w q =
      ap (λ (l : List ℕ). take w l) e ∙ take_zeros w n (drop n work) (omega (arith, few_words n)) ∙ ap (λ (k : ℕ). replicate k 0) q

  -- and so they can be lent and given back
  pub scratch_back : (w : ℕ) (part : List ℕ) → w ≡ words_in n → part ≡ replicate (words_in n) 0 → part ++ drop w work ≡ work
  scratch_back w part q z = ap (λ (l : List ℕ). l ++ drop w work) (z ∙ sym (scratch_zero w q)) ∙ take-append-drop w work

-- what is told of the part is told of the map
pub part_told : (t : Bytes) (n w : ℕ) (map : List ℕ) (r : Bool) → n ≡ blocks t → w ≡ words_in n → Tells (take w map ≡ map_of n t) r → Tells (IsMap t map) r
part_told t n w map r e q h =
    let is : (take w map ≡ map_of n t) ≡ IsMap t map = ap (λ (k : ℕ). take k map ≡ map_of n t) q ∙ ap (λ (m : ℕ). take (words_in m) map ≡ map_of m t) e in
    subst (λ (P : Type 0). Tells P r) is h

-- the map with a part written
module _ (n : ℕ) (map : List ℕ) where
  pub redrawn_part : (t : Bytes) (w : ℕ) (part : List ℕ) → w ≡ words_in n → part ≡ map_of n t → part ++ drop w map ≡ redrawn n t map
  unfolding redrawn
  redrawn_part t w part q e = ap (λ (k : ℕ). part ++ drop k map) q ∙ ap (λ (l : List ℕ). l ++ drop (words_in n) map) e

  pub redrawn_same : (t : Bytes) → take (words_in n) map ≡ map_of n t → redrawn n t map ≡ map
  unfolding redrawn
  redrawn_same t e = ap (λ (l : List ℕ). l ++ drop (words_in n) map) (sym e) ∙ take-append-drop (words_in n) map

  pub take_redrawn : (t : Bytes) → take (words_in n) (redrawn n t map) ≡ map_of n t
  unfolding redrawn
  take_redrawn t = take_at (map_of n t) (drop (words_in n) map) (words_in n) (length_map n t)

  pub drop_redrawn : (t : Bytes) → drop (words_in n) (redrawn n t map) ≡ drop (words_in n) map
  unfolding redrawn
  drop_redrawn t = drop_at (map_of n t) (drop (words_in n) map) (words_in n) (length_map n t)

-- the part's length
pub part_long : (w : ℕ) (map : List ℕ) → w ≤ length map → w ≡ length (take w map)
part_long w map h = sym (length-take-le w map h)

module _ (n w : ℕ) (list : List ℕ) (q : w ≡ words_in n) where
  pub words_fit : n ≤ length list → w ≤ length list
  words_fit h = omega (arith, q, few_words n, h)

  pub words_held : words_in n ≤ length list → w ≤ length list
  words_held h = omega (arith, q, h)

  pub map_part : words_in n ≤ length list → length (take w list) ≡ words_in n
  map_part h = length-take-le w list (words_held h) ∙ q
