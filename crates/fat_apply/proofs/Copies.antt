-- The loops that copy the bytes of a block, and of the blocks of a plan: what holds whenever a loop's test is reached.
use mathlib.Core.Path.{◌≡◌, refl, sym, ap, ◌∙◌}
use mathlib.Core.List.{List, [], ◌∷◌, ◌++◌}
use mathlib.Core.Logic.{◌⊎◌, inl, inr, ⊎_elim}
use Prim.Native.Nat.{ℕ, zero, suc, ◌+◌, ◌-◌, ◌*◌, ◌/◌, ◌≤◌, ◌<◌}
use native.Mathlib.Omega.{arith}
use native.Mathlib.Nat.{add-mul, suc-mul, mul-le-mul_right}
use mir.Syntax.{w64}
use mir.Val.{Fits}
use lib.ListN.{length, get_or, take, drop, length-drop}
use lib.Seq.{sets, paste, sets-eq, length-sets, length-take-le}
use Rattle.fat_node.specs.Entry.{Bytes}
use Rattle.fat_promises.specs.Blocks.{bytes_at}
use Rattle.fat_walk.specs.Volume.{Data}
use Rattle.fat_walk.proofs.Blocks.{sets_append}
use Rattle.fat_copy.proofs.InRow.{length_bytes, bytes_split, bytes_row}
use Rattle.std.specs.List.{copy_within}
use Rattle.fat_apply.specs.Inner.Moving.{sources_of, Movable}
use Rattle.fat_apply.proofs.Bytes.{sets_other, part_same, block_row}

-- one block -----------------------------------------------------------------------------------------------------------

pub copied_sets : (d : Bytes) (from to len : ℕ) → from + len ≤ length d → to + len ≤ length d → (d' : Bytes) → d' ≡ copy_within d from (from + len) to
    → d' ≡ sets d to (take len (drop from d))
copied_sets d from to len f t d' e =
    let q : from + len - from ≡ len = omega arith in
    let long : length (take len (drop from d)) ≡ len = length-take-le len (drop from d) (omega (arith, length-drop from d, f)) in
    e
    ∙ ap (λ (k : ℕ). paste d to (drop from d) k) q
    ∙ ap (λ (k : ℕ). take to d ++ take len (drop from d) ++ drop (to + k) d) (sym long)
    ∙ sym (sets-eq (take len (drop from d)) d to (omega (arith, long, t)))

-- the sources of a plan -----------------------------------------------------------------------------------------------

pub sources_length : (p : List ℕ) → length (sources_of p) ≡ length p / 2
sources_length [] = refl
sources_length (b ∷ []) = omega arith
sources_length (b ∷ (m ∷ l)) = omega (arith, sources_length l)

pub sources_at : (p : List ℕ) (i : ℕ) → i < length (sources_of p) → get_or p (2 * i) 0 ≡ get_or (sources_of p) i 0
sources_at [] i h = let z : ⊥ = omega (arith, h) in absurd z
sources_at (b ∷ []) i h = let z : ⊥ = omega (arith, h) in absurd z
sources_at (b ∷ (m ∷ l)) zero h = refl
sources_at (b ∷ (m ∷ l)) (suc i) h =
    let e : 2 * suc i ≡ suc (suc (2 * i)) = omega arith in
    ap (λ (j : ℕ). get_or (b ∷ (m ∷ l)) j 0) e ∙ sources_at l i (omega (arith, h))

-- the blocks of a plan ------------------------------------------------------------------------------------------------

-- i blocks are copied
pub record Moving (d₀ : Bytes) (l : ℕ) (plan : List ℕ) (m : ℕ) (d : Bytes) (i : ℕ) : Type 0 where
  pub is : d ≡ sets d₀ (m * l) (bytes_at (i * l) d₀ l (sources_of plan) 0)
  pub within : i ≤ length plan / 2
  pub long : length d ≡ length d₀

pub move_begin : (d : Bytes) (l : ℕ) (plan : List ℕ) (m : ℕ) → Moving d l plan m d 0
move_begin d l plan m =
    let e : 0 ≡ 0 * l = omega arith in
    record { is = ap (λ (j : ℕ). sets d (m * l) (bytes_at j d l (sources_of plan) 0)) e; within = omega arith; long = refl }

pub move_end : (d₀ : Bytes) (l : ℕ) (plan : List ℕ) (m : ℕ) (d : Bytes) (i : ℕ) → Moving d₀ l plan m d i → length plan / 2 ≤ i
    → d ≡ sets d₀ (m * l) (bytes_at (length (sources_of plan) * l) d₀ l (sources_of plan) 0)
move_end d₀ l plan m d i v h =
    let e : i ≡ length (sources_of plan) = omega (arith, v.within, h, sources_length plan) in
    v.is ∙ ap (λ (j : ℕ). sets d₀ (m * l) (bytes_at (j * l) d₀ l (sources_of plan) 0)) e

module _ (n : ℕ) (d₀ : Bytes) (l : ℕ) (plan : List ℕ) (m : ℕ) (d : Bytes) (i : ℕ) (v : Moving d₀ l plan m d i) (g : Data n (length d₀) l) (w : Movable n m plan) (h : i < length plan / 2) where
  abbrev B : List ℕ
  B = sources_of plan

  abbrev s : ℕ
  s = get_or (sources_of plan) i 0

  here : i < length B
  here = omega (arith, h, sources_length plan)

  abbrev b : ℕ
  b = get_or plan (2 * i) 0

  pub move_source : b ≡ s
  move_source = sources_at plan i here

  pub move_low : b < n
  move_low = omega (arith, move_source, w.low i here)

  pub move_high : m + i < n
  move_high = omega (arith, w.within, here)

  -- a block below n lies in the data
  block_fits : (x : ℕ) → x < n → x * l + l ≤ length d₀
  block_fits x k = omega (arith, mul-le-mul_right l k, suc-mul x l, g.fits)

  -- products of blocks and the block length are numbers of the code
  product_fits : (x : ℕ) → x < n → Fits w64 (x * l)
  product_fits x k =
      let q : x ≤ 1000000 = omega (arith, k, w.few) in
      omega (arith, mul-le-mul_right l q, g.few)

  pub move_to : Fits w64 ((m + i) * l)
  move_to = product_fits (m + i) move_high

  pub move_fits : (b * l + l ≤ length d) × ((m + i) * l + l ≤ length d)
  move_fits = (omega (arith, block_fits b move_low, v.long), omega (arith, block_fits (m + i) move_high, v.long))

  -- the block that is read is still the old one
  source_old : take l (drop (b * l) d) ≡ take l (drop (b * l) d₀)
  source_old =
      let X : Bytes = bytes_at (i * l) d₀ l B 0 in
      part_same d₀ d (b * l) l (block_fits b move_low) v.long
      (λ j p q.
      ap (λ (y : Bytes). get_or y j 0) v.is
      ∙ sets_other X d₀ (m * l) j
      (⊎_elim
      (λ k. inl (omega (arith, q, k, move_source, mul-le-mul_right l (low_of k), suc-mul b l)))
      (λ k. inr (omega (arith, p, length_bytes (i * l) d₀ l B 0, add-mul m i l, mul-le-mul_right l (high_of k))))
      (w.apart i here)))
    where
      low_of : s < m → suc b ≤ m
      low_of k = omega (arith, k, move_source)

      high_of : m + length B ≤ s → m + i ≤ b
      high_of k = omega (arith, k, move_source, here)

  pub move_next : (d' : Bytes) → d' ≡ sets d ((m + i) * l) (take l (drop (b * l) d)) → Moving d₀ l plan m d' (i + 1)
  move_next d' q =
      let X : Bytes = bytes_at (i * l) d₀ l B 0 in
      let Y : Bytes = bytes_at l d₀ l B (i * l) in
      let low : s * l + l ≤ length d₀ = block_fits s (w.low i here) in
      let y : take l (drop (b * l) d) ≡ Y =
      source_old
      ∙ ap (λ (x : ℕ). take l (drop (x * l) d₀)) move_source
      ∙ sym (bytes_row l d₀ l B (i * l) (s * l) (block_row B l i (omega (arith, g.some))) low) in
      let at : (m + i) * l ≡ m * l + length X = omega (arith, add-mul m i l, length_bytes (i * l) d₀ l B 0) in
      let more : i * l + l ≡ (i + 1) * l = omega (arith, add-mul i 1 l) in
      let z : i * l ≡ 0 + i * l = omega arith in
      record {
        is = q
            ∙ ap (sets d ((m + i) * l)) y
            ∙ ap (λ (x : Bytes). sets x ((m + i) * l) Y) v.is
            ∙ ap (λ (x : ℕ). sets (sets d₀ (m * l) X) x Y) at
            ∙ sym (sets_append X Y d₀ (m * l))
            ∙ ap (λ (x : ℕ). sets d₀ (m * l) (X ++ bytes_at l d₀ l B x)) z
            ∙ ap (sets d₀ (m * l)) (sym (bytes_split (i * l) l d₀ l B 0))
            ∙ ap (λ (x : ℕ). sets d₀ (m * l) (bytes_at x d₀ l B 0)) more;
        within = omega (arith, h);
        long = ap {B = ℕ} length q ∙ length-sets d ((m + i) * l) (take l (drop (b * l) d)) ∙ v.long;
      }
