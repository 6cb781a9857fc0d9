-- The places of a file's bytes in the data: those of one file differ from each other and from those of another file; what a write changes.
use mathlib.Core.Path.{◌≡◌, refl, sym, ap, subst⁻¹, ◌∙◌}
use mathlib.Core.List.{List, [], ◌∷◌, ◌++◌, Memᴰ}
use mathlib.Core.Bool.{cond}
use mathlib.Core.Logic.{◌≢◌, ⊎_elim}
use Prim.Native.Nat.{ℕ, zero, suc, ◌+◌, ◌-◌, ◌*◌, ◌/◌, ◌%◌, ◌≤◌, ◌<◌}
use native.Mathlib.Omega.{arith}
use native.Mathlib.Nat.{mul-le-mul_right, suc-mul, mod-lt, div-add-mod, div-lt_iff_lt-mul, mul-add-div_right, div-eq_of_lt}
use lib.Dec.{eqb}
use lib.ListN.{length, get_or, set, length-set}
use lib.Seq.{get_or-set_same, get_or-set_other}
use borrow.Author.Tests.{eq-eqb, ne_eqb}
use Rattle.fat_node.specs.Entry.{Bytes}
use Rattle.fat_node.specs.Node.{Run, run}
use Rattle.fat_node.proofs.Nodes.{le_or_lt}
use Rattle.fat_table.specs.Layout.{hits, covers}
use Rattle.fat_table.proofs.Layouts.{hits_in, hits_lo, hits_hi, hits_split}
use Rattle.fat_promises.specs.Blocks.{blocks_from, blocks_of, place_of, bytes_at, written}

-- how often a number stands in a list -----------------------------------------------------------------------------

unfoldable pub is : ℕ → ℕ → ℕ
is x y = cond (eqb x y) 1 0

is_same : (x y : ℕ) → x ≡ y → is x y ≡ 1
unfolding is
is_same x y e = rw (eq-eqb x y e)

is_other : (x y : ℕ) → x ≢ y → is x y ≡ 0
unfolding is
is_other x y e = rw (ne_eqb x y e)

abbrev pub occurs : ℕ → List ℕ → ℕ
occurs x [] = 0
occurs x (y ∷ l) = is x y + occurs x l

occurs_append : (x : ℕ) (a b : List ℕ) → occurs x (a ++ b) ≡ occurs x a + occurs x b
occurs_append x [] b = omega arith
occurs_append x (y ∷ a) b = omega (arith, occurs_append x a b)

hits_none : (x b : ℕ) → hits x (run b 0) ≡ 0
hits_none x b = ⊎_elim (λ h. hits_hi x (run b 0) (omega (arith, h))) (λ h. hits_lo x (run b 0) h) (le_or_lt b x)

hits_one : (x b : ℕ) → hits x (run b 1) ≡ is x b
hits_one x b =
    ⊎_elim
    (λ h.
    ⊎_elim
    (λ k. hits_hi x (run b 1) (omega (arith, k)) ∙ sym (is_other x b (λ e. omega (arith, e, k))))
    (λ k. hits_in x (run b 1) h (omega (arith, k)) ∙ sym (is_same x b (omega (arith, h, k))))
    (le_or_lt (suc b) x))
    (λ h. hits_lo x (run b 1) h ∙ sym (is_other x b (λ e. omega (arith, e, h))))
    (le_or_lt b x)

occurs_from : (s b x : ℕ) → occurs x (blocks_from s b) ≡ hits x (run b s)
occurs_from zero b x = sym (hits_none x b)
occurs_from (suc s) b x =
    let a : hits x (run (b + 1) (suc s - 1)) ≡ hits x (run (suc b) s) =
    ap (λ (y : ℕ). hits x (run y (suc s - 1))) (omega arith) ∙ ap (λ (y : ℕ). hits x (run (suc b) y)) (omega arith) in
    omega (arith, occurs_from s (suc b) x, hits_one x b, a, hits_split x (run b (suc s)) 1 (omega arith))

-- a block stands in the list of a chain's blocks as often as the chain's runs cover it
pub occurs_blocks : (x : ℕ) (l : List Run) → occurs x (blocks_of l) ≡ covers x l
occurs_blocks x [] = refl
occurs_blocks x (r ∷ l) =
    omega (arith, occurs_append x (blocks_from r.size r.start) (blocks_of l), occurs_from r.size r.start x, occurs_blocks x l)

pub occurs_at : (l : List ℕ) (i : ℕ) → i < length l → 1 ≤ occurs (get_or l i 0) l
occurs_at [] i h = omega arith
occurs_at (y ∷ l) zero h = omega (arith, is_same y y refl)
occurs_at (y ∷ l) (suc i) h = omega (arith, occurs_at l i (omega arith))

pub occurs_mem : {x : ℕ} {l : List ℕ} → Memᴰ x l → 1 ≤ occurs x l
occurs_mem {x} (Memᴰ.head {x = y} e) = omega (arith, is_same x y e)
occurs_mem (Memᴰ.tail m) = omega (arith, occurs_mem m)

occurs_two : (l : List ℕ) (i j : ℕ) → i < j → j < length l → get_or l i 0 ≡ get_or l j 0 → 2 ≤ occurs (get_or l j 0) l
occurs_two [] i j h k e = omega arith
occurs_two (y ∷ l) i zero h k e = omega arith
occurs_two (y ∷ l) zero (suc j) h k e = omega (arith, is_same (get_or l j 0) y (sym e), occurs_at l j (omega arith))
occurs_two (y ∷ l) (suc i) (suc j) h k e = omega (arith, occurs_two l i j (omega arith) (omega arith) e)

-- a list in which no number stands twice
pub distinct : (l : List ℕ) → ((x : ℕ) → occurs x l ≤ 1) → (i j : ℕ) → i < length l → j < length l → get_or l i 0 ≡ get_or l j 0 → i ≡ j
distinct l c i j h k e =
    ⊎_elim
    (λ p.
    ⊎_elim
    (λ q. let z : ⊥ = omega (arith, c (get_or l j 0), occurs_two l i j q k e) in absurd z)
    (λ q. omega (arith, p, q))
    (le_or_lt (suc i) j))
    (λ p. let z : ⊥ = omega (arith, c (get_or l i 0), occurs_two l j i p h (sym e)) in absurd z)
    (le_or_lt i j)

-- places ------------------------------------------------------------------------------------------------------------

module _ (l : ℕ) (pos : 0 < l) where
  -- the block of a place
  block_of : (a r : ℕ) → r < l → (a * l + r) / l ≡ a
  block_of a r h = mul-add-div_right pos a r ∙ ap (λ (x : ℕ). a + x) (div-eq_of_lt h) ∙ omega arith

  place_block : (B : List ℕ) (k : ℕ) → place_of B l k / l ≡ get_or B (k / l) 0
  unfolding place_of
  place_block B k = block_of (get_or B (k / l) 0) (k % l) (mod-lt k pos)

  within : (m k : ℕ) → k < m * l → k / l < m
  within m k h = (div-lt_iff_lt-mul pos).1 h

  -- the block at a place of a file is one of its blocks
  place_in : (B : List ℕ) (k : ℕ) → k < length B * l → 1 ≤ occurs (place_of B l k / l) B
  place_in B k h = subst⁻¹ (λ (x : ℕ). 1 ≤ occurs x B) (place_block B k) (occurs_at B (k / l) (within (length B) k h))

  -- files that share no block share no place
  pub places_apart : (B C : List ℕ) → ((x : ℕ) → occurs x B + occurs x C ≤ 1) → (k j : ℕ) → k < length B * l → j < length C * l → place_of B l k ≢ place_of C l j
  places_apart B C c k j h i e =
      let x : ℕ = place_of B l k / l in
      let y : 1 ≤ occurs x C = subst⁻¹ (λ (z : ℕ). 1 ≤ occurs (z / l) C) e (place_in C j i) in
      omega (arith, c x, place_in B k h, y)

  -- in a file whose blocks differ the places differ
  pub places_differ : (B : List ℕ) → ((x : ℕ) → occurs x B ≤ 1) → (k j : ℕ) → k < length B * l → j < length B * l → place_of B l k ≡ place_of B l j → k ≡ j
  unfolding place_of
  places_differ B c k j h i e =
      let b : get_or B (k / l) 0 ≡ get_or B (j / l) 0 = sym (place_block B k) ∙ ap (λ (x : ℕ). x / l) e ∙ place_block B j in
      let q : k / l ≡ j / l = distinct B c (k / l) (j / l) (within (length B) k h) (within (length B) j i) b in
      omega (arith, e, ap (λ (x : ℕ). x * l) b, ap (λ (x : ℕ). l * x) q, div-add-mod k l, div-add-mod j l)

  -- a place of a file whose blocks are below n is in the data
  pub place_low : (B : List ℕ) (n k : ℕ) → ((x : ℕ) → 1 ≤ occurs x B → x < n) → k < length B * l → place_of B l k < n * l
  unfolding place_of
  place_low B n k c h =
      let a : ℕ = get_or B (k / l) 0 in
      let lo : a < n = c a (occurs_at B (k / l) (within (length B) k h)) in
      omega (arith, mul-le-mul_right l lo, suc-mul a l, mod-lt k pos)

-- writes ---------------------------------------------------------------------------------------------------------------

pub length_written : (buf d : Bytes) (l : ℕ) (B : List ℕ) (pos : ℕ) → length (written buf d l B pos) ≡ length d
length_written [] d l B pos = refl
length_written (x ∷ buf) d l B pos = length_written buf (set d (place_of B l pos) x) l B (suc pos) ∙ length-set d (place_of B l pos) x

-- a byte at none of the places stays
pub written_other : (buf d : Bytes) (l : ℕ) (B : List ℕ) (pos j : ℕ) → ((i : ℕ) → i < length buf → j ≢ place_of B l (pos + i)) → get_or (written buf d l B pos) j 0 ≡ get_or d j 0
written_other [] d l B pos j h = refl
written_other (x ∷ buf) d l B pos j h =
    written_other buf (set d (place_of B l pos) x) l B (suc pos) j
    (λ i k. λ e. h (suc i) (omega (arith, k)) (e ∙ ap (place_of B l) (omega arith)))
    ∙ get_or-set_other d (place_of B l pos) j x 0 (λ e. h 0 (omega arith) (e ∙ ap (place_of B l) (omega arith)))

-- and each place has its byte of the buffer
pub written_at : (buf d : Bytes) (l : ℕ) (B : List ℕ) (pos : ℕ) → ((k j : ℕ) → k < pos + length buf → j < pos + length buf → place_of B l k ≡ place_of B l j → k ≡ j)
    → ((k : ℕ) → k < pos + length buf → place_of B l k < length d)
    → (i : ℕ)
    → i < length buf
    → get_or (written buf d l B pos) (place_of B l (pos + i)) 0 ≡ get_or buf i 0
written_at [] d l B pos f g i h = omega arith
written_at (x ∷ buf) d l B pos f g zero h =
    let e : place_of B l (pos + 0) ≡ place_of B l pos = ap (place_of B l) (omega arith) in
    written_other buf (set d (place_of B l pos) x) l B (suc pos) (place_of B l (pos + 0))
    (λ i k. λ q. let z : pos + 0 ≡ suc pos + i = f (pos + 0) (suc pos + i) (omega (arith, k)) (omega (arith, k)) q in omega (arith, z))
    ∙ ap (λ (y : ℕ). get_or (set d (place_of B l pos) x) y 0) e
    ∙ get_or-set_same d (place_of B l pos) x 0 (g pos (omega arith))
written_at (x ∷ buf) d l B pos f g (suc i) h =
    ap (λ (y : ℕ). get_or (written buf (set d (place_of B l pos) x) l B (suc pos)) (place_of B l y) 0) (omega arith)
    ∙ written_at buf (set d (place_of B l pos) x) l B (suc pos)
    (λ k j a b. f k j (omega (arith, a)) (omega (arith, b)))
    (λ k a. subst⁻¹ (λ (y : ℕ). place_of B l k < y) (length-set d (place_of B l pos) x) (g k (omega (arith, a))))
    i (omega (arith, h))

-- reads ----------------------------------------------------------------------------------------------------------------

-- where the bytes are the same the reads are
pub read_same : (many : ℕ) (d d' : Bytes) (l : ℕ) (B : List ℕ) (pos : ℕ)
    → ((k : ℕ) → pos ≤ k → k < pos + many → get_or d' (place_of B l k) 0 ≡ get_or d (place_of B l k) 0)
    → bytes_at many d' l B pos ≡ bytes_at many d l B pos
read_same zero d d' l B pos h = refl
read_same (suc many) d d' l B pos h =
    ap {B = Bytes} (λ (x : ℕ). x ∷ bytes_at many d' l B (suc pos)) (h pos (omega arith) (omega arith))
    ∙ ap {B = Bytes} (λ (m : Bytes). get_or d (place_of B l pos) 0 ∷ m) (read_same many d d' l B (suc pos) (λ k a b. h k (omega (arith, a)) (omega (arith, b))))

-- where the bytes are the buffer's the read is
pub read_is : (buf d : Bytes) (l : ℕ) (B : List ℕ) (pos : ℕ) → ((i : ℕ) → i < length buf → get_or d (place_of B l (pos + i)) 0 ≡ get_or buf i 0)
    → bytes_at (length buf) d l B pos ≡ buf
read_is [] d l B pos h = refl
read_is (x ∷ buf) d l B pos h =
    ap {B = Bytes} (λ (y : ℕ). y ∷ bytes_at (length buf) d l B (suc pos)) (ap (λ (k : ℕ). get_or d (place_of B l k) 0) (omega arith) ∙ h 0 (omega arith))
    ∙ ap {B = Bytes} (λ (m : Bytes). x ∷ m)
    (read_is buf d l B (suc pos) (λ i k. ap (λ (y : ℕ). get_or d (place_of B l y) 0) (omega arith) ∙ h (suc i) (omega (arith, k))))
