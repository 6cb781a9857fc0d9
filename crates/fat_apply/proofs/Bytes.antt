-- Bytes put over a row of bytes, and the bytes of a file block by block. No table here.
use mathlib.Core.Path.{◌≡◌, refl, sym, ap, ◌∙◌}
use mathlib.Core.List.{List, [], ◌∷◌, ◌++◌}
use mathlib.Core.Logic.{◌⊎◌, inl, inr, ⊎_elim}
use Prim.Native.Nat.{ℕ, zero, suc, ◌+◌, ◌*◌, ◌/◌, ◌%◌, ◌≤◌, ◌<◌}
use native.Mathlib.Omega.{arith}
use native.Mathlib.Nat.{mul-add-div_right, mul-add-mod_self_right, div-eq_of_lt, mod-eq_of_lt}
use lib.ListN.{length, get_or, set, take, drop, length-set, length-drop}
use lib.Seq.{sets, get_or-set_same, get_or-set_other, get_or-take, get_or-drop, ext_get_or, length-take-le}
use Rattle.fat_node.specs.Entry.{Bytes}
use Rattle.fat_promises.specs.Blocks.{place_of, bytes_at}
use Rattle.fat_copy.proofs.InRow.{InRow}

-- a byte outside the row stays
pub sets_other : (vs l : Bytes) (i j : ℕ) → (j < i) ⊎ (i + length vs ≤ j) → get_or (sets l i vs) j 0 ≡ get_or l j 0
sets_other [] l i j h = refl
sets_other (v ∷ vs) l i j h =
    sets_other vs (set l i v) (suc i) j (⊎_elim (λ p. inl (omega (arith, p))) (λ p. inr (omega (arith, p))) h)
    ∙ get_or-set_other l i j v 0 (λ e. ⊎_elim (λ p. omega (arith, p, e)) (λ p. omega (arith, p, e)) h)

-- a byte of the row is the one put there
pub sets_in : (vs l : Bytes) (i j : ℕ) → j < length vs → i + length vs ≤ length l → get_or (sets l i vs) (i + j) 0 ≡ get_or vs j 0
sets_in [] l i j h k = let z : ⊥ = omega (arith, h) in absurd z
sets_in (v ∷ vs) l i zero h k =
    sets_other vs (set l i v) (suc i) (i + 0) (inl (omega arith))
    ∙ ap (λ (y : ℕ). get_or (set l i v) y 0) (omega arith)
    ∙ get_or-set_same l i v 0 (omega (arith, k))
sets_in (v ∷ vs) l i (suc j) h k =
    ap (λ (y : ℕ). get_or (sets (set l i v) (suc i) vs) y 0) (omega arith)
    ∙ sets_in vs (set l i v) (suc i) j (omega (arith, h)) (omega (arith, k, length-set l i v))

-- a row in which two lists agree
pub part_same : (d d' : Bytes) (a k : ℕ) → a + k ≤ length d → length d' ≡ length d → ((j : ℕ) → a ≤ j → j < a + k → get_or d' j 0 ≡ get_or d j 0)
    → take k (drop a d') ≡ take k (drop a d)
part_same d d' a k h e g =
    let p : length (take k (drop a d')) ≡ k = length-take-le k (drop a d') (omega (arith, length-drop a d', h, e)) in
    let q : length (take k (drop a d)) ≡ k = length-take-le k (drop a d) (omega (arith, length-drop a d, h)) in
    ext_get_or 0 (take k (drop a d')) (take k (drop a d)) (p ∙ sym q)
    (λ i b.
    let c : i < k = omega (arith, b, p) in
    get_or-take k (drop a d') i 0 c
    ∙ get_or-drop a d' i 0
    ∙ g (a + i) (omega arith) (omega (arith, c))
    ∙ sym (get_or-drop a d i 0)
    ∙ sym (get_or-take k (drop a d) i 0 c))

-- the bytes of block i of a file lie in a row
pub block_row : (B : List ℕ) (l i : ℕ) → 0 < l → InRow B l (i * l) (get_or B i 0 * l) l
unfolding place_of
block_row B l i pos j h =
    let a : (i * l + j) / l ≡ i = mul-add-div_right pos i j ∙ ap (λ (x : ℕ). i + x) (div-eq_of_lt h) ∙ omega arith in
    let b : (i * l + j) % l ≡ j = mul-add-mod_self_right i l j ∙ mod-eq_of_lt h in
    ap (λ (x : ℕ). get_or B x 0 * l + (i * l + j) % l) a ∙ ap (λ (x : ℕ). get_or B i 0 * l + x) b

-- byte j of the bytes of a file
pub bytes_at_lem : (many : ℕ) (d : Bytes) (l : ℕ) (B : List ℕ) (p j : ℕ) → j < many → get_or (bytes_at many d l B p) j 0 ≡ get_or d (place_of B l (p + j)) 0
bytes_at_lem zero d l B p j h = let z : ⊥ = omega (arith, h) in absurd z
bytes_at_lem (suc many) d l B p zero h = ap (λ (x : ℕ). get_or d (place_of B l x) 0) (omega arith)
bytes_at_lem (suc many) d l B p (suc j) h = bytes_at_lem many d l B (suc p) j (omega (arith, h)) ∙ ap (λ (x : ℕ). get_or d (place_of B l x) 0) (omega arith)

-- where the bytes of two files are the same the reads are
pub read_moved : (many : ℕ) (d d' : Bytes) (l : ℕ) (B B' : List ℕ) (pos : ℕ)
    → ((k : ℕ) → pos ≤ k → k < pos + many → get_or d' (place_of B' l k) 0 ≡ get_or d (place_of B l k) 0)
    → bytes_at many d' l B' pos ≡ bytes_at many d l B pos
read_moved zero d d' l B B' pos h = refl
read_moved (suc many) d d' l B B' pos h =
    ap {B = Bytes} (λ (x : ℕ). x ∷ bytes_at many d' l B' (suc pos)) (h pos (omega arith) (omega arith))
    ∙ ap {B = Bytes} (λ (m : Bytes). get_or d (place_of B l pos) 0 ∷ m)
    (read_moved many d d' l B B' (suc pos) (λ k a b. h k (omega (arith, a)) (omega (arith, b))))
