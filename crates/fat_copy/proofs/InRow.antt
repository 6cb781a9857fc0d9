-- The bytes of a file in a row, within one node of its chain: they lie in a row in the data.
use mathlib.Core.Path.{◌≡◌, refl, sym, ap, ◌∙◌}
use mathlib.Core.List.{List, [], ◌∷◌, ◌++◌, append_assoc}
use Prim.Native.Nat.{ℕ, zero, suc, ◌+◌, ◌*◌, ◌/◌, ◌%◌, ◌≤◌, ◌<◌}
use native.Mathlib.Omega.{arith}
use native.Mathlib.Nat.{mul-add-div_right, mul-add-mod_self_right, div-lt_iff_lt-mul, div-add-mod', add-mul}
use lib.ListN.{length, get_or, set, take, drop, get_or-append}
use lib.Seq.{sets, drop-cons, get_or-append-add}
use Rattle.fat_node.specs.Entry.{Bytes}
use Rattle.fat_node.specs.Node.{Run}
use Rattle.fat_table.specs.Chain.{total}
use Rattle.fat_walk.proofs.Blocks.{length_from, length_blocks}
use Rattle.fat_promises.specs.Blocks.{blocks_from, blocks_of, place_of, bytes_at, written}

-- blocks ------------------------------------------------------------------------------------------------------------------

pub blocks_append : (a b : List Run) → blocks_of (a ++ b) ≡ blocks_of a ++ blocks_of b
blocks_append [] b = refl
blocks_append (r ∷ a) b =
    ap (λ (x : List ℕ). blocks_from r.size r.start ++ x) (blocks_append a b)
    ∙ sym (append_assoc (blocks_from r.size r.start) (blocks_of a) (blocks_of b))

from_at : (s b j : ℕ) → j < s → get_or (blocks_from s b) j 0 ≡ b + j
from_at zero b j h = let z : ⊥ = omega arith in absurd z
from_at (suc s) b zero h = omega arith
from_at (suc s) b (suc j) h = from_at s (suc b) j (omega arith) ∙ omega arith

-- a block of a node, in the list of the chain's blocks
block_at : (P : List Run) (x : Run) (B : List Run) (j : ℕ) → j < x.size → get_or (blocks_of (P ++ x ∷ B)) (total P + j) 0 ≡ x.start + j
block_at P x B j h =
    ap (λ (l : List ℕ). get_or l (total P + j) 0) (blocks_append P (x ∷ B))
    ∙ ap (λ (k : ℕ). get_or (blocks_of P ++ blocks_of (x ∷ B)) (k + j) 0) (sym (length_blocks P))
    ∙ get_or-append-add (blocks_of P) (blocks_of (x ∷ B)) j 0
    ∙ get_or-append (blocks_from x.size x.start) (blocks_of B) 0 j (omega (arith, length_from x.size x.start))
    ∙ from_at x.size x.start j h

-- places ------------------------------------------------------------------------------------------------------------------

-- byte f of a node lies f bytes after the node's start
pub place_at : (P : List Run) (x : Run) (B : List Run) (l f : ℕ) → 0 < l → f < x.size * l → place_of (blocks_of (P ++ x ∷ B)) l (total P * l + f) ≡ x.start * l + f
unfolding place_of
place_at P x B l f pos h =
    let q : (total P * l + f) / l ≡ total P + f / l = mul-add-div_right pos (total P) f in
    let r : (total P * l + f) % l ≡ f % l = mul-add-mod_self_right (total P) l f in
    let b : get_or (blocks_of (P ++ x ∷ B)) (total P + f / l) 0 ≡ x.start + f / l = block_at P x B (f / l) ((div-lt_iff_lt-mul pos).1 h) in
    let e : get_or (blocks_of (P ++ x ∷ B)) ((total P * l + f) / l) 0 * l ≡ (x.start + f / l) * l =
    ap (λ (k : ℕ). get_or (blocks_of (P ++ x ∷ B)) k 0 * l) q ∙ ap (λ (k : ℕ). k * l) b in
    omega (arith, e, r, add-mul x.start (f / l) l, div-add-mod' f l)

-- m bytes from byte p on lie in a row, from place a on
abbrev pub InRow : List ℕ → ℕ → ℕ → ℕ → ℕ → Type 0
InRow blocks l p a m = (j : ℕ) → j < m → place_of blocks l (p + j) ≡ a + j

pub in_row : (P : List Run) (x : Run) (B : List Run) (l f m p : ℕ) → 0 < l → f + m ≤ x.size * l → p ≡ total P * l + f
    → InRow (blocks_of (P ++ x ∷ B)) l p (x.start * l + f) m
in_row P x B l f m p pos h e j k =
    ap (place_of (blocks_of (P ++ x ∷ B)) l) (omega (arith, e))
    ∙ place_at P x B l (f + j) pos (omega (arith, h, k))
    ∙ omega arith

-- a row without its first
row_tail : (blocks : List ℕ) (l p a m : ℕ) → InRow blocks l p a (suc m) → InRow blocks l (suc p) (suc a) m
row_tail blocks l p a m w j h = ap (place_of blocks l) (omega arith) ∙ w (suc j) (omega (arith, h)) ∙ omega arith

row_head : (blocks : List ℕ) (l p a m : ℕ) → InRow blocks l p a (suc m) → place_of blocks l p ≡ a
row_head blocks l p a m w = ap (place_of blocks l) (omega arith) ∙ w 0 (omega arith) ∙ omega arith

-- reads -------------------------------------------------------------------------------------------------------------------

pub length_bytes : (m : ℕ) (d : Bytes) (l : ℕ) (B : List ℕ) (p : ℕ) → length (bytes_at m d l B p) ≡ m
length_bytes zero d l B p = refl
length_bytes (suc m) d l B p = ap suc (length_bytes m d l B (suc p))

pub bytes_split : (m k : ℕ) (d : Bytes) (l : ℕ) (B : List ℕ) (p : ℕ) → bytes_at (m + k) d l B p ≡ bytes_at m d l B p ++ bytes_at k d l B (p + m)
bytes_split zero k d l B p =
    let e : 0 + k ≡ k = omega arith in
    let q : p ≡ p + 0 = omega arith in
    ap (λ (j : ℕ). bytes_at j d l B p) e ∙ ap (bytes_at k d l B) q
bytes_split (suc m) k d l B p =
    let e : suc m + k ≡ suc (m + k) = omega arith in
    ap (λ (j : ℕ). bytes_at j d l B p) e
    ∙ ap {B = Bytes} (λ (x : Bytes). get_or d (place_of B l p) 0 ∷ x)
    (bytes_split m k d l B (suc p) ∙ ap (λ (j : ℕ). bytes_at m d l B (suc p) ++ bytes_at k d l B j) (omega arith))

-- bytes in a row are a part of the data
pub bytes_row : (m : ℕ) (d : Bytes) (l : ℕ) (B : List ℕ) (p a : ℕ) → InRow B l p a m → a + m ≤ length d → bytes_at m d l B p ≡ take m (drop a d)
bytes_row zero d l B p a w h = refl
bytes_row (suc m) d l B p a w h =
    ap {B = Bytes} (λ (x : ℕ). get_or d x 0 ∷ bytes_at m d l B (suc p)) (row_head B l p a m w)
    ∙ ap {B = Bytes} (λ (x : Bytes). get_or d a 0 ∷ x) (bytes_row m d l B (suc p) (suc a) (row_tail B l p a m w) (omega (arith, h)))
    ∙ ap (take (suc m)) (sym (drop-cons d a 0 (omega (arith, h))))

-- writes ------------------------------------------------------------------------------------------------------------------

pub written_append : (x y d : Bytes) (l : ℕ) (B : List ℕ) (p : ℕ) → written (x ++ y) d l B p ≡ written y (written x d l B p) l B (p + length x)
written_append [] y d l B p = ap (written y d l B) (omega arith)
written_append (a ∷ x) y d l B p =
    written_append x y (set d (place_of B l p) a) l B (suc p)
    ∙ ap (written y (written x (set d (place_of B l p) a) l B (suc p)) l B) (omega arith)

-- bytes in a row are written into a part of the data
pub written_row : (x d : Bytes) (l : ℕ) (B : List ℕ) (p a : ℕ) → InRow B l p a (length x) → written x d l B p ≡ sets d a x
written_row [] d l B p a w = refl
written_row (y ∷ x) d l B p a w =
    ap (λ (k : ℕ). written x (set d k y) l B (suc p)) (row_head B l p a (length x) w)
    ∙ written_row x (set d a y) l B (suc p) (suc a) (row_tail B l p a (length x) w)
