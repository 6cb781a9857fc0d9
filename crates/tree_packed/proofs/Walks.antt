-- What the loops over a packed list hold to: the test of its form, and the search by halves.
use mathlib.Core.Path.{◌≡◌, ap, ◌∙◌}
use mathlib.Core.List.{List, []}
use mathlib.Core.Logic.{⊎_elim, ◌≢◌}
use mathlib.Core.Bool.{Bool, true, false}
use Prim.Native.Nat.{ℕ, zero, suc, ◌+◌, ◌-◌, ◌*◌, ◌/◌, ◌≤◌, ◌<◌}
use native.Mathlib.Omega.{arith}
use lib.Dec.{ltb}
use lib.ListN.{length, get_or, take, drop}
use lib.Seq.{get_or-take, get_or-drop, length-take-le}
use borrow.Author.Tests.{ltb-true, ltb-false}
use Rattle.std.specs.List.Sorted.{IsNonDecreasingBy, IsPartitionPoint}
use Rattle.std.specs.Simd.{first_chunks}
use Rattle.tree_packed.specs.Packed.{inode_at, record_at, Packed, Place}
use Rattle.tree_packed.proofs.Laws.{le_or_lt, at_same, apart}

-- the form ---------------------------------------------------------------------------------------------------------------------------------------------

-- the first i of k records are in order, and `last` is the inode of the last of them
pub record Front (k : ℕ) (l : List ℕ) (i last : ℕ) : Type 0 where
  pub within : i ≤ k
  pub room : 2 * k ≤ length l
  pub packed : Packed i l
  pub none : i ≡ 0 → last ≡ 0
  pub some : 0 < i → last ≡ inode_at l (i - 1)

pub front_step : {k : ℕ} {l : List ℕ} {i last : ℕ} → Front k l i last → i < k → last < inode_at l i → record_at l i ≢ 0 → Front k l (i + 1) (inode_at l i)
front_step {k} {l} {i} {last} F h g n =
    record {
      within = omega arith;
      room = F.room;
      packed =
          record {
            fits = omega (arith, F.room);
            named =
                λ t p.
                ⊎_elim (λ (m : i ≤ t). let e : inode_at l i ≡ inode_at l t = at_same l (omega arith) in omega arith) (λ (m : t < i). F.packed.named t m) (le_or_lt i t);
            rising =
                λ t p.
                ⊎_elim
                (λ (m : i ≤ t + 1).
                let e : inode_at l i ≡ inode_at l (t + 1) = at_same l (omega arith) in
                let q : last ≡ inode_at l (i - 1) = F.some (omega arith) in
                let s : inode_at l (i - 1) ≡ inode_at l t = at_same l (omega arith) in
                omega arith)
                (λ (m : t + 1 < i). F.packed.rising t m)
                (le_or_lt i (t + 1));
            held =
                λ t p.
                ⊎_elim (λ (m : i ≤ t). let e : record_at l i ≡ record_at l t = at_same l (omega arith) in omega arith) (λ (m : t < i). F.packed.held t m) (le_or_lt i t);
          };
      none = λ e. absurd (omega arith);
      some = λ p. at_same l (omega arith);
    }

-- what is not in order
pub front_low : {k : ℕ} {l : List ℕ} {i last : ℕ} → Front k l i last → i < k → inode_at l i ≤ last → Packed k l → ⊥
front_low {k} {l} {i} {last} F h g P =
    ⊎_elim (λ (m : i ≤ 0). let e : last ≡ 0 = F.none (omega arith) in let q : 0 < inode_at l i = P.named i h in omega arith)
    (λ (m : 0 < i).
    let e : last ≡ inode_at l (i - 1) = F.some m in
    let q : inode_at l (i - 1) < inode_at l i = apart P (i - 1) i (omega arith) h in
    omega arith)
    (le_or_lt i 0)

pub front_empty : {k : ℕ} {l : List ℕ} {i : ℕ} → i < k → record_at l i ≡ 0 → Packed k l → ⊥
front_empty {k} {l} {i} h e P = let q : 0 < record_at l i = P.held i h in omega arith

pub short : {k : ℕ} {l : List ℕ} → length l / 2 < k → Packed k l → ⊥
short {k} {l} h P = let q : 2 * k ≤ length l = P.fits in omega arith

-- the pairs that the code reads ------------------------------------------------------------------------------------------------------------------------

pair_at : (n : ℕ) (l : List ℕ) (i j : ℕ) (d : List ℕ) → i < n → j < 2 → get_or (get_or (first_chunks 2 n l) i d) j 0 ≡ get_or l (2 * i + j) 0
pair_at zero l i j d h g = absurd (omega arith)
pair_at (suc n) l zero j d h g = get_or-take 2 l j 0 g ∙ at_same l (omega arith)
pair_at (suc n) l (suc i) j d h g = pair_at n (drop 2 l) i j d (omega arith) g ∙ get_or-drop 2 l (2 * i + j) 0 ∙ at_same l (omega arith)

-- p are the pairs of l, of which the code looks at the first k
module _ (l : List ℕ) {p : List (List ℕ)} (k : ℕ) (e : p ≡ first_chunks 2 (length l / 2) l) (h : k ≤ length l / 2) where
  taken_at : (i j : ℕ) (d : List ℕ) → i < k → j < 2 → get_or (get_or (take k p) i d) j 0 ≡ get_or l (2 * i + j) 0
  taken_at i j d f g =
      ap (λ (z : List ℕ). get_or z j 0) (get_or-take k p i d f ∙ ap (λ (z : List (List ℕ)). get_or z i d) e) ∙ pair_at (length l / 2) l i j d (omega arith) g

  pub pair_inode : (i : ℕ) (d : List ℕ) → i < k → get_or (get_or (take k p) i d) 0 0 ≡ inode_at l i
  pair_inode i d f = taken_at i 0 d f (omega arith) ∙ at_same l (omega arith)

  pub pair_record : (i : ℕ) (d : List ℕ) → i < k → get_or (get_or (take k p) i d) 1 0 ≡ record_at l i
  pair_record i d f = taken_at i 1 d f (omega arith)

-- the form, as the code tells it ----------------------------------------------------------------------------------------------------------------------

abbrev Tells : Type 0 → Bool → Type 0
Tells P r = (r ≡ true → P) × (P → r ≡ true)

pub tells_no : {P : Type 0} → (P → ⊥) → Tells P false
tells_no f = (λ (e : false ≡ true). let z : ◌≡◌ {A = ℕ} 0 1 = cc in absurd (omega arith), λ p. absurd (f p))

-- the place, as the search by halves finds it ------------------------------------------------------------------------------------------------------------

module _ {k : ℕ} {l : List ℕ} (P : Packed k l) (x : ℕ) {p : List (List ℕ)} (e : p ≡ first_chunks 2 (length l / 2) l) (n : length p ≡ length l / 2) where
  fits : k ≤ length l / 2
  fits = omega (arith, P.fits)

  long : length (take k p) ≡ k
  long = length-take-le k p (omega (arith, fits))

  pub inodes_rise : IsNonDecreasingBy (λ (y : List ℕ). get_or y 0 0) (take k p)
  inodes_rise i j d g h =
      rw (pair_inode l k e fits i d (omega (arith, long)), pair_inode l k e fits j d (omega (arith, long)))
      (⊎_elim (λ (m : j ≤ i). let s : inode_at l i ≡ inode_at l j = at_same l (omega arith) in omega arith)
      (λ (m : i < j). let s : inode_at l i < inode_at l j = apart P i j m (omega (arith, long)) in omega arith)
      (le_or_lt j i))

  pub place_found : {j : ℕ} → j ≤ length (take k p)
      → IsPartitionPoint (λ (y : List ℕ). ltb (get_or y 0 0) x ≡ true) (λ (y : List ℕ). ltb (get_or y 0 0) x ≡ false) (take k p) j → Place k l x j
  place_found {j} b S =
      record {
        within = omega (arith, long);
        under = λ i h. let s = pair_inode l k e fits i [] (omega (arith, long)) in let q = ltb-true _ _ (S.0 i [] (omega arith) h) in omega arith;
        over = λ i h g. let s = pair_inode l k e fits i [] g in let q = ltb-false _ _ (S.1 i [] h (omega (arith, long))) in omega arith;
      }
