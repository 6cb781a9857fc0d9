-- The laws of a packed list: rising from any record to any later one, the record of an inode, the place of an inode.
use mathlib.Core.Path.{◌≡◌, refl, ap, ◌∙◌}
use mathlib.Core.List.{List}
use mathlib.Core.Logic.{◌⊎◌, inl, inr, ⊎_elim, ◌≢◌}
use mathlib.Core.Bool.{Bool, true, false}
use Prim.Native.Nat.{ℕ, zero, suc, ◌+◌, ◌*◌, ◌≤◌, ◌<◌}
use native.Mathlib.Omega.{arith}
use lib.Dec.{eqb, leb}
use lib.ListN.{length, get_or}
use borrow.Author.Tests.{eqb-true, eqb-false, leb-true, leb-false, ne_eqb, eq-eqb, lt-ltb, le-ltb}
use Rattle.tree_packed.specs.Packed.{inode_at, record_at, Packed, Place, rec, below}

pub le_or_lt : (a b : ℕ) → (a ≤ b) ⊎ (b < a)
le_or_lt a b = go (leb a b) refl
  where
    go : (t : Bool) → leb a b ≡ t → (a ≤ b) ⊎ (b < a)
    go true e = inl (leb-true a b e)
    go false e = inr (leb-false a b e)

pub same_or_not : (a b : ℕ) → (a ≡ b) ⊎ (a ≢ b)
same_or_not a b = go (eqb a b) refl
  where
    go : (t : Bool) → eqb a b ≡ t → (a ≡ b) ⊎ (a ≢ b)
    go true e = inl (eqb-true a b e)
    go false e = inr (eqb-false a b e)

-- what stands at two places that are one
pub at_same : (l : List ℕ) {a b : ℕ} → a ≡ b → get_or l a 0 ≡ get_or l b 0
at_same l e = ap (λ z. get_or l z 0) e

-- fewer records
pub shorter : {k : ℕ} {l : List ℕ} → Packed (suc k) l → Packed k l
shorter {k} {l} P =
    record {
      fits = let h : 2 * suc k ≤ length l = P.fits in omega arith;
      named = λ i h. P.named i (omega arith);
      rising = λ i h. P.rising i (omega arith);
      held = λ i h. P.held i (omega arith);
    }

-- rising, from any record to any later one
pub apart : {k : ℕ} {l : List ℕ} → Packed k l → (i j : ℕ) → i < j → j < k → inode_at l i < inode_at l j
apart {k} {l} P i zero h g = absurd (omega arith)
apart {k} {l} P i (suc j) h g =
    let f : inode_at l j < inode_at l (j + 1) = P.rising j (omega arith) in
    let e : inode_at l (j + 1) ≡ inode_at l (suc j) = at_same l (omega arith) in
    ⊎_elim (λ (m : j ≤ i). let q : inode_at l j ≡ inode_at l i = at_same l (omega arith) in omega arith)
    (λ (m : i < j). let q : inode_at l i < inode_at l j = apart P i j m (omega arith) in omega arith)
    (le_or_lt j i)

-- the record of an inode that is listed
pub rec_at : (k : ℕ) (l : List ℕ) (x i : ℕ) → Packed k l → i < k → inode_at l i ≡ x → rec k l x ≡ record_at l i
unfolding rec
rec_at zero l x i P h e = absurd (omega arith)
rec_at (suc k) l x i P h e =
    ⊎_elim
    (λ (m : k ≤ i).
    let q : i ≡ k = omega arith in
    rw (eq-eqb (inode_at l k) x (at_same l (omega arith) ∙ e)) (at_same l (omega arith)))
    (λ (m : i < k).
    let q : inode_at l i < inode_at l k = apart P i k m (omega arith) in
    rw (ne_eqb (inode_at l k) x (λ z. omega arith)) (rec_at k l x i (shorter P) m e))
    (le_or_lt k i)

-- and of one that is not
pub rec_none : (k : ℕ) (l : List ℕ) (x : ℕ) → ((i : ℕ) → i < k → inode_at l i ≢ x) → rec k l x ≡ 0
unfolding rec
rec_none zero l x f = refl
rec_none (suc k) l x f = rw (ne_eqb (inode_at l k) x (f k (omega arith))) (rec_none k l x (λ i h. f i (omega arith)))

-- an inode's place is what `below` counts
pub place_below : (k : ℕ) (l : List ℕ) (x j : ℕ) → Place k l x j → below k l x ≡ j
unfolding below
place_below zero l x j P = let h : j ≤ 0 = P.within in omega arith
place_below (suc k) l x j P =
    let w : j ≤ suc k = P.within in
    ⊎_elim
    (λ (m : j ≤ k).
    let e : below k l x ≡ j = place_below k l x j (record { within = m; under = P.under; over = λ i a b. P.over i a (omega arith) }) in
    rw (le-ltb (inode_at l k) x (P.over k m (omega arith))) (omega arith))
    (λ (m : k < j).
    let e : below k l x ≡ k =
    place_below k l x k
    (record { within = omega arith; under = λ i a. P.under i (omega arith); over = λ i a b. absurd (omega arith) }) in
    rw (lt-ltb (inode_at l k) x (P.under k m)) (omega arith))
    (le_or_lt j k)

module _ {k : ℕ} {l : List ℕ} (P : Packed k l) {x j : ℕ} (S : Place k l x j) where
  -- the inode at its place is x: its record
  pub found : j < k → inode_at l j ≡ x → rec k l x ≡ record_at l j
  found h e = rec_at k l x j P h e

  pub found_some : j < k → inode_at l j ≡ x → 0 < rec k l x
  found_some h e = let q : 0 < record_at l j = P.held j h in omega (arith, found h e)

  -- another stands there, or none: x is not listed
  pub missing : (j < k → inode_at l j ≢ x) → (i : ℕ) → i < k → inode_at l i ≢ x
  missing f i h e =
      ⊎_elim
      (λ (m : j ≤ i).
      let g : inode_at l j ≢ x = f (omega arith) in
      let v : x ≤ inode_at l j = S.over j (omega arith) (omega arith) in
      ⊎_elim (λ (q : i ≤ j). g (at_same l (omega arith) ∙ e))
      (λ (q : j < i). let u : inode_at l j < inode_at l i = apart P j i q h in g (omega arith))
      (le_or_lt i j))
      (λ (m : i < j). let u : inode_at l i < x = S.under i m in omega arith)
      (le_or_lt j i)

  pub not_found : (j < k → inode_at l j ≢ x) → rec k l x ≡ 0
  not_found f = rec_none k l x (missing f)

  -- so a record that is 0 says that x is not listed, and one that is not that it is at its place
  pub listed : 0 < rec k l x → (j < k) × (inode_at l j ≡ x)
  listed h =
      ⊎_elim (λ (m : k ≤ j). let z : rec k l x ≡ 0 = not_found (λ a. absurd (omega arith)) in absurd (omega arith))
      (λ (m : j < k).
      ⊎_elim (λ (e : inode_at l j ≡ x). (m, e)) (λ (n : inode_at l j ≢ x). let z : rec k l x ≡ 0 = not_found (λ a. n) in absurd (omega arith)) (same_or_not (inode_at l j) x))
      (le_or_lt k j)

  pub unlisted : rec k l x ≡ 0 → j < k → x < inode_at l j
  unlisted e h =
      let v : x ≤ inode_at l j = S.over j (omega arith) h in
      ⊎_elim (λ (q : inode_at l j ≡ x). let z : 0 < rec k l x = found_some h q in absurd (omega arith)) (λ (n : inode_at l j ≢ x). omega arith) (same_or_not (inode_at l j) x)
