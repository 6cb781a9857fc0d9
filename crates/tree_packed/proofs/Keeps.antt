-- What a put keeps: the list's form, its length, the places past the records, and every other inode's record.
use mathlib.Core.Path.{◌≡◌, refl, sym, ap, ◌∙◌, subst}
use mathlib.Core.List.{List}
use mathlib.Core.Logic.{⊎_elim, ◌≢◌}
use Prim.Native.Nat.{ℕ, zero, suc, ◌+◌, ◌-◌, ◌*◌, ◌≤◌, ◌<◌}
use native.Mathlib.Omega.{arith}
use lib.ListN.{length, get_or, set, length-set}
use lib.Seq.{get_or-set_same, get_or-set_other}
use borrow.Author.Tests.{eq-eqb, ne_eqb}
use Rattle.links.specs.Change.{upd}
use Rattle.tree_packed.specs.Packed.{inode_at, record_at, Packed, Place, rec, below}
use Rattle.tree_packed.proofs.Laws.{le_or_lt, same_or_not, at_same, shorter, apart, rec_at, rec_none, place_below, unlisted}
use Rattle.tree_packed.proofs.Moves.{Down, Risen}

-- k records of l, the record r of x put, m records of l'
pub record Keeps (k : ℕ) (l : List ℕ) (x r m : ℕ) (l' : List ℕ) : Type 0 where
  pub packed : Packed m l'
  pub records : (y : ℕ) → rec m l' y ≡ upd (rec k l) x r y
  pub size : length l' ≡ length l
  pub past : (i : ℕ) → 2 * m ≤ i → get_or l' i 0 ≡ get_or l i 0

-- the place that `below` counts is the place
pub below_place : (k : ℕ) (l : List ℕ) (x : ℕ) → Packed k l → Place k l x (below k l x)
unfolding below
below_place zero l x P = record { within = omega arith; under = λ i h. absurd (omega arith); over = λ i h g. absurd (omega arith) }
below_place (suc k) l x P =
    let B : Place k l x (below k l x) = below_place k l x (shorter P) in
    ⊎_elim
    (λ (m : x ≤ inode_at l k).
    let S : Place (suc k) l x (below k l x) =
    record {
      within = omega (arith, B.within);
      under = B.under;
      over =
          λ i h g.
          ⊎_elim (λ (n : k ≤ i). let e : inode_at l i ≡ inode_at l k = at_same l (omega arith) in omega arith) (λ (n : i < k). B.over i h n) (le_or_lt k i);
    } in
    subst (λ (z : ℕ). Place (suc k) l x z) (sym (place_below (suc k) l x (below k l x) S)) S)
    (λ (m : inode_at l k < x).
    let S : Place (suc k) l x (suc k) =
    record {
      within = omega arith;
      under =
          λ i h.
          ⊎_elim (λ (n : k ≤ i). let e : inode_at l i ≡ inode_at l k = at_same l (omega arith) in omega arith)
          (λ (n : i < k). let e : inode_at l i < inode_at l k = apart P i k n (omega arith) in omega arith)
          (le_or_lt k i);
      over = λ i h g. absurd (omega arith);
    } in
    subst (λ (z : ℕ). Place (suc k) l x z) (sym (place_below (suc k) l x (suc k) S)) S)
    (le_or_lt x (inode_at l k))

-- records of other inodes ------------------------------------------------------------------------------------------------------------------------------

rec_skip : (m : ℕ) (l : List ℕ) (y : ℕ) → inode_at l m ≢ y → rec (suc m) l y ≡ rec m l y
unfolding rec
rec_skip m l y n = rw (ne_eqb (inode_at l m) y n)

rec_next : (m n : ℕ) (a b : List ℕ) (y : ℕ) → inode_at a m ≡ inode_at b n → record_at a m ≡ record_at b n → rec m a y ≡ rec n b y → rec (suc m) a y ≡ rec (suc n) b y
unfolding rec
rec_next m n a b y e f g = rw (e, f, g)

-- lists that agree in their first m records
rec_low : (m : ℕ) (a b : List ℕ) (y : ℕ) → ((i : ℕ) → i < m → (inode_at a i ≡ inode_at b i) × (record_at a i ≡ record_at b i)) → rec m a y ≡ rec m b y
unfolding rec
rec_low zero a b y f = refl
rec_low (suc m) a b y f = rec_next m m a b y (f m (omega arith)).0 (f m (omega arith)).1 (rec_low m a b y (λ i h. f i (omega arith)))

-- lists that agree from record j on, the one a record later
rec_shift : (a b : List ℕ) (y j k : ℕ) → rec (suc j) a y ≡ rec j b y
    → ((i : ℕ) → j ≤ i → i < k → (inode_at a (i + 1) ≡ inode_at b i) × (record_at a (i + 1) ≡ record_at b i))
    → (m : ℕ) → j ≤ m → m ≤ k → rec (suc m) a y ≡ rec m b y
rec_shift a b y j k base f zero h g = subst (λ (z : ℕ). rec (suc z) a y ≡ rec z b y) (omega arith) base
rec_shift a b y j k base f (suc m) h g =
    ⊎_elim
    (λ (n : j ≤ m).
    rec_next (suc m) m a b y (at_same a (omega arith) ∙ (f m n (omega arith)).0) (at_same a (omega arith) ∙ (f m n (omega arith)).1)
    (rec_shift a b y j k base f m n (omega arith)))
    (λ (n : m < j). subst (λ (z : ℕ). rec (suc z) a y ≡ rec z b y) (omega arith) base)
    (le_or_lt j m)

-- a record replaced ------------------------------------------------------------------------------------------------------------------------------------

rec_set : (k : ℕ) (l : List ℕ) (j r y : ℕ) → inode_at l j ≢ y → rec k (set l (2 * j + 1) r) y ≡ rec k l y
unfolding rec
rec_set zero l j r y n = refl
rec_set (suc k) l j r y n =
    let e : inode_at (set l (2 * j + 1) r) k ≡ inode_at l k = get_or-set_other l (2 * j + 1) (2 * k) r 0 (λ z. omega arith) in
    ⊎_elim
    (λ (q : k ≡ j).
    rec_skip k (set l (2 * j + 1) r) y (λ z. n (at_same l (omega arith) ∙ sym e ∙ z)) ∙ rec_set k l j r y n ∙ sym (rec_skip k l y (λ z. n (at_same l (omega arith) ∙ z))))
    (λ (q : k ≢ j). rec_next k k (set l (2 * j + 1) r) l y e (get_or-set_other l (2 * j + 1) (2 * k + 1) r 0 (λ z. q (omega arith))) (rec_set k l j r y n))
    (same_or_not k j)

-- the record of x is r, and the others' are as before
told : (k m : ℕ) (l l' : List ℕ) (x r : ℕ) → rec m l' x ≡ r → ((y : ℕ) → y ≢ x → rec m l' y ≡ rec k l y) → (y : ℕ) → rec m l' y ≡ upd (rec k l) x r y
told k m l l' x r e f y =
    ⊎_elim (λ (q : y ≡ x). rw (eq-eqb y x q) (ap (rec m l') q ∙ e)) (λ (q : y ≢ x). rw (ne_eqb y x q) (f y q)) (same_or_not y x)

pub keeps_over : {k : ℕ} {l : List ℕ} {j x r : ℕ} → Packed k l → j < k → inode_at l j ≡ x → 0 < r → Keeps k l x r k (set l (2 * j + 1) r)
keeps_over {k} {l} {j} {x} {r} P h e p =
    record {
      packed = packed;
      records = told k k l (set l (2 * j + 1) r) x r (rec_at k (set l (2 * j + 1) r) x j packed h (inodes j ∙ e) ∙ here) (λ y n. rec_set k l j r y (λ z. n (sym z ∙ e)));
      size = length-set l (2 * j + 1) r;
      past = λ i g. get_or-set_other l (2 * j + 1) i r 0 (λ z. omega arith);
    }
  where
    inodes : (i : ℕ) → inode_at (set l (2 * j + 1) r) i ≡ inode_at l i
    inodes i = get_or-set_other l (2 * j + 1) (2 * i) r 0 (λ z. omega arith)

    here : record_at (set l (2 * j + 1) r) j ≡ r
    here = get_or-set_same l (2 * j + 1) r 0 (omega (arith, P.fits))

    packed : Packed k (set l (2 * j + 1) r)
    packed =
        record {
          fits = omega (arith, P.fits, length-set l (2 * j + 1) r);
          named = λ i g. omega (arith, P.named i g, inodes i);
          rising = λ i g. omega (arith, P.rising i g, inodes i, inodes (i + 1));
          held =
              λ i g.
              ⊎_elim (λ (q : i ≡ j). let z : record_at (set l (2 * j + 1) r) i ≡ record_at (set l (2 * j + 1) r) j = at_same (set l (2 * j + 1) r) (omega arith) in omega (arith, here))
              (λ (q : i ≢ j). let z : record_at (set l (2 * j + 1) r) i ≡ record_at l i = get_or-set_other l (2 * j + 1) (2 * i + 1) r 0 (λ z. q (omega arith)) in omega (arith, P.held i g))
              (same_or_not i j);
        }

-- a record taken out -----------------------------------------------------------------------------------------------------------------------------------

module _ {k : ℕ} {l l' : List ℕ} {j x : ℕ} (P : Packed k l) (h : j < k) (e : inode_at l j ≡ x) (D : Down (2 * j) (2 * k) l l') where
  out_low : (i : ℕ) → i < j → (inode_at l' i ≡ inode_at l i) × (record_at l' i ≡ record_at l i)
  out_low i g = (D.front (2 * i) (omega arith), D.front (2 * i + 1) (omega arith))

  out_high : (i : ℕ) → j ≤ i → i < k - 1 → (inode_at l (i + 1) ≡ inode_at l' i) × (record_at l (i + 1) ≡ record_at l' i)
  out_high i g f =
      (at_same l (omega arith) ∙ sym (D.moved (2 * i) (omega arith) (omega arith)), at_same l (omega arith) ∙ sym (D.moved (2 * i + 1) (omega arith) (omega arith)))

  out_packed : Packed (k - 1) l'
  out_packed =
      record {
        fits = omega (arith, P.fits, D.size);
        named =
            λ i g.
            ⊎_elim (λ (q : j ≤ i). omega (arith, (out_high i q g).0, P.named (i + 1) (omega arith))) (λ (q : i < j). omega (arith, (out_low i q).0, P.named i (omega arith)))
            (le_or_lt j i);
        rising =
            λ i g.
            ⊎_elim (λ (q : j ≤ i). omega (arith, (out_high i q (omega arith)).0, (out_high (i + 1) (omega arith) (omega arith)).0, P.rising (i + 1) (omega arith)))
            (λ (q : i < j).
            ⊎_elim
            (λ (s : j ≤ i + 1). omega (arith, (out_low i q).0, (out_high (i + 1) s (omega arith)).0, P.rising i (omega arith), P.rising (i + 1) (omega arith)))
            (λ (s : i + 1 < j). omega (arith, (out_low i q).0, (out_low (i + 1) s).0, P.rising i (omega arith)))
            (le_or_lt j (i + 1)))
            (le_or_lt j i);
        held =
            λ i g.
            ⊎_elim (λ (q : j ≤ i). omega (arith, (out_high i q g).1, P.held (i + 1) (omega arith))) (λ (q : i < j). omega (arith, (out_low i q).1, P.held i (omega arith)))
            (le_or_lt j i);
      }

  -- x is no longer listed
  out_gone : (i : ℕ) → i < k - 1 → inode_at l' i ≢ x
  out_gone i g z =
      ⊎_elim (λ (q : j ≤ i). let u : inode_at l j < inode_at l (i + 1) = apart P j (i + 1) (omega arith) (omega arith) in omega (arith, (out_high i q g).0))
      (λ (q : i < j). let u : inode_at l i < inode_at l j = apart P i j q h in omega (arith, (out_low i q).0))
      (le_or_lt j i)

  out_others : (y : ℕ) → y ≢ x → rec (k - 1) l' y ≡ rec k l y
  out_others y n =
      let base : rec (suc j) l y ≡ rec j l' y = rec_skip j l y (λ z. n (sym z ∙ e)) ∙ sym (rec_low j l' l y out_low) in
      sym (rec_shift l l' y j (k - 1) base out_high (k - 1) (omega arith) (omega arith)) ∙ ap (λ (z : ℕ). rec z l y) (omega arith)

  pub keeps_out : Keeps k l x 0 (k - 1) l'
  keeps_out =
      record {
        packed = out_packed;
        records = told k (k - 1) l l' x 0 (rec_none (k - 1) l' x out_gone) out_others;
        size = D.size;
        past = λ i g. D.past i (omega arith) (omega arith);
      }

-- a record put in --------------------------------------------------------------------------------------------------------------------------------------

module _ {k : ℕ} {l l' : List ℕ} {j x r : ℕ} (P : Packed k l) (S : Place k l x j) (n : rec k l x ≡ 0) (some : 0 < x) (held : 0 < r)
    (room : 2 * (k + 1) ≤ length l) (R : Risen (2 * j) (2 * k) x r l l') where
  in_low : (i : ℕ) → i < j → (inode_at l' i ≡ inode_at l i) × (record_at l' i ≡ record_at l i)
  in_low i g = (R.front (2 * i) (omega arith), R.front (2 * i + 1) (omega arith))

  in_high : (i : ℕ) → j ≤ i → i < k → (inode_at l' (i + 1) ≡ inode_at l i) × (record_at l' (i + 1) ≡ record_at l i)
  in_high i g f =
      (at_same l' (omega arith) ∙ R.moved (2 * i) (omega arith) (omega arith), at_same l' (omega arith) ∙ R.moved (2 * i + 1) (omega arith) (omega arith))

  -- the record at i, where it is not the new one, is the one at i or before it
  in_back : (i : ℕ) → j < i → i < k + 1 → (inode_at l' i ≡ inode_at l (i - 1)) × (record_at l' i ≡ record_at l (i - 1))
  in_back i g f =
      (at_same l' (omega arith) ∙ (in_high (i - 1) (omega arith) (omega arith)).0, at_same l' (omega arith) ∙ (in_high (i - 1) (omega arith) (omega arith)).1)

  in_at : (i : ℕ) → i ≡ j → (inode_at l' i ≡ x) × (record_at l' i ≡ r)
  in_at i q = (at_same l' (omega arith) ∙ R.first, at_same l' (omega arith) ∙ R.second)

  in_rising : (i : ℕ) → i + 1 < k + 1 → inode_at l' i < inode_at l' (i + 1)
  in_rising i g =
      ⊎_elim
      (λ (q : j ≤ i).
      ⊎_elim
      (λ (s : i ≤ j).
      let u : x < inode_at l j = unlisted P S n (omega arith) in
      let v : inode_at l i ≡ inode_at l j = at_same l (omega arith) in
      omega (arith, (in_at i (omega arith)).0, (in_high i q (omega arith)).0))
      (λ (s : j < i).
      let v : inode_at l (i - 1 + 1) ≡ inode_at l i = at_same l (omega arith) in
      omega (arith, (in_back i s (omega arith)).0, (in_high i q (omega arith)).0, P.rising (i - 1) (omega arith)))
      (le_or_lt i j))
      (λ (q : i < j).
      ⊎_elim (λ (s : j ≤ i + 1). omega (arith, (in_low i q).0, (in_at (i + 1) (omega arith)).0, S.under i q))
      (λ (s : i + 1 < j). omega (arith, (in_low i q).0, (in_low (i + 1) s).0, P.rising i (omega (arith, S.within))))
      (le_or_lt j (i + 1)))
      (le_or_lt j i)

  in_packed : Packed (k + 1) l'
  in_packed =
      record {
        fits = omega (arith, R.size);
        named =
            λ i g.
            ⊎_elim
            (λ (q : j ≤ i).
            ⊎_elim (λ (s : i ≤ j). omega (arith, (in_at i (omega arith)).0)) (λ (s : j < i). omega (arith, (in_back i s g).0, P.named (i - 1) (omega arith))) (le_or_lt i j))
            (λ (q : i < j). omega (arith, (in_low i q).0, P.named i (omega (arith, S.within))))
            (le_or_lt j i);
        rising = in_rising;
        held =
            λ i g.
            ⊎_elim
            (λ (q : j ≤ i).
            ⊎_elim (λ (s : i ≤ j). omega (arith, (in_at i (omega arith)).1)) (λ (s : j < i). omega (arith, (in_back i s g).1, P.held (i - 1) (omega arith))) (le_or_lt i j))
            (λ (q : i < j). omega (arith, (in_low i q).1, P.held i (omega (arith, S.within))))
            (le_or_lt j i);
      }

  in_others : (y : ℕ) → y ≢ x → rec (k + 1) l' y ≡ rec k l y
  in_others y m =
      let base : rec (suc j) l' y ≡ rec j l y = rec_skip j l' y (λ z. m (sym z ∙ (in_at j refl).0)) ∙ rec_low j l' l y in_low in
      ap (λ (z : ℕ). rec z l' y) (omega arith) ∙ rec_shift l' l y j k base in_high k S.within (omega arith)

  pub keeps_in : Keeps k l x r (k + 1) l'
  keeps_in =
      record {
        packed = in_packed;
        records = told k (k + 1) l l' x r (rec_at (k + 1) l' x j in_packed (omega (arith, S.within)) (in_at j refl).0 ∙ (in_at j refl).1) in_others;
        size = R.size;
        past = λ i g. let w : j ≤ k = S.within in at_same l' (omega arith) ∙ R.past (i - 2) (omega arith) (omega arith) ∙ at_same l (omega arith);
      }
