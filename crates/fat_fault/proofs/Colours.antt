-- The colouring: the invariants of its loops, and that at its end exactly the nodes of rings have the ring's mark.
use mathlib.Core.Path.{◌≡◌, refl, sym, ap, subst, ◌∙◌}
use mathlib.Core.List.{List, [], ◌∷◌}
use mathlib.Core.Bool.{Bool, true, false, not}
use mathlib.Core.Logic.{◌⊎◌, inl, inr, ⊎_elim}
use Prim.Native.Nat.{ℕ, zero, suc, ◌+◌, ◌<◌, ◌≤◌}
use native.Mathlib.Nat.{eq-or-lt_of_le}
use native.Mathlib.Omega.{arith}
use lib.Dec.{eqb}
use lib.ListN.{length, get_or, set, length-set}
use lib.Seq.{get_or-set_same}
use borrow.Author.Tests.{eq-eqb, ne_eqb}
use Rattle.std.specs.Prelude.{Option, Some, None}
use Rattle.fat_node.specs.Entry.{Bytes}
use Rattle.fat_fault.specs.Fault.{is_node, hop}
use Rattle.fat_fault.specs.Inner.Ring.{Way, Ring}
use Rattle.fat_fault.specs.Inner.Ring.Way.{here}
use Rattle.fat_fault.specs.Inner.Marks.{round, Hops, Marked, Fresh, Coloured, Closed, Rounded, Came}
use Rattle.fat_node.proofs.Cases.{untrue}
use Rattle.fat_fault.proofs.Standing.{node_below}
use Rattle.fat_fault.proofs.Ways.{way_on, way_ring, ring_next, ring_way, ring_back, way_in, hop_named, hop_most, ring_is_node}
use Rattle.fat_fault.proofs.Passes.{set_cases}

-- ---- measures: how many places pass a test

unfoldable pub one : Bool → ℕ
one true = 1
one false = 0

unfoldable pub count : (ℕ → Bool) → List ℕ → ℕ
count p [] = 0
count p (x ∷ l) = one (p x) + count p l

count_set : (p : ℕ → Bool) (l : List ℕ) (i v : ℕ) → i < length l → p (get_or l i 0) ≡ true → p v ≡ false → count p (set l i v) < count p l
unfolding count one
count_set p [] i v h e f = absurd (omega arith)
count_set p (x ∷ l) zero v h e f = omega (arith, ap one e, ap one f)
count_set p (x ∷ l) (suc i) v h e f = omega (arith, count_set p l i v (omega arith) e f)

-- the places without the ring's mark, and those that were not come to
abbrev pub unrounded : List ℕ → ℕ
unrounded w = count (λ x. not (eqb x round)) w

abbrev pub unseen : List ℕ → ℕ
unseen w = count (λ x. eqb x 1) w

pub round_less : (w : List ℕ) (i : ℕ) → i < length w → (get_or w i 0 ≡ round → ⊥) → unrounded (set w i round) < unrounded w
round_less w i h e = count_set (λ x. not (eqb x round)) w i round h (ap not (ne_eqb (get_or w i 0) round e)) (ap not (eq-eqb round round refl))

pub seen_less : (w : List ℕ) (i v : ℕ) → i < length w → get_or w i 0 ≡ 1 → 1 < v → unseen (set w i v) < unseen w
seen_less w i v h e l = count_set (λ x. eqb x 1) w i v h (eq-eqb (get_or w i 0) 1 e) (ne_eqb v 1 (λ q. omega (arith, l, q)))

-- a node's place set keeps the marks
marked_set : (n : ℕ) (t : Bytes) (w : List ℕ) (i v : ℕ) → Marked n t w → is_node n t i ≡ true → 0 < v → Marked n t (set w i v)
marked_set n t w i v m e h =
    let same : get_or (set w i v) i 0 ≡ v = get_or-set_same w i v 0 (omega (arith, node_below n t i e, m.long)) in
    record {
      long = length-set w i v ∙ m.long;
      node = λ x q. ⊎_elim (λ o. omega (arith, h, same, ap (λ (y : ℕ). get_or (set w i v) y 0) o)) (λ o. omega (arith, o, m.node x q)) (set_cases w i v x);
      mark = λ x q. ⊎_elim (λ o. ap (is_node n t) o ∙ e) (λ o. m.mark x (omega (arith, o, q))) (set_cases w i v x);
    }

-- ---- marking a ring, about to look at i

pub record Rounding (n : ℕ) (t : Bytes) (j : ℕ) (v w : List ℕ) (i : ℕ) : Type 0 where
  pub marked : Marked n t w
  pub long : length w ≡ length v
  pub way : Way (hop n t) i j
  pub below : i < n
  pub only : (x : ℕ) → (get_or w x 0 ≡ get_or v x 0) ⊎ (Way (hop n t) x j × (get_or w x 0 ≡ round))
  pub closed : (x y : ℕ) → get_or w x 0 ≡ round → hop n t x ≡ suc y → (get_or w y 0 ≡ round) ⊎ (y ≡ i)
  pub begun : (get_or w j 0 ≡ round) ⊎ (j ≡ i)

pub rounding_none : (n : ℕ) (t : Bytes) (j : ℕ) (v : List ℕ) → Marked n t v → Closed n t v → j < n → Rounding n t j v v j
rounding_none n t j v m c h = record {
  marked = m;
  long = refl;
  way = here;
  below = h;
  only = λ x. inl refl;
  closed = λ x y e q. inl (c x y e q);
  begun = inr refl;
}

-- the ring goes on
pub rounding_on : (n : ℕ) (t : Bytes) (j : ℕ) (v w : List ℕ) (i : ℕ) → Rounding n t j v w i → Ring (hop n t) j → hop n t i ≡ 0 → ⊥
rounding_on n t j v w i k g e = let o = ring_way (hop n t) g k.way in omega (arith, e, o.on)

pub rounding_node : (n : ℕ) (t : Bytes) (j : ℕ) (v w : List ℕ) (i : ℕ) → Rounding n t j v w i → Ring (hop n t) j → Marked n t (set w i round)
rounding_node n t j v w i k g = marked_set n t w i round k.marked (ring_is_node n t (ring_way (hop n t) g k.way)) (omega arith)

pub rounding_more : (n : ℕ) (t : Bytes) (j : ℕ) (v w : List ℕ) (i m : ℕ) → Rounding n t j v w i → Ring (hop n t) j → hop n t i ≡ suc m → Rounding n t j v (set w i round) m
rounding_more n t j v w i m k g o =
    let same : get_or (set w i round) i 0 ≡ round = get_or-set_same w i round 0 (omega (arith, k.below, k.marked.long)) in
    let at : (y : ℕ) → y ≡ i → get_or (set w i round) y 0 ≡ round = λ y q. ap (λ (z : ℕ). get_or (set w i round) z 0) q ∙ same in
    let stay : (y : ℕ) → get_or w y 0 ≡ round → get_or (set w i round) y 0 ≡ round = λ y q. ⊎_elim (λ c. at y c) (λ c. c ∙ q) (set_cases w i round y) in
    record {
      marked = rounding_node n t j v w i k g;
      long = length-set w i round ∙ k.long;
      way = way_on (hop n t) k.way o;
      below = node_below n t m (hop_named n t i m o).1;
      only = λ x. ⊎_elim
          (λ q. inr (subst (λ (y : ℕ). Way (hop n t) y j) (sym q) k.way, at x q))
          (λ q. ⊎_elim (λ c. inl (q ∙ c)) (λ c. inr (c.0, q ∙ c.1)) (k.only x))
          (set_cases w i round x);
      closed = λ x y p q. ⊎_elim
          (λ c. inr (omega (arith, ap (hop n t) c, q, o)))
          (λ c. ⊎_elim (λ d. inl (stay y d)) (λ d. inl (at y d)) (k.closed x y (sym c ∙ p) q))
          (set_cases w i round x);
      begun = inl (⊎_elim (λ c. stay j c) (λ c. at j c) k.begun);
    }

pub rounding_end : (n : ℕ) (t : Bytes) (j : ℕ) (v w : List ℕ) (i : ℕ) → Rounding n t j v w i → get_or w i 0 ≡ round → Rounded n t j v w
rounding_end n t j v w i k e =
    let b : get_or w j 0 ≡ round = ⊎_elim (λ c. c) (λ c. ap (λ (y : ℕ). get_or w y 0) c ∙ e) k.begun in
    record {
      long = k.long;
      all = λ x p. way_in (hop n t) (λ (y : ℕ). get_or w y 0 ≡ round)
          (λ a c p q. ⊎_elim (λ d. d) (λ d. ap (λ (y : ℕ). get_or w y 0) d ∙ e) (k.closed a c p q)) b p;
      only = k.only;
    }

-- ---- colouring from block b, about to look at index i

pub record Colouring (n : ℕ) (t : Bytes) (b : ℕ) (v w : List ℕ) (i : ℕ) : Type 0 where
  pub old : Coloured n t b v
  pub marked : Marked n t w
  pub most : i ≤ n
  pub kept : (x : ℕ) → (get_or w x 0 ≡ get_or v x 0) ⊎ ((get_or v x 0 ≡ 1) × (get_or w x 0 ≡ b + 2))
  pub lead : (x : ℕ) → get_or w x 0 ≡ b + 2 → (z : ℕ) × Way (hop n t) z x × (hop n t z ≡ i)
  pub on : (x y : ℕ) → get_or w x 0 ≡ b + 2 → hop n t x ≡ suc y → (1 < get_or w y 0) ⊎ (i ≡ suc y)
  pub begun : (1 < get_or w b 0) ⊎ (i ≡ suc b)

-- no place has the colour before
unused : (n : ℕ) (t : Bytes) (b : ℕ) (v : List ℕ) → Coloured n t b v → b < n → n ≤ 1000000 → (x : ℕ) → get_or v x 0 ≡ b + 2 → ⊥
unused n t b v c h l x e = ⊎_elim (λ q. omega (arith, q, e)) (λ q. omega (arith, q, e)) (c.colour x)

-- the index of a block, 0 for none
abbrev pub index_of : Option ℕ → ℕ
index_of None = 0
index_of (Some j) = suc j

pub hop_index : (n : ℕ) (t : Bytes) (j : ℕ) (r : Option ℕ) → Hops n t j r → index_of r ≡ hop n t j
hop_index n t j None e = sym e
hop_index n t j (Some m) e = sym e

pub colouring_none : (n : ℕ) (t : Bytes) (b : ℕ) (v : List ℕ) → Coloured n t b v → b < n → n ≤ 1000000 → Colouring n t b v v (suc b)
colouring_none n t b v c h l = record {
  old = c;
  marked = c.marked;
  most = omega arith;
  kept = λ x. inl refl;
  lead = λ x e. absurd (unused n t b v c h l x e);
  on = λ x y e q. absurd (unused n t b v c h l x e);
  begun = inr refl;
}

pub colouring_node : (n : ℕ) (t : Bytes) (b : ℕ) (v w : List ℕ) (i j : ℕ) → Colouring n t b v w i → get_or w j 0 ≡ 1 → Marked n t (set w j (b + 2))
colouring_node n t b v w i j k e = marked_set n t w j (b + 2) k.marked (k.marked.mark j (omega (arith, e))) (omega arith)

pub colouring_more : (n : ℕ) (t : Bytes) (b : ℕ) (v w : List ℕ) (i j r : ℕ) → Colouring n t b v w i → i ≡ suc j → get_or w j 0 ≡ 1 → r ≡ hop n t j
    → Colouring n t b v (set w j (b + 2)) r
colouring_more n t b v w i j r k ij e f =
    let same : get_or (set w j (b + 2)) j 0 ≡ b + 2 = get_or-set_same w j (b + 2) 0 (omega (arith, ij, k.most, k.marked.long)) in
    let at : (y : ℕ) → y ≡ j → get_or (set w j (b + 2)) y 0 ≡ b + 2 = λ y q. ap (λ (z : ℕ). get_or (set w j (b + 2)) z 0) q ∙ same in
    let stay : (y : ℕ) → 1 < get_or w y 0 → 1 < get_or (set w j (b + 2)) y 0 = λ y q. ⊎_elim (λ c. omega (arith, at y c)) (λ c. omega (arith, c, q)) (set_cases w j (b + 2) y) in
    record {
      old = k.old;
      marked = colouring_node n t b v w i j k e;
      most = omega (arith, f, hop_most n t j);
      kept = λ x. ⊎_elim
          (λ c. inr (⊎_elim (λ d. sym d ∙ ap (λ (y : ℕ). get_or w y 0) c ∙ e) (λ d. d.0) (k.kept x), at x c))
          (λ c. ⊎_elim (λ d. inl (c ∙ d)) (λ d. inr (d.0, c ∙ d.1)) (k.kept x))
          (set_cases w j (b + 2) x);
      lead = λ x q. ⊎_elim
          (λ c. (j, subst (λ (y : ℕ). Way (hop n t) j y) (sym c) here, sym f))
          (λ c. let o = k.lead x (sym c ∙ q) in (j, way_on (hop n t) o.1 (o.2 ∙ ij), sym f))
          (set_cases w j (b + 2) x);
      on = λ x y q p. ⊎_elim
          (λ c. inr (f ∙ ap (hop n t) (sym c) ∙ p))
          (λ c. inl (⊎_elim (λ d. stay y d) (λ d. omega (arith, at y (omega (arith, ij, d)))) (k.on x y (sym c ∙ q) p)))
          (set_cases w j (b + 2) x);
      begun = inl (⊎_elim (λ c. stay b c) (λ c. omega (arith, at b (omega (arith, ij, c)))) k.begun);
    }

-- the walk is at its end: what follows a coloured node is coloured
record Settled (n : ℕ) (t : Bytes) (b : ℕ) (v w : List ℕ) : Type 0 where
  old : Coloured n t b v
  marked : Marked n t w
  kept : (x : ℕ) → (get_or w x 0 ≡ get_or v x 0) ⊎ ((get_or v x 0 ≡ 1) × (get_or w x 0 ≡ b + 2))
  shut : (x y : ℕ) → get_or w x 0 ≡ b + 2 → hop n t x ≡ suc y → 1 < get_or w y 0
  first : 0 < get_or w b 0 → 1 < get_or w b 0

module _ (n : ℕ) (t : Bytes) (b : ℕ) (v w : List ℕ) (h : b < n) (small : n ≤ 1000000) where
  module _ (s : Settled n t b v w) where
    stays : (x : ℕ) → 1 < get_or v x 0 → get_or w x 0 ≡ get_or v x 0
    stays x q = ⊎_elim (λ c. c) (λ c. let z : ⊥ = omega (arith, q, c.0) in absurd z) (s.kept x)

    seen_done : (x : ℕ) → x < b + 1 → 0 < get_or w x 0 → 1 < get_or w x 0
    seen_done x l q = ⊎_elim
        (λ c. ⊎_elim
        (λ (e : x ≡ b). subst (λ (y : ℕ). 1 < get_or w y 0) (sym e) (s.first (subst (λ (y : ℕ). 0 < get_or w y 0) e q)))
        (λ (g : x < b). omega (arith, c, s.old.done x g (omega (arith, c, q))))
        (eq-or-lt_of_le (omega arith)))
        (λ c. omega (arith, c.1))
        (s.kept x)

    seen_closed : (x y : ℕ) → 1 < get_or w x 0 → hop n t x ≡ suc y → 1 < get_or w y 0
    seen_closed x y p q = ⊎_elim
        (λ c. let o = s.old.closed x y (omega (arith, c, p)) q in omega (arith, stays y o))
        (λ c. s.shut x y c.1 q)
        (s.kept x)

    seen_rings : (x : ℕ) → get_or w x 0 ≡ round → Ring (hop n t) x
    seen_rings x e = ⊎_elim (λ c. s.old.rings x (sym c ∙ e)) (λ c. let z : ⊥ = omega (arith, c.1, e) in absurd z) (s.kept x)

    seen_colour : (x : ℕ) → (get_or w x 0 < b + 1 + 2) ⊎ (get_or w x 0 ≡ round)
    seen_colour x = ⊎_elim
        (λ c. ⊎_elim (λ d. inl (omega (arith, c, d))) (λ d. inr (c ∙ d)) (s.old.colour x))
        (λ c. inl (omega (arith, c.1)))
        (s.kept x)

    -- no node that was coloured is in a ring
    settled_open : ((x : ℕ) → get_or v x 0 ≡ 1 → get_or w x 0 ≡ b + 2 → Ring (hop n t) x → ⊥) → Coloured n t (b + 1) w
    settled_open f = record {
      marked = s.marked;
      done = seen_done;
      closed = seen_closed;
      colour = seen_colour;
      rings = seen_rings;
      ringed = λ x p r. ⊎_elim (λ c. c ∙ s.old.ringed x (omega (arith, c, p)) r) (λ c. absurd (f x c.0 c.1 r)) (s.kept x);
    }

    -- the ring that block j lies in was closed, and is marked in u
    settled_round : (j : ℕ) (u : List ℕ) → Ring (hop n t) j → Rounded n t j w u → ((x : ℕ) → get_or w x 0 ≡ b + 2 → Way (hop n t) j x) → Coloured n t (b + 1) u
    settled_round j u g o f =
        let up : (x : ℕ) → 1 < get_or w x 0 → 1 < get_or u x 0 = λ x q. ⊎_elim (λ c. omega (arith, c, q)) (λ c. omega (arith, c.1)) (o.only x) in
        record {
          marked = record {
            long = o.long ∙ s.marked.long;
            node = λ x q. ⊎_elim (λ c. omega (arith, c, s.marked.node x q)) (λ c. omega (arith, c.1)) (o.only x);
            mark = λ x q. ⊎_elim (λ c. s.marked.mark x (omega (arith, c, q))) (λ c. ring_is_node n t (ring_way (hop n t) g c.0)) (o.only x);
          };
          done = λ x l q. ⊎_elim (λ c. omega (arith, c, seen_done x l (omega (arith, c, q)))) (λ c. omega (arith, c.1)) (o.only x);
          closed = λ x y p q. ⊎_elim
              (λ c. up y (seen_closed x y (omega (arith, c, p)) q))
              (λ c. omega (arith, o.all y (way_on (hop n t) c.0 q)))
              (o.only x);
          colour = λ x. ⊎_elim (λ c. ⊎_elim (λ d. inl (omega (arith, c, d))) (λ d. inr (c ∙ d)) (seen_colour x)) (λ c. inr c.1) (o.only x);
          rings = λ x e. ⊎_elim (λ c. seen_rings x (sym c ∙ e)) (λ c. ring_way (hop n t) g c.0) (o.only x);
          ringed = λ x p r. ⊎_elim
              (λ c. ⊎_elim
              (λ d. c ∙ d ∙ s.old.ringed x (omega (arith, c, d, p)) r)
              (λ d. o.all x (ring_back (hop n t) r (f x d.1)))
              (s.kept x))
              (λ c. c.1)
              (o.only x);
        }

  module _ (i : ℕ) (k : Colouring n t b v w i) where
    settled : ((j : ℕ) → i ≡ suc j → get_or w j 0 ≡ 1 → ⊥) → Settled n t b v w
    settled f = record {
      old = k.old;
      marked = k.marked;
      kept = k.kept;
      shut = λ x y p q. ⊎_elim
          (λ c. c)
          (λ c. let g = f y c in omega (arith, k.marked.node y (hop_named n t x y q).1, g))
          (k.on x y p q);
      first = λ p. ⊎_elim (λ c. c) (λ c. let g = f b c in omega (arith, p, g)) k.begun;
    }

    -- it came to a node with no next, or one that names none
    pub colour_none : i ≡ 0 → Coloured n t (b + 1) w
    colour_none z = settled_open (settled (λ j e q. omega (arith, z, e))) (λ x p q r.
        let o = k.lead x q in
        let g = ring_way (hop n t) r o.1 in
        omega (arith, g.on, o.2, z))

    at_met : (j : ℕ) → i ≡ suc j → (get_or w j 0 ≡ 1 → ⊥) → (m : ℕ) → i ≡ suc m → get_or w m 0 ≡ 1 → ⊥
    at_met j ij h m e q = h (ap (λ (y : ℕ). get_or w y 0) (omega (arith, ij, e)) ∙ q)

    -- it came to a node of an earlier colour
    pub colour_met : (j : ℕ) → i ≡ suc j → (get_or w j 0 ≡ 1 → ⊥) → (get_or w j 0 ≡ b + 2 → ⊥) → Coloured n t (b + 1) w
    colour_met j ij h g = settled_open (settled (at_met j ij h)) (λ x p q r.
        let o = k.lead x q in
        let f : hop n t o.0 ≡ suc j = o.2 ∙ ij in
        let l : 0 < get_or w j 0 = k.marked.node j (hop_named n t o.0 j f).1 in
        let m : 1 < get_or v j 0 = ⊎_elim (λ c. omega (arith, c, h, l)) (λ c. absurd (g c.1)) (k.kept j) in
        let a : 1 < get_or v x 0 = way_in (hop n t) (λ (y : ℕ). 1 < get_or v y 0) (λ a c p q. k.old.closed a c p q) m (ring_back (hop n t) r (way_on (hop n t) o.1 f)) in
        omega (arith, a, p))

    -- it came to its own colour: a ring
    pub own_closed : Closed n t w
    own_closed x y e q =
        let s = seen_rings_of x e in
        let o = k.old.closed x y s.1 q in
        let g : get_or v y 0 ≡ round = k.old.ringed y o (ring_next (hop n t) s.0 q) in
        ⊎_elim (λ c. c ∙ g) (λ c. let z : ⊥ = omega (arith, c.0, g) in absurd z) (k.kept y)
      where
        seen_rings_of : (x : ℕ) → get_or w x 0 ≡ round → Ring (hop n t) x × (1 < get_or v x 0)
        seen_rings_of x e = ⊎_elim (λ c. (k.old.rings x (sym c ∙ e), omega (arith, c, e))) (λ c. let z : ⊥ = omega (arith, c.1, e) in absurd z) (k.kept x)

    pub own_ring : (j : ℕ) → i ≡ suc j → get_or w j 0 ≡ b + 2 → Ring (hop n t) j
    own_ring j ij e = let o = k.lead j e in way_ring (hop n t) o.1 (o.2 ∙ ij)

    pub colour_round : (j : ℕ) (u : List ℕ) → i ≡ suc j → get_or w j 0 ≡ b + 2 → Rounded n t j w u → Coloured n t (b + 1) u
    colour_round j u ij e o = settled_round (settled (at_met j ij (λ q. omega (arith, e, q)))) j u (own_ring j ij e) o (λ x q.
        let c = k.lead x q in
        way_on (hop n t) c.1 (c.2 ∙ ij))

-- ---- all blocks

pub fresh_coloured : (n : ℕ) (t : Bytes) (w : List ℕ) → Fresh n t w → Coloured n t 0 w
fresh_coloured n t w f = record {
  marked = f.marked;
  done = λ x l. let z : ⊥ = omega arith in absurd z;
  closed = λ x y p. let z : ⊥ = omega (arith, p, f.least x) in absurd z;
  colour = λ x. inl (omega (arith, f.least x));
  rings = λ x e. let z : ⊥ = omega (arith, e, f.least x) in absurd z;
  ringed = λ x p. let z : ⊥ = omega (arith, p, f.least x) in absurd z;
}

-- ---- what the colouring tells

pub came_back : (n : ℕ) (t : Bytes) (b : ℕ) (u : List ℕ) (j : ℕ) → Ring (hop n t) j → j ≡ b → Came n t b u true
came_back n t b u j g e = record { yes = λ _. subst (Ring (hop n t)) e g; no = λ q. untrue (sym q) }

pub came_on : (n : ℕ) (t : Bytes) (b : ℕ) (w : List ℕ) → Coloured n t (b + 1) w → Came n t b w false
came_on n t b w c = record { yes = λ q. untrue q; no = λ _. c }
