-- Runs of a chain, node by node.
use mathlib.Core.Path.{◌≡◌, refl, sym, ap, subst, ◌∙◌}
use mathlib.Core.List.{List, [], ◌∷◌, ◌++◌, append_assoc}
use mathlib.Core.Bool.{Bool, true, false}
use Prim.Native.Nat.{ℕ, suc, ◌+◌, ◌-◌, ◌*◌, ◌≤◌, ◌<◌}
use native.Mathlib.Omega.{arith}
use lib.ListN.{length}
use Rattle.map_bits.specs.Bits.{words_from, words_in}
use Rattle.map_bits.specs.Inner.Turns.{between, Turned, Turn}
use Rattle.fat_node.specs.Entry.{Bytes}
use Rattle.fat_node.specs.Node.{Run, run, next_at}
use Rattle.fat_table.specs.Chain.{total, size_at, chain_at}
use Rattle.fat_table.specs.Layout.{hits, covers, empties}
use Rattle.fat_table.specs.Steps.{first}
use Rattle.fat_table.proofs.Layouts.{hits_in, hits_most, covers_append, empties_append}
use Rattle.fat_table.proofs.Files.{first_covered}
use Rattle.fat_table.proofs.Stepped.{chain_read}
use Rattle.fat_table.proofs.Writes.{last_of, laid_suffix}
use Rattle.fat_table.proofs.Resizes.{last_inside}
use Rattle.fat_table.proofs.Unchanged.{total_append}
use Rattle.fat_walk.specs.Inner.Chains.{Standing, Chain}
use Rattle.fat_walk.proofs.Nodes.{mid_covers, mid_empties, mid_pos, mid_within, mid_size, mid_next, mid_standing}
use Rattle.map_inner.specs.Inner.Moves.{Segment, Moved, Move, Going}

-- a run as a stretch of blocks
pub hits_between : (x : ℕ) (r : Run) → hits x r ≡ between r.start (r.start + r.size) x
unfolding hits between
hits_between x r = refl

short : (l : List Run) → empties l ≡ 0 → length l ≤ total l
short [] e = omega arith
short (r ∷ l) e = omega (arith, short l (omega arith))

-- the rest of a chain is read from its first index
rest_read : (n : ℕ) (t : Bytes) (P B : List Run) → Chain n t (P ++ B) → chain_at t n (first B) ≡ B
rest_read n t P B c =
    let e : empties P + empties B ≡ 0 = omega (arith, c.positive, empties_append P B) in
    let k : (x : ℕ) → covers x P + covers x B ≤ hits x (run 0 n) = λ x. omega (arith, c.inside x, covers_append x P B) in
    chain_read n c.few t B (last_of P 0) n
    (last_inside n P 0 (omega arith) (omega arith) (λ x. omega (arith, k x)))
    (omega arith) (λ x. omega (arith, k x)) (laid_suffix t P B 0 c.laid)
    (omega (arith, short B (omega arith), total_append P B, c.sum))

-- at its end no run is left
pub segment_end : (l : List Run) (n : ℕ) (t : Bytes) (i stop : ℕ) → Segment n t i stop l → i ≡ stop → l ≡ []
segment_end [] n t i stop s e = refl
segment_end (r ∷ l) n t i stop s e =
    let c : Chain n t (s.passed ++ r ∷ (l ++ s.rest)) = s.chain in
    let f : first s.rest ≡ suc r.start = s.end ∙ sym e ∙ sym s.at in
    let p : empties (l ++ s.rest) ≡ empties l + empties s.rest = empties_append l s.rest in
    let z : ⊥ =
    omega (
      arith,
      first_covered s.rest r.start f (omega (arith, mid_empties n t s.passed r (l ++ s.rest) c, p)),
      hits_in r.start r (omega arith) (omega (arith, mid_pos n t s.passed r (l ++ s.rest) c)),
      mid_covers n t s.passed r (l ++ s.rest) c r.start,
      covers_append r.start l s.rest,
      hits_most r.start (run 0 n),
    ) in
    absurd z

-- one turn: the node at hand, and what is left behind it
pub record Step (n : ℕ) (t : Bytes) (i stop : ℕ) (on : Bool) (map : List ℕ) (d : ℕ → ℕ) : Type 0 where
  pub some : 1 ≤ i
  pub standing : Standing n t (i - 1)
  pub within : i - 1 + size_at t (i - 1) ≤ n
  pub was : ℕ → ℕ
  pub mid : ℕ → ℕ
  pub turn : Turn on map was mid (i - 1) (i - 1 + size_at t (i - 1))
  pub next : (q : ℕ) → q ≡ next_at t (i - 1) → (map' : List ℕ) → length map' ≡ length map → map' ≡ words_from (length map) 0 mid → Going n t q stop on map' d
  pub less : (q : ℕ) → q ≡ next_at t (i - 1) → length (chain_at t n q) < length (chain_at t n i)

-- the set between: once the run r is turned, and the runs l are not yet
abbrev mid_set : Bool → (c d : ℕ → ℕ) → Run → List Run → ℕ → ℕ
mid_set true c d r l = λ x. c x + hits x r
mid_set false c d r l = λ x. d x + covers x l

module _ (c d : ℕ → ℕ) (r : Run) (l : List Run) where
  mid_first : (on : Bool) → Moved on c d (r ∷ l) → Turned on c (mid_set on c d r l) r.start (r.start + r.size)
  mid_first true m = λ x. ap (λ (h : ℕ). c x + h) (hits_between x r)
  mid_first false m = λ x. omega (arith, m x, hits_between x r)

  mid_rest : (on : Bool) → Moved on c d (r ∷ l) → Moved on (mid_set on c d r l) d l
  mid_rest true m = λ x. omega (arith, m x)
  mid_rest false m = λ x. refl

  mid_small : (on : Bool) → Moved on c d (r ∷ l) → ((x : ℕ) → c x ≤ 1) → ((x : ℕ) → d x ≤ 1) → (x : ℕ) → mid_set on c d r l x ≤ 1
  mid_small true m p q = λ x. omega (arith, m x, q x)
  mid_small false m p q = λ x. omega (arith, m x, p x)

room : (n w : ℕ) → w ≡ words_in n → n ≤ 32 * w
room n w e = omega arith

module _ (n : ℕ) (t : Bytes) (stop : ℕ) (on : Bool) (map : List ℕ) (c d : ℕ → ℕ) (r : Run) (l : List Run) (m : Move n on map c d (r ∷ l)) (P R : List Run)
    (h : Chain n t (P ++ r ∷ (l ++ R))) (end : first R ≡ stop) where
  mid_chain : Chain n t ((P ++ r ∷ []) ++ (l ++ R))
  mid_chain = subst (Chain n t) (sym (append_assoc P (r ∷ []) (l ++ R))) h

  on_next : (q : ℕ) → q ≡ first (l ++ R) → (map' : List ℕ) → length map' ≡ length map → map' ≡ words_from (length map) 0 (mid_set on c d r l) → Going n t q stop on map' d
  on_next q e map' long shows = record {
    runs = l;
    from = mid_set on c d r l;
    segment = record { passed = P ++ r ∷ []; rest = R; chain = mid_chain; at = sym e; end = end };
    move = record {
      long = long ∙ m.long;
      shows = shows ∙ ap (λ (w : ℕ). words_from w 0 (mid_set on c d r l)) m.long;
      moved = mid_rest c d r l on m.moved;
      was = mid_small c d r l on m.moved m.was m.is;
      is = m.is;
    };
  }

  on_turn : Turn on map c (mid_set on c d r l) r.start (r.start + r.size)
  on_turn = record {
    shows = m.shows ∙ ap (λ (w : ℕ). words_from w 0 c) (sym m.long);
    turned = mid_first c d r l on m.moved;
    was = m.was;
    is = mid_small c d r l on m.moved m.was m.is;
    order = omega arith;
    fits = omega (arith, mid_within n t P r (l ++ R) h, room n (length map) m.long);
  }

  on_less : (q i : ℕ) → q ≡ first (l ++ R) → i ≡ suc r.start → length (chain_at t n q) < length (chain_at t n i)
  on_less q i e f =
      let a : chain_at t n q ≡ l ++ R = ap (chain_at t n) e ∙ rest_read n t (P ++ r ∷ []) (l ++ R) mid_chain in
      let b : chain_at t n i ≡ r ∷ (l ++ R) = ap (chain_at t n) f ∙ rest_read n t P (r ∷ (l ++ R)) h in
      omega (arith, ap {B = ℕ} length a, ap {B = ℕ} length b)

  on_step : (i : ℕ) → suc r.start ≡ i → Step n t i stop on map d
  on_step i e =
      let at : r.start ≡ i - 1 = omega (arith, e) in
      let size : size_at t (i - 1) ≡ r.size = ap (size_at t) (sym at) ∙ mid_size n t P r (l ++ R) h in
      let nexts : next_at t (i - 1) ≡ first (l ++ R) = ap (next_at t) (sym at) ∙ mid_next n t P r (l ++ R) h in
      let hi : r.start + r.size ≡ i - 1 + size_at t (i - 1) = omega (arith, at, size) in
      record {
        some = omega (arith, e);
        standing = subst (Standing n t) at (mid_standing n t P r (l ++ R) h);
        within = omega (arith, mid_within n t P r (l ++ R) h, hi);
        was = c;
        mid = mid_set on c d r l;
        turn = subst (λ (x : ℕ). Turn on map c (mid_set on c d r l) (i - 1) x) hi (subst (λ (x : ℕ). Turn on map c (mid_set on c d r l) x (r.start + r.size)) at on_turn);
        next = λ q f map' long shows. on_next q (f ∙ nexts) map' long shows;
        less = λ q f. on_less q i (f ∙ nexts) (sym e);
      }

pub step : (l : List Run) (n : ℕ) (t : Bytes) (i stop : ℕ) (on : Bool) (map : List ℕ) (c d : ℕ → ℕ) → Segment n t i stop l → Move n on map c d l → (i ≡ stop → ⊥)
    → Step n t i stop on map d
step [] n t i stop on map c d s m h = absurd (h (sym s.at ∙ s.end))
step (r ∷ l) n t i stop on map c d s m h = on_step n t stop on map c d r l m s.passed s.rest s.chain s.end i s.at
