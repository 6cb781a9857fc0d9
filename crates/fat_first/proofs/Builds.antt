-- The map of first blocks, built node by node, and asked.
use mathlib.Core.Path.{◌≡◌, refl, sym, ap, subst⁻¹, ◌∙◌}
use mathlib.Core.List.{List}
use mathlib.Core.Bool.{Bool, true, false, cond}
use mathlib.Core.Logic.{◌⊎◌, inl, inr, ⊎_elim}
use Prim.Native.Nat.{ℕ, ◌+◌, ◌-◌, ◌*◌, ◌≤◌, ◌<◌}
use native.Mathlib.Omega.{arith}
use mir.Syntax.{w64}
use mir.Val.{Fits}
use lib.Dec.{ltb}
use lib.ListN.{length, replicate, length-replicate}
use borrow.Author.Tests.{lt-ltb, le-ltb}
use Rattle.words.proofs.Laws as words
use Rattle.order.specs.Tells.{Tells}
use Rattle.map_bits.specs.Bits.{words_from, words_in, bit}
use Rattle.map_bits.specs.Inner.Turns.{between, Turn, Turnable}
use Rattle.map_bits.proofs.Words.{words_same, length_words, bit_words}
use Rattle.map_bits.proofs.Turns.{between_in, between_lo, between_hi}
use Rattle.fat_node.specs.Entry.{Bytes}
use Rattle.fat_node.specs.Node.{NodeAt, prev_at}
use Rattle.fat_node.proofs.Nodes.{le_or_lt}
use Rattle.fat_table.specs.Sound.{Starts, begin, after, IsNode, File}
use Rattle.fat_table.specs.Chain.{size_at, head_at}
use Rattle.fat_table.proofs.Sounds.{node_size}
use Rattle.fat_table.proofs.Files.{Whole}
use Rattle.fat_walk.specs.Volume.{Volume}
use Rattle.fat_walk.specs.Inner.Chains.{Standing}
use Rattle.fat_walk.proofs.Hops.{whole_of, starts_after, node_standing}
use Rattle.map_inner.proofs.Moves.{none_words}
use Rattle.fat_first.specs.Firsts.{first_at, firsts_of}
use Rattle.fat_first.specs.Inner.Below.{firsts_below}
use Rattle.fat_first.proofs.Firsts.{first_file, file_first, none_first, first_most, first_out}

module _ (n : ℕ) (t : Bytes) (b x : ℕ) where
  below_in : x < b → firsts_below n t b x ≡ first_at n t x
  unfolding firsts_below
  below_in h = rw (lt-ltb x b h)

  below_out : b ≤ x → firsts_below n t b x ≡ 0
  unfolding firsts_below
  below_out h = rw (le-ltb x b h)

  below_most : Whole n t → firsts_below n t b x ≤ 1
  below_most w = ⊎_elim (λ h. omega (arith, below_out h)) (λ h. omega (arith, below_in h, first_most n t w x)) (le_or_lt b x)

-- from b to a later block, with no first block between
further : (n : ℕ) (t : Bytes) (b c : ℕ) → b ≤ c → ((x : ℕ) → b ≤ x → x < c → first_at n t x ≡ 0) → (x : ℕ) → firsts_below n t b x ≡ firsts_below n t c x
further n t b c k h x = ⊎_elim
    (λ p. ⊎_elim
    (λ q. omega (arith, below_out n t b x p, below_out n t c x q))
    (λ q. omega (arith, below_out n t b x p, below_in n t c x q, h x p q))
    (le_or_lt c x))
    (λ p. omega (arith, below_in n t b x p, below_in n t c x (omega arith)))
    (le_or_lt b x)

shown : (n : ℕ) (t : Bytes) (b c : ℕ) (map : List ℕ) → map ≡ words_from (words_in n) 0 (firsts_below n t b) → b ≤ c → ((x : ℕ) → b ≤ x → x < c → first_at n t x ≡ 0)
    → map ≡ words_from (words_in n) 0 (firsts_below n t c)
shown n t b c map e k h = e ∙ words_same (words_in n) 0 (firsts_below n t b) (firsts_below n t c) (λ x p q. further n t b c k h x)

-- one node ---------------------------------------------------------------------------------------------

module _ (n : ℕ) (t : Bytes) (v : Volume n t) (g : words.Bytes t) (b : ℕ) (i : IsNode t n b) (map : List ℕ)
    (e : map ≡ words_from (words_in n) 0 (firsts_below n t b)) where
  pub node_fits : Fits w64 (b + 1)
  node_fits = omega (arith, i.1, v.few)

  pub node_room : 8 * b + 16 ≤ length t
  node_room = omega (arith, i.1, v.room)

  none : (File t n b → ⊥) → map ≡ words_from (words_in n) 0 (firsts_below n t (b + 1))
  none h =
      shown n t b (b + 1) map e (omega arith)
      (λ x p q. ap (first_at n t) (let z : x ≡ b = omega arith in z) ∙ none_first n t (whole_of n t v g) b h)

  pub mark_later : (p : ℕ) → p ≡ prev_at t b → (p ≡ 0 → ⊥) → map ≡ words_from (words_in n) 0 (firsts_below n t (b + 1))
  mark_later p q h = none (λ f. h (q ∙ f.1))

  pub mark_free : (h : ℕ) → h ≡ head_at t → h ≡ b + 1 → map ≡ words_from (words_in n) 0 (firsts_below n t (b + 1))
  mark_free h q z = none (λ f. f.2 (sym q ∙ z))

  module _ (p h : ℕ) (q : p ≡ prev_at t b) (z : p ≡ 0) (o : h ≡ head_at t) (k : h ≡ b + 1 → ⊥) where
    long : length map ≡ words_in n
    long = ap length e ∙ length_words (words_in n) 0 (firsts_below n t b)

    here : first_at n t b ≡ 1
    here = file_first n t (whole_of n t v g) b (i, sym q ∙ z, λ y. k (o ∙ y))

    turned : (x : ℕ) → firsts_below n t (b + 1) x ≡ firsts_below n t b x + between b (b + 1) x
    turned x = ⊎_elim
        (λ u. omega (arith, below_out n t (b + 1) x u, below_out n t b x (omega arith), between_hi b (b + 1) x u))
        (λ u. ⊎_elim
        (λ y.
        let s : x ≡ b = omega arith in
        omega (arith, below_in n t (b + 1) x u, below_out n t b x y, between_in b (b + 1) x y u, ap (first_at n t) s, here))
        (λ y. omega (arith, below_in n t (b + 1) x u, below_in n t b x y, between_lo b (b + 1) x y))
        (le_or_lt b x))
        (le_or_lt (b + 1) x)

    turn : Turn true map (firsts_below n t b) (firsts_below n t (b + 1)) b (b + 1)
    turn = record {
      shows = e ∙ ap (λ (m : ℕ). words_from m 0 (firsts_below n t b)) (sym long);
      turned = turned;
      was = λ x. below_most n t b x (whole_of n t v g);
      is = λ x. below_most n t (b + 1) x (whole_of n t v g);
      order = omega arith;
      fits = omega (arith, i.1, long);
    }

    pub mark_turnable : Turnable true map b (b + 1)
    mark_turnable = record { from = firsts_below n t b; to = firsts_below n t (b + 1); turn = turn }

    pub mark_done : (map' : List ℕ) → ((c d : ℕ → ℕ) → Turn true map c d b (b + 1) → map' ≡ words_from (length map) 0 d)
        → map' ≡ words_from (words_in n) 0 (firsts_below n t (b + 1))
    mark_done map' s = s (firsts_below n t b) (firsts_below n t (b + 1)) turn ∙ ap (λ (m : ℕ). words_from m 0 (firsts_below n t (b + 1))) long

-- all nodes --------------------------------------------------------------------------------------------

-- the first blocks below b are in
pub record Building (n : ℕ) (t : Bytes) (map₀ map : List ℕ) (b : ℕ) : Type 0 where
  pub starts : Starts t n b
  pub within : b ≤ n
  pub long : length map ≡ length map₀
  pub shows : map ≡ words_from (words_in n) 0 (firsts_below n t b)

pub building_begin : (n : ℕ) (t : Bytes) (map : List ℕ) → map ≡ replicate (words_in n) 0 → Building n t map map 0
building_begin n t map e = record {
  starts = begin;
  within = omega arith;
  long = refl;
  shows = e ∙ none_words (words_in n) 0 ∙ words_same (words_in n) 0 (λ x. 0) (firsts_below n t 0) (λ x p q. sym (below_out n t 0 x p));
}

module _ (n : ℕ) (t : Bytes) (v : Volume n t) (g : words.Bytes t) (map₀ map : List ℕ) (b : ℕ) (w : Building n t map₀ map b) (h : b < n) where
  pub building_node : IsNode t n b
  building_node = (w.starts, h)

  pub building_shows : map ≡ words_from (words_in n) 0 (firsts_below n t b)
  building_shows = w.shows

  pub building_standing : Standing n t b
  building_standing = node_standing n t (whole_of n t v g) b building_node

  sized : (s : ℕ) → s ≡ size_at t b → NodeAt t n b s
  sized s e =
      let k = building_standing in
      subst⁻¹ (NodeAt t n b) (e ∙ node_size t n b k.size k.node) k.node

  pub building_fits : (s : ℕ) → s ≡ size_at t b → Fits w64 (b + s)
  building_fits s e = omega (arith, (sized s e).within, v.few)

  pub building_less : (s : ℕ) → s ≡ size_at t b → n - (b + s) < n - b
  building_less s e = omega (arith, (sized s e).within, (sized s e).some)

  pub building_on : (map' : List ℕ) → length map' ≡ length map → map' ≡ words_from (words_in n) 0 (firsts_below n t (b + 1)) → (s : ℕ) → s ≡ size_at t b
      → Building n t map₀ map' (b + s)
  building_on map' l q s e =
      let m : NodeAt t n b s = sized s e in
      record {
        starts = after w.starts m refl;
        within = m.within;
        long = l ∙ w.long;
        shows = shown n t (b + 1) (b + s) map' q (omega (arith, m.some))
            (λ x y z. none_first n t (whole_of n t v g) x (λ f.
            let o : b + s ≤ x = starts_after n t (whole_of n t v g) b s x building_node m f.0 (omega (arith, y)) in
            omega (arith, o, z)));
      }

pub building_end : (n : ℕ) (t : Bytes) (v : Volume n t) (g : words.Bytes t) (map₀ map : List ℕ) (b : ℕ) → Building n t map₀ map b → n ≤ b → map ≡ firsts_of n t
unfolding firsts_of
building_end n t v g map₀ map b w h =
    w.shows ∙ words_same (words_in n) 0 (firsts_below n t b) (first_at n t) (λ x p q. ⊎_elim
    (λ k. omega (arith, below_out n t b x k, first_out n t (whole_of n t v g) x (omega arith)))
    (λ k. below_in n t b x k)
    (le_or_lt b x))

-- asked ------------------------------------------------------------------------------------------------

module _ (n : ℕ) (t : Bytes) (v : Volume n t) (g : words.Bytes t) (map : List ℕ) (e : map ≡ firsts_of n t) (b : ℕ) (h : b < n) where
  pub first_long : b < 32 * length map
  unfolding firsts_of
  first_long = omega (arith, h, ap length e, length_words (words_in n) 0 (first_at n t))

  pub first_bit : bit map b ≡ first_at n t b
  unfolding firsts_of
  first_bit = ap (λ (m : List ℕ). bit m b) e ∙ bit_words (words_in n) (first_at n t) b (omega (arith, h)) (first_most n t (whole_of n t v g))

  pub first_says : (r : Bool) → Tells (bit map b ≡ 1) r → (r ≡ true → File t n b) × (File t n b → r ≡ true)
  first_says r s = (
    (λ q. first_file n t (whole_of n t v g) b (omega (arith, s.yes q, first_bit))),
    (λ f. s.only (first_bit ∙ file_first n t (whole_of n t v g) b f)),
  )
