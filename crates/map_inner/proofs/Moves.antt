-- What the functions that move runs ask for, from a sound table and its map, and what they leave.
use mathlib.Core.Path.{◌≡◌, refl, sym, ap, subst, subst⁻¹, ◌∙◌}
use mathlib.Core.List.{List, [], ◌∷◌, ◌++◌, append-nil, append_assoc}
use mathlib.Core.Bool.{Bool, true, false}
use Prim.Native.Nat.{ℕ, zero, suc, ◌+◌, ◌-◌, ◌*◌, ◌≤◌, ◌<◌}
use native.Mathlib.Omega.{arith}
use native.Mathlib.Numerals.{add-one}
use lib.ListN.{length, replicate, length-replicate}
use Rattle.words.proofs.Laws as words
use Rattle.map_bits.specs.Bits.{word, words_from, words_in}
use Rattle.map_bits.specs.Inner.Turns.{between, Turn, Turnable}
use Rattle.map_bits.proofs.Words.{word_none, words_same, length_words}
use Rattle.fat_node.specs.Entry.{Bytes}
use Rattle.fat_node.specs.Node.{Run, run, next_at}
use Rattle.fat_table.specs.Sound.{File}
use Rattle.fat_table.specs.Chain.{total, head_at, size_at, chain_at, free_at, file_at}
use Rattle.fat_table.specs.Layout.{left, hits, covers, empties}
use Rattle.fat_table.specs.Steps.{first}
use Rattle.fat_table.proofs.Layouts.{hits_most, covers_append, empties_append, hits_split}
use Rattle.fat_table.proofs.Files.{Whole}
use Rattle.fat_walk.specs.Volume.{Volume}
use Rattle.fat_walk.specs.Inner.Chains.{Standing, Chain, ChainFrom, Inside}
use Rattle.fat_judge.specs.Inner.Plans.{TakeAt}
use Rattle.fat_walk.proofs.Chains.{free_chain, file_chain, file_beside}
use Rattle.fat_walk.proofs.Found.{inside_standing, inside_part, inside_size}
use Rattle.fat_walk.proofs.Hops.{whole_of}
use Rattle.fat_walk.proofs.Nodes.{mid_within, mid_next, mid_empties}
use Rattle.map_inner.specs.Map.{map_of}
use Rattle.map_inner.specs.Inner.Moves.{Segment, Moved, Move, Going, Moves, CutAt}
use Rattle.map_inner.proofs.Segments.{hits_between}
use Rattle.map_inner.proofs.Cuts.{left_covers, left_rest}

-- a map of no block
pub none_words : (w b : ℕ) → replicate w 0 ≡ words_from w b (λ x. 0)
none_words zero b = refl
none_words (suc w) b =
    ap (λ (l : List ℕ). 0 ∷ l) (none_words w (b + 32)) ∙ ap (λ (x : ℕ). x ∷ words_from w (b + 32) (λ x. 0)) (sym (word_none 32 b (λ x. 0) (λ x p q. refl)))

-- a whole chain, from its first index to its end
whole_segment : (n : ℕ) (t : Bytes) (i : ℕ) → ChainFrom n t i → Segment n t i 0 (chain_at t n i)
whole_segment n t i c = record {
  passed = [];
  rest = [];
  chain = subst⁻¹ (Chain n t) (append-nil (chain_at t n i)) c.chain;
  at = ap first (append-nil (chain_at t n i)) ∙ c.at;
  end = refl;
}

-- what a walk that turns runs says
abbrev pub Walked : (n : ℕ) (t : Bytes) (i stop : ℕ) (on : Bool) (map map' : List ℕ) → Type 0
Walked n t i stop on map map' = (l : List Run) (c d : ℕ → ℕ) → Segment n t i stop l → Move n on map c d l → map' ≡ words_from (words_in n) 0 d

module _ (n : ℕ) (t : Bytes) (v : Volume n t) (g : words.Bytes t) where
  whole : Whole n t
  whole = whole_of n t v g

  frees : Chain n t (free_at n t)
  frees = (free_chain n t whole).chain

  free_most : (x : ℕ) → covers x (free_at n t) ≤ 1
  free_most x = omega (arith, frees.inside x, hits_most x (run 0 n))

  pub head_room : 8 ≤ length t
  head_room = omega (arith, v.room)

  -- a map of no block gets the free chain's
  module _ (h : ℕ) (e : h ≡ head_at t) (map : List ℕ) (z : map ≡ replicate (words_in n) 0) where
    draw_segment : Segment n t h 0 (free_at n t)
    draw_segment = subst⁻¹ (λ (i : ℕ). Segment n t i 0 (free_at n t)) e (whole_segment n t (head_at t) (free_chain n t whole))

    draw_move : Move n true map (λ x. 0) (λ x. covers x (free_at n t)) (free_at n t)
    draw_move = record {
      long = ap length z ∙ length-replicate (words_in n) 0;
      shows = z ∙ none_words (words_in n) 0;
      moved = λ x. omega arith;
      was = λ x. omega arith;
      is = free_most;
    }

    pub draw_goes : Moves n t h 0 true map
    draw_goes = record { to = λ x. covers x (free_at n t); going = record { runs = free_at n t; from = λ x. 0; segment = draw_segment; move = draw_move } }

    pub draw_done : (map' : List ℕ) → Walked n t h 0 true map map' → map' ≡ map_of n t
    unfolding map_of
    draw_done map' s = s (free_at n t) (λ x. 0) (λ x. covers x (free_at n t)) draw_segment draw_move

  -- from here on the map is the table's
  module _ (map : List ℕ) (q : map ≡ map_of n t) where
    shows : map ≡ words_from (words_in n) 0 (λ x. covers x (free_at n t))
    unfolding map_of
    shows = q

    pub map_long : length map ≡ words_in n
    map_long = ap length shows ∙ length_words (words_in n) 0 (λ x. covers x (free_at n t))

    -- take: the runs before the cut, then the part
    module _ (h x m c : ℕ) (e : h ≡ head_at t) (w : Inside (free_at n t) c x m) where
      abbrev rests : ℕ → ℕ
      rests = λ z. hits z w.node + covers z w.after

      free_is : (z : ℕ) → covers z (free_at n t) ≡ covers z w.before + rests z
      free_is z = omega (arith, ap (covers z) w.is, covers_append z w.before (w.node ∷ w.after))

      free_cut : Chain n t (w.before ++ w.node ∷ w.after)
      free_cut = subst (Chain n t) w.is frees

      take_segment : Segment n t h (x + 1) w.before
      take_segment = record {
        passed = [];
        rest = w.node ∷ w.after;
        chain = free_cut;
        at = ap first (sym w.is) ∙ (free_chain n t whole).at ∙ sym e;
        end = ap suc w.at ∙ sym (add-one x);
      }

      take_move : Move n false map (λ z. covers z (free_at n t)) rests w.before
      take_move = record {
        long = map_long;
        shows = shows;
        moved = λ z. omega (arith, free_is z);
        was = free_most;
        is = λ z. omega (arith, free_is z, free_most z);
      }

      lefts : (z : ℕ) → covers z (left (free_at n t) c) + between x (x + m) z ≡ rests z
      lefts z =
          let k : covers z (left (w.before ++ w.node ∷ w.after) c) + hits z (run w.node.start m) ≡ rests z =
          left_covers z w.before w.node w.after m c (omega (arith, mid_empties n t w.before w.node w.after free_cut)) w.some w.fits w.sum in
          let f : covers z (left (free_at n t) c) ≡ covers z (left (w.before ++ w.node ∷ w.after) c) = ap (λ (l : List Run). covers z (left l c)) w.is in
          let j : hits z (run w.node.start m) ≡ between x (x + m) z = ap (λ (b : ℕ). hits z (run b m)) w.at ∙ hits_between z (run x m) in
          omega arith

      module _ (map₁ : List ℕ) (l₁ : length map₁ ≡ length map) (s : Walked n t h (x + 1) false map map₁) where
        take_turn : Turn false map₁ rests (λ z. covers z (left (free_at n t) c)) x (x + m)
        take_turn = record {
          shows = s w.before (λ z. covers z (free_at n t)) rests take_segment take_move ∙ ap (λ (k : ℕ). words_from k 0 rests) (sym (l₁ ∙ map_long));
          turned = λ z. sym (lefts z);
          was = λ z. omega (arith, free_is z, free_most z);
          is = λ z. omega (arith, lefts z, free_is z, free_most z);
          order = omega arith;
          fits = omega (arith, mid_within n t w.before w.node w.after free_cut, w.at, w.fits, l₁, map_long);
        }

  module _ (h x m : ℕ) (e : h ≡ head_at t) (k : TakeAt n t x m) (map : List ℕ) (q : map ≡ map_of n t) where
    pub take_next : x + 1 ≤ 1000000
    take_next =
        let i = inside_standing n t (free_at n t) k.count x m frees k.cut in
        omega (arith, i.few, i.node.within, i.node.some)

    pub take_end : x + m ≤ 1000000
    take_end =
        let i = inside_standing n t (free_at n t) k.count x m frees k.cut in
        omega (
          arith,
          i.few,
          mid_within n t k.cut.before k.cut.node k.cut.after (subst (Chain n t) k.cut.is frees),
          k.cut.at,
          k.cut.fits,
        )

    pub take_goes : Moves n t h (x + 1) false map
    take_goes = record {
      to = rests map q h x m k.count e k.cut;
      going = record {
        runs = k.cut.before;
        from = λ z. covers z (free_at n t);
        segment = take_segment map q h x m k.count e k.cut;
        move = take_move map q h x m k.count e k.cut;
      };
    }

    module _ (map₁ : List ℕ) (l₁ : length map₁ ≡ length map) (s : Walked n t h (x + 1) false map map₁) where
      pub take_turnable : Turnable false map₁ x (x + m)
      take_turnable = record {
        from = rests map q h x m k.count e k.cut;
        to = λ z. covers z (left (free_at n t) k.count);
        turn = take_turn map q h x m k.count e k.cut map₁ l₁ s;
      }

      pub take_done : (map₂ : List ℕ) → ((c d : ℕ → ℕ) → Turn false map₁ c d x (x + m) → map₂ ≡ words_from (length map₁) 0 d)
          → (c : ℕ) → Inside (free_at n t) c x m → map₂ ≡ words_from (words_in n) 0 (λ z. covers z (left (free_at n t) c))
      take_done map₂ says c w =
          says (rests map q h x m c e w) (λ z. covers z (left (free_at n t) c)) (take_turn map q h x m c e w map₁ l₁ s)
          ∙ ap (λ (k : ℕ). words_from k 0 (λ z. covers z (left (free_at n t) c))) (l₁ ∙ map_long map q)

  -- give: a whole file
  module _ (b : ℕ) (f : File t n b) (map : List ℕ) (q : map ≡ map_of n t) where
    both_most : (z : ℕ) → covers z (file_at n t b) + covers z (free_at n t) ≤ 1
    both_most z = omega (arith, file_beside n t whole b f z, hits_most z (run 0 n))

    give_segment : Segment n t (b + 1) 0 (file_at n t b)
    give_segment = subst⁻¹ (λ (i : ℕ). Segment n t i 0 (file_at n t b)) (add-one b) (whole_segment n t (suc b) (file_chain n t whole b f))

    give_move : Move n true map (λ z. covers z (free_at n t)) (λ z. covers z (file_at n t b ++ free_at n t)) (file_at n t b)
    give_move = record {
      long = map_long map q;
      shows = shows map q;
      moved = λ z. omega (arith, covers_append z (file_at n t b) (free_at n t));
      was = free_most;
      is = λ z. omega (arith, covers_append z (file_at n t b) (free_at n t), both_most z);
    }

    pub give_fits : b + 1 ≤ 1000000
    give_fits = omega (arith, v.few, f.0.1)

    pub give_goes : Moves n t (b + 1) 0 true map
    give_goes = record {
      to = λ z. covers z (file_at n t b ++ free_at n t);
      going = record { runs = file_at n t b; from = λ z. covers z (free_at n t); segment = give_segment; move = give_move };
    }

    pub give_done : (map' : List ℕ) → Walked n t (b + 1) 0 true map map' → map' ≡ words_from (words_in n) 0 (λ z. covers z (file_at n t b ++ free_at n t))
    give_done map' s = s (file_at n t b) (λ z. covers z (free_at n t)) (λ z. covers z (file_at n t b ++ free_at n t)) give_segment give_move

  -- give the rest of a file: the rest of a node, then the nodes behind it
  module _ (b c x m s : ℕ) (f : File t n b) (w : Inside (file_at n t b) c x m) (es : s ≡ size_at t x) (map : List ℕ) (q : map ≡ map_of n t) where
    file_cut : Chain n t (w.before ++ w.node ∷ w.after)
    file_cut = subst (Chain n t) w.is (file_chain n t whole b f).chain

    size_is : s ≡ w.node.size
    size_is = es ∙ inside_size n t (file_at n t b) c x m (file_chain n t whole b f).chain w

    abbrev halfway : ℕ → ℕ
    halfway = λ z. covers z (free_at n t) + between (x + m) (x + s) z

    rest_hits : (z : ℕ) → hits z (run (w.node.start + m) (w.node.size - m)) ≡ between (x + m) (x + s) z
    rest_hits z =
        let i : w.node.start + m ≡ x + m = omega (arith, w.at) in
        let j : x + m + (w.node.size - m) ≡ x + s = omega (arith, size_is, w.fits) in
        ap (λ (k : ℕ). hits z (run k (w.node.size - m))) i ∙ hits_between z (run (x + m) (w.node.size - m)) ∙ ap (λ (k : ℕ). between (x + m) k z) j

    lefts_rest : (z : ℕ) → covers z (left (file_at n t b) c) ≡ between (x + m) (x + s) z + covers z w.after
    lefts_rest z =
        let k : covers z (left (w.before ++ w.node ∷ w.after) c) ≡ hits z (run (w.node.start + m) (w.node.size - m)) + covers z w.after =
        left_rest z w.before w.node w.after m c (omega (arith, mid_empties n t w.before w.node w.after file_cut)) w.some w.fits w.sum in
        let l : covers z (left (file_at n t b) c) ≡ covers z (left (w.before ++ w.node ∷ w.after) c) = ap (λ (y : List Run). covers z (left y c)) w.is in
        omega (arith, k, l, rest_hits z)

    file_is : (z : ℕ) → covers z (file_at n t b) ≡ covers z w.before + (hits z w.node + covers z w.after)
    file_is z = omega (arith, ap (covers z) w.is, covers_append z w.before (w.node ∷ w.after))

    abbrev ends : ℕ → ℕ
    ends = λ z. covers z (left (file_at n t b) c ++ free_at n t)

    ends_is : (z : ℕ) → ends z ≡ halfway z + covers z w.after
    ends_is z = omega (arith, covers_append z (left (file_at n t b) c) (free_at n t), lefts_rest z)

    ends_most : (z : ℕ) → ends z ≤ 1
    ends_most z =
        omega (
          arith,
          ends_is z,
          rest_hits z,
          hits_split z w.node m w.fits,
          file_is z,
          file_beside n t whole b f z,
          hits_most z (run 0 n),
        )

    rest_turn : Turn true map (λ z. covers z (free_at n t)) halfway (x + m) (x + s)
    rest_turn = record {
      shows = shows map q ∙ ap (λ (k : ℕ). words_from k 0 (λ z. covers z (free_at n t))) (sym (map_long map q));
      turned = λ z. refl;
      was = free_most;
      is = λ z. omega (arith, ends_is z, ends_most z);
      order = omega (arith, size_is, w.fits);
      fits = omega (arith, mid_within n t w.before w.node w.after file_cut, w.at, size_is, map_long map q);
    }

    rest_segment : (p : ℕ) → p ≡ next_at t x → Segment n t p 0 w.after
    rest_segment p e = record {
      passed = w.before ++ w.node ∷ [];
      rest = [];
      chain = subst (Chain n t) (sym (append_assoc w.before (w.node ∷ []) (w.after ++ []) ∙ ap (λ (l : List Run). w.before ++ w.node ∷ l) (append-nil w.after))) file_cut;
      at = ap first (append-nil w.after) ∙ sym (e ∙ ap (next_at t) (sym w.at) ∙ mid_next n t w.before w.node w.after file_cut);
      end = refl;
    }

    module _ (map₁ : List ℕ) (l₁ : length map₁ ≡ length map) (says : (c d : ℕ → ℕ) → Turn true map c d (x + m) (x + s) → map₁ ≡ words_from (length map) 0 d) where
      rest_move : Move n true map₁ halfway ends w.after
      rest_move = record {
        long = l₁ ∙ map_long map q;
        shows = says (λ z. covers z (free_at n t)) halfway rest_turn ∙ ap (λ (k : ℕ). words_from k 0 halfway) (map_long map q);
        moved = ends_is;
        was = λ z. omega (arith, ends_is z, ends_most z);
        is = ends_most;
      }

  module _ (x m s : ℕ) (k : CutAt n t x m) (es : s ≡ size_at t x) (map : List ℕ) (q : map ≡ map_of n t) where
    pub cut_standing : Standing n t x
    cut_standing = inside_standing n t (file_at n t k.file) k.count x m (file_chain n t whole k.file k.is).chain k.cut

    pub cut_room : 8 * x + 16 ≤ length t
    cut_room = omega (arith, cut_standing.room, cut_standing.node.within, cut_standing.node.some)

    pub cut_fits : (x + m ≤ 1000000) × (x + s ≤ 1000000)
    cut_fits =
        let i : s ≡ k.cut.node.size = size_is k.file k.count x m s k.is k.cut es map q in
        let j : k.cut.node.start + k.cut.node.size ≤ n =
        mid_within n t k.cut.before k.cut.node k.cut.after (file_cut k.file k.count x m s k.is k.cut es map q) in
        (omega (arith, v.few, j, i, k.cut.at, k.cut.fits), omega (arith, v.few, j, i, k.cut.at))

    pub cut_turnable : Turnable true map (x + m) (x + s)
    cut_turnable = record {
      from = λ z. covers z (free_at n t);
      to = halfway k.file k.count x m s k.is k.cut es map q;
      turn = rest_turn k.file k.count x m s k.is k.cut es map q;
    }

    module _ (map₁ : List ℕ) (l₁ : length map₁ ≡ length map) (says : (c d : ℕ → ℕ) → Turn true map c d (x + m) (x + s) → map₁ ≡ words_from (length map) 0 d) (p : ℕ)
        (e : p ≡ next_at t x) where
      pub cut_goes : Moves n t p 0 true map₁
      cut_goes = record {
        to = ends k.file k.count x m s k.is k.cut es map q;
        going = record {
          runs = k.cut.after;
          from = halfway k.file k.count x m s k.is k.cut es map q;
          segment = rest_segment k.file k.count x m s k.is k.cut es map q p e;
          move = rest_move k.file k.count x m s k.is k.cut es map q map₁ l₁ says;
        };
      }

      pub cut_done : (map₂ : List ℕ) → Walked n t p 0 true map₁ map₂ → (b c : ℕ) → File t n b → Inside (file_at n t b) c x m
          → map₂ ≡ words_from (words_in n) 0 (λ z. covers z (left (file_at n t b) c ++ free_at n t))
      cut_done map₂ walked b c f w =
          walked w.after (halfway b c x m s f w es map q) (ends b c x m s f w es map q) (rest_segment b c x m s f w es map q p e)
          (rest_move b c x m s f w es map q map₁ l₁ says)
