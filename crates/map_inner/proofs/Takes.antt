-- The free chain's first blocks, taken out of the map while they are sought.
use mathlib.Core.Path.{◌≡◌, refl, sym, ap, subst, ◌∙◌}
use mathlib.Core.List.{List, [], ◌∷◌, ◌++◌, append_assoc}
use mathlib.Core.Bool.{false}
use Prim.Native.Nat.{ℕ, ◌+◌, ◌-◌, ◌*◌, ◌≤◌, ◌<◌}
use native.Mathlib.Omega.{arith}
use mir.Syntax.{w64}
use mir.Val.{Fits}
use lib.ListN.{length, replicate}
use Rattle.words.proofs.Laws as words
use Rattle.map_bits.specs.Bits.{words_from, words_in}
use Rattle.map_bits.specs.Inner.Turns.{between, Turn, Turnable}
use Rattle.map_bits.proofs.Words.{words_same, length_words}
use Rattle.fat_node.specs.Entry.{Bytes}
use Rattle.fat_node.specs.Node.{Run, run, next_at}
use Rattle.fat_table.specs.Chain.{total, size_at, head_at, free_at}
use Rattle.fat_table.specs.Layout.{left, hits, covers, empties}
use Rattle.fat_table.specs.Steps.{first}
use Rattle.fat_table.proofs.Layouts.{hits_most, covers_append}
use Rattle.fat_table.proofs.Unchanged.{total_append}
use Rattle.fat_walk.specs.Volume.{Volume}
use Rattle.fat_walk.specs.Inner.Chains.{Standing, Chain, Inside, Seeking, none, node}
use Rattle.fat_walk.proofs.Chains.{free_chain}
use Rattle.fat_walk.proofs.Hops.{whole_of}
use Rattle.fat_walk.proofs.Nodes.{mid_within, mid_size, mid_next, mid_empties}
use Rattle.fat_walk.proofs.Walks.{Named, named, ended, seek_past, seek_at, seek_within, seek_less, seek_room}
use Rattle.map_inner.specs.Map.{map_of}
use Rattle.map_inner.specs.Inner.Moves.{TakenIn, TakenAll}
use Rattle.map_inner.proofs.Segments.{hits_between}
use Rattle.map_inner.proofs.Cuts.{left_covers}
use Rattle.map_inner.proofs.Moves.{none_words, map_long}

-- what was passed is out, and the rest is in
pub record Taking (n : ℕ) (t : Bytes) (c : ℕ) (map₀ map : List ℕ) (i last k : ℕ) : Type 0 where
  pub seek : Seeking (free_at n t) c i last k
  pub long : length map ≡ length map₀
  pub shows : map ≡ words_from (words_in n) 0 (λ z. covers z seek.rest)

module _ (n : ℕ) (t : Bytes) (v : Volume n t) (g : words.Bytes t) where
  free : Chain n t (free_at n t)
  free = (free_chain n t (whole_of n t v g)).chain

  pub taking_begin : (h c : ℕ) → (h ≡ head_at t) × (1 ≤ c) → (map : List ℕ) → map ≡ map_of n t → Taking n t c map map h 0 c
  unfolding map_of
  taking_begin h c (e, s) map q = record {
    seek = record {
      passed = [];
      rest = free_at n t;
      is = refl;
      at = (free_chain n t (whole_of n t v g)).at ∙ sym e;
      end = none refl refl;
      sum = omega arith;
      some = s;
    };
    long = refl;
    shows = q;
  }

  module _ (c : ℕ) (map₀ map : List ℕ) (i last k : ℕ) (w : Taking n t c map₀ map i last k) where
    pub taking_long : (map' : List ℕ) → length map' ≡ length map → length map' ≡ length map₀
    taking_long map' e = e ∙ w.long

    pub taking_past : i ≡ 0 → TakenAll n t c last k map
    taking_past h = record {
      is = seek_past n t (free_at n t) c i last k free w.seek h;
      shows =
          w.shows
          ∙ words_same (words_in n) 0 (λ z. covers z w.seek.rest) (λ z. 0) (λ z p q. ap (covers z) (ended w.seek.rest i w.seek.at h))
          ∙ sym (none_words (words_in n) 0);
    }

    module _ (h : i ≡ 0 → ⊥) where
      abbrev here : Named w.seek.rest i
      here = named w.seek.rest i w.seek.at h

      whole : Chain n t (w.seek.passed ++ here.node ∷ here.after)
      whole = subst (Chain n t) (w.seek.is ∙ ap (λ (r : List Run). w.seek.passed ++ r) here.is) free

      long : length map ≡ words_in n
      long = ap length w.shows ∙ length_words (words_in n) 0 (λ z. covers z w.seek.rest)

      size : (s : ℕ) → s ≡ size_at t (i - 1) → s ≡ here.node.size
      size s e = e ∙ ap (size_at t) (sym here.at) ∙ mid_size n t w.seek.passed here.node here.after whole

      rests : (z : ℕ) → covers z w.seek.rest ≡ hits z here.node + covers z here.after
      rests z = ap (covers z) here.is

      rest_most : (z : ℕ) → covers z w.seek.rest ≤ 1
      rest_most z =
          omega (arith, ap (covers z) w.seek.is, covers_append z w.seek.passed w.seek.rest, free.inside z, hits_most z (run 0 n))

      fits : (m s : ℕ) → s ≡ size_at t (i - 1) → m ≤ s → i - 1 + m ≤ n
      fits m s e l = omega (arith, mid_within n t w.seek.passed here.node here.after whole, size s e, here.at, l)

      pub taking_at : Standing n t (i - 1)
      taking_at = seek_at n t (free_at n t) c i last k free w.seek h

      pub taking_room : 8 * (i - 1) + 16 ≤ length t
      taking_room = seek_room n t (free_at n t) c i last k free w.seek h

      module _ (s : ℕ) (e : s ≡ size_at t (i - 1)) where
        -- the node is passed
        pub taking_size : Fits w64 (i - 1 + s)
        taking_size = omega (arith, fits s s e (omega arith), v.few)

        turn_whole : Turn false map (λ z. covers z w.seek.rest) (λ z. covers z here.after) (i - 1) (i - 1 + s)
        turn_whole = record {
          shows = w.shows ∙ ap (λ (m : ℕ). words_from m 0 (λ z. covers z w.seek.rest)) (sym long);
          turned = λ z.
              let a : here.node.start + here.node.size ≡ i - 1 + s = omega (arith, here.at, size s e) in
              let j : hits z here.node ≡ between (i - 1) (i - 1 + s) z =
              hits_between z here.node ∙ ap (λ (b : ℕ). between b (here.node.start + here.node.size) z) here.at ∙ ap (λ (b : ℕ). between (i - 1) b z) a in
              omega (arith, rests z, j);
          was = rest_most;
          is = λ z. omega (arith, rests z, rest_most z);
          order = omega arith;
          fits = omega (arith, fits s s e (omega arith), long);
        }

        pub taking_turnable : Turnable false map (i - 1) (i - 1 + s)
        taking_turnable = record { from = λ z. covers z w.seek.rest; to = λ z. covers z here.after; turn = turn_whole }

        pub taking_less : s < k → k - s < k
        taking_less l = seek_less n t (free_at n t) c i last k free w.seek h s e l

        pub taking_next : s < k → (q : ℕ) → q ≡ next_at t (i - 1) → (map' : List ℕ) → length map' ≡ length map
            → ((c d : ℕ → ℕ) → Turn false map c d (i - 1) (i - 1 + s) → map' ≡ words_from (length map) 0 d) → Taking n t c map₀ map' q i (k - s)
        taking_next l q f map' m says = record {
          seek = record {
            passed = w.seek.passed ++ here.node ∷ [];
            rest = here.after;
            is =
                w.seek.is ∙ ap (λ (r : List Run). w.seek.passed ++ r) here.is
                ∙ sym (append_assoc w.seek.passed (here.node ∷ []) here.after);
            at = sym (f ∙ ap (next_at t) (sym here.at) ∙ mid_next n t w.seek.passed here.node here.after whole);
            end = node w.seek.passed here.node refl here.suc_at;
            sum = omega (arith, w.seek.sum, total_append w.seek.passed (here.node ∷ []), size s e, l);
            some = omega arith;
          };
          long = m ∙ w.long;
          shows = says (λ z. covers z w.seek.rest) (λ z. covers z here.after) turn_whole ∙ ap (λ (m : ℕ). words_from m 0 (λ z. covers z here.after)) long;
        }

        -- it has the block that is sought
        module _ (l : k ≤ s) where
          pub taking_part : Fits w64 (i - 1 + k)
          taking_part = omega (arith, fits k s e l, v.few)

          inside : Inside (free_at n t) c (i - 1) k
          inside = seek_within n t (free_at n t) c i last k free w.seek h s e l

          lefts : (z : ℕ) → covers z (left (free_at n t) c) + between (i - 1) (i - 1 + k) z ≡ covers z w.seek.rest
          lefts z =
              let a : covers z (left (w.seek.passed ++ here.node ∷ here.after) c) + hits z (run here.node.start k) ≡ hits z here.node + covers z here.after =
              left_covers z w.seek.passed here.node here.after k c (omega (arith, mid_empties n t w.seek.passed here.node here.after whole)) w.seek.some
              (omega (arith, l, size s e)) w.seek.sum in
              let f : covers z (left (free_at n t) c) ≡ covers z (left (w.seek.passed ++ here.node ∷ here.after) c) =
              ap (λ (r : List Run). covers z (left r c)) (w.seek.is ∙ ap (λ (r : List Run). w.seek.passed ++ r) here.is) in
              let j : hits z (run here.node.start k) ≡ between (i - 1) (i - 1 + k) z = ap (λ (b : ℕ). hits z (run b k)) here.at ∙ hits_between z (run (i - 1) k) in
              omega (arith, a, f, j, rests z)

          turn_part : Turn false map (λ z. covers z w.seek.rest) (λ z. covers z (left (free_at n t) c)) (i - 1) (i - 1 + k)
          turn_part = record {
            shows = w.shows ∙ ap (λ (m : ℕ). words_from m 0 (λ z. covers z w.seek.rest)) (sym long);
            turned = λ z. sym (lefts z);
            was = rest_most;
            is = λ z. omega (arith, lefts z, rest_most z);
            order = omega arith;
            fits = omega (arith, fits k s e l, long);
          }

          pub taking_cut : Turnable false map (i - 1) (i - 1 + k)
          taking_cut = record { from = λ z. covers z w.seek.rest; to = λ z. covers z (left (free_at n t) c); turn = turn_part }

          pub taking_within : (map' : List ℕ) → ((c d : ℕ → ℕ) → Turn false map c d (i - 1) (i - 1 + k) → map' ≡ words_from (length map) 0 d)
              → TakenIn n t c (i - 1) k map'
          taking_within map' says = record {
            is = inside;
            shows = says (λ z. covers z w.seek.rest) (λ z. covers z (left (free_at n t) c)) turn_part
                ∙ ap (λ (m : ℕ). words_from m 0 (λ z. covers z (left (free_at n t) c))) long;
          }
