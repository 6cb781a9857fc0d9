-- The walk along a chain that turns its runs.
use mathlib.Core.Path.{◌≡◌, refl, sym, ap, subst, ◌∙◌}
use mathlib.Core.List.{List, [], ◌∷◌, ◌++◌}
use mathlib.Core.Bool.{Bool, true, false}
use Prim.Native.Nat.{ℕ, ◌+◌, ◌-◌, ◌*◌, ◌≤◌, ◌<◌}
use native.Mathlib.Omega.{arith}
use lib.ListN.{length}
use Rattle.map_bits.specs.Bits.{words_from, words_in}
use Rattle.map_bits.specs.Inner.Turns.{Turn, Turnable}
use Rattle.map_bits.proofs.Words.{words_same}
use Rattle.fat_node.specs.Entry.{Bytes}
use Rattle.fat_node.specs.Node.{Run, next_at}
use Rattle.fat_table.specs.Chain.{size_at, chain_at}
use Rattle.fat_walk.specs.Inner.Chains.{Standing}
use Rattle.map_inner.specs.Inner.Moves.{Segment, Moved, Move, Going, Moves}
use Rattle.map_inner.proofs.Segments.{Step, step, segment_end}

pub record Walk (n : ℕ) (t : Bytes) (first stop : ℕ) (on : Bool) (map₀ : List ℕ) (i : ℕ) (map : List ℕ) : Type 0 where
  pub long : length map ≡ length map₀
  pub some : Moves n t i stop on map
  pub each : (l : List Run) (c d : ℕ → ℕ) → Segment n t first stop l → Move n on map₀ c d l → Going n t i stop on map d

pub walk_begin : (n : ℕ) (t : Bytes) (i stop : ℕ) (on : Bool) (map : List ℕ) → Moves n t i stop on map → Walk n t i stop on map i map
walk_begin n t i stop on map m = record { long = refl; some = m; each = λ l c d s v. record { runs = l; from = c; segment = s; move = v } }

nothing : (on : Bool) (c d : ℕ → ℕ) → Moved on c d [] → (x : ℕ) → c x ≡ d x
nothing true c d m x = omega (arith, m x)
nothing false c d m x = omega (arith, m x)

module _ (n : ℕ) (t : Bytes) (first stop : ℕ) (on : Bool) (map₀ : List ℕ) (i : ℕ) (map : List ℕ) (w : Walk n t first stop on map₀ i map) where
  pub walk_end : i ≡ stop → (l : List Run) (c d : ℕ → ℕ) → Segment n t first stop l → Move n on map₀ c d l → map ≡ words_from (words_in n) 0 d
  walk_end e l c d s v =
      let g = w.each l c d s v in
      let m : Moved on g.from d [] = subst (Moved on g.from d) (segment_end g.runs n t i stop g.segment e) g.move.moved in
      g.move.shows ∙ words_same (words_in n) 0 g.from d (λ x p q. nothing on g.from d m x)

  module _ (h : i ≡ stop → ⊥) where
    at : (d : ℕ → ℕ) → Going n t i stop on map d → Step n t i stop on map d
    at d g = step g.runs n t i stop on map g.from d g.segment g.move h

    here : Step n t i stop on map w.some.to
    here = at w.some.to w.some.going

    pub walk_some : 1 ≤ i
    walk_some = here.some

    pub walk_standing : Standing n t (i - 1)
    walk_standing = here.standing

    pub walk_room : 8 * (i - 1) + 16 ≤ length t
    walk_room = omega (arith, here.standing.room, here.standing.node.within, here.standing.node.some)

    pub walk_fits : (s : ℕ) → s ≡ size_at t (i - 1) → i - 1 + s ≤ 1000000
    walk_fits s e = omega (arith, here.within, here.standing.few, e)

    pub walk_turnable : (s : ℕ) → s ≡ size_at t (i - 1) → Turnable on map (i - 1) (i - 1 + s)
    walk_turnable s e = record {
      from = here.was;
      to = here.mid;
      turn = subst (λ (x : ℕ). Turn on map here.was here.mid (i - 1) (i - 1 + x)) (sym e) here.turn;
    }

    pub walk_less : (q : ℕ) → q ≡ next_at t (i - 1) → length (chain_at t n q) < length (chain_at t n i)
    walk_less q e = here.less q e

    module _ (s : ℕ) (e : s ≡ size_at t (i - 1)) (map' : List ℕ) (long : length map' ≡ length map)
        (says : (c d : ℕ → ℕ) → Turn on map c d (i - 1) (i - 1 + s) → map' ≡ words_from (length map) 0 d) (q : ℕ) (f : q ≡ next_at t (i - 1)) where
      goes : (d : ℕ → ℕ) → Step n t i stop on map d → Going n t q stop on map' d
      goes d k =
          k.next q f map' long
          (says k.was k.mid (subst (λ (x : ℕ). Turn on map k.was k.mid (i - 1) (i - 1 + x)) (sym e) k.turn))

      pub walk_next : Walk n t first stop on map₀ q map'
      walk_next = record {
        long = long ∙ w.long;
        some = record { to = w.some.to; going = goes w.some.to here };
        each = λ l c d s v. goes d (at d (w.each l c d s v));
      }
