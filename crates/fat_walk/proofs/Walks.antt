-- A walk along a chain that stands.
use mathlib.Core.Path.{◌≡◌, refl, sym, ap, subst, subst⁻¹, ◌∙◌}
use mathlib.Core.List.{List, [], ◌∷◌, ◌++◌, append-nil, append_assoc}
use Prim.Native.Nat.{ℕ, suc, ◌+◌, ◌-◌, ◌*◌, ◌≤◌, ◌<◌}
use native.Mathlib.Omega.{arith}
use lib.ListN.{length}
use Rattle.fat_node.specs.Entry.{Bytes}
use Rattle.fat_node.specs.Node.{Run, next_at}
use Rattle.fat_table.specs.Chain.{total, size_at, chain_at}
use Rattle.fat_table.specs.Steps.{first}
use Rattle.fat_walk.specs.Inner.Chains.{Standing, Chain, ChainFrom, Inside, LastIs, none, node, Beyond, Seeking, Underway}
use Rattle.fat_table.proofs.Unchanged.{total_append}
use Rattle.fat_walk.proofs.Nodes.{mid_size, mid_next, mid_standing, mid_pos}

-- an index that is not 0 names the first node of what it starts
pub record Named (rest : List Run) (i : ℕ) : Type 0 where
  pub node : Run
  pub after : List Run
  pub is : rest ≡ node ∷ after
  pub at : node.start ≡ i - 1
  pub suc_at : i ≡ suc node.start

pub named : (rest : List Run) (i : ℕ) → first rest ≡ i → (i ≡ 0 → ⊥) → Named rest i
named [] i e h = absurd (h (sym e))
named (x ∷ B) i e h = record { node = x; after = B; is = refl; at = omega (arith, e); suc_at = sym e }

pub ended : (rest : List Run) (i : ℕ) → first rest ≡ i → i ≡ 0 → rest ≡ []
ended [] i e h = refl
ended (x ∷ B) i e h = let z : ⊥ = omega (arith, e, h) in absurd z

pub seek_begin : (l : List Run) (i k : ℕ) → first l ≡ i → 1 ≤ k → Seeking l k i 0 k
seek_begin l i k e h = record { passed = []; rest = l; is = refl; at = e; end = none refl refl; sum = omega arith; some = h }

module _ (n : ℕ) (t : Bytes) (l : List Run) (k₀ i last k : ℕ) (c : Chain n t l) (w : Seeking l k₀ i last k) where
  pub seek_past : i ≡ 0 → Beyond l k₀ last k
  seek_past h =
      let e : l ≡ w.passed = w.is ∙ ap (λ (r : List Run). w.passed ++ r) (ended w.rest i w.at h) ∙ append-nil w.passed in
      record { last = subst⁻¹ (λ (r : List Run). LastIs r last) e w.end; sum = w.sum ∙ ap (λ (r : List Run). total r + k) (sym e); some = w.some }

  module _ (h : i ≡ 0 → ⊥) where
    abbrev here : Named w.rest i
    here = named w.rest i w.at h

    here_is : l ≡ w.passed ++ here.node ∷ here.after
    here_is = w.is ∙ ap (λ (r : List Run). w.passed ++ r) here.is

    here_chain : Chain n t (w.passed ++ here.node ∷ here.after)
    here_chain = subst (Chain n t) here_is c

    pub seek_at : Standing n t (i - 1)
    seek_at = subst (Standing n t) here.at (mid_standing n t w.passed here.node here.after here_chain)

    here_size : size_at t (i - 1) ≡ here.node.size
    here_size = ap (size_at t) (sym here.at) ∙ mid_size n t w.passed here.node here.after here_chain

    here_next : next_at t (i - 1) ≡ first here.after
    here_next = ap (next_at t) (sym here.at) ∙ mid_next n t w.passed here.node here.after here_chain

    pub seek_within : (s : ℕ) → s ≡ size_at t (i - 1) → k ≤ s → Inside l k₀ (i - 1) k
    seek_within s e m = record {
      before = w.passed;
      node = here.node;
      after = here.after;
      is = here_is;
      at = here.at;
      sum = w.sum;
      some = w.some;
      fits = omega (arith, e, here_size);
    }

    pub seek_next : (s q : ℕ) → s ≡ size_at t (i - 1) → s < k → q ≡ next_at t (i - 1) → Seeking l k₀ q i (k - s)
    seek_next s q e m f = record {
      passed = w.passed ++ here.node ∷ [];
      rest = here.after;
      is = here_is ∙ sym (append_assoc w.passed (here.node ∷ []) here.after);
      at = sym (f ∙ here_next);
      end = node w.passed here.node refl here.suc_at;
      sum = omega (arith, w.sum, total_append w.passed (here.node ∷ []), e, here_size);
      some = omega arith;
    }

    pub seek_less : (s : ℕ) → s ≡ size_at t (i - 1) → s < k → k - s < k
    seek_less s e m = omega (arith, e, here_size, mid_pos n t w.passed here.node here.after here_chain)

    pub seek_room : 8 * (i - 1) + 16 ≤ length t
    seek_room = let s = seek_at in omega (arith, s.room, s.node.some, s.node.within)

-- a walk gone on from index i₀ to index i: along each chain that it may be of
pub record Onward (n : ℕ) (t : Bytes) (i₀ last₀ k₀ i last k : ℕ) : Type 0 where
  pub way : Underway n t i last k
  pub same : (l : List Run) (m : ℕ) → Chain n t l → Seeking l m i₀ last₀ k₀ → Seeking l m i last k

module _ (n : ℕ) (t : Bytes) (i₀ last₀ k₀ i last k : ℕ) (o : Onward n t i₀ last₀ k₀ i last k) where
  pub on_past : i ≡ 0 → (l : List Run) (m : ℕ) → Chain n t l → Seeking l m i₀ last₀ k₀ → Beyond l m last k
  on_past h l m c w = seek_past n t l m i last k c (o.same l m c w) h

  module _ (h : i ≡ 0 → ⊥) where
    pub on_at : Standing n t (i - 1)
    on_at = seek_at n t o.way.chain o.way.sought i last k o.way.stands o.way.at h

    pub on_room : 8 * (i - 1) + 16 ≤ length t
    on_room = seek_room n t o.way.chain o.way.sought i last k o.way.stands o.way.at h

    pub on_within : (s : ℕ) → s ≡ size_at t (i - 1) → k ≤ s → (l : List Run) (m : ℕ) → Chain n t l → Seeking l m i₀ last₀ k₀ → Inside l m (i - 1) k
    on_within s e f l m c w = seek_within n t l m i last k c (o.same l m c w) h s e f

    pub on_less : (s : ℕ) → s ≡ size_at t (i - 1) → s < k → k - s < k
    on_less s e f = seek_less n t o.way.chain o.way.sought i last k o.way.stands o.way.at h s e f

    pub on_next : (s q : ℕ) → s ≡ size_at t (i - 1) → s < k → q ≡ next_at t (i - 1) → Onward n t i₀ last₀ k₀ q i (k - s)
    on_next s q e f p = record {
      way = record {
        chain = o.way.chain;
        sought = o.way.sought;
        stands = o.way.stands;
        at = seek_next n t o.way.chain o.way.sought i last k o.way.stands o.way.at h s q e f p;
      };
      same = λ l m c w. seek_next n t l m i last k c (o.same l m c w) h s q e f p;
    }

-- a walk from a chain's first node on
module _ (n : ℕ) (t : Bytes) (i k : ℕ) (c : ChainFrom n t i) (h : 1 ≤ k) where
  pub from_first : Underway n t i 0 k
  from_first = record { chain = chain_at t n i; sought = k; stands = c.chain; at = seek_begin (chain_at t n i) i k c.at h }
