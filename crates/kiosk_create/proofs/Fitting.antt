-- The walk along the free chain to the first node that is long enough.
use mathlib.Core.Path.{◌≡◌, refl, sym, ap, subst, ◌∙◌}
use mathlib.Core.List.{List, [], ◌∷◌, ◌++◌, append_assoc}
use Prim.Native.Nat.{ℕ, suc, ◌+◌, ◌-◌, ◌*◌, ◌≤◌, ◌<◌}
use native.Mathlib.Omega.{arith}
use lib.ListN.{length}
use Rattle.words.proofs.Laws as words
use Rattle.fat_node.specs.Entry.{Bytes}
use Rattle.fat_node.specs.Node.{Run, next_at}
use Rattle.fat_table.specs.Chain.{total, size_at, head_at, chain_at, free_at}
use Rattle.fat_table.specs.Layout.{empties}
use Rattle.fat_table.specs.Steps.{first}
use Rattle.fat_table.proofs.Stepped.{chain_read}
use Rattle.fat_walk.specs.Volume.{Volume}
use Rattle.fat_walk.specs.Inner.Chains.{Standing, Chain, ChainFrom}
use Rattle.fat_walk.proofs.Found.{head_chain}
use Rattle.fat_walk.proofs.Nodes.{mid_size, mid_next, mid_standing, mid_pos, mid_laid, mid_empties, mid_covers, mid_within}
use Rattle.fat_walk.proofs.Walks.{Named, named, ended}
use Rattle.fat_carve.specs.Carve.{fit}
use Rattle.fat_carve.proofs.Carves.{fit_whole, fit_past}

short : (l : List Run) → empties l ≡ 0 → length l ≤ total l
short [] e = omega arith
short (r ∷ l) e = omega (arith, short l (omega (arith, e)))

-- a program that asks for a node of just so many blocks returns the right index; it is wrong where it goes on
pub at_least : (a b : ℕ) → a ≡ b → a ≤ b
at_least a b e = omega (arith, e)

-- index i names the next node of the free chain; those passed are too short
pub record Fitting (n : ℕ) (t : Bytes) (count i : ℕ) : Type 0 where
  pub stands : Chain n t (free_at n t)
  pub passed : List Run
  pub rest : List Run
  pub is : free_at n t ≡ passed ++ rest
  pub at : first rest ≡ i
  pub read : chain_at t n i ≡ rest
  pub few : length rest ≤ n
  pub same : fit count (free_at n t) ≡ fit count rest

pub fit_begin : (n : ℕ) (t : Bytes) (count i : ℕ) → Volume n t → words.Bytes t → i ≡ head_at t → Fitting n t count i
fit_begin n t count i v g q =
    let c : ChainFrom n t (head_at t) = head_chain n t v g (head_at t) refl in
    record {
      stands = c.chain;
      passed = [];
      rest = free_at n t;
      is = refl;
      at = c.at ∙ sym q;
      read = ap (chain_at t n) q;
      few = omega (arith, short (free_at n t) c.chain.positive, c.chain.sum);
      same = refl;
    }

module _ (n : ℕ) (t : Bytes) (count i : ℕ) (v : Fitting n t count i) where
  -- the chain has ended
  pub fit_end : i ≡ 0 → 0 ≡ fit count (free_at n t)
  fit_end h = sym (v.same ∙ ap (fit count) (ended v.rest i v.at h))

  module _ (h : i ≡ 0 → ⊥) where
    abbrev here : Named v.rest i
    here = named v.rest i v.at h

    here_chain : Chain n t (v.passed ++ here.node ∷ here.after)
    here_chain = subst (Chain n t) (v.is ∙ ap (λ (r : List Run). v.passed ++ r) here.is) v.stands

    pub fit_standing : Standing n t (i - 1)
    fit_standing = subst (Standing n t) here.at (mid_standing n t v.passed here.node here.after here_chain)

    pub fit_room : 8 * (i - 1) + 16 ≤ length t
    fit_room = let s = fit_standing in omega (arith, s.room, s.node.some, s.node.within)

    here_size : size_at t (i - 1) ≡ here.node.size
    here_size = ap (size_at t) (sym here.at) ∙ mid_size n t v.passed here.node here.after here_chain

    -- this node is long enough
    pub fit_here : (s : ℕ) → s ≡ size_at t (i - 1) → count ≤ s → i ≡ fit count (free_at n t)
    fit_here s e k =
        sym (v.same ∙ ap (fit count) here.is ∙ fit_whole count here.node here.after (omega (arith, e, here_size)) ∙ sym here.suc_at)

    -- index q names the next
    module _ (q : ℕ) (f : q ≡ next_at t (i - 1)) where
      next_at_lem : first here.after ≡ q
      next_at_lem = sym (f ∙ ap (next_at t) (sym here.at) ∙ mid_next n t v.passed here.node here.after here_chain)

      few_after : length here.after + 1 ≤ length v.rest
      few_after = omega (arith, ap {B = ℕ} length here.is)

      next_read : chain_at t n q ≡ here.after
      next_read =
          ap (chain_at t n) (sym next_at_lem)
          ∙ chain_read n v.stands.few t here.after (suc here.node.start) n
          (omega (arith, mid_within n t v.passed here.node here.after here_chain, mid_pos n t v.passed here.node here.after here_chain))
          (omega (arith, mid_empties n t v.passed here.node here.after here_chain))
          (λ x. omega (arith, mid_covers n t v.passed here.node here.after here_chain x))
          (mid_laid n t v.passed here.node here.after here_chain).1
          (omega (arith, few_after, v.few))

      -- this node is too short
      pub fit_next : (s : ℕ) → s ≡ size_at t (i - 1) → s < count → Fitting n t count q
      fit_next s e k = record {
        stands = v.stands;
        passed = v.passed ++ here.node ∷ [];
        rest = here.after;
        is = v.is ∙ ap (λ (r : List Run). v.passed ++ r) here.is ∙ sym (append_assoc v.passed (here.node ∷ []) here.after);
        at = next_at_lem;
        read = next_read;
        few = omega (arith, few_after, v.few);
        same = v.same ∙ ap (fit count) here.is ∙ fit_past count here.node here.after (omega (arith, e, here_size));
      }

      pub fit_less : length (chain_at t n q) < length (chain_at t n i)
      fit_less = omega (arith, ap {B = ℕ} length next_read, ap {B = ℕ} length v.read, few_after)
