-- The walk along the free chain that lays it without a window.
use mathlib.Core.Path.{◌≡◌, refl, sym, ap, subst, ◌∙◌}
use mathlib.Core.List.{List, [], ◌∷◌, ◌++◌, append-nil}
use Prim.Native.Nat.{ℕ, zero, suc, ◌+◌, ◌-◌, ◌*◌, ◌≤◌, ◌<◌}
use native.Mathlib.Omega.{arith}
use lib.ListN.{length}
use Rattle.words.proofs.Laws as words
use Rattle.fat_node.specs.Entry.{Bytes}
use Rattle.fat_node.specs.Node.{Run, run, next_at}
use Rattle.fat_table.specs.Chain.{total, size_at, head_at, chain_at, free_at}
use Rattle.fat_table.specs.Layout.{taken, left, hits, covers, empties}
use Rattle.fat_table.specs.Steps.{first, lay}
use Rattle.fat_table.specs.Holds.{Laid}
use Rattle.fat_table.proofs.Layouts.{hits_most}
use Rattle.fat_table.proofs.Laying.{inside_of, first_inside}
use Rattle.fat_table.proofs.Stepped.{read_prev, read_next, read_size, chain_read}
use Rattle.fat_table.proofs.Sounds.{holds_node}
use Rattle.fat_walk.specs.Volume.{Volume}
use Rattle.fat_walk.specs.Inner.Chains.{Standing, ChainFrom}
use Rattle.fat_walk.proofs.Found.{head_chain}
use Rattle.fat_walk.proofs.Walks.{Named, named, ended}
use Rattle.fat_carve.specs.Carve.{carved}
use Rattle.fat_place.specs.Inner.Carving.{node_of, first_of, Waits, PartsSay, CarvedBy}

pub first_none : (s f : ℕ) → s ≡ 0 → 0 ≡ first_of s f []
first_none zero f e = refl
first_none (suc s) f e = let z : ⊥ = omega (arith, e) in absurd z

pub first_some : (s f : ℕ) → (s ≡ 0 → ⊥) → f ≡ first_of s f []
first_some zero f h = absurd (h refl)
first_some (suc s) f h = refl

short : (l : List Run) → empties l ≡ 0 → length l ≤ total l
short [] e = omega arith
short (r ∷ l) e = omega (arith, short l (omega (arith, e)))

-- index i names the next node of the free chain; a node of s blocks from b on waits, with index p before it
pub record Carving (n m e : ℕ) (t₀ t : Bytes) (i s b p f : ℕ) : Type 0 where
  pub few : n ≤ 1000000
  pub room : length t ≡ 8 * (n + 1)
  pub low : i ≤ n
  rest : List Run
  at : first rest ≡ i
  before : ℕ
  known : before ≤ n
  laid : Laid t rest before
  positive : empties rest ≡ 0
  inside : (x : ℕ) → covers x (node_of s b) + covers x rest ≤ hits x (run 0 n)
  few_left : length rest ≤ n
  lays : lay (carved m (e - m) (free_at n t₀)) 0 t₀ ≡ lay (node_of s b ++ carved m (e - m) rest) p t
  firsts : first (carved m (e - m) (free_at n t₀)) ≡ first_of s f (carved m (e - m) rest)
  pub waits : Waits n s b p

pub carve_begin : (n m e : ℕ) (t : Bytes) (i : ℕ) → Volume n t → words.Bytes t → i ≡ head_at t → Carving n m e t t i 0 0 0 0
carve_begin n m e t i v g q =
    let c : ChainFrom n t (head_at t) = head_chain n t v g (head_at t) refl in
    record {
      few = v.few;
      room = v.room;
      low = omega (arith, q, c.at, first_inside n (free_at n t) c.chain.positive c.chain.inside);
      rest = free_at n t;
      at = c.at ∙ sym q;
      before = 0;
      known = omega arith;
      laid = c.chain.laid;
      positive = c.chain.positive;
      inside = λ x. omega (arith, c.chain.inside x);
      few_left = omega (arith, short (free_at n t) c.chain.positive, c.chain.sum);
      lays = refl;
      firsts = refl;
      waits = record { within = omega arith; prev = omega arith; none = λ z. refl };
    }

module _ (n m e : ℕ) (t₀ t : Bytes) (i s b p f : ℕ) (v : Carving n m e t₀ t i s b p f) where
  rest_in : (x : ℕ) → covers x v.rest ≤ hits x (run 0 n)
  rest_in x = omega (arith, v.inside x)

  rest_read : chain_at t n i ≡ v.rest
  rest_read =
      ap (chain_at t n) (sym v.at)
      ∙ chain_read n v.few t v.rest v.before n v.known v.positive rest_in v.laid v.few_left

  pub carve_end : i ≡ 0 → (t' : Bytes) (r : ℕ) → t' ≡ lay (node_of s b) p t → r ≡ first_of s f [] → CarvedBy n t₀ m e t' r
  carve_end h t' r q k =
      let z : v.rest ≡ [] = ended v.rest i v.at h in
      record {
        lays = q
            ∙ ap (λ (l : List Run). lay l p t) (sym (append-nil (node_of s b)))
            ∙ ap (λ (l : List Run). lay (node_of s b ++ carved m (e - m) l) p t) (sym z)
            ∙ sym v.lays;
        at = k ∙ ap (λ (l : List Run). first_of s f (carved m (e - m) l)) (sym z) ∙ sym v.firsts;
      }

  module _ (h : i ≡ 0 → ⊥) where
    abbrev here : Named v.rest i
    here = named v.rest i v.at h

    abbrev r : Run
    r = here.node

    abbrev A : List Run
    A = here.after

    here_laid : Laid t (r ∷ A) v.before
    here_laid = subst (λ (l : List Run). Laid t l v.before) here.is v.laid

    pos : 1 ≤ r.size
    pos = omega (arith, v.positive, ap empties here.is)

    cov : (x : ℕ) → covers x (node_of s b) + (hits x r + covers x A) ≤ hits x (run 0 n)
    cov x = omega (arith, v.inside x, ap (covers x) here.is)

    within : r.start + r.size ≤ n
    within = inside_of n r pos (λ x. omega (arith, cov x))

    left_sizes : empties A ≡ 0
    left_sizes = omega (arith, v.positive, ap empties here.is)

    next_low : first A ≤ n
    next_low = first_inside n A left_sizes (λ x. omega (arith, cov x))

    size_is : size_at t (i - 1) ≡ r.size
    size_is = ap (size_at t) (sym here.at) ∙ read_size n v.few t r v.before (first A) v.known next_low here_laid.0 pos

    next_is : next_at t (i - 1) ≡ first A
    next_is = ap (next_at t) (sym here.at) ∙ read_next n v.few t r v.before (first A) v.known next_low here_laid.0

    pub carve_standing : Standing n t (i - 1)
    carve_standing =
        subst (Standing n t) here.at
        (record {
          few = v.few;
          room = v.room;
          size = r.size;
          node = holds_node n v.few t r v.before (first A) v.known next_low pos within here_laid.0;
          prev = omega (arith, read_prev n v.few t r v.before (first A) v.known next_low here_laid.0, v.known);
          next = omega (arith, read_next n v.few t r v.before (first A) v.known next_low here_laid.0, next_low);
        })

    module _ (z : ℕ) (zs : z ≡ size_at t (i - 1)) where
      pub carve_fits : m ≤ e → (1 ≤ z) × ((i - 1) + z ≤ n) × (m ≤ e)
      carve_fits o = (omega (arith, zs, size_is, pos), omega (arith, zs, size_is, within, here.at), o)

      module _ (q : ℕ) (qs : q ≡ next_at t (i - 1)) (t' : Bytes) (s₂ b₂ p₂ f₂ : ℕ) (u' : PartsSay n t s b p f (run (i - 1) z) m e t' s₂ b₂ p₂ f₂) where
        u : PartsSay n t s b p f r m e t' s₂ b₂ p₂ f₂
        u =
            let a : i - 1 ≡ r.start = sym here.at in
            let c : z ≡ r.size = zs ∙ size_is in
            subst (λ (y : Run). PartsSay n t s b p f y m e t' s₂ b₂ p₂ f₂) (λ j. run (a j) (c j)) u'

        pub carve_next : m ≤ e → Carving n m e t₀ t' q s₂ b₂ p₂ f₂
        carve_next o =
            let k : ℕ = e - m in
            let d : m + k ≡ e = omega (arith, o) in
            record {
              few = v.few;
              room = u.long ∙ v.room;
              low = omega (arith, qs, next_is, next_low);
              rest = A;
              at = sym (qs ∙ next_is);
              before = suc r.start;
              known = omega (arith, within, pos);
              laid = u.keeps A (suc r.start) left_sizes (λ x. omega (arith, cov x, hits_most x (run 0 n))) here_laid.1;
              positive = left_sizes;
              inside = λ x. omega (arith, u.only x, cov x);
              few_left = omega (arith, v.few_left, ap {B = ℕ} length here.is);
              lays = v.lays
                  ∙ ap (λ (l : List Run). lay (node_of s b ++ carved m k l) p t) here.is
                  ∙ ap (λ (y : ℕ). lay (node_of s b ++ (taken (r ∷ []) (m - r.start) ++ (left (r ∷ []) (y - r.start) ++ carved m k A))) p t) d
                  ∙ u.lays (carved m k A);
              firsts = v.firsts
                  ∙ ap (λ (l : List Run). first_of s f (carved m k l)) here.is
                  ∙ ap (λ (y : ℕ). first_of s f (taken (r ∷ []) (m - r.start) ++ (left (r ∷ []) (y - r.start) ++ carved m k A))) d
                  ∙ u.firsts (carved m k A);
              waits = u.waits;
            }

        pub carve_less : length (chain_at t' n q) < length (chain_at t n i)
        carve_less =
            let a : chain_at t' n q ≡ A =
            ap (chain_at t' n) (qs ∙ next_is)
            ∙ chain_read n v.few t' A (suc r.start) n (omega (arith, within, pos)) left_sizes (λ x. omega (arith, cov x))
            (u.keeps A (suc r.start) left_sizes (λ x. omega (arith, cov x, hits_most x (run 0 n))) here_laid.1)
            (omega (arith, v.few_left, ap {B = ℕ} length here.is)) in
            omega (arith, ap {B = ℕ} length a, ap {B = ℕ} length rest_read, ap {B = ℕ} length here.is)
