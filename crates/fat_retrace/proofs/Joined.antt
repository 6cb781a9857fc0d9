-- The calls for the file that starts at a node, test by test.
use mathlib.Core.Path.{◌≡◌, refl, sym, ap, subst, subst⁻¹, ◌∙◌}
use mathlib.Core.List.{List, [], ◌∷◌, ◌++◌, append-nil}
use Prim.Native.Nat.{ℕ, zero, suc, ◌+◌, ◌*◌, ◌≤◌}
use native.Mathlib.Omega.{arith}
use native.Mathlib.Numerals.{add-one}
use lib.ListN.{length, length-append}
use Rattle.words.proofs.Laws as words
use Rattle.fat_node.specs.Entry.{Bytes}
use Rattle.fat_node.specs.Node.{Run, prev_at, next_at}
use Rattle.fat_table.specs.Sound.{IsNode, File}
use Rattle.fat_table.specs.Chain.{total, head_at, chain_at, file_at}
use Rattle.fat_table.specs.Counts.{starts}
use Rattle.fat_table.specs.Steps.{first}
use Rattle.fat_walk.specs.Volume.{Volume}
use Rattle.fat_walk.specs.Inner.Chains.{Chain, ChainFrom}
use Rattle.fat_walk.proofs.Nodes.{mid_next}
use Rattle.fat_walk.proofs.Found.{file_from}
use Rattle.fat_retrace.specs.History.{Call, create, gives, joins, joins_all, marked}
use Rattle.fat_retrace.specs.Inner.Written.{Written, GivenUp, joins_at}
use Rattle.fat_retrace.proofs.Found.{starts_yes, starts_later, starts_free}
use Rattle.fat_retrace.proofs.Few.{length_gives}
use Rattle.fat_retrace.proofs.Puts.{written_none, written_long, written_on}

-- a node with the mark 0 starts no file
unmarked : (n : ℕ) (t : Bytes) (b k : ℕ) (l : List ℕ) → starts t b ≡ 0 → Written (joins_at n t b) k l k l
unmarked n t b k l e = subst⁻¹ (λ (x : ℕ). Written (joins_all (marked x (file_at n t b))) k l k l) e (written_none k l)

pub join_later : (n : ℕ) (t : Bytes) (b p k : ℕ) (l : List ℕ) → p ≡ prev_at t b → (p ≡ 0 → ⊥) → Written (joins_at n t b) k l k l
join_later n t b zero k l e h = absurd (h refl)
join_later n t b (suc p) k l e h = unmarked n t b k l (starts_later t b p (sym e))

pub join_free : (n : ℕ) (t : Bytes) (b h k : ℕ) (l : List ℕ) → h ≡ head_at t → h ≡ b + 1 → Written (joins_at n t b) k l k l
join_free n t b h k l e q = unmarked n t b k l (starts_free t b (sym e ∙ q ∙ add-one b))

-- a chain of one node, and a chain of more, by the first node's next
one_node : (n : ℕ) (t : Bytes) (b : ℕ) (l : List Run) → Chain n t l → first l ≡ b + 1 → next_at t b ≡ 0 → joins l ≡ []
one_node n t b [] c e h = refl
one_node n t b (x ∷ []) c e h = refl
one_node n t b (x ∷ y ∷ l) c e h =
    let q : x.start ≡ b = omega (arith, e) in
    let z : ⊥ = omega (arith, mid_next n t [] x (y ∷ l) c, ap (next_at t) q, h) in
    absurd z

more_nodes : (n : ℕ) (t : Bytes) (b : ℕ) (l : List Run) → Chain n t l → first l ≡ b + 1 → (next_at t b ≡ 0 → ⊥) → joins l ≡ gives l ++ create (total l) ∷ []
more_nodes n t b [] c e h = let z : ⊥ = omega (arith, e) in absurd z
more_nodes n t b (x ∷ []) c e h =
    let q : x.start ≡ b = omega (arith, e) in
    absurd (h (ap (next_at t) (sym q) ∙ mid_next n t [] x [] c))
more_nodes n t b (x ∷ y ∷ l) c e h = refl

-- a file of several nodes starts at block b
pub record Several (n : ℕ) (t : Bytes) (b : ℕ) : Type 0 where
  pub few : n ≤ 1000000
  pub chain : ChainFrom n t (b + 1)
  pub calls : joins_at n t b ≡ gives (chain_at t n (b + 1)) ++ create (total (chain_at t n (b + 1))) ∷ []

-- what the tests of a node's previous, of the head and of its next say
module _ (n : ℕ) (t : Bytes) (b : ℕ) (v : Volume n t) (g : words.Bytes t) (i : IsNode t n b) (p h q : ℕ) (ep : p ≡ prev_at t b) (zp : p ≡ 0) (eh : h ≡ head_at t)
    (nh : h ≡ b + 1 → ⊥) (eq : q ≡ next_at t b) where
  is_file : File t n b
  is_file = (i, sym ep ∙ zp, λ k. nh (eh ∙ k))

  join_chain : ChainFrom n t (b + 1)
  join_chain = file_from n t v g b is_file

  is_joins : joins_at n t b ≡ joins (chain_at t n (b + 1))
  is_joins =
      ap (λ (x : ℕ). joins_all (marked x (file_at n t b))) (starts_yes t n b is_file)
      ∙ append-nil (joins (file_at n t b))
      ∙ ap (λ (x : ℕ). joins (chain_at t n x)) (sym (add-one b))

  pub join_one : (k : ℕ) (l : List ℕ) → q ≡ 0 → Written (joins_at n t b) k l k l
  join_one k l z =
      let e : joins_at n t b ≡ [] = is_joins ∙ one_node n t b (chain_at t n (b + 1)) join_chain.chain join_chain.at (sym eq ∙ z) in
      subst⁻¹ (λ (x : List Call). Written x k l k l) e (written_none k l)

  pub several : (q ≡ 0 → ⊥) → Several n t b
  several nq = record {
    few = v.few;
    chain = join_chain;
    calls = is_joins ∙ more_nodes n t b (chain_at t n (b + 1)) join_chain.chain join_chain.at (λ z. nq (eq ∙ z));
  }

module _ (n : ℕ) (t : Bytes) (b : ℕ) (w : Several n t b) (k : ℕ) (l : List ℕ) (o : 2 * (k + length (joins_at n t b)) ≤ length l) where
  long : length (joins_at n t b) ≡ length (chain_at t n (b + 1)) + 1
  long =
      omega (
        arith,
        ap {B = ℕ} length w.calls,
        length-append (gives (chain_at t n (b + 1))) (create (total (chain_at t n (b + 1))) ∷ []),
        length_gives (chain_at t n (b + 1)),
      )

  pub join_room : 2 * (k + length (chain_at t n (b + 1))) ≤ length l
  join_room = omega (arith, o, long)

  module _ (r m : ℕ) (l' : List ℕ) (g : GivenUp (chain_at t n (b + 1)) k l r m l') where
    pub join_place : 2 * r + 2 ≤ length l'
    join_place = omega (arith, o, long, g.written.next, length_gives (chain_at t n (b + 1)), written_long g.written)

    pub join_small : m ≤ 1000000
    join_small = omega (arith, g.blocks, w.chain.chain.sum, w.few)

    pub join_done : (s : ℕ) (l'' : List ℕ) → Written (create m ∷ []) r l' s l'' → Written (joins_at n t b) k l s l''
    join_done s l'' u =
        subst⁻¹ (λ (x : List Call). Written x k l s l'') w.calls
        (written_on g.written (subst (λ (x : ℕ). Written (create x ∷ []) r l' s l'') g.blocks u))
