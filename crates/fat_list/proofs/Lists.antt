-- The blocks of a chain written into a list.
use mathlib.Core.Path.{◌≡◌, sym, ap, subst, subst⁻¹, ◌∙◌}
use mathlib.Core.List.{List, [], ◌∷◌, ◌++◌, append_assoc}
use Prim.Native.Nat.{ℕ, zero, suc, ◌+◌, ◌-◌, ◌*◌, ◌≤◌}
use native.Mathlib.Omega.{arith}
use native.Mathlib.Numerals.{add-one}
use lib.ListN.{length, set, drop}
use lib.Seq.{sets, length-sets, sets-eq}
use Rattle.order.specs.Answer as is
use Rattle.order.proofs.Tests.{tests_passed}
use Rattle.fat_node.specs.Entry.{Bytes}
use Rattle.fat_promises.specs.Calls.{list_gives, list_tests, list_done, MayList, ListSound}
use Rattle.fat_promises.proofs.May.{none_list}
use Rattle.fat_node.specs.Node.{Run, next_at}
use Rattle.fat_table.specs.Chain.{total, size_at, chain_at, file_at}
use Rattle.fat_table.specs.Steps.{first}
use Rattle.fat_promises.specs.Blocks.{blocks_from, blocks_of}
use Rattle.fat_walk.specs.Inner.Chains.{Standing, Chain}
use Rattle.fat_table.proofs.Unchanged.{total_append}
use Rattle.fat_walk.proofs.Nodes.{mid_size, mid_next, mid_standing, mid_pos, mid_within}
use Rattle.fat_walk.proofs.Walks.{Named, named}
use Rattle.fat_walk.proofs.Blocks.{length_from, length_blocks, sets_append}

-- k numbers of a run are written, and one more
from_last : (k b : ℕ) → blocks_from (suc k) b ≡ blocks_from k b ++ (b + k) ∷ []
from_last zero b = ap (λ (x : ℕ). x ∷ []) (omega arith)
from_last (suc k) b =
    let e : suc b + k ≡ b + suc k = omega arith in
    ap (λ (l : List ℕ). b ∷ l) (from_last k (suc b) ∙ ap (λ (x : ℕ). blocks_from k (suc b) ++ x ∷ []) e)

pub number_turn : (l : List ℕ) (at b k : ℕ) → set (sets l at (blocks_from k b)) (at + k) (b + k) ≡ sets l at (blocks_from (k + 1) b)
number_turn l at b k =
    ap (λ (j : ℕ). set (sets l at (blocks_from k b)) (at + j) (b + k)) (sym (length_from k b))
    ∙ sym (sets_append (blocks_from k b) ((b + k) ∷ []) l at)
    ∙ ap (sets l at) (sym (from_last k b))
    ∙ ap (λ (j : ℕ). sets l at (blocks_from j b)) (sym (add-one k))

-- the blocks of some runs of a chain are written, and index i names the next
pub record Filling (c : List Run) (l₀ : List ℕ) (i at : ℕ) (l : List ℕ) : Type 0 where
  pub passed : List Run
  pub rest : List Run
  pub is : c ≡ passed ++ rest
  pub at_first : first rest ≡ i
  pub sum : at ≡ total passed
  pub done : sets l₀ 0 (blocks_of c) ≡ sets l at (blocks_of rest)
  pub long : length l ≡ length l₀

module _ (n : ℕ) (t : Bytes) (c : List Run) (l₀ : List ℕ) (i at : ℕ) (l : List ℕ) (k : Chain n t c) (w : Filling c l₀ i at l) where
  module _ (h : i ≡ 0 → ⊥) where
    abbrev here : Named w.rest i
    here = named w.rest i w.at_first h

    here_is : c ≡ w.passed ++ here.node ∷ here.after
    here_is = w.is ∙ ap (λ (r : List Run). w.passed ++ r) here.is

    here_chain : Chain n t (w.passed ++ here.node ∷ here.after)
    here_chain = subst (Chain n t) here_is k

    pub fill_standing : Standing n t (i - 1)
    fill_standing = subst (Standing n t) here.at (mid_standing n t w.passed here.node here.after here_chain)

    here_size : size_at t (i - 1) ≡ here.node.size
    here_size = ap (size_at t) (sym here.at) ∙ mid_size n t w.passed here.node here.after here_chain

    pub fill_room : 8 * (i - 1) + 16 ≤ length t
    fill_room = let s = fill_standing in omega (arith, s.room, s.node.some, s.node.within)

    pub fill_fits : (s : ℕ) → s ≡ size_at t (i - 1) → total c ≤ length l₀ → (at + s ≤ length l) × (1 ≤ s) × ((i - 1) + s ≤ 1000000)
    fill_fits s e f = (
      omega (arith, w.sum, e, here_size, f, w.long, ap total here_is, total_append w.passed (here.node ∷ here.after)),
      omega (arith, e, here_size, mid_pos n t w.passed here.node here.after here_chain),
      omega (arith, e, here_size, mid_within n t w.passed here.node here.after here_chain, here.at, k.few),
    )

    pub fill_next : (s q : ℕ) (l' : List ℕ) → s ≡ size_at t (i - 1) → q ≡ next_at t (i - 1) → l' ≡ sets l at (blocks_from s (i - 1)) → Filling c l₀ q (at + s) l'
    fill_next s q l' e f p =
        let x : Run = here.node in
        let z : s ≡ x.size = e ∙ here_size in
        record {
          passed = w.passed ++ here.node ∷ [];
          rest = here.after;
          is = here_is ∙ sym (append_assoc w.passed (here.node ∷ []) here.after);
          at_first = sym (f ∙ ap (next_at t) (sym here.at) ∙ mid_next n t w.passed here.node here.after here_chain);
          sum = omega (arith, w.sum, total_append w.passed (here.node ∷ []), z);
          done = w.done
              ∙ ap (λ (r : List Run). sets l at (blocks_of r)) here.is
              ∙ sets_append (blocks_from x.size x.start) (blocks_of here.after) l at
              ∙ ap (λ (j : ℕ). sets (sets l at (blocks_from x.size x.start)) (at + j) (blocks_of here.after)) (length_from x.size x.start ∙ sym z)
              ∙ ap (λ (y : List ℕ). sets y (at + s) (blocks_of here.after))
              (ap (λ (j : ℕ). sets l at (blocks_from j x.start)) (sym z) ∙ ap (λ (j : ℕ). sets l at (blocks_from s j)) here.at ∙ sym p);
          long = ap length p ∙ length-sets l at (blocks_from s (i - 1)) ∙ w.long;
        }

-- the whole list: the blocks, and the later places as they were
pub listed_is : (c : List Run) (l : List ℕ) → total c ≤ length l → sets l 0 (blocks_of c) ≡ blocks_of c ++ drop (total c) l
listed_is c l h =
    let e : 0 + length (blocks_of c) ≡ total c = omega (arith, length_blocks c) in
    sets-eq (blocks_of c) l 0 (omega (arith, e, h)) ∙ ap (λ (j : ℕ). blocks_of c ++ drop j l) e

module _ (n : ℕ) (t : Bytes) (b : ℕ) (list : List ℕ) (may : MayList n t b (length list)) where
  list_room : total (chain_at t n (b + 1)) ≤ length list
  list_room = omega (arith, may.enough, ap (λ (i : ℕ). total (chain_at t n i)) (add-one b))

  pub list_done_lem : (count : ℕ) (l : List ℕ) → (count ≡ total (chain_at t n (b + 1))) × (l ≡ sets list 0 (blocks_of (chain_at t n (b + 1))))
      → ListSound n t b list (list_gives is.Done count l)
  list_done_lem count l p =
      let q : l ≡ blocks_of (file_at n t b) ++ drop (total (file_at n t b)) list =
      p.1 ∙ listed_is (chain_at t n (b + 1)) list list_room ∙ ap (λ (j : ℕ). blocks_of (chain_at t n j) ++ drop (total (chain_at t n j)) list) (add-one b) in
      let k : count ≡ total (file_at n t b) = p.0 ∙ ap (λ (j : ℕ). total (chain_at t n j)) (add-one b) in
      subst⁻¹ (λ (z : List ℕ). ListSound n t b list (list_gives is.Done count z)) q
      (subst⁻¹ (λ (z : ℕ). ListSound n t b list (list_gives is.Done z (blocks_of (file_at n t b) ++ drop (total (file_at n t b)) list))) k
      (tests_passed (λ a. list_gives a 0 list) (list_done n t b list) (list_tests n t b (length list)) (none_list n t b (length list) may)))
