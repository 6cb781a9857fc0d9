-- Marks at the starts of the free nodes, and the walk that sets them.
use mathlib.Core.Path.{◌≡◌, refl, sym, ap, subst, subst⁻¹, ◌∙◌}
use mathlib.Core.List.Memᴰ
use mathlib.Core.List.Permᴰ
use mathlib.Core.List.{List, [], ◌∷◌, ◌++◌, append_assoc}
use mathlib.Core.Logic.{⊎_elim}
use Prim.Native.Nat.{ℕ, ◌+◌, ◌-◌, ◌*◌, ◌≤◌, ◌<◌}
use native.Mathlib.Omega.{arith}
use lib.ListN.{length, get_or, set, replicate, length-set, length-replicate, get_or-replicate}
use lib.Seq.{get_or-set_same, get_or-set_other}
use Rattle.words.proofs.Laws as words
use Rattle.links.proofs.Held.{same_or}
use Rattle.fat_node.specs.Entry.{Bytes}
use Rattle.fat_node.specs.Node.{Run, run, NodeAt, next_at}
use Rattle.fat_table.specs.Chain.{total, head_at, chain_at, free_at}
use Rattle.fat_table.specs.Layout.{Layout, layout, joined, hits, covers, empties, runs}
use Rattle.fat_table.specs.Steps.{first}
use Rattle.fat_table.proofs.Layouts.{EndToEnd, hits_in, hits_most, covers_append, empties_append}
use Rattle.fat_table.proofs.Laying.{first_inside}
use Rattle.fat_table.proofs.Chains.{In, mem_perm, mem_hits, mem_size, mem_either}
use Rattle.fat_table.proofs.Stepped.{chain_read}
use Rattle.fat_table.proofs.Writes.{last_of, laid_suffix}
use Rattle.fat_table.proofs.Resizes.{last_inside}
use Rattle.fat_table.proofs.Unchanged.{total_append}
use Rattle.fat_table.proofs.Sounds.{run_node, in_order}
use Rattle.fat_table.proofs.Files.{Whole, seen}
use Rattle.fat_walk.specs.Volume.{Volume}
use Rattle.fat_walk.specs.Inner.Chains.{Chain, ChainFrom}
use Rattle.fat_walk.proofs.Nodes.{mid_next}
use Rattle.fat_walk.proofs.Found.{head_chain}
use Rattle.fat_walk.proofs.Walks.{Named, named, ended}
use Rattle.fat_merge.specs.Inner.Sweep.{marks, Ahead, end, node}

-- what a mark says ------------------------------------------------------------------------------------------

pub length_marks : (l : List Run) (w : List ℕ) → length (marks l w) ≡ length w
length_marks [] w = refl
length_marks (r ∷ l) w = length_marks l (set w r.start 1) ∙ length-set w r.start 1

marks_keep : (l : List Run) (w : List ℕ) (y : ℕ) → y < length w → get_or w y 0 ≡ 1 → get_or (marks l w) y 0 ≡ 1
marks_keep [] w y h e = e
marks_keep (r ∷ l) w y h e = marks_keep l (set w r.start 1) y (omega (arith, h, length-set w r.start 1)) (⊎_elim
    (λ q. ap (λ (z : ℕ). get_or (set w r.start 1) z 0) q ∙ get_or-set_same w r.start 1 0 (omega (arith, q, h)))
    (λ q. get_or-set_other w r.start y 1 0 q ∙ e)
    (same_or y r.start))

marks_in : {r : Run} {l : List Run} (w : List ℕ) → In r l → r.start < length w → get_or (marks l w) r.start 0 ≡ 1
marks_in {r} w (Memᴰ.head {x = x} {xs = l} e) h =
    let q : r.start ≡ x.start = ap (λ (z : Run). z.start) e in
    marks_keep l (set w x.start 1) r.start (omega (arith, h, length-set w x.start 1))
    (ap (λ (z : ℕ). get_or (set w x.start 1) z 0) q ∙ get_or-set_same w x.start 1 0 (omega (arith, q, h)))
marks_in {r} w (Memᴰ.tail {x = x} m) h = marks_in (set w x.start 1) m (omega (arith, h, length-set w x.start 1))

marks_other : (l : List Run) (w : List ℕ) (y : ℕ) → empties l ≡ 0 → covers y l ≡ 0 → get_or (marks l w) y 0 ≡ get_or w y 0
marks_other [] w y e c = refl
marks_other (r ∷ l) w y e c =
    marks_other l (set w r.start 1) y (omega arith) (omega arith)
    ∙ get_or-set_other w r.start y 1 0 (λ q. omega (arith, hits_in y r (omega (arith, q)) (omega (arith, q, e)), c))

-- no mark where no run starts
marks_none : (l : List Run) (w : List ℕ) (y : ℕ) → ((r : Run) → In r l → r.start ≡ y → ⊥) → get_or (marks l w) y 0 ≡ get_or w y 0
marks_none [] w y g = refl
marks_none (r ∷ l) w y g =
    marks_none l (set w r.start 1) y (λ s m. g s (Memᴰ.tail m))
    ∙ get_or-set_other w r.start y 1 0 (λ q. g r (Memᴰ.head refl) (sym q))

-- two runs of a list that start apart are both counted
two_hits : (x : ℕ) {r s : Run} {l : List Run} → In r l → In s l → (r.start ≡ s.start → ⊥) → hits x r + hits x s ≤ covers x l
two_hits x (Memᴰ.head e) (Memᴰ.head f) ne = absurd (ne (ap (λ (z : Run). z.start) e ∙ sym (ap (λ (z : Run). z.start) f)))
two_hits x (Memᴰ.head e) (Memᴰ.tail m) ne = omega (arith, ap (hits x) e, mem_hits x m)
two_hits x (Memᴰ.tail k) (Memᴰ.head f) ne = omega (arith, ap (hits x) f, mem_hits x k)
two_hits x (Memᴰ.tail k) (Memᴰ.tail m) ne = omega (arith, two_hits x k m ne)

-- a table with the starts of its free nodes marked, from block 0 on -------------------------------------------

ahead_all : (n : ℕ) (t : Bytes) (w : List ℕ) (c : ℕ → ℕ) (T : List Run) (b : ℕ) → EndToEnd b T n → ((r : Run) → In r T → NodeAt t n r.start r.size)
    → ((r : Run) → In r T → (x : ℕ) → r.start ≤ x → x < r.start + r.size → c x ≡ get_or w r.start 0)
    → ((r : Run) → In r T → (x : ℕ) → r.start < x → x < r.start + r.size → get_or w x 0 ≡ 0)
    → Ahead n t w c b
ahead_all n t w c [] b e g f z = end e
ahead_all n t w c (r ∷ T) b e g f z =
    subst (Ahead n t w c) e.0
    (node (g r (Memᴰ.head refl)) (f r (Memᴰ.head refl)) (z r (Memᴰ.head refl))
    (ahead_all n t w c T (r.start + r.size) (subst⁻¹ (λ (z : ℕ). EndToEnd (z + r.size) T n) e.0 e.2) (λ s m. g s (Memᴰ.tail m)) (λ s m. f s (Memᴰ.tail m)) (λ s m. z s (Memᴰ.tail m))))

pub marked_ahead : (n : ℕ) (t : Bytes) (w : Whole n t) → Ahead n t (marks (free_at n t) (replicate n 0)) (λ x. covers x (free_at n t)) 0
marked_ahead n t w =
    let s = seen n t w in
    let F : List Run = free_at n t in
    let L : Layout = layout F s.files in
    let o = in_order n w.small t L s.holds in
    let W : List ℕ = replicate n 0 in
    let back : (r : Run) → In r o.0 → In r (runs L) = λ r m. mem_perm (Permᴰ.symm o.1) m in
    let ef : empties F ≡ 0 = omega (arith, s.holds.tiled.positive, empties_append F (joined s.files)) in
    let cs : (x : ℕ) → covers x F + covers x (joined s.files) ≤ 1 =
    λ x. omega (arith, s.holds.tiled.once x, hits_most x (run 0 n), covers_append x F (joined s.files)) in
    ahead_all n t (marks F W) (λ x. covers x F) o.0 0 o.2
    (λ r m. (run_node n w.small t L s.holds r (back r m)).1)
    (λ r m x p q.
    let i : NodeAt t n r.start r.size = (run_node n w.small t L s.holds r (back r m)).1 in
    ⊎_elim
    (λ k.
    let z : r.start < length W = omega (arith, i.within, i.some, length-replicate {A = ℕ} n 0) in
    omega (arith, mem_hits x k, hits_in x r p q, cs x, marks_in W k z))
    (λ k.
    let y : covers r.start F ≡ 0 = omega (arith, mem_hits r.start k, hits_in r.start r (omega arith) (omega (arith, i.some)), cs r.start) in
    omega (
      arith,
      mem_hits x k,
      hits_in x r p q,
      cs x,
      marks_other F W r.start ef y,
      get_or-replicate {A = ℕ} n r.start 0 0 (omega (arith, i.within, i.some)),
    ))
    (mem_either F (joined s.files) (back r m)))
    (λ r m x p q.
    let i : NodeAt t n r.start r.size = (run_node n w.small t L s.holds r (back r m)).1 in
    marks_none F W x
    (λ u k e.
    let there : hits x u ≡ 1 = hits_in x u (omega (arith, e)) (omega (arith, e, mem_size k ef)) in
    let here : hits x r ≡ 1 = hits_in x r (omega (arith, p)) q in
    ⊎_elim
    (λ j. omega (arith, two_hits x j k (λ d. omega (arith, d, e, p)), there, here, cs x))
    (λ j. omega (arith, mem_hits x j, mem_hits x k, there, here, cs x))
    (mem_either F (joined s.files) (back r m)))
    ∙ get_or-replicate {A = ℕ} n x 0 0 (omega (arith, i.within, q)))

-- the walk along the free chain -------------------------------------------------------------------------------

pub record Marking (l : List Run) (w₀ : List ℕ) (i : ℕ) (w : List ℕ) : Type 0 where
  pub passed : List Run
  pub rest : List Run
  pub is : l ≡ passed ++ rest
  pub at : first rest ≡ i
  pub done : marks l w₀ ≡ marks rest w
  pub long : length w ≡ length w₀

pub mark_begin : (l : List Run) (w : List ℕ) (i : ℕ) → first l ≡ i → Marking l w i w
mark_begin l w i e = record { passed = []; rest = l; is = refl; at = e; done = refl; long = refl }

short : (l : List Run) → empties l ≡ 0 → length l ≤ total l
short [] e = omega arith
short (r ∷ l) e = omega (arith, short l (omega arith))

-- the rest of a chain is read from its first index
rest_read : (n : ℕ) (t : Bytes) (P B : List Run) → Chain n t (P ++ B) → chain_at t n (first B) ≡ B
rest_read n t P B c =
    let e : empties P + empties B ≡ 0 = omega (arith, c.positive, empties_append P B) in
    let k : (x : ℕ) → covers x P + covers x B ≤ hits x (run 0 n) = λ x. omega (arith, c.inside x, covers_append x P B) in
    chain_read n c.few t B (last_of P 0) n
    (last_inside n P 0 (omega arith) (omega arith) (λ x. omega (arith, k x)))
    (omega arith) (λ x. omega (arith, k x)) (laid_suffix t P B 0 c.laid)
    (omega (arith, short B (omega arith), total_append P B, c.sum))

module _ (n : ℕ) (t : Bytes) (l : List Run) (w₀ : List ℕ) (i : ℕ) (w : List ℕ) (k : Chain n t l) (v : Marking l w₀ i w) where
  pub mark_end : i ≡ 0 → w ≡ marks l w₀
  mark_end h = sym (v.done ∙ ap (λ (r : List Run). marks r w) (ended v.rest i v.at h))

  module _ (h : i ≡ 0 → ⊥) where
    abbrev here : Named v.rest i
    here = named v.rest i v.at h

    here_is : l ≡ v.passed ++ here.node ∷ here.after
    here_is = v.is ∙ ap (λ (r : List Run). v.passed ++ r) here.is

    here_chain : Chain n t (v.passed ++ here.node ∷ here.after)
    here_chain = subst (Chain n t) here_is k

    here_next : next_at t (i - 1) ≡ first here.after
    here_next = ap (next_at t) (sym here.at) ∙ mid_next n t v.passed here.node here.after here_chain

    pub mark_next : (q : ℕ) (w' : List ℕ) → q ≡ next_at t (i - 1) → w' ≡ set w (i - 1) 1 → Marking l w₀ q w'
    mark_next q w' e f = record {
      passed = v.passed ++ here.node ∷ [];
      rest = here.after;
      is = here_is ∙ sym (append_assoc v.passed (here.node ∷ []) here.after);
      at = sym (e ∙ here_next);
      done = v.done
          ∙ ap (λ (r : List Run). marks r w) here.is
          ∙ ap (λ (y : ℕ). marks here.after (set w y 1)) here.at
          ∙ ap (marks here.after) (sym f);
      long = ap (λ (y : List ℕ). length y) f ∙ length-set w (i - 1) 1 ∙ v.long;
    }

    pub mark_less : (q : ℕ) → q ≡ next_at t (i - 1) → length (chain_at t n q) < length (chain_at t n i)
    mark_less q e =
        let a : chain_at t n i ≡ v.rest = ap (chain_at t n) (sym v.at) ∙ rest_read n t v.passed v.rest (subst (Chain n t) v.is k) in
        let b : chain_at t n q ≡ here.after =
        ap (chain_at t n) (e ∙ here_next)
        ∙ rest_read n t (v.passed ++ here.node ∷ []) here.after
        (subst (Chain n t) (here_is ∙ sym (append_assoc v.passed (here.node ∷ []) here.after)) k) in
        omega (arith, ap {B = ℕ} length a, ap {B = ℕ} length b, ap {B = ℕ} length here.is)

-- the walk along the free chain of a table
pub record Walking (t : Bytes) (n : ℕ) (w₀ : List ℕ) (i : ℕ) (w : List ℕ) : Type 0 where
  pub few : n ≤ 1000000
  pub room : length t ≡ 8 * (n + 1)
  pub low : i ≤ n
  pub size : length w₀ ≡ n
  pub long : length w ≡ length w₀
  chain : ChainFrom n t (head_at t)
  walk : Marking (free_at n t) w₀ i w

first_low : (n : ℕ) (t : Bytes) (l : List Run) (w₀ : List ℕ) (i : ℕ) (w : List ℕ) → Chain n t l → Marking l w₀ i w → i ≤ n
first_low n t l w₀ i w k v =
    let e : empties v.rest ≡ 0 = omega (arith, k.positive, ap empties v.is, empties_append v.passed v.rest) in
    let z : first v.rest ≤ n = first_inside n v.rest e (λ x. omega (arith, k.inside x, ap (covers x) v.is, covers_append x v.passed v.rest)) in
    omega (arith, z, v.at)

walking : (n : ℕ) (t : Bytes) (w₀ : List ℕ) (i : ℕ) (w : List ℕ) → length w₀ ≡ n → ChainFrom n t (head_at t) → Marking (free_at n t) w₀ i w → Walking t n w₀ i w
walking n t w₀ i w h c v = record {
  few = c.chain.few;
  room = c.chain.room;
  low = first_low n t (free_at n t) w₀ i w c.chain v;
  size = h;
  long = v.long;
  chain = c;
  walk = v;
}

pub walk_begin : (n : ℕ) (t : Bytes) (w : List ℕ) (i : ℕ) → Volume n t → words.Bytes t → length w ≡ n → i ≡ head_at t → Walking t n w i w
walk_begin n t w i v g h e =
    let c : ChainFrom n t (head_at t) = head_chain n t v g (head_at t) refl in
    walking n t w i w h c (mark_begin (free_at n t) w i (c.at ∙ sym e))

module _ (t : Bytes) (n : ℕ) (w₀ : List ℕ) (i : ℕ) (w : List ℕ) (v : Walking t n w₀ i w) where
  pub walk_end : i ≡ 0 → w ≡ marks (free_at n t) w₀
  walk_end = mark_end n t (free_at n t) w₀ i w v.chain.chain v.walk

  pub walk_next : (i ≡ 0 → ⊥) → (q : ℕ) (w' : List ℕ) → q ≡ next_at t (i - 1) → w' ≡ set w (i - 1) 1 → Walking t n w₀ q w'
  walk_next h q w' e f = walking n t w₀ q w' v.size v.chain (mark_next n t (free_at n t) w₀ i w v.chain.chain v.walk h q w' e f)

  pub walk_less : (i ≡ 0 → ⊥) → (q : ℕ) → q ≡ next_at t (i - 1) → length (chain_at t n q) < length (chain_at t n i)
  walk_less h q e = mark_less n t (free_at n t) w₀ i w v.chain.chain v.walk h q e
