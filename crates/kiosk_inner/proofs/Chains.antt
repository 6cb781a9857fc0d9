-- The chains other than the free one, each looked at from its first node.
use mathlib.Core.Path.{◌≡◌, refl, sym, ap, subst, subst⁻¹, ◌∙◌}
use mathlib.Core.List.{List, [], ◌∷◌}
use mathlib.Core.Bool.{Bool, true, false, not}
use mathlib.Core.Logic.{◌≢◌, ◌⊎◌, inl, inr, ⊎_elim}
use Prim.Native.Nat.{ℕ, zero, suc, ◌+◌, ◌-◌, ◌*◌, ◌≤◌, ◌<◌}
use native.Mathlib.Omega.{arith}
use mir.Val.{Fits}
use mir.Syntax.{w64}
use lib.Dec.{eqb}
use lib.ListN.{length}
use borrow.Author.Tests.{eqb-true, eqb-false, not-true, not-false}
use Rattle.words.proofs.Laws as words
use Rattle.links.proofs.Held.{same_or}
use Rattle.fat_node.specs.Entry.{Bytes}
use Rattle.fat_node.specs.Node.{Run, NodeAt, prev_at, next_at}
use Rattle.fat_node.proofs.Nodes.{le_or_lt}
use Rattle.fat_table.specs.Sound.{Starts, begin, after, IsNode, File}
use Rattle.fat_table.specs.Chain.{size_at, head_at, file_at}
use Rattle.fat_table.specs.Steps.{first}
use Rattle.fat_table.proofs.Sounds.{node_size}
use Rattle.fat_walk.specs.Volume.{Volume}
use Rattle.fat_walk.specs.Inner.Chains.{Standing, Chain, ChainFrom}
use Rattle.fat_walk.proofs.Chains.{file_chain}
use Rattle.fat_walk.proofs.Hops.{whole_of, starts_after, node_standing}
use Rattle.fat_walk.proofs.Nodes.{mid_next}
use Rattle.kiosk_inner.specs.Profile.{Scattered}
use Rattle.kiosk_inner.specs.Inner.Judge.{Decides, GoesOn}

clash : {A : Type 0} → true ≡ false → A
clash e = let z : ◌≡◌ {A = ℕ} 0 1 = cc in let z' : ⊥ = omega (arith, z) in absurd z'

-- ---- one node, test by test

module _ (t : Bytes) (head b : ℕ) where
  pub inner_node : (p : ℕ) → p ≡ prev_at t b → (p ≡ 0 → ⊥) → GoesOn t head b false
  inner_node p e h = record { yes = λ x. clash (sym x); no = λ x z k. absurd (h (e ∙ z)) }

  pub free_node : head ≡ b + 1 → GoesOn t head b false
  free_node e = record { yes = λ x. clash (sym x); no = λ x z k. absurd (k e) }

  pub first_node : (p q : ℕ) → p ≡ prev_at t b → p ≡ 0 → (head ≡ b + 1 → ⊥) → q ≡ next_at t b → GoesOn t head b (not (eqb q 0))
  first_node p q e z k f = record {
    yes = λ x. (sym e ∙ z, k, λ y. eqb-false q 0 (not-true (eqb q 0) x) (f ∙ y));
    no = λ x y h. sym f ∙ eqb-true q 0 (not-false (eqb q 0) x);
  }

-- ---- a chain is a single node exactly where its first has no next

single_list : (l : List Run) (b : ℕ) → first l ≡ suc b → (n : ℕ) (t : Bytes) → Chain n t l → ((next_at t b ≡ 0) → length l ≡ 1) × (length l ≡ 1 → next_at t b ≡ 0)
single_list [] b e n t c = let z : ⊥ = omega (arith, e) in absurd z
single_list (r ∷ []) b e n t c = (λ z. refl, λ z. ap (next_at t) (omega (arith, e)) ∙ mid_next n t [] r [] c)
single_list (r ∷ s ∷ l) b e n t c =
    let q : next_at t b ≡ suc s.start = ap (next_at t) (omega (arith, e)) ∙ mid_next n t [] r (s ∷ l) c in
    (λ z. let x : ⊥ = omega (arith, q, z) in absurd x, λ z. let x : ⊥ = omega (arith, z) in absurd x)

module _ (n : ℕ) (t : Bytes) (v : Volume n t) (g : words.Bytes t) where
  single : (b : ℕ) → File t n b → ((next_at t b ≡ 0) → length (file_at n t b) ≡ 1) × (length (file_at n t b) ≡ 1 → next_at t b ≡ 0)
  single b f = let c = file_chain n t (whole_of n t v g) b f in single_list (file_at n t b) b c.at n t c.chain

-- ---- all nodes

-- the files whose first block is below b are single nodes
pub record Going (n : ℕ) (t : Bytes) (b : ℕ) : Type 0 where
  pub starts : Starts t n b
  pub within : b ≤ n
  pub single : (x : ℕ) → x < b → File t n x → length (file_at n t x) ≡ 1

pub going_begin : (n : ℕ) (t : Bytes) → Going n t 0
going_begin n t = record { starts = begin; within = omega arith; single = λ x h. let c : ⊥ = omega (arith, h) in absurd c }

module _ (n : ℕ) (t : Bytes) (v : Volume n t) (g : words.Bytes t) (b : ℕ) (w : Going n t b) (h : b < n) where
  here : IsNode t n b
  here = (w.starts, h)

  pub going_standing : Standing n t b
  going_standing = node_standing n t (whole_of n t v g) b here

  pub going_room : 8 * b + 16 ≤ length t
  going_room = omega (arith, h, v.room)

  pub going_few : b < 1000000
  going_few = omega (arith, h, v.few)

  going_size : (s : ℕ) → s ≡ size_at t b → (1 ≤ s) × (b + s ≤ n)
  going_size s e =
      let k = going_standing in
      let q : size_at t b ≡ k.size = node_size t n b k.size k.node in
      (omega (arith, e, q, k.node.some), omega (arith, e, q, k.node.within))

  pub going_fits : (s : ℕ) → s ≡ size_at t b → Fits w64 (b + s)
  going_fits s e = omega (arith, (going_size s e).1, v.few)

  pub going_less : (s : ℕ) → s ≡ size_at t b → n - (b + s) < n - b
  going_less s e = let z = going_size s e in omega (arith, z.0, z.1)

  module _ (head : ℕ) (q : head ≡ head_at t) (r : Bool) (o : GoesOn t head b r) where
    -- the chain goes on
    pub going_found : r ≡ true → Decides true (Scattered n t)
    going_found e = record {
      yes = λ x.
          let p = o.yes e in
          let f : File t n b = (here, p.0, λ z. p.1 (q ∙ z)) in
          (b, f, λ z. p.2 ((single n t v g b f).1 z));
      no = λ x. clash x;
    }

    pub going_on : r ≡ false → (s : ℕ) → s ≡ size_at t b → Going n t (b + s)
    going_on e s z =
        let k = going_standing in
        let p : s ≡ k.size = z ∙ node_size t n b k.size k.node in
        let m : NodeAt t n b s = subst⁻¹ (NodeAt t n b) p k.node in
        record { starts = after w.starts m refl; within = m.within; single = λ x i f. ⊎_elim (λ j. now x j f) (λ j. before x i j f m) (same_or x b) }
      where
        now : (x : ℕ) → x ≡ b → File t n x → length (file_at n t x) ≡ 1
        now x j f =
            let f' : File t n b = subst (File t n) j f in
            ap (λ (y : ℕ). length (file_at n t y)) j ∙ (single n t v g b f').0 (o.no e f'.1 (λ y. f'.2 (sym q ∙ y)))

        before : (x : ℕ) → x < b + s → x ≢ b → File t n x → NodeAt t n b s → length (file_at n t x) ≡ 1
        before x i j f m =
            ⊎_elim
            (λ (y : b ≤ x).
            let l : b < x = ⊎_elim (λ (c : x ≤ b). absurd (j (omega (arith, c, y)))) (λ c. c) (le_or_lt x b) in
            let z : ⊥ = omega (arith, starts_after n t (whole_of n t v g) b s x here m f.0 l, i) in
            absurd z)
            (λ (y : x < b). w.single x y f)
            (le_or_lt b x)

pub going_end : (n : ℕ) (t : Bytes) (b : ℕ) → Going n t b → n ≤ b → Decides false (Scattered n t)
going_end n t b w h = record {
  yes = λ x. clash (sym x);
  no = λ x v. v.2 (w.single v.0 (omega (arith, v.1.0.1, h)) v.1);
}
