-- A walk over the nodes in the order of their blocks that writes calls for each.
use mathlib.Core.Path.{◌≡◌, refl, sym, ap, subst⁻¹, ◌∙◌}
use mathlib.Core.List.{List, [], ◌∷◌, ◌++◌, append_assoc, append-nil}
use Prim.Native.Nat.{ℕ, zero, suc, ◌+◌, ◌*◌, ◌≤◌, ◌<◌}
use native.Mathlib.Omega.{arith}
use lib.ListN.{length, length-append}
use borrow.Author.Tests.{lt-ltb, le-ltb}
use Rattle.fat_node.specs.Entry.{Bytes}
use Rattle.fat_node.specs.Node.{Run, run, prev_at, next_at, NodeAt}
use Rattle.fat_table.specs.Sound.{Starts, begin, after, IsNode}
use Rattle.fat_table.specs.Chain.{size_at}
use Rattle.fat_table.specs.Counts.{scan, nodes}
use Rattle.fat_table.proofs.Sounds.{node_size}
use Rattle.fat_walk.specs.Volume.{Volume}
use Rattle.fat_walk.specs.Inner.Chains.{Standing}
use Rattle.fat_retrace.specs.History.{Call}
use Rattle.fat_retrace.specs.Inner.Written.{Written}
use Rattle.fat_retrace.proofs.Puts.{written_none, written_long, written_on}

-- a node of a sound table stands
below : (n : ℕ) (q : ℕ) → ((j : ℕ) → q ≡ j + 1 → j < n) → q ≤ n
below n zero h = omega arith
below n (suc j) h = omega (arith, h j (omega arith))

pub standing : (n : ℕ) (t : Bytes) (b : ℕ) → Volume n t → IsNode t n b → Standing n t b
standing n t b v i =
    let o = v.sound.covered b i in
    record {
      few = v.few;
      room = v.room;
      size = o.0;
      node = o.1;
      prev = below n (prev_at t b) (λ j e. (v.sound.back b j i e).0.1);
      next = below n (next_at t b) (λ j e. (v.sound.forth b j i e).0.1);
    }

-- what F makes of the nodes is what f makes of each, one after the other
pub record Folds (F : List Run → List Call) (f : Run → List Call) : Type 0 where
  pub nil : F [] ≡ []
  pub cons : (r : Run) (l : List Run) → F (r ∷ l) ≡ f r ++ F l

folds_append : (F : List Run → List Call) (f : Run → List Call) → Folds F f → (a b : List Run) → F (a ++ b) ≡ F a ++ F b
folds_append F f w [] b = ap (λ (x : List Call). x ++ F b) (sym w.nil)
folds_append F f w (r ∷ a) b =
    w.cons r (a ++ b)
    ∙ ap (λ (x : List Call). f r ++ x) (folds_append F f w a b)
    ∙ sym (append_assoc (f r) (F a) (F b))
    ∙ ap (λ (x : List Call). x ++ F b) (sym (w.cons r a))

-- the calls of the nodes before block b are written
pub record Going (F : List Run → List Call) (n : ℕ) (t : Bytes) (k₀ : ℕ) (l₀ : List ℕ) (b k : ℕ) (l : List ℕ) : Type 0 where
  pub passed : List Run
  pub rest : List Run
  pub is : nodes n t ≡ passed ++ rest
  pub put : Written (F passed) k₀ l₀ k l
  pub starts : Starts t n b
  pub within : b ≤ n
  -- what is left to scan
  pub fuel : ℕ
  pub enough : n ≤ b + fuel
  pub from : rest ≡ scan n t fuel b

pub going_long : (F : List Run → List Call) (n : ℕ) (t : Bytes) (k₀ : ℕ) (l₀ : List ℕ) (b k : ℕ) (l : List ℕ) → Going F n t k₀ l₀ b k l → length l ≡ length l₀
going_long F n t k₀ l₀ b k l g = written_long g.put

module _ (F : List Run → List Call) (f : Run → List Call) (w : Folds F f) (n : ℕ) (t : Bytes) (k₀ : ℕ) (l₀ : List ℕ) where
  pub going_begin : Going F n t k₀ l₀ 0 k₀ l₀
  going_begin = record {
    passed = [];
    rest = nodes n t;
    is = refl;
    put = subst⁻¹ (λ (h : List Call). Written h k₀ l₀ k₀ l₀) w.nil (written_none k₀ l₀);
    starts = begin;
    within = omega arith;
    fuel = n;
    enough = omega arith;
    from = refl;
  }

  module _ (b k : ℕ) (l : List ℕ) (g : Going F n t k₀ l₀ b k l) where
    pub going_end : n ≤ b → Written (F (nodes n t)) k₀ l₀ k l
    going_end h =
        let e : nodes n t ≡ g.passed = g.is ∙ ap (λ (x : List Run). g.passed ++ x) (g.from ∙ over g.fuel) ∙ append-nil g.passed in
        subst⁻¹ (λ (x : List Run). Written (F x) k₀ l₀ k l) e g.put
      where
        over : (m : ℕ) → scan n t m b ≡ []
        over zero = refl
        over (suc m) = rw (le-ltb b n h)

    module _ (v : Volume n t) (h : b < n) where
      pub going_node : IsNode t n b
      going_node = (g.starts, h)

      pub going_standing : Standing n t b
      going_standing = standing n t b v going_node

      pub going_size : (1 ≤ size_at t b) × (b + size_at t b ≤ n)
      going_size =
          let s = going_standing in
          let e : size_at t b ≡ s.size = node_size t n b s.size s.node in
          (omega (arith, e, s.node.some), omega (arith, e, s.node.within))

      here : (m : ℕ) → n ≤ b + m → (j : ℕ) × (m ≡ suc j) × (scan n t m b ≡ run b (size_at t b) ∷ scan n t j (b + size_at t b))
      here zero o = let z : ⊥ = omega arith in absurd z
      here (suc j) o = (j, refl, rw (lt-ltb b n h))

      rest_is : (m : ℕ) → n ≤ b + m → (rest : List Run) × (scan n t m b ≡ run b (size_at t b) ∷ rest)
      rest_is m o = let z = here m o in (scan n t z.0 (b + size_at t b), z.2)

      -- there is room for the calls of the node
      pub going_room : 2 * (k₀ + length (F (nodes n t))) ≤ length l₀ → 2 * (k + length (f (run b (size_at t b)))) ≤ length l
      going_room o =
          let z = rest_is g.fuel g.enough in
          let e : nodes n t ≡ g.passed ++ run b (size_at t b) ∷ z.0 = g.is ∙ ap (λ (x : List Run). g.passed ++ x) (g.from ∙ z.1) in
          omega (
            arith,
            o,
            written_long g.put,
            g.put.next,
            ap (λ (x : List Run). length (F x)) e,
            ap {B = ℕ} length (folds_append F f w g.passed (run b (size_at t b) ∷ z.0)),
            ap {B = ℕ} length (w.cons (run b (size_at t b)) z.0),
            length-append (F g.passed) (F (run b (size_at t b) ∷ z.0)),
            length-append (f (run b (size_at t b))) (F z.0),
          )

      pub going_on : (s r : ℕ) (l' : List ℕ) → s ≡ size_at t b → Written (f (run b (size_at t b))) k l r l' → Going F n t k₀ l₀ (b + s) r l'
      going_on s r l' e p =
          let x : Run = run b (size_at t b) in
          let z = here g.fuel g.enough in
          let q : F (g.passed ++ x ∷ []) ≡ F g.passed ++ f x =
          folds_append F f w g.passed (x ∷ []) ∙ ap (λ (y : List Call). F g.passed ++ y) (w.cons x [] ∙ ap (λ (y : List Call). f x ++ y) w.nil ∙ append-nil (f x)) in
          let d = going_standing in
          let m : NodeAt t n b s = subst⁻¹ (NodeAt t n b) (e ∙ node_size t n b d.size d.node) d.node in
          record {
            passed = g.passed ++ x ∷ [];
            rest = scan n t z.0 (b + size_at t b);
            is = g.is ∙ ap (λ (y : List Run). g.passed ++ y) (g.from ∙ z.2) ∙ sym (append_assoc g.passed (x ∷ []) (scan n t z.0 (b + size_at t b)));
            put = subst⁻¹ (λ (y : List Call). Written y k₀ l₀ r l') q (written_on g.put p);
            starts = after g.starts m refl;
            within = m.within;
            fuel = z.0;
            enough = omega (arith, g.enough, z.1, m.some);
            from = ap (λ (y : ℕ). scan n t z.0 (b + y)) (sym e);
          }
