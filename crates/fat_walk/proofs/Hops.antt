-- A walk over the nodes in the order of their blocks: whether one starts at a block.
use mathlib.Core.Path.{◌≡◌, refl, ap, subst, subst⁻¹, ◌∙◌}
use mathlib.Core.List.Memᴰ
use mathlib.Core.Logic.{⊎_elim}
use mathlib.Core.Bool.{true, false}
use Prim.Native.Nat.{ℕ, zero, suc, ◌+◌, ◌≤◌, ◌<◌}
use native.Mathlib.Omega.{arith}
use Rattle.words.proofs.Laws as words
use Rattle.fat_node.specs.Entry.{Bytes}
use Rattle.fat_node.specs.Node.{Run, run, NodeAt, prev_at, next_at}
use Rattle.fat_node.proofs.Nodes.{node_one, le_or_lt}
use Rattle.fat_table.specs.Sound.{Starts, begin, after, IsNode, File}
use Rattle.fat_table.specs.Chain.{size_at, free_at}
use Rattle.fat_table.specs.Layout.{Layout, layout, hits}
use Rattle.fat_table.proofs.Layouts.{hits_in, hits_most, covers_perm}
use Rattle.fat_table.proofs.Chains.{pick, mem_perm, mem_hits}
use Rattle.fat_table.proofs.Sounds.{node_size, run_node, node_run}
use Rattle.fat_table.proofs.Files.{Whole, seen}
use Rattle.fat_walk.specs.Volume.{Volume}
use Rattle.fat_walk.specs.Inner.Chains.{Standing}

pub whole_of : (n : ℕ) (t : Bytes) → Volume n t → words.Bytes t → Whole n t
whole_of n t v g = record { small = v.few; bytes = g; room = v.room; sound = v.sound }

-- a node that starts after another starts after its end
pub starts_after : (n : ℕ) (t : Bytes) → Whole n t → (c s b : ℕ) → IsNode t n c → NodeAt t n c s → IsNode t n b → c < b → c + s ≤ b
starts_after n t w c s b i m j h =
    let v = seen n t w in
    let L : Layout = layout (free_at n t) v.files in
    let x = node_run n w.small t L v.holds c i in
    let y = node_run n w.small t L v.holds b j in
    let e : x.0.size ≡ s = node_one t n c x.0.size s (subst (λ (z : ℕ). NodeAt t n z x.0.size) x.2 (run_node n w.small t L v.holds x.0 x.1).1) m in
    let p = pick x.1 in
    let k : hits b y.0 ≡ 1 =
    hits_in b y.0 (omega (arith, y.2)) (omega (arith, y.2, (run_node n w.small t L v.holds y.0 y.1).1.some)) in
    ⊎_elim
    (λ q. let z : ⊥ = omega (arith, ap (λ (r : Run). r.start) q, x.2, y.2) in absurd z)
    (λ q. ⊎_elim
    (λ o. omega (arith, o, e, x.2))
    (λ o.
    let z : ⊥ =
    omega (arith, k, mem_hits b q, covers_perm b p.1, v.holds.tiled.once b, hits_most b (run 0 n), hits_in b x.0 (omega (arith, x.2)) o) in
    absurd z)
    (le_or_lt (x.0.start + x.0.size) b))
    (Memᴰ.cases_cons (mem_perm p.1 y.1))

-- the links of a node are indexes of blocks
below : (n : ℕ) (q : ℕ) → ((j : ℕ) → q ≡ j + 1 → j < n) → q ≤ n
below n zero h = omega arith
below n (suc j) h = omega (arith, h j (omega arith))

pub node_standing : (n : ℕ) (t : Bytes) → Whole n t → (b : ℕ) → IsNode t n b → Standing n t b
node_standing n t w b i =
    let o = w.sound.covered b i in
    record {
      few = w.small;
      room = w.room;
      size = o.0;
      node = o.1;
      prev = below n (prev_at t b) (λ j e. (w.sound.back b j i e).0.1);
      next = below n (next_at t b) (λ j e. (w.sound.forth b j i e).0.1);
    }

-- the walk towards block b stands at block c
pub record Hopping (n : ℕ) (t : Bytes) (b c : ℕ) : Type 0 where
  pub starts : Starts t n c
  pub within : c ≤ n
  pub before : IsNode t n b → c ≤ b

pub hop_begin : (n : ℕ) (t : Bytes) (b : ℕ) → Hopping n t b 0
hop_begin n t b = record { starts = begin; within = omega arith; before = λ i. omega arith }

module _ (n : ℕ) (t : Bytes) (b c : ℕ) (v : Volume n t) (g : words.Bytes t) (w : Hopping n t b c) (h : b < n) where
  module _ (k : c < b) where
    here : IsNode t n c
    here = (w.starts, omega arith)

    pub hop_standing : Standing n t c
    hop_standing = node_standing n t (whole_of n t v g) c here

    pub hop_within : (1 ≤ size_at t c) × (c + size_at t c ≤ n)
    hop_within =
        let s = hop_standing in
        let e : size_at t c ≡ s.size = node_size t n c s.size s.node in
        (omega (arith, e, s.node.some), omega (arith, e, s.node.within))

    pub hop_next : (s : ℕ) → s ≡ size_at t c → Hopping n t b (c + s)
    hop_next s e =
        let z = hop_standing in
        let q : s ≡ z.size = e ∙ node_size t n c z.size z.node in
        let m : NodeAt t n c s = subst⁻¹ (NodeAt t n c) q z.node in
        record {
          starts = after w.starts m refl;
          within = m.within;
          before = λ i. starts_after n t (whole_of n t v g) c s b here m i k;
        }

-- a block past the last begins no file
pub file_out : (t : Bytes) (n b : ℕ) → n ≤ b → (false ≡ true → File t n b) × (File t n b → false ≡ true)
file_out t n b h =
    ((λ e. let z : ◌≡◌ {A = ℕ} 0 1 = cc in let z' : ⊥ = omega (arith, z) in absurd z'), (λ f. let z : ⊥ = omega (arith, f.0.1, h) in absurd z))
