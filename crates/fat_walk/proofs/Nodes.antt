-- A node that stands, and a node of a chain that stands: what is read of it.
use mathlib.Core.Path.{◌≡◌, sym}
use mathlib.Core.List.{List, ◌∷◌, ◌++◌}
use Prim.Native.Nat.{ℕ, suc, ◌+◌, ◌-◌, ◌≤◌}
use native.Mathlib.Omega.{arith}
use Rattle.fat_node.specs.Entry.{Bytes}
use Rattle.fat_node.specs.Node.{Run, run, NodeAt, prev_at, next_at}
use Rattle.fat_table.specs.Chain.{size_at}
use Rattle.fat_table.specs.Layout.{hits, covers, empties}
use Rattle.fat_table.specs.Steps.{first}
use Rattle.fat_table.specs.Holds.{HoldsNode, Laid}
use Rattle.fat_table.proofs.Layouts.{covers_append, empties_append}
use Rattle.fat_table.proofs.Laying.{inside_of, first_inside}
use Rattle.fat_table.proofs.Stepped.{read_prev, read_next, read_size}
use Rattle.fat_table.proofs.Sounds.{holds_node, node_size}
use Rattle.fat_table.proofs.Resizes.{last_inside}
use Rattle.fat_table.proofs.Writes.{last_of, laid_suffix}
use Rattle.fat_walk.specs.Inner.Chains.{Standing, Chain}

-- the node x of a chain that stands: what is read of it
module _ (n : ℕ) (t : Bytes) (P : List Run) (x : Run) (B : List Run) (c : Chain n t (P ++ x ∷ B)) where
  pub mid_empties : empties P + ((1 - x.size) + empties B) ≡ 0
  mid_empties = omega (arith, c.positive, empties_append P (x ∷ B))

  pub mid_covers : (z : ℕ) → covers z P + (hits z x + covers z B) ≤ hits z (run 0 n)
  mid_covers z = omega (arith, c.inside z, covers_append z P (x ∷ B))

  pub mid_pos : 1 ≤ x.size
  mid_pos = omega (arith, mid_empties)

  pub mid_within : x.start + x.size ≤ n
  mid_within = inside_of n x mid_pos (λ z. omega (arith, mid_covers z))

  pub mid_last : last_of P 0 ≤ n
  mid_last = last_inside n P 0 (omega arith) (omega (arith, mid_empties)) (λ z. omega (arith, mid_covers z))

  pub mid_first : first B ≤ n
  mid_first = first_inside n B (omega (arith, mid_empties)) (λ z. omega (arith, mid_covers z))

  pub mid_laid : HoldsNode t x (last_of P 0) (first B) × Laid t B (suc x.start)
  mid_laid = laid_suffix t P (x ∷ B) 0 c.laid

  pub mid_prev : prev_at t x.start ≡ last_of P 0
  mid_prev = read_prev n c.few t x (last_of P 0) (first B) mid_last mid_first mid_laid.0

  pub mid_next : next_at t x.start ≡ first B
  mid_next = read_next n c.few t x (last_of P 0) (first B) mid_last mid_first mid_laid.0

  pub mid_size : size_at t x.start ≡ x.size
  mid_size = read_size n c.few t x (last_of P 0) (first B) mid_last mid_first mid_laid.0 mid_pos

  pub mid_node : NodeAt t n x.start x.size
  mid_node = holds_node n c.few t x (last_of P 0) (first B) mid_last mid_first mid_pos mid_within mid_laid.0

  pub mid_standing : Standing n t x.start
  mid_standing = record {
    few = c.few;
    room = c.room;
    size = x.size;
    node = mid_node;
    prev = omega (arith, mid_prev, mid_last);
    next = omega (arith, mid_next, mid_first);
  }

pub size_is : (t : Bytes) (n b s : ℕ) → NodeAt t n b s → s ≡ size_at t b
size_is t n b s w = sym (node_size t n b s w)

-- a node that stands has a size, and lies within
pub standing_size : (n : ℕ) (t : Bytes) (b : ℕ) → Standing n t b → (1 ≤ size_at t b) × (b + size_at t b ≤ n)
standing_size n t b w =
    let e : size_at t b ≡ w.size = node_size t n b w.size w.node in
    (omega (arith, e, w.node.some), omega (arith, e, w.node.within))
