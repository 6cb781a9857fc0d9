-- More blocks of a chain are sought than a table has: so the chain's are counted.
use mathlib.Core.Path.{◌≡◌}
use Prim.Native.Nat.{ℕ, ◌+◌, ◌-◌, ◌≤◌}
use native.Mathlib.Omega.{arith}
use Rattle.fat_node.specs.Entry.{Bytes}
use Rattle.fat_table.specs.Chain.{total, chain_at}
use Rattle.fat_walk.specs.Inner.Chains.{ChainFrom, SeekSays}
use Rattle.fat_walk.specs.declared.Sought.{Sought}
use Rattle.fat_walk.specs.declared.Sought.TheVariants.{Within, Past}
use Rattle.fat_walk.proofs.Found.{inside_count, says_within, says_past}

module _ (n : ℕ) (t : Bytes) (i : ℕ) (r : Sought) (c : ChainFrom n t i) (w : SeekSays (chain_at t n i) (n + 1) r) where
  pub count_in : (b m k : ℕ) → r ≡ Within b m → k ≡ total (chain_at t n i)
  count_in b m k e =
      let z : ⊥ = omega (arith, inside_count n t (chain_at t n i) (n + 1) b m c.chain (says_within (chain_at t n i) (n + 1) r b m w e), c.chain.sum) in
      absurd z
