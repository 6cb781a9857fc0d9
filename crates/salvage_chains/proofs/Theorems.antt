-- How many places are enough, and one answer.
use mathlib.Core.Path.{◌≡◌, ap}
use mathlib.Core.List.{List, [], ◌∷◌, ◌++◌}
use mathlib.Core.Logic.{⊎_elim}
use Prim.Native.Nat.{ℕ, ◌+◌, ◌*◌, ◌≤◌, ◌<◌}
use native.Mathlib.Omega.{arith}
use Rattle.order.specs.Gate.{cleared}
use Rattle.order.specs.Beside.{Beside, beside, within}
use Rattle.order.proofs.One.{one}
use Rattle.fat_node.specs.Entry.{Bytes}
use Rattle.fat_node.specs.Sizes.{blocks}
use Rattle.fat_node.proofs.Nodes.{le_or_lt}
use Rattle.fat_table.specs.Chain.{total}
use Rattle.salvage.specs.Follow.{Salvage}
use Rattle.salvage_shared.specs.Calls.{shared_gate}
use Rattle.salvage_shared.proofs.Loops.{few}
use Rattle.salvage_chains.specs.Chains as of
use Rattle.salvage_chains.specs.Chains.{chains_from, chains, many}
use Rattle.salvage_chains.proofs.Loops.{one_is, one_not}
use Rattle.salvage_chains.specs.Calls.{Chained, chained_gives, chained_rows, chained_done, ChainsPromise}

-- with one chain more, no more than 5n blocks are followed
one_few : (n : ℕ) (t : Bytes) (b spent : ℕ) → spent ≤ 5 * n → spent + total (of.one n t b spent).runs ≤ 5 * n
one_few n t b spent h =
    ⊎_elim
    (λ (k : spent ≤ 4 * n). omega (arith, k, few n t b, ap (λ (c : Salvage). total c.runs) (one_is n t b spent k)))
    (λ (k : 4 * n < spent). omega (arith, h, ap (λ (c : Salvage). total c.runs) (one_not n t b spent k)))
    (le_or_lt spent (4 * n))

all_few : (n : ℕ) (t : Bytes) (firsts : List ℕ) (spent : ℕ) → spent ≤ 5 * n → spent + many (chains_from n t firsts spent) ≤ 5 * n
all_few n t [] spent h = omega (arith, h)
all_few n t (b ∷ bs) spent h = omega (arith, all_few n t bs (spent + total (of.one n t b spent).runs) (one_few n t b spent h))

-- a list of 5n places can always hold the blocks
pub places : (n : ℕ) (t : Bytes) (firsts : List ℕ) → many (chains n t firsts) ≤ 5 * n
unfolding chains
places n t firsts = omega (arith, all_few n t firsts 0 (omega arith))

-- the promise and what is lent leave one outcome
pub one_chains : (t : Bytes) (work firsts e list : List ℕ) (o o' : Beside Chained) → ChainsPromise t work firsts e list o → ChainsPromise t work firsts e list o' → o ≡ o'
one_chains t work firsts e list o o' p q =
    one (shared_gate (λ a w. beside (chained_gives a 0 e list) w) t work firsts ++ within (cleared (blocks t) work) (chained_rows (blocks t) t firsts e list))
    (beside (chained_done (blocks t) t firsts e list) (cleared (blocks t) work)) o o' p q
