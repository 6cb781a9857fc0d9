-- The ways out of the call that follows one chain.
use mathlib.Core.Path.{◌≡◌, ap, ◌∙◌}
use mathlib.Core.List.{List}
use mathlib.Core.Bool.{Bool, true}
use mathlib.Core.Logic.{inr}
use Prim.Native.Nat.{ℕ, ◌≤◌}
use native.Mathlib.Omega.{arith}
use lib.ListN.{length, replicate}
use lib.Seq.{sets}
use Rattle.std.specs.Prelude.{Ok}
use Rattle.order.specs.Answer.{unbroken}
use Rattle.order.specs.Answer as is
use Rattle.fat_node.specs.Entry.{Bytes}
use Rattle.fat_node.specs.Node.{Run}
use Rattle.fat_table.specs.Chain.{total}
use Rattle.fat_promises.specs.Blocks.{blocks_of}
use Rattle.fat_list.proofs.Lists.{listed_is}
use Rattle.salvage.specs.Follow.{salvaged}
use Rattle.salvage.specs.Calls.{chain_gives, chain_says}
use Rattle.salvage.specs.Inner.Walks.{Tells, WalkSays, ChainSays}
use Rattle.salvage.specs.declared.Walked.{Walked}
use Rattle.salvage.proofs.Walks.{read_some}

-- the work list is clear
pub all_clear : (n : ℕ) (w w₀ : List ℕ) → w ≡ replicate (length w₀) 0 → length w₀ ≡ n → w ≡ replicate n 0
all_clear n w w₀ e l = e ∙ ap (λ (m : ℕ). replicate m 0) l

module _ (n : ℕ) (t : Bytes) (b : ℕ) (list : List ℕ) (w w₀ : List ℕ) where
  pub out_done : (r : Bool) → Tells n t b r → r ≡ true → (m : ℕ) (x : Walked) → WalkSays n t b m x.count x.why w₀ → (l : List ℕ) → x.count ≤ length list
      → l ≡ sets list 0 (blocks_of (salvaged n t b).runs) → w ≡ replicate (length w₀) 0
      → ChainSays n t b list (chain_says (Ok x) l) w
  out_done r h e m x s l k q ew =
      let node = read_some n t b r h e in
      let c : List Run = (salvaged n t b).runs in
      let k : total c ≤ length list = omega (arith, k, s.sum) in
      record {
        given = inr (
          (λ z. z node.0 node.1),
          inr (
            (λ z. omega (arith, z, k)),
            ap (λ (m : ℕ). chain_gives is.Done m x.why l) s.sum
                ∙ ap (λ r. chain_gives is.Done (total c) r l) s.ended
                ∙ ap (chain_gives is.Done (total c) (salvaged n t b).why) (q ∙ listed_is c list k),
          ),
        );
        clear = all_clear n w w₀ ew s.long;
      }
