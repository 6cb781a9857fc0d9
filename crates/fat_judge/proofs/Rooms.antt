-- What the judge of open list says, from what it calls.
use mathlib.Core.Path.{◌≡◌, refl, ap}
use mathlib.Core.Logic.{inl, inr}
use Prim.Native.Nat.{ℕ, ◌+◌, ◌≤◌, ◌<◌}
use native.Mathlib.Omega.{arith}
use native.Mathlib.Numerals.{add-one}
use Rattle.words.proofs.Laws as words
use Rattle.order.specs.Given.{Given}
use Rattle.order.specs.Answer as is
use Rattle.fat_node.specs.Entry.{Bytes}
use Rattle.fat_table.specs.Sound.{File}
use Rattle.fat_promises.specs.Calls.{list_tests, MayList}
use Rattle.fat_walk.proofs.Found.{inside_count, file_from, says_within}
use Rattle.fat_table.specs.Chain.{total, chain_at, file_at}
use Rattle.fat_walk.specs.Volume.{Volume}
use Rattle.fat_walk.specs.Inner.Chains.{Chain, SeekSays}
use Rattle.fat_walk.specs.declared.Sought.{Sought}
use Rattle.fat_walk.specs.declared.Sought.TheVariants.{Within}

-- open list: a file fits in as many places as there are blocks; into fewer, what is sought past the list's room tells
module _ (n : ℕ) (t : Bytes) (v : Volume n t) (g : words.Bytes t) (b : ℕ) (f : File t n b) (room : ℕ) where
  same : total (chain_at t n (b + 1)) ≡ total (file_at n t b)
  same = ap (λ (i : ℕ). total (chain_at t n i)) (add-one b)

  chain : Chain n t (chain_at t n (b + 1))
  chain = (file_from n t v g b f).chain

  pub list_any : n ≤ room → MayList n t b room
  list_any h = record { file = f; enough = omega (arith, h, chain.sum, same) }

  module _ (r : Sought) (s : SeekSays (chain_at t n (b + 1)) (room + 1) r) where
    pub list_short : (x m : ℕ) → r ≡ Within x m → Given (list_tests n t b room) is.ListTooShort
    list_short x m e =
        let k : room + 1 ≤ total (chain_at t n (b + 1)) =
        inside_count n t (chain_at t n (b + 1)) (room + 1) x m chain (says_within (chain_at t n (b + 1)) (room + 1) r x m s e) in
        let l : room < total (file_at n t b) = omega (arith, k, same) in
        inr ((λ z. z f), inl (l, refl))
