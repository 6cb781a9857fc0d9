-- The three parts of a history, one after the other in the list.
use mathlib.Core.Path.{◌≡◌, ap, subst}
use mathlib.Core.List.{List}
use Prim.Native.Nat.{ℕ, ◌+◌, ◌*◌, ◌≤◌}
use native.Mathlib.Omega.{arith}
use lib.ListN.{length}
use Rattle.words.proofs.Laws as words
use Rattle.fat_node.specs.Entry.{Bytes}
use Rattle.fat_table.specs.Chain.{head_at, chain_at}
use Rattle.fat_table.specs.Counts.{nodes}
use Rattle.fat_walk.specs.Volume.{Volume}
use Rattle.fat_walk.specs.Inner.Chains.{ChainFrom}
use Rattle.fat_walk.proofs.Hops.{whole_of}
use Rattle.fat_walk.proofs.Found.{head_chain}
use Rattle.fat_retrace.specs.History.{makes, gives, joins_all, files_in, history}
use Rattle.fat_retrace.specs.Inner.Written.{Written, GivenUp}
use Rattle.fat_retrace.proofs.Few.{Short, short, length_makes}
use Rattle.fat_retrace.proofs.Puts.{written_long, written_on}

module _ (n : ℕ) (t : Bytes) (v : Volume n t) (g : words.Bytes t) (l : List ℕ) (o : 5 * n ≤ length l) where
  few : Short n t
  few = short n t (whole_of n t v g)

  pub room_make : 2 * length (nodes n t) ≤ length l
  room_make = omega (arith, o, few.room)

  module _ (k : ℕ) (l₁ : List ℕ) (a : Written (makes (nodes n t)) 0 l k l₁) where
    pub room_join : 2 * (k + length (joins_all (files_in n t (nodes n t)))) ≤ length l₁
    room_join = omega (arith, o, few.room, few.sum, few.half, a.next, length_makes (nodes n t), written_long a)

    module _ (j : ℕ) (l₂ : List ℕ) (b : Written (joins_all (files_in n t (nodes n t))) k l₁ j l₂) (h : ℕ) (e : h ≡ head_at t) where
      pub free_from : ChainFrom n t h
      free_from = head_chain n t v g h e

      pub room_give : 2 * (j + length (chain_at t n h)) ≤ length l₂
      room_give =
          omega (
            arith,
            o,
            few.room,
            few.sum,
            few.half,
            a.next,
            b.next,
            length_makes (nodes n t),
            written_long a,
            written_long b,
            ap (λ (x : ℕ). length (chain_at t n x)) e,
          )

      pub all_written : (r m : ℕ) (l₃ : List ℕ) → GivenUp (chain_at t n h) j l₂ r m l₃ → Written (history n t) 0 l r l₃
      unfolding history
      all_written r m l₃ w = written_on a (written_on b (subst (λ (x : ℕ). Written (gives (chain_at t n x)) j l₂ r l₃) e w.written))
