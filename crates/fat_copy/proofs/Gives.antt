-- What read and write give, from what their judge told.
use mathlib.Core.Path.{◌≡◌, ap, subst, subst⁻¹}
use mathlib.Core.List.{List}
use Prim.Native.Nat.{ℕ}
use native.Mathlib.Numerals.{add-one}
use lib.ListN.{length}
use Rattle.words.proofs.Laws as words
use Rattle.order.specs.First.{First}
use Rattle.order.specs.Answer as is
use Rattle.order.proofs.Tests.{tests_passed}
use Rattle.fat_node.specs.Entry.{Bytes}
use Rattle.fat_node.specs.Node.{Run}
use Rattle.fat_table.specs.Chain.{chain_at, file_at}
use Rattle.fat_promises.specs.Blocks.{blocks_of, bytes_at, written}
use Rattle.fat_promises.specs.Calls.{Carry, carry_gives, carry_tests, carry_rows, read_done, write_done}
use Rattle.fat_promises.proofs.May.{none_carry}
use Rattle.fat_walk.specs.Volume.{Volume}
use Rattle.fat_walk.specs.Inner.Chains.{Chain}
use Rattle.fat_judge.specs.Inner.Stretches.{CarriesAt, Carries}
use Rattle.fat_judge.specs.Inner.Plans.{CarryAt}
use Rattle.fat_walk.proofs.Found.{file_from}

-- the calls ---------------------------------------------------------------------------------------------------------------

module _ (n : ℕ) (t : Bytes) (v : Volume n t) (g : words.Bytes t) (l b pos many i f : ℕ) (told : CarryAt n t l b pos many i f) where
  carries : CarriesAt n t l (file_at n t b) pos many i f
  carries = record {
    stands = subst (λ (j : ℕ). Chain n t (chain_at t n j)) (add-one b) (file_from n t v g b told.may.file).chain;
    room = told.may.enough;
    at = told.at;
  }

  pub carry_goes : Carries n t l many i f
  carry_goes = record { chain = file_at n t b; pos = pos; at = carries }

  done_as : (bytes : Bytes) (done : Carry) (o : Carry) → o ≡ done → First (carry_rows n t l b pos many bytes) done o
  done_as bytes done o q =
      subst⁻¹ (λ (z : Carry). First (carry_rows n t l b pos many bytes) done z) q
      (tests_passed (λ a. carry_gives a bytes) done (carry_tests n t l b pos many) (none_carry n t b l pos many told.may))

  pub read_done_lem : (d buf u : Bytes) → ((c : List Run) (p : ℕ) → CarriesAt n t l c p many i f → u ≡ bytes_at (length buf) d l (blocks_of c) p)
      → First (carry_rows n t l b pos many buf) (read_done n t d l b pos buf) (carry_gives is.Done u)
  read_done_lem d buf u q = done_as buf (read_done n t d l b pos buf) (carry_gives is.Done u) (ap (carry_gives is.Done) (q (file_at n t b) pos carries))

  pub write_done_lem : (d buf u : Bytes) → ((c : List Run) (p : ℕ) → CarriesAt n t l c p many i f → u ≡ written buf d l (blocks_of c) p)
      → First (carry_rows n t l b pos many d) (write_done n t d l b pos buf) (carry_gives is.Done u)
  write_done_lem d buf u q = done_as d (write_done n t d l b pos buf) (carry_gives is.Done u) (ap (carry_gives is.Done) (q (file_at n t b) pos carries))
