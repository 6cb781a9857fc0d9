-- What passes a call's tests, by name, and the reverse.
use mathlib.Core.Path.{◌≡◌}
use mathlib.Core.Logic.{◌⊎◌, ⊎_elim}
use Prim.Native.Nat.{ℕ, ◌+◌, ◌≤◌, ◌<◌}
use native.Mathlib.Omega.{arith}
use Rattle.order.specs.Given.{None}
use Rattle.fat_node.specs.Entry.{Bytes}
use Rattle.fat_node.proofs.Nodes.{le_or_lt}
use Rattle.fat_table.specs.Sound.{File}
use Rattle.fat_table.specs.Chain.{total, free_at, file_at}
use Rattle.fat_table.proofs.Files.{Whole}
use Rattle.fat_table.proofs.Decided.{file_decided}
use Rattle.fat_promises.specs.Calls.{
  create_tests,
  MayCreate,
  resize_tests,
  MayResize,
  delete_tests,
  MayDelete,
  list_tests,
  MayList,
  size_of,
  carry_tests,
  MayCarry,
}

-- a number that is not below is not
not_less : (a b : ℕ) → (a < b → ⊥) → b ≤ a
not_less a b h = ⊎_elim (λ e. e) (λ e. absurd (h e)) (le_or_lt b a)

not_none : (c : ℕ) → (c ≡ 0 → ⊥) → 1 ≤ c
not_none c h = ⊎_elim (λ e. e) (λ e. absurd (h (omega (arith, e)))) (le_or_lt 1 c)

module _ (n : ℕ) (t : Bytes) where
  pub may_create : (count : ℕ) → None (create_tests n t count) → MayCreate n t count
  may_create count (some, (enough, _)) = record { some = not_none count some; enough = not_less (total (free_at n t)) count enough }

  pub none_create : (count : ℕ) → MayCreate n t count → None (create_tests n t count)
  none_create count m = (λ h. omega (arith, h, m.some), (λ h. omega (arith, h, m.enough), tt))

  -- whether a block is a file's first is decided, on a table that is whole
  module _ (w : Whole n t) (b : ℕ) where
    file : ((File t n b → ⊥) → ⊥) → File t n b
    file h = ⊎_elim (λ f. f) (λ f. absurd (h f)) (file_decided n t b w)

    pub may_resize : (count : ℕ) → None (resize_tests n t b count) → MayResize n t b count
    may_resize count (is, (some, (enough, _))) =
        record { file = file is; some = not_none count some; enough = not_less (total (file_at n t b) + total (free_at n t)) count enough }

    pub may_delete : None (delete_tests n t b) → MayDelete n t b
    may_delete (is, _) = record { file = file is }

    pub may_list : (room : ℕ) → None (list_tests n t b room) → MayList n t b room
    may_list room (is, (enough, _)) = record { file = file is; enough = not_less room (total (file_at n t b)) enough }

    pub may_carry : (l pos many : ℕ) → None (carry_tests n t l b pos many) → MayCarry n t l b pos many
    may_carry l pos many (is, (enough, _)) = record { file = file is; enough = not_less (size_of n t l b) (pos + many) enough }

  module _ (b : ℕ) where
    pub none_resize : (count : ℕ) → MayResize n t b count → None (resize_tests n t b count)
    none_resize count m = (λ h. h m.file, (λ h. omega (arith, h, m.some), (λ h. omega (arith, h, m.enough), tt)))

    pub none_delete : MayDelete n t b → None (delete_tests n t b)
    none_delete m = (λ h. h m.file, tt)

    pub none_list : (room : ℕ) → MayList n t b room → None (list_tests n t b room)
    none_list room m = (λ h. h m.file, (λ h. omega (arith, h, m.enough), tt))

    pub none_carry : (l pos many : ℕ) → MayCarry n t l b pos many → None (carry_tests n t l b pos many)
    none_carry l pos many m = (λ h. h m.file, (λ h. omega (arith, h, m.enough), tt))
