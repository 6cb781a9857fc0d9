-- What an open more or less does to a record: a reader counts 1, the writer 2,147,483,648.
use mathlib.Core.Path.{◌≡◌}
use Prim.Native.Nat.{ℕ, ◌+◌, ◌-◌, ◌<◌}
use native.Mathlib.Omega.{arith}
use Rattle.tree_opens.specs.Record.{readers, writer, total, writer_alone}

module _ (r : ℕ) where
  -- nothing open is 0
  pub none_open : total r ≡ 0 → r ≡ 0
  none_open e = omega arith

  -- a reader more: the writer stays
  pub reader_in : total r < 65535 → (readers (r + 1) ≡ readers r + 1) × (writer (r + 1) ≡ writer r)
  reader_in h = (omega arith, omega arith)

  -- a writer more, where there was none: the readers stay
  pub writer_in : writer r ≡ 0 → (readers (r + writer_alone) ≡ readers r) × (writer (r + writer_alone) ≡ 1)
  writer_in e = (omega arith, omega arith)

  -- a reader less, and a writer less
  pub reader_out : 0 < readers r → (readers (r - 1) ≡ readers r - 1) × (writer (r - 1) ≡ writer r)
  reader_out h = (omega arith, omega arith)

  pub writer_out : 0 < writer r → (readers (r - writer_alone) ≡ readers r) × (writer (r - writer_alone) ≡ writer r - 1)
  writer_out h = (omega arith, omega arith)
