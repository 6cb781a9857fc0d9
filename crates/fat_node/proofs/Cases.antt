-- The size of a node that is known to stand.
use Prim.Native.Nat.{ℕ}
use mathlib.Core.Path.{◌≡◌}
use mathlib.Core.Bool.{true, false}
use native.Mathlib.Omega.{arith}

-- false is not true
pub untrue : {A : Type 0} → false ≡ true → A
untrue e = let z : ◌≡◌ {A = ℕ} 0 1 = cc in absurd (omega arith)
