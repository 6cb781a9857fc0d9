-- Rings of a map from blocks to indexes; a contract inside the crate.
use Rattle.std.specs.Prelude.{◌≡◌, ℕ, suc}

-- by following `next` one comes from a block to x
pub data Way (next : ℕ → ℕ) (x : ℕ) : ℕ → Type 0 where
  here : Way next x x
  step : {i m : ℕ} → next i ≡ suc m → Way next x m → Way next x i

-- by following `next` from x one comes back to it
pub record Ring (next : ℕ → ℕ) (x : ℕ) : Type 0 where
  pub after : ℕ
  pub on : next x ≡ suc after
  pub back : Way next x after
