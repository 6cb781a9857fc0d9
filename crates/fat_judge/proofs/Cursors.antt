-- Where a byte of a file lies, in small numbers, and whether bytes pass the end of a file.
use mathlib.Core.Path.{◌≡◌, ap, subst}
use mathlib.Core.List.{List}
use Prim.Native.Nat.{ℕ, suc, ◌+◌, ◌-◌, ◌*◌, ◌/◌, ◌%◌, ◌≤◌, ◌<◌}
use native.Mathlib.Omega.{arith}
use native.Mathlib.Nat.{add-mul, suc-mul, mod-lt, div-add-mod', mul-le-mul, mul-le-mul_right}
use mathlib.Core.Bool.{Bool, true, false}
use Rattle.fat_node.specs.Entry.{Bytes}
use Rattle.fat_node.specs.Node.{Run}
use Rattle.fat_table.specs.Chain.{total, size_at}
use Rattle.fat_walk.specs.Inner.Chains.{Standing, Chain, SeekSays}
use Rattle.fat_judge.specs.Inner.Stretches.{CursorAt}
use Rattle.fat_walk.specs.declared.Sought.{Sought}
use Rattle.fat_walk.specs.declared.Sought.TheVariants.{Within}
use Rattle.fat_walk.proofs.Nodes.{mid_within, standing_size}
use Rattle.fat_walk.proofs.Found.{says_within}

-- so many blocks have no more bytes than the largest volume
pub few_bytes : (n l b : ℕ) → n ≤ 1000000 → l ≤ 65536 → b ≤ n → b * l ≤ 65536000000
few_bytes n l b h k e = omega (arith, mul-le-mul {n₁ = b} {m₁ = l} {n₂ = 1000000} {m₂ = 65536} (omega (arith, h, e)) k)

-- the cursor --------------------------------------------------------------------------------------------------------------

module _ (c : List Run) (l pos : ℕ) (some : 1 ≤ l) (r : Sought) (w : SeekSays c (pos / l + 1) r) where
  pub cursor_in : (b m : ℕ) → r ≡ Within b m → CursorAt c l pos (b + 1) ((m - 1) * l + pos % l)
  cursor_in b m e =
      let i = says_within c (pos / l + 1) r b m w e in
      let s : pos / l ≡ total i.before + (m - 1) = omega (arith, i.sum, i.some) in
      let q : suc (m - 1) ≡ m = omega (arith, i.some) in
      record {
        before = i.before;
        node = i.node;
        after = i.after;
        is = i.is;
        at = omega (arith, i.at);
        sum = omega (arith, div-add-mod' pos l, ap (λ (x : ℕ). x * l) s, add-mul (total i.before) (m - 1) l);
        fits = omega (arith, mod-lt pos some, suc-mul (m - 1) l, ap (λ (x : ℕ). x * l) q, mul-le-mul_right l i.fits);
      }

-- its numbers are small
pub cursor_few : (n : ℕ) (t : Bytes) (c : List Run) (l pos : ℕ) (r : Sought) (b m : ℕ) → Chain n t c → 1 ≤ l → l ≤ 65536 → SeekSays c (pos / l + 1) r → r ≡ Within b m
    → (b ≤ 1000000) × (1 ≤ m) × ((m - 1) * l + pos % l ≤ 65536000000)
cursor_few n t c l pos r b m h some few w e =
    let i = says_within c (pos / l + 1) r b m w e in
    let q : i.node.start + i.node.size ≤ n = mid_within n t i.before i.node i.after (subst (Chain n t) i.is h) in
    let k = cursor_in c l pos some r w b m e in (
      omega (arith, q, i.at, h.few),
      i.some,
      omega (arith, k.fits, few_bytes n l k.node.size h.few few (omega (arith, mid_within n t k.before k.node k.after (subst (Chain n t) k.is h)))),
    )

-- what a stretch is made of
pub same_bytes : (s z l : ℕ) → s ≡ z → s * l ≡ z * l
same_bytes s z l e = ap (λ (x : ℕ). x * l) e

pub stretch_few : (n : ℕ) (t : Bytes) (b l : ℕ) → Standing n t b → l ≤ 65536 → b * l + size_at t b * l ≤ 65536000000
stretch_few n t b l w k =
    let z = standing_size n t b w in
    omega (arith, add-mul b (size_at t b) l, few_bytes n l (b + size_at t b) w.few k z.1)

-- the end of a file -------------------------------------------------------------------------------------------------------

abbrev pub Passes : Bool → ℕ → ℕ → ℕ → Type 0
Passes r size pos len = (r ≡ true → size < pos + len) × (r ≡ false → pos + len ≤ size)
