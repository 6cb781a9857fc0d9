-- What the tests of the sizes tell, and what format answers by them.
use Prim.Native.Nat.{◌+◌, ◌*◌, ◌%◌, ◌≤◌}
use mathlib.Core.Path.{◌≡◌, sym, ◌∙◌}
use mathlib.Core.Bool.{Bool, true, false}
use mathlib.Core.Logic.{inl, inr, ⊎_elim}
use native.Mathlib.Omega.{arith}
use lib.ListN.{length}
use Rattle.order.specs.Answer.{Answer}
use Rattle.order.proofs.One.{one}
use Rattle.fat_node.specs.Entry.{Bytes}
use Rattle.fat_node.specs.Sizes.{blocks, Misfit, Outside}
use Rattle.fat_node.specs.Format.{format_rows, format_done, FormatPromise}
use Rattle.fat_node.proofs.Nodes.{le_or_lt}
use Rattle.fat_node.proofs.Cases.{untrue}

-- a test that said no
pub denied : {P : Type 0} (x : Bool) → (P → x ≡ true) → x ≡ false → P → ⊥
denied x told e p = untrue (sym e ∙ told p)

-- a table that passed has its length from its blocks, and these are 1 to a million
pub fit : (t : Bytes) → (Misfit t → ⊥) → length t ≡ 8 * (blocks t + 1)
fit t ok =
    ⊎_elim
    (λ k.
    ⊎_elim
    (λ e. omega (arith, k, e))
    (λ e. absurd (ok (inr (λ z. omega (arith, e, z)))))
    (le_or_lt (length t % 8) 0))
    (λ k. absurd (ok (inl k)))
    (le_or_lt 8 (length t))

pub inside : (t : Bytes) → (Outside t → ⊥) → (1 ≤ blocks t) × (blocks t ≤ 1000000)
inside t ok = (
  ⊎_elim (λ k. k) (λ k. absurd (ok (inl k))) (le_or_lt 1 (blocks t)),
  ⊎_elim (λ k. k) (λ k. absurd (ok (inr k))) (le_or_lt (blocks t) 1000000),
)

-- the promise and the table leave one answer and one table afterwards
pub format_one : (t : Bytes) (r r' : Answer) (x x' : Bytes) → FormatPromise t r x → FormatPromise t r' x'
    → ◌≡◌ {A = Answer × Bytes} (r, x) (r', x')
format_one t r r' x x' p q = one (format_rows t) (format_done t) (r, x) (r', x') p q
