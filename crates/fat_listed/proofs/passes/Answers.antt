use mathlib.Core.Path.{refl}
use native.Mathlib.Omega.{arith}
use native.Mathlib.Nat.{mod-lt, mul-le-mul}
use borrow.Author.Tests.{ltb-true, ltb-false}
use Rattle.fat_listed.proofs.Tests.{yes, decide, past_before, past_whole, past_rest, within_rest}
use Rattle.fat_listed.proofs.passes.Goals as goal

pub returns-then-count-before : goal.returns-then-count-before
returns-then-count-before c = yes refl (past_before c.args.count c.args.block_len c.args.pos c.args.len c.requires.0 c.if-count-before.true)

pub returns-then-count-before-2 : goal.returns-then-count-before-2
returns-then-count-before-2 c = yes refl (past_whole c.args.count c.args.block_len c.args.pos c.args.len c.requires.0 c.if-count-before.false c.if-count-before-2.true)

pub overflow_mul-result : goal.overflow_mul-result
overflow_mul-result c = omega (arith, mul-le-mul {n₁ = c.min-left.result} {m₁ = c.args.block_len} {n₂ = 2} {m₂ = 65536} (omega (arith, c.min-left.ensures)) c.requires.1)

pub overflow_add-result : goal.overflow_add-result
overflow_add-result c = omega (arith, mod-lt c.args.pos {m = c.args.block_len} c.requires.0, mod-lt c.args.len {m = c.args.block_len} c.requires.0, c.requires.1)

pub returns : goal.returns
returns c = decide _ (λ e. past_rest c.args.count c.args.block_len c.args.pos c.args.len c.requires.0 c.if-count-before.false c.if-count-before-2.false _ c.min-left.ensures (ltb-true _ _ e)) (λ e. within_rest c.args.count c.args.block_len c.args.pos c.args.len c.requires.0 c.if-count-before.false c.if-count-before-2.false _ c.min-left.ensures (ltb-false _ _ e))
