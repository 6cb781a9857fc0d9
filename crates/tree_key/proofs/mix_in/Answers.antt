use mathlib.Core.Path.{ap, ◌∙◌}
use Prim.Native.Nat.{ℕ}
use borrow.Author.Rules.{rules}
use lib.Bits.{bit_xor}
use Rattle.tree_key.specs.Hash.{mix}
use Rattle.tree_key.proofs.Laws.{rotated_is}
use Rattle.tree_key.proofs.mix_in.Goals as goal

pub returns : goal.returns
unfolding mix
returns c = ap (λ (z : ℕ). bit_xor z c.args.w) (c.rotate_right.ensures ∙ rotated_is c.args.h (search rules))
