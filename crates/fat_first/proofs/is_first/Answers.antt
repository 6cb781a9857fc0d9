use native.Mathlib.Omega.{arith}
use borrow.Author.Tests.{ltb-true, lt-ltb}
use Rattle.fat_walk.proofs.Found.{are_bytes}
use Rattle.fat_first.proofs.Builds.{first_long, first_says}
use Rattle.fat_first.proofs.is_first.Goals as goal

pub has-requires : goal.has-requires
has-requires c = search (first_long, are_bytes)

pub returns-then-b-n : goal.returns-then-b-n
returns-then-b-n c =
    first_says _ _ c.requires.volume (are_bytes _ c.type_inv.table) _ c.requires.firsts_value _ c.if-b-n.true _ c.has.ensures

pub returns-else-b-n : goal.returns-else-b-n
returns-else-b-n c =
    (λ x. let z : ⊥ = omega (arith, ltb-true c.args.b c.args.n x, c.if-b-n.false) in absurd z, λ f. lt-ltb c.args.b c.args.n f.0.1)
