-- `fat_test::verdict` meets its contract.
use Rattle.std.proofs.Common.{◌≡◌, ap, ◌∙◌, ℕ, List, ◌++◌, length, take, drop, replicate, arith}
use mathlib.Core.Path.{subst}
use lib.Seq.{length-take-le}
use Rattle.fat_node.specs.Sizes.{blocks}
use Rattle.fat_node.proofs.Sizes.{fit, inside}
use Rattle.fat_test.specs.Inner.Gated.{Ruled}
use Rattle.fat_test.proofs.verdict.Goals as goal

pub ruling-requires : goal.ruling-requires
ruling-requires c =
    let l : length (take c.blocks-n.result c.args.work.now) ≡ c.blocks-n.result = length-take-le c.blocks-n.result c.args.work.now (omega arith) in
    let f = fit c.args.table.now c.requires.misfit in
    let g = inside c.args.table.now c.requires.outside in
    record { table_len = omega arith; work_nonzero = (omega arith, omega arith) }

pub returns : goal.returns
returns c =
    let l : length (take c.blocks-n.result c.args.work.now) ≡ blocks c.args.table.now =
    length-take-le c.blocks-n.result c.args.work.now (omega arith) ∙ c.blocks-n.ensures in (
      subst (λ (m : ℕ). Ruled c.args.table.now m c.ruling.result) l c.ruling.ensures.0,
      ap (λ (v : List ℕ). v ++ drop c.blocks-n.result c.args.work.now) (c.ruling.ensures.1 ∙ ap (λ (m : ℕ). replicate m 0) l)
          ∙ ap (λ (m : ℕ). replicate (blocks c.args.table.now) 0 ++ drop m c.args.work.now) c.blocks-n.ensures,
    )
