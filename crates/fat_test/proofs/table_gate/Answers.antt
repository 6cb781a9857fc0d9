-- `fat_test::table_gate` meets its contract.
use Rattle.std.proofs.Common.{ap, ℕ, ◌*◌, ◌≤◌, arith}
use mathlib.Core.Logic.{inr, ⊎_elim}
use Rattle.fat_node.proofs.Nodes.{le_or_lt}
use Rattle.fat_node.proofs.Sizes.{denied, inside}
use Rattle.fat_test.proofs.Change.{table_misfit, table_outside, table_unfit, table_told, table_small}
use Rattle.fat_test.proofs.table_gate.Goals as goal
use Rattle.fat_test.proofs.table_gate.Goals.{then-outside-via-then-outside, then-outside-via-else-outside+then-unfit}

pub returns-then-misfit : goal.returns-then-misfit
returns-then-misfit c = table_misfit _ _ _ (c.misfit.ensures.0 c.if-misfit.true)

pub returns-then-outside : goal.returns-then-outside
returns-then-outside c =
    elim c.then-outside.branch [
      | then-outside-via-then-outside w ↦ table_outside _ _ _ (denied _ c.misfit.ensures.1 c.if-misfit.false) (c.outside.ensures.0 w.if-outside.true)
      | then-outside-via-else-outside+then-unfit w ↦ table_unfit _ _ _ (denied _ c.misfit.ensures.1 c.if-misfit.false) (w.unfit.ensures.0 w.if-unfit.true)
    ]

pub overflow_mul-n : goal.overflow_mul-n
overflow_mul-n c =
    let few = inside c.args.table.now (denied _ c.outside.ensures.1 c.if-outside.false) in
    let low : c.args.block_len ≤ 65536 =
    ⊎_elim (λ h. h) (λ h. absurd (c.unfit.ensures.1 c.if-unfit.false (inr h))) (le_or_lt c.args.block_len 65536) in
    omega (arith, few, c.blocks-n.ensures, table_small c.blocks-n.result c.args.block_len (omega (arith, few, c.blocks-n.ensures)) low)

pub returns : goal.returns
returns c =
    table_told c.args.table.now c.args.block_len c.args.work.now (denied _ c.misfit.ensures.1 c.if-misfit.false)
    _ (ap (λ (x : ℕ). x * c.args.block_len) c.blocks-n.ensures) _ c.change_gate.result c.change_gate.ensures
