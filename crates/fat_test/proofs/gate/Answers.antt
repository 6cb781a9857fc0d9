-- `fat_test::gate` meets its contract.
use Rattle.std.proofs.Common.{◌≡◌, sym, ap, ◌∙◌, ℕ, ◌*◌, arith}
use Rattle.fat_node.specs.Sizes.{blocks}
use Rattle.fat_node.proofs.Sizes.{denied}
use Rattle.fat_test.proofs.Cases.{gate_misfit, gate_uneven, gate_outside, gate_block, gate_short, gate_ruled}
use Rattle.fat_test.proofs.gate.Goals as goal
use Rattle.fat_test.proofs.gate.Goals.{
  then-misfit-via-then-misfit,
  then-misfit-via-else-misfit+then-uneven,
  then-outside-via-then-outside,
  then-outside-via-else-outside+then-unfit,
}

pub returns-then-misfit : goal.returns-then-misfit
returns-then-misfit c =
    elim c.then-misfit.branch [
      | then-misfit-via-then-misfit w ↦ gate_misfit _ _ _ _ (c.misfit.ensures.0 w.if-misfit.true)
      | then-misfit-via-else-misfit+then-uneven w ↦
          gate_uneven _ _ _ _ (λ e. w.uneven.ensures.0 w.if-uneven.true (e ∙ ap (λ (x : ℕ). x * c.args.block_len) (sym c.blocks-n.ensures)))
    ]

pub returns-then-outside : goal.returns-then-outside
returns-then-outside c =
    let sized = denied _ c.misfit.ensures.1 c.if-misfit.false in
    let even : c.args.data_len ≡ blocks c.args.table.now * c.args.block_len =
    c.uneven.ensures.1 c.if-uneven.false ∙ ap (λ (x : ℕ). x * c.args.block_len) c.blocks-n.ensures in
    elim c.then-outside.branch [
      | then-outside-via-then-outside w ↦ gate_outside _ _ _ _ sized even (c.outside.ensures.0 w.if-outside.true)
      | then-outside-via-else-outside+then-unfit w ↦ gate_block _ _ _ _ sized even (w.unfit.ensures.0 w.if-unfit.true)
    ]

pub returns-then-work-n : goal.returns-then-work-n
returns-then-work-n c =
    gate_short _ _ _ _ (denied _ c.misfit.ensures.1 c.if-misfit.false)
    (c.uneven.ensures.1 c.if-uneven.false ∙ ap (λ (x : ℕ). x * c.args.block_len) c.blocks-n.ensures)
    (denied _ c.outside.ensures.1 c.if-outside.false) (c.unfit.ensures.1 c.if-unfit.false) (omega arith)

pub verdict-requires : goal.verdict-requires
verdict-requires c = record {
  misfit = denied _ c.misfit.ensures.1 c.if-misfit.false;
  outside = denied _ c.outside.ensures.1 c.if-outside.false;
  table_in_bounds = omega arith;
}

pub returns : goal.returns
returns c =
    gate_ruled _ _ _ _ (denied _ c.misfit.ensures.1 c.if-misfit.false)
    (c.uneven.ensures.1 c.if-uneven.false ∙ ap (λ (x : ℕ). x * c.args.block_len) c.blocks-n.ensures)
    (denied _ c.outside.ensures.1 c.if-outside.false) (c.unfit.ensures.1 c.if-unfit.false) (λ s. omega arith)
    c.verdict.ensures.1 c.verdict.result c.verdict.ensures.0
