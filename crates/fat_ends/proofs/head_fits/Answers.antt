-- `fat_ends::head_fits` meets its contract.
use Rattle.std.proofs.Common.{sym, ap, ◌∙◌, ◌-◌, not, arith}
use borrow.Author.Tests.{ne_eqb}
use Rattle.fat_node.proofs.Cases.{untrue}
use Rattle.fat_ends.proofs.Laws.{inside}
use Rattle.fat_ends.proofs.head_fits.Goals as goal
use Rattle.fat_ends.proofs.head_fits.Goals.{then-h-work, else-h-work}

pub returns-else-work-h-ne0 : goal.returns-else-work-h-ne0
returns-else-work-h-ne0 c = (
  λ e. untrue (sym c.if-work-h-ne0.false ∙ e),
  λ f.
      let g = f (c.args.h - 1) (omega arith) in
      elim c.if-h-work.branch [
        | then-h-work w ↦ w.value-is ∙ ap not (ne_eqb _ 0 (λ e. omega (arith, g.0, e)))
        | else-h-work w ↦ absurd (omega (arith, inside c.args.work.now (c.args.h - 1) g.0))
      ],
)
