-- `fat_fault::untied` meets its contract.
use Rattle.std.proofs.Common.{◌≡◌, sym, ap, ◌∙◌, ℕ, not, length}
use borrow.Author.Tests.{eqb-true, eqb-false, eq-eqb}
use Rattle.fat_node.proofs.Cases.{untrue}
use Rattle.fat_fault.specs.Fault.{loose}
use Rattle.fat_fault.proofs.Cases.{untied_none, untied_ring, untied_loose, untied_round}
use Rattle.fat_fault.proofs.untied.Goals as goal
use Rattle.fat_fault.proofs.untied.Goals.{then-colour, else-colour}

pub returns-then-work-b : goal.returns-then-work-b
returns-then-work-b c = (
  elim c.if-colour.branch [
    | then-colour w ↦ c.if-work-b.true ∙ untied_round _ _ _ (c.colour.ensures.yes w.if-colour.true)
    | else-colour w ↦
        c.if-work-b.true ∙ untied_ring _ _ _ _ (c.colour.ensures.no w.if-colour.false) (eqb-true _ _ (sym w.value-is ∙ c.if-work-b.true))
  ],
  λ q. untrue (sym q ∙ c.if-work-b.true),
)

pub returns-then-work-b-ne0 : goal.returns-then-work-b-ne0
returns-then-work-b-ne0 c =
    elim c.if-colour.branch [
      | then-colour w ↦ untrue (sym c.if-work-b.false ∙ w.value-is ∙ w.if-colour.true)
      | else-colour w ↦
          let k = c.colour.ensures.no w.if-colour.false in
          let l : c.loose.result ≡ loose (length c.args.work.now) c.args.table.now c.args.b = c.loose.ensures ∙ ap (λ (m : ℕ). loose m c.args.table.now c.args.b) k.marked.long in
          (untied_loose _ _ _ _ k _ c.if-work-b-ne0.true (eqb-false _ _ (sym w.value-is ∙ c.if-work-b.false)) l, λ _. k)
    ]

pub returns-else-work-b-ne0 : goal.returns-else-work-b-ne0
returns-else-work-b-ne0 c =
    elim c.if-colour.branch [
      | then-colour w ↦ untrue ((sym c.if-work-b.false ∙ w.value-is) ∙ w.if-colour.true)
      | else-colour w ↦
          let k = c.colour.ensures.no w.if-colour.false in
          (ap not (eq-eqb _ _ c.if-work-b-ne0.false) ∙ untied_none _ _ _ _ k c.if-work-b-ne0.false, λ _. k)
    ]
