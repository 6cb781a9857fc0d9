-- The first of two faults, and what the absence of a fault says of the size at a block.
use mathlib.Core.Path.{◌≡◌, refl, sym, subst}
use mathlib.Core.Bool.{Bool, true, false}
use mathlib.Core.Logic.{⊎_elim}
use Prim.Native.Nat.{ℕ, ◌+◌, ◌-◌, ◌<◌}
use native.Mathlib.Omega.{arith}
use lib.Dec.{eqb}
use borrow.Author.Tests.{eqb-true, eqb-false, eq-eqb, ne_eqb}
use Rattle.order.specs.declared.Fault.{Fault}
use Rattle.fat_node.specs.Entry.{Bytes, v_at}
use Rattle.fat_node.specs.Node.{NodeAt}
use Rattle.fat_node.specs.Fault.{when, node_fault}
use Rattle.fat_node.proofs.Faults as faults
use Rattle.fat_node.proofs.Faults.{when_yes, when_no}
use Rattle.fat_table.specs.Chain.{size_at}
use Rattle.fat_table.proofs.Stepped.{size_one, size_more}
use Rattle.fat_fault.specs.Fault.{or_else}

pub first_none : (f g : Fault) → (or_else f g).rule ≡ 0 → (f.rule ≡ 0) × (g.rule ≡ 0)
unfolding or_else when
first_none f g h = go (eqb f.rule 0) refl h
  where
    go : (b : Bool) → eqb f.rule 0 ≡ b → (when b g f).rule ≡ 0 → (f.rule ≡ 0) × (g.rule ≡ 0)
    go true e h = (eqb-true f.rule 0 e, h)
    go false e h = absurd (eqb-false f.rule 0 e h)

pub then_second : (f g : Fault) → f.rule ≡ 0 → or_else f g ≡ g
unfolding or_else
then_second f g h = when_yes _ _ _ (eq-eqb f.rule 0 h)

pub then_first : (f g : Fault) → (f.rule ≡ 0 → ⊥) → or_else f g ≡ f
unfolding or_else
then_first f g h = when_no _ _ _ (ne_eqb f.rule 0 h)

-- where there is no fault a node stands, of the size that the table says
pub clear_node : (n : ℕ) (t : Bytes) (b : ℕ) → b < n → (node_fault n t b).rule ≡ 0 → NodeAt t n b (size_at t b)
clear_node n t b room h =
    ⊎_elim
    (λ w. subst (NodeAt t n b) (sym (size_one t b w.0)) w.1)
    (λ w. subst (NodeAt t n b) (sym (size_more t b (v_at t (b + 2) - b) w.0 (omega (arith, w.1)))) w.2)
    (faults.clear_node n t b room h)
