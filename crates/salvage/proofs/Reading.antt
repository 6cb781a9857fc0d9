-- The test that a node can be read says yes exactly where one stands.
use mathlib.Core.Path.{◌≡◌, sym, ap, subst}
use mathlib.Core.Bool.{Bool, true, false, ◌&&◌}
use mathlib.Core.Logic.{⊎_elim}
use Prim.Native.Nat.{ℕ, ◌+◌, ◌-◌, ◌≤◌}
use native.Mathlib.Omega.{arith}
use lib.Dec.{eqb, ltb}
use borrow.Author.Tests.{ltb-true, eqb-true, eqb-false, lt-ltb, eq-eqb}
use Rattle.order.specs.declared.Fault.{Fault}
use Rattle.fat_node.specs.Entry.{Bytes, v_at}
use Rattle.fat_node.specs.Node.{NodeAt}
use Rattle.fat_node.specs.Fault.{when, node_fault}
use Rattle.fat_node.proofs.Faults.{and_yes, yes_and, clear_node, node_clear}
use Rattle.fat_table.specs.Chain.{size_at}
use Rattle.fat_table.proofs.Sounds.{node_size}
use Rattle.salvage.specs.Follow.{readable, unread, missed}

module _ (n : ℕ) (t : Bytes) (b : ℕ) where
  pub readable_node : readable n t b ≡ true → NodeAt t n b (size_at t b)
  unfolding readable
  readable_node h =
      let w = and_yes (ltb b n) (eqb (node_fault n t b).rule 0) h in
      ⊎_elim
      (λ k. subst (NodeAt t n b) (sym (node_size t n b 1 k.1)) k.1)
      (λ k. subst (NodeAt t n b) (sym (node_size t n b (v_at t (b + 2) - b) k.2)) k.2)
      (clear_node n t b (ltb-true b n w.0) (eqb-true (node_fault n t b).rule 0 w.1))

  pub node_readable : (s : ℕ) → n ≤ 1000000 → NodeAt t n b s → readable n t b ≡ true
  unfolding readable
  node_readable s small w =
      yes_and (lt-ltb b n (omega (arith, w.some, w.within)))
      (eq-eqb (node_fault n t b).rule 0 (ap (λ (f : Fault). f.rule) (node_clear n t b s w small)))

  -- what is told of a block that can't be read is no rule 0
  pub unread_not : (p : ℕ) → readable n t b ≡ false → (unread n t p b).rule ≡ 0 → ⊥
  unfolding readable unread when
  unread_not p e h = go (ltb b n) e h
    where
      go : (x : Bool) → (x && eqb (node_fault n t b).rule 0) ≡ false → (when x (node_fault n t b) (record { entry = p; rule = 7 })).rule ≡ 0 → ⊥
      go true e h = eqb-false (node_fault n t b).rule 0 e h
      go false e h = omega (arith, h)

pub missed_not : (p b : ℕ) → (missed p b).rule ≡ 0 → ⊥
unfolding missed when
missed_not p b = go (eqb p 0)
  where
    go : (x : Bool) → (when x (record { entry = b + 1; rule = 8 }) (record { entry = p; rule = 7 })).rule ≡ 0 → ⊥
    go true e = omega (arith, e)
    go false e = omega (arith, e)
