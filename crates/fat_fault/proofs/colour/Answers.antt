-- `fat_fault::colour` meets its contract.
use mathlib.Core.Path.{subst, subst⁻¹, ◌∙◌}
use Rattle.fat_fault.specs.Fault.{hop}
use Rattle.fat_fault.specs.Inner.Ring.{Ring}
use Rattle.fat_fault.specs.Inner.Marks.{Closed, Rounded}
use Rattle.fat_fault.proofs.Cases.{marked_long}
use Rattle.std.proofs.Common.{ap, ℕ, ◌+◌, ◌≡◌, suc, arith}
use Rattle.fat_fault.proofs.Colours.{
  index_of,
  hop_index,
  seen_less,
  colouring_none,
  colouring_node,
  colouring_more,
  colour_none,
  colour_met,
  own_closed,
  own_ring,
  colour_round,
  came_back,
  came_on,
}
use Rattle.fat_fault.proofs.colour.Goals as goal

pub loop-at-init : goal.loop-at-init
loop-at-init c = colouring_none _ _ _ _ c.requires.coloured (omega arith) (omega arith)

pub bounds-work-j : goal.bounds-work-j
bounds-work-j c = omega (arith, ap index_of c.in-Some.is, c.loop-at.invariant.most, c.loop-at.invariant.marked.long)

pub returns-then-j-b : goal.returns-then-j-b
returns-then-j-b c =
    came_back _ _ _ _ _ (own_ring _ _ _ _ _ (omega arith) (omega arith) _ c.loop-at.invariant _ (ap index_of c.in-Some.is) c.if-m-own.true) c.if-j-b.true

pub ring-requires : goal.ring-requires
ring-requires c =
    let inv = c.loop-at.invariant in
    let at : index_of c.loop-at.at ≡ suc c.in-Some.j = ap index_of c.in-Some.is in
    let l = inv.marked.long in
    let t = c.args.table.now in
    record {
      table_len = omega arith;
      j_in_bounds = (omega (arith, at, inv.most), omega arith);
      marked = marked_long inv.marked;
      closed = subst⁻¹ (λ (m : ℕ). Closed m t c.loop-at.work) l (own_closed _ _ _ _ _ (omega arith) (omega arith) _ inv);
      ring = subst⁻¹ (λ (m : ℕ). Ring (hop m t) c.in-Some.j) l (own_ring _ _ _ _ _ (omega arith) (omega arith) _ inv _ at c.if-m-own.true);
    }

pub returns-else-j-b : goal.returns-else-j-b
returns-else-j-b c =
    let o = subst (λ (m : ℕ). Rounded m c.args.table.now c.in-Some.j c.loop-at.work c.ring.new.work) c.loop-at.invariant.marked.long c.ring.ensures in
    came_on _ _ _ _ (colour_round _ _ _ _ _ (omega arith) (omega arith) _ c.loop-at.invariant _ _ (ap index_of c.in-Some.is) c.if-m-own.true o)

pub returns-else-m-own : goal.returns-else-m-own
returns-else-m-own c =
    came_on _ _ _ _ (colour_met _ _ _ _ _ (omega arith) (omega arith) _ c.loop-at.invariant _ (ap index_of c.in-Some.is) c.if-m-ne1.true c.if-m-own.false)

pub hop-at-requires : goal.hop-at-requires
hop-at-requires c =
    let inv = c.loop-at.invariant in
    let at : index_of c.loop-at.at ≡ suc c.in-Some.j = ap index_of c.in-Some.is in
    let k = colouring_node _ _ _ _ _ _ _ inv c.if-m-ne1.false in
    record {
      table_len = omega (arith, k.long);
      b_in_bounds = (omega (arith, at, inv.most, k.long), omega (arith, k.long));
      marked = marked_long k;
    }

pub loop-at-smaller : goal.loop-at-smaller
loop-at-smaller c =
    let at : index_of c.loop-at.at ≡ suc c.in-Some.j = ap index_of c.in-Some.is in
    seen_less c.loop-at.work c.in-Some.j (c.args.b + 2) (omega (arith, at, c.loop-at.invariant.most, c.loop-at.invariant.marked.long)) c.if-m-ne1.false (omega arith)

pub loop-at-preserved : goal.loop-at-preserved
loop-at-preserved c =
    let m = colouring_node _ _ _ _ _ _ _ c.loop-at.invariant c.if-m-ne1.false in
    colouring_more _ _ _ _ _ _ _ _ c.loop-at.invariant (ap index_of c.in-Some.is) c.if-m-ne1.false
    (hop_index _ _ _ _ c.hop-at.ensures ∙ ap (λ (k : ℕ). hop k c.args.table.now c.in-Some.j) m.long)

pub returns : goal.returns
returns c = came_on _ _ _ _ (colour_none _ _ _ _ _ (omega arith) (omega arith) _ c.loop-at.invariant (ap index_of c.in_default.is))
