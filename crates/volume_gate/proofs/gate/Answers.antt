use Rattle.volume_gate.proofs.Cases.{gate_sized, gate_short, gate_told, take_long}
use mathlib.Core.Path.{sym}
use native.Mathlib.Omega.{arith}
use lib.Seq.{length-take-le}
use borrow.Author.Rules.{rules}
use Rattle.volume_gate.proofs.gate.Goals as goal

pub returns-in_err-sizes : goal.returns-in_err-sizes
returns-in_err-sizes c = gate_sized _ _ _ _ _ _ c.sizes.ensures.same _ c.in_err-sizes.ensures.sized _ (search rules)

pub returns-then-work-places : goal.returns-then-work-places
returns-then-work-places c = gate_short _ _ _ _ _ _ c.sizes.ensures.same c.in_ok-sizes.ensures.sized _ c.blocks-2.ensures c.if-work-places.true

pub slice_bounds-verdict-end-2 : goal.slice_bounds-verdict-end-2
slice_bounds-verdict-end-2 c = sym (length-take-le _ _ (omega arith))

pub verdict-requires : goal.verdict-requires
verdict-requires c = record { fit = c.in_ok-sizes.ensures.sized; file_table_in_bounds = search (take_long, rules) }

pub returns : goal.returns
returns c = gate_told _ _ _ _ _ _ c.sizes.ensures.same c.in_ok-sizes.ensures.sized _ _ _ c.blocks-2.ensures (omega arith) c.verdict.ensures.clear c.verdict.ensures.sound
