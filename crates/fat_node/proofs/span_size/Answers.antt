-- `fat_node::span_size` meets its contract.
use Rattle.std.proofs.Common.{sym, ◌∙◌, arith}
use Rattle.std.proofs.lemmas.Grind.{common_steps}
use Rattle.fat_node.specs.Fault.{when, span_fault}
use Rattle.fat_node.proofs.Faults.{second_fits}
use Rattle.fat_node.proofs.span_size.Goals as goal

pub overflow_sub-result : goal.overflow_sub-result
overflow_sub-result c = omega (arith, (second_fits _ _ _ (sym c.bad_second.ensures ∙ c.if-bad_second.false)).2)

pub returns : goal.returns
unfolding when span_fault
returns c = (grind (arith, common_steps), omega (arith, (second_fits _ _ _ (sym c.bad_second.ensures ∙ c.if-bad_second.false)).2))
