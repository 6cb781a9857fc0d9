use Rattle.fat_apply.proofs.Copies.{Moving}
use Rattle.fat_apply.proofs.step.move_blocks.Given as goal

abbrev pub invariant-loop-i : goal.invariant-loop-i
invariant-loop-i l = Moving l.initial.data l.block_len l.plan l.m l.data l.i
