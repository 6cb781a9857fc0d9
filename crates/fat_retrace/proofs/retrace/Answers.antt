use native.Mathlib.Omega.{arith}
use borrow.Author.Rules.{rules}
use Rattle.fat_retrace.proofs.Promised.{retrace_refused, accepted_volume, retrace_short, retrace_done_lem}
use Rattle.fat_retrace.proofs.retrace.Goals as goal

pub returns-in_err-test : goal.returns-in_err-test
returns-in_err-test c = search (rules, retrace_refused)

pub returns-then-list-n : goal.returns-then-list-n
returns-then-list-n c = retrace_short _ _ _ _ _ _ c.in_ok-test.ensures _ c.blocks-n.ensures c.if-list-n.true

pub retrace_sound-requires : goal.retrace_sound-requires
retrace_sound-requires c = record { volume = accepted_volume _ _ c.args.list.now _ _ _ c.in_ok-test.ensures _ c.blocks-n.ensures (record { byte = λ k. omega (arith, c.type_inv.table k) }); n_in_bounds = c.if-list-n.false }

pub returns : goal.returns
returns c = retrace_done_lem _ _ _ _ _ _ c.in_ok-test.ensures _ c.blocks-n.ensures _ _ c.if-list-n.false c.retrace_sound.ensures
