-- `gate` meets its contract.
use native.Mathlib.Omega.{arith}
use borrow.Author.Rules.{rules}
use Rattle.tree_test.proofs.Cases.{tells_not, sized, gate_misfit, gate_outside, gate_short, gate_broken, gate_open}
use Rattle.tree_test.specs.Promise.{TreeGateOf}
use Rattle.tree_test.proofs.gate.Goals as goal

pub returns-then-misfit : goal.returns-then-misfit
unfolding TreeGateOf
returns-then-misfit c = gate_misfit c.args.dir_hash.now c.args.dir_table.now c.args.file_hash.now c.args.file_table.now c.args.work.now (c.misfit.ensures.yes c.if-misfit.true)

pub returns-then-outside : goal.returns-then-outside
unfolding TreeGateOf
returns-then-outside c = gate_outside c.args.dir_hash.now c.args.dir_table.now c.args.file_hash.now c.args.file_table.now c.args.work.now (tells_not c.misfit.ensures c.if-misfit.false) (c.outside.ensures.yes c.if-outside.true)

pub returns-then-work-dir_table : goal.returns-then-work-dir_table
unfolding TreeGateOf
returns-then-work-dir_table c = gate_short c.args.dir_hash.now c.args.dir_table.now c.args.file_hash.now c.args.file_table.now c.args.work.now (tells_not c.misfit.ensures c.if-misfit.false) (tells_not c.outside.ensures c.if-outside.false) c.if-work-dir_table.true

pub verdict-requires : goal.verdict-requires
verdict-requires c = record { sized = sized (tells_not c.misfit.ensures c.if-misfit.false) (tells_not c.outside.ensures c.if-outside.false); file_table_in_bounds = omega arith }

pub returns-then-not-verdict : goal.returns-then-not-verdict
unfolding TreeGateOf
returns-then-not-verdict c =
    gate_broken c.args.dir_hash.now c.args.dir_table.now c.args.file_hash.now c.args.file_table.now c.args.work.now (tells_not c.misfit.ensures c.if-misfit.false) (tells_not c.outside.ensures c.if-outside.false) (omega arith)
    (tells_not c.verdict.ensures.0 (search rules)) c.verdict.ensures.1

pub returns : goal.returns
unfolding TreeGateOf
returns c =
    gate_open c.args.dir_hash.now c.args.dir_table.now c.args.file_hash.now c.args.file_table.now c.args.work.now (tells_not c.misfit.ensures c.if-misfit.false) (tells_not c.outside.ensures c.if-outside.false) (omega arith)
    (c.verdict.ensures.0.yes (search rules)) c.verdict.ensures.1
