-- `name` meets its contract.
use Rattle.std.proofs.lemmas.Result.{err_from_is_err_and}
use Rattle.std.proofs.Common.{arith}
use Rattle.std.specs.Prelude.{Ok, Err}
use Rattle.mukthiban.proofs.Names.{dir_named, file_named}
use Rattle.mukthiban.proofs.name.name.Goals.{in-0, in-1}
use Rattle.tree_sound.specs.Tables.{tables}
use Rattle.mukthiban.proofs.name.name.Goals as goal

pub returns-in_err-name_answer : goal.returns-in_err-name_answer
returns-in_err-name_answer c =
    let p = err_from_is_err_and c.from_residual.result c.from_residual.ensures.1 in rw (p.1, p.2) (elim c.match-kind.branch [
      | in-0 w ↦ dir_named (tables c.args.dir_hash.now c.args.dir_table.now c.args.file_hash.now c.args.file_table.now) c.args.work.now _ c.args.kind c.args.inode (Err _) c.match-kind.of (omega arith) w.of-is c.in_err-name_answer.ensures
      | in-1 w ↦ file_named (tables c.args.dir_hash.now c.args.dir_table.now c.args.file_hash.now c.args.file_table.now) c.args.work.now _ c.args.kind c.args.inode (Err _) c.match-kind.of (omega arith) w.of-is c.in_err-name_answer.ensures
    ])

pub returns : goal.returns
returns c =
    elim c.match-kind.branch [
      | in-0 w ↦ dir_named (tables c.args.dir_hash.now c.args.dir_table.now c.args.file_hash.now c.args.file_table.now) c.args.work.now _ c.args.kind c.args.inode (Ok tt) c.match-kind.of (omega arith) w.of-is c.in_ok-name_answer.ensures
      | in-1 w ↦ file_named (tables c.args.dir_hash.now c.args.dir_table.now c.args.file_hash.now c.args.file_table.now) c.args.work.now _ c.args.kind c.args.inode (Ok tt) c.match-kind.of (omega arith) w.of-is c.in_ok-name_answer.ensures
    ]
