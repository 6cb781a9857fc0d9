use native.Mathlib.Omega.{arith}
use mathlib.Core.List.{[], ◌∷◌}
use Prim.Native.Nat.{◌<◌}
use Rattle.std.proofs.lemmas.Result.{err_from_is_err_and}
use Rattle.order.specs.First.{row}
use Rattle.order.specs.Answer.{Busy}
use Rattle.tree_opens.specs.Record.{readers}
use Rattle.tree_promises.specs.Calls.{held_tests_of}
use Rattle.tree_promises.specs.Inner.Ready.{alone}
use Rattle.tree_judge.proofs.Judges.{given_front, alone_busy}
use Rattle.tree_judge.proofs.judge_delete.Goals as goal

pub returns-in_err-judge_held : goal.returns-in_err-judge_held
returns-in_err-judge_held c =
    let p = err_from_is_err_and c.from_residual.result c.from_residual.ensures.1 in
    rw (p.1, p.2) (given_front (held_tests_of (alone c.args.w c.args.table.now) c.args.opens c.args.x) (row (0 < readers c.args.opens) Busy ∷ []) _ c.in_err-judge_held.ensures)

pub returns-then-readers_in-gt0 : goal.returns-then-readers_in-gt0
returns-then-readers_in-gt0 c = alone_busy _ _ _ _ c.in_ok-judge_held.ensures _ c.readers_in.ensures (omega arith)
