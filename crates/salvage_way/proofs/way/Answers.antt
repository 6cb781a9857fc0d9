-- `salvage_way::way` meets its contract.
use native.Mathlib.Omega.{arith}
use Rattle.std.proofs.lemmas.Result.{err_from_is_err_and}
use Rattle.salvage_tree.proofs.Outs.{sized}
use Rattle.salvage_way.proofs.Outs.{size_refused, size_passed}
use Rattle.salvage_way.proofs.way.Goals as goal

pub returns-in_err-room : goal.returns-in_err-room
returns-in_err-room c =
    let p = err_from_is_err_and c.from_residual.result c.from_residual.ensures.1 in rw (p.1, p.2) (size_refused _ _ _ _ _ c.in_err-room.ensures)

pub way_sized-requires : goal.way_sized-requires
way_sized-requires c = sized _ _ _ _ c.in_ok-room.ensures (omega arith) _ c.bound_of-n.ensures

pub returns : goal.returns
returns c = size_passed _ _ _ _ _ c.in_ok-room.ensures _ _ c.way_sized.ensures
