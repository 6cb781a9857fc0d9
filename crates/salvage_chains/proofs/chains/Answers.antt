-- `salvage_chains::chains` meets its contract.
use Rattle.std.proofs.lemmas.Result.{err_from_is_err_and}
use Rattle.salvage_shared.proofs.Outs.{sized}
use Rattle.salvage_chains.proofs.Outs.{size_refused, size_passed}
use Rattle.salvage_chains.proofs.chains.Goals as goal

pub returns-in_err-n : goal.returns-in_err-n
returns-in_err-n c =
    let p = err_from_is_err_and c.from_residual.result c.from_residual.ensures.1 in rw (p.1, p.2) (size_refused _ _ _ _ _ _ c.in_err-n.ensures)

pub chains_sized-requires : goal.chains_sized-requires
chains_sized-requires c = record { sized = sized _ _ _ _ c.in_ok-n.ensures; firsts_len_bound = c.in_ok-n.ensures.few }

pub returns : goal.returns
returns c = size_passed _ _ _ _ _ _ c.in_ok-n.ensures _ _ c.chains_sized.ensures
