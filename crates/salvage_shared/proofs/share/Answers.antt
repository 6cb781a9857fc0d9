-- `salvage_shared::share` meets its contract.
use Rattle.salvage_shared.proofs.Outs.{kinds_clear, kinds_laid, shares}
use Rattle.salvage_shared.proofs.share.Goals as goal

pub lay_all-requires : goal.lay_all-requires
lay_all-requires c = search (kinds_clear, c.clear.ensures, c.judge_all.ensures, c.requires)

pub tell_all-requires : goal.tell_all-requires
tell_all-requires c = search (kinds_laid, c.lay_all.ensures, c.clear.ensures, c.judge_all.ensures, c.requires)

pub returns : goal.returns
returns c = search (shares)
