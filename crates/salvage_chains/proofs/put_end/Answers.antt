-- `salvage_chains::put_end` meets its contract.
use native.Mathlib.Omega.{arith}
use Rattle.salvage_chains.proofs.Loops.{put_is}
use Rattle.salvage_chains.specs.Chains.{told}
use Rattle.salvage_chains.proofs.put_end.Goals as goal

pub returns : goal.returns
returns c = put_is _ _ (told c.args.walked.count c.args.walked.why) _ _ c.copy_from_slice.ensures.after (omega arith) c.requires
