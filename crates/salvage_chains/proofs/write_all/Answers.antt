-- `salvage_chains::write_all` meets its contract.
use Rattle.salvage_chains.proofs.Loops.{writing_begin, writing_on}
use Rattle.salvage_chains.proofs.write_all.Goals as goal

pub loop-i-init : goal.loop-i-init
loop-i-init c = search (writing_begin)

pub loop-i-preserved : goal.loop-i-preserved
loop-i-preserved c = writing_on _ _ _ _ _ _ _ _ _ _ c.loop-i.invariant c.requires.rooms c.loop-i-test.true _ _ _ c.follow_one-walked.ensures _ _ c.put_end.ensures c.number_one.ensures
