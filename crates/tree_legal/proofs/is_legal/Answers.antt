use Rattle.tree_legal.proofs.Names.{judging_begin, judging_on, judging_torn, judging_done, judging_empty}
use Rattle.tree_legal.proofs.is_legal.Goals as goal

pub returns-then-name-eq0 : goal.returns-then-name-eq0
returns-then-name-eq0 c = search (judging_empty)

pub loop-i-init : goal.loop-i-init
loop-i-init c = search (judging_begin)

pub returns-then-tears : goal.returns-then-tears
returns-then-tears c = search (judging_torn)

pub loop-i-preserved : goal.loop-i-preserved
loop-i-preserved c = search (judging_on)

pub returns : goal.returns
returns c = search (judging_done)
