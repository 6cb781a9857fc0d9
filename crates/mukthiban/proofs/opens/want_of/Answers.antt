-- `want_of` meets its contract.
use Rattle.mukthiban.proofs.Asked.{is_writer}
use Rattle.mukthiban.proofs.opens.want_of.Goals as goal

pub returns-else-kind-eq0 : goal.returns-else-kind-eq0
returns-else-kind-eq0 c = search (is_writer)
