use Rattle.tree_opens.proofs.Steps.{more_full, more_reader, more_busy, more_writer}
use Rattle.tree_opens.proofs.one_more.Goals as goal

pub returns-then-total_in-ge65535 : goal.returns-then-total_in-ge65535
returns-then-total_in-ge65535 c = more_full _ _ _ c.total_in.ensures c.if-total_in-ge65535.true

pub returns-then-writer_in-ne0 : goal.returns-then-writer_in-ne0
returns-then-writer_in-ne0 c = search (more_busy)

pub returns-in-Reader : goal.returns-in-Reader
returns-in-Reader c = search (more_reader)

pub returns-else-writer_in-ne0 : goal.returns-else-writer_in-ne0
returns-else-writer_in-ne0 c = search (more_writer)
