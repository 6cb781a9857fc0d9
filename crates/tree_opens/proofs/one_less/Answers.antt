use Rattle.tree_opens.specs.declared.Want.TheVariants.{Reader, Writer}
use Rattle.tree_opens.proofs.Steps.{less_none, less_one}
use Rattle.tree_opens.proofs.one_less.Goals as goal

pub returns-then-readers_in-eq0 : goal.returns-then-readers_in-eq0
returns-then-readers_in-eq0 c = less_none _ _ _ Reader c.in-Reader.is c.readers_in.ensures c.if-readers_in-eq0.true

pub returns-then-writer_in-eq0 : goal.returns-then-writer_in-eq0
returns-then-writer_in-eq0 c = less_none _ _ _ Writer c.in-Writer.is c.writer_in.ensures c.if-writer_in-eq0.true

pub returns-else-readers_in-eq0 : goal.returns-else-readers_in-eq0
returns-else-readers_in-eq0 c = less_one _ _ _ Reader c.in-Reader.is c.readers_in.ensures c.if-readers_in-eq0.false

pub returns-else-writer_in-eq0 : goal.returns-else-writer_in-eq0
returns-else-writer_in-eq0 c = less_one _ _ _ Writer c.in-Writer.is c.writer_in.ensures c.if-writer_in-eq0.false
