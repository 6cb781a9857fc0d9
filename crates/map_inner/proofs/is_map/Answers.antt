use Rattle.map_inner.proofs.Told.{same_words, told}
use Rattle.map_inner.proofs.is_map.Goals as goal

pub differ-differ-requires : goal.differ-differ-requires
differ-differ-requires c = same_words c.args.n c.args.table.now _ c.args.map.now c.draw.ensures c.requires.map_len

pub returns : goal.returns
returns c = told c.args.n c.args.table.now _ c.args.map.now c.draw.ensures _ c.differ-differ.result c.differ-differ.ensures c.requires.map_len c.clear.ensures
