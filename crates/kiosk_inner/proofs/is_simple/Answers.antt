use Rattle.std.proofs.Common.{arith}
use Rattle.std.proofs.lemmas.List.Sums.{prefix_len-le-length}
use Rattle.kiosk_inner.specs.Profile.{character, simple}
use Rattle.kiosk_inner.proofs.Names.{simple_some}
use borrow.Author.Rules.{rules}
use Rattle.kiosk_inner.proofs.is_simple.Goals as goal

pub slice_bounds-is_padding-count : goal.slice_bounds-is_padding-count
slice_bounds-is_padding-count c = omega (arith, prefix_len-le-length character c.args.name.now)

pub slice_bounds-is_padding-start : goal.slice_bounds-is_padding-start
slice_bounds-is_padding-start c = omega (arith, prefix_len-le-length character c.args.name.now)

pub returns-then-count-ne0 : goal.returns-then-count-ne0
returns-then-count-ne0 c = search simple_some

pub returns-else-count-ne0 : goal.returns-else-count-ne0
unfolding simple
returns-else-count-ne0 c = search rules
