-- `fat_ends::tile` meets its contract.
use Rattle.std.proofs.Common.{refl, arith}
use Rattle.fat_ends.proofs.Ends.{laid_none, laid_more, tiled_as, no_backs, some_le, file_le, backs_on, count_on}
use Rattle.fat_table.specs.Sound.{Counted}
use Rattle.fat_ends.proofs.tile.Goals as goal

pub loop-b-init : goal.loop-b-init
loop-b-init c = (laid_none _ _ _ refl c.requires.work_value, no_backs _ _, Counted.none, omega arith, omega arith)

pub loop-b-preserved : goal.loop-b-preserved
loop-b-preserved c =
    let k = c.in-Ok.ensures.0 in
    let here = c.loop-b.invariant.0.1.0.here in
    let r1 = some_le c.some-backs.ensures in
    let r2 = file_le c.file-files.ensures in (
      laid_more c.in-Ok.node.size c.pack.result c.part.result c.loop-b.invariant.0 c.loop-b-test.true k c.part.ensures c.pack.ensures,
      backs_on (here, c.loop-b-test.true) k c.loop-b.invariant.1 c.in-Ok.ensures.1 c.some-backs.ensures,
      count_on (here, c.loop-b-test.true) k c.loop-b.invariant.2 c.in-Ok.ensures.1 c.requires.h_value c.file-files.ensures,
      omega (arith, k.some),
      omega (arith, k.some),
    )

pub returns : goal.returns
returns c = tiled_as c.loop-b.invariant.0 (omega (arith, c.loop-b.invariant.0.1.0.most)) c.requires.work_nonzero.0 c.loop-b.invariant.1 c.loop-b.invariant.2
