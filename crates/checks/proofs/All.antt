-- Every check of the list.
use Rattle.checks.specs.Check.{AllShow}
use Rattle.checks.specs.Checks.{checks}
use Rattle.checks.proofs.Formats.{one_block_lem}
use Rattle.checks.proofs.Blocks.{four_blocks_lem}
use Rattle.checks.proofs.Tree.{shows_hashes, shows_tree}

-- the one statement
pub all : AllShow checks
all = (four_blocks_lem, (one_block_lem, (shows_hashes, (shows_tree, tt))))
