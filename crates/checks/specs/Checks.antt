-- The list of the checks of RULES 8 that are marked P; that all of them hold is `all` in proofs/All.antt.
use Rattle.std.specs.Prelude.{List, [], ◌∷◌}
use Rattle.checks.specs.Check.{History}
use Rattle.checks.specs.Blocks.{four_blocks, one_block}
use Rattle.checks.specs.Tree.{hashes, tree}

abbrev pub checks : List History
checks = four_blocks ∷ one_block ∷ hashes ∷ tree ∷ []
