use Rattle.volume_gate.proofs.Cases.{blocks_misfit, tree_misfit, blocks_invalid, tree_invalid, sizes_fit, twice_untouched}
use borrow.Author.Rules.{rules}
use Rattle.volume_gate.proofs.sizes.Goals as goal
use Rattle.volume_gate.proofs.sizes.Goals.{then-blocks-eq1-via-then-blocks-eq1, then-blocks-eq1-via-else-blocks-eq1+then-tree-eq1, then-blocks-eq2-via-then-blocks-eq2, then-blocks-eq2-via-else-blocks-eq2+then-tree-eq2}

pub returns-then-blocks-eq1 : goal.returns-then-blocks-eq1
returns-then-blocks-eq1 c = record {
  sized = elim c.then-blocks-eq1.branch [
    | then-blocks-eq1-via-then-blocks-eq1 w ↦ search blocks_misfit
    | then-blocks-eq1-via-else-blocks-eq1+then-tree-eq1 w ↦ search tree_misfit
  ];
  same = search (twice_untouched, rules);
}

pub returns-then-blocks-eq2 : goal.returns-then-blocks-eq2
returns-then-blocks-eq2 c = record {
  sized = elim c.then-blocks-eq2.branch [
    | then-blocks-eq2-via-then-blocks-eq2 w ↦ search blocks_invalid
    | then-blocks-eq2-via-else-blocks-eq2+then-tree-eq2 w ↦ search tree_invalid
  ];
  same = search (twice_untouched, rules);
}

pub returns : goal.returns
returns c = record { sized = search sizes_fit; same = search (twice_untouched, rules) }
