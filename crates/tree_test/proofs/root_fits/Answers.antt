-- `root_fits` meets its contract.
use mathlib.Core.Path.{sym, ap, ◌∙◌}
use mathlib.Core.Bool.{not, false≢true}
use borrow.Author.Tests.{eq-eqb}
use native.Mathlib.Omega.{arith}
use lib.ListN.{length-take, length-drop}
use Rattle.tree_key.specs.Key.{key_words}
use Rattle.tree_table.specs.Field.{field}
use Rattle.tree_test.proofs.DirsTest.{root_gone, root_named, root_last, root_key}
use Rattle.tree_test.proofs.root_fits.Goals as goal
use Rattle.tree_test.proofs.root_fits.Goals.{then-mark-ne-GONE, else-mark-ne-GONE}

pub has_key-requires : goal.has_key-requires
has_key-requires c = simp (length-take, length-drop) (omega arith)

pub returns-then-has_key : goal.returns-then-has_key
unfolding field
returns-then-has_key c =
    elim c.if-mark-ne-GONE.branch [
      | then-mark-ne-GONE w ↦
          root_last _ _ w.if-mark-ne-GONE.true w.has_key.result c.new_root-key.result c.new_root-key.ensures (root_key c.args.table.now (key_words c.new_root-key.result) w.has_key.ensures)
          (sym w.value-is ∙ c.if-has_key.true) c.link_of.result c.link_of.ensures
      | else-mark-ne-GONE w ↦ absurd (false≢true (sym (w.value-is ∙ ap not (eq-eqb c.args.mark 65537 w.if-mark-ne-GONE.false)) ∙ c.if-has_key.true))
    ]

pub returns-else-has_key : goal.returns-else-has_key
returns-else-has_key c =
    rw c.if-has_key.false
    (elim c.if-mark-ne-GONE.branch [
      | then-mark-ne-GONE w ↦
          root_named _ _ w.if-mark-ne-GONE.true w.has_key.result c.new_root-key.result c.new_root-key.ensures (root_key c.args.table.now (key_words c.new_root-key.result) w.has_key.ensures)
          (sym w.value-is ∙ c.if-has_key.false)
      | else-mark-ne-GONE w ↦ root_gone _ _ w.if-mark-ne-GONE.false
    ])
