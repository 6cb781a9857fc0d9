use mathlib.Core.Path.{sym, ◌∙◌}
use Rattle.tree.proofs.Gated.{tree_dirs, tree_files, is_open, name_shown, none_shown}
use Rattle.tree.proofs.name.name.Goals as goal

pub returns-in-Directory : goal.returns-in-Directory
returns-in-Directory c = none_shown _ _ _ _ _ _ c.gate.ensures (sym c.is_err.ensures.value ∙ c.if-is_err.true)

pub returns-in-File : goal.returns-in-File
returns-in-File c = none_shown _ _ _ _ _ _ c.gate.ensures (sym c.is_err.ensures.value ∙ c.if-is_err.true)

pub part_in-requires : goal.part_in-requires
part_in-requires c = tree_dirs _ _ _ _ _ _ _ (is_open _ (sym c.is_err.ensures.value ∙ c.if-is_err.false)) c.gate.ensures

pub part_in-requires-in-File-kind : goal.part_in-requires-in-File-kind
part_in-requires-in-File-kind c = tree_files _ _ _ _ _ _ _ (is_open _ (sym c.is_err.ensures.value ∙ c.if-is_err.false)) c.gate.ensures

pub returns-in-Directory-kind : goal.returns-in-Directory-kind
returns-in-Directory-kind c = name_shown _ _ _ _ _ _ _ c.gate.ensures (is_open _ (sym c.is_err.ensures.value ∙ c.if-is_err.false)) c.in-Directory-kind.is _ c.part_in.ensures

pub returns-in-File-kind : goal.returns-in-File-kind
returns-in-File-kind c = name_shown _ _ _ _ _ _ _ c.gate.ensures (is_open _ (sym c.is_err.ensures.value ∙ c.if-is_err.false)) c.in-File-kind.is _ c.part_in-in-File-kind.ensures
