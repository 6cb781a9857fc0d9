use mathlib.Core.Path.{ap, ◌∙◌}
use Rattle.std.specs.Prelude.{Option}
use Rattle.std.specs.Option.{unwrap_or}
use Rattle.std.proofs.lemmas.Option.{unwrap_or-slice_get}
use Rattle.ask_tree.specs.Calls.{calls}
use Rattle.ask_tree.specs.declared.Call.{Call}
use Rattle.ask_tree.specs.declared.Call.TheVariants as call
use Rattle.ask_tree.specs.declared.Look.TheVariants as look
use Rattle.ask_tree.proofs.CallFromU32.from.Goals as goal

pub returns : goal.returns
returns c =
    c.unwrap_or.ensures ∙ ap (λ (o : Option Call). unwrap_or o (call.Look look.Carried)) c.numbered.ensures
    ∙ unwrap_or-slice_get calls c.args.number (call.Look look.Carried)
