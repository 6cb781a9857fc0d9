use mathlib.Core.Path.{ap, ◌∙◌}
use Rattle.std.specs.Prelude.{Option}
use Rattle.std.specs.Option.{unwrap_or}
use Rattle.std.proofs.lemmas.Option.{unwrap_or-slice_get}
use Rattle.ask_blocks.specs.Calls.{calls}
use Rattle.ask_blocks.specs.declared.Call.{Call}
use Rattle.ask_blocks.specs.declared.Call.TheVariants.{Read}
use Rattle.ask_blocks.proofs.CallFromU32.from.Goals as goal

pub returns : goal.returns
returns c = c.unwrap_or.ensures ∙ ap (λ (o : Option Call). unwrap_or o Read) c.numbered.ensures ∙ unwrap_or-slice_get calls c.args.number Read
