use mathlib.Core.Path.{◌≡◌, refl, sym, ◌∙◌}
use mathlib.Core.List.{List}
use Prim.Native.Nat.{ℕ}
use lib.ListN.{length}
use Rattle.std.proofs.Common.{Option, Some, None, Bor, option_copied, slice_get}
use Rattle.std.specs.Slice.{IsItemAt}
use Rattle.std.proofs.lemmas.Option.{slice_get_past, slice_get_read}
use Rattle.ask_blocks.specs.Calls.{calls}
use Rattle.ask_blocks.proofs.Call.numbered.Goals as goal

-- what is lent of the item at i, copied, is the item
item : {X : Type 0} (xs : List X) (i : ℕ) (r : Option (Bor X)) → IsItemAt xs i r → option_copied r ≡ slice_get xs i
item xs i None h = sym (slice_get_past xs i h.3)
item xs i (Some x) h = sym (slice_get_read xs (length xs) i x.now refl h.3.0 h.1)

pub returns : goal.returns
returns c = c.copied.ensures ∙ item calls c.args.number c.get.result c.get.ensures.lookup
