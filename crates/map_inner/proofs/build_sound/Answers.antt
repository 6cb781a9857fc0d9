use lib.ListN.{replicate}
use Prim.Native.Nat.{ℕ}
use mathlib.Core.Path.{ap, ◌∙◌}
use borrow.Author.Rules.{rules}
use Rattle.map_inner.proofs.build_sound.Goals as goal

pub draw-requires : goal.draw-requires
draw-requires c = record { volume = search rules; map_value = c.clear.ensures ∙ ap (λ (k : ℕ). replicate k 0) c.requires.map_len }
