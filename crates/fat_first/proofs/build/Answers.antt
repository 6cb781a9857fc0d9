use lib.ListN.{replicate}
use Prim.Native.Nat.{ℕ}
use mathlib.Core.Path.{ap, ◌∙◌}
use borrow.Author.Rules.{rules}
use Rattle.fat_first.proofs.build.Goals as goal

pub mark_firsts-requires : goal.mark_firsts-requires
mark_firsts-requires c = record { volume = search rules; firsts_value = c.clear.ensures ∙ ap (λ (k : ℕ). replicate k 0) c.requires.firsts_len }
