use mathlib.Core.Path.{◌∙◌, ap}
use Prim.Native.Nat.{ℕ, ◌%◌}
use Rattle.std.proofs.Common.{rules}
use Rattle.std.proofs.lemmas.Iterator.{YieldsList-from_slice}
use Rattle.std.proofs.lemmas.Iterator.Consumers.{fold_from_yields_List}
use Rattle.tree_key.specs.Hash.{mix}
use Rattle.tree_key.specs.Key.{key_words}
use Rattle.tree_key.proofs.Laws.{folded}
use Rattle.tree_key.proofs.hash.Goals as goal

pub returns : goal.returns
returns c =
    ap (λ (h : ℕ). h % c.args.buckets)
    (fold_from_yields_List _ mix _ c.fold.result c.fold.ensures.ran (YieldsList-from_slice (key_words c.args.key) cc) (λ a x b q k. search rules)
    ∙ folded (key_words c.args.key))
