use mathlib.Core.Path.{refl}
use mathlib.Core.Logic.{inl, inr}
use borrow.Author.Rules.{rules}
use Rattle.fat_test.proofs.Change.{not_in_use}
use Rattle.fat_apply.proofs.tested.tested_apply.Goals as goal

pub returns-then-not-in_use : goal.returns-then-not-in_use
returns-then-not-in_use c = (inl (not_in_use _ _ c.in_use.ensures (search rules), refl), c.requires.work_value)

pub returns : goal.returns
returns c =
    (inr ((λ z. z (c.in_use.ensures.yes (search rules))), c.apply_sound.ensures.0), c.apply_sound.ensures.1)
