use mathlib.Core.Path.{refl}
use mathlib.Core.Logic.{inr}
use Rattle.fat.proofs.tested.tested_resize.Goals as goal

pub returns : goal.returns
returns c = inr ((λ z. z (c.if-not-in_use.ensures.yes refl)), c.resize_sound.ensures)
