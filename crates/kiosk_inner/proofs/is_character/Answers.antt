use Rattle.std.proofs.Common.{arith}
use Rattle.std.proofs.lemmas.Bool.Decides.{nat_tests}
use Rattle.kiosk_inner.specs.Profile.{character}
use Rattle.kiosk_inner.proofs.is_character.Goals as goal

pub returns-in-48-to-57 : goal.returns-in-48-to-57
unfolding character
returns-in-48-to-57 c = grind (arith, nat_tests)

pub returns-in-48-to-57-2 : goal.returns-in-48-to-57-2
unfolding character
returns-in-48-to-57-2 c = grind (arith, nat_tests)

pub returns-in_default : goal.returns-in_default
unfolding character
returns-in_default c = grind (arith, nat_tests)

pub returns-in_default-2 : goal.returns-in_default-2
unfolding character
returns-in_default-2 c = grind (arith, nat_tests)

pub returns-in_default-3 : goal.returns-in_default-3
unfolding character
returns-in_default-3 c = grind (arith, nat_tests)
