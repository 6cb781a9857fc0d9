use Rattle.kiosk.proofs.Public.{tested_says}
use Rattle.kiosk.proofs.tested_test.Goals as goal

pub returns : goal.returns
returns c = search (tested_says)
