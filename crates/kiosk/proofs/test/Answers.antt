use Rattle.kiosk.proofs.Public.{test_ready, test_refused, test_passed}
use borrow.Author.Rules.{rules}
use Rattle.kiosk.proofs.test.Goals as goal

pub returns-in_err-gate : goal.returns-in_err-gate
returns-in_err-gate c = test_refused _ _ _ _ _ _ _ _ c.in_err-gate.ensures (search rules)

pub test_open-requires : goal.test_open-requires
test_open-requires c = test_ready _ _ _ _ _ _ _ _ _ c.in_ok-gate.ensures

pub returns : goal.returns
returns c = test_passed _ _ _ _ _ _ _ _ c.in_ok-gate.ensures c.test_open.ensures
