use Rattle.kiosk_inner.proofs.Rules.{rule_one, rule_two, rule_three, rule_four, rule_five, rule_six, rule_none}
use Rattle.kiosk_inner.proofs.judge.Goals as goal

pub returns-then-found-ne0 : goal.returns-then-found-ne0
returns-then-found-ne0 c = search (rule_one)

pub returns-then-n-gt8191 : goal.returns-then-n-gt8191
returns-then-n-gt8191 c = search (rule_two)

pub returns-then-has_directory : goal.returns-then-has_directory
returns-then-has_directory c = search (rule_three)

pub returns-then-count_live-gt64 : goal.returns-then-count_live-gt64
returns-then-count_live-gt64 c = search (rule_four)

pub returns-then-is_scattered : goal.returns-then-is_scattered
returns-then-is_scattered c = search (rule_five)

pub returns-then-has_odd_name : goal.returns-then-has_odd_name
returns-then-has_odd_name c = search (rule_six)

pub returns : goal.returns
returns c = search (rule_none)
