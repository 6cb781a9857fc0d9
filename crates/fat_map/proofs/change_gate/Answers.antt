use Rattle.fat_map.proofs.Gates.{build_ready, build_work, build_words, change_strays, change_open, change_refused, change_retired}
use borrow.Author.Rules.{rules}
use Rattle.fat_map.proofs.change_gate.Goals as goal

pub returns-in_err-gate : goal.returns-in_err-gate
returns-in_err-gate c = search (change_refused, rules, c.in_err-gate.ensures)

pub is_map-requires : goal.is_map-requires
is_map-requires c = let told = c.in_ok-gate.ensures in
    let is = c.blocks-n.ensures in record { volume = build_ready _ _ _ _ _ _ _ told _ is; n_value = is; n_in_bounds = build_work _ _ _ _ _ _ _ told _ is; n_in_bounds_2 = build_words _ _ _ _ _ _ _ told _ is }

pub returns-then-not-is_map : goal.returns-then-not-is_map
returns-then-not-is_map c = change_strays _ _ _ _ _ _ _ c.in_ok-gate.ensures _ c.is_map.ensures.1 _ c.is_map.ensures.0 (search rules)

pub returns-then-not-in_use : goal.returns-then-not-in_use
returns-then-not-in_use c = change_retired _ _ _ _ _ _ _ c.in_ok-gate.ensures _ c.is_map.ensures.1 _ c.is_map.ensures.0 (search rules) _ c.in_use.ensures (search rules)

pub returns : goal.returns
returns c = change_open _ _ _ _ _ _ _ c.in_ok-gate.ensures _ c.is_map.ensures.1 _ c.is_map.ensures.0 (search rules) _ c.in_use.ensures (search rules)
