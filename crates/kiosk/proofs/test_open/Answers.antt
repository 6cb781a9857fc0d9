use Rattle.kiosk.proofs.Public.{place_ready, place_long, place_clear, place_says}
use mathlib.Core.Path.{sym}
use native.Mathlib.Omega.{arith}
use lib.Seq.{length-take-le}
use Rattle.kiosk.proofs.test_open.Goals as goal

pub slice_bounds-broken_rule-end-2 : goal.slice_bounds-broken_rule-end-2
slice_bounds-broken_rule-end-2 c = sym (length-take-le _ _ (omega arith))

pub broken_rule-requires : goal.broken_rule-requires
broken_rule-requires c = record { ready_profile = search (place_ready); file_table_in_bounds = search (place_long); clear = search (place_clear) }

pub returns : goal.returns
returns c = search (place_says)
