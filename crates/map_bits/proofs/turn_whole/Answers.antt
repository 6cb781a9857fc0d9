-- `map_bits::turn_whole` meets its contract.
use Rattle.std.proofs.Common.{refl, ◌∙◌, ◌-◌, arith}
use Rattle.map_bits.proofs.Turns.{staged_begin, staged_end, whole_all, mid_filled}
use Rattle.map_bits.proofs.turn_whole.Goals as goal

pub returns : goal.returns
returns c =
    let t = c.requires.turn in
    let k = c.args.j - c.args.i in
    let filled = mid_filled c.args.map.now c.fill.new.self c.args.i c.args.j c.whole.result (omega (arith, t.order)) (omega (arith, t.fits)) (c.fill.ensures.after (λ y e. e)) in
    λ c' d u. filled ∙ staged_end _ _ _ _ _ _ (whole_all _ _ _ _ _ _ _ (staged_begin _ _ _ _ _ refl t.order) c.requires c.whole.ensures k (omega (arith, t.order))) (omega (arith, t.order)) c' d u
