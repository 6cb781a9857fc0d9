use Rattle.std.proofs.Common.{◌+◌, slice_set, ap, ◌∙◌}
use Rattle.fat_list.proofs.Lists.{number_turn}
use Rattle.fat_list.proofs.number_run.Goals as goal

pub loop-k-preserved : goal.loop-k-preserved
loop-k-preserved c =
    ap (λ l. slice_set l (c.args.at + c.loop-k.k) (c.args.b + c.loop-k.k)) c.loop-k.invariant
    ∙ number_turn c.args.list.now c.args.at c.args.b c.loop-k.k
