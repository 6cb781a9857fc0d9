use Rattle.std.proofs.Common.{ap, add-one, ◌*◌}
use lib.ListN.{set}
use Prim.Native.Nat.{ℕ}
use Rattle.fat_retrace.proofs.put.Goals as goal

pub returns-clause-is : goal.returns-clause-is
returns-clause-is c = ap (λ (x : ℕ). set (set c.args.list.now (2 * c.args.k) c.args.call) x c.args.number) (add-one (2 * c.args.k))
