use native.Mathlib.Omega.{arith}
use Rattle.fat_map.proofs.Counts.{unfit_none, unfit_many}
use Rattle.fat_map.proofs.unfit.Goals as goal

pub returns-then-n-lt1 : goal.returns-then-n-lt1
returns-then-n-lt1 c = unfit_none _ c.if-n-lt1.true

pub returns-else-n-lt1 : goal.returns-else-n-lt1
returns-else-n-lt1 c = unfit_many _ (omega arith)
