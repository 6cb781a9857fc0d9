use Rattle.std.proofs.Common.{rules}
use Rattle.fat_listed.proofs.Seen.{told}
use Rattle.fat_listed.proofs.foreign.Goals as goal

pub returns : goal.returns
returns c = told _ _ _ _ _ c.requires.0 c.touched.ensures _ _ (search rules) (search rules)
