use mathlib.Core.Path.{◌∙◌}
use native.Mathlib.Omega.{arith}
use Rattle.tree_carry.proofs.Parts.{put_four}
use Rattle.tree_carry.proofs.put_carried_dir.Goals as goal

pub returns : goal.returns
returns c = c.put_bytes.ensures ∙ put_four c.args.dirs.now c.args.padding.now _ c.fits-padding _ (omega arith) c.told-padding (omega arith)
