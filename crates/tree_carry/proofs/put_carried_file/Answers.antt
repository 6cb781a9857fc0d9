use mathlib.Core.Path.{◌∙◌}
use native.Mathlib.Omega.{arith}
use Rattle.tree_carry.proofs.Parts.{put_twenty}
use Rattle.tree_carry.proofs.put_carried_file.Goals as goal

pub returns : goal.returns
returns c = c.put_bytes.ensures ∙ put_twenty c.args.files.now c.args.carried.now _ c.fits-carried _ (omega arith) c.told-carried (omega arith)
