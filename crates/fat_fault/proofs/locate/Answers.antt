-- `fat_fault::locate` meets its contract.
use mathlib.Core.Path.{◌≡◌, ap, ◌∙◌}
use Prim.Native.Nat.{ℕ}
use lib.ListN.{length, replicate}
use Rattle.fat_fault.proofs.locate.Goals as goal

pub returns : goal.returns
returns c =
    let l : length c.find-found.new.work ≡ length c.args.work.now = c.find-found.auto.work in
    (c.find-found.ensures, c.clear.ensures ∙ ap (λ (m : ℕ). replicate m 0) l)
