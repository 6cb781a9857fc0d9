-- `judge` meets its contract.
use mathlib.Core.Path.{◌≡◌, ap, ◌∙◌}
use mathlib.Core.List.{List}
use Prim.Native.Nat.{ℕ}
use lib.ListN.{length, get_or, replicate}
use lib.ListN.{length-replicate}
use Rattle.tree_test.proofs.Cases.{replicate_zero}
use Rattle.tree_test.proofs.judge.Goals as goal

pub sound-r-requires : goal.sound-r-requires
sound-r-requires c = record { sized = c.requires.sized; work_len = ap length c.clear.ensures ∙ length-replicate _ _ ∙ c.requires.work_len; by_index = λ j. ap (λ (l : List ℕ). get_or l j 0) c.clear.ensures ∙ replicate_zero (length c.args.work.now) j }

pub returns : goal.returns
returns c =
    let l : length c.clear.new.work ≡ length c.args.work.now = c.clear.auto.work in
    (c.sound-r.ensures, c.clear-2.ensures ∙ ap (λ (m : ℕ). replicate m 0) (c.sound-r.auto.work ∙ l))
