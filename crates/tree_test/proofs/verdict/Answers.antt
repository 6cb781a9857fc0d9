-- `verdict` meets its contract.
use mathlib.Core.Path.{◌≡◌, sym, ap, ◌∙◌}
use mathlib.Core.List.{List, ◌++◌}
use Prim.Native.Nat.{ℕ}
use native.Mathlib.Omega.{arith}
use lib.ListN.{length, take, drop, replicate}
use lib.Seq.{length-take-le}
use Rattle.tree_sound.specs.Sizes.{rooms}
use Rattle.tree_test.proofs.verdict.Goals as goal

pub slice_bounds-judge-end-2 : goal.slice_bounds-judge-end-2
slice_bounds-judge-end-2 c = sym (length-take-le (rooms c.args.dir_table.now c.args.file_table.now) c.args.work.now (omega arith))

pub judge-requires : goal.judge-requires
judge-requires c = record { sized = c.requires.sized; work_len = length-take-le (rooms c.args.dir_table.now c.args.file_table.now) c.args.work.now (omega arith) }

pub returns : goal.returns
returns c =
    let l : length (take (rooms c.args.dir_table.now c.args.file_table.now) c.args.work.now) ≡ rooms c.args.dir_table.now c.args.file_table.now = length-take-le (rooms c.args.dir_table.now c.args.file_table.now) c.args.work.now (omega arith) in (
      c.judge.ensures.0,
      ap (λ (v : List ℕ). v ++ drop (rooms c.args.dir_table.now c.args.file_table.now) c.args.work.now) (c.judge.ensures.1 ∙ ap (λ (m : ℕ). replicate m 0) l),
    )
