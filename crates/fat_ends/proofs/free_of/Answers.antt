-- `fat_ends::free_of` meets its contract.
use Rattle.std.proofs.Common.{ℕ, ◌≡◌, ◌+◌, ◌-◌, ◌%◌, length, get_or, arith}
use mathlib.Core.Path.{subst⁻¹}
use Rattle.fat_ends.proofs.Joins.{free_frag}
use Rattle.fat_ends.proofs.Ends.{free_in, free_sum, free_done}
use Rattle.fat_ends.specs.Inner.Ends.{span}
use Rattle.fat_table.specs.Sound.{Along}
use Rattle.fat_ends.proofs.free_of.Goals as goal

pub returns-then-h-eq0 : goal.returns-then-h-eq0
returns-then-h-eq0 c = (subst⁻¹ (λ (x : ℕ). Along c.args.table.now (length c.args.work.now) x 0) c.if-h-eq0.true Along.end, omega arith)

pub offset_bounds-work-f : goal.offset_bounds-work-f
offset_bounds-work-f c = let hf = c.requires.by_index_2 (c.args.h - 1) (omega arith) in omega (arith, hf.0.1)

pub bounds-work-f : goal.bounds-work-f
bounds-work-f c = let hf = c.requires.by_index_2 (c.args.h - 1) (omega arith) in omega (arith, hf.0.1)

pub sum_of-requires : goal.sum_of-requires
sum_of-requires c =
    let f = c.args.h - 1 in
    let z = get_or c.args.work.now f 0 % span - 1 in
    let hf = c.requires.by_index_2 f (omega arith) in
    let st = c.requires.by_index.1 in
    let q : get_or c.args.work.now f 0 % span ≡ z + 1 = omega (arith, (free_frag st f hf.0 hf.1).1.1.last) in
    let g = free_sum st f z hf.0 hf.1 q in
    record { table_len = omega arith; h_in_bounds = omega (arith, hf.0.1, free_in st f z hf.0 hf.1 q); by_index = (g.0, (g.1.0, omega (arith, g.1.1))) }

pub returns : goal.returns
returns c =
    let f = c.args.h - 1 in
    let z = get_or c.args.work.now f 0 % span - 1 in
    let hf = c.requires.by_index_2 f (omega arith) in
    let st = c.requires.by_index.1 in
    let q : get_or c.args.work.now f 0 % span ≡ z + 1 = omega (arith, (free_frag st f hf.0 hf.1).1.1.last) in
    free_done st f z hf.0 hf.1 q _ _ (omega arith) c.sum_of.ensures
