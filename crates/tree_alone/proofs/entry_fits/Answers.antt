-- `entry_fits` meets its contract.
use mathlib.Core.Path.{sym, ap, ◌∙◌, subst}
use Prim.Native.Nat.{◌-◌, ◌%◌, ◌<◌}
use native.Mathlib.Omega.{arith}
use native.Mathlib.Nat.{mod-lt}
use lib.ListN.{length}
use Rattle.tree_key.specs.Hash.{hash_of}
use Rattle.tree_key.specs.Key.{key_words}
use Rattle.tree_table.specs.Chain.{Ends}
use Rattle.tree_alone.proofs.Entries.{fits_gone, fits_not, fits_long, fits_apart, read_key, at_index}
use Rattle.tree_alone.proofs.entry_fits.Goals as goal

pub returns-then-mark-eq-GONE : goal.returns-then-mark-eq-GONE
returns-then-mark-eq-GONE c = fits_gone _ _ _ _ _ _ c.if-mark-eq-GONE.true

pub overflow_mul-start : goal.overflow_mul-start
overflow_mul-start c = omega (arith, at_index c.index.result c.args.y c.args.w (length c.args.table.now) c.index.ensures c.requires.0)

pub overflow_add-end : goal.overflow_add-end
overflow_add-end c = omega (arith, at_index c.index.result c.args.y c.args.w (length c.args.table.now) c.index.ensures c.requires.0)

pub slice_bounds-get_key-end : goal.slice_bounds-get_key-end
slice_bounds-get_key-end c = omega (arith, at_index c.index.result c.args.y c.args.w (length c.args.table.now) c.index.ensures c.requires.0)

pub overflow_add-place : goal.overflow_add-place
overflow_add-place c = let h : hash_of (key_words c.get_key-key.result) % c.args.buckets < c.args.buckets = mod-lt _ (omega arith) in omega arith

pub returns-then-index-place : goal.returns-then-index-place
returns-then-index-place c = fits_not _ _ _ _ _ _ c.if-mark-eq-GONE.false c.hash-place.result (c.hash-place.ensures ∙ ap (λ k. hash_of k % c.args.buckets) (read_key c.args.table.now c.args.w c.index.ensures (omega arith) c.get_key-key.ensures)) (λ e. c.if-index-place.true (c.index-2.ensures ∙ e))

pub returns-then-long : goal.returns-then-long
returns-then-long c = fits_long _ _ _ _ _ _ c.if-mark-eq-GONE.false c.hash-place.result (c.hash-place.ensures ∙ ap (λ k. hash_of k % c.args.buckets) (read_key c.args.table.now c.args.w c.index.ensures (omega arith) c.get_key-key.ensures)) (sym c.index-2.ensures ∙ c.if-index-place.false) c.if-long.true

pub get-requires : goal.get-requires
get-requires c = ((subst (λ z. Ends c.args.table.now c.args.w (c.args.w - 4) z) (sym c.link_of-first.ensures) (c.requires.4 c.if-mark-eq-GONE.false (let e = c.index-2.ensures in omega arith))), omega arith)

pub returns : goal.returns
returns c = fits_apart _ _ _ _ _ _ c.if-mark-eq-GONE.false c.hash-place.result (c.hash-place.ensures ∙ ap (λ k. hash_of k % c.args.buckets) (read_key c.args.table.now c.args.w c.index.ensures (omega arith) c.get_key-key.ensures)) (sym c.index-2.ensures ∙ c.if-index-place.false) c.if-long.false (key_words c.get_key-key.result) (read_key c.args.table.now c.args.w c.index.ensures (omega arith) c.get_key-key.ensures) c.link_of-first.result c.link_of-first.ensures (subst (λ z. Ends c.args.table.now c.args.w (c.args.w - 4) z) (sym c.link_of-first.ensures) (c.requires.4 c.if-mark-eq-GONE.false (let e = c.index-2.ensures in omega arith))) c.get.result c.get.ensures
