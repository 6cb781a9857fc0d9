use mathlib.Core.Path.{refl, ◌∙◌}
use native.Mathlib.Omega.{arith}
use lib.ListN.{length-take, length-drop}
use Rattle.tree_key.specs.Key.{key_words}
use Rattle.tree_table.proofs.Chain.{ends_short, goes, fits_at, fits_index, part_key, seek_hit, seek_miss, seek_end}
use Rattle.tree_table.proofs.get.Goals as goal

pub loop-x-init : goal.loop-x-init
loop-x-init c = (c.requires.0, omega (arith, ends_short c.requires.0), refl)

pub overflow_mul-start : goal.overflow_mul-start
overflow_mul-start c = omega (arith, fits_index c.index.result c.loop-x.invariant.0 (omega arith) c.index.ensures)

pub overflow_add-end : goal.overflow_add-end
overflow_add-end c = omega (arith, fits_index c.index.result c.loop-x.invariant.0 (omega arith) c.index.ensures)

pub overflow_add-n : goal.overflow_add-n
overflow_add-n c = omega (arith, c.loop-x.invariant.1, (goes c.loop-x.invariant.0 (omega arith) refl).less)

pub slice_bounds-has_key-start : goal.slice_bounds-has_key-start
slice_bounds-has_key-start c = omega (arith, fits_index c.index.result c.loop-x.invariant.0 (omega arith) c.index.ensures)

pub slice_bounds-has_key-end : goal.slice_bounds-has_key-end
slice_bounds-has_key-end c = omega (arith, fits_index c.index.result c.loop-x.invariant.0 (omega arith) c.index.ensures)

pub has_key-requires : goal.has_key-requires
has_key-requires c = simp (length-take, length-drop) (omega (arith, fits_index c.index.result c.loop-x.invariant.0 (omega arith) c.index.ensures))

pub returns-then-has_key : goal.returns-then-has_key
returns-then-has_key c =
    seek_hit (goes c.loop-x.invariant.0 (omega arith) refl) (key_words c.args.key) c.loop-x.n c.has_key.result
    (part_key c.args.table.now c.args.w (key_words c.args.key) c.index.ensures c.requires.1 c.has_key.ensures) c.if-has_key.true
    ∙ c.loop-x.invariant.2

pub link_of-x-requires : goal.link_of-x-requires
link_of-x-requires c = (fits_at c.loop-x.invariant.0 (omega arith), omega arith)

pub loop-x-smaller : goal.loop-x-smaller
loop-x-smaller c = omega (arith, (goes c.loop-x.invariant.0 (omega arith) c.link_of-x.ensures).less)

pub loop-x-preserved : goal.loop-x-preserved
loop-x-preserved c =
    let g = goes c.loop-x.invariant.0 (omega arith) c.link_of-x.ensures in (
      g.rest,
      omega (arith, c.loop-x.invariant.1, g.less),
      seek_miss g (key_words c.args.key) c.loop-x.n c.has_key.result
          (part_key c.args.table.now c.args.w (key_words c.args.key) c.index.ensures c.requires.1 c.has_key.ensures) c.if-has_key.false
          ∙ c.loop-x.invariant.2,
    )

pub returns : goal.returns
returns c = seek_end (key_words c.args.key) c.loop-x.n c.loop-x.invariant.0 (omega arith) ∙ c.loop-x.invariant.2
