-- `check_bucket` meets its contract.
use mathlib.Core.Path.{refl}
use native.Mathlib.Omega.{arith}
use borrow.Author.Rules.{rules}
use Rattle.tree_table.proofs.Chain.{goes, fits_at}
use Rattle.tree_alone.proofs.Entries.{going_begin, going_on, going_stop, going_done, all_fit_far}
use Rattle.tree_alone.proofs.check_bucket.Goals as goal

pub loop-x-init : goal.loop-x-init
loop-x-init c = going_begin _ c.requires.0

pub entry_fits-requires : goal.entry_fits-requires
entry_fits-requires c = (fits_at c.loop-x.invariant.on (omega arith), search rules, search rules, search rules, λ n p. (goes c.loop-x.invariant.on (omega arith) refl).rest)

pub returns-then-not-entry_fits : goal.returns-then-not-entry_fits
returns-then-not-entry_fits c = all_fit_far c.args.table.now c.args.w c.args.buckets c.args.first c.args.mark c.requires.4 (going_stop c.loop-x.invariant (omega arith) c.entry_fits.ensures (search rules))

pub link_of-x-requires : goal.link_of-x-requires
link_of-x-requires c = (fits_at c.loop-x.invariant.on (omega arith), omega arith)

pub loop-x-smaller : goal.loop-x-smaller
loop-x-smaller c = omega (arith, (goes c.loop-x.invariant.on (omega arith) c.link_of-x.ensures).less)

pub loop-x-preserved : goal.loop-x-preserved
loop-x-preserved c = going_on c.loop-x.invariant (omega arith) c.link_of-x.ensures c.entry_fits.ensures (search rules)

pub returns : goal.returns
returns c = all_fit_far c.args.table.now c.args.w c.args.buckets c.args.first c.args.mark c.requires.4 (going_done c.loop-x.invariant (omega arith))
