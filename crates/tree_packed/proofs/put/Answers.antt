-- `tree_packed::put` meets its contract.
use native.Mathlib.Omega.{arith}
use Rattle.tree_packed.proofs.Cases.{put_nothing, put_full, put_new, put_out, put_over, there}
use Rattle.tree_packed.proofs.put.Goals as goal

pub returns-then-record-eq0 : goal.returns-then-record-eq0
returns-then-record-eq0 c = search (put_nothing)

pub returns-then-list-k : goal.returns-then-list-k
returns-then-list-k c = search (put_full)

pub returns-then-record_of-eq0 : goal.returns-then-record_of-eq0
returns-then-record_of-eq0 c = search (put_new)

pub take_out-requires : goal.take_out-requires
take_out-requires c = there c.requires _ c.record_of.result c.record_of.ensures c.place_of-j.ensures c.if-record_of-eq0.false

pub overflow_sub-result : goal.overflow_sub-result
overflow_sub-result c = omega (arith, there c.requires _ c.record_of.result c.record_of.ensures c.place_of-j.ensures c.if-record_of-eq0.false)

pub returns-then-record-eq0-2 : goal.returns-then-record-eq0-2
returns-then-record-eq0-2 c = search (put_out)

pub bounds-list-j : goal.bounds-list-j
bounds-list-j c = omega (arith, there c.requires _ c.record_of.result c.record_of.ensures c.place_of-j.ensures c.if-record_of-eq0.false)

pub returns : goal.returns
returns c = search (put_over)
