use lib.ListN.{length}
use borrow.Author.Rules.{rules}
use Prim.Native.Nat.{ℕ}
use Rattle.fat_listed.proofs.Judges.{none_some, none_data, none_blocks, none_domestic, write_none, write_refused, write_done_lem}
use Rattle.fat_listed.proofs.write_blocks.Goals as goal

pub nonzero_div-n : goal.nonzero_div-n
nonzero_div-n c =
    none_some (length c.args.«data».now) c.args.block_len c.args.list.now c.args.pos (length c.args.buf.now)
    (write_none _ _ c.args.list.now _ _ c.in_ok-judge_write.ensures)

pub store-requires : goal.store-requires
store-requires c = let n = write_none _ _ c.args.list.now _ _ c.in_ok-judge_write.ensures in
    let d : ℕ = length c.args.«data».now in
    let many : ℕ = length c.args.buf.now in record { fact = (none_data d c.args.block_len c.args.list.now c.args.pos many n, none_blocks d c.args.block_len c.args.list.now c.args.pos many n); domestic = none_domestic d c.args.block_len c.args.list.now c.args.pos many n }

pub returns-in_err-judge_write : goal.returns-in_err-judge_write
returns-in_err-judge_write c = search (rules, write_refused)

pub returns : goal.returns
returns c = write_done_lem c.args.«data».now c.args.block_len c.args.list.now c.args.pos c.args.buf.now c.in_ok-judge_write.ensures _ c.store.ensures
