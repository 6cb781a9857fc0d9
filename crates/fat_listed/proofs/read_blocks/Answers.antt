use lib.ListN.{length}
use borrow.Author.Rules.{rules}
use Rattle.fat_listed.proofs.Judges.{none_some, none_data, none_blocks, none_domestic, read_refused, read_done_lem}
use Rattle.fat_listed.proofs.read_blocks.Goals as goal

pub nonzero_div-n : goal.nonzero_div-n
nonzero_div-n c =
    none_some (length c.args.«data».now) c.args.block_len c.args.list.now c.args.pos (length c.args.buf.now) c.in_ok-judge.ensures

pub fetch-requires : goal.fetch-requires
fetch-requires c = record { fact = (none_data (length c.args.«data».now) c.args.block_len c.args.list.now c.args.pos (length c.args.buf.now) c.in_ok-judge.ensures, none_blocks (length c.args.«data».now) c.args.block_len c.args.list.now c.args.pos (length c.args.buf.now) c.in_ok-judge.ensures); domestic = none_domestic (length c.args.«data».now) c.args.block_len c.args.list.now c.args.pos (length c.args.buf.now) c.in_ok-judge.ensures }

pub returns-in_err-judge : goal.returns-in_err-judge
returns-in_err-judge c = search (rules, read_refused)

pub returns : goal.returns
returns c = read_done_lem c.args.«data».now c.args.block_len c.args.list.now c.args.pos c.args.buf.now c.in_ok-judge.ensures _ c.fetch.ensures
