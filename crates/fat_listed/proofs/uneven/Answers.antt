use Prim.Native.Nat.{◌%◌}
use native.Mathlib.Omega.{arith}
use native.Mathlib.Nat.{div-add-mod'}
use Rattle.fat_listed.proofs.Tests.{uneven_none, uneven_by}
use Rattle.fat_listed.proofs.uneven.Goals as goal

pub returns-then-block_len-eq0 : goal.returns-then-block_len-eq0
returns-then-block_len-eq0 c = uneven_none c.args.data_len c.args.block_len c.if-block_len-eq0.true

pub returns : goal.returns
returns c = uneven_by c.args.data_len c.args.block_len (c.args.data_len % c.args.block_len) (omega (arith, div-add-mod' c.args.data_len c.args.block_len))
