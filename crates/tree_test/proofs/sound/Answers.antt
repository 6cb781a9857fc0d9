-- `sound` meets its contract.
use native.Mathlib.Omega.{arith}
use Rattle.tree_test.proofs.Cases.{zero_marks, later_zero, dirs_count, sound_dirs, sound_files}
use Rattle.tree_test.proofs.sound.Goals as goal

pub test_dirs-requires : goal.test_dirs-requires
test_dirs-requires c = (c.requires.sized.dir_table, c.requires.sized.dir_room, c.requires.sized.dir_some, c.requires.sized.dir_buckets, omega arith, zero_marks c.args.work.now 0 c.requires.by_index)

pub returns-else-test_dirs : goal.returns-else-test_dirs
returns-else-test_dirs c = rw c.if-test_dirs.false (sound_dirs c.test_dirs.ensures _ _ c.if-test_dirs.false)

pub test_files-requires : goal.test_files-requires
test_files-requires c =
    let n = dirs_count c.test_dirs.ensures c.if-test_dirs.true in
    let s = c.test_dirs.ensures.within.size in (
      c.requires.sized.file_table,
      c.requires.sized.file_room,
      c.requires.sized.file_some,
      c.requires.sized.file_buckets,
      omega arith,
      later_zero c.test_dirs.ensures c.requires.by_index,
      c.requires.sized.dir_table,
      n.0,
      n.1,
      omega arith,
      c.requires.sized.dir_room,
    )

pub returns-then-test_dirs : goal.returns-then-test_dirs
returns-then-test_dirs c = sound_files c.test_dirs.ensures _ _ c.if-test_dirs.true c.test_files.ensures
