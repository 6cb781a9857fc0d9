use Rattle.audit_inner.proofs.Sweeping.{FilesGoing}
use Rattle.audit_inner.proofs.audit_files.Given as goal

abbrev pub invariant-loop-y : goal.invariant-loop-y
invariant-loop-y l = FilesGoing l.n l.block_len l.file_table l.initial.work l.initial.list l.y l.work l.list l.found
