use mathlib.Core.Path.{◌≡◌}
use lib.ListN.{length}
use Rattle.fat_listed.proofs.Shares.{Turned, Reading}
use Rattle.fat_listed.proofs.fetch.Given as goal

abbrev pub invariant-loop-b : goal.invariant-loop-b
invariant-loop-b l = Turned l.block_len l.pos (length l.initial.buf) l.b-index l.from l.done × Reading l.list l.data l.block_len l.pos l.initial.buf l.buf l.done × (length l.buf ≡ length l.initial.buf)
