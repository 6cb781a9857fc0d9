use mathlib.Core.Path.{◌≡◌}
use lib.ListN.{length}
use Rattle.fat_listed.proofs.Shares.{Turned, Writing}
use Rattle.fat_listed.proofs.store.Given as goal

abbrev pub invariant-loop-b : goal.invariant-loop-b
invariant-loop-b l = Turned l.block_len l.pos (length l.buf) l.b-index l.from l.done × Writing l.list l.buf l.block_len l.pos l.initial.data l.data l.done × (length l.data ≡ length l.initial.data)
