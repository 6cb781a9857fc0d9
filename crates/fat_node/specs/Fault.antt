-- Where a node can't be read (RULES 3.6): the first of rules 1 to 5 that stands broken at a block, and the entry that it blames.
use Rattle.std.specs.Prelude.{Bool, true, false, not, ◌&&◌, ◌||◌, ℕ, ◌+◌, eqb, leb, ltb}
use Rattle.order.specs.Answer.{fault, unbroken}
use Rattle.order.specs.declared.Fault.{Fault}
use Rattle.fat_node.specs.Entry.{Bytes, top, u_at, v_at}

-- the fault where the test says yes, else what follows
unfoldable pub when : Bool → Fault → Fault → Fault
when true f g = f
when false f g = g

-- rule 1: u of a start entry has its flag and an index that is not 0, or neither
unfoldable pub bad_start : (u : ℕ) → Bool
bad_start u = eqb u 0 || ltb top u

-- rule 3: the second entry of a node of several blocks at b is not u = (b + 1, flag 1), v = (an end of b + 2 or more, flag 0)
unfoldable pub bad_second : (u v b : ℕ) → Bool
bad_second u v b = not (eqb u (top + (b + 1))) || (leb top v || ltb v (b + 2))

-- rule 5: entry e does not hold u and v
unfoldable pub differs : (t : Bytes) (e u v : ℕ) → Bool
differs t e u v = not (eqb (u_at t e) u && eqb (v_at t e) v)

-- rules 2 to 5, where the start entry at block b says several blocks: no room for a second entry, its form, its end over n, the end entry
unfoldable pub span_fault : (n : ℕ) (t : Bytes) (b : ℕ) → Fault
span_fault n t b =
    when (ltb n (b + 2)) (fault (b + 1) 2)
    (when (bad_second (u_at t (b + 2)) (v_at t (b + 2)) b) (fault (b + 2) 3)
    (when (ltb n (v_at t (b + 2))) (fault (b + 2) 4)
    (when (differs t (v_at t (b + 2)) (u_at t (b + 2)) (v_at t (b + 2))) (fault (v_at t (b + 2)) 5) unbroken)))

-- rules 1 to 5 at block b, of n
unfoldable pub node_fault : (n : ℕ) (t : Bytes) (b : ℕ) → Fault
node_fault n t b =
    when (bad_start (u_at t (b + 1))) (fault (b + 1) 1)
    (when (ltb (v_at t (b + 1)) top) unbroken (span_fault n t b))
