use mathlib.Core.Path.{sym, ◌∙◌, subst}
use Prim.Native.Nat.{◌+◌, ◌*◌, ◌≤◌}
use native.Mathlib.Omega.{arith}
use lib.ListN.{length}
use Rattle.tree_table.proofs.Cases.{took_new, took_removed, field_0}
use Rattle.tree_table.proofs.take.Goals as goal

pub overflow_add-n : goal.overflow_add-n
overflow_add-n c = omega (arith, c.requires.3 (field_0 c.args.w c.args.table.now 0 0 ∙ sym c.link_of-first.ensures ∙ c.if-first-eq0.true), c.link_of-n.ensures, field_0 c.args.w c.args.table.now 0 1)

pub returns-then-first-eq0 : goal.returns-then-first-eq0
returns-then-first-eq0 c = took_new c.args.w c.args.table.now _ c.link_of-first.result c.link_of-n.result c.link_of-first.ensures c.if-first-eq0.true c.link_of-n.ensures c.put_link.ensures

pub link_of-next-requires : goal.link_of-next-requires
link_of-next-requires c = (subst (λ z. z * c.args.w + c.args.w ≤ length c.args.table.now) (field_0 c.args.w c.args.table.now 0 0 ∙ sym c.link_of-first.ensures) c.requires.2, omega arith)

pub returns : goal.returns
returns c = took_removed c.args.w c.args.table.now _ c.link_of-first.result c.link_of-next.result c.link_of-first.ensures c.if-first-eq0.false c.link_of-next.ensures c.put_link-2.ensures
