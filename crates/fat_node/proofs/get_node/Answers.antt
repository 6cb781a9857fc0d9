-- `fat_node::get_node` meets its contract.
use Rattle.std.proofs.Common.{sym, ap, ◌∙◌, ◌%◌, ℕ, arith}
use Rattle.std.proofs.lemmas.Result.{err_from_is_err_and}
use Rattle.fat_node.specs.Entry.{top}
use Rattle.fat_node.specs.Node.{NodeAt}
use Rattle.fat_node.proofs.Faults.{read_start, read_one, read_span, read_more}
use Rattle.fat_node.proofs.get_node.Goals as goal
use Rattle.fat_node.proofs.get_node.Goals.{then-v-lt-FLAG, else-v-lt-FLAG+in_ok-size}

pub returns-then-bad_start : goal.returns-then-bad_start
returns-then-bad_start c =
    read_start _ _ _ _ _ (omega arith) (omega arith) c.u_of-u.ensures c.v_of-v.ensures (sym c.bad_start.ensures ∙ c.if-bad_start.true)

pub returns-in_err-size : goal.returns-in_err-size
returns-in_err-size c =
    let p = err_from_is_err_and c.from_residual.result c.from_residual.ensures.1 in
    rw (p.1, p.2)
    (read_span _ _ _ _ _ (omega arith) (omega arith) c.u_of-u.ensures c.v_of-v.ensures (sym c.bad_start.ensures ∙ c.if-bad_start.false) _ (omega arith) c.in_err-size.ensures)

pub returns : goal.returns
returns c =
    let no = sym c.bad_start.ensures ∙ c.if-bad_start.false in
    let node : NodeAt c.args.table.now c.args.n c.args.b _ =
    elim c.if-v-lt-FLAG.branch [
      | then-v-lt-FLAG w ↦ read_one _ _ _ _ _ (omega arith) (omega arith) c.u_of-u.ensures c.v_of-v.ensures no _ (omega arith) w.size-is
      | else-v-lt-FLAG+in_ok-size w ↦
          rw w.size-is (read_more _ _ _ _ _ (omega arith) (omega arith) c.u_of-u.ensures c.v_of-v.ensures no _ (omega arith) w.in_ok-size.ensures)
    ] in
    (node, ap (λ (x : ℕ). x % top) c.u_of-u.ensures, ap (λ (x : ℕ). x % top) c.v_of-v.ensures)
