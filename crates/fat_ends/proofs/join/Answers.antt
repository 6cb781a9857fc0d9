-- `fat_ends::join` meets its contract.
use Rattle.std.proofs.Common.{◌-◌, arith}
use Rattle.fat_node.proofs.Cases.{untrue}
use Rattle.fat_ends.proofs.Joins.{start_of, end_of, ring_broken}
use Rattle.fat_ends.proofs.join.Goals as goal
use Rattle.fat_ends.proofs.join.Goals.{then-v-eq0-via-then-v-eq0, then-v-eq0-via-else-v-eq0+then-prev_of-b}

pub returns-then-x-work : goal.returns-then-x-work
returns-then-x-work c = record { yes = λ e. untrue e; sound = λ s. let f = s.forth c.args.b (c.args.x - 1) c.requires.node.0 (omega arith) in absurd (omega (arith, f.0.1)) }

pub returns-then-v-eq0 : goal.returns-then-v-eq0
returns-then-v-eq0 c = record {
  yes = λ e. untrue e;
  sound = λ s.
      let f = s.forth c.args.b (c.args.x - 1) c.requires.node.0 (omega arith) in
      elim c.then-v-eq0.branch [
        | then-v-eq0-via-then-v-eq0 w ↦ absurd (omega (arith, c.requires.by_index.1.mark (c.args.x - 1) f.0))
        | then-v-eq0-via-else-v-eq0+then-prev_of-b w ↦ absurd (omega (arith, f.1))
      ];
}

pub returns-then-h-j : goal.returns-then-h-j
returns-then-h-j c = record { yes = λ e. untrue e; sound = λ s. absurd (ring_broken c.requires.by_index.1 c.requires.node.0 (c.args.x - 1) (omega arith) (omega arith) (omega (arith, (start_of c.requires.by_index.1 c.requires.node.0).1.0)) s) }

pub overflow_sub-z : goal.overflow_sub-z
overflow_sub-z c = omega (arith, (end_of c.requires.by_index.1 (c.args.x - 1) (omega arith) (omega arith)).1.0)

pub merge-requires : goal.merge-requires
merge-requires c =
    let st = c.requires.by_index.1 in
    let nb = c.requires.node.0 in
    record {
      table_len = omega arith;
      work_len_bound = omega arith;
      joinable = record {
        k = c.requires.by_index.0;
        state = st;
        node = nb;
        next = omega arith;
        mark = omega arith;
        back = omega arith;
        first = omega (arith, (start_of st nb).1.0);
        last = omega (arith, (end_of st (c.args.x - 1) (omega arith) (omega arith)).1.0);
        ring = c.if-h-j.false;
      };
    }
