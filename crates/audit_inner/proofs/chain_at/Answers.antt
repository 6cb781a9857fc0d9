use Rattle.audit_inner.proofs.Marking.{node_behind, node_free, node_file, node_fits, node_chain}
use Rattle.fat_walk.proofs.Found.{file_from, are_bytes}
use Rattle.audit_inner.proofs.chain_at.Goals as goal
use Rattle.audit_inner.proofs.chain_at.Goals.{then-prev_of-ne0-via-then-prev_of-ne0, then-prev_of-ne0-via-else-prev_of-ne0+then-head-b}

pub returns-then-prev_of-ne0 : goal.returns-then-prev_of-ne0
returns-then-prev_of-ne0 c =
    elim c.then-prev_of-ne0.branch [
      | then-prev_of-ne0-via-then-prev_of-ne0 w ↦ search (node_behind, are_bytes)
      | then-prev_of-ne0-via-else-prev_of-ne0+then-head-b w ↦ search (node_free, are_bytes)
    ]

pub count_of-requires : goal.count_of-requires
count_of-requires c = search (file_from, node_file, are_bytes)

pub overflow_cast-result : goal.overflow_cast-result
overflow_cast-result c = search (node_fits, node_file, are_bytes)

pub returns : goal.returns
returns c = search (node_chain, node_file, are_bytes)
