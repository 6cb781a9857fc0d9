use Prim.Native.Nat.{ℕ}
use lib.Dec.{ltb}
use Rattle.std.proofs.Common.{List, get_or, rules, tests}
use Rattle.std.proofs.lemmas.List.Sorted.{IsPartitionPoint-from_clause, IsPartitionedBy-ltb}
use Rattle.tree_packed.proofs.Walks.{inodes_rise, place_found}
use Rattle.tree_packed.proofs.place_of.Goals as goal

pub returns : goal.returns
returns c =
    place_found c.requires c.args.inode c.as_chunks.ensures.front c.as_chunks.ensures.front_len c.partition_point.ensures.bound
    (IsPartitionPoint-from_clause (λ (y : List ℕ). ltb (get_or y 0 0) c.args.inode) _ c.partition_point.result c.partition_point.ensures.partitioned
    (IsPartitionedBy-ltb (λ (y : List ℕ). get_or y 0 0) _ c.args.inode (inodes_rise c.requires c.args.inode c.as_chunks.ensures.front c.as_chunks.ensures.front_len))
    (λ a r q k. search (rules, tests)))
