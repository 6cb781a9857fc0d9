-- `tree_aged::aged_open` meets its contract.
use Rattle.tree_aged.proofs.Public.{told_root, told_dir, told_file, told_none}
use Rattle.tree_aged.proofs.aged_open.Goals as goal

pub returns-then-link_of-ne0 : goal.returns-then-link_of-ne0
returns-then-link_of-ne0 c = search (told_root)

pub returns-in-Some : goal.returns-in-Some
returns-in-Some c = told_dir _ _ _ _ c.link_of.ensures c.if-link_of-ne0.false _ _ c.in-Some.ensures

pub returns-in_err-inode : goal.returns-in_err-inode
returns-in_err-inode c =
    rw c.from_residual.ensures (told_none _ _ _ _ c.link_of.ensures c.if-link_of-ne0.false _ c.in_default.ensures _ c.in_err-inode.ensures)

pub returns : goal.returns
returns c = told_file _ _ _ _ c.link_of.ensures c.if-link_of-ne0.false _ c.in_default.ensures _ _ c.in_ok-inode.ensures
