-- Of some chains of a table of any bytes: which are whole, which are cut, and which are whole but share a block. n is the number of blocks, t the table, b a
-- first block, k what is told of its chain: 0 whole, 1 cut, 2 shared, 3 not followed.
use Rattle.std.specs.Prelude.{List, [], ◌∷◌, ◌++◌, Bool, false, cond, ◌||◌, ℕ, zero, suc, ◌+◌, ◌*◌, eqb, leb}
use Rattle.fat_node.specs.Entry.{Bytes}
use Rattle.fat_node.specs.Node.{Run}
use Rattle.fat_table.specs.Chain.{total}
use Rattle.fat_table.specs.Layout.{covers}
use Rattle.salvage.specs.Follow.{salvaged}

-- the chain that block b starts is whole (0), or cut (1)
unfoldable pub kind_of : (n : ℕ) (t : Bytes) (b : ℕ) → ℕ
kind_of n t b = cond (eqb (salvaged n t b).why.rule 0) 0 1

-- the same of each of a list, where `spent` blocks were followed before; 3 from where these are over 4n. (Chains that share nothing have no more than n.)
abbrev pub kinds : (n : ℕ) (t : Bytes) (firsts : List ℕ) (spent : ℕ) → List ℕ
kinds n t [] spent = []
kinds n t (b ∷ bs) spent =
    cond (leb spent (4 * n)) (kind_of n t b ∷ kinds n t bs (spent + total (salvaged n t b).runs)) (3 ∷ kinds n t bs spent)

-- the runs of the chain where it is whole
unfoldable pub whole_runs : (n : ℕ) (t : Bytes) (b k : ℕ) → List Run
whole_runs n t b k = cond (eqb k 0) (salvaged n t b).runs []

-- the runs of all that are whole, one chain after the other
abbrev pub laid : (n : ℕ) (t : Bytes) (firsts ks : List ℕ) → List Run
laid n t [] ks = []
laid n t (b ∷ bs) [] = []
laid n t (b ∷ bs) (k ∷ ks) = whole_runs n t b k ++ laid n t bs ks

-- a block of the s from b on is in two runs of the list or more
abbrev pub twice : (s b : ℕ) (l : List Run) → Bool
twice zero b l = false
twice (suc s) b l = leb 2 (covers b l) || twice s (suc b) l

-- a block of some run is
abbrev pub meets : (c l : List Run) → Bool
meets [] l = false
meets (r ∷ c) l = twice r.size r.start l || meets c l

-- what is told of a chain in the end, where l are the runs of all that are whole: 2 where it is whole and a block of it is in two of them
unfoldable pub told : (n : ℕ) (t : Bytes) (l : List Run) (b k : ℕ) → ℕ
told n t l b k = cond (eqb k 0) (cond (meets (salvaged n t b).runs l) 2 0) k

-- the same of each
abbrev pub tells : (n : ℕ) (t : Bytes) (l : List Run) (firsts ks : List ℕ) → List ℕ
tells n t l [] ks = []
tells n t l (b ∷ bs) [] = []
tells n t l (b ∷ bs) (k ∷ ks) = told n t l b k ∷ tells n t l bs ks

-- what is told of the chains that some blocks start
unfoldable pub trusts : (n : ℕ) (t : Bytes) (firsts : List ℕ) → List ℕ
trusts n t firsts = tells n t (laid n t firsts (kinds n t firsts 0)) firsts (kinds n t firsts 0)
