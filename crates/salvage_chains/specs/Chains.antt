-- Some chains of a table of any bytes, each as far as it can be followed. n is the number of blocks, t the table, b a first block.
use Rattle.std.specs.Prelude.{List, [], ◌∷◌, ◌++◌, cond, ℕ, ◌+◌, ◌*◌, leb}
use Rattle.order.specs.Answer.{fault}
use Rattle.order.specs.declared.Fault.{Fault}
use Rattle.fat_node.specs.Entry.{Bytes}
use Rattle.fat_table.specs.Chain.{total}
use Rattle.fat_promises.specs.Blocks.{blocks_of}
use Rattle.salvage.specs.Follow.{Salvage, salvage, salvaged}

-- the chain that block b starts, where `spent` blocks were followed before; from where these are over 4n none is followed, for which rule 9 stands. (Chains
-- that share nothing have no more than n.)
unfoldable pub one : (n : ℕ) (t : Bytes) (b spent : ℕ) → Salvage
one n t b spent = cond (leb spent (4 * n)) (salvaged n t b) (salvage [] (fault 0 9))

-- the chains of some first blocks, in their order
abbrev pub chains_from : (n : ℕ) (t : Bytes) (firsts : List ℕ) (spent : ℕ) → List Salvage
chains_from n t [] spent = []
chains_from n t (b ∷ bs) spent = one n t b spent ∷ chains_from n t bs (spent + total (one n t b spent).runs)

unfoldable pub chains : (n : ℕ) (t : Bytes) (firsts : List ℕ) → List Salvage
chains n t firsts = chains_from n t firsts 0

-- how many blocks they have together
abbrev pub many : List Salvage → ℕ
many [] = 0
many (c ∷ cs) = total c.runs + many cs

-- the three numbers that tell of a chain: how many blocks it has, and by entry and rule why it has no more
abbrev pub told : (count : ℕ) (why : Fault) → List ℕ
told count why = count ∷ why.entry ∷ why.rule ∷ []

-- the same of each
abbrev pub ends_of : List Salvage → List ℕ
ends_of [] = []
ends_of (c ∷ cs) = told (total c.runs) c.why ++ ends_of cs

-- the blocks, one chain behind the other
abbrev pub followed : List Salvage → List ℕ
followed [] = []
followed (c ∷ cs) = blocks_of c.runs ++ followed cs
