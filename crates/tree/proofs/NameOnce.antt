-- The promises of the two calls on a name leave one outcome: the number, and the bytes of the part that is shown. Where in the table an empty part stands is
-- left open.
use mathlib.Core.List.{List, []}
use Prim.Native.Nat.{ℕ}
use Rattle.order.specs.Giving.{giving}
use Rattle.order.specs.Answer.{Done}
use Rattle.tree_sound.specs.Tables.{Tables}
use Rattle.tree_promises.specs.declared.Kind.{Kind}
use Rattle.tree_promises.proofs.Unique.{One, one_tree}
use Rattle.tree.specs.Name.{kind_name, name_tests, NameAnswerPromise, NamePromise}

module _ (s : Tables) (work : List ℕ) (kind : Kind) (x : ℕ) where
  pub one_name_answer : One (NameAnswerPromise s work kind x)
  one_name_answer = one_tree (λ a. a) s work (giving (λ a. a) (name_tests kind s x)) Done

  pub one_name : One (NamePromise s work kind x)
  one_name = one_tree (λ a. []) s work (giving (λ a. []) (name_tests kind s x)) (kind_name kind s x)
