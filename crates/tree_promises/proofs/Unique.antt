-- Each tree call's promise and its input leave one answer, with one of every lent buffer. Lookup and listing are said of a view, the other calls of a
-- kind: the directories or the files.
use mathlib.Core.Path.{◌≡◌}
use mathlib.Core.List.{List, [], ◌++◌}
use Prim.Native.Nat.{ℕ}
use lib.ListN.{length, replicate}
use Rattle.order.specs.First.{Row}
use Rattle.order.specs.Beside.{Beside, beside, within, Promised}
use Rattle.order.specs.Answer.{Answer}
use Rattle.order.specs.Answer.{Done}
use Rattle.order.proofs.One.{one}
use Rattle.tree_key.specs.Key.{name_key}
use Rattle.tree_table.specs.View.{View}
use Rattle.tree_test.specs.Gate.{tree_gate, open_gate, packed_gate}
use Rattle.tree_sound.specs.Tables.{Tables}
use Rattle.tree_opens.specs.declared.Want.{Want}
use Rattle.tree_promises.specs.declared.Kind.{Kind}
use Rattle.tree_promises.specs.Kinds.{carried_many, kind_view, kind_room}
use Rattle.tree_promises.specs.Calls as calls
use Rattle.tree_promises.specs.Promise.{worked, TreePromise, OpensPromise}
use Rattle.tree_promises.specs.Format.{format_rows, formatted, FormatPromise}
use Rattle.tree_promises.specs.Public as promised
use Rattle.tree_promises.specs.Packed.{Outcome, refuse, PackedPromise}
use Rattle.tree_packed.specs.Opens.{Opens}
use Rattle.order.specs.Giving.{giving}

-- no two outcomes keep the promise P
abbrev pub One : {A : Type 0} → (A → Type 0) → Type 0
One {A} P = (o o' : A) → P o → P o' → o ≡ o'

-- whatever the rows are
pub one_promised : {A : Type 0} (front : List (Row (Beside A))) (work : List ℕ) (own : List (Row A)) (done : A) → One (Promised front work own done)
one_promised front work own done o o' p q = one (front ++ within work own) (beside done work) o o' p q

module _ {A : Type 0} (refuse : Answer → A) (s : Tables) where
  pub one_tree : (work : List ℕ) (own : List (Row A)) (done : A) → One (TreePromise refuse s work own done)
  unfolding TreePromise
  one_tree work own done = one_promised (tree_gate (λ a w. beside (refuse a) w) s work) (worked s work) own done

  pub one_opens : (kind : Kind) (opens work : List ℕ) (own : List (Row A)) (done : A) → One (OpensPromise kind refuse s opens work own done)
  unfolding OpensPromise
  one_opens kind opens work own done =
      one_promised (open_gate (λ a w. beside (refuse a) w) s (length opens) (kind_room kind s) work) (worked s work) own done

-- ---- the calls

pub one_format : (s : Tables) (dm fm : ℕ) → One (FormatPromise s dm fm)
one_format s dm fm = one (format_rows s dm fm) (calls.carry_gives Done (formatted s dm fm))

module _ (s : Tables) (work : List ℕ) where
  pub one_lookup : (v : View) (p : ℕ) (name : List ℕ) → One (promised.LookupPromise s v work p name)
  one_lookup v p name = one_tree (λ a. calls.lookup_gives a 0 0) s work (calls.lookup_rows v (name_key p name)) (calls.lookup_done v (name_key p name))

  pub one_list : (v : View) (x : ℕ) (list : List ℕ) → One (promised.ListPromise s v work x list)
  one_list v x list = one_tree (λ a. calls.list_gives a 0 list) s work (calls.list_rows s v x list) (calls.list_done v x list)

  pub one_stat : One (promised.StatPromise s work)
  one_stat = one_tree (λ a. calls.stat_gives a 0 0 0 0) s work [] (calls.stat_done s)

-- directories and files alike
module _ (kind : Kind) (s : Tables) (work : List ℕ) where
  pub one_carried : (x : ℕ) → One (promised.CarriedPromise kind s work x)
  one_carried x =
      one_tree (λ a. calls.shown_gives a (replicate (carried_many kind) 0)) s work (calls.shown_rows (kind_view kind s) x (replicate (carried_many kind) 0))
      (calls.carried_done kind s x)

  pub one_set_carried : (x : ℕ) (bytes : List ℕ) → One (promised.SetCarriedPromise kind s work x bytes)
  one_set_carried x bytes = one_tree (λ a. calls.carry_gives a s) s work (calls.carry_rows s (kind_view kind s) x) (calls.carry_done kind s x bytes)

  module _ (opens : List ℕ) where
    pub one_make : (p : ℕ) (name bytes : List ℕ) → One (promised.MakePromise kind s opens work p name bytes)
    one_make p name bytes =
        one_opens (λ a. calls.make_gives a 0 s opens) s kind opens work (calls.make_rows s (kind_view kind s) opens p name)
        (calls.make_done kind s opens p name bytes)

    pub one_rename : (x p : ℕ) (name : List ℕ) → One (promised.RenamePromise kind s opens work x p name)
    one_rename x p name =
        one_opens (λ a. calls.change_gives a s opens) s kind opens work (calls.rename_rows kind s opens x p name) (calls.rename_done kind s opens x p name)

    pub one_delete : (x : ℕ) → One (promised.DeletePromise kind s opens work x)
    one_delete x = one_opens (λ a. calls.change_gives a s opens) s kind opens work (calls.delete_rows kind s opens x) (calls.delete_done kind s opens x)

    pub one_open : (x : ℕ) (want : Want) → One (promised.OpenPromise kind s opens work x want)
    one_open x want =
        one_opens (λ a. calls.opening_gives a opens) s kind opens work (calls.open_rows (kind_view kind s) opens x want) (calls.open_done opens x want)

    pub one_close : (x : ℕ) (want : Want) → One (promised.ClosePromise kind s opens work x want)
    one_close x want =
        one_opens (λ a. calls.opening_gives a opens) s kind opens work (calls.close_rows (kind_view kind s) opens x want) (calls.close_done opens x want)

-- the five over a packed list of open records, whatever their tests and what Done gives
pub one_packed : (s : Tables) (o : Opens) (work : List ℕ) (tests : List (Row Answer)) (done : Outcome) → One (PackedPromise s o work tests done)
unfolding PackedPromise
one_packed s o work tests done =
    one_promised (packed_gate (λ a w. beside (refuse s o a) w) s o work) (worked s work) (giving (refuse s o) tests) done
