-- One answer for the exports that take open records: open and close, and make, rename and delete. o is the packed list with the number of records in it.
use mathlib.Core.Path.{refl}
use mathlib.Core.List.{List}
use mathlib.Core.Logic.{◌⊎◌}
use Prim.Native.Nat.{ℕ, ◌<◌}
use lib.ListN.{length}
use Rattle.order.specs.First.{Row, First}
use Rattle.order.specs.Giving.{giving}
use Rattle.order.specs.Beside.{beside}
use Rattle.order.specs.Answer.{Answer}
use Rattle.order.proofs.One.{one}
use Rattle.tree_test.specs.Gate.{entry_gate}
use Rattle.tree_sound.specs.Tables.{Tables, OutsideIn, rooms_in}
use Rattle.tree_packed.specs.Opens.{Opens, InOrder}
use Rattle.tree_promises.specs.declared.Kind.{Kind}
use Rattle.tree_promises.specs.Promise.{worked}
use Rattle.tree_promises.specs.Packed.{Outcome, gives, refuse, PackedPromise, open_tests, open_done, close_tests, close_done}
use Rattle.tree_promises.proofs.Unique.{One, one_promised, one_packed}
use Rattle.mukthiban.specs.Opening.{want_of, AskedPromise, OpenKindPromise, CloseKindPromise}
use Rattle.mukthiban.proofs.One.{OneExport, one_export, one_beside}

module _ (s : Tables) (o : Opens) (work : List ℕ) where
  one_asked : (number : ℕ) (tests : List (Row Answer)) (done : Outcome) → One (AskedPromise s o work number tests done)
  one_asked number tests done =
      one_promised
      (entry_gate (λ a w. beside (refuse s o a) w) s ((OutsideIn s ⊎ (InOrder o → ⊥)) ⊎ (1 < number)) (length work < rooms_in s) work)
      (worked s work) (giving (refuse s o) tests) done

  -- open and close: the tables are lent to be read
  module _ (kind : Kind) (x number : ℕ) where
    pub export_tree_open : OneExport {X = Opens × List ℕ} (λ a x. beside (gives a 0 s x.0) x.1) (OpenKindPromise kind s o work x number)
    export_tree_open =
        one_beside (λ (a : Answer) (x : Opens). gives a 0 s x) (λ g. g.answer) (λ g. g.opens) (OpenKindPromise kind s o work x number) (λ a x. refl) (λ a x. refl)
        (one_asked number (open_tests kind s o x (want_of number)) (open_done kind s o x (want_of number)))

    pub export_tree_close : OneExport {X = Opens × List ℕ} (λ a x. beside (gives a 0 s x.0) x.1) (CloseKindPromise kind s o work x number)
    export_tree_close =
        one_beside (λ (a : Answer) (x : Opens). gives a 0 s x) (λ g. g.answer) (λ g. g.opens) (CloseKindPromise kind s o work x number) (λ a x. refl) (λ a x. refl)
        (one_asked number (close_tests kind s o x (want_of number)) (close_done kind s o x (want_of number)))

  -- make, rename and delete, whatever their tests and what Done gives; rename and delete answer no inode
  pub export_tree_change : (tests : List (Row Answer)) (done : Outcome)
      → OneExport {X = (ℕ × (Tables × Opens)) × List ℕ} (λ a x. beside (gives a x.0.0 x.0.1.0 x.0.1.1) x.1) (PackedPromise s o work tests done)
  export_tree_change tests done =
      one_beside (λ (a : Answer) (x : ℕ × (Tables × Opens)). gives a x.0 x.1.0 x.1.1) (λ g. g.answer) (λ g. (g.inode, (g.tables, g.opens))) (PackedPromise s o work tests done)
      (λ a x. refl) (λ a x. refl) (one_packed s o work tests done)

-- the inner exports of the five
pub inner_outcome : (rs : List (Row Outcome)) (d : Outcome) → OneExport {X = ℕ × (Tables × Opens)} (λ a x. gives a x.0 x.1.0 x.1.1) (First rs d)
inner_outcome rs d = one_export (λ (a : Answer) (x : ℕ × (Tables × Opens)). gives a x.0 x.1.0 x.1.1) (λ g. g.answer) (λ g. (g.inode, (g.tables, g.opens))) (First rs d) (λ a x. refl) (λ a x. refl) (one rs d)
