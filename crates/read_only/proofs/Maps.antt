-- With a block length that is not in use a call with a map leaves the table as it was, whatever else it is given.
use mathlib.Core.Path.{◌≡◌, refl, ap, ◌∙◌}
use mathlib.Core.List.{List}
use mathlib.Core.Logic.{inl, inr}
use Prim.Native.Nat.{ℕ}
use Rattle.order.specs.First.{Row}
use Rattle.order.specs.Beside.{Beside}
use Rattle.order.specs.Answer.{Answer}
use Rattle.fat_node.specs.Entry.{Bytes}
use Rattle.fat_node.specs.Sizes.{blocks}
use Rattle.fat_table.specs.Steps.{created, resized, deleted}
use Rattle.fat_test.specs.Gate.{InUse}
use Rattle.fat_promises.specs.Calls.{Create, create_gives, create_tests, create_done, Change, change_gives, resize_tests, resize_done, delete_tests, delete_done}
use Rattle.fat_map.specs.Promise.{Mapped, MapPromise}
use Rattle.fat_map.specs.Calls.{MapCreatePromise, MapResizePromise, MapDeletePromise}

-- the rows come to that of the block length, or an earlier one refuses
stays : {A : Type 0} (table_of : A → Bytes) (refuse : Answer → A) (t : Bytes) (d l : ℕ) (work map : List ℕ) (tests : List (Row Answer)) (done : A) (after : Bytes) (o : Beside (Mapped A))
    → ((a : Answer) → table_of (refuse a) ≡ t) → (InUse l → ⊥) → MapPromise refuse t d l work map tests done after o → table_of o.given.given ≡ t
unfolding MapPromise
stays table_of refuse t d l work map tests done after o k u (inl p) = ap (λ x. table_of x.given.given) p.1 ∙ k _
stays table_of refuse t d l work map tests done after o k u (inr (m, inl p)) = ap (λ x. table_of x.given.given) p.1 ∙ k _
stays table_of refuse t d l work map tests done after o k u (inr (m, inr (i, inl p))) = ap (λ x. table_of x.given.given) p.1 ∙ k _
stays table_of refuse t d l work map tests done after o k u (inr (m, inr (i, inr (s, inl p)))) = ap (λ x. table_of x.given.given) p.1 ∙ k _
stays table_of refuse t d l work map tests done after o k u (inr (m, inr (i, inr (s, inr (b, inl p))))) = ap (λ x. table_of x.given.given) p.1 ∙ k _
stays table_of refuse t d l work map tests done after o k u (inr (m, inr (i, inr (s, inr (b, inr (y, inl p)))))) = ap (λ x. table_of x.given.given) p.1 ∙ k _
stays table_of refuse t d l work map tests done after o k u (inr (m, inr (i, inr (s, inr (b, inr (y, inr (r, p))))))) = absurd (r u)

module _ (t : Bytes) (d l : ℕ) (work map : List ℕ) (u : InUse l → ⊥) where
  pub read_only_map_create : (count : ℕ) (o : Beside (Mapped Create)) → MapCreatePromise t d l work map count o → o.given.given.table ≡ t
  read_only_map_create count o p =
      stays (λ (x : Create). x.table) (λ a. create_gives a 0 t) t d l work map (create_tests (blocks t) t count) (create_done (blocks t) t count) (created (blocks t) t count) o (λ a. refl) u p

  pub read_only_map_resize : (b count : ℕ) (o : Beside (Mapped Change)) → MapResizePromise t d l work map b count o → o.given.given.table ≡ t
  read_only_map_resize b count o p =
      stays (λ (x : Change). x.table) (λ a. change_gives a t) t d l work map (resize_tests (blocks t) t b count) (resize_done (blocks t) t b count) (resized (blocks t) t b count) o (λ a. refl) u p

  pub read_only_map_delete : (b : ℕ) (o : Beside (Mapped Change)) → MapDeletePromise t d l work map b o → o.given.given.table ≡ t
  read_only_map_delete b o p =
      stays (λ (x : Change). x.table) (λ a. change_gives a t) t d l work map (delete_tests (blocks t) t b) (delete_done (blocks t) t b) (deleted (blocks t) t b) o (λ a. refl) u p
