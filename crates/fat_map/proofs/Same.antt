-- With the table's map, the table and the answer are those of the call without a map, and so is the work list.
use mathlib.Core.Path.{◌≡◌, ap}
use mathlib.Core.List.{List, [], ◌∷◌, ◌++◌}
use mathlib.Core.Logic.{◌⊎◌, inl, inr, ⊎_elim}
use Prim.Native.Nat.{ℕ, ◌<◌}
use lib.ListN.{length}
use Rattle.order.specs.First.{Row, First}
use Rattle.order.specs.Gate.{cleared}
use Rattle.order.specs.Giving.{giving}
use Rattle.order.specs.Beside.{within}
use Rattle.order.specs.Answer.{Answer}
use Rattle.fat_node.specs.Entry.{Bytes}
use Rattle.fat_node.specs.Sizes.{blocks}
use Rattle.fat_table.specs.Steps.{created, resized, deleted}
use Rattle.fat_promises.specs.Promise.{ChangePromise}
use Rattle.fat_promises.specs.Calls.{Create, create_gives, create_tests, create_done, CreatePromise, Change, change_gives, resize_tests, resize_done, ResizePromise, delete_tests, delete_done, DeletePromise}
use Rattle.map_bits.specs.Bits.{words_in}
use Rattle.fat_map.specs.Gate.{Short, IsMap}
use Rattle.fat_map.specs.Promise.{Beside, beside, Mapped, mapped, redrawn, MapPromise}
use Rattle.fat_map.specs.Calls.{MapCreatePromise, MapResizePromise, MapDeletePromise}

-- an outcome without its map
abbrev pub without : {A : Type 0} → Beside (Mapped A) → Beside A
without o = beside o.given.given o.work

own_same : {A : Type 0} (refuse : Answer → A) (map m work : List ℕ) (tests : List (Row Answer)) (done : A) (o : Beside (Mapped A))
    → First (within work (giving (λ a. mapped (refuse a) map) tests)) (beside (mapped done m) work) o → First (within work (giving refuse tests)) (beside done work) (without o)
own_same refuse map m work [] done o e = ap (λ x. without x) e
own_same refuse map m work (r ∷ rs) done o (inl p) = inl (p.0, ap (λ x. without x) p.1)
own_same refuse map m work (r ∷ rs) done o (inr p) = inr (p.0, own_same refuse map m work rs done o p.1)

pub same : {A : Type 0} (refuse : Answer → A) (t : Bytes) (d l : ℕ) (work map : List ℕ) (tests : List (Row Answer)) (done : A) (after : Bytes) (o : Beside (Mapped A))
    → (length map < words_in (blocks t) → ⊥) → IsMap t map → MapPromise refuse t d l work map tests done after o
    → ChangePromise refuse t d l work (giving refuse tests) done (without o)
unfolding MapPromise ChangePromise
same refuse t d l work map tests done after o long is (inl p) = inl (p.0, ap (λ x. without x) p.1)
same refuse t d l work map tests done after o long is (inr (m, inl p)) = inr (m, inl (p.0, ap (λ x. without x) p.1))
same refuse t d l work map tests done after o long is (inr (m, inr (i, inl p))) =
    inr (m, inr (i, inl (⊎_elim (λ s. s) (λ s. absurd (long s)) p.0, ap (λ x. without x) p.1)))
same refuse t d l work map tests done after o long is (inr (m, inr (i, inr (s, inl p)))) = inr (m, inr (i, inr ((λ h. s (inl h)), inl (p.0, ap (λ x. without x) p.1))))
same refuse t d l work map tests done after o long is (inr (m, inr (i, inr (s, inr (u, inl p))))) = absurd (p.0 is)
same refuse t d l work map tests done after o long is (inr (m, inr (i, inr (s, inr (u, inr (k, inl p)))))) =
    inr (m, inr (i, inr ((λ h. s (inl h)), inr (u, inl (p.0, ap (λ x. without x) p.1)))))
same refuse t d l work map tests done after o long is (inr (m, inr (i, inr (s, inr (u, inr (k, inr (r, p))))))) =
    inr (m, inr (i, inr ((λ h. s (inl h)), inr (u, inr (r, own_same refuse map (redrawn (blocks t) after map) (cleared (blocks t) work) tests done o p)))))

module _ (t : Bytes) (d l : ℕ) (work map : List ℕ) (long : length map < words_in (blocks t) → ⊥) (is : IsMap t map) where
  pub same_create : (count : ℕ) (o : Beside (Mapped Create)) → MapCreatePromise t d l work map count o → CreatePromise t d l work count (without o)
  same_create count o p = same (λ a. create_gives a 0 t) t d l work map (create_tests (blocks t) t count) (create_done (blocks t) t count) (created (blocks t) t count) o long is p

  pub same_resize : (b count : ℕ) (o : Beside (Mapped Change)) → MapResizePromise t d l work map b count o → ResizePromise t d l work b count (without o)
  same_resize b count o p = same (λ a. change_gives a t) t d l work map (resize_tests (blocks t) t b count) (resize_done (blocks t) t b count) (resized (blocks t) t b count) o long is p

  pub same_delete : (b : ℕ) (o : Beside (Mapped Change)) → MapDeletePromise t d l work map b o → DeletePromise t d l work b (without o)
  same_delete b o p = same (λ a. change_gives a t) t d l work map (delete_tests (blocks t) t b) (delete_done (blocks t) t b) (deleted (blocks t) t b) o long is p
