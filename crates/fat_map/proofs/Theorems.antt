-- The map stays that of the table in any run of calls, whatever they answer, and is the same as one built afresh.
use mathlib.Core.Path.{◌≡◌, refl, ap, subst⁻¹, ◌∙◌}
use mathlib.Core.List.{List, [], ◌∷◌, ◌++◌}
use mathlib.Core.Logic.{◌⊎◌, inl, inr, ⊎_elim}
use Prim.Native.Nat.{ℕ, ◌-◌, ◌/◌}
use native.Mathlib.Omega.{arith}
use lib.ListN.{take, drop}
use Rattle.order.specs.First.{Row, First}
use Rattle.order.specs.Gate.{cleared, later}
use Rattle.order.specs.Giving.{giving}
use Rattle.order.specs.Beside.{within}
use Rattle.order.specs.Answer.{Answer}
use Rattle.order.specs.Answer.{Done, SizeMismatch, InvalidValue, WorkTooShort, BrokenFat}
use Rattle.order.specs.declared.Fault.{Fault}
use Rattle.fat_node.specs.Entry.{Bytes}
use Rattle.fat_node.specs.Node.{Run}
use Rattle.fat_node.specs.Sizes.{blocks}
use Rattle.fat_table.specs.Chain.{total, free_at, file_at}
use Rattle.fat_table.specs.Layout.{taken, left}
use Rattle.fat_table.specs.Steps.{created, resized, deleted, grown, shrunk, relaid}
use Rattle.fat_table.proofs.Files.{length_relaid}
use Rattle.fat_table.proofs.Resizes.{resized_less, resized_more}
use Rattle.fat_node.proofs.Nodes.{le_or_lt}
use Rattle.fat_fault.specs.Fault.{fault_of}
use Rattle.fat_test.specs.Gate.{unsound}
use Rattle.fat_promises.specs.Calls.{Create, create_gives, create_tests, create_done, Change, change_gives, resize_tests, resize_done, delete_tests, delete_done}
use Rattle.map_bits.specs.Bits.{words_in}
use Rattle.map_inner.specs.Map.{map_of}
use Rattle.fat_map.specs.Gate.{IsMap, map_gate, map_rows}
use Rattle.fat_map.specs.Promise.{Beside, beside, Mapped, mapped, redrawn, MapPromise, BuildPromise}
use Rattle.fat_map.specs.Calls.{MapCreatePromise, MapResizePromise, MapDeletePromise}
use Rattle.fat_map.specs.Runs.{MapRun, none, creates, resizes, deletes}
use Rattle.fat_map.proofs.Parts.{redrawn_same, take_redrawn, drop_redrawn}

-- what every row gives has P, and so what is given
abbrev Every : {B : Type 0} → (B → Type 0) → List (Row B) → Type 0
Every P [] = Unit {0}
Every P (r ∷ rs) = P r.gives × Every P rs

module _ {B : Type 0} (P : B → Type 0) where
  every_first : (rs : List (Row B)) (d o : B) → Every P rs → P d → First rs d o → P o
  every_first [] d o e p f = subst⁻¹ P f p
  every_first (r ∷ rs) d o e p (inl f) = subst⁻¹ P f.1 e.0
  every_first (r ∷ rs) d o e p (inr f) = every_first rs d o e.1 p f.1

  every_append : (a b : List (Row B)) → Every P a → Every P b → Every P (a ++ b)
  every_append [] b x y = y
  every_append (r ∷ a) b x y = (x.0, every_append a b x.1 y)

  every_later : (refuse : Answer → List ℕ → B) (k : ℕ) (work : List ℕ) (rs : List (Row Answer)) → ((a : Answer) (w : List ℕ) → P (refuse a w)) → Every P (later refuse k work rs)
  every_later refuse k work [] h = tt
  every_later refuse k work (r ∷ rs) h = (h r.gives (cleared k work), every_later refuse k work rs h)

every_within : {A : Type 0} (P : Beside A → Type 0) (g : Answer → A) (work : List ℕ) (rs : List (Row Answer)) → ((a : Answer) → P (beside (g a) work)) → Every P (within work (giving g rs))
every_within P g work [] h = tt
every_within P g work (r ∷ rs) h = (h r.gives, every_within P g work rs h)

module _ {A : Type 0} (refuse : Answer → A) (t : Bytes) (d l : ℕ) (work map : List ℕ) (tests : List (Row Answer)) (done : A) (after : Bytes) (o : Beside (Mapped A))
    (p : MapPromise refuse t d l work map tests done after o) (P : Mapped A → Type 0) where
  -- a refusal is what is given with the map as it was, or it is Done
  outcome : ((a : Answer) → P (mapped (refuse a) map)) → P (mapped done (redrawn (blocks t) after map)) → P o.given
  unfolding MapPromise
  outcome h k =
      let Q : Beside (Mapped A) → Type 0 = λ x. P x.given in
      let front = map_gate (λ a w. beside (mapped (refuse a) map) w) t d l (map_rows t l map) work map in
      every_first Q (front ++ within (cleared (blocks t) work) (giving (λ a. mapped (refuse a) map) tests)) (beside (mapped done (redrawn (blocks t) after map)) (cleared (blocks t) work)) o
      (every_append Q front (within (cleared (blocks t) work) (giving (λ a. mapped (refuse a) map) tests))
      (h _, (h _, (h _, every_later Q (λ a w. beside (mapped (refuse a) map) w) (blocks t) work (unsound t ++ map_rows t l map) (λ a w. h a))))
      (every_within Q (λ a. mapped (refuse a) map) (cleared (blocks t) work) tests (λ a. h a)))
      k p

-- the map stays that of the table, refused or not
module _ {A : Type 0} (table_of : A → Bytes) (refuse : Answer → A) (t : Bytes) (d l : ℕ) (work map : List ℕ) (tests : List (Row Answer)) (done : A) (o : Beside (Mapped A))
    (keeps : (a : Answer) → table_of (refuse a) ≡ t) (same : blocks (table_of done) ≡ blocks t) (p : MapPromise refuse t d l work map tests done (table_of done) o) where
  kept : IsMap t map → IsMap (table_of o.given.given) o.given.map
  kept i =
      outcome refuse t d l work map tests done (table_of done) o p (λ x. IsMap (table_of x.given) x.map)
      (λ a. subst⁻¹ (λ (u : Bytes). IsMap u map) (keeps a) i)
      (subst⁻¹ (λ (m : ℕ). take (words_in m) (redrawn (blocks t) (table_of done) map) ≡ map_of m (table_of done)) same (take_redrawn (blocks t) map (table_of done)))

  -- words past n's are not touched
  pub behind : drop (words_in (blocks t)) o.given.map ≡ drop (words_in (blocks t)) map
  behind =
      outcome refuse t d l work map tests done (table_of done) o p (λ x. drop (words_in (blocks t)) x.map ≡ drop (words_in (blocks t)) map)
      (λ a. refl) (drop_redrawn (blocks t) map (table_of done))

-- the blocks of a table that a step leaves are as many
blocks_relaid : (t : Bytes) (file free : List Run) → blocks (relaid t file free) ≡ blocks t
blocks_relaid t file free = ap (λ (k : ℕ). k / 8 - 1) (length_relaid t file free)

blocks_created : (n : ℕ) (t : Bytes) (c : ℕ) → blocks (created n t c) ≡ blocks t
unfolding created
blocks_created n t c = blocks_relaid t (taken (free_at n t) c) (left (free_at n t) c)

blocks_deleted : (n : ℕ) (t : Bytes) (b : ℕ) → blocks (deleted n t b) ≡ blocks t
unfolding deleted
blocks_deleted n t b = blocks_relaid t [] (file_at n t b ++ free_at n t)

blocks_shrunk : (n : ℕ) (t : Bytes) (b c : ℕ) → blocks (shrunk n t b c) ≡ blocks t
unfolding shrunk
blocks_shrunk n t b c = blocks_relaid t (taken (file_at n t b) c) (left (file_at n t b) c ++ free_at n t)

blocks_grown : (n : ℕ) (t : Bytes) (b c : ℕ) → blocks (grown n t b c) ≡ blocks t
unfolding grown
blocks_grown n t b c = blocks_relaid t (file_at n t b ++ taken (free_at n t) c) (left (free_at n t) c)

blocks_resized : (n : ℕ) (t : Bytes) (b c : ℕ) → blocks (resized n t b c) ≡ blocks t
blocks_resized n t b c = ⊎_elim
    (λ h. ap (λ (u : Bytes). blocks u) (resized_less n t b c h) ∙ blocks_shrunk n t b c)
    (λ h. ap (λ (u : Bytes). blocks u) (resized_more n t b c h) ∙ blocks_grown n t b (c - total (file_at n t b)))
    (le_or_lt c (total (file_at n t b)))

module _ (t : Bytes) (d l : ℕ) (work map : List ℕ) where
  pub kept_create : (count : ℕ) (o : Beside (Mapped Create)) → MapCreatePromise t d l work map count o → IsMap t map → IsMap o.given.given.table o.given.map
  kept_create count o p i =
      kept (λ (x : Create). x.table) (λ a. create_gives a 0 t) t d l work map (create_tests (blocks t) t count) (create_done (blocks t) t count) o (λ a. refl) (blocks_created (blocks t) t count) p i

  pub kept_resize : (b count : ℕ) (o : Beside (Mapped Change)) → MapResizePromise t d l work map b count o → IsMap t map → IsMap o.given.given.table o.given.map
  kept_resize b count o p i =
      kept (λ (x : Change). x.table) (λ a. change_gives a t) t d l work map (resize_tests (blocks t) t b count) (resize_done (blocks t) t b count) o (λ a. refl) (blocks_resized (blocks t) t b count) p i

  pub kept_delete : (b : ℕ) (o : Beside (Mapped Change)) → MapDeletePromise t d l work map b o → IsMap t map → IsMap o.given.given.table o.given.map
  kept_delete b o p i =
      kept (λ (x : Change). x.table) (λ a. change_gives a t) t d l work map (delete_tests (blocks t) t b) (delete_done (blocks t) t b) o (λ a. refl) (blocks_deleted (blocks t) t b) p i

-- after any run of calls with a map, whatever they answered, the map is the table's
pub run_map : {t : Bytes} {map : List ℕ} {u : Bytes} {m : List ℕ} → MapRun t map u m → IsMap t map → IsMap u m
run_map none i = i
run_map (creates u m r d l work count o p) i = kept_create u d l work m count o p (run_map r i)
run_map (resizes u m r d l work b count o p) i = kept_resize u d l work m b count o p (run_map r i)
run_map (deletes u m r d l work b o p) i = kept_delete u d l work m b o p (run_map r i)

pub size_not : SizeMismatch ≡ Done → ⊥
size_not e = let z : ◌≡◌ {A = ℕ} 0 1 = cc in omega (arith, z)

pub value_not : InvalidValue ≡ Done → ⊥
value_not e = let z : ◌≡◌ {A = ℕ} 0 1 = cc in omega (arith, z)

pub short_not : WorkTooShort ≡ Done → ⊥
short_not e = let z : ◌≡◌ {A = ℕ} 0 1 = cc in omega (arith, z)

pub broken_not : (f : Fault) → BrokenFat f ≡ Done → ⊥
broken_not f e = let z : ◌≡◌ {A = ℕ} 0 1 = cc in omega (arith, z)

-- a build that is Done leaves the table's map, and on a table's map any build changes nothing: so a map that was kept equals one built afresh
module _ (t : Bytes) (d l : ℕ) (work map : List ℕ) (o : Beside (Mapped Answer)) (p : BuildPromise t d l work map o) where
  built : (P : Mapped Answer → Type 0) → ((a : Answer) → (a ≡ Done → ⊥) → P (mapped a map)) → P (mapped Done (redrawn (blocks t) t map)) → P o.given
  unfolding BuildPromise
  built P h k =
      let Q : Beside (Mapped Answer) → Type 0 = λ x. P x.given in
      let front = map_gate (λ a w. beside (mapped a map) w) t d l [] work map in
      every_first Q (front ++ []) (beside (mapped Done (redrawn (blocks t) t map)) (cleared (blocks t) work)) o
      (every_append Q front [] (h SizeMismatch size_not, (h InvalidValue value_not, (h WorkTooShort short_not, (h (BrokenFat (fault_of (blocks t) t)) (broken_not (fault_of (blocks t) t)), tt)))) tt) k p

  pub build_map : o.given.given ≡ Done → IsMap t o.given.map
  build_map =
      built (λ x. x.given ≡ Done → IsMap t x.map) (λ a n e. absurd (n e)) (λ e. take_redrawn (blocks t) map t)

  pub build_again : IsMap t map → o.given.map ≡ map
  build_again i = built (λ x. x.map ≡ map) (λ a n. refl) (redrawn_same (blocks t) map t i)

pub fresh : {t u : Bytes} {map m : List ℕ} → MapRun t map u m → IsMap t map → (d l : ℕ) (work : List ℕ) (o : Beside (Mapped Answer)) → BuildPromise u d l work m o → o.given.map ≡ m
fresh {t} {u} {map} {m} r i d l work o p = build_again u d l work m o p (run_map r i)
