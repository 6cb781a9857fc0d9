-- A public call with a map is its gate, then the call that requires soundness. Each end of it, as `search` finds it from what the two ensure.
use mathlib.Core.Path.{◌≡◌, refl, sym, ap, subst, subst⁻¹, ◌∙◌}
use mathlib.Core.List.{List, [], ◌∷◌, ◌++◌}
use mathlib.Core.Logic.{◌⊎◌, inl, inr, ⊎_elim}
use Prim.Native.Nat.{ℕ, ◌≤◌, ◌<◌}
use native.Mathlib.Omega.{arith}
use lib.ListN.{length, take, drop, get_or}
use Rattle.order.specs.First.{Row, First}
use Rattle.order.specs.Gate.{cleared, refusal}
use Rattle.order.specs.Giving.{giving}
use Rattle.order.specs.Given.{Given, None}
use Rattle.std.specs.Prelude.{Ok, Err}
use Rattle.order.specs.declared.Refusal as why
use Rattle.order.specs.Answer.{Answer}
use Rattle.order.specs.Answer.{Done}
use Rattle.order.proofs.Beside as rows
use Rattle.order.proofs.Gate.{gate_given, gate_none, past_later}
use Rattle.fat_node.specs.declared.Counts.{Counts}
use Rattle.fat_node.specs.Entry.{Bytes}
use Rattle.fat_node.specs.Sizes.{blocks}
use Rattle.links.proofs.Held.{same_or}
use Rattle.fat_table.specs.Steps.{created, resized, deleted}
use Rattle.fat_test.specs.Gate.{unsound, Uneven, Unfit}
use Rattle.fat_promises.specs.Calls.{Create, create_gives, create_tests, create_done, Change, change_gives, resize_tests, resize_done, delete_tests, delete_done}
use Rattle.fat_walk.specs.Volume.{Volume}
use Rattle.map_bits.specs.Bits.{words_in}
use Rattle.map_inner.specs.Map.{map_of}
use Rattle.map_inner.specs.Sounds.{CreateMapped, ResizeMapped, DeleteMapped}
use Rattle.fat_map.specs.Gate.{Short, IsMap, map_gate, map_rows}
use Rattle.fat_map.specs.Promise.{beside, Mapped, mapped, redrawn, MapPromise, BuildPromise}
use Rattle.fat_map.specs.Calls.{MapCreatePromise, MapResizePromise, MapDeletePromise}
use Rattle.fat_map.specs.Inner.Gated.{OpenedMap, MapGateOf, BuildGateOf, ChangeGateOf}
use Rattle.fat_map.proofs.Gates.{opened_volume, opened_words}
use Rattle.fat_map.proofs.Parts.{redrawn_part, redrawn_same}

-- lists of numbers that are not unequal are equal
pub list_stable : (a b : List ℕ) → ((a ≡ b → ⊥) → ⊥) → a ≡ b
list_stable [] [] k = refl
list_stable [] (y ∷ b) k = absurd (k (λ e. let z : ◌≡◌ {A = ℕ} 0 1 = cc in omega (arith, z)))
list_stable (x ∷ a) [] k = absurd (k (λ e. let z : ◌≡◌ {A = ℕ} 0 1 = cc in omega (arith, z)))
list_stable (x ∷ a) (y ∷ b) k = ⊎_elim
    (λ e. ap (λ (z : ℕ). z ∷ a) e ∙ ap (λ (l : List ℕ). y ∷ l) (list_stable a b (λ n. k (λ q. n (ap (drop 1) q)))))
    (λ d. absurd (k (λ q. d (ap (λ (l : List ℕ). get_or l 0 0) q))))
    (same_or x y)

mapped_same : {A : Type 0} {x y : A} {m k : List ℕ} → x ≡ y → m ≡ k → mapped x m ≡ mapped y k
mapped_same p q = λ i. record { given = p i; map = q i }

-- the call's own rows: a refusal leaves the table, and so the map that it has
module _ {A : Type 0} (table_of : A → Bytes) (refuse : Answer → A) (n w : ℕ) (t : Bytes) (map part : List ℕ) (q : w ≡ words_in n) (is : take (words_in n) map ≡ map_of n t)
    (keeps : (a : Answer) → table_of (refuse a) ≡ t) where
  own_passed : (tests : List (Row Answer)) (done o : A) (after : Bytes) → table_of done ≡ after → part ≡ map_of n (table_of o) → First (giving refuse tests) done o
      → First (giving (λ a. mapped (refuse a) map) tests) (mapped done (redrawn n after map)) (mapped o (part ++ drop w map))
  own_passed [] done o after f p e = mapped_same e (redrawn_part n map after w part q (p ∙ ap (map_of n) (ap table_of e ∙ f)))
  own_passed (r ∷ rs) done o after f p (inl h) =
      inl (h.0, mapped_same h.1 (redrawn_part n map t w part q (p ∙ ap (map_of n) (ap table_of h.1 ∙ keeps r.gives)) ∙ redrawn_same n map t is))
  own_passed (r ∷ rs) done o after f p (inr h) = inr (h.0, own_passed rs done o after f p h.1)

-- build --------------------------------------------------------------------------------------------------------------

module _ (t : Bytes) (d l : ℕ) (work map work' : List ℕ) where
  pub build_refused : (a : why.Refusal) → BuildGateOf t d l work map work' (Err a) → (o : Answer) → o ≡ Err a → BuildPromise t d l work map (beside (mapped o map) work')
  unfolding BuildPromise MapGateOf
  build_refused a g o e =
      subst⁻¹ (λ (x : Answer). BuildPromise t d l work map (beside (mapped x map) work')) e
      (rows.refused (map_gate (λ a w. beside (mapped a map) w) t d l [] work map) (cleared (blocks t) work) [] (mapped Done (redrawn (blocks t) t map)) (beside (mapped (Err a) map) work')
      (gate_given (λ a w. beside (mapped a map) w) (blocks t) work (Uneven t d l) (Unfit t l) (Short t work map) (unsound t ++ []) (Err a) work' g))

  pub build_passed : (c : Counts) → BuildGateOf t d l work map work' (Ok c) → (n w : ℕ) (part : List ℕ) → n ≡ blocks t → w ≡ words_in n → part ≡ map_of n t
      → BuildPromise t d l work map (beside (mapped Done (part ++ drop w map)) work')
  unfolding BuildPromise MapGateOf
  build_passed c v n w part q k p =
      let front = map_gate (λ a w. beside (mapped a map) w) t d l [] work map in
      let same : part ++ drop w map ≡ redrawn (blocks t) t map = redrawn_part n map t w part k p ∙ ap (λ (m : ℕ). redrawn m t map) q in
      subst⁻¹ (λ (x : List ℕ). BuildPromise t d l work map (beside (mapped Done (part ++ drop w map)) x)) v.clear
      (rows.passed front (cleared (blocks t) work) [] (mapped Done (redrawn (blocks t) t map)) (mapped Done (part ++ drop w map))
      (gate_none (λ a w. beside (mapped a map) w) (blocks t) work (Uneven t d l) (Unfit t l) (Short t work map) (unsound t ++ []) v.none)
      (ap (λ (m : List ℕ). mapped Done m) same))

-- the calls that change the table --------------------------------------------------------------------------------------

module _ (t : Bytes) (d l : ℕ) (work map work' : List ℕ) where
  pub map_refused : {A : Type 0} (refuse : Answer → A) (tests : List (Row Answer)) (done : A) (after : Bytes) (a : why.Refusal) (o : A)
      → ChangeGateOf t d l work map work' (Err a) → o ≡ refuse (Err a)
      → MapPromise refuse t d l work map tests done after (beside (mapped o map) work')
  unfolding MapPromise MapGateOf
  map_refused refuse tests done after a o g q =
      subst⁻¹ (λ x. MapPromise refuse t d l work map tests done after (beside (mapped x map) work')) q
      (rows.refused (map_gate (λ a w. beside (mapped (refuse a) map) w) t d l (map_rows t l map) work map) (cleared (blocks t) work)
      (giving (λ a. mapped (refuse a) map) tests) (mapped done (redrawn (blocks t) after map)) (beside (mapped (refuse (Err a)) map) work')
      (gate_given (λ a w. beside (mapped (refuse a) map) w) (blocks t) work (Uneven t d l) (Unfit t l) (Short t work map) (unsound t ++ map_rows t l map) (Err a) work' g))

  module _ (g : ChangeGateOf t d l work map work' (Ok tt)) (n : ℕ) (q : n ≡ blocks t) where
    opened : OpenedMap t d l (map_rows t l map) work map work'
    unfolding MapGateOf
    opened = g

    pub map_ready : Volume n t
    map_ready = subst⁻¹ (λ (m : ℕ). Volume m t) q (opened_volume t d l (map_rows t l map) work map work' opened)

    pub map_words : (w : ℕ) → w ≡ words_in n → w ≤ length map
    map_words w k = omega (arith, k, subst⁻¹ (λ (m : ℕ). words_in m ≤ length map) q (opened_words t d l (map_rows t l map) work map work' opened))

    is_map : IsMap t map
    is_map =
        list_stable (take (words_in (blocks t)) map) (map_of (blocks t) t)
        (past_later refusal (blocks t) work (map_rows t l map) opened.none.1.1.1.1).0

    pub map_is : (w : ℕ) → w ≡ words_in n → take w map ≡ map_of n t
    map_is w k = subst⁻¹ (λ (m : ℕ). take m map ≡ map_of n t) k (subst⁻¹ (λ (m : ℕ). take (words_in m) map ≡ map_of m t) q is_map)

    passed : {A : Type 0} (table_of : A → Bytes) (refuse : Answer → A) (tests : ℕ → List (Row Answer)) (done : ℕ → A) (after : ℕ → Bytes) (w : ℕ) (part : List ℕ) (o : A)
        → w ≡ words_in n → ((a : Answer) → table_of (refuse a) ≡ t) → table_of (done n) ≡ after n → First (giving refuse (tests n)) (done n) o → part ≡ map_of n (table_of o)
        → MapPromise refuse t d l work map (tests (blocks t)) (done (blocks t)) (after (blocks t)) (beside (mapped o (part ++ drop w map)) work')
    unfolding MapPromise
    passed table_of refuse tests done after w part o k keeps f p z =
        let front = map_gate (λ a w. beside (mapped (refuse a) map) w) t d l (map_rows t l map) work map in
        let m : List ℕ = part ++ drop w map in
        let own =
        subst (λ (m' : ℕ). First (giving (λ a. mapped (refuse a) map) (tests m')) (mapped (done m') (redrawn m' (after m') map)) (mapped o m)) q
        (own_passed table_of refuse n w t map part k (map_is (words_in n) refl) keeps (tests n) (done n) o (after n) f z p) in
        subst⁻¹ (λ (x : List ℕ). MapPromise refuse t d l work map (tests (blocks t)) (done (blocks t)) (after (blocks t)) (beside (mapped o m) x)) opened.clear
        (rows.passed front (cleared (blocks t) work) (giving (λ a. mapped (refuse a) map) (tests (blocks t))) (mapped (done (blocks t)) (redrawn (blocks t) (after (blocks t)) map))
        (mapped o m)
        (gate_none (λ a w. beside (mapped (refuse a) map) w) (blocks t) work (Uneven t d l) (Unfit t l) (Short t work map) (unsound t ++ map_rows t l map) opened.none)
        own)

    -- the same of each call
    pub create_passed : (w count : ℕ) (part : List ℕ) (o : Create) → w ≡ words_in n → CreateMapped n t count o part
        → MapCreatePromise t d l work map count (beside (mapped o (part ++ drop w map)) work')
    create_passed w count part o k c =
        passed (λ (x : Create). x.table) (λ a. create_gives a 0 t) (λ m. create_tests m t count) (λ m. create_done m t count) (λ m. created m t count) w part o k (λ a. refl) refl c.sound c.kept

    pub resize_passed : (w b count : ℕ) (part : List ℕ) (o : Change) → w ≡ words_in n → ResizeMapped n t b count o part
        → MapResizePromise t d l work map b count (beside (mapped o (part ++ drop w map)) work')
    resize_passed w b count part o k c =
        passed (λ (x : Change). x.table) (λ a. change_gives a t) (λ m. resize_tests m t b count) (λ m. resize_done m t b count) (λ m. resized m t b count) w part o k (λ a. refl) refl c.sound c.kept

    pub delete_passed : (w b : ℕ) (part : List ℕ) (o : Change) → w ≡ words_in n → DeleteMapped n t b o part
        → MapDeletePromise t d l work map b (beside (mapped o (part ++ drop w map)) work')
    delete_passed w b part o k c =
        passed (λ (x : Change). x.table) (λ a. change_gives a t) (λ m. delete_tests m t b) (λ m. delete_done m t b) (λ m. deleted m t b) w part o k (λ a. refl) refl c.sound c.kept
