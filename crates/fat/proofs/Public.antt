-- A public call is the gate, then the call that requires soundness. Each end of it, as `search` finds it from what the two ensure.
use mathlib.Core.Path.{◌≡◌, subst, subst⁻¹}
use mathlib.Core.List.{List, [], ◌++◌}
use mathlib.Core.Logic.{inl, inr, ⊎_elim}
use Prim.Native.Nat.{ℕ, ◌*◌, ◌<◌}
use native.Mathlib.Omega.{arith}
use lib.ListN.{length}
use Rattle.order.specs.First.{Row, First}
use Rattle.std.specs.Prelude.{Err}
use Rattle.order.specs.declared.Refusal.{Refusal}
use Rattle.order.specs.Gate.{cleared, refusal}
use Rattle.order.specs.Given.{Given}
use Rattle.order.specs.Beside.{Promised}
use Rattle.order.specs.Answer.{Answer}
use Rattle.order.proofs.Beside as rows
use Rattle.order.proofs.Gate.{gate_given, gate_none}
use Rattle.fat_node.specs.Entry.{Bytes}
use Rattle.fat_node.specs.Sizes.{blocks}
use Rattle.fat_node.proofs.Sizes.{fit, inside}
use Rattle.fat_node.proofs.Nodes.{le_or_lt}
use Rattle.links.proofs.Held.{same_or}
use Rattle.fat_test.specs.Gate.{unsound, retired, Uneven, Unfit, gate_with}
use Rattle.fat_test.specs.Inner.Gated.{OpenedWith, Opened, GateOf, ChangeGateOf}
use Rattle.fat_promises.specs.Promise.{Beside, beside, Promise, ChangePromise}
use Rattle.fat_promises.specs.Calls.{
  Create,
  create_gives,
  create_rows,
  create_done,
  CreateSound,
  CreatePromise,
  Change,
  change_gives,
  resize_rows,
  resize_done,
  ResizeSound,
  ResizePromise,
  delete_rows,
  delete_done,
  DeleteSound,
  DeletePromise,
  Listing,
  list_gives,
  list_rows,
  list_done,
  ListSound,
  ListPromise,
  Carry,
  carry_gives,
  carry_rows,
  read_done,
  ReadSound,
  ReadPromise,
  write_done,
  WriteSound,
  WritePromise,
}
use Rattle.fat_walk.specs.Volume.{Volume, Data}

-- what an open gate says of the table and the data, which are n blocks; more are its rows after soundness
module _ (t : Bytes) (d l : ℕ) (more : List (Row Answer)) (work work' : List ℕ) (free files n : ℕ) (g : OpenedWith (Uneven t d l) t l more work work' free files) (q : n ≡ blocks t)
  where
    pub call_ready : Volume n t
    call_ready = subst⁻¹ (λ (m : ℕ). Volume m t) q (record { few = (inside t (λ o. g.none.1.0 (inl o))).1; room = fit t (λ m. g.none.0 (inl m)); sound = g.sound })

    pub call_data : Data n d l
    call_data = subst⁻¹ (λ (m : ℕ). Data m d l) q (record {
      some = ⊎_elim (λ h. h) (λ h. absurd (g.none.1.0 (inr (inl (omega (arith, h)))))) (le_or_lt 1 l);
      few = ⊎_elim (λ h. h) (λ h. absurd (g.none.1.0 (inr (inr h)))) (le_or_lt l 65536);
      fits = ⊎_elim (λ e. e) (λ f. absurd (g.none.0 (inr f))) (same_or d (blocks t * l));
    })

module _ (t : Bytes) (d l : ℕ) (more : List (Row Answer)) (work work' : List ℕ) {A : Type 0} (refuse : Answer → A) where
  abbrev Says : List (Row A) → A → Beside A → Type 0
  Says own done o = Promised (gate_with (λ a w. beside (refuse a) w) (Uneven t d l) t l more work) (cleared (blocks t) work) own done o

  -- it refuses with a
  refused : (own : List (Row A)) (done : A) (a : Answer) → Given (gate_with refusal (Uneven t d l) t l more work) (refusal a work') → Says own done (beside (refuse a) work')
  refused own done a g =
      rows.refused (gate_with (λ a w. beside (refuse a) w) (Uneven t d l) t l more work) (cleared (blocks t) work) own done (beside (refuse a) work')
      (gate_given (λ a w. beside (refuse a) w) (blocks t) work (Uneven t d l) (Unfit t l) (length work < blocks t) (unsound t ++ more) a work' g)

  -- it is open, and the call that requires soundness, of n blocks, gives o by its own rows
  pub passed : (own : ℕ → List (Row A)) (done : ℕ → A) (free files n : ℕ) (o : A) → OpenedWith (Uneven t d l) t l more work work' free files → n ≡ blocks t → First (own n) (done n) o
      → Says (own (blocks t)) (done (blocks t)) (beside o work')
  passed own done free files n o v q p =
      let front = gate_with (λ a w. beside (refuse a) w) (Uneven t d l) t l more work in
      subst⁻¹ (λ (w : List ℕ). Says (own (blocks t)) (done (blocks t)) (beside o w)) v.clear
      (rows.passed front (cleared (blocks t) work) (own (blocks t)) (done (blocks t)) o
      (gate_none (λ a w. beside (refuse a) w) (blocks t) work (Uneven t d l) (Unfit t l) (length work < blocks t) (unsound t ++ more) v.none)
      (subst (λ (m : ℕ). First (own m) (done m) o) q p))

-- the calls that change nothing ------------------------------------------------------------------------------------

module _ (t : Bytes) (d l : ℕ) (work work' : List ℕ) where
  pub call_refused : {A : Type 0} (refuse : Answer → A) (own : List (Row A)) (done : A) (why : Refusal) → GateOf t d l work work' (Err why)
      → Promise refuse t d l work own done (beside (refuse (Err why)) work')
  unfolding Promise
  call_refused refuse own done why g = refused t d l [] work work' refuse own done (Err why) g

  pub call_passed : {A : Type 0} (refuse : Answer → A) (own : ℕ → List (Row A)) (done : ℕ → A) (free files n : ℕ) (o : A) → Opened t d l work work' free files → n ≡ blocks t
      → First (own n) (done n) o
      → Promise refuse t d l work (own (blocks t)) (done (blocks t)) (beside o work')
  unfolding Promise
  call_passed refuse own done free files n o g q p = passed t d l [] work work' refuse own done free files n o g q p

-- the calls that change the table or the data ------------------------------------------------------------------------

module _ (t : Bytes) (d l : ℕ) (work work' : List ℕ) where
  pub change_refused : {A : Type 0} (refuse : Answer → A) (own : List (Row A)) (done : A) (why : Refusal) → ChangeGateOf t d l work work' (Err why)
      → ChangePromise refuse t d l work own done (beside (refuse (Err why)) work')
  unfolding ChangePromise
  change_refused refuse own done why g = refused t d l (retired l) work work' refuse own done (Err why) g

  pub change_passed : {A : Type 0} (refuse : Answer → A) (own : ℕ → List (Row A)) (done : ℕ → A) (free files n : ℕ) (o : A)
      → OpenedWith (Uneven t d l) t l (retired l) work work' free files
      → n ≡ blocks t
      → First (own n) (done n) o
      → ChangePromise refuse t d l work (own (blocks t)) (done (blocks t)) (beside o work')
  unfolding ChangePromise
  change_passed refuse own done free files n o g q p = passed t d l (retired l) work work' refuse own done free files n o g q p

-- each call, open --------------------------------------------------------------------------------------------------

module _ (t : Bytes) (d l : ℕ) (work work' : List ℕ) (free files n : ℕ) where
  pub create_passed : (count : ℕ) (o : Create) → OpenedWith (Uneven t d l) t l (retired l) work work' free files → n ≡ blocks t → CreateSound n t count o
      → CreatePromise t d l work count (beside o work')
  create_passed count o = change_passed t d l work work' (λ a. create_gives a 0 t) (λ m. create_rows m t count) (λ m. create_done m t count) free files n o

  pub resize_passed : (b count : ℕ) (o : Change) → OpenedWith (Uneven t d l) t l (retired l) work work' free files → n ≡ blocks t → ResizeSound n t b count o
      → ResizePromise t d l work b count (beside o work')
  resize_passed b count o = change_passed t d l work work' (λ a. change_gives a t) (λ m. resize_rows m t b count) (λ m. resize_done m t b count) free files n o

  pub delete_passed : (b : ℕ) (o : Change) → OpenedWith (Uneven t d l) t l (retired l) work work' free files → n ≡ blocks t → DeleteSound n t b o
      → DeletePromise t d l work b (beside o work')
  delete_passed b o = change_passed t d l work work' (λ a. change_gives a t) (λ m. delete_rows m t b) (λ m. delete_done m t b) free files n o

  pub list_passed : (b : ℕ) (list : List ℕ) (o : Listing) → Opened t d l work work' free files → n ≡ blocks t → ListSound n t b list o
      → ListPromise t d l work b list (beside o work')
  list_passed b list o = call_passed t d l work work' (λ a. list_gives a 0 list) (λ m. list_rows m t b list) (λ m. list_done m t b list) free files n o

module _ (t d : Bytes) (l : ℕ) (work work' : List ℕ) (free files n : ℕ) where
  pub read_passed : (b pos : ℕ) (buf : Bytes) (o : Carry) → Opened t (length d) l work work' free files → n ≡ blocks t → ReadSound n t d l b pos buf o
      → ReadPromise t d l work b pos buf (beside o work')
  read_passed b pos buf o =
      call_passed t (length d) l work work' (λ a. carry_gives a buf) (λ m. carry_rows m t l b pos (length buf) buf) (λ m. read_done m t d l b pos buf) free files n o

  pub write_passed : (b pos : ℕ) (buf : Bytes) (o : Carry) → OpenedWith (Uneven t (length d) l) t l (retired l) work work' free files → n ≡ blocks t → WriteSound n t d l b pos buf o
      → WritePromise t d l work b pos buf (beside o work')
  write_passed b pos buf o =
      change_passed t (length d) l work work' (λ a. carry_gives a d) (λ m. carry_rows m t l b pos (length buf) d) (λ m. write_done m t d l b pos buf) free files n o
