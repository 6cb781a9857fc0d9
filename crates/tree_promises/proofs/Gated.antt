-- A public call is its gate, then the call inside that requires soundness: the gate refuses, or it is open and the call's own rows decide. Each law is
-- for `search`: what it needs is the gate's contract, which of its answers came, and what the call then gives.
use mathlib.Core.Path.{◌≡◌, subst, subst⁻¹}
use mathlib.Core.List.{List, [], ◌∷◌}
use mathlib.Core.Logic.{◌⊎◌, inl, inr}
use Prim.Native.Nat.{ℕ, zero, suc, ◌+◌, ◌*◌, ◌≤◌, ◌<◌}
use native.Mathlib.Nat.{lt_of_not-le}
use native.Mathlib.Omega.{arith}
use lib.ListN.{length}
use Rattle.order.specs.First.{Row, row, First}
use Rattle.order.specs.Gate.{refusal}
use Rattle.order.specs.Given.{None}
use Rattle.order.specs.Giving.{giving}
use Rattle.order.specs.Beside.{beside, Promised}
use Rattle.order.specs.Answer.{Answer, Done, BrokenTree}
use Rattle.order.specs.declared.Refusal.{Refusal}
use Rattle.std.specs.Prelude.{Err}
use Rattle.order.proofs.Gate.{gate_given, gate_none}
use Rattle.order.proofs.Beside.{refused, passed}
use Rattle.tree_sound.specs.Tables.{Tables, MisfitIn, OutsideIn, rooms_in, SoundIn}
use Rattle.tree_test.specs.Gate.{entry_gate}
use Rattle.tree_test.specs.Promise.{GateOf, TreeGateOf, PackedGateOf}
use Rattle.tree_packed.specs.Packed.{Packed, inode_at, record_at}
use Rattle.tree_packed.specs.Opens.{Opens, InOrder}
use Rattle.tree_promises.specs.Promise.{worked, TreePromise}
use Rattle.tree_promises.specs.Packed.{Outcome, refuse, Inside, PackedPromise}
use Rattle.tree_promises.specs.Inner.Ready.{Ready, ReadyOpens}

-- ---- whatever row 2 speaks of beside the sizes

abbrev rows_of : {A : Type 0} → (Answer → List ℕ → A) → Tables → Type 0 → List ℕ → List (Row A)
rows_of refuse s outside work = entry_gate refuse s outside (length work < rooms_in s) work

abbrev Says : Tables → Type 0 → List ℕ → List ℕ → Answer → Type 0
Says s outside work work' g = GateOf (rows_of refusal s outside work) (SoundIn s) (rooms_in s) work work' g

module _ {A : Type 0} (refuse : Answer → A) (s : Tables) (outside : Type 0) (work work' : List ℕ) (own : List (Row A)) (done : A) (g : Answer)
    (says : Says s outside work work' g) where
  abbrev Whole : A → Type 0
  Whole o = Promised (rows_of (λ a w. beside (refuse a) w) s outside work) (worked s work) own done (beside o work')

  shut : (why : Refusal) (o : A) → g ≡ Err why → o ≡ refuse (Err why) → Whole o
  shut why o e q =
      subst⁻¹ Whole q
      (refused (rows_of (λ a w. beside (refuse a) w) s outside work) (worked s work) own done (beside (refuse (Err why)) work')
      (gate_given (λ a w. beside (refuse a) w) (rooms_in s) work (MisfitIn s) outside (length work < rooms_in s) (row (SoundIn s → ⊥) BrokenTree ∷ []) (Err why) work'
      (subst (Says s outside work work') e says)))

  through : (o : A) → g ≡ Done → First own done o → Whole o
  through o e p =
      let w : None (rows_of refusal s outside work) × SoundIn s × (work' ≡ worked s work) = subst (Says s outside work work') e says in
      subst⁻¹ (λ (l : List ℕ). Promised (rows_of (λ a w. beside (refuse a) w) s outside work) (worked s work) own done (beside o l)) w.2
      (passed (rows_of (λ a w. beside (refuse a) w) s outside work) (worked s work) own done o
      (gate_none (λ a w. beside (refuse a) w) (rooms_in s) work (MisfitIn s) outside (length work < rooms_in s) (row (SoundIn s → ⊥) BrokenTree ∷ []) w.0)
      p)

some : (n : ℕ) → (n < 1 → ⊥) → 0 < n
some zero f = absurd (f (omega arith))
some (suc n) f = omega arith

few : (m n : ℕ) → (m < n → ⊥) → n ≤ m
few m n f = let h : n < suc m = lt_of_not-le (λ (k : suc m ≤ n). f (omega arith)) in omega arith

module _ (s : Tables) (outside : Type 0) (work work' : List ℕ) (g : Answer) (says : Says s outside work work' g) (e : g ≡ Done) where
  told : None (rows_of refusal s outside work) × SoundIn s × (work' ≡ worked s work)
  told = subst (Says s outside work work') e says

  inside : outside → ⊥
  inside h = told.0.1.0 h

  ready : (OutsideIn s → outside) → Ready s
  ready sizes = record {
    dir_buckets = some _ (λ h. inside (sizes (inl (inl h))));
    file_buckets = some _ (λ h. inside (sizes (inr (inr (inl (inl h))))));
    few_dirs = few _ _ (λ h. inside (sizes (inr (inl (inr h)))));
    few_files = few _ _ (λ h. inside (sizes (inr (inr (inr (inr h))))));
    sound = told.1;
  }

-- ---- a call that takes no open records

pub tree_refused : {A : Type 0} (refuse : Answer → A) (s : Tables) (work work' : List ℕ) (own : List (Row A)) (done : A) (g : Answer) (why : Refusal) (o : A)
    → TreeGateOf s work work' g → g ≡ Err why → o ≡ refuse (Err why) → TreePromise refuse s work own done (beside o work')
unfolding TreePromise TreeGateOf
tree_refused refuse s work work' own done g why o says e q = shut refuse s (OutsideIn s) work work' own done g says why o e q

pub tree_passed : {A : Type 0} (refuse : Answer → A) (s : Tables) (work work' : List ℕ) (own : List (Row A)) (done : A) (g : Answer) (o : A)
    → TreeGateOf s work work' g → g ≡ Done → First own done o → TreePromise refuse s work own done (beside o work')
unfolding TreePromise TreeGateOf
tree_passed refuse s work work' own done g o says e p = through refuse s (OutsideIn s) work work' own done g says o e p

pub tree_ready : (s : Tables) (work work' : List ℕ) (g : Answer) → TreeGateOf s work work' g → g ≡ Done → Ready s
unfolding TreeGateOf
tree_ready s work work' g says e = ready s (OutsideIn s) work work' g says e (λ h. h)

-- ---- a call that takes a packed list of open records

lt_stable : (a b : ℕ) → ((a < b → ⊥) → ⊥) → a < b
lt_stable a b n = let h : suc a ≤ b = few b (suc a) (λ (k : b < suc a). n (λ (l : a < b). omega arith)) in omega arith

-- a list that is not said to be out of order is in order: every part of it is a comparison
packed_stable : (k : ℕ) (l : List ℕ) → ((Packed k l → ⊥) → ⊥) → Packed k l
packed_stable k l n = record {
  fits = few (length l) (2 * k) (λ h. n (λ (P : Packed k l). let q : 2 * k ≤ length l = P.fits in omega arith));
  named = λ i h. lt_stable 0 (inode_at l i) (λ z. n (λ P. z (P.named i h)));
  rising = λ i h. lt_stable (inode_at l i) (inode_at l (i + 1)) (λ z. n (λ P. z (P.rising i h)));
  held = λ i h. lt_stable 0 (record_at l i) (λ z. n (λ P. z (P.held i h)));
}

pub packed_refused : (s : Tables) (o : Opens) (work work' : List ℕ) (tests : List (Row Answer)) (done : Outcome) (g : Answer) (why : Refusal) (y : Outcome)
    → PackedGateOf s o work work' g → g ≡ Err why → y ≡ refuse s o (Err why) → PackedPromise s o work tests done (beside y work')
unfolding PackedPromise PackedGateOf
packed_refused s o work work' tests done g why y says e q =
    shut (refuse s o) s (OutsideIn s ⊎ (InOrder o → ⊥)) work work' (giving (refuse s o) tests) done g says why y e q

pub packed_passed : (s : Tables) (o : Opens) (work work' : List ℕ) (tests : List (Row Answer)) (done : Outcome) (g : Answer) (y : Outcome)
    → PackedGateOf s o work work' g → g ≡ Done → Inside s o tests done y → PackedPromise s o work tests done (beside y work')
unfolding PackedPromise PackedGateOf
packed_passed s o work work' tests done g y says e p =
    through (refuse s o) s (OutsideIn s ⊎ (InOrder o → ⊥)) work work' (giving (refuse s o) tests) done g says y e p

pub packed_ready : (s : Tables) (o : Opens) (work work' : List ℕ) (g : Answer) → PackedGateOf s o work work' g → g ≡ Done → ReadyOpens s o
unfolding PackedGateOf
packed_ready s o work work' g says e = record {
  ready = ready s (OutsideIn s ⊎ (InOrder o → ⊥)) work work' g says e (λ h. inl h);
  ordered = packed_stable o.count o.list (λ n. inside s (OutsideIn s ⊎ (InOrder o → ⊥)) work work' g says e (inr n));
}
