-- What each call does to the record of one inode, from its promise.
use mathlib.Core.Path.{◌≡◌, refl, sym, ap, ◌∙◌, subst, subst⁻¹}
use mathlib.Core.List.{List, [], ◌∷◌}
use mathlib.Core.Bool.{Bool, true, false}
use mathlib.Core.Logic.{◌⊎◌, inl, inr, ⊎_elim, ◌≢◌}
use Prim.Native.Nat.{ℕ, zero, suc, ◌+◌, ◌-◌, ◌≤◌, ◌<◌}
use native.Mathlib.Nat.{lt_of_not-le}
use native.Mathlib.Omega.{arith}
use lib.Dec.{eqb}
use lib.ListN.{length}
use lib.Seq.{get_or-set_same, get_or-set_other}
use Rattle.order.specs.First.{Row, First}
use Rattle.order.specs.Given.{None}
use Rattle.order.specs.Giving.{giving}
use Rattle.order.specs.Beside.{Beside, beside, within, Promised}
use Rattle.order.specs.Answer.{number_of}
use Rattle.order.specs.Answer.{Answer}
use Rattle.order.specs.Answer.{Done, SizeMismatch, InvalidValue, WorkTooShort, BrokenTree}
use Rattle.links.proofs.Laws.{by_eq}
use Rattle.links.specs.Links.{◌∈◌, Links}
use Rattle.links.specs.Change.{pick, walk}
use Rattle.tree_table.specs.View.{View, LiveIn, removed_of}
use Rattle.tree_table.specs.Steps.{taken, free_of}
use Rattle.tree_sound.specs.Sound.{Table}
use Rattle.tree_sound.specs.Tables.{Tables, dirs, files, rooms_in, SoundIn}
use Rattle.tree_opens.specs.Opens.{opened, with_open}
use Rattle.tree_opens.specs.Record.{writer_alone}
use Rattle.tree_opens.specs.Step.{more, less, more_tests, less_tests}
use Rattle.tree_opens.specs.declared.Want.{Want}
use Rattle.tree_promises.specs.declared.Kind.{Kind}
use Rattle.tree_promises.specs.declared.Kind.TheVariants.{Directory, File}
use Rattle.tree_promises.specs.Kinds.{kind_view, kind_room}
use Rattle.tree_promises.specs.Promise.{worked, OpensPromise}
use Rattle.tree_promises.specs.Steps as steps
use Rattle.tree_promises.specs.Calls as calls
use Rattle.tree_promises.specs.Public.{MakePromise, RenamePromise, DeletePromise, OpenPromise, ClosePromise}
use Rattle.tree_history.specs.Call as step
use Rattle.tree_history.specs.Call.{State, state, Call, opens_of, changed}
use Rattle.tree_history.specs.Held.{Move, stays, gains, loses, made, gone, same_entry, seen, move_of}
use Rattle.tree_history.proofs.Stable.{sound_stable, live_stable}
use Rattle.tree_history.proofs.Rows.{front}
use Rattle.tree_history.proofs.Good.{refuses, Refusals, refusal_of, both_left, both_right}
use Rattle.tree_history.proofs.Calls.{same_state, rename_refuses, delete_refuses}

-- a record r became r' by a move
abbrev pub Told : Move → (r r' : ℕ) → Type 0
Told stays r r' = r' ≡ r
Told (gains want) r r' = None (more_tests r want) × (r' ≡ more r want)
Told (loses want) r r' = None (less_tests r want) × (r' ≡ less r want)
Told made r r' = r' ≡ writer_alone
Told gone r r' = r' ≡ 0

-- ---- a call went, or was refused

pub record Went {A : Type 0} (s : Tables) (short : Type 0) (tests : List (Row Answer)) (done given : A) : Type 0 where
  pub long : short → ⊥
  pub sound : SoundIn s
  pub none : None tests
  pub is : given ≡ done

-- with an answer that is a refusal
pub record Refused {A : Type 0} (refuse : Answer → A) (given : A) : Type 0 where
  pub answer : Answer
  pub some : 0 < number_of answer
  pub is : given ≡ refuse answer

module _ {A : Type 0} (refuse : Answer → A) (s : Tables) (work : List ℕ) (done : A) (o : Beside A) where
  refused : (a : Answer) (w : List ℕ) → 0 < number_of a → o ≡ beside (refuse a) w → Refused refuse o.given
  refused a w h e = record { answer = a; some = h; is = ap (λ (x : Beside A). x.given) e }

  own : (w : List ℕ) (tests : List (Row Answer)) → Refusals tests ≡ true → First (within w (giving refuse tests)) (beside done w) o
      → (None tests × (o.given ≡ done)) ⊎ Refused refuse o.given
  own w [] h p = inl (tt, ap (λ (x : Beside A). x.given) p)
  own w (r ∷ rs) h (inl p) = inr (refused r.gives w (refusal_of r.gives (both_left (refuses r.gives) (Refusals rs) h)).0 p.1)
  own w (r ∷ rs) h (inr p) =
      ⊎_elim (λ (q : None rs × (o.given ≡ done)). inl ((p.0, q.0), q.1)) (λ (q : Refused refuse o.given). inr q) (own w rs (both_right (refuses r.gives) (Refusals rs) h) p.1)

  module _ (tests : List (Row Answer)) (h : Refusals tests ≡ true) where
    outcome : (short : Type 0) → Promised (front refuse s short work) (worked s work) (giving refuse tests) done o
        → Went s short tests done o.given ⊎ Refused refuse o.given
    outcome short (inl p) = inr (refused SizeMismatch work (omega arith) p.1)
    outcome short (inr (m, inl p)) = inr (refused InvalidValue work (omega arith) p.1)
    outcome short (inr (m, inr (i, inl p))) = inr (refused WorkTooShort work (omega arith) p.1)
    outcome short (inr (m, inr (i, inr (l, inl p)))) = inr (refused BrokenTree (worked s work) (omega arith) p.1)
    outcome short (inr (m, inr (i, inr (l, inr (u, p))))) =
        ⊎_elim
        (λ (q : None tests × (o.given ≡ done)).
        inl (record { long = l; sound = sound_stable (dirs s) (files s) u; none = q.0; is = q.1 }))
        (λ (q : Refused refuse o.given). inr q)
        (own (worked s work) tests h p)

    pub opens_outcome : (kind : Kind) (opens : List ℕ) → OpensPromise kind refuse s opens work (giving refuse tests) done o
        → Went s ((length work < rooms_in s) ⊎ (length opens < kind_room kind s)) tests done o.given ⊎ Refused refuse o.given
    unfolding OpensPromise
    opens_outcome kind opens p = outcome ((length work < rooms_in s) ⊎ (length opens < kind_room kind s)) p

-- ---- what is seen of it at one inode

-- nothing of a refusal
unseen : (here : Bool) (n : ℕ) (m : Move) (r r' : ℕ) → 0 < n → r' ≡ r → Told (seen here n m) r r'
unseen true zero m r r' h e = absurd (omega arith)
unseen true (suc n) m r r' h e = e
unseen false n m r r' h e = e

-- and of a call that put the record r' at inode y of the kind k
module _ (s : State) (t : Tables) (k : Kind) (y r' : ℕ) (m : Move) where
  in_list : (opens : List ℕ) (x : ℕ) → y < length opens → Told m (opened opens y) r' → Told (seen (eqb x y) 0 m) (opened opens x) (opened (with_open opens y r') x)
  unfolding opened with_open
  in_list opens x l T =
      by_eq x y (λ b. Told (seen b 0 m) (opened opens x) (opened (with_open opens y r') x))
      (λ e.
      subst⁻¹ (λ z. Told m (opened opens z) (opened (with_open opens y r') z)) e
      (subst⁻¹ (λ z. Told m (opened opens y) z) (get_or-set_same opens y r' 0 l) T))
      (λ n. get_or-set_other opens y x r' 0 n)

  put : (kind : Kind) (x : ℕ) → y < length (opens_of k s) → Told m (opened (opens_of k s) y) r'
      → Told (seen (same_entry kind k x y) 0 m) (opened (opens_of kind s) x) (opened (opens_of kind (changed k s t (with_open (opens_of k s) y r'))) x)
  put kind x l T = go kind k l T
    where
      go : (kind k : Kind) → y < length (opens_of k s) → Told m (opened (opens_of k s) y) r'
          → Told (seen (same_entry kind k x y) 0 m) (opened (opens_of kind s) x) (opened (opens_of kind (changed k s t (with_open (opens_of k s) y r'))) x)
      go Directory Directory l T = in_list s.dir_opens x l T
      go Directory File l T = refl
      go File Directory l T = refl
      go File File l T = in_list s.file_opens x l T

-- a live inode, and the one that make takes, have a record
few : (m n : ℕ) → (m < n → ⊥) → n ≤ m
few m n f = let h : n < suc m = lt_of_not-le (λ (k : suc m ≤ n). f (omega arith)) in omega arith

pub live_low : (kind : Kind) (s : Tables) (x : ℕ) → SoundIn s → LiveIn (kind_view kind s) x → x < kind_room kind s
live_low Directory s x S l = omega (arith, l.1, S.dirs.below.table.count_max, S.dirs.below.table.max_room)
live_low File s x S l = omega (arith, l.1, S.files.table.count_max, S.files.table.max_room)

first_in : (next : ℕ → ℕ) (h : ℕ) (xs : List ℕ) → Links next h xs → h ≢ 0 → h ∈ xs
first_in next h [] l n = absurd (n l)
first_in next h (y ∷ ys) l n = inl l.0

none_left : (next : ℕ → ℕ) (k x : ℕ) → x ≡ 0 → length (walk next k x) ≡ 0
none_left next zero x e = refl
none_left next (suc k) zero e = refl
none_left next (suc k) (suc x) e = absurd (omega arith)

taken_in : (v : View) → Table v → (free_of v ≡ 0 → ⊥) → taken v < v.room
taken_in v T free =
    by_eq (v.coll 0) 0 (λ b. pick b v.count (v.coll 0) < v.room)
    (λ e.
    let z : length (removed_of v) ≡ 0 = none_left v.coll v.count (v.coll 0) e in
    let q : v.maximum - v.count + length (removed_of v) ≢ 0 = free in
    omega (arith, T.count_max, T.max_room))
    (λ n. omega (arith, T.removed_below (v.coll 0) (first_in v.coll (v.coll 0) (removed_of v) T.removed n), T.count_max, T.max_room))

pub taken_low : (kind : Kind) (s : Tables) → SoundIn s → (free_of (kind_view kind s) ≡ 0 → ⊥) → taken (kind_view kind s) < kind_room kind s
taken_low Directory s S free = taken_in (dirs s) S.dirs.below.table free
taken_low File s S free = taken_in (files s) S.files.table free

-- ---- the calls

module _ (kind : Kind) (x : ℕ) (s : State) where
  abbrev before : ℕ
  before = opened (opens_of kind s) x

  -- a call on the kind k whose outcome g answers `answer_of g` about the inode `at g` and leaves `tables_of g`, `opensIn g`
  module _ {A : Type 0} (k : Kind) (m : Move) (answer_of : A → Answer) (at : A → ℕ) (tables_of : A → Tables) (opensIn : A → List ℕ) where
    abbrev Seen : A → Type 0
    Seen g = Told (seen (same_entry kind k x (at g)) (number_of (answer_of g)) m) before (opened (opens_of kind (changed k s (tables_of g) (opensIn g))) x)

    by_outcome : (refuse : Answer → A) (tests : List (Row Answer)) (short : Type 0) (done given : A)
        → ((a : Answer) → answer_of (refuse a) ≡ a) → ((a : Answer) → tables_of (refuse a) ≡ s.tables) → ((a : Answer) → opensIn (refuse a) ≡ opens_of k s)
        → (Went s.tables short tests done given → Seen done)
        → Went s.tables short tests done given ⊎ Refused refuse given → Seen given
    by_outcome refuse tests short done given ea et eo f =
        ⊎_elim (λ (w : Went s.tables short tests done given). subst⁻¹ Seen w.is (f w))
        (λ (q : Refused refuse given).
        subst⁻¹ Seen q.is
        (unseen (same_entry kind k x (at (refuse q.answer))) (number_of (answer_of (refuse q.answer))) m before
        (opened (opens_of kind (changed k s (tables_of (refuse q.answer)) (opensIn (refuse q.answer)))) x)
        (subst⁻¹ (λ (a : Answer). 0 < number_of a) (ea q.answer) q.some)
        (ap (λ (u : State). opened (opens_of kind u) x)
        (ap (λ (z : Tables). changed k s z (opensIn (refuse q.answer))) (et q.answer)
        ∙ ap (λ (z : List ℕ). changed k s s.tables z) (eo q.answer)
        ∙ same_state k s))))

  -- what is seen of each at inode x of the kind
  module _ (k : Kind) (work : List ℕ) where
    abbrev t : Tables
    t = s.tables

    abbrev opens : List ℕ
    opens = opens_of k s

    abbrev Short : Type 0
    Short = (length work < rooms_in t) ⊎ (length opens < kind_room k t)

    -- a record for what lies in the table
    recorded : (y : ℕ) → (Short → ⊥) → y < kind_room k t → y < length opens
    recorded y long l = omega (arith, few (length opens) (kind_room k t) (λ h. long (inr h)))

    live : (y : ℕ) → (Short → ⊥) → SoundIn t → ((LiveIn (kind_view k t) y → ⊥) → ⊥) → y < length opens
    live y long S n = recorded y long (live_low k t y S (live_stable (kind_view k t) y n))

    told_opening : (y : ℕ) (want : Want) (o : Beside calls.Opening) → OpenPromise k t opens work y want o
        → Told (seen (same_entry kind k x y) (number_of o.given.answer) (gains want)) before (opened (opens_of kind (changed k s t o.given.opens)) x)
    told_opening y want o p =
        by_outcome k (gains want) (λ (g : calls.Opening). g.answer) (λ _. y) (λ _. t) (λ (g : calls.Opening). g.opens) (λ a. calls.opening_gives a opens)
        (calls.open_tests (kind_view k t) opens y want) Short (calls.open_done opens y want) o.given (λ a. refl) (λ a. refl) (λ a. refl)
        (λ w. put s t k y (more (opened opens y) want) (gains want) kind x (live y w.long w.sound w.none.0) (w.none.1, refl))
        (opens_outcome (λ a. calls.opening_gives a opens) t work (calls.open_done opens y want) o (calls.open_tests (kind_view k t) opens y want) refl k opens p)

    told_closing : (y : ℕ) (want : Want) (o : Beside calls.Opening) → ClosePromise k t opens work y want o
        → Told (seen (same_entry kind k x y) (number_of o.given.answer) (loses want)) before (opened (opens_of kind (changed k s t o.given.opens)) x)
    told_closing y want o p =
        by_outcome k (loses want) (λ (g : calls.Opening). g.answer) (λ _. y) (λ _. t) (λ (g : calls.Opening). g.opens) (λ a. calls.opening_gives a opens)
        (calls.close_tests (kind_view k t) opens y want) Short (calls.close_done opens y want) o.given (λ a. refl) (λ a. refl) (λ a. refl)
        (λ w. put s t k y (less (opened opens y) want) (loses want) kind x (live y w.long w.sound w.none.0) (w.none.1, refl))
        (opens_outcome (λ a. calls.opening_gives a opens) t work (calls.close_done opens y want) o (calls.close_tests (kind_view k t) opens y want) refl k opens p)

    told_delete : (y : ℕ) (o : Beside calls.Change) → DeletePromise k t opens work y o
        → Told (seen (same_entry kind k x y) (number_of o.given.answer) gone) before (opened (opens_of kind (changed k s o.given.tables o.given.opens)) x)
    told_delete y o p =
        by_outcome k gone (λ (g : calls.Change). g.answer) (λ _. y) (λ (g : calls.Change). g.tables) (λ (g : calls.Change). g.opens)
        (λ a. calls.change_gives a t opens) (calls.delete_tests k t opens y) Short (calls.delete_done k t opens y) o.given (λ a. refl) (λ a. refl) (λ a. refl)
        (λ w. put s (steps.deleted k t y) k y 0 gone kind x (live y w.long w.sound w.none.0) refl)
        (opens_outcome (λ a. calls.change_gives a t opens) t work (calls.delete_done k t opens y) o (calls.delete_tests k t opens y) (delete_refuses k t opens y) k opens p)

    told_make : (p : ℕ) (name bytes : List ℕ) (o : Beside calls.Make) → MakePromise k t opens work p name bytes o
        → Told (seen (same_entry kind k x o.given.inode) (number_of o.given.answer) made) before
        (opened (opens_of kind (changed k s o.given.tables o.given.opens)) x)
    told_make p name bytes o q =
        by_outcome k made (λ (g : calls.Make). g.answer) (λ (g : calls.Make). g.inode) (λ (g : calls.Make). g.tables) (λ (g : calls.Make). g.opens)
        (λ a. calls.make_gives a 0 t opens) (calls.make_tests t (kind_view k t) p name) Short (calls.make_done k t opens p name bytes) o.given
        (λ a. refl) (λ a. refl) (λ a. refl)
        (λ w.
        put s (steps.made k t p name bytes) k (taken (kind_view k t)) writer_alone made kind x
        (recorded (taken (kind_view k t)) w.long (taken_low k t w.sound w.none.1.1.1.0)) refl)
        (opens_outcome (λ a. calls.make_gives a 0 t opens) t work (calls.make_done k t opens p name bytes) o (calls.make_tests t (kind_view k t) p name) refl k opens q)

    -- rename leaves the records
    told_rename : (y p : ℕ) (name : List ℕ) (o : Beside calls.Change) → RenamePromise k t opens work y p name o
        → opened (opens_of kind (changed k s o.given.tables o.given.opens)) x ≡ before
    told_rename y p name o q =
        ⊎_elim
        (λ (w : Went t Short (calls.rename_tests k t opens y p name) (calls.rename_done k t opens y p name) o.given). kept o.given (ap (λ (g : calls.Change). g.opens) w.is))
        (λ (r : Refused (λ a. calls.change_gives a t opens) o.given). kept o.given (ap (λ (g : calls.Change). g.opens) r.is))
        (opens_outcome (λ a. calls.change_gives a t opens) t work (calls.rename_done k t opens y p name) o (calls.rename_tests k t opens y p name)
        (rename_refuses k t opens y p name) k opens q)
      where
        same : (kind k : Kind) (z : Tables) → opens_of kind (changed k s z (opens_of k s)) ≡ opens_of kind s
        same Directory Directory z = refl
        same Directory File z = refl
        same File Directory z = refl
        same File File z = refl

        kept : (g : calls.Change) → g.opens ≡ opens → opened (opens_of kind (changed k s g.tables g.opens)) x ≡ before
        kept g e = ap (λ (z : List ℕ). opened (opens_of kind (changed k s g.tables z)) x) e ∙ ap (λ (z : List ℕ). opened z x) (same kind k g.tables)

-- the records of a state stay where its tables alone change
apart : (kind : Kind) (s : State) (t : Tables) (x : ℕ) → opened (opens_of kind (state t s.dir_opens s.file_opens)) x ≡ opened (opens_of kind s) x
apart Directory s t x = refl
apart File s t x = refl

-- every call, whatever it answers
pub told : (kind : Kind) (x : ℕ) (s : State) {a : Answer} {u : State} (c : Call s a u) → Told (move_of kind x c) (opened (opens_of kind s) x) (opened (opens_of kind u) x)
told kind x s (step.make k work p name bytes o bn bb q) = told_make kind x s k work p name bytes o q
told kind x s (step.delete k work y o q) = told_delete kind x s k work y o q
told kind x s (step.opening k work y want o q) = told_opening kind x s k work y want o q
told kind x s (step.closing k work y want o q) = told_closing kind x s k work y want o q
told kind x s (step.format dm fm o q) = apart kind s o.tables x
told kind x s (step.test work o q) = refl
told kind x s (step.lookup k work p name o q) = refl
told kind x s (step.list k work y list o q) = refl
told kind x s (step.stat work o q) = refl
told kind x s (step.name_answer work k y o q) = refl
told kind x s (step.carried k work y o q) = refl
told kind x s (step.set_carried k work y bytes o b q) = apart kind s o.given.tables x
told kind x s (step.rename k work y p name o b q) = told_rename kind x s k work y p name o q
