-- What the promises of the checker and the planner say together.
use mathlib.Core.Path.{◌≡◌, refl, sym, ap, subst, ◌∙◌}
use mathlib.Core.List.{List, [], ◌∷◌, ◌++◌}
use mathlib.Core.Logic.{⊎_elim}
use Prim.Native.Nat.{ℕ, zero, suc, ◌-◌, ◌*◌, ◌≤◌}
use native.Mathlib.Omega.{arith}
use lib.ListN.{length, get_or, take, drop}
use lib.Seq.{take_at}
use Rattle.words.specs.Word.{AreBytes}
use Rattle.words.proofs.Laws as words
use Rattle.order.specs.Gate.{cleared}
use Rattle.order.specs.Given.{None}
use Rattle.order.specs.Answer.{Answer}
use Rattle.order.specs.Answer.{Done}
use Rattle.fat_node.specs.Entry.{Bytes}
use Rattle.fat_node.specs.Node.{Run}
use Rattle.fat_node.specs.Sizes.{blocks}
use Rattle.fat_table.specs.Sound.{File}
use Rattle.fat_table.specs.Chain.{total, file_at}
use Rattle.fat_table.proofs.Files.{Whole}
use Rattle.fat_table.proofs.Decided.{file_decided}
use Rattle.fat_promises.specs.Blocks.{blocks_of}
use Rattle.fat_promises.specs.Calls.{Listing, list_gives}
use Rattle.fat_promises.proofs.Unique.{one_promise}
use Rattle.fat_promises.specs.Promise.{Beside, beside, Promise}
use Rattle.fat_walk.specs.Volume.{Volume}
use Rattle.fat_walk.proofs.Hops.{whole_of}
use Rattle.fat_walk.proofs.Blocks.{length_blocks}
use Rattle.fat_history.proofs.Passes.{are_bytes, Passed}
use Rattle.fat_history.proofs.Means.{means, goes_by}
use Rattle.fat_plan.specs.Plan.{moves, target_of, Accepted, lowest}
use Rattle.fat_plan.specs.Promise.{check_tests, MayCheck, CheckPromise, find_tests, find_rows, find_done, FindPromise}
use Rattle.fat_plan.specs.Inner.Moves.{Open}
use Rattle.fat_plan.proofs.Judges.{file_some, length_moves}
use Rattle.fat_plan.proofs.Lowest.{lowest_open, lowest_none}
use Rattle.fat_plan.proofs.May.{none_check}

first_target : (l : List ℕ) (m : ℕ) → 1 ≤ length l → get_or (moves l m) 1 0 ≡ m
first_target [] m h = let z : ⊥ = omega (arith, h) in absurd z
first_target (b ∷ l) m h = λ i. m

-- the planner's plan is accepted
pub plan_accepted : (n : ℕ) (t : Bytes) (b : ℕ) → Volume n t → words.Bytes t → File t n b → (m : ℕ) → lowest n t (total (file_at n t b)) ≡ suc m
    → Accepted n t b (moves (blocks_of (file_at n t b)) m)
plan_accepted n t b v g f m e =
    let F : List Run = file_at n t b in
    let k : 1 ≤ total F = file_some n t b v g f in
    let q : target_of (moves (blocks_of F) m) ≡ m = first_target (blocks_of F) m (omega (arith, k, length_blocks F)) in
    record {
      each = ap (moves (blocks_of F)) (sym q);
      free = λ x p j. lowest_open n t (whole_of n t v g) (total F) k m e x (omega (arith, p, q)) (omega (arith, j, q));
    }

-- each call's promise and its input leave one answer
pub one_check : (t : Bytes) (d l : ℕ) (work : List ℕ) (b : ℕ) (plan : List ℕ) (o o' : Beside Answer) → CheckPromise t d l work b plan o
    → CheckPromise t d l work b plan o' → o ≡ o'
one_check t d l work b plan o o' p q = one_promise (λ a. a) t d l work (check_tests (blocks t) t b plan) Done o o' p q

pub one_find : (t : Bytes) (d l : ℕ) (work : List ℕ) (b : ℕ) (list : List ℕ) (o o' : Beside Listing) → FindPromise t d l work b list o
    → FindPromise t d l work b list o' → o ≡ o'
one_find t d l work b list o o' p q = one_promise (λ a. list_gives a 0 list) t d l work (find_rows (blocks t) t b list) (find_done (blocks t) t b list) o o' p q

-- no_space_lem: the planner finds no place for k blocks exactly when nowhere k consecutive blocks are free
pub no_space_lem : (n : ℕ) (t : Bytes) → Whole n t → (k : ℕ) → 1 ≤ k
    → (lowest n t k ≡ 0 → (j : ℕ) → Open n t j k → ⊥) × (((j : ℕ) → Open n t j k → ⊥) → lowest n t k ≡ 0)
no_space_lem n t w k some = (λ e. lowest_none n t w k some e, λ h. go h (lowest n t k) refl)
  where
    go : ((j : ℕ) → Open n t j k → ⊥) → (r : ℕ) → lowest n t k ≡ r → lowest n t k ≡ 0
    go h zero e = e
    go h (suc m) e = absurd (h m (lowest_open n t w k some m e))

-- found_accepted: the plan that find has written is accepted by check, on the same table
pub found_accepted : (t : Bytes) (d l : ℕ) (work : List ℕ) (b : ℕ) (list : List ℕ) (o : Beside Listing) → AreBytes t → FindPromise t d l work b list o
    → o.given.answer ≡ Done
    → (work' : List ℕ) (o' : Beside Answer)
    → blocks t ≤ length work'
    → CheckPromise t d l work' b (take (2 * o.given.count) o.given.list) o'
    → o'.given ≡ Done
unfolding Promise
found_accepted t d l work b list o g p e work' o' h q =
    let n : ℕ = blocks t in
    let F : List Run = file_at n t b in
    let tests = find_tests n t b (length list) in
    let w = means (λ a. list_gives a 0 list) t d l [] work tests (find_done n t b list) (None tests) (λ x. x.answer) (λ a. refl) refl refl (λ x y. y) (are_bytes t g) o p e in
    let whole : Whole n t = w.passed.whole in
    let v : Volume n t = record { few = whole.small; room = whole.room; sound = whole.sound } in
    let f : File t n b = ⊎_elim (λ y. y) (λ y. absurd (w.may.0 y)) (file_decided n t b whole) in
    let m : ℕ = lowest n t (total F) - 1 in
    let at : lowest n t (total F) ≡ suc m = next (lowest n t (total F)) w.may.1.0 in
    let plan : List ℕ = moves (blocks_of F) m in
    let many : length plan ≡ 2 * total F = length_moves (blocks_of F) m ∙ ap (λ (y : ℕ). 2 * y) (length_blocks F) in
    let is : take (2 * o.given.count) o.given.list ≡ plan =
    ap (λ (y : Beside Listing). take (2 * y.given.count) y.given.list) w.is ∙ take_at plan (drop (2 * total F) list) (2 * total F) many in
    let may : MayCheck n t b plan = record { file = f; accepted = plan_accepted n t b v whole.bytes f m at } in
    let passed : Passed t d l work' =
    record { whole = whole; some = w.passed.some; data_fits = w.passed.data_fits; length_fits = w.passed.length_fits; work_fits = h } in
    ap (λ (y : Beside Answer). y.given)
    (one_check t d l work' b plan o' (beside Done (cleared n work')) (subst (λ (y : List ℕ). CheckPromise t d l work' b y o') is q)
    (goes_by (λ a. a) t d l [] work' (check_tests n t b plan) Done (MayCheck n t b plan) passed tt (none_check n t b plan may)))
  where
    next : (r : ℕ) → (r ≡ 0 → ⊥) → r ≡ suc (r - 1)
    next zero h = absurd (h refl)
    next (suc r) h = omega arith
