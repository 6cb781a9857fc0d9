-- Which plans are accepted, and where the planner's leads: from what the sweeps and loops say.
use mathlib.Core.Path.{◌≡◌, refl, sym, ap, subst, subst⁻¹, ◌∙◌}
use mathlib.Core.List.{List, [], ◌∷◌, ◌++◌}
use mathlib.Core.Bool.{Bool, true, false, cond, not}
use mathlib.Core.Logic.{inl, inr, ⊎_elim}
use Prim.Native.Nat.{ℕ, zero, suc, ◌+◌, ◌-◌, ◌*◌, ◌≤◌, ◌<◌}
use native.Mathlib.Omega.{arith}
use borrow.Author.Rules.{rules}
use native.Mathlib.Numerals.{add-one}
use lib.ListN.{length, get_or, take, drop, replicate}
use lib.Seq.{take_at, get_or-take, length-take-le}
use Rattle.words.proofs.Laws as words
use borrow.Author.Tests.{not-true, not-false}
use Rattle.order.specs.Answer.{answer_of, Done, InvalidValue, NotAFile}
use Rattle.order.specs.declared.Refusal.{Refusal}
use Rattle.std.specs.Prelude.{Result, Ok, Err}
use Rattle.std.specs.Result.{IsOk, result_unwrap_or}
use Rattle.fat_node.specs.Entry.{Bytes}
use Rattle.fat_node.specs.Node.{Run, run}
use Rattle.fat_node.proofs.Nodes.{le_or_lt}
use Rattle.fat_table.specs.Sound.{File}
use Rattle.fat_table.specs.Chain.{total, free_at, file_at}
use Rattle.fat_table.specs.Layout.{joined, hits, covers, empties}
use Rattle.fat_table.specs.Steps.{first}
use Rattle.fat_table.proofs.Layouts.{covers_append}
use Rattle.fat_table.proofs.Files.{seen}
use Rattle.fat_promises.specs.Blocks.{blocks_of}
use Rattle.fat_promises.specs.Calls.{Listing, list_gives, ListSound}
use Rattle.fat_walk.specs.Volume.{Volume}
use Rattle.fat_walk.specs.Inner.Chains.{ChainFrom}
use Rattle.fat_walk.proofs.Found.{file_from}
use Rattle.fat_walk.proofs.Hops.{whole_of}
use Rattle.fat_walk.proofs.Blocks.{length_blocks}
use Rattle.fat_merge.specs.Merge.{stretches, tidied}
use Rattle.fat_merge.specs.Inner.Sweep.{marks, Ahead}
use Rattle.fat_merge.proofs.Stretches.{stretch_covers}
use Rattle.fat_merge.proofs.Marked.{marked_ahead}
use Rattle.fat_plan.specs.Plan.{moves, target_of, Accepted, lowest}
use Rattle.fat_plan.specs.Promise.{CheckSound}
use Rattle.fat_plan.specs.Inner.Moves.{Says, BlocksIn, Moves, Open, StandsSaid, LowestSaid}
use Rattle.fat_plan.proofs.Sweeps.{says_not}

-- a list of n places, cleared
pub cleared_is : (n : ℕ) (w w' : List ℕ) → length w ≡ n → w' ≡ replicate (length w) 0 → w' ≡ replicate n 0
cleared_is n w w' h e = e ∙ ap (λ (j : ℕ). replicate j 0) h

-- the blocks of a file in a list ----------------------------------------------------------------------------------

pub total_some : (l : List Run) (b : ℕ) → first l ≡ suc b → empties l ≡ 0 → 1 ≤ total l
total_some [] b e p = let z : ⊥ = omega (arith, e) in absurd z
total_some (r ∷ l) b e p = omega (arith, p)

answered_ok : {A : Type 0} (r : Result A Refusal) → answer_of r ≡ Done → IsOk r
answered_ok (Ok x) e = search rules
answered_ok (Err why) e = cc

module _ (n : ℕ) (t : Bytes) (b : ℕ) (v : Volume n t) (g : words.Bytes t) (f : File t n b) where
  -- the chain of a file, by its index
  file_chain : ChainFrom n t (suc b)
  file_chain = subst (ChainFrom n t) (add-one b) (file_from n t v g b f)

  pub file_some : 1 ≤ total (file_at n t b)
  file_some = total_some (file_at n t b) b file_chain.at file_chain.chain.positive

  pub file_few : total (file_at n t b) ≤ n
  file_few = file_chain.chain.sum

  module _ (w : List ℕ) (h : length w ≡ n) (r : Result ℕ Refusal) (w' : List ℕ) where
    -- its list fits
    pub blocks_listed : ListSound n t b w (list_gives (answer_of r) (result_unwrap_or r 0) w') → IsOk r
    blocks_listed (inl p) = absurd (p.0 f)
    blocks_listed (inr (x, inl p)) = let z : ⊥ = omega (arith, p.0, h, file_few) in absurd z
    blocks_listed (inr (x, inr (y, e))) = answered_ok r (ap (λ (o : Listing). o.answer) e)

    pub blocks_in : length w' ≡ length w → ListSound n t b w (list_gives (answer_of r) (result_unwrap_or r 0) w') → (k : ℕ) → r ≡ Ok k → BlocksIn n t b k w'
    blocks_in s (inl p) k i = absurd (p.0 f)
    blocks_in s (inr (x, inl p)) k i = let z : ⊥ = omega (arith, p.0, h, file_few) in absurd z
    blocks_in s (inr (x, inr (y, e))) c i =
        let F : List Run = file_at n t b in
        let q : c ≡ total F = sym (ap (λ (r : Result ℕ Refusal). result_unwrap_or r 0) i) ∙ ap (λ (o : Listing). o.count) e in
        let k : w' ≡ blocks_of F ++ drop (total F) w = ap (λ (o : Listing). o.list) e in
        record {
          count = q;
          some = omega (arith, q, file_some);
          few = omega (arith, q, file_few);
          is = ap (λ (j : ℕ). take j w') q ∙ ap (take (total F)) k ∙ take_at (blocks_of F) (drop (total F) w) (total F) (length_blocks F);
          long = s ∙ h;
        }

-- the list of them, cleared
pub blocks_clear : (n : ℕ) (t : Bytes) (b k : ℕ) (w : List ℕ) → BlocksIn n t b k w → (w' : List ℕ) → w' ≡ replicate (length w) 0 → w' ≡ replicate n 0
blocks_clear n t b k w i w' e = cleared_is n w w' i.long e

-- the sweeps, on a table whose free nodes are marked -------------------------------------------------------------------

module _ (n : ℕ) (t : Bytes) (w₀ w : List ℕ) (v : Volume n t) (g : words.Bytes t) (z : w₀ ≡ replicate n 0) (m : w ≡ marks (free_at n t) w₀) where
  here : Ahead n t w (λ x. covers x (free_at n t)) 0
  here =
      subst⁻¹ (λ (l : List ℕ). Ahead n t l (λ x. covers x (free_at n t)) 0) (m ∙ ap (marks (free_at n t)) z)
      (marked_ahead n t (whole_of n t v g))

  free_inside : (x : ℕ) → covers x (free_at n t) ≤ hits x (run 0 n)
  free_inside x =
      let s = seen n t (whole_of n t v g) in
      omega (arith, s.holds.tiled.once x, covers_append x (free_at n t) (joined s.files))

  same_blocks : (x : ℕ) → covers x (stretches n 0 (λ y. covers y (free_at n t))) ≡ covers x (free_at n t)
  same_blocks = stretch_covers n (λ y. covers y (free_at n t)) free_inside

  pub open_said : (a k : ℕ) (r : Bool) → StandsSaid n t w a k r → Says r (Open n t a k)
  open_said a k r s =
      let o = s (λ x. covers x (free_at n t)) here in
      record {
        so = λ e x p q. omega (arith, o.so e x p q, same_blocks x);
        if = λ f. o.if (λ x p q. omega (arith, f x p q, same_blocks x));
      }

  pub lowest_said : (k r : ℕ) → LowestSaid n t w k r → r ≡ lowest n t k
  unfolding lowest tidied
  lowest_said k r s = s (λ x. covers x (free_at n t)) here

-- a plan beside a list of blocks -----------------------------------------------------------------------------------

twice : (i : ℕ) → 2 * suc i ≡ suc (suc (2 * i))
twice i = omega arith

pub length_moves : (l : List ℕ) (m : ℕ) → length (moves l m) ≡ 2 * length l
length_moves [] m = refl
length_moves (b ∷ l) m = omega (arith, length_moves l (suc m))

pub source_at : (l : List ℕ) (m i : ℕ) → i < length l → get_or (moves l m) (2 * i) 0 ≡ get_or l i 0
source_at [] m i h = let z : ⊥ = omega arith in absurd z
source_at (b ∷ l) m zero h = refl
source_at (b ∷ l) m (suc i) h =
    ap (λ (j : ℕ). get_or (b ∷ (m ∷ moves l (suc m))) j 0) (twice i) ∙ source_at l (suc m) i (omega arith)

target_at : (l : List ℕ) (m i : ℕ) → i < length l → get_or (moves l m) (2 * i + 1) 0 ≡ m + i
target_at [] m i h = let z : ⊥ = omega arith in absurd z
target_at (b ∷ l) m zero h = omega arith
target_at (b ∷ l) m (suc i) h =
    let e : 2 * suc i + 1 ≡ suc (suc (2 * i + 1)) = omega arith in
    ap (λ (j : ℕ). get_or (b ∷ (m ∷ moves l (suc m))) j 0) e ∙ target_at l (suc m) i (omega arith) ∙ omega arith

-- place by place, plan has the moves of l from target m on
abbrev Each : List ℕ → List ℕ → ℕ → Type 0
Each plan l m = (i : ℕ) → i < length l → (get_or plan (2 * i) 0 ≡ get_or l i 0) × (get_or plan (2 * i + 1) 0 ≡ m + i)

moves_of : (plan l : List ℕ) (m : ℕ) → length plan ≡ 2 * length l → Each plan l m → plan ≡ moves l m
moves_of [] [] m e g = refl
moves_of [] (b ∷ l) m e g = let z : ⊥ = omega (arith, e) in absurd z
moves_of (x ∷ []) [] m e g = let z : ⊥ = omega (arith, e) in absurd z
moves_of (x ∷ []) (b ∷ l) m e g = let z : ⊥ = omega (arith, e) in absurd z
moves_of (x ∷ (y ∷ plan)) [] m e g = let z : ⊥ = omega (arith, e) in absurd z
moves_of (x ∷ (y ∷ plan)) (b ∷ l) m e g =
    let first_two = g 0 (omega arith) in
    let a : x ≡ b = first_two.0 in
    let c : y ≡ m = first_two.1 ∙ omega arith in
    let rest : plan ≡ moves l (suc m) =
    moves_of plan l (suc m) (omega (arith, e))
    (λ i h.
    let o = g (suc i) (omega (arith, h)) in
    let q : suc (suc (2 * i + 1)) ≡ 2 * suc i + 1 = omega arith in (
      ap (λ (j : ℕ). get_or (x ∷ (y ∷ plan)) j 0) (sym (twice i)) ∙ o.0,
      ap (λ (j : ℕ). get_or (x ∷ (y ∷ plan)) j 0) q ∙ o.1 ∙ omega arith,
    )) in
    λ i. a i ∷ (c i ∷ rest i)

-- the first i moves are as they are to be
pub record Matching (plan w : List ℕ) (k i : ℕ) : Type 0 where
  pub within : i ≤ k
  pub each : (j : ℕ) → j < i → (get_or plan (2 * j) 0 ≡ get_or w j 0) × (get_or plan (2 * j + 1) 0 ≡ target_of plan + j)

module _ (plan w : List ℕ) (k : ℕ) where
  pub match_begin : Matching plan w k 0
  match_begin = record { within = omega arith; each = λ j h. let z : ⊥ = omega (arith, h) in absurd z }

  pub match_more : (i : ℕ) → Matching plan w k i → i < k → get_or plan (2 * i) 0 ≡ get_or w i 0 → get_or plan (2 * i + 1) 0 ≡ target_of plan + i → Matching plan w k (i + 1)
  match_more i v h a b = record {
    within = omega (arith, h);
    each = λ j p. ⊎_elim
        (λ q. let e : j ≡ i = omega (arith, p, q) in
        subst⁻¹ (λ (y : ℕ). (get_or plan (2 * y) 0 ≡ get_or w y 0) × (get_or plan (2 * y + 1) 0 ≡ target_of plan + y)) e (a, b))
        (λ q. v.each j q)
        (le_or_lt i j);
  }

  module _ (fits : k ≤ length w) where
    long : length (take k w) ≡ k
    long = length-take-le k w fits

    pub match_end : (i : ℕ) → Matching plan w k i → k ≤ i → length plan ≡ 2 * k → Says true (Moves plan w k)
    match_end i v h e = record {
      so = λ _. moves_of plan (take k w) (target_of plan) (omega (arith, e, long))
          (λ j p.
          let q : j < k = omega (arith, p, long) in
          let o = v.each j (omega (arith, q, h)) in
          (o.0 ∙ sym (get_or-take k w j 0 q), o.1));
      if = λ _. refl;
    }

    pub match_length : (length plan ≡ 2 * k → ⊥) → Says false (Moves plan w k)
    match_length g = says_not (λ e. g (ap (λ (l : List ℕ). length l) e ∙ length_moves (take k w) (target_of plan) ∙ omega (arith, long)))

    pub match_source : (i : ℕ) → i < k → (get_or plan (2 * i) 0 ≡ get_or w i 0 → ⊥) → Says false (Moves plan w k)
    match_source i h g =
        says_not (λ e. g (ap (λ (l : List ℕ). get_or l (2 * i) 0) e ∙ source_at (take k w) (target_of plan) i (omega (arith, h, long)) ∙ get_or-take k w i 0 h))

    pub match_target : (i : ℕ) → i < k → (get_or plan (2 * i + 1) 0 ≡ target_of plan + i → ⊥) → Says false (Moves plan w k)
    match_target i h g =
        says_not (λ e. g (ap (λ (l : List ℕ). get_or l (2 * i + 1) 0) e ∙ target_at (take k w) (target_of plan) i (omega (arith, h, long))))

-- accepted -----------------------------------------------------------------------------------------------------------

pub clash : {A : Type 0} (r : Bool) → r ≡ false → r ≡ true → A
clash r e f = let z : ◌≡◌ {A = ℕ} 0 1 = ap (λ (b : Bool). cond b 1 0) (sym e ∙ f) in let y : ⊥ = omega (arith, z) in absurd y

module _ (n : ℕ) (t : Bytes) (b : ℕ) (plan : List ℕ) (k : ℕ) (w : List ℕ) (i : BlocksIn n t b k w) (r : Bool) (s : Says r (Moves plan w k)) where
  pub accept_not : r ≡ false → Says r (Accepted n t b plan)
  accept_not e = record {
    so = λ q. clash r e q;
    if = λ a. clash r e (s.if (a.each ∙ ap (λ (l : List ℕ). moves l (target_of plan)) (sym i.is)));
  }

  module _ (e : r ≡ true) where
    same : plan ≡ moves (blocks_of (file_at n t b)) (target_of plan)
    same = s.so e ∙ ap (λ (l : List ℕ). moves l (target_of plan)) i.is

    pub accept_long : 1 < length plan
    accept_long =
        omega (
          arith,
          ap (λ (l : List ℕ). length l) same,
          length_moves (blocks_of (file_at n t b)) (target_of plan),
          length_blocks (file_at n t b),
          i.count,
          i.some,
        )

    pub accept_says : (o : Bool) → Says o (Open n t (target_of plan) k) → Says o (Accepted n t b plan)
    accept_says o q = record {
      so = λ j. record { each = same; free = λ x f g. q.so j x f (omega (arith, g, i.count)) };
      if = λ a. q.if (λ x f g. a.free x f (omega (arith, g, i.count)));
    }

module _ (n : ℕ) (t : Bytes) (b : ℕ) (plan : List ℕ) (r : Bool) (s : (r ≡ true → File t n b) × (File t n b → r ≡ true)) where
  pub check_file : not r ≡ true → CheckSound n t b plan NotAFile
  check_file e = inl ((λ f. clash r (not-true r e) (s.1 f)), refl)

  module _ (e : not r ≡ false) where
    pub check_is : File t n b
    check_is = s.0 (not-false r e)

    module _ (o : Bool) (q : Says o (Accepted n t b plan)) where
      pub check_refused : not o ≡ true → CheckSound n t b plan InvalidValue
      check_refused h = inr ((λ g. g check_is), inl ((λ a. clash o (not-true o h) (q.if a)), refl))

      pub check_done : not o ≡ false → CheckSound n t b plan Done
      check_done h = inr ((λ g. g check_is), inr ((λ g. g (q.so (not-false o h))), refl))
