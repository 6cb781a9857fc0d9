-- The planner: its judge, the moves written place by place, and what it gives.
use mathlib.Core.Path.{◌≡◌, refl, sym, ap, subst⁻¹, ◌∙◌}
use mathlib.Core.List.{List, [], ◌∷◌, ◌++◌}
use mathlib.Core.Bool.{Bool, true, false, not}
use mathlib.Core.Logic.{inl, inr}
use Prim.Native.Nat.{ℕ, zero, suc, ◌+◌, ◌-◌, ◌*◌, ◌≤◌, ◌<◌}
use native.Mathlib.Omega.{arith}
use native.Mathlib.Numerals.{add-one}
use mir.Syntax.{w64}
use mir.Val.{Fits}
use lib.ListN.{length, get_or, set, take, drop, length-set}
use lib.Seq.{sets, sets-eq, drop-cons, get_or-take, length-take-le}
use borrow.Author.Tests.{not-true, not-false}
use Rattle.words.proofs.Laws as words
use Rattle.order.specs.Given.{Given}
use Rattle.order.specs.Answer.{Answer}
use Rattle.order.specs.Answer as is
use Rattle.order.proofs.Tests.{test_refused, tests_passed}
use Rattle.fat_node.specs.Entry.{Bytes}
use Rattle.fat_table.specs.Sound.{File}
use Rattle.fat_table.specs.Chain.{total, file_at, chain_at}
use Rattle.fat_promises.specs.Blocks.{blocks_of}
use Rattle.fat_promises.specs.Calls.{list_gives}
use Rattle.fat_walk.specs.Volume.{Volume}
use Rattle.fat_walk.proofs.Hops.{whole_of}
use Rattle.fat_walk.proofs.Blocks.{length_blocks}
use Rattle.fat_plan.specs.Plan.{moves, lowest}
use Rattle.fat_plan.specs.Promise.{find_tests, find_done, FindSound}
use Rattle.fat_plan.specs.Inner.Moves.{BlocksIn}
use Rattle.fat_plan.specs.Inner.Finds.{FindAt, FoundAt, Planned}
use Rattle.fat_plan.proofs.Judges.{clash, file_some, file_few, length_moves}
use Rattle.fat_plan.proofs.Lowest.{lowest_within}

-- the judge --------------------------------------------------------------------------------------------------------

module _ (n : ℕ) (t : Bytes) (b room : ℕ) (r : Bool) (s : (r ≡ true → File t n b) × (File t n b → r ≡ true)) where
  pub find_file : not r ≡ true → Given (find_tests n t b room) is.NotAFile
  find_file e = inl ((λ f. clash r (not-true r e) (s.1 f)), refl)

  module _ (e : not r ≡ false) where
    pub find_is : File t n b
    find_is = s.0 (not-false r e)

    module _ (c : ℕ) (q : c ≡ total (chain_at t n (b + 1))) (i : ℕ) (u : i ≡ lowest n t c) where
      count_is : c ≡ total (file_at n t b)
      count_is = q ∙ ap (λ (j : ℕ). total (chain_at t n j)) (add-one b)

      index_is : i ≡ lowest n t (total (file_at n t b))
      index_is = u ∙ ap (lowest n t) count_is

      pub find_double : Volume n t → words.Bytes t → Fits w64 (2 * c)
      find_double v g = omega (arith, count_is, file_few n t b v g find_is, v.few)

      pub find_space : i ≡ 0 → Given (find_tests n t b room) is.NoSpace
      find_space h = inr ((λ g. g find_is), inl (sym index_is ∙ h, refl))

      module _ (h : i ≡ 0 → ⊥) where
        pub find_short : room < 2 * c → Given (find_tests n t b room) is.ListTooShort
        find_short k = inr ((λ g. g find_is), inr ((λ z. h (index_is ∙ z)), inl (omega (arith, k, count_is), refl)))

        pub find_found : Volume n t → words.Bytes t → 2 * c ≤ room → FoundAt n t b room c (i - 1)
        find_found v g k =
            let e₁ : lowest n t (total (file_at n t b)) ≡ suc (i - 1) = sym index_is ∙ next i h in
            record {
              at = record {
                file = find_is;
                within = lowest_within n t (whole_of n t v g) (total (file_at n t b)) (file_some n t b v g find_is) (i - 1) e₁;
                enough = omega (arith, k, count_is);
              };
              count = count_is;
              least = e₁;
            }
          where
            next : (i : ℕ) → (i ≡ 0 → ⊥) → i ≡ suc (i - 1)
            next zero h = absurd (h refl)
            next (suc i) h = omega arith

-- the moves written -------------------------------------------------------------------------------------------------

drop_all : (l : List ℕ) (i : ℕ) → length l ≤ i → drop i l ≡ []
drop_all [] zero h = refl
drop_all [] (suc i) h = refl
drop_all (x ∷ l) zero h = let z : ⊥ = omega arith in absurd z
drop_all (x ∷ l) (suc i) h = drop_all l i (omega arith)

-- i moves are written
pub record Writing (l₀ w : List ℕ) (k m : ℕ) (l : List ℕ) (i : ℕ) : Type 0 where
  pub done : sets l₀ 0 (moves (take k w) m) ≡ sets l (2 * i) (moves (drop i (take k w)) (m + i))
  pub within : i ≤ k
  pub long : length l ≡ length l₀

pub write_begin : (l w : List ℕ) (k m : ℕ) → Writing l w k m l 0
write_begin l w k m =
    let e : m ≡ m + 0 = omega arith in
    record { done = ap (λ (y : ℕ). sets l 0 (moves (take k w) y)) e; within = omega arith; long = refl }

module _ (l₀ w : List ℕ) (k m : ℕ) (l : List ℕ) (i : ℕ) (v : Writing l₀ w k m l i) (fits : k ≤ length w) where
  pub write_next : i < k → Writing l₀ w k m (set (set l (2 * i) (get_or w i 0)) (2 * i + 1) (m + i)) (i + 1)
  write_next h =
      let L : List ℕ = take k w in
      let x : ℕ = get_or w i 0 in
      let a : drop i L ≡ get_or L i 0 ∷ drop (suc i) L = drop-cons L i 0 (omega (arith, h, length-take-le k w fits)) in
      let b : get_or L i 0 ≡ x = get_or-take k w i 0 h in
      let c : suc (2 * i) ≡ 2 * i + 1 = omega arith in
      let d : suc (suc (2 * i)) ≡ 2 * (i + 1) = omega arith in
      let e : suc i ≡ i + 1 = omega arith in
      let f : suc (m + i) ≡ m + (i + 1) = omega arith in
      let l' : List ℕ = set (set l (2 * i) x) (2 * i + 1) (m + i) in
      record {
        done = v.done
            ∙ ap (λ (y : List ℕ). sets l (2 * i) (moves y (m + i))) (a ∙ ap {B = List ℕ} (λ (y : ℕ). y ∷ drop (suc i) L) b)
            ∙ ap (λ (y : ℕ). sets (set (set l (2 * i) x) y (m + i)) (suc (suc (2 * i))) (moves (drop (suc i) L) (suc (m + i)))) c
            ∙ ap (λ (y : ℕ). sets l' y (moves (drop (suc i) L) (suc (m + i)))) d
            ∙ ap (λ (y : ℕ). sets l' (2 * (i + 1)) (moves (drop y L) (suc (m + i)))) e
            ∙ ap (λ (y : ℕ). sets l' (2 * (i + 1)) (moves (drop (i + 1) L) y)) f;
        within = omega (arith, h);
        long = length-set (set l (2 * i) x) (2 * i + 1) (m + i) ∙ length-set l (2 * i) x ∙ v.long;
      }

  pub write_end : k ≤ i → l ≡ sets l₀ 0 (moves (take k w) m)
  write_end h =
      sym (v.done ∙ ap (λ (y : List ℕ). sets l (2 * i) (moves y (m + i))) (drop_all (take k w) i (omega (arith, h, length-take-le k w fits))))

-- the plan of a file ----------------------------------------------------------------------------------------------------

module _ (n : ℕ) (t : Bytes) (b : ℕ) (l : List ℕ) (m : ℕ) (a : FindAt n t b (length l) m) (k : ℕ) (w : List ℕ) (i : BlocksIn n t b k w) where
  pub plan_work : k ≤ length w
  plan_work = omega (arith, i.few, i.long)

  pub plan_room : 2 * k ≤ length l
  plan_room = omega (arith, i.count, a.enough)

  pub plan_low : Volume n t → m + k ≤ 1000000
  plan_low v = omega (arith, a.within, i.count, v.few)

  pub plan_is : (l' : List ℕ) → l' ≡ sets l 0 (moves (take k w) m) → Planned n t b l m l'
  plan_is l' e =
      let F : List ℕ = blocks_of (file_at n t b) in
      let q : 0 + length (moves F m) ≡ 2 * total (file_at n t b) = omega (arith, length_moves F m, length_blocks (file_at n t b)) in
      record {
        is = e
            ∙ ap (λ (y : List ℕ). sets l 0 (moves y m)) i.is
            ∙ sets-eq (moves F m) l 0 (omega (arith, q, a.enough))
            ∙ ap (λ (j : ℕ). moves F m ++ drop j l) q;
      }

module _ (n : ℕ) (t : Bytes) (b : ℕ) (l : List ℕ) where
  pub find_refused : (a : Answer) → Given (find_tests n t b (length l)) a → FindSound n t b l (list_gives a 0 l)
  find_refused a g = test_refused (λ a. list_gives a 0 l) (find_done n t b l) (find_tests n t b (length l)) a g

  module _ (k m : ℕ) (found : FoundAt n t b (length l) k m) where
    pub find_goes : FindAt n t b (length l) m
    find_goes = found.at

    pub find_done_lem : (l' : List ℕ) → Planned n t b l m l' → FindSound n t b l (list_gives is.Done k l')
    find_done_lem l' p =
        let F : List ℕ = blocks_of (file_at n t b) in
        let z : m ≡ lowest n t (total (file_at n t b)) - 1 = omega (arith, found.least) in
        let q : l' ≡ moves F (lowest n t (total (file_at n t b)) - 1) ++ drop (2 * total (file_at n t b)) l =
        p.is ∙ ap (λ (y : ℕ). moves F y ++ drop (2 * total (file_at n t b)) l) z in
        subst⁻¹ (λ (y : List ℕ). FindSound n t b l (list_gives is.Done k y)) q
        (subst⁻¹ (λ (y : ℕ). FindSound n t b l (list_gives is.Done y (moves F (lowest n t (total (file_at n t b)) - 1) ++ drop (2 * total (file_at n t b)) l))) found.count
        (tests_passed (λ a. list_gives a 0 l) (find_done n t b l) (find_tests n t b (length l))
        ((λ g. g found.at.file), ((λ h. omega (arith, h, found.least)), ((λ h. omega (arith, h, found.at.enough)), tt)))))
