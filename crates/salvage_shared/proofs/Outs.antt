-- The ways out of the call that tells of some chains.
use mathlib.Core.Path.{◌≡◌, refl, ap, subst, subst⁻¹, ◌∙◌}
use mathlib.Core.List.{List, [], ◌++◌}
use mathlib.Core.Logic.{◌⊎◌, ⊎_elim}
use Prim.Native.Nat.{ℕ, ◌<◌}
use native.Mathlib.Omega.{arith}
use lib.ListN.{length, take, drop, replicate, length-replicate}
use lib.Seq.{length-take-le}
use Rattle.std.specs.Prelude.{Err}
use Rattle.order.specs.Answer.{Answer}
use Rattle.order.specs.Beside.{beside}
use Rattle.order.specs.First.{First}
use Rattle.order.specs.Gate.{cleared}
use Rattle.order.specs.Given.{None}
use Rattle.order.specs.declared.Refusal.{Refusal}
use Rattle.order.proofs.Beside.{passed, refused}
use Rattle.order.proofs.Gate.{gate_given}
use Rattle.fat_node.specs.Entry.{Bytes}
use Rattle.fat_node.specs.Sizes.{blocks, Misfit, Outside}
use Rattle.salvage_shared.specs.Shared.{laid, tells, trusts}
use Rattle.salvage_shared.specs.Calls.{Shared, shared_gives, shared_rows, shared_done, shared_gate, SharedPromise}
use Rattle.salvage_shared.specs.Inner.Says.{Added, TellsAll, Sized, Kinds, MayShare, JudgedAll, Shares, SharedSays, Fitting, BlocksFor}
use Rattle.salvage_shared.proofs.Counted.{added_clear}
use Rattle.salvage_shared.proofs.Loops.{kinds_many, kinds_whole}

-- the work list is clear
all_clear : (n : ℕ) (w w₀ : List ℕ) → w ≡ replicate (length w₀) 0 → length w₀ ≡ n → w ≡ replicate n 0
all_clear n w w₀ e l = e ∙ ap (λ (m : ℕ). replicate m 0) l

clear_long : (n : ℕ) (w : List ℕ) → w ≡ replicate n 0 → length w ≡ n
clear_long n w e = ap length e ∙ length-replicate n 0

-- what was judged, for the passes after it
module _ (n : ℕ) (t : Bytes) (w₀ w₁ w firsts l₀ ks : List ℕ) (a : MayShare n t w₀ firsts l₀) (j : JudgedAll n t firsts ks w₁) (e : w ≡ replicate (length w₁) 0) where
  clear : w ≡ replicate n 0
  clear = all_clear n w w₁ e j.long

  told_of : (w' : List ℕ) → length w' ≡ length w → Kinds n t w' firsts ks
  told_of w' l =
      subst⁻¹ (Kinds n t w' firsts) j.told (record {
        sized = record { room = a.sized.room; small = a.sized.small; long = l ∙ clear_long n w clear };
        many = kinds_many n t firsts 0;
        whole = kinds_whole n t firsts 0;
      })

  pub kinds_clear : Kinds n t w firsts ks
  kinds_clear = told_of w refl

  module _ (w' : List ℕ) (b : Added w w' (laid n t firsts ks)) where
    pub kinds_laid : Kinds n t w' firsts ks
    kinds_laid = told_of w' b.long

    all_told : (list : List ℕ) → TellsAll n t w' firsts ks list → list ≡ trusts n t firsts
    unfolding trusts
    all_told list f =
        f.is (laid n t firsts ks) (added_clear n w w' (laid n t firsts ks) clear b)
        ∙ ap (λ (k : List ℕ). tells n t (laid n t firsts k) firsts k) j.told

    pub shares : (list w'' : List ℕ) → TellsAll n t w' firsts ks list → w'' ≡ replicate (length w') 0 → Shares n t firsts list w''
    shares list w'' f z = record { told = all_told list f; clear = all_clear n w'' w' z (b.long ∙ clear_long n w clear) }

-- ---- the rows of sizes and work list

module _ (t : Bytes) (work firsts : List ℕ) (n : ℕ) (f : Fitting t (length firsts) (length work) n) where
  -- a table whose sizes fit, and the first places of the work list
  pub sized : Sized n t (take n work)
  sized = record { room = f.room; small = f.small; long = length-take-le n work f.enough }

  -- none of the rows applies, whatever a refusal gives
  pub fits : {A : Type 0} (refuse : Answer → List ℕ → A) → None (shared_gate refuse t work firsts)
  fits refuse = (f.fits, (⊎_elim f.inside (λ h. omega (arith, h, f.few)), ((λ h. omega (arith, h, f.is, f.enough)), tt)))

  -- the first places are clear, one a block
  pub cleared_is : (v : List ℕ) → v ≡ replicate n 0 → v ++ drop n work ≡ cleared (blocks t) work
  cleared_is v e = ap (λ (x : List ℕ). x ++ drop n work) e ∙ ap (λ (k : ℕ). cleared k work) f.is

module _ (t : Bytes) (work firsts list : List ℕ) where
  pub size_refused : (why : Refusal) → BlocksFor t (length firsts) (length work) (Err why) → SharedPromise t work firsts list (beside (shared_gives (Err why) list) work)
  size_refused why g =
      refused (shared_gate (λ a w. beside (shared_gives a list) w) t work firsts) (cleared (blocks t) work) (shared_rows firsts list) (shared_done (blocks t) t firsts list)
      (beside (shared_gives (Err why) list) work)
      (gate_given (λ a w. beside (shared_gives a list) w) (blocks t) work (Misfit t) (Outside t ⊎ (1000000 < length firsts)) (length work < blocks t) [] (Err why) work
      (g firsts work refl refl))

  pub size_passed : (n : ℕ) (f : Fitting t (length firsts) (length work) n) (o : Shared) (w : List ℕ) → SharedSays n t firsts list o w
      → SharedPromise t work firsts list (beside o (w ++ drop n work))
  size_passed n f o w s =
      subst⁻¹ (λ (v : List ℕ). SharedPromise t work firsts list (beside o v)) (cleared_is t work firsts n f w s.clear)
      (passed (shared_gate (λ a w. beside (shared_gives a list) w) t work firsts) (cleared (blocks t) work) (shared_rows firsts list) (shared_done (blocks t) t firsts list) o
      (fits t work firsts n f (λ a w. beside (shared_gives a list) w)) (subst (λ (m : ℕ). First (shared_rows firsts list) (shared_done m t firsts list) o) f.is s.given))
