-- The ways out of the call that follows some chains.
use mathlib.Core.Path.{◌≡◌, refl, sym, ap, subst, subst⁻¹, ◌∙◌}
use mathlib.Core.List.{List, [], ◌∷◌, ◌++◌}
use mathlib.Core.Bool.{Bool, true}
use mathlib.Core.Logic.{◌⊎◌, inr}
use Prim.Native.Nat.{ℕ, ◌+◌, ◌*◌, ◌≤◌, ◌<◌}
use native.Mathlib.Omega.{arith}
use lib.ListN.{length, drop, replicate, length-append}
use lib.Seq.{sets, sets-eq}
use Rattle.std.specs.Prelude.{Err}
use Rattle.order.specs.Answer as is
use Rattle.order.specs.Beside.{beside}
use Rattle.order.specs.First.{First}
use Rattle.order.specs.Gate.{cleared}
use Rattle.order.specs.declared.Refusal.{Refusal}
use Rattle.order.proofs.Beside.{passed, refused}
use Rattle.order.proofs.Gate.{gate_given}
use Rattle.fat_node.specs.Entry.{Bytes}
use Rattle.fat_node.specs.Sizes.{blocks, Misfit, Outside}
use Rattle.fat_node.proofs.Cases.{untrue}
use Rattle.fat_table.specs.Chain.{total}
use Rattle.fat_promises.specs.Blocks.{blocks_of}
use Rattle.fat_walk.proofs.Blocks.{length_blocks}
use Rattle.salvage.specs.Follow.{Salvage}
use Rattle.salvage_shared.specs.Calls.{shared_gate}
use Rattle.salvage_shared.specs.Inner.Says.{Fitting, BlocksFor}
use Rattle.salvage_shared.proofs.Outs.{fits, cleared_is}
use Rattle.salvage_chains.specs.Chains.{one, chains_from, chains, many, ends_of, followed}
use Rattle.salvage_chains.specs.Calls.{Chained, chained_gives, chained_rows, chained_done, ChainsPromise}
use Rattle.salvage_chains.specs.Inner.Says.{MayAll, RoomSays, Wrote, ChainedSays}
use Rattle.salvage_chains.proofs.Theorems.{places}

-- ---- lengths

many_length : (cs : List Salvage) → length (followed cs) ≡ many cs
many_length [] = refl
many_length (c ∷ cs) =
    length-append (blocks_of c.runs) (followed cs)
    ∙ ap (λ (k : ℕ). k + length (followed cs)) (length_blocks c.runs)
    ∙ ap (λ (k : ℕ). total c.runs + k) (many_length cs)

three_each : (n : ℕ) (t : Bytes) (firsts : List ℕ) (spent : ℕ) → length (ends_of (chains_from n t firsts spent)) ≡ 3 * length firsts
three_each n t [] spent = refl
three_each n t (b ∷ bs) spent = omega (arith, three_each n t bs (spent + total (one n t b spent).runs))

three : (n : ℕ) (t : Bytes) (firsts : List ℕ) → length (ends_of (chains n t firsts)) ≡ 3 * length firsts
unfolding chains
three n t firsts = three_each n t firsts 0

-- the first places of a list written, and the later ones
written : (vs l : List ℕ) (k : ℕ) → length vs ≡ k → k ≤ length l → sets l 0 vs ≡ vs ++ drop k l
written vs l k e h =
    let q : 0 + length vs ≡ k = omega (arith, e) in
    sets-eq vs l 0 (omega (arith, e, h)) ∙ ap (λ (j : ℕ). vs ++ drop j l) q

-- ---- where the sizes fit

all_clear : (n : ℕ) (w w₀ : List ℕ) → w ≡ replicate (length w₀) 0 → length w₀ ≡ n → w ≡ replicate n 0
all_clear n w w₀ e l = e ∙ ap (λ (m : ℕ). replicate m 0) l

module _ (n : ℕ) (t : Bytes) (firsts : List ℕ) (k : ℕ) where
  pub room_always : (w : List ℕ) → MayAll n t w firsts → 5 * n ≤ k → RoomSays n t firsts k true w
  room_always w a h = record { yes = λ e. omega (arith, h, places n t firsts); no = λ e. untrue (sym e); clear = a.clear }

module _ (n : ℕ) (t : Bytes) (firsts e list : List ℕ) where
  module _ (r : Bool) (w : List ℕ) (s : RoomSays n t firsts (length list) r w) (h : 3 * length firsts ≤ length e) where
    module _ (q : r ≡ true) where
      pub out_done : (count : ℕ) (e' l' w' w₂ : List ℕ) → Wrote n t firsts e list e' l' w₂ count → w' ≡ replicate (length w₂) 0
          → ChainedSays n t firsts e list (chained_gives is.Done count e' l') w'
      out_done count e' l' w' w₂ o c =
          let k : many (chains n t firsts) ≤ length list = s.yes q in
          record {
            given = inr (
              (λ z. omega (arith, z, h)),
              inr (
                (λ z. omega (arith, z, k)),
                ap (λ (m : ℕ). chained_gives is.Done m e' l') o.sum
                    ∙ ap (λ (v : List ℕ). chained_gives is.Done (many (chains n t firsts)) v l')
                    (o.told_is ∙ written (ends_of (chains n t firsts)) e (3 * length firsts) (three n t firsts) h)
                    ∙ ap (λ (v : List ℕ). chained_gives is.Done (many (chains n t firsts)) (ends_of (chains n t firsts) ++ drop (3 * length firsts) e) v)
                    (o.list_is ∙ written (followed (chains n t firsts)) list (many (chains n t firsts)) (many_length (chains n t firsts)) k),
              ),
            );
            clear = all_clear n w' w₂ c o.long;
          }

-- ---- the rows of sizes and work list

module _ (t : Bytes) (work firsts e list : List ℕ) where
  pub size_refused : (why : Refusal) → BlocksFor t (length firsts) (length work) (Err why) → ChainsPromise t work firsts e list (beside (chained_gives (Err why) 0 e list) work)
  size_refused why g =
      refused (shared_gate (λ a w. beside (chained_gives a 0 e list) w) t work firsts) (cleared (blocks t) work) (chained_rows (blocks t) t firsts e list)
      (chained_done (blocks t) t firsts e list) (beside (chained_gives (Err why) 0 e list) work)
      (gate_given (λ a w. beside (chained_gives a 0 e list) w) (blocks t) work (Misfit t) (Outside t ⊎ (1000000 < length firsts)) (length work < blocks t) [] (Err why) work
      (g firsts work refl refl))

  pub size_passed : (n : ℕ) (f : Fitting t (length firsts) (length work) n) (o : Chained) (w : List ℕ) → ChainedSays n t firsts e list o w
      → ChainsPromise t work firsts e list (beside o (w ++ drop n work))
  size_passed n f o w s =
      subst⁻¹ (λ (v : List ℕ). ChainsPromise t work firsts e list (beside o v)) (cleared_is t work firsts n f w s.clear)
      (passed (shared_gate (λ a w. beside (chained_gives a 0 e list) w) t work firsts) (cleared (blocks t) work) (chained_rows (blocks t) t firsts e list)
      (chained_done (blocks t) t firsts e list) o (fits t work firsts n f (λ a w. beside (chained_gives a 0 e list) w))
      (subst (λ (m : ℕ). First (chained_rows m t firsts e list) (chained_done m t firsts e list) o) f.is s.given))
