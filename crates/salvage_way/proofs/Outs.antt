-- The ways out of the call that goes up.
use mathlib.Core.Path.{refl, subst⁻¹}
use mathlib.Core.List.{List, [], ◌++◌}
use Prim.Native.Nat.{ℕ, ◌/◌, ◌<◌}
use native.Mathlib.Omega.{arith}
use lib.ListN.{length, take, drop}
use Rattle.std.specs.Prelude.{Err}
use Rattle.order.specs.Beside.{beside}
use Rattle.order.specs.Gate.{cleared}
use Rattle.order.specs.declared.Refusal.{Refusal}
use Rattle.order.proofs.Beside.{passed, refused}
use Rattle.order.proofs.Gate.{gate_given}
use Rattle.tree_sound.specs.Sizes.{Beyond}
use Rattle.salvage_tree.specs.Calls.{Entered, entered_gives, entered_gate}
use Rattle.salvage_tree.specs.Inner.Says.{Roomy, RoomFor}
use Rattle.salvage_tree.proofs.Outs.{fits, clear_is}
use Rattle.salvage_way.specs.Calls.{way_rows, way_done, WayPromise}
use Rattle.salvage_way.specs.Inner.Says.{WaySays}

-- ---- the rows of sizes and work list

module _ (t work : List ℕ) (x : ℕ) (list : List ℕ) where
  pub size_refused : (why : Refusal) → RoomFor 40 t (length work) (Err why) → WayPromise t work x list (beside (entered_gives (Err why) 0 list) work)
  size_refused why g =
      refused (entered_gate (λ a v. beside (entered_gives a 0 list) v) 40 t work) (cleared (length t / 40) work) (way_rows t x list) (way_done t x list)
      (beside (entered_gives (Err why) 0 list) work)
      (gate_given (λ a v. beside (entered_gives a 0 list) v) (length t / 40) work (length t < 40) (Beyond (length t / 40)) (length work < length t / 40) [] (Err why) work
      (g work refl))

  pub size_passed : (r : ℕ) → Roomy 40 t (length work) r → (o : Entered) (v : List ℕ) → WaySays t x list o (length (take r work)) v
      → WayPromise t work x list (beside o (v ++ drop r work))
  size_passed r f o v s =
      subst⁻¹ (λ (y : List ℕ). WayPromise t work x list (beside o y)) (clear_is 40 t work r f v s.clear)
      (passed (entered_gate (λ a y. beside (entered_gives a 0 list) y) 40 t work) (cleared (length t / 40) work) (way_rows t x list) (way_done t x list) o
      (fits 40 t work r f (λ a y. beside (entered_gives a 0 list) y) (omega arith)) s.given)
