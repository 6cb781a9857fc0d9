-- The calls that test nothing but the block length.
use mathlib.Core.Path.{◌≡◌, refl}
use mathlib.Core.List.{List, [], ◌∷◌, ◌++◌}
use mathlib.Core.Bool.{Bool, true, false, not}
use borrow.Author.Tests.{not-true, not-false}
use mathlib.Core.Logic.{◌⊎◌, inl, inr}
use Prim.Native.Nat.{ℕ}
use Rattle.order.specs.Tells.{Tells}
use Rattle.order.specs.Answer.{ReadOnlyVolume}
use Rattle.fat_node.specs.Entry.{Bytes}
use Rattle.fat_test.specs.Gate.{InUse}
use Rattle.fat_test.proofs.Change.{not_in_use}
use Rattle.fat_promises.specs.Calls.{Create, create_gives, Change, change_gives}
use Rattle.map_inner.specs.Map.{map_of}
use Rattle.map_inner.specs.Sounds.{CreateMapped, ResizeMapped, DeleteMapped}
use Rattle.fat_map.specs.Inner.Gated.{TestedCreate, TestedResize, TestedDelete}

module _ (n : ℕ) (t : Bytes) (l : ℕ) (r : Bool) (u : Tells (InUse l) r) where
  used : not r ≡ false → (InUse l → ⊥) → ⊥
  used e k = k (u.yes (not-false r e))

  module _ (map : List ℕ) where
    pub create_used : (count : ℕ) (o : Create) → not r ≡ false → CreateMapped n t count o map → TestedCreate n t l count o map
    create_used count o e c = record { sound = inr (used e, c.sound); kept = c.kept }

    pub create_read_only : (count : ℕ) → not r ≡ true → map ≡ map_of n t → TestedCreate n t l count (create_gives ReadOnlyVolume 0 t) map
    create_read_only count e q = record { sound = inl (not_in_use l r u (not-true r e), refl); kept = q }

    pub resize_used : (b count : ℕ) (o : Change) → not r ≡ false → ResizeMapped n t b count o map → TestedResize n t l b count o map
    resize_used b count o e c = record { sound = inr (used e, c.sound); kept = c.kept }

    pub resize_read_only : (b count : ℕ) → not r ≡ true → map ≡ map_of n t → TestedResize n t l b count (change_gives ReadOnlyVolume t) map
    resize_read_only b count e q = record { sound = inl (not_in_use l r u (not-true r e), refl); kept = q }

    pub delete_used : (b : ℕ) (o : Change) → not r ≡ false → DeleteMapped n t b o map → TestedDelete n t l b o map
    delete_used b o e c = record { sound = inr (used e, c.sound); kept = c.kept }

    pub delete_read_only : (b : ℕ) → not r ≡ true → map ≡ map_of n t → TestedDelete n t l b (change_gives ReadOnlyVolume t) map
    delete_read_only b e q = record { sound = inl (not_in_use l r u (not-true r e), refl); kept = q }
