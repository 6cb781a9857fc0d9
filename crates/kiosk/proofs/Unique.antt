-- The test's promise and its input leave one answer.
use mathlib.Core.Path.{◌≡◌}
use mathlib.Core.List.{List, ◌++◌}
use Prim.Native.Nat.{ℕ}
use Rattle.order.specs.Gate.{cleared}
use Rattle.order.specs.Beside.{Beside, beside, within}
use Rattle.order.specs.Answer.{Done}
use Rattle.order.proofs.One.{one}
use Rattle.fat_node.specs.Entry.{Bytes}
use Rattle.fat_node.specs.Sizes.{blocks}
use Rattle.tree_sound.specs.Tables.{Tables}
use Rattle.volume_gate.specs.Gate.{places, volume_gate}
use Rattle.audit.specs.Promise.{VolumePromise}
use Rattle.kiosk.specs.Promise.{Profile, profile_gives, profile_rows, TestPromise}

pub one_test : (t : Bytes) (d l : ℕ) (s : Tables) (work : List ℕ) (o o' : Beside Profile) → TestPromise t d l s work o → TestPromise t d l s work o' → o ≡ o'
unfolding VolumePromise
one_test t d l s work o o' p q =
    one (volume_gate (λ a w. beside (profile_gives a 0) w) t d l s work ++ within (cleared (places t s) work) (profile_rows (blocks t) t l s.dir_table s.file_table))
    (beside (profile_gives Done 0) (cleared (places t s) work)) o o' p q
