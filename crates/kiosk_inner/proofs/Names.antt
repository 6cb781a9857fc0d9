-- A name, byte by byte.
use mathlib.Core.Path.{◌≡◌, refl, sym, ap, ◌∙◌}
use mathlib.Core.List.{List, [], ◌∷◌}
use mathlib.Core.Bool.{Bool, true, false, cond, not, ◌&&◌, ◌||◌}
use mathlib.Core.Logic.{◌⊎◌, inl, inr, ⊎_elim}
use Prim.Native.Nat.{ℕ, zero, suc, ◌+◌, ◌-◌, ◌*◌, ◌≤◌, ◌<◌}
use native.Mathlib.Omega.{arith}
use native.Mathlib.Numerals.{add-one}
use lib.Dec.{eqb, leb}
use lib.ListN.{length, take, drop, length-drop}
use lib.Seq.{take-length}
use borrow.Author.Tests.{le-leb, lt-leb, eq-eqb, ne_eqb, not-true, not-false}
use Rattle.fat_node.specs.Entry.{Bytes}
use Rattle.kiosk_inner.specs.Profile.{character, leading, zeros, simple, name_of}
use Rattle.kiosk_inner.specs.Inner.Judge.{OddAt}

-- ---- the whole name

-- the bytes behind the characters, as they are looked at
pub simple_some : (name : List ℕ) (k : ℕ) → k ≡ leading name → (k ≡ 0 → ⊥) → (r : Bool)
    → r ≡ zeros (take (length name - k) (drop k name)) → r ≡ simple name
unfolding simple
simple_some name k e z r q =
    q ∙ ap zeros (ap (λ (j : ℕ). take j (drop k name)) (sym (length-drop k name)) ∙ take-length (drop k name)) ∙ ap (λ (k : ℕ). zeros (drop k name)) e
    ∙ sym (ap (λ (t : Bool). t && zeros (drop (leading name) name)) (le-leb 1 (leading name) (omega (arith, e, z))))

-- ---- the name of an inode

clash : {A : Type 0} → true ≡ false → A
clash e = let z : ◌≡◌ {A = ℕ} 0 1 = cc in let z' : ⊥ = omega (arith, z) in absurd z'

pub odd_dead : (f : Bytes) (y m : ℕ) → (m ≡ 0 → ⊥) → OddAt f y m (eqb m 0)
odd_dead f y m h = record { yes = λ x. clash (sym x ∙ ne_eqb m 0 h); no = λ x z. absurd (h z) }

-- j is the inode as an index
pub odd_name : (f : Bytes) (y m : ℕ) → m ≡ 0 → (j : ℕ) → j ≡ y → (r : Bool) → r ≡ simple (take (j * 48 + 4 + 16 - (j * 48 + 4)) (drop (j * 48 + 4) f)) → OddAt f y m (not r)
unfolding name_of
odd_name f y m z j i r e =
    let a : j * 48 + 4 + 16 - (j * 48 + 4) ≡ 16 = omega arith in
    let q : r ≡ simple (take 16 (drop (y * 48 + 4) f)) =
    e ∙ ap (λ (k : ℕ). simple (take k (drop (j * 48 + 4) f))) a ∙ ap (λ (k : ℕ). simple (take 16 (drop (k * 48 + 4) f))) i in
    record { yes = λ x. (z, sym q ∙ not-true r x); no = λ x k. sym q ∙ not-false r x }
