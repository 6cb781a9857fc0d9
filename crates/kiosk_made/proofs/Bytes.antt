-- The bytes of an entry that no write is about stay as they were.
use mathlib.Core.Path.{◌≡◌, refl, sym, ap, ◌∙◌}
use mathlib.Core.List.{List, [], ◌∷◌}
use mathlib.Core.Logic.{◌≢◌, ◌⊎◌, ⊎_elim}
use Prim.Native.Nat.{ℕ, zero, suc, ◌+◌, ◌-◌, ◌*◌, ◌/◌, ◌≤◌, ◌<◌}
use native.Mathlib.Omega.{arith}
use native.Mathlib.Nat.{suc-mul, mul-le-mul_right}
use lib.ListN.{length, get_or, take, drop}
use Rattle.words.specs.Word.{word, put_word}
use Rattle.words.proofs.Laws.{get_d_put_word_other}
use Rattle.tree_table.specs.Field.{start, field, Write, wrote}
use Rattle.tree_table.proofs.Field.{Has, less_or, length_wrote}
use Rattle.fat_apply.proofs.Bytes.{part_same}
use Rattle.audit_inner.specs.Volume.{record_block, record_size}
use Rattle.kiosk_inner.specs.Profile.{name_of}

-- no write is about entry z, and each lies within its entry
abbrev pub Beside : (w z : ℕ) → List Write → Type 0
Beside w z [] = Unit {0}
Beside w z (a ∷ ws) = ((a.entry ≢ z) × Has w a.field) × Beside w z ws

within : (w f : ℕ) → Has w f → start w f + 4 ≤ w
within w zero h = omega (arith, h)
within w (suc f) h = omega (arith, h)

pub byte_stays : (w : ℕ) (ws : List Write) (b : List ℕ) (z : ℕ) → Beside w z ws → (j : ℕ) → j < w → get_or (wrote w b ws) (z * w + j) 0 ≡ get_or b (z * w + j) 0
byte_stays w [] b z o j h = refl
byte_stays w (a ∷ ws) b z o j h =
    byte_stays w ws (put_word b (a.entry * w + start w a.field) a.value) z o.1 j h
    ∙ get_d_put_word_other b (a.entry * w + start w a.field) a.value (z * w + j) (λ p q. apart p q)
  where
    apart : a.entry * w + start w a.field ≤ z * w + j → z * w + j < a.entry * w + start w a.field + 4 → ⊥
    apart p q =
        ⊎_elim
        (λ (k : a.entry < z).
        let m : suc a.entry * w ≤ z * w = mul-le-mul_right w k in
        omega (arith, m, suc-mul a.entry w, within w a.field o.0.1, q))
        (λ (k : z < a.entry). let m : suc z * w ≤ a.entry * w = mul-le-mul_right w k in omega (arith, m, suc-mul z w, p, h))
        (less_or a.entry z o.0.0)

-- what is read of a file's entry that stayed
module _ (f f' : List ℕ) (z : ℕ) (long : length f' ≡ length f) (inside : z * 48 + 48 ≤ length f) (same : (j : ℕ) → j < 48 → get_or f' (z * 48 + j) 0 ≡ get_or f (z * 48 + j) 0) where
  place_same : (i : ℕ) → z * 48 ≤ i → i < z * 48 + 48 → get_or f' i 0 ≡ get_or f i 0
  place_same i p q =
      let e : z * 48 + (i - z * 48) ≡ i = omega (arith, p) in
      ap (λ (k : ℕ). get_or f' k 0) (sym e) ∙ same (i - z * 48) (omega (arith, p, q)) ∙ ap (λ (k : ℕ). get_or f k 0) e

  word_same : (k : ℕ) → k + 4 ≤ 48 → word f' (z * 48 + k) ≡ word f (z * 48 + k)
  unfolding word
  word_same k h =
      let a = place_same (z * 48 + k) (omega arith) (omega (arith, h)) in
      let b = place_same (z * 48 + k + 1) (omega arith) (omega (arith, h)) in
      let c = place_same (z * 48 + k + 2) (omega arith) (omega (arith, h)) in
      let d = place_same (z * 48 + k + 3) (omega arith) (omega (arith, h)) in
      λ i. a i + b i * 256 + c i * 65536 + d i * 16777216

  pub block_same : record_block f' z ≡ record_block f z
  unfolding record_block field
  block_same = word_same 28 (omega arith)

  pub size_same : record_size f' z ≡ record_size f z
  unfolding record_size field
  size_same =
      let a = word_same 32 (omega arith) in
      let b = word_same 36 (omega arith) in
      λ i. a i + 4294967296 * b i

  pub name_same : name_of f' z ≡ name_of f z
  unfolding name_of
  name_same = part_same f f' (z * 48 + 4) 16 (omega (arith, inside)) long (λ j p q. place_same j (omega (arith, p)) (omega (arith, q)))
