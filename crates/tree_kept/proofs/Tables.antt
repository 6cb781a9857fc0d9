-- Writes to the tables' bytes, as their views see them.
use mathlib.Core.Path.{◌≡◌, refl, ap, ◌∙◌}
use mathlib.Core.List.{List, [], ◌∷◌}
use mathlib.Core.Logic.{◌≢◌}
use mathlib.Core.Bool.{Bool, true, false, ◌&&◌}
use Prim.Native.Nat.{ℕ, ◌+◌, ◌*◌, ◌/◌, ◌^◌, ◌≤◌, ◌<◌}
use native.Mathlib.Omega.{arith}
use lib.Dec.{eqb}
use borrow.Author.Tests.{ne_eqb, eq-eqb}
use lib.ListN.{length}
use Rattle.words.proofs.Laws.{Bytes, word_lt, bytes_put_word}
use Rattle.links.specs.Change.{pick, upd}
use Rattle.tree_table.specs.Field.{field, Write, write, wrote}
use Rattle.tree_table.specs.View.{hash_at, dir_view}
use Rattle.tree_table.proofs.Field.{Has, Fit, put_at, reads, field_wrote, length_wrote}
use Rattle.tree_table.proofs.Agree.{Agree, table_alike}
use Rattle.tree_table.specs.Steps.{head_writes}

pub field_lt : (w : ℕ) (t : List ℕ) (x f : ℕ) → Bytes t → field w t x f < 2 ^ 32
unfolding field
field_lt w t x f B = word_lt t B _

pub after : (w : ℕ) (t : List ℕ) (ws : List Write) → Fit w (length t) ws → (y g : ℕ) → Has w g → field w (wrote w t ws) y g ≡ reads ws (field w t) y g
after w t ws F y g h = field_wrote w ws t (field w t) F (λ y g h. refl) y g h

-- one write to another field
pub put_other : (x f v : ℕ) (m : ℕ → ℕ → ℕ) (y g : ℕ) → g ≢ f → put_at (write x f v) m y g ≡ m y g
put_other x f v m y g n = ap (λ t. pick (t && eqb y x) v (m y g)) (ne_eqb g f n)

-- a write past field 7 of a directory is not seen in the directories
pub dirs_past : (dh d : List ℕ) (p f v : ℕ) → 7 < f → Has 40 f → p * 40 + 40 ≤ length d → v < 2 ^ 32 → Agree (dir_view dh d) (dir_view dh (wrote 40 d (write p f v ∷ [])))
dirs_past dh d p f v h7 hf hp hv =
    table_alike (length dh / 4) (length d / 40) 1 (length dh / 4) (length (wrote 40 d (write p f v ∷ [])) / 40) (field 40 d) (field 40 (wrote 40 d (write p f v ∷ [])))
    (hash_at dh) (hash_at dh) (λ y. field 40 d y 7) (λ y. field 40 (wrote 40 d (write p f v ∷ [])) y 7)
    refl (ap (λ n. n / 40) (length_wrote 40 (write p f v ∷ []) d))
    (λ y g h. after 40 d (write p f v ∷ []) ((hp, hf, hv), tt) y g (omega arith) ∙ put_other p f v (field 40 d) y g (omega arith))
    (λ b. refl)
    (λ y. after 40 d (write p f v ∷ []) ((hp, hf, hv), tt) y 7 (omega arith) ∙ put_other p f v (field 40 d) y 7 (omega arith))

-- one write to a list's head, or none
pub heads_after : (w : ℕ) (t : List ℕ) (b : Bool) (e f v : ℕ) → e * w + w ≤ length t → Has w f → v < 2 ^ 32 → (y : ℕ)
    → field w (wrote w t (head_writes b e f v)) y f ≡ pick b (upd (λ z. field w t z f) e v) (λ z. field w t z f) y
heads_after w t true e f v he hf hv y =
    after w t (write e f v ∷ []) ((he, hf, hv), tt) y f hf ∙ ap (λ c. pick (c && eqb y e) v (field w t y f)) (eq_same f)
  where
    eq_same : (f : ℕ) → eqb f f ≡ true
    eq_same f = eq-eqb f f refl
heads_after w t false e f v he hf hv y = refl

pub bytes_wrote : (w : ℕ) (ws : List Write) (t : List ℕ) → Bytes t → Bytes (wrote w t ws)
bytes_wrote w [] t B = B
bytes_wrote w (a ∷ ws) t B = bytes_wrote w ws _ (bytes_put_word t _ a.value B)
