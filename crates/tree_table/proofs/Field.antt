-- What stands in the fields after writes to them.
use mathlib.Core.Path.{◌≡◌, refl, sym, ap, ap₂, ◌∙◌, subst}
use mathlib.Core.List.{List, [], ◌∷◌}
use mathlib.Core.Logic.{◌⊎◌, inl, inr, ⊎_elim, ◌≢◌}
use mathlib.Core.Bool.{◌&&◌}
use Prim.Native.Nat.{ℕ, zero, suc, ◌+◌, ◌*◌, ◌^◌, ◌≤◌, ◌<◌}
use native.Mathlib.Omega.{arith}
use native.Mathlib.Nat.{mul-le-mul_right, suc-mul}
use native.Mathlib.Decide.{dec_lt}
use lib.Dec.{eqb}
use lib.ListN.{length}
use Rattle.words.specs.Word.{word, put_word}
use Rattle.words.proofs.Laws.{length_put_word, word_put_word, word_put_word_other}
use Rattle.links.specs.Change.{pick}
use Rattle.links.proofs.Laws.{by_eq}
use Rattle.links.proofs.Held.{same_or}
use Rattle.tree_table.specs.Field.{start, field, Write, wrote}

pub less_or : (a b : ℕ) → a ≢ b → (a < b) ⊎ (b < a)
less_or a b n = go (dec_lt a b)
  where
    go : Dec (a < b) → (a < b) ⊎ (b < a)
    go (yes h) = inl h
    go (no h) = inr (omega arith)

word_far : (b : List ℕ) (i v j : ℕ) → (j + 4 ≤ i) ⊎ (i + 4 ≤ j) → word (put_word b i v) j ≡ word b j
word_far b i v j h =
    word_put_word_other b i v j (λ p q. ⊎_elim (λ (l : j + 4 ≤ i). omega arith) (λ (l : i + 4 ≤ j). omega arith) h)

-- an entry of w bytes has a word f
abbrev pub Has : ℕ → ℕ → Type 0
Has w f = 4 * f + 4 ≤ w

abbrev pub put_at : Write → (ℕ → ℕ → ℕ) → ℕ → ℕ → ℕ
put_at a m y g = pick (eqb g a.field && eqb y a.entry) a.value (m y g)

-- what is read after some writes
abbrev pub reads : List Write → (ℕ → ℕ → ℕ) → ℕ → ℕ → ℕ
reads [] m = m
reads (a ∷ ws) m = reads ws (put_at a m)

-- each write lies in the table, within its entry
abbrev pub Fit : ℕ → ℕ → List Write → Type 0
Fit w n [] = Unit {0}
Fit w n (a ∷ ws) = ((a.entry * w + w ≤ n) × Has w a.field × (a.value < 2 ^ 32)) × Fit w n ws

start_in : (w f : ℕ) → Has w f → start w f + 4 ≤ w
start_in w zero h = omega arith
start_in w (suc f) h = omega arith

start_apart : (w f g : ℕ) → Has w f → Has w g → f ≢ g → (start w g + 4 ≤ start w f) ⊎ (start w f + 4 ≤ start w g)
start_apart w zero zero hf hg n = absurd (n refl)
start_apart w zero (suc g) hf hg n = inl (omega arith)
start_apart w (suc f) zero hf hg n = inr (omega arith)
start_apart w (suc f) (suc g) hf hg n =
    ⊎_elim (λ (h : f < g). inr (omega arith)) (λ (h : g < f). inl (omega arith)) (less_or f g (λ (e : f ≡ g). n (ap suc e)))

apart : (w x y s t : ℕ) → x < y → s + 4 ≤ w → x * w + s + 4 ≤ y * w + t
apart w x y s t h k = let m : suc x * w ≤ y * w = mul-le-mul_right w h in omega (arith, suc-mul x w)

pub field_put : (w : ℕ) (b : List ℕ) (x f v : ℕ) → x * w + w ≤ length b → Has w f → v < 2 ^ 32 → (y g : ℕ) → Has w g
    → field w (put_word b (x * w + start w f) v) y g ≡ pick (eqb g f && eqb y x) v (field w b y g)
unfolding field
field_put w b x f v hb hf hv y g hg =
    by_eq g f (λ t. word (put_word b (x * w + start w f) v) (y * w + start w g) ≡ pick (t && eqb y x) v (word b (y * w + start w g)))
    (λ (e : g ≡ f).
    by_eq y x (λ t. word (put_word b (x * w + start w f) v) (y * w + start w g) ≡ pick t v (word b (y * w + start w g)))
    (λ (q : y ≡ x).
    ap₂ (λ z h. word (put_word b (x * w + start w f) v) (z * w + start w h)) q e
    ∙ word_put_word b (x * w + start w f) v (let s = start_in w f hf in omega arith) hv)
    (λ (n : y ≢ x). word_far b (x * w + start w f) v (y * w + start w g) (elsewhere n)))
    (λ (n : g ≢ f). word_far b (x * w + start w f) v (y * w + start w g)
    (⊎_elim (λ (q : y ≡ x). within q n) (λ (m : y ≢ x). elsewhere m) (same_or y x)))
  where
    elsewhere : y ≢ x → (y * w + start w g + 4 ≤ x * w + start w f) ⊎ (x * w + start w f + 4 ≤ y * w + start w g)
    elsewhere n =
        ⊎_elim (λ (h : y < x). inl (apart w y x (start w g) (start w f) h (start_in w g hg))) (λ (h : x < y). inr (apart w x y (start w f) (start w g) h (start_in w f hf))) (less_or y x n)

    within : y ≡ x → g ≢ f → (y * w + start w g + 4 ≤ x * w + start w f) ⊎ (x * w + start w f + 4 ≤ y * w + start w g)
    within q n =
        ⊎_elim (λ (h : start w g + 4 ≤ start w f). inl (omega (arith, ap (λ z. z * w) q))) (λ (h : start w f + 4 ≤ start w g). inr (omega (arith, ap (λ z. z * w) q)))
        (start_apart w f g hf hg (λ (e : f ≡ g). n (sym e)))

pub length_wrote : (w : ℕ) (ws : List Write) (b : List ℕ) → length (wrote w b ws) ≡ length b
length_wrote w [] b = refl
length_wrote w (a ∷ ws) b = length_wrote w ws (put_word b (a.entry * w + start w a.field) a.value) ∙ length_put_word b (a.entry * w + start w a.field) a.value

-- after any writes
pub field_wrote : (w : ℕ) (ws : List Write) (b : List ℕ) (m : ℕ → ℕ → ℕ) → Fit w (length b) ws
    → ((y g : ℕ) → Has w g → field w b y g ≡ m y g) → (y g : ℕ) → Has w g → field w (wrote w b ws) y g ≡ reads ws m y g
field_wrote w [] b m f e y g hg = e y g hg
field_wrote w (a ∷ ws) b m f e y g hg =
    field_wrote w ws (put_word b (a.entry * w + start w a.field) a.value) (put_at a m)
    (subst (λ n. Fit w n ws) (sym (length_put_word b (a.entry * w + start w a.field) a.value)) f.1)
    (λ y g hg.
    field_put w b a.entry a.field a.value f.0.0 f.0.1 f.0.2 y g hg
    ∙ ap (pick (eqb g a.field && eqb y a.entry) a.value) (e y g hg))
    y g hg
