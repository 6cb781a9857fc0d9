-- What the code of the steps has done, place by place.
use mathlib.Core.Path.{◌≡◌, refl, sym, ap, ap₂, ◌∙◌, subst}
use mathlib.Core.List.{List, [], ◌∷◌, ◌++◌}
use mathlib.Core.Bool.{true, false}
use Prim.Native.Nat.{ℕ, zero, suc, ◌+◌, ◌-◌, ◌*◌, ◌/◌, ◌≤◌, ◌<◌}
use native.Mathlib.Omega.{arith}
use native.Mathlib.Nat.{mul-le-mul_right}
use native.Mathlib.Numerals.{add-one}
use lib.Dec.{eqb}
use borrow.Author.Tests.{eq-eqb, ne_eqb}
use lib.ListN.{length}
use Rattle.words.specs.Word.{word, put_word}
use Rattle.words.proofs.Laws.{length_put_word, word_put_word_other}
use Rattle.links.specs.Change.{pick}
use Rattle.tree_table.specs.Field.{field, Write, write, wrote, start}
use Rattle.tree_table.specs.Steps.{take_writes, copy_writes, give_writes}

pub wrote_append : (w : ℕ) (ws vs : List Write) (t : List ℕ) → wrote w t (ws ++ vs) ≡ wrote w (wrote w t ws) vs
wrote_append w [] vs t = refl
wrote_append w (a ∷ ws) vs t = wrote_append w ws vs (put_word t (a.entry * w + start w a.field) a.value)

-- a hash word stands at the bucket's number times 4
pub hash_at : (h : List ℕ) (b : ℕ) → word h (b * 4) ≡ field 4 h b 0
unfolding field
hash_at h b = let e : b * 4 ≡ b * 4 + 0 = omega arith in ap (word h) e

pub hash_put : (h : List ℕ) (b x : ℕ) → put_word h (b * 4) x ≡ wrote 4 h (write b 0 x ∷ [])
hash_put h b x = let e : b * 4 ≡ b * 4 + 0 = omega arith in ap (λ z. put_word h z x) e

abbrev pub Took : ℕ → List ℕ → List ℕ → ℕ → Type 0
Took w t t' r =
    (r ≡ pick (eqb (field w t 0 0) 0) (field w t 0 1) (field w t 0 0)) × (t' ≡ wrote w t (take_writes (eqb (field w t 0 0) 0) (field w t)))

pub took_new : (w : ℕ) (t t' : List ℕ) (first n : ℕ) → first ≡ word t (0 * w + (w - 4)) → first ≡ 0 → n ≡ word t (0 * w + 0) → t' ≡ put_word t (0 * w + 0) (n + 1) → Took w t t' n
unfolding field
took_new w t t' first n ef z en et =
    let q : eqb (field w t 0 0) 0 ≡ true = eq-eqb (field w t 0 0) 0 (sym ef ∙ z) in (
      en ∙ ap (λ b. pick b (field w t 0 1) (field w t 0 0)) (sym q),
      et ∙ ap (λ m. put_word t (0 * w + 0) (m + 1)) en ∙ ap (λ b. wrote w t (take_writes b (field w t))) (sym q),
    )

pub took_removed : (w : ℕ) (t t' : List ℕ) (first n : ℕ) → first ≡ word t (0 * w + (w - 4)) → (first ≡ 0 → ⊥) → n ≡ word t (first * w + (w - 4)) → t' ≡ put_word t (0 * w + (w - 4)) n → Took w t t' first
unfolding field
took_removed w t t' first n ef z en et =
    let q : eqb (field w t 0 0) 0 ≡ false = ne_eqb (field w t 0 0) 0 (λ e. z (ef ∙ e)) in (
      ef ∙ ap (λ b. pick b (field w t 0 1) (field w t 0 0)) (sym q),
      et ∙ ap (put_word t (0 * w + (w - 4))) (en ∙ ap (λ j. word t (j * w + (w - 4))) ef) ∙ ap (λ b. wrote w t (take_writes b (field w t))) (sym q),
    )

-- what is named by entry 0's fields
pub field_0 : (w : ℕ) (t : List ℕ) (x f : ℕ) → field w t x f ≡ word t (x * w + start w f)
unfolding field
field_0 w t x f = refl

-- ---- entry 0 copied over entry x, i fields of n

pub record Copying (w : ℕ) (t : List ℕ) (x n : ℕ) (cur : List ℕ) (i : ℕ) : Type 0 where
  pub left : ℕ
  pub sum : i + left ≡ n
  pub same : length cur ≡ length t
  pub front : (a : ℕ) → a + 4 ≤ w → word cur (0 * w + a) ≡ word t (0 * w + a)
  pub todo : wrote w cur (copy_writes left (suc i) (field w t) x) ≡ wrote w t (copy_writes n 1 (field w t) x)

pub copy_begin : (w : ℕ) (t : List ℕ) (x n : ℕ) → Copying w t x n t 0
copy_begin w t x n = record { left = n; sum = omega arith; same = refl; front = λ a h. refl; todo = refl }

module _ (w : ℕ) (t : List ℕ) (x n : ℕ) (cur : List ℕ) (i : ℕ) (hx : 0 < x) (hn : n ≡ w / 4 - 1) (hi : i < n) where
  copy_on : (k : ℕ) → i + k ≡ n → length cur ≡ length t → ((a : ℕ) → a + 4 ≤ w → word cur (0 * w + a) ≡ word t (0 * w + a))
      → wrote w cur (copy_writes k (suc i) (field w t) x) ≡ wrote w t (copy_writes n 1 (field w t) x)
      → (v : ℕ) → v ≡ word cur (0 * w + 4 * i) → Copying w t x n (put_word cur (x * w + 4 * i) v) (i + 1)
  unfolding field
  copy_on zero s e f d v ev = absurd (omega arith)
  copy_on (suc k) s e f d v ev =
      record {
        left = k;
        sum = omega arith;
        same = length_put_word cur (x * w + 4 * i) v ∙ e;
        front = λ a h.
            let m : 1 * w ≤ x * w = mul-le-mul_right w hx in
            word_put_word_other cur (x * w + 4 * i) v (0 * w + a) (λ p q. omega arith) ∙ f a h;
        todo =
            ap (λ z. wrote w (put_word cur (x * w + 4 * i) v) (copy_writes k (suc z) (field w t) x)) (add-one i)
            ∙ ap (λ z. wrote w (put_word cur (x * w + 4 * i) z) (copy_writes k (suc (suc i)) (field w t) x)) (ev ∙ f (4 * i) (omega arith))
            ∙ d;
      }

  pub copy_step : {cur' : List ℕ} {v : ℕ} → Copying w t x n cur i → v ≡ word cur (0 * w + 4 * i) → cur' ≡ put_word cur (x * w + 4 * i) v → Copying w t x n cur' (i + 1)
  copy_step {cur'} {v} C ev ec =
      subst (λ z. Copying w t x n z (i + 1)) (sym ec) (copy_on C.left C.sum C.same C.front C.todo v ev)

copied_all : (w : ℕ) (t : List ℕ) (x n : ℕ) (cur : List ℕ) (i k : ℕ) → i + k ≡ n → n ≤ i → wrote w cur (copy_writes k (suc i) (field w t) x) ≡ wrote w t (copy_writes n 1 (field w t) x)
    → cur ≡ wrote w t (copy_writes n 1 (field w t) x)
copied_all w t x n cur i zero s h d = d
copied_all w t x n cur i (suc k) s h d = absurd (omega arith)

pub copy_end : {w : ℕ} {t : List ℕ} {x n : ℕ} {cur : List ℕ} {i : ℕ} → Copying w t x n cur i → n ≤ i → cur ≡ wrote w t (copy_writes n 1 (field w t) x)
copy_end {w} {t} {x} {n} {cur} {i} C h = copied_all w t x n cur i C.left C.sum h C.todo

pub gave : (w : ℕ) (t t1 t2 t3 : List ℕ) (x first : ℕ) → first ≡ word t (0 * w + (w - 4)) → t1 ≡ wrote w t (copy_writes (w / 4 - 1) 1 (field w t) x)
    → t2 ≡ put_word t1 (x * w + (w - 4)) first → t3 ≡ put_word t2 (0 * w + (w - 4)) x → t3 ≡ wrote w t (give_writes w (field w t) x)
unfolding field
gave w t t1 t2 t3 x first ef e1 e2 e3 =
    e3
    ∙ ap (λ z. put_word z (0 * w + (w - 4)) x) (e2 ∙ ap₂ (λ a b. put_word a (x * w + (w - 4)) b) e1 ef)
    ∙ sym (wrote_append w (copy_writes (w / 4 - 1) 1 (field w t) x) (write x 0 (field w t 0 0) ∷ write 0 0 x ∷ []) t)

-- the five words of a key, one after the other
pub five_puts : (t : List ℕ) (w x k0 k1 k2 k3 k4 : ℕ) {t1 t2 t3 t4 t5 : List ℕ} → t1 ≡ put_word t (x * w + 0) k0 → t2 ≡ put_word t1 (x * w + 4) k1 → t3 ≡ put_word t2 (x * w + 8) k2
    → t4 ≡ put_word t3 (x * w + 12) k3 → t5 ≡ put_word t4 (x * w + 16) k4
    → t5 ≡ wrote w t (write x 1 k0 ∷ write x 2 k1 ∷ write x 3 k2 ∷ write x 4 k3 ∷ write x 5 k4 ∷ [])
five_puts t w x k0 k1 k2 k3 k4 e1 e2 e3 e4 e5 =
    e5
    ∙ ap (λ z. put_word z (x * w + 16) k4)
    (e4 ∙ ap (λ z. put_word z (x * w + 12) k3) (e3 ∙ ap (λ z. put_word z (x * w + 8) k2) (e2 ∙ ap (λ z. put_word z (x * w + 4) k1) e1)))
