-- Bytes written to a table at once, and word by word.
use mathlib.Core.Path.{◌≡◌, sym, ap, ap₂, ◌∙◌}
use mathlib.Core.List.{List, [], ◌∷◌, ◌++◌, append_assoc}
use Prim.Native.Nat.{ℕ, suc, ◌+◌, ◌*◌, ◌/◌, ◌%◌, ◌≤◌, ◌<◌}
use native.Mathlib.Omega.{arith}
use lib.ListN.{length, get_or, set, take, drop, length-append, take-append-drop}
use lib.Seq.{drop-cons, take_all, take-suc, length-take-le, set-append_seam}
use Rattle.words.specs.Word.{AreBytes, word, put_word}

module _ (t b : List ℕ) (a : ℕ) where
  -- the first k bytes of b, in t from place a on
  abbrev copied : ℕ → List ℕ
  copied k = take a t ++ (take k b ++ drop (a + k) t)

  -- one byte more
  byte_more : (k : ℕ) → k < length b → a + k < length t → set (copied k) (a + k) (get_or b k 0) ≡ copied (suc k)
  byte_more k h l =
      let front : List ℕ = take a t ++ take k b in
      let n : length front ≡ a + k = omega (arith, length-append (take a t) (take k b), length-take-le a t (omega arith), length-take-le k b (omega arith)) in
      let was : copied k ≡ front ++ (get_or t (a + k) 0 ∷ drop (suc (a + k)) t) =
      ap (λ z. take a t ++ (take k b ++ z)) (drop-cons t (a + k) 0 l) ∙ sym (append_assoc (take a t) (take k b) _) in
      let s : suc (a + k) ≡ a + suc k = omega arith in
      ap (λ z. set z (a + k) (get_or b k 0)) was
      ∙ ap (λ z. set (front ++ (get_or t (a + k) 0 ∷ drop (suc (a + k)) t)) z (get_or b k 0)) (sym n)
      ∙ set-append_seam front (get_or t (a + k) 0) (drop (suc (a + k)) t) (get_or b k 0)
      ∙ append_assoc (take a t) (take k b) _
      ∙ ap (λ z. take a t ++ z) (sym (append_assoc (take k b) (get_or b k 0 ∷ []) _))
      ∙ ap (λ z. take a t ++ (z ++ drop (suc (a + k)) t)) (sym (take-suc b k 0 h))
      ∙ ap (λ z. take a t ++ (take (suc k) b ++ drop z t)) s

  byte_at : (k p v : ℕ) → p ≡ a + k → v ≡ get_or b k 0 → k < length b → a + k < length t → set (copied k) p v ≡ copied (suc k)
  byte_at k p v ep ev h l = ap₂ (λ y z. set (copied k) y z) ep ev ∙ byte_more k h l

  -- four bytes more, as a word
  word_more : AreBytes b → (k p : ℕ) → p ≡ a + k → k + 4 ≤ length b → a + k + 4 ≤ length t → put_word (copied k) p (word b k) ≡ copied (suc (suc (suc (suc k))))
  unfolding word put_word
  word_more bytes k p e h l =
      let w : ℕ = get_or b k 0 + get_or b (k + 1) 0 * 256 + get_or b (k + 2) 0 * 65536 + get_or b (k + 3) 0 * 16777216 in
      let b0 = bytes k in
      let b1 = bytes (k + 1) in
      let b2 = bytes (k + 2) in
      let b3 = bytes (k + 3) in
      let d0 : w % 256 ≡ get_or b k 0 = omega arith in
      let d1 : w / 256 % 256 ≡ get_or b (k + 1) 0 = omega arith in
      let d2 : w / 65536 % 256 ≡ get_or b (k + 2) 0 = omega arith in
      let d3 : w / 16777216 % 256 ≡ get_or b (k + 3) 0 = omega arith in
      let k1 : k + 1 ≡ suc k = omega arith in
      let k2 : k + 2 ≡ suc (suc k) = omega arith in
      let k3 : k + 3 ≡ suc (suc (suc k)) = omega arith in
      ap (λ z. set (set (set z (p + 1) (w / 256 % 256)) (p + 2) (w / 65536 % 256)) (p + 3) (w / 16777216 % 256)) (byte_at k p (w % 256) e d0 (omega arith) (omega arith))
      ∙ ap (λ z. set (set z (p + 2) (w / 65536 % 256)) (p + 3) (w / 16777216 % 256))
      (byte_at (suc k) (p + 1) (w / 256 % 256) (omega arith) (d1 ∙ ap (λ z. get_or b z 0) k1) (omega arith) (omega arith))
      ∙ ap (λ z. set z (p + 3) (w / 16777216 % 256))
      (byte_at (suc (suc k)) (p + 2) (w / 65536 % 256) (omega arith) (d2 ∙ ap (λ z. get_or b z 0) k2) (omega arith) (omega arith))
      ∙ byte_at (suc (suc (suc k))) (p + 3) (w / 16777216 % 256) (omega arith) (d3 ∙ ap (λ z. get_or b z 0) k3) (omega arith) (omega arith)

-- all the bytes that an entry carries, from place `at` on
module _ (t b : List ℕ) (at : ℕ) (bytes : AreBytes b) where
  whole : (n : ℕ) → length b ≡ n → copied t b at n ≡ take at t ++ (b ++ drop (at + n) t)
  whole n e = ap (λ z. take at t ++ (z ++ drop (at + n) t)) (take_all n b (omega arith))

  none : t ≡ copied t b at 0
  none = sym (ap (λ z. take at t ++ drop z t) (omega arith) ∙ take-append-drop at t)

  pub put_four : (p : ℕ) → p ≡ at → length b ≡ 4 → at + 4 ≤ length t → take at t ++ (b ++ drop (at + 4) t) ≡ put_word t p (word b 0)
  put_four p e n l =
      sym (ap (λ z. put_word z p (word b 0)) none ∙ word_more t b at bytes 0 p (omega arith) (omega arith) (omega arith) ∙ whole 4 n)

  pub put_twenty : (m : ℕ) → m + 24 ≡ at → length b ≡ 20 → at + 20 ≤ length t
      → take at t ++ (b ++ drop (at + 20) t) ≡ put_word (put_word (put_word (put_word (put_word t (m + 24) (word b 0)) (m + 28) (word b 4)) (m + 32) (word b 8)) (m + 36) (word b 12)) (m + 40) (word b 16)
  put_twenty m e n l =
      sym (
      ap (λ z. put_word (put_word (put_word (put_word (put_word z (m + 24) (word b 0)) (m + 28) (word b 4)) (m + 32) (word b 8)) (m + 36) (word b 12)) (m + 40) (word b 16)) none
      ∙ ap (λ z. put_word (put_word (put_word (put_word z (m + 28) (word b 4)) (m + 32) (word b 8)) (m + 36) (word b 12)) (m + 40) (word b 16))
      (word_more t b at bytes 0 (m + 24) (omega arith) (omega arith) (omega arith))
      ∙ ap (λ z. put_word (put_word (put_word z (m + 32) (word b 8)) (m + 36) (word b 12)) (m + 40) (word b 16))
      (word_more t b at bytes 4 (m + 28) (omega arith) (omega arith) (omega arith))
      ∙ ap (λ z. put_word (put_word z (m + 36) (word b 12)) (m + 40) (word b 16)) (word_more t b at bytes 8 (m + 32) (omega arith) (omega arith) (omega arith))
      ∙ ap (λ z. put_word z (m + 40) (word b 16)) (word_more t b at bytes 12 (m + 36) (omega arith) (omega arith) (omega arith))
      ∙ word_more t b at bytes 16 (m + 40) (omega arith) (omega arith) (omega arith)
      ∙ whole 20 n
      )
