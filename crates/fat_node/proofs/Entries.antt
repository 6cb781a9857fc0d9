-- The laws of entries: what is read of a written entry, that other entries stay, and how two writes meet.
use Prim.Native.Nat.{ℕ, ◌+◌, ◌*◌, ◌≤◌, ◌<◌}
use mathlib.Core.Path.{◌≡◌, sym, ap, ◌∙◌}
use mathlib.Core.Logic.{◌≢◌}
use native.Mathlib.Omega.{arith}
use lib.ListN.{length}
use Rattle.words.specs.Word.{word, put_word}
use Rattle.words.proofs.Laws as words
use Rattle.fat_node.specs.Entry.{Bytes, Entry, entry, get, put}

pub length_put : (t : Bytes) (e : ℕ) (w : Entry) → length (put t e w) ≡ length t
unfolding put
length_put t e w = simp words.length_put_word

-- a written entry is read back, where it is in the table and its halves fit a word
pub get_put : (t : Bytes) (e : ℕ) (w : Entry) → 8 * e + 8 ≤ length t → w.u < 4294967296 → w.v < 4294967296 → get (put t e w) e ≡ w
unfolding get put
get_put t e w h hu hv =
    let a : word (put_word (put_word t (8 * e) w.u) (8 * e + 4) w.v) (8 * e) ≡ w.u =
    words.word_put_word_other (put_word t (8 * e) w.u) (8 * e + 4) w.v (8 * e) (λ p q. omega arith)
    ∙ words.word_put_word t (8 * e) w.u (omega arith) hu in
    let b : word (put_word (put_word t (8 * e) w.u) (8 * e + 4) w.v) (8 * e + 4) ≡ w.v =
    words.word_put_word (put_word t (8 * e) w.u) (8 * e + 4) w.v (simp words.length_put_word (omega arith)) hv in
    λ i. entry (a i) (b i)

-- a word that shares no byte with entry e stays
word_put : (t : Bytes) (e : ℕ) (w : Entry) (a : ℕ) → (a < 8 * e + 8 → 8 * e < a + 4 → ⊥) → word (put t e w) a ≡ word t a
unfolding put
word_put t e w a far =
    words.word_put_word_other (put_word t (8 * e) w.u) (8 * e + 4) w.v a (λ p q. far (omega arith) (omega arith))
    ∙ words.word_put_word_other t (8 * e) w.u a (λ p q. far (omega arith) (omega arith))

-- no other entry changes
pub get_other : (t : Bytes) (e : ℕ) (w : Entry) (i : ℕ) → i ≢ e → get (put t e w) i ≡ get t i
unfolding get
get_other t e w i h =
    let a : word (put t e w) (8 * i) ≡ word t (8 * i) = word_put t e w (8 * i) (λ p q. h (omega arith)) in
    let b : word (put t e w) (8 * i + 4) ≡ word t (8 * i + 4) = word_put t e w (8 * i + 4) (λ p q. h (omega arith)) in
    λ j. entry (a j) (b j)

pub get_before : (t : Bytes) (e : ℕ) (w : Entry) (i : ℕ) → i < e → get (put t e w) i ≡ get t i
get_before t e w i h = get_other t e w i (λ k. omega arith)

pub get_after : (t : Bytes) (e : ℕ) (w : Entry) (i : ℕ) → e < i → get (put t e w) i ≡ get t i
get_after t e w i h = get_other t e w i (λ k. omega arith)

-- a write keeps bytes bytes
pub bytes_put : (t : Bytes) (e : ℕ) (w : Entry) → words.Bytes t → words.Bytes (put t e w)
unfolding put
bytes_put t e w b = words.bytes_put_word (put_word t (8 * e) w.u) (8 * e + 4) w.v (words.bytes_put_word t (8 * e) w.u b)

-- the halves of an entry of bytes fit a word
pub u_fits : (t : Bytes) (e : ℕ) → words.Bytes t → (get t e).u < 4294967296
unfolding get
u_fits t e b = words.word_lt t b (8 * e)

pub v_fits : (t : Bytes) (e : ℕ) → words.Bytes t → (get t e).v < 4294967296
unfolding get
v_fits t e b = words.word_lt t b (8 * e + 4)

-- to write what stands there changes nothing
pub put_get : (t : Bytes) (e : ℕ) → words.Bytes t → put t e (get t e) ≡ t
unfolding get put
put_get t e b = rw (words.put_word_word t b (8 * e), words.put_word_word t b (8 * e + 4))

pub put_same : (t : Bytes) (e : ℕ) (w : Entry) → words.Bytes t → get t e ≡ w → put t e w ≡ t
put_same t e w b h = ap (λ (x : Entry). put t e x) (sym h) ∙ put_get t e b

-- of two writes of one entry the second stays
pub put_put : (t : Bytes) (e : ℕ) (w x : Entry) → put (put t e w) e x ≡ put t e x
unfolding put
put_put t e w x =
    rw (
      words.put_word_comm (put_word t (8 * e) w.u) (8 * e + 4) w.v (8 * e) x.u (λ p q. omega arith),
      words.put_word_put_word t (8 * e) w.u x.u,
      words.put_word_put_word (put_word t (8 * e) x.u) (8 * e + 4) w.v x.v,
    )

-- writes of different entries commute
pub put_comm : (t : Bytes) (e : ℕ) (w : Entry) (f : ℕ) (x : Entry) → e ≢ f → put (put t e w) f x ≡ put (put t f x) e w
unfolding put
put_comm t e w f x ne =
    rw (
      words.put_word_comm (put_word t (8 * e) w.u) (8 * e + 4) w.v (8 * f) x.u (λ p q. ne (omega arith)),
      words.put_word_comm t (8 * e) w.u (8 * f) x.u (λ p q. ne (omega arith)),
      words.put_word_comm (put_word (put_word t (8 * f) x.u) (8 * e) w.u) (8 * e + 4) w.v (8 * f + 4) x.v (λ p q. ne (omega arith)),
      words.put_word_comm (put_word t (8 * f) x.u) (8 * e) w.u (8 * f + 4) x.v (λ p q. ne (omega arith)),
    )
