-- Records that come down by two places, and that go up by two: place by place, as the loops move them, and as taken_out and put_in say it.
use mathlib.Core.Path.{◌≡◌, sym, ◌∙◌, subst}
use mathlib.Core.List.{List, [], ◌∷◌, ◌++◌}
use mathlib.Core.Logic.{⊎_elim}
use Prim.Native.Nat.{ℕ, ◌+◌, ◌-◌, ◌*◌, ◌≤◌, ◌<◌}
use native.Mathlib.Omega.{arith}
use lib.ListN.{length, get_or, set, take, drop, length-append, length-drop, length-set, get_or-append}
use lib.Seq.{get_or-append-add, get_or-take, get_or-drop, get_or-set_same, get_or-set_other, length-take-le, ext_get_or}
use Rattle.std.specs.List.{CopiedTo, SameBelow, SameFrom}
use Rattle.tree_packed.specs.Put.{taken_out, put_in}
use Rattle.tree_packed.proofs.Laws.{le_or_lt, at_same}

-- pieces of a list one behind the other: its first a places, m, n places from b on, all from e on ------------------------------------------------------

abbrev glued : List ℕ → List ℕ → ℕ → ℕ → ℕ → ℕ → List ℕ
glued l m a b n e = take a l ++ (m ++ (take n (drop b l) ++ drop e l))

past_all : (p q : List ℕ) (n i : ℕ) → length p ≡ n → get_or (p ++ q) (n + i) 0 ≡ get_or q i 0
past_all p q n i h = subst (λ (z : ℕ). get_or (p ++ q) (z + i) 0 ≡ get_or q i 0) h (get_or-append-add p q i 0)

module _ (l m : List ℕ) (a b n e : ℕ) (ha : a ≤ length l) (hb : b + n ≤ length l) where
  first_long : length (take a l) ≡ a
  first_long = length-take-le a l ha

  moved_long : length (take n (drop b l)) ≡ n
  moved_long = length-take-le n (drop b l) (simp length-drop (omega arith))

  glued_long : length (glued l m a b n e) ≡ a + (length m + (n + (length l - e)))
  glued_long = simp (length-append, first_long, moved_long, length-drop)

  glued_front : (i : ℕ) → i < a → get_or (glued l m a b n e) i 0 ≡ get_or l i 0
  glued_front i h =
      let z : i < length (take a l) = omega (arith, first_long) in
      get_or-append (take a l) (m ++ (take n (drop b l) ++ drop e l)) 0 i z ∙ get_or-take a l i 0 h

  glued_mid : (i : ℕ) → i < length m → get_or (glued l m a b n e) (a + i) 0 ≡ get_or m i 0
  glued_mid i h =
      past_all (take a l) (m ++ (take n (drop b l) ++ drop e l)) a i first_long ∙ get_or-append m (take n (drop b l) ++ drop e l) 0 i h

  glued_moved : (i : ℕ) → i < n → get_or (glued l m a b n e) (a + (length m + i)) 0 ≡ get_or l (b + i) 0
  glued_moved i h =
      let z : i < length (take n (drop b l)) = omega (arith, moved_long) in
      past_all (take a l) (m ++ (take n (drop b l) ++ drop e l)) a (length m + i) first_long
      ∙ get_or-append-add m (take n (drop b l) ++ drop e l) i 0
      ∙ get_or-append (take n (drop b l)) (drop e l) 0 i z
      ∙ get_or-take n (drop b l) i 0 h
      ∙ get_or-drop b l i 0

  glued_past : (i : ℕ) → get_or (glued l m a b n e) (a + (length m + (n + i))) 0 ≡ get_or l (e + i) 0
  glued_past i =
      past_all (take a l) (m ++ (take n (drop b l) ++ drop e l)) a (length m + (n + i)) first_long
      ∙ get_or-append-add m (take n (drop b l) ++ drop e l) (n + i) 0
      ∙ past_all (take n (drop b l)) (drop e l) n i moved_long
      ∙ get_or-drop e l i 0

-- down -------------------------------------------------------------------------------------------------------------------------------------------------

-- from place a on, what stood up to e stands two places lower
pub record Down (a e : ℕ) (l l' : List ℕ) : Type 0 where
  pub size : length l' ≡ length l
  pub front : (i : ℕ) → i < a → get_or l' i 0 ≡ get_or l i 0
  pub moved : (i : ℕ) → a ≤ i → i + 2 < e → get_or l' i 0 ≡ get_or l (i + 2) 0
  pub past : (i : ℕ) → a ≤ i → e ≤ i + 2 → get_or l' i 0 ≡ get_or l i 0

pub down_one : {a e : ℕ} {l p q : List ℕ} → Down a e l p → Down a e l q → p ≡ q
down_one {a} {e} {l} {p} {q} D E =
    ext_get_or 0 p q (D.size ∙ sym E.size)
    (λ i h.
    ⊎_elim
    (λ (m : a ≤ i).
    ⊎_elim (λ (n : e ≤ i + 2). D.past i m n ∙ sym (E.past i m n)) (λ (n : i + 2 < e). D.moved i m n ∙ sym (E.moved i m n)) (le_or_lt e (i + 2)))
    (λ (m : i < a). D.front i m ∙ sym (E.front i m))
    (le_or_lt a i))

pub taken_down : (k j : ℕ) (l : List ℕ) → j < k → 2 * k ≤ length l → Down (2 * j) (2 * k) l (taken_out k j l)
unfolding taken_out
taken_down k j l h g =
    let a : 2 * j ≤ length l = omega arith in
    let b : 2 * j + 2 + (2 * k - 2 * j - 2) ≤ length l = omega arith in
    record {
      size = glued_long l [] (2 * j) (2 * j + 2) (2 * k - 2 * j - 2) (2 * k - 2) a b ∙ omega arith;
      front = glued_front l [] (2 * j) (2 * j + 2) (2 * k - 2 * j - 2) (2 * k - 2) a b;
      moved =
          λ i p q.
          at_same (taken_out k j l) (omega arith)
          ∙ glued_moved l [] (2 * j) (2 * j + 2) (2 * k - 2 * j - 2) (2 * k - 2) a b (i - 2 * j) (omega arith)
          ∙ at_same l (omega arith);
      past =
          λ i p q.
          at_same (taken_out k j l) (omega arith)
          ∙ glued_past l [] (2 * j) (2 * j + 2) (2 * k - 2 * j - 2) (2 * k - 2) a b (i - (2 * k - 2))
          ∙ at_same l (omega arith);
    }

-- up ---------------------------------------------------------------------------------------------------------------------------------------------------

-- what stood from i to e stands two places higher; below i + 2 nothing has changed
pub record Up (i e : ℕ) (l l' : List ℕ) : Type 0 where
  pub size : length l' ≡ length l
  pub front : (t : ℕ) → t < i + 2 → get_or l' t 0 ≡ get_or l t 0
  pub moved : (t : ℕ) → i ≤ t → t < e → get_or l' (t + 2) 0 ≡ get_or l t 0
  pub past : (t : ℕ) → i ≤ t → e ≤ t → get_or l' (t + 2) 0 ≡ get_or l (t + 2) 0

-- and x and r stand at the two places
pub record Risen (a e x r : ℕ) (l l' : List ℕ) : Type 0 where
  pub size : length l' ≡ length l
  pub front : (t : ℕ) → t < a → get_or l' t 0 ≡ get_or l t 0
  pub first : get_or l' a 0 ≡ x
  pub second : get_or l' (a + 1) 0 ≡ r
  pub moved : (t : ℕ) → a ≤ t → t < e → get_or l' (t + 2) 0 ≡ get_or l t 0
  pub past : (t : ℕ) → a ≤ t → e ≤ t → get_or l' (t + 2) 0 ≡ get_or l (t + 2) 0

pub up_end : {a e : ℕ} {l w : List ℕ} (x r : ℕ) → Up a e l w → a + 1 < length l → Risen a e x r l (set (set w a x) (a + 1) r)
up_end {a} {e} {l} {w} x r U h =
    record {
      size = length-set (set w a x) (a + 1) r ∙ length-set w a x ∙ U.size;
      front = λ t p. get_or-set_other (set w a x) (a + 1) t r 0 (λ z. omega arith) ∙ get_or-set_other w a t x 0 (λ z. omega arith) ∙ U.front t (omega arith);
      first = get_or-set_other (set w a x) (a + 1) a r 0 (λ z. omega arith) ∙ get_or-set_same w a x 0 (omega (arith, U.size));
      second = get_or-set_same (set w a x) (a + 1) r 0 (omega (arith, U.size, length-set w a x));
      moved = λ t p q. get_or-set_other (set w a x) (a + 1) (t + 2) r 0 (λ z. omega arith) ∙ get_or-set_other w a (t + 2) x 0 (λ z. omega arith) ∙ U.moved t p q;
      past = λ t p q. get_or-set_other (set w a x) (a + 1) (t + 2) r 0 (λ z. omega arith) ∙ get_or-set_other w a (t + 2) x 0 (λ z. omega arith) ∙ U.past t p q;
    }

pub risen_one : {a e x r : ℕ} {l p q : List ℕ} → Risen a e x r l p → Risen a e x r l q → p ≡ q
risen_one {a} {e} {x} {r} {l} {p} {q} D E =
    ext_get_or 0 p q (D.size ∙ sym E.size) (λ i h. ⊎_elim (λ (m : a ≤ i). behind i m) (λ (m : i < a). D.front i m ∙ sym (E.front i m)) (le_or_lt a i))
  where
    higher : (t : ℕ) → a ≤ t → get_or p (t + 2) 0 ≡ get_or q (t + 2) 0
    higher t m = ⊎_elim (λ (n : e ≤ t). D.past t m n ∙ sym (E.past t m n)) (λ (n : t < e). D.moved t m n ∙ sym (E.moved t m n)) (le_or_lt e t)

    behind : (i : ℕ) → a ≤ i → get_or p i 0 ≡ get_or q i 0
    behind i m =
        ⊎_elim (λ (n : i ≤ a). at_same p (omega arith) ∙ D.first ∙ sym E.first ∙ at_same q (omega arith))
        (λ (n : a < i).
        ⊎_elim (λ (o : i ≤ a + 1). at_same p (omega arith) ∙ D.second ∙ sym E.second ∙ at_same q (omega arith))
        (λ (o : a + 1 < i). at_same p (omega arith) ∙ higher (i - 2) (omega arith) ∙ at_same q (omega arith))
        (le_or_lt i (a + 1)))
        (le_or_lt i a)

pub put_risen : (k j x r : ℕ) (l : List ℕ) → j ≤ k → 2 * (k + 1) ≤ length l → Risen (2 * j) (2 * k) x r l (put_in k j x r l)
unfolding put_in
put_risen k j x r l h g =
    let a : 2 * j ≤ length l = omega arith in
    let b : 2 * j + (2 * k - 2 * j) ≤ length l = omega arith in
    record {
      size = glued_long l (x ∷ r ∷ []) (2 * j) (2 * j) (2 * k - 2 * j) (2 * k + 2) a b ∙ omega arith;
      front = glued_front l (x ∷ r ∷ []) (2 * j) (2 * j) (2 * k - 2 * j) (2 * k + 2) a b;
      first = at_same (put_in k j x r l) (omega arith) ∙ glued_mid l (x ∷ r ∷ []) (2 * j) (2 * j) (2 * k - 2 * j) (2 * k + 2) a b 0 (omega arith);
      second = glued_mid l (x ∷ r ∷ []) (2 * j) (2 * j) (2 * k - 2 * j) (2 * k + 2) a b 1 (omega arith);
      moved =
          λ t p q.
          at_same (put_in k j x r l) (omega arith)
          ∙ glued_moved l (x ∷ r ∷ []) (2 * j) (2 * j) (2 * k - 2 * j) (2 * k + 2) a b (t - 2 * j) (omega arith)
          ∙ at_same l (omega arith);
      past =
          λ t p q.
          at_same (put_in k j x r l) (omega arith)
          ∙ glued_past l (x ∷ r ∷ []) (2 * j) (2 * j) (2 * k - 2 * j) (2 * k + 2) a b (t - 2 * k)
          ∙ at_same l (omega arith);
    }

-- what the code's two copies leave
pub came_down : {k j : ℕ} (l w : List ℕ) → j < k → 2 * k ≤ length l → length w ≡ length l
    → CopiedTo l w (2 * (j + 1)) (2 * j) (2 * k - 2 * (j + 1)) × SameBelow l w (2 * j) × SameFrom l w (2 * j + (2 * k - 2 * (j + 1))) → w ≡ taken_out k j l
came_down {k} {j} l w h g size C =
    down_one
    (record {
      size = size;
      front = λ i p. C.1 i 0 p;
      moved = λ i p q. C.0 i 0 p (omega arith) ∙ at_same l (omega arith);
      past = λ i p q. C.2 i 0 (omega arith);
    })
    (taken_down k j l h g)

pub went_up : {k j : ℕ} (x r : ℕ) (l w : List ℕ) → j ≤ k → 2 * (k + 1) ≤ length l → length w ≡ length l
    → CopiedTo l w (2 * j) (2 * (j + 1)) (2 * k - 2 * j) × SameBelow l w (2 * (j + 1)) × SameFrom l w (2 * (j + 1) + (2 * k - 2 * j))
    → set (set w (2 * j) x) (2 * j + 1) r ≡ put_in k j x r l
went_up {k} {j} x r l w h g size C =
    risen_one
    (up_end x r
    (record {
      size = size;
      front = λ t p. C.1 t 0 (omega arith);
      moved = λ t p q. C.0 (t + 2) 0 (omega arith) (omega arith) ∙ at_same l (omega arith);
      past = λ t p q. C.2 (t + 2) 0 (omega arith);
    })
    (omega arith))
    (put_risen k j x r l h g)
