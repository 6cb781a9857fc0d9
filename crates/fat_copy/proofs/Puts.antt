-- Numbers put into a list one after the other, from a place on: what parts lent to a call leave.
use mathlib.Core.Path.{◌≡◌, sym, ap, ◌∙◌}
use mathlib.Core.List.{List, ◌++◌, append-nil, append_assoc}
use Prim.Native.Nat.{ℕ, ◌+◌, ◌≤◌}
use native.Mathlib.Omega.{arith}
use lib.ListN.{length, take, drop, length-drop}
use Rattle.fat_walk.proofs.Blocks.{sets_append}
use lib.Seq.{sets, sets-eq, length-sets, drop-drop, drop-length, take-add, length-take-le}

-- a part from a to e, lent and come back as p
pub lent_back : (l p : List ℕ) (a k : ℕ) → length p ≡ k → a + k ≤ length l → take a l ++ (p ++ drop k (drop a l)) ≡ sets l a p
lent_back l p a k e h =
    ap (λ (r : List ℕ). take a l ++ (p ++ r)) (drop-drop k a l ∙ ap (λ (j : ℕ). drop (a + j) l) (sym e))
    ∙ sym (append_assoc (take a l) p (drop (a + length p) l))
    ∙ sym (sets-eq p l a (omega (arith, e, h)))

-- from the front
pub sets_front : (x l : List ℕ) → length x ≤ length l → sets l 0 x ≡ x ++ drop (length x) l
sets_front x l h =
    let e : 0 + length x ≡ length x = omega arith in
    sets-eq x l 0 (omega (arith, h)) ∙ ap (λ (k : ℕ). x ++ drop k l) e

-- all of them
pub sets_whole : (x l : List ℕ) → length x ≡ length l → sets l 0 x ≡ x
sets_whole x l e =
    sets_front x l (omega (arith, e))
    ∙ ap (λ (k : ℕ). x ++ drop k l) e
    ∙ ap (λ (r : List ℕ). x ++ r) (drop-length l)
    ∙ append-nil x

-- one share more of a list s is put into l, from a place on
pub sets_share : (s l : List ℕ) (at i k : ℕ) → i + k ≤ length s → sets (sets l at (take i s)) (at + i) (take k (drop i s)) ≡ sets l at (take (i + k) s)
sets_share s l at i k h =
    ap (λ (j : ℕ). sets (sets l at (take i s)) (at + j) (take k (drop i s))) (sym (length-take-le i s (omega arith)))
    ∙ sym (sets_append (take i s) (take k (drop i s)) l at)
    ∙ ap (sets l at) (sym (take-add i k s))

-- i bytes of s are in d, from place at on
pub record Putting (s d₀ d : List ℕ) (at i : ℕ) : Type 0 where
  pub is : d ≡ sets d₀ at (take i s)
  pub upto : i ≤ length s

module _ (s d₀ d : List ℕ) (at i k : ℕ) (w : Putting s d₀ d at i) (fits : at + length s ≤ length d₀) (h : i + k ≤ length s) where
  put_length : length d ≡ length d₀
  put_length = ap length w.is ∙ length-sets d₀ at (take i s)

  -- where a part starts and ends
  pub put_room : at + i + k ≤ length d
  put_room = omega (arith, put_length, fits, h)

  -- a part of s is copied over the part of d that was lent
  module _ (part : List ℕ) (e e' : ℕ) (q : e ≡ k) (q' : e' ≡ k) (u : part ≡ take e' (drop i s)) where
    part_is : part ≡ take k (drop i s)
    part_is = u ∙ ap (λ (x : ℕ). take x (drop i s)) q'

    part_long : length part ≡ e
    part_long = ap length part_is ∙ length-take-le k (drop i s) (omega (arith, length-drop i s, h)) ∙ sym q

    back : take (at + i) d ++ (part ++ drop e (drop (at + i) d)) ≡ sets d (at + i) part
    back = lent_back d part (at + i) e part_long (omega (arith, q, put_room))

    pub put_turn : Putting s d₀ (take (at + i) d ++ (part ++ drop e (drop (at + i) d))) at (i + k)
    put_turn = record {
      is =
          back
          ∙ ap (sets d (at + i)) part_is
          ∙ ap (λ (x : List ℕ). sets x (at + i) (take k (drop i s))) w.is
          ∙ sets_share s d₀ at i k h;
      upto = h;
    }
