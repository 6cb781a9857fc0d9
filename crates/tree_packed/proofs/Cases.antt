-- What a put gives, by the places of its code.
use mathlib.Core.Path.{◌≡◌, sym, ap, ◌∙◌}
use mathlib.Core.List.{List}
use mathlib.Core.Logic.{◌≢◌}
use Prim.Native.Nat.{ℕ, ◌+◌, ◌-◌, ◌*◌, ◌/◌, ◌≤◌, ◌<◌}
use native.Mathlib.Omega.{arith}
use lib.ListN.{length, set}
use borrow.Author.Tests.{eq-eqb, ne_eqb, lt-ltb, le-ltb}
use Rattle.tree_packed.specs.Packed.{Packed, Place, rec}
use Rattle.tree_packed.specs.Put.{gives, taken_out, put_in, put_of}
use Rattle.std.proofs.Common.{Some, None}
use Rattle.tree_packed.proofs.Laws.{place_below, listed}

module _ {k : ℕ} {l : List ℕ} (P : Packed k l) (x r : ℕ) (c : ℕ) (e : c ≡ rec k l x) where
  pub put_nothing : c ≡ 0 → r ≡ 0 → gives (Some k) l ≡ put_of k l x r
  unfolding put_of
  put_nothing z n = rw (eq-eqb (rec k l x) 0 (sym e ∙ z), eq-eqb r 0 n)

  pub put_full : c ≡ 0 → r ≢ 0 → length l / 2 ≤ k → gives None l ≡ put_of k l x r
  unfolding put_of
  put_full z n h = rw (eq-eqb (rec k l x) 0 (sym e ∙ z), ne_eqb r 0 n, lt-ltb (length l) (2 * (k + 1)) (omega arith))

  pub put_new : {j : ℕ} (l' : List ℕ) → Place k l x j → c ≡ 0 → r ≢ 0 → k < length l / 2 → l' ≡ put_in k j x r l → gives (Some (k + 1)) l' ≡ put_of k l x r
  unfolding put_of
  put_new {j} l' S z n h q =
      rw (eq-eqb (rec k l x) 0 (sym e ∙ z), ne_eqb r 0 n, le-ltb (length l) (2 * (k + 1)) (omega arith), place_below k l x j S) (ap (gives (Some (k + 1))) q)

  pub put_out : {j : ℕ} (l' : List ℕ) → Place k l x j → c ≢ 0 → r ≡ 0 → l' ≡ taken_out k j l → gives (Some (k - 1)) l' ≡ put_of k l x r
  unfolding put_of
  put_out {j} l' S z n q =
      rw (ne_eqb (rec k l x) 0 (λ y. z (e ∙ y)), eq-eqb r 0 n, place_below k l x j S) (ap (gives (Some (k - 1))) q)

  pub put_over : {j : ℕ} → Place k l x j → c ≢ 0 → r ≢ 0 → gives (Some k) (set l (2 * j + 1) r) ≡ put_of k l x r
  unfolding put_of
  put_over {j} S z n = rw (ne_eqb (rec k l x) 0 (λ y. z (e ∙ y)), ne_eqb r 0 n, place_below k l x j S)

module _ {k : ℕ} {l : List ℕ} (P : Packed k l) (x : ℕ) (c : ℕ) (e : c ≡ rec k l x) where
  -- a record that is there stands at its place
  pub there : {j : ℕ} → Place k l x j → c ≢ 0 → (j < k) × (2 * k ≤ length l)
  there S z = ((listed P S (omega arith)).0, P.fits)
