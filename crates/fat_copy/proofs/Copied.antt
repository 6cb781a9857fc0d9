-- A part copied over another, byte by byte.
use mathlib.Core.Path.{◌≡◌, sym, ap, ◌∙◌}
use mathlib.Core.List.{List, ◌++◌, append-nil}
use Prim.Native.Nat.{ℕ, suc, ◌+◌, ◌<◌, ◌≤◌}
use native.Mathlib.Omega.{arith}
use native.Mathlib.Numerals.{add-one}
use lib.ListN.{length, get_or, set, take, drop}
use lib.Seq.{drop-cons, take-suc, set_at, length-take-le, append_snoc, take-length, drop-length}

-- i bytes are copied
pub record Copied (d₀ s d : List ℕ) (i : ℕ) : Type 0 where
  pub is : d ≡ take i s ++ drop i d₀
  pub within : i ≤ length s
  pub even : length s ≡ length d₀

pub copied_turn : (d₀ s d : List ℕ) (i : ℕ) → Copied d₀ s d i → i < length s → Copied d₀ s (set d i (get_or s i 0)) (i + 1)
copied_turn d₀ s d i c h = record {
  is =
      ap (λ (l : List ℕ). set l i (get_or s i 0)) (c.is ∙ ap (λ (l : List ℕ). take i s ++ l) (drop-cons d₀ i 0 (omega (arith, c.even))))
      ∙ set_at (take i s) (get_or d₀ i 0) (drop (suc i) d₀) (get_or s i 0) i (length-take-le i s c.within)
      ∙ sym (append_snoc (take i s) (get_or s i 0) (drop (suc i) d₀))
      ∙ ap (λ (l : List ℕ). l ++ drop (suc i) d₀) (sym (take-suc s i 0 h))
      ∙ ap (λ (j : ℕ). take j s ++ drop j d₀) (sym (add-one i));
  within = omega arith;
  even = c.even;
}

pub copied_end : (d₀ s d : List ℕ) (i : ℕ) → Copied d₀ s d i → length s ≤ i → d ≡ s
copied_end d₀ s d i c h =
    let e : i ≡ length s = omega (arith, c.within) in
    c.is
    ∙ ap (λ (j : ℕ). take j s ++ drop j d₀) e
    ∙ ap (λ (l : List ℕ). l ++ drop (length s) d₀) (take-length s)
    ∙ ap (λ (j : ℕ). s ++ drop j d₀) c.even
    ∙ ap (λ (l : List ℕ). s ++ l) (drop-length d₀)
    ∙ append-nil s
