-- Counts of the chains that a block is in: what one run more, one chain more and all of them leave, and what a count of 2 tells.
use mathlib.Core.Path.{◌≡◌, refl, sym, ap, subst, subst⁻¹, ◌∙◌}
use mathlib.Core.List.{List, [], ◌∷◌, ◌++◌}
use mathlib.Core.Bool.{Bool, true, false, ◌||◌}
use mathlib.Core.Logic.{⊎_elim}
use Prim.Native.Nat.{ℕ, zero, suc, ◌+◌, ◌-◌, ◌≤◌, ◌<◌}
use native.Mathlib.Omega.{arith}
use lib.Dec.{leb, eqb}
use lib.ListN.{length, get_or, set, take, drop, replicate, length-set}
use lib.Seq.{get_or-set_same, get_or-set_other, drop-cons}
use borrow.Author.Tests.{le-leb, lt-leb, eq-eqb, ne_eqb}
use Rattle.std.specs.List.{list_any}
use Rattle.fat_node.specs.Node.{Run, run}
use Rattle.fat_node.proofs.Nodes.{le_or_lt}
use Rattle.fat_table.specs.Layout.{hits, covers}
use Rattle.fat_table.proofs.Layouts.{hits_in, hits_lo, hits_hi, covers_append}
use Rattle.salvage.proofs.Walks.{clear_below}
use Rattle.salvage_shared.specs.Shared.{twice, meets}
use Rattle.salvage_shared.specs.Inner.Says.{two, Counts, Added, More, MeetsRun}

two_few : (c : ℕ) → c ≤ 1 → two c ≡ c
unfolding two
two_few c h = rw (le-leb c 1 h)

two_many : (c : ℕ) → 2 ≤ c → two c ≡ 2
unfolding two
two_many c h = rw (lt-leb c 1 h)

-- ---- one more

low : (v c : ℕ) → v < 2 → v ≡ two c → v + 1 ≡ two (c + 1)
low v c h e = ⊎_elim
    (λ k. absurd (omega (arith, h, e, two_many c k)))
    (λ k. ⊎_elim
    (λ l. omega (arith, e, two_few c (omega arith), two_many (c + 1) (omega (arith, l))))
    (λ l. omega (arith, e, two_few c (omega arith), two_few (c + 1) (omega (arith, l))))
    (le_or_lt 1 c))
    (le_or_lt 2 c)

high : (v c : ℕ) → 2 ≤ v → v ≡ two c → v ≡ two (c + 1)
high v c h e = ⊎_elim
    (λ k. e ∙ two_many c k ∙ sym (two_many (c + 1) (omega (arith, k))))
    (λ k. absurd (omega (arith, h, e, two_few c (omega (arith, k)))))
    (le_or_lt 2 c)

pub more_low : (v : ℕ) → v < 2 → More v (v + 1)
more_low v h = record { at = λ c e. low v c h e }

pub more_high : (v : ℕ) → 2 ≤ v → More v v
more_high v h = record { at = λ c e. high v c h e }

-- ---- a run

added_begin : (w : List ℕ) (b : ℕ) → Added w w (run b 0 ∷ [])
added_begin w b = record {
  at = λ x c e. e ∙ ap two (⊎_elim
      (λ h. omega (arith, hits_hi x (run b 0) (omega (arith, h))))
      (λ h. omega (arith, hits_lo x (run b 0) h))
      (le_or_lt b x));
  long = refl;
}

module _ (w₀ w : List ℕ) (b k : ℕ) (a : Added w₀ w (run b k ∷ [])) (room : b + k < length w) (v : ℕ) (h : More (get_or w (b + k) 0) v) where
  here : (x c : ℕ) → x ≡ b + k → get_or w₀ x 0 ≡ two c → get_or (set w (b + k) v) x 0 ≡ two (c + covers x (run b (k + 1) ∷ []))
  here x c q e =
      let g : get_or w (b + k) 0 ≡ two (c + covers x (run b k ∷ [])) = ap (λ (i : ℕ). get_or w i 0) (sym q) ∙ a.at x c e in
      ap (λ (i : ℕ). get_or (set w (b + k) v) i 0) q ∙ get_or-set_same w (b + k) v 0 room ∙ h.at (c + covers x (run b k ∷ [])) g
      ∙ ap two (omega (arith, hits_hi x (run b k) (omega (arith, q)), hits_in x (run b (k + 1)) (omega (arith, q)) (omega (arith, q))))

  there : (x c : ℕ) → (x ≡ b + k → ⊥) → hits x (run b k) ≡ hits x (run b (k + 1)) → get_or w₀ x 0 ≡ two c
      → get_or (set w (b + k) v) x 0 ≡ two (c + covers x (run b (k + 1) ∷ []))
  there x c q z e = get_or-set_other w (b + k) x v 0 q ∙ a.at x c e ∙ ap two (omega (arith, z))

  added_turn : Added w₀ (set w (b + k) v) (run b (k + 1) ∷ [])
  added_turn = record {
    at = λ x c e. ⊎_elim
        (λ lo. ⊎_elim
        (λ hi. ⊎_elim
        (λ l. there x c (λ q. omega (arith, q, l)) (omega (arith, hits_hi x (run b k) (omega (arith, hi)), hits_hi x (run b (k + 1)) (omega (arith, l)))) e)
        (λ l. here x c (omega (arith, hi, l)) e)
        (le_or_lt (b + k + 1) x))
        (λ hi. there x c (λ q. omega (arith, q, hi)) (omega (arith, hits_in x (run b k) lo hi, hits_in x (run b (k + 1)) lo (omega (arith, hi)))) e)
        (le_or_lt (b + k) x))
        (λ lo. there x c (λ q. omega (arith, q, lo)) (omega (arith, hits_lo x (run b k) lo, hits_lo x (run b (k + 1)) lo)) e)
        (le_or_lt b x);
    long = length-set w (b + k) v ∙ a.long;
  }

-- the blocks from b up to x are counted
pub run_begin : (w : List ℕ) (b : ℕ) → Added w w (run b (b - b) ∷ [])
run_begin w b = let q : 0 ≡ b - b = omega arith in subst (λ (k : ℕ). Added w w (run b k ∷ [])) q (added_begin w b)

pub run_turn : (w₀ w : List ℕ) (b x : ℕ) → b ≤ x → Added w₀ w (run b (x - b) ∷ []) → x < length w → (v : ℕ) → More (get_or w x 0) v
    → Added w₀ (set w x v) (run b (x + 1 - b) ∷ [])
run_turn w₀ w b x low a room v h =
    let q : b + (x - b) ≡ x = omega (arith, low) in
    let s : x - b + 1 ≡ x + 1 - b = omega (arith, low) in
    subst (λ (k : ℕ). Added w₀ (set w x v) (run b k ∷ [])) s
    (subst (λ (y : ℕ). Added w₀ (set w y v) (run b (x - b + 1) ∷ [])) q
    (added_turn w₀ w b (x - b) a (omega (arith, q, room)) v (subst⁻¹ (λ (y : ℕ). More (get_or w y 0) v) q h)))

-- ---- runs

pub added_none : (w : List ℕ) → Added w w []
added_none w = record { at = λ x c e. e ∙ ap two (omega arith); long = refl }

pub added_append : (w w₁ w₂ : List ℕ) (l m : List Run) → Added w w₁ l → Added w₁ w₂ m → Added w w₂ (l ++ m)
added_append w w₁ w₂ l m a b = record {
  at = λ x c e. b.at x (c + covers x l) (a.at x c e) ∙ ap two (omega (arith, covers_append x l m));
  long = b.long ∙ a.long;
}

-- what is counted in a clear list
pub added_clear : (n : ℕ) (w w' : List ℕ) (l : List Run) → w ≡ replicate n 0 → Added w w' l → Counts w' l
added_clear n w w' l e a x =
    let z : get_or w x 0 ≡ two 0 = omega (arith, clear_below n w e x, two_few 0 (omega arith)) in
    a.at x 0 z ∙ ap two (omega arith)

-- ---- what a count tells

count_is : (w : List ℕ) (l : List Run) (x : ℕ) → Counts w l → eqb (get_or w x 0) 2 ≡ leb 2 (covers x l)
count_is w l x c = ⊎_elim
    (λ h. eq-eqb (get_or w x 0) 2 (c x ∙ two_many (covers x l) h) ∙ sym (le-leb 2 (covers x l) h))
    (λ h. ne_eqb (get_or w x 0) 2 (λ e. omega (arith, c x, e, two_few (covers x l) (omega (arith, h)), h)) ∙ sym (lt-leb 2 (covers x l) h))
    (le_or_lt 2 (covers x l))

-- one of the s blocks from b on is counted twice
twice_any : (s b : ℕ) (w : List ℕ) (l : List Run) → Counts w l → b + s ≤ length w → list_any (λ y. eqb y 2) (take s (drop b w)) ≡ twice s b l
twice_any zero b w l c h = refl
twice_any (suc s) b w l c h =
    ap (λ (r : List ℕ). list_any (λ y. eqb y 2) (take (suc s) r)) (drop-cons w b 0 (omega (arith, h)))
    ∙ ap (λ (x : Bool). x || list_any (λ y. eqb y 2) (take s (drop (suc b) w))) (count_is w l b c)
    ∙ ap (λ (x : Bool). leb 2 (covers b l) || x) (twice_any s (suc b) w l c (omega (arith, h)))

pub meets_run : (w : List ℕ) (b s : ℕ) (r : Bool) → b + s ≤ length w → r ≡ list_any (λ y. eqb y 2) (take (b + s - b) (drop b w)) → MeetsRun w b s r
meets_run w b s r h e = record {
  is = λ l c.
      let q : b + s - b ≡ s = omega arith in
      e ∙ ap (λ (k : ℕ). list_any (λ y. eqb y 2) (take k (drop b w))) q ∙ twice_any s b w l c h;
}

-- ---- chains

pub meets_append : (c d l : List Run) → meets (c ++ d) l ≡ (meets c l || meets d l)
meets_append [] d l = refl
meets_append (r ∷ c) d l = go (twice r.size r.start l) (meets_append c d l)
  where
    go : (x : Bool) → meets (c ++ d) l ≡ (meets c l || meets d l) → (x || meets (c ++ d) l) ≡ ((x || meets c l) || meets d l)
    go true e = refl
    go false e = e
