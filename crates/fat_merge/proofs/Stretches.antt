-- What the stretches are: they cover the blocks, none is empty, they rise with gaps, and no other runs do all that. No table here.
use mathlib.Core.Path.{◌≡◌, refl, sym, ap, ◌∙◌}
use mathlib.Core.List.{List, [], ◌∷◌}
use mathlib.Core.Logic.{◌≢◌, ⊎_elim}
use Prim.Native.Nat.{ℕ, zero, suc, ◌+◌, ◌-◌, ◌≤◌, ◌<◌}
use native.Mathlib.Omega.{arith}
use borrow.Author.Tests.{eq-eqb, ne_eqb}
use Rattle.links.proofs.Laws.{by_eq}
use Rattle.links.proofs.Held.{same_or}
use Rattle.fat_node.specs.Node.{Run, run}
use Rattle.fat_node.proofs.Nodes.{le_or_lt}
use Rattle.fat_table.specs.Layout.{hits, covers, empties}
use Rattle.fat_table.proofs.Layouts.{hits_in, hits_lo, hits_hi, hits_most, hits_split}
use Rattle.fat_merge.specs.Merge.{before_run, before, stretches, Spread}

-- one block before some runs -----------------------------------------------------------------------------

-- a run and the block before it
hits_more : (x b : ℕ) (r : Run) → r.start ≡ suc b → hits x (run b (suc r.size)) ≡ hits x (run b 1) + hits x r
hits_more x b r h =
    let p : suc r.size - 1 ≡ r.size = omega arith in
    let q : b + 1 ≡ r.start = omega arith in
    sym (hits_split x (run b (suc r.size)) 1 (omega arith))
    ∙ ap (λ (z : ℕ). hits x (run b 1) + hits x (run (b + 1) z)) p
    ∙ ap (λ (z : ℕ). hits x (run b 1) + hits x (run z r.size)) q

pub covers_before : (x b : ℕ) (l : List Run) → covers x (before b l) ≡ hits x (run b 1) + covers x l
covers_before x b [] = refl
covers_before x b (r ∷ l) =
    by_eq r.start (suc b) (λ y. covers x (before_run y b r l) ≡ hits x (run b 1) + (hits x r + covers x l))
    (λ h. omega (arith, hits_more x b r h))
    (λ h. omega arith)

pub empties_before : (b : ℕ) (l : List Run) → empties l ≡ 0 → empties (before b l) ≡ 0
empties_before b [] e = refl
empties_before b (r ∷ l) e = by_eq r.start (suc b) (λ y. empties (before_run y b r l) ≡ 0) (λ h. omega arith) (λ h. omega arith)

pub spread_from : (a b : ℕ) (l : List Run) → a ≤ b → Spread b l → Spread a l
spread_from a b [] h s = tt
spread_from a b (r ∷ l) h s = (omega (arith, s.0), s.1)

pub spread_before : (b : ℕ) (l : List Run) → Spread (suc b) l → Spread b (before b l)
spread_before b [] s = (omega arith, tt)
spread_before b (r ∷ l) s =
    by_eq r.start (suc b) (λ y. Spread b (before_run y b r l))
    (λ h. (omega arith, spread_from (suc (b + suc r.size)) (suc (r.start + r.size)) l (omega arith) s.1))
    (λ h. (omega arith, (omega (arith, s.0, h), s.1)))

-- the two cases by name
module _ (b : ℕ) (r : Run) (l : List Run) where
  pub before_touch : r.start ≡ suc b → before b (r ∷ l) ≡ run b (suc r.size) ∷ l
  before_touch h = rw (eq-eqb r.start (suc b) h)

  pub before_gap : r.start ≢ suc b → before b (r ∷ l) ≡ run b 1 ∷ (r ∷ l)
  before_gap h = rw (ne_eqb r.start (suc b) h)

-- the stretches ------------------------------------------------------------------------------------------

module _ (k b : ℕ) (c : ℕ → ℕ) where
  pub stretch_none : c b ≡ 0 → stretches (suc k) b c ≡ stretches k (suc b) c
  stretch_none h = rw (eq-eqb (c b) 0 h)

  pub stretch_one : c b ≢ 0 → stretches (suc k) b c ≡ before b (stretches k (suc b) c)
  stretch_one h = rw (ne_eqb (c b) 0 h)

pub stretch_spread : (k b : ℕ) (c : ℕ → ℕ) → Spread b (stretches k b c)
stretch_spread zero b c = tt
stretch_spread (suc k) b c = ⊎_elim
    (λ h. rw (stretch_none k b c h) (spread_from b (suc b) (stretches k (suc b) c) (omega arith) (stretch_spread k (suc b) c)))
    (λ h. rw (stretch_one k b c h) (spread_before b (stretches k (suc b) c) (stretch_spread k (suc b) c)))
    (same_or (c b) 0)

pub stretch_sizes : (k b : ℕ) (c : ℕ → ℕ) → empties (stretches k b c) ≡ 0
stretch_sizes zero b c = refl
stretch_sizes (suc k) b c = ⊎_elim
    (λ h. rw (stretch_none k b c h) (stretch_sizes k (suc b) c))
    (λ h. rw (stretch_one k b c h) (empties_before b (stretches k (suc b) c) (stretch_sizes k (suc b) c)))
    (same_or (c b) 0)

pub stretch_lo : (k b : ℕ) (c : ℕ → ℕ) (x : ℕ) → x < b → covers x (stretches k b c) ≡ 0
stretch_lo zero b c x h = refl
stretch_lo (suc k) b c x h = ⊎_elim
    (λ j. rw (stretch_none k b c j) (stretch_lo k (suc b) c x (omega arith)))
    (λ j. rw (stretch_one k b c j)
    (omega (arith, covers_before x b (stretches k (suc b) c), hits_lo x (run b 1) h, stretch_lo k (suc b) c x (omega arith))))
    (same_or (c b) 0)

pub stretch_hi : (k b : ℕ) (c : ℕ → ℕ) (x : ℕ) → b + k ≤ x → covers x (stretches k b c) ≡ 0
stretch_hi zero b c x h = refl
stretch_hi (suc k) b c x h = ⊎_elim
    (λ j. rw (stretch_none k b c j) (stretch_hi k (suc b) c x (omega arith)))
    (λ j. rw (stretch_one k b c j)
    (omega (arith, covers_before x b (stretches k (suc b) c), hits_hi x (run b 1) (omega arith), stretch_hi k (suc b) c x (omega arith))))
    (same_or (c b) 0)

pub stretch_in : (k b : ℕ) (c : ℕ → ℕ) (x : ℕ) → b ≤ x → x < b + k → c x ≤ 1 → covers x (stretches k b c) ≡ c x
stretch_in zero b c x h j o = let z : ⊥ = omega arith in absurd z
stretch_in (suc k) b c x h j o = ⊎_elim here (λ e. later e (stretch_in k (suc b) c x (omega (arith, e)) (omega arith) o)) (le_or_lt x b)
  where
    here : x ≤ b → covers x (stretches (suc k) b c) ≡ c x
    here e =
        let q : c b ≡ c x = ap c (omega arith) in
        ⊎_elim
        (λ z. rw (stretch_none k b c z) (omega (arith, stretch_lo k (suc b) c x (omega arith), z, q)))
        (λ z. rw (stretch_one k b c z)
        (omega (arith, covers_before x b (stretches k (suc b) c), hits_in x (run b 1) h (omega arith), stretch_lo k (suc b) c x (omega arith), z, q)))
        (same_or (c b) 0)

    later : b < x → covers x (stretches k (suc b) c) ≡ c x → covers x (stretches (suc k) b c) ≡ c x
    later e q =
        ⊎_elim
        (λ z. rw (stretch_none k b c z) q)
        (λ z. rw (stretch_one k b c z) (omega (arith, covers_before x b (stretches k (suc b) c), hits_hi x (run b 1) (omega arith), q)))
        (same_or (c b) 0)

-- the stretches of the blocks of a volume cover what c says
pub stretch_covers : (n : ℕ) (c : ℕ → ℕ) → ((x : ℕ) → c x ≤ hits x (run 0 n)) → (x : ℕ) → covers x (stretches n 0 c) ≡ c x
stretch_covers n c h x = ⊎_elim
    (λ j. omega (arith, stretch_hi n 0 c x j, h x, hits_hi x (run 0 n) j))
    (λ j. stretch_in n 0 c x (omega arith) j (omega (arith, h x, hits_most x (run 0 n))))
    (le_or_lt (0 + n) x)

pub stretch_ext : (k b : ℕ) (c d : ℕ → ℕ) → ((x : ℕ) → c x ≡ d x) → stretches k b c ≡ stretches k b d
stretch_ext zero b c d h = refl
stretch_ext (suc k) b c d h = ⊎_elim
    (λ z. stretch_none k b c z ∙ stretch_ext k (suc b) c d h ∙ sym (stretch_none k b d (sym (h b) ∙ z)))
    (λ z. stretch_one k b c z ∙ ap (before b) (stretch_ext k (suc b) c d h) ∙ sym (stretch_one k b d (λ e. z (h b ∙ e))))
    (same_or (c b) 0)

-- no other runs do all that --------------------------------------------------------------------------------

pub spread_lo : (b : ℕ) (l : List Run) (x : ℕ) → Spread b l → x < b → covers x l ≡ 0
spread_lo b [] x s h = refl
spread_lo b (r ∷ l) x s h =
    omega (arith, hits_lo x r (omega (arith, s.0)), spread_lo (suc (r.start + r.size)) l x s.1 (omega (arith, s.0)))

-- the first run of the one does not start before the first of the other, and does not end before it
first_not : (r s : Run) (l m : List Run) → 1 ≤ r.size → ((x : ℕ) → covers x (r ∷ l) ≡ covers x (s ∷ m)) → Spread (suc (s.start + s.size)) m
    → s.start ≤ r.start
first_not r s l m h c p = ⊎_elim
    (λ k. k)
    (λ k.
    let z : ⊥ =
    omega (
      arith,
      c r.start,
      hits_in r.start r (omega arith) (omega arith),
      hits_lo r.start s k,
      spread_lo (suc (s.start + s.size)) m r.start p (omega (arith, k)),
    ) in
    absurd z)
    (le_or_lt s.start r.start)

last_not : (r s : Run) (l m : List Run) → r.start ≡ s.start → ((x : ℕ) → covers x (r ∷ l) ≡ covers x (s ∷ m)) → Spread (suc (r.start + r.size)) l
    → s.size ≤ r.size
last_not r s l m e c p = ⊎_elim
    (λ k. k)
    (λ k.
    let x : ℕ = r.start + r.size in
    let z : ⊥ =
    omega (
      arith,
      c x,
      hits_hi x r (omega arith),
      spread_lo (suc (r.start + r.size)) l x p (omega arith),
      hits_in x s (omega arith) (omega (arith, k)),
    ) in
    absurd z)
    (le_or_lt s.size r.size)

same_run : (r s : Run) → r.start ≡ s.start → r.size ≡ s.size → r ≡ s
same_run r s p q = λ i. record { start = p i; size = q i }

pub spread_one : (a b : ℕ) (l m : List Run) → Spread a l → Spread b m → empties l ≡ 0 → empties m ≡ 0 → ((x : ℕ) → covers x l ≡ covers x m) → l ≡ m
spread_one a b [] [] p q d e c = refl
spread_one a b [] (s ∷ m) p q d e c = let z : ⊥ = omega (arith, c s.start, hits_in s.start s (omega arith) (omega arith)) in absurd z
spread_one a b (r ∷ l) [] p q d e c = let z : ⊥ = omega (arith, c r.start, hits_in r.start r (omega arith) (omega arith)) in absurd z
spread_one a b (r ∷ l) (s ∷ m) p q d e c =
    let u : r.start ≡ s.start =
    omega (arith, first_not r s l m (omega arith) c q.1, first_not s r m l (omega arith) (λ x. sym (c x)) p.1) in
    let v : r.size ≡ s.size = omega (arith, last_not r s l m u c p.1, last_not s r m l (sym u) (λ x. sym (c x)) q.1) in
    let f : r ≡ s = same_run r s u v in
    ap {B = List Run} (λ y. y ∷ l) f
    ∙ ap {B = List Run} (λ y. s ∷ y)
    (spread_one (suc (r.start + r.size)) (suc (s.start + s.size)) l m p.1 q.1 (omega arith) (omega arith) (λ x. omega (arith, c x, ap (hits x) f)))
