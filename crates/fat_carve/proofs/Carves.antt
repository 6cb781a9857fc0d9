-- What a window taken out of a chain leaves. No table here.
use mathlib.Core.Path.{◌≡◌, refl, sym, ap, ◌∙◌}
use mathlib.Core.List.Memᴰ
use mathlib.Core.List.{List, [], ◌∷◌, ◌++◌, append_assoc}
use mathlib.Core.Logic.{◌⊎◌, ⊎_elim}
use Prim.Native.Nat.{ℕ, zero, suc, ◌+◌, ◌-◌, ◌≤◌, ◌<◌}
use native.Mathlib.Omega.{arith}
use borrow.Author.Tests.{le-leb, lt-leb}
use Rattle.fat_node.specs.Node.{Run, run}
use Rattle.fat_node.proofs.Nodes.{le_or_lt}
use Rattle.fat_table.specs.Chain.{total}
use Rattle.fat_table.specs.Layout.{taken, left, hits, covers, empties}
use Rattle.fat_table.proofs.Laying.{apart}
use Rattle.fat_table.proofs.Layouts.{hits_in, hits_lo, hits_hi, hits_most, hits_split, covers_append, covers_cut, empties_append, empties_cut, taken_whole, taken_part, left_whole}
use Rattle.fat_table.proofs.Chains.{In}
use Rattle.fat_carve.specs.Carve.{carved, Window, fit}
use Rattle.fat_carve.proofs.Totals.{total_same}

-- what is left of a run that is split stands in its place, left part before right, as here
left_first : carved 2 3 (run 8 1 ∷ run 0 7 ∷ []) ≡ run 8 1 ∷ run 0 2 ∷ run 5 2 ∷ []
left_first = refl

-- the first c blocks of one run, and the others --------------------------------------------------------

pub taken_below : (x : ℕ) (r : Run) (c : ℕ) → x < r.start + c → covers x (taken (r ∷ []) c) ≡ hits x r
taken_below x r zero h = omega (arith, hits_lo x r (omega arith))
taken_below x r (suc c) h = ⊎_elim
    (λ k. rw (taken_whole r [] c k) (omega arith))
    (λ k. rw (taken_part r [] c k)
    (⊎_elim
    (λ m. omega (arith, hits_in x (run r.start (suc c)) m h, hits_in x r m (omega arith)))
    (λ m. omega (arith, hits_lo x (run r.start (suc c)) m, hits_lo x r m))
    (le_or_lt r.start x)))
    (le_or_lt r.size (suc c))

pub taken_above : (x : ℕ) (r : Run) (c : ℕ) → r.start + c ≤ x → covers x (taken (r ∷ []) c) ≡ 0
taken_above x r zero h = refl
taken_above x r (suc c) h = ⊎_elim
    (λ k. rw (taken_whole r [] c k) (omega (arith, hits_hi x r (omega arith))))
    (λ k. rw (taken_part r [] c k) (omega (arith, hits_hi x (run r.start (suc c)) h)))
    (le_or_lt r.size (suc c))

-- the part before block m has the blocks of the run before m
pub before_in : (x m : ℕ) (r : Run) → x < m → covers x (taken (r ∷ []) (m - r.start)) ≡ hits x r
before_in x m r h = ⊎_elim
    (λ k. taken_below x r (m - r.start) (omega arith))
    (λ k. omega (arith, covers_cut x (r ∷ []) (m - r.start), hits_lo x r k))
    (le_or_lt r.start x)

pub before_out : (x m : ℕ) (r : Run) → m ≤ x → covers x (taken (r ∷ []) (m - r.start)) ≡ 0
before_out x m r h = ⊎_elim
    (λ k. taken_above x r (m - r.start) (omega arith))
    (λ k. omega (arith, covers_cut x (r ∷ []) (m - r.start), hits_lo x r k))
    (le_or_lt r.start x)

-- a block of the window is gone, another stays as it was ------------------------------------------------

pub carved_in : (x m k : ℕ) (l : List Run) → m ≤ x → x < m + k → covers x (carved m k l) ≡ 0
carved_in x m k [] h j = refl
carved_in x m k (r ∷ l) h j = simp covers_append
    (omega (
      arith,
      carved_in x m k l h j,
      before_out x m r h,
      before_in x (m + k) r j,
      covers_cut x (r ∷ []) (m + k - r.start),
    ))

pub carved_lo : (x m k : ℕ) (l : List Run) → x < m → covers x (carved m k l) ≡ covers x l
carved_lo x m k [] h = refl
carved_lo x m k (r ∷ l) h = simp covers_append
    (omega (
      arith,
      carved_lo x m k l h,
      before_in x m r h,
      before_in x (m + k) r (omega arith),
      covers_cut x (r ∷ []) (m + k - r.start),
    ))

pub carved_hi : (x m k : ℕ) (l : List Run) → m + k ≤ x → covers x (carved m k l) ≡ covers x l
carved_hi x m k [] h = refl
carved_hi x m k (r ∷ l) h = simp covers_append
    (omega (
      arith,
      carved_hi x m k l h,
      before_out x m r (omega arith),
      before_out x (m + k) r h,
      covers_cut x (r ∷ []) (m + k - r.start),
    ))

-- the carved chain and the window cover what the chain covers
pub covers_carved : (x m k : ℕ) (l : List Run) → covers x l ≤ 1 → hits x (run m k) ≤ covers x l
    → covers x (carved m k l) + hits x (run m k) ≡ covers x l
covers_carved x m k l one within = ⊎_elim
    (λ h. ⊎_elim
    (λ j. omega (arith, carved_hi x m k l j, hits_hi x (run m k) j))
    (λ j. omega (arith, carved_in x m k l h j, hits_in x (run m k) h j))
    (le_or_lt (m + k) x))
    (λ h. omega (arith, carved_lo x m k l h, hits_lo x (run m k) h))
    (le_or_lt m x)

pub empties_carved : (m k : ℕ) (l : List Run) → empties l ≡ 0 → empties (carved m k l) ≡ 0
empties_carved m k [] e = refl
empties_carved m k (r ∷ l) e = simp empties_append
    (omega (
      arith,
      empties_carved m k l (omega arith),
      empties_cut (r ∷ []) (m - r.start),
      empties_cut (r ∷ []) (m + k - r.start),
    ))

-- what is left has as many blocks less as the window has
pub total_carved : (n m k : ℕ) (l : List Run) → empties l ≡ 0 → ((x : ℕ) → covers x l ≤ hits x (run 0 n)) → Window m k l → total (carved m k l) + k ≡ total l
total_carved n m k l e c w =
    let one : (x : ℕ) → covers x (carved m k l) + hits x (run m k) ≡ covers x l =
    λ x. covers_carved x m k l (omega (arith, c x, hits_most x (run 0 n))) (w.each x) in
    omega (arith, total_same n (run m k ∷ carved m k l) l (omega (arith, w.some, empties_carved m k l e)) e c (λ x. omega (arith, one x)))

-- where the window does not meet a run -----------------------------------------------------------------

taken_all : (r : Run) (c : ℕ) → 1 ≤ r.size → r.size ≤ c → taken (r ∷ []) c ≡ r ∷ []
taken_all r zero p h = let z : ⊥ = omega arith in absurd z
taken_all r (suc c) p h = taken_whole r [] c h

left_all : (r : Run) (c : ℕ) → 1 ≤ r.size → r.size ≤ c → left (r ∷ []) c ≡ []
left_all r zero p h = let z : ⊥ = omega arith in absurd z
left_all r (suc c) p h = left_whole r [] c h

taken_none : (r : Run) (c : ℕ) → c ≡ 0 → taken (r ∷ []) c ≡ []
taken_none r zero h = refl
taken_none r (suc c) h = let z : ⊥ = omega arith in absurd z

left_none : (r : Run) (c : ℕ) → c ≡ 0 → left (r ∷ []) c ≡ r ∷ []
left_none r zero h = refl
left_none r (suc c) h = let z : ⊥ = omega arith in absurd z

pub carved_append : (m k : ℕ) (a b : List Run) → carved m k (a ++ b) ≡ carved m k a ++ carved m k b
carved_append m k [] b = refl
carved_append m k (r ∷ a) b =
    let p : List Run = taken (r ∷ []) (m - r.start) in
    let q : List Run = left (r ∷ []) (m + k - r.start) in
    ap (λ (l : List Run). p ++ (q ++ l)) (carved_append m k a b)
    ∙ ap (λ (l : List Run). p ++ l) (sym (append_assoc q (carved m k a) (carved m k b)))
    ∙ sym (append_assoc p (q ++ carved m k a) (carved m k b))

-- a run that has no block of the window stays
carved_one : (m k : ℕ) (r : Run) → 1 ≤ r.size → (r.start + r.size ≤ m) ⊎ (m + k ≤ r.start) → (l : List Run)
    → taken (r ∷ []) (m - r.start) ++ (left (r ∷ []) (m + k - r.start) ++ l) ≡ r ∷ l
carved_one m k r p w l = ⊎_elim
    (λ h.
    ap (λ (a : List Run). a ++ (left (r ∷ []) (m + k - r.start) ++ l)) (taken_all r (m - r.start) p (omega arith))
    ∙ ap {B = List Run} (λ (a : List Run). r ∷ (a ++ l)) (left_all r (m + k - r.start) p (omega arith)))
    (λ h.
    ap (λ (a : List Run). a ++ (left (r ∷ []) (m + k - r.start) ++ l)) (taken_none r (m - r.start) (omega arith))
    ∙ ap (λ (a : List Run). a ++ l) (left_none r (m + k - r.start) (omega arith)))
    w

pub carved_apart : (m k : ℕ) (l : List Run) → 1 ≤ k → empties l ≡ 0 → ((x : ℕ) → hits x (run m k) + covers x l ≤ 1) → carved m k l ≡ l
carved_apart m k [] h e c = refl
carved_apart m k (r ∷ l) h e c =
    carved_one m k r (omega arith) (apart (run m k) r h (omega arith) (λ x. omega (arith, c x))) (carved m k l)
    ∙ ap {B = List Run} (λ a. r ∷ a) (carved_apart m k l h (omega arith) (λ x. omega (arith, c x)))

-- a window within one run: what is left of the run stands in its place, left part before right
pub carved_within : (A : List Run) (r : Run) (B : List Run) (m k : ℕ) → empties (A ++ r ∷ B) ≡ 0 → ((x : ℕ) → covers x (A ++ r ∷ B) ≤ 1) → 1 ≤ k
    → ((x : ℕ) → hits x (run m k) ≤ hits x r)
    → carved m k (A ++ r ∷ B) ≡ A ++ (taken (r ∷ []) (m - r.start) ++ (left (r ∷ []) (m + k - r.start) ++ B))
carved_within A r B m k e o h i =
    let es : empties A + ((1 - r.size) + empties B) ≡ 0 = omega (arith, empties_append A (r ∷ B)) in
    let cs : (x : ℕ) → covers x A + (hits x r + covers x B) ≤ 1 = λ x. omega (arith, o x, covers_append x A (r ∷ B)) in
    let a : carved m k A ≡ A = carved_apart m k A h (omega arith) (λ x. omega (arith, cs x, i x)) in
    let b : carved m k B ≡ B = carved_apart m k B h (omega arith) (λ x. omega (arith, cs x, i x)) in
    carved_append m k A (r ∷ B)
    ∙ ap (λ (l : List Run). l ++ carved m k (r ∷ B)) a
    ∙ ap (λ (l : List Run). A ++ (taken (r ∷ []) (m - r.start) ++ (left (r ∷ []) (m + k - r.start) ++ l))) b

-- a window of the first c blocks of one run: the right part stands in its place, and one taken whole is gone
pub carved_at : (A : List Run) (r : Run) (B : List Run) (c : ℕ) → empties (A ++ r ∷ B) ≡ 0 → ((x : ℕ) → covers x (A ++ r ∷ B) ≤ 1) → 1 ≤ c → c ≤ r.size
    → carved r.start c (A ++ r ∷ B) ≡ A ++ (left (r ∷ []) c ++ B)
carved_at A r B c e o h k =
    let m : ℕ = r.start in
    let d : m + c - m ≡ c = omega arith in
    carved_within A r B m c e o h (λ x. omega (arith, hits_split x r c k))
    ∙ ap (λ (l : List Run). A ++ (l ++ (left (r ∷ []) (m + c - m) ++ B))) (taken_none r (m - m) (omega arith))
    ∙ ap (λ (x : ℕ). A ++ (left (r ∷ []) x ++ B)) d

-- the first run that is long enough ----------------------------------------------------------------------

-- r is the first run of l that has c blocks
pub record Fits (c : ℕ) (l : List Run) (m : ℕ) : Type 0 where
  pub before : List Run
  pub node : Run
  pub after : List Run
  pub is : l ≡ before ++ node ∷ after
  pub at : node.start ≡ m
  pub long : c ≤ node.size
  pub first : (s : Run) → In s before → s.size < c

pub fit_whole : (c : ℕ) (r : Run) (l : List Run) → c ≤ r.size → fit c (r ∷ l) ≡ suc r.start
fit_whole c r l h = rw (le-leb _ _ h)

pub fit_past : (c : ℕ) (r : Run) (l : List Run) → r.size < c → fit c (r ∷ l) ≡ fit c l
fit_past c r l h = rw (lt-leb _ _ h)

pub fit_found : (c : ℕ) (l : List Run) (m : ℕ) → fit c l ≡ suc m → Fits c l m
fit_found c [] m e = let z : ⊥ = omega arith in absurd z
fit_found c (r ∷ l) m e = ⊎_elim
    (λ h.
    record {
      before = [];
      node = r;
      after = l;
      is = refl;
      at = omega (arith, fit_whole c r l h, e);
      long = h;
      first = λ s i. absurd (Memᴰ.not-nil i);
    })
    (λ h.
    let w = fit_found c l m (sym (fit_past c r l h) ∙ e) in
    record {
      before = r ∷ w.before;
      node = w.node;
      after = w.after;
      is = ap {B = List Run} (λ a. r ∷ a) w.is;
      at = w.at;
      long = w.long;
      first = λ s i. ⊎_elim (λ q. omega (arith, ap (λ (x : Run). x.size) q, h)) (λ j. w.first s j) (Memᴰ.cases_cons i);
    })
    (le_or_lt c r.size)

-- none is found exactly where no run is that long
pub fit_none : (c : ℕ) (l : List Run) → fit c l ≡ 0 → (s : Run) → In s l → s.size < c
fit_none c [] e s i = absurd (Memᴰ.not-nil i)
fit_none c (r ∷ l) e s i = ⊎_elim
    (λ h. let z : ⊥ = omega (arith, fit_whole c r l h, e) in absurd z)
    (λ h. ⊎_elim
    (λ q. omega (arith, ap (λ (x : Run). x.size) q, h))
    (λ j. fit_none c l (sym (fit_past c r l h) ∙ e) s j)
    (Memᴰ.cases_cons i))
    (le_or_lt c r.size)

pub none_fits : (c : ℕ) (l : List Run) → ((s : Run) → In s l → s.size < c) → fit c l ≡ 0
none_fits c [] g = refl
none_fits c (r ∷ l) g = fit_past c r l (g r (Memᴰ.head refl)) ∙ none_fits c l (λ s i. g s (Memᴰ.tail i))

-- the first c blocks of the run that is found are a window of the chain
pub fit_window : (c m : ℕ) (l : List Run) → 1 ≤ c → Fits c l m → Window m c l
fit_window c m l h w = record {
  some = h;
  each = λ x. omega (
    arith,
    ap (covers x) w.is,
    covers_append x w.before (w.node ∷ w.after),
    hits_split x w.node c w.long,
    ap (λ (b : ℕ). hits x (run b c)) w.at,
  );
}

-- a window, block by block
pub window_of : (m k : ℕ) (l : List Run) → 1 ≤ k → ((x : ℕ) → m ≤ x → x < m + k → 1 ≤ covers x l) → Window m k l
window_of m k l h g = record {
  some = h;
  each = λ x. ⊎_elim
      (λ p. ⊎_elim
      (λ q. omega (arith, hits_hi x (run m k) q))
      (λ q. omega (arith, g x p q, hits_most x (run m k)))
      (le_or_lt (m + k) x))
      (λ p. omega (arith, hits_lo x (run m k) p))
      (le_or_lt m x);
}

pub window_at : (m k : ℕ) (l : List Run) → Window m k l → (x : ℕ) → m ≤ x → x < m + k → 1 ≤ covers x l
window_at m k l w x p q = omega (arith, w.each x, hits_in x (run m k) p q)
