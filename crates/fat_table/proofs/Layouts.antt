-- Layouts: what a cut and a step keep, runs in the order of their places, and what goes end to end. No table here.
use mathlib.Core.Path.{◌≡◌, refl, sym, ap, ◌∙◌}
use mathlib.Core.List.Permᴰ
use mathlib.Core.List.{List, [], ◌∷◌, ◌++◌, Permᴰ}
use mathlib.Core.Bool.{Bool, true, false, cond, ◌&&◌}
use mathlib.Core.Logic.{◌⊎◌, inl, inr, ⊎_elim}
use Prim.Native.Nat.{ℕ, zero, suc, ◌+◌, ◌-◌, ◌≤◌, ◌<◌}
use native.Mathlib.Omega.{arith}
use lib.Dec.{leb, ltb}
use lib.ListN.{length, length-append}
use borrow.Author.Tests.{lt-ltb, le-ltb, le-leb, lt-leb}
use Rattle.fat_node.specs.Node.{Run, run}
use Rattle.fat_node.proofs.Nodes.{le_or_lt}
use Rattle.fat_table.specs.Chain.{total}
use Rattle.fat_table.specs.Layout.{Layout, layout, taken, left, joined, hits, covers, empties, blanks, Tiled}

-- the runs go end to end from block b to block n
abbrev pub EndToEnd : ℕ → List Run → ℕ → Type 0
EndToEnd b [] n = b ≡ n
EndToEnd b (r ∷ l) n = (r.start ≡ b) × (1 ≤ r.size) × EndToEnd (b + r.size) l n

pub data Step : Layout → Layout → Type 0 where
  create : {free : List Run} {files : List (List Run)} (c : ℕ) → 1 ≤ c → c ≤ total free
      → Step (layout free files) (layout (left free c) (taken free c ∷ files))
  delete : {free f : List Run} {files : List (List Run)} → Step (layout free (f ∷ files)) (layout (f ++ free) files)
  grow : {free f : List Run} {files : List (List Run)} (c : ℕ) → 1 ≤ c → c ≤ total free
      → Step (layout free (f ∷ files)) (layout (left free c) ((f ++ taken free c) ∷ files))
  shrink : {free f : List Run} {files : List (List Run)} (c : ℕ) → 1 ≤ c → c ≤ total f
      → Step (layout free (f ∷ files)) (layout (left f c ++ free) (taken f c ∷ files))

-- the two halves of a cut, by the test
module _ (r : Run) (l : List Run) (c : ℕ) where
  pub taken_whole : r.size ≤ suc c → taken (r ∷ l) (suc c) ≡ r ∷ taken l (suc c - r.size)
  taken_whole h = rw (le-leb _ _ h)

  pub taken_part : suc c < r.size → taken (r ∷ l) (suc c) ≡ run r.start (suc c) ∷ []
  taken_part h = rw (lt-leb _ _ h)

  pub left_whole : r.size ≤ suc c → left (r ∷ l) (suc c) ≡ left l (suc c - r.size)
  left_whole h = rw (le-leb _ _ h)

  pub left_part : suc c < r.size → left (r ∷ l) (suc c) ≡ run (r.start + suc c) (r.size - suc c) ∷ l
  left_part h = rw (lt-leb _ _ h)

pub hits_in : (x : ℕ) (r : Run) → r.start ≤ x → x < r.start + r.size → hits x r ≡ 1
unfolding hits
hits_in x r h k = rw (le-leb _ _ h, lt-ltb _ _ k)

pub hits_lo : (x : ℕ) (r : Run) → x < r.start → hits x r ≡ 0
unfolding hits
hits_lo x r h = rw (lt-leb _ _ h)

pub hits_hi : (x : ℕ) (r : Run) → r.start + r.size ≤ x → hits x r ≡ 0
unfolding hits
hits_hi x r h = go (leb r.start x)
  where
    go : (t : Bool) → cond {A = ℕ} (t && ltb x (r.start + r.size)) 1 0 ≡ 0
    go true = rw (le-ltb _ _ h)
    go false = refl

pub covers_append : (x : ℕ) (a b : List Run) → covers x (a ++ b) ≡ covers x a + covers x b
covers_append x [] b = omega arith
covers_append x (r ∷ a) b = omega (arith, covers_append x a b)

pub covers_perm : (x : ℕ) {a b : List Run} → Permᴰ a b → covers x a ≡ covers x b
covers_perm x Permᴰ.nil = refl
covers_perm x (Permᴰ.cons e p) = omega (arith, ap (hits x) e, covers_perm x p)
covers_perm x (Permᴰ.swap e e') = omega (arith, ap (hits x) e, ap (hits x) e')
covers_perm x (Permᴰ.trans p q) = covers_perm x p ∙ covers_perm x q

-- a run cut in two covers the same blocks
pub hits_split : (x : ℕ) (r : Run) (c : ℕ) → c ≤ r.size → hits x (run r.start c) + hits x (run (r.start + c) (r.size - c)) ≡ hits x r
hits_split x r c h = ⊎_elim
    (λ k. ⊎_elim
    (λ m. ⊎_elim
    (λ o. omega (arith, hits_hi x (run r.start c) (omega arith), hits_hi x (run (r.start + c) (r.size - c)) (omega arith), hits_hi x r o))
    (λ o. omega (arith, hits_hi x (run r.start c) (omega arith), hits_in x (run (r.start + c) (r.size - c)) m (omega arith), hits_in x r k o))
    (le_or_lt (r.start + r.size) x))
    (λ m. omega (arith, hits_in x (run r.start c) k m, hits_lo x (run (r.start + c) (r.size - c)) m, hits_in x r k (omega arith)))
    (le_or_lt (r.start + c) x))
    (λ k. omega (arith, hits_lo x (run r.start c) k, hits_lo x (run (r.start + c) (r.size - c)) (omega arith), hits_lo x r k))
    (le_or_lt r.start x)

-- a cut covers the same blocks
pub covers_cut : (x : ℕ) (l : List Run) (c : ℕ) → covers x (taken l c) + covers x (left l c) ≡ covers x l
covers_cut x [] c = refl
covers_cut x (r ∷ l) zero = omega arith
covers_cut x (r ∷ l) (suc c) = ⊎_elim
    (λ h. rw (taken_whole r l c h, left_whole r l c h) (omega (arith, covers_cut x l (suc c - r.size))))
    (λ h. rw (taken_part r l c h, left_part r l c h) (omega (arith, hits_split x r (suc c) (omega arith))))
    (le_or_lt r.size (suc c))

pub empties_append : (a b : List Run) → empties (a ++ b) ≡ empties a + empties b
empties_append [] b = omega arith
empties_append (r ∷ a) b = omega (arith, empties_append a b)

pub empties_perm : {a b : List Run} → Permᴰ a b → empties a ≡ empties b
empties_perm Permᴰ.nil = refl
empties_perm (Permᴰ.cons e p) = omega (arith, ap (λ (r : Run). r.size) e, empties_perm p)
empties_perm (Permᴰ.swap e e') = omega (arith, ap (λ (r : Run). r.size) e, ap (λ (r : Run). r.size) e')
empties_perm (Permᴰ.trans p q) = empties_perm p ∙ empties_perm q

pub empties_cut : (l : List Run) (c : ℕ) → empties (taken l c) + empties (left l c) ≡ empties l
empties_cut [] c = refl
empties_cut (r ∷ l) zero = omega arith
empties_cut (r ∷ l) (suc c) = ⊎_elim
    (λ h. rw (taken_whole r l c h, left_whole r l c h) (omega (arith, empties_cut l (suc c - r.size))))
    (λ h. rw (taken_part r l c h, left_part r l c h) (omega arith))
    (le_or_lt r.size (suc c))

pub length_taken : (l : List Run) (c : ℕ) → 1 ≤ c → c ≤ total l → 1 ≤ length (taken l c)
length_taken [] c h k = omega arith
length_taken (r ∷ l) zero h k = omega arith
length_taken (r ∷ l) (suc c) h k = ⊎_elim
    (λ m. rw (taken_whole r l c m) (omega arith))
    (λ m. rw (taken_part r l c m) (omega arith))
    (le_or_lt r.size (suc c))

-- the order of the files is not seen
pub joined_covers : (x : ℕ) {fs gs : List (List Run)} → Permᴰ fs gs → covers x (joined fs) ≡ covers x (joined gs)
joined_covers x Permᴰ.nil = refl
joined_covers x (Permᴰ.cons e p) = simp covers_append (omega (arith, ap (covers x) e, joined_covers x p))
joined_covers x (Permᴰ.swap e e') = simp covers_append (omega (arith, ap (covers x) e, ap (covers x) e'))
joined_covers x (Permᴰ.trans p q) = joined_covers x p ∙ joined_covers x q

pub joined_empties : {fs gs : List (List Run)} → Permᴰ fs gs → empties (joined fs) ≡ empties (joined gs)
joined_empties Permᴰ.nil = refl
joined_empties (Permᴰ.cons e p) = simp empties_append (omega (arith, ap empties e, joined_empties p))
joined_empties (Permᴰ.swap e e') = simp empties_append (omega (arith, ap empties e, ap empties e'))
joined_empties (Permᴰ.trans p q) = joined_empties p ∙ joined_empties q

pub blanks_perm : {fs gs : List (List Run)} → Permᴰ fs gs → blanks fs ≡ blanks gs
blanks_perm Permᴰ.nil = refl
blanks_perm (Permᴰ.cons e p) = omega (arith, ap {B = ℕ} length e, blanks_perm p)
blanks_perm (Permᴰ.swap e e') = omega (arith, ap {B = ℕ} length e, ap {B = ℕ} length e')
blanks_perm (Permᴰ.trans p q) = blanks_perm p ∙ blanks_perm q

-- the runs in order of their places ------------------------------------------------------------

pub length_perm {ℓ} : {A : Type ℓ} {a b : List A} → Permᴰ a b → length a ≡ length b
length_perm Permᴰ.nil = refl
length_perm (Permᴰ.cons e p) = ap suc (length_perm p)
length_perm (Permᴰ.swap e e') = refl
length_perm (Permᴰ.trans p q) = length_perm p ∙ length_perm q

pub hits_most : (x : ℕ) (r : Run) → hits x r ≤ 1
hits_most x r = ⊎_elim
    (λ h. ⊎_elim (λ k. omega (arith, hits_hi x r k)) (λ k. omega (arith, hits_in x r h k)) (le_or_lt (r.start + r.size) x))
    (λ h. omega (arith, hits_lo x r h))
    (le_or_lt r.start x)

pub hits_above : (x : ℕ) (r : Run) → 1 ≤ hits x r → r.start ≤ x
hits_above x r h = ⊎_elim (λ k. k) (λ k. omega (arith, hits_lo x r k)) (le_or_lt r.start x)

pub hits_below : (x : ℕ) (r : Run) → 1 ≤ hits x r → x < r.start + r.size
hits_below x r h = ⊎_elim (λ k. omega (arith, hits_hi x r k)) (λ k. k) (le_or_lt (r.start + r.size) x)

-- a block that is covered is in some run, which can be put first
pub find : (x : ℕ) (l : List Run) → 1 ≤ covers x l → (r : Run) × (rest : List Run) × (1 ≤ hits x r) × Permᴰ l (r ∷ rest)
find x [] h = let z : ⊥ = omega arith in absurd z
find x (r ∷ l) h = go (le_or_lt 1 (hits x r)) (λ k. find x l k)
  where
    go : (1 ≤ hits x r) ⊎ (hits x r < 1) → (1 ≤ covers x l → (s : Run) × (rest : List Run) × (1 ≤ hits x s) × Permᴰ l (s ∷ rest))
        → (s : Run) × (rest : List Run) × (1 ≤ hits x s) × Permᴰ (r ∷ l) (s ∷ rest)
    go (inl k) f = (r, l, k, Permᴰ.refl (r ∷ l))
    go (inr k) f =
        let w = f (omega arith) in
        (w.0, r ∷ w.1, w.2, Permᴰ.trans (Permᴰ.cons refl w.3) (Permᴰ.swap refl refl))

-- the run at the first block b, put before the others in their order
abbrev Sorted : ℕ → ℕ → List Run → Type 0
Sorted b e l = (T : List Run) × Permᴰ l T × EndToEnd b T e

sort_next : (k b m e : ℕ) (l rest : List Run) (r : Run) → length l ≤ suc k → b + suc m ≡ e → empties l ≡ 0
    → ((x : ℕ) → covers x l ≡ hits x (run b (suc m))) → 1 ≤ hits b r → Permᴰ l (r ∷ rest)
    → ((b' m' : ℕ) → length rest ≤ k → b' + m' ≡ e → empties rest ≡ 0 → ((x : ℕ) → covers x rest ≡ hits x (run b' m')) → Sorted b' e rest)
    → Sorted b e l
sort_next k b m e l rest r h q p c hit π ih =
    let pe : empties l ≡ (1 - r.size) + empties rest = empties_perm π in
    let cv : (x : ℕ) → covers x l ≡ hits x r + covers x rest = λ x. covers_perm x π in
    let lo : r.start ≤ b = hits_above b r hit in
    let hi : b < r.start + r.size = hits_below b r hit in
    let at : b ≤ r.start = hits_above r.start (run b (suc m)) (omega (arith, c r.start, cv r.start, hits_in r.start r (omega arith) (omega arith))) in
    let end : r.start + (r.size - 1) < b + suc m =
    hits_below (r.start + (r.size - 1)) (run b (suc m))
    (omega (arith, c (r.start + (r.size - 1)), cv (r.start + (r.size - 1)), hits_in (r.start + (r.size - 1)) r (omega arith) (omega arith))) in
    let eq : r.start ≡ b = omega arith in
    let same : (x : ℕ) → hits x (run b r.size) ≡ hits x r = λ x. ap (λ (y : ℕ). hits x (run y r.size)) (sym eq) in
    let t = ih (b + r.size) (suc m - r.size) (omega (arith, length_perm π)) (omega arith) (omega arith)
    (λ x. omega (arith, c x, cv x, same x, hits_split x (run b (suc m)) r.size (omega arith))) in
    (r ∷ t.0, Permᴰ.trans π (Permᴰ.cons refl t.1), (eq, omega arith, t.2))

pub sorted : (k b m e : ℕ) (l : List Run) → length l ≤ k → b + m ≡ e → empties l ≡ 0 → ((x : ℕ) → covers x l ≡ hits x (run b m)) → Sorted b e l
sorted zero b m e [] h q p c = ([], Permᴰ.nil, ⊎_elim (λ k. omega (arith, c b, hits_in b (run b m) (omega arith) (omega arith))) (λ k. omega arith) (le_or_lt 1 m))
sorted zero b m e (r ∷ l) h q p c = let z : ⊥ = omega arith in absurd z
sorted (suc k) b zero e [] h q p c = ([], Permᴰ.nil, omega arith)
sorted (suc k) b zero e (r ∷ l) h q p c =
    let one : 1 ≤ hits r.start (run b 0) = omega (arith, c r.start, hits_in r.start r (omega arith) (omega arith)) in
    let z : ⊥ = omega (arith, hits_above r.start (run b 0) one, hits_below r.start (run b 0) one) in
    absurd z
sorted (suc k) b (suc m) e l h q p c =
    let w = find b l (omega (arith, c b, hits_in b (run b (suc m)) (omega arith) (omega arith))) in
    sort_next k b m e l w.1 w.0 h q p c w.2 w.3 (λ b' m'. sorted k b' m' e w.1)

-- what goes end to end ends past its start, by the sizes
pub end_after : (b : ℕ) (T : List Run) (e : ℕ) → EndToEnd b T e → b + length T ≤ e
end_after b [] e t = omega arith
end_after b (r ∷ T) e t = omega (arith, end_after (b + r.size) T e t.2)

pub tiled_step : {n : ℕ} {L M : Layout} → Step L M → Tiled n L → Tiled n M
tiled_step (create {free} {files} c h k) t = record {
  positive = simp empties_append (omega (arith, empties_cut free c, simp empties_append at t.positive));
  once = λ x. simp covers_append (omega (arith, covers_cut x free c, simp covers_append at (t.once x)));
  nonempty = omega (arith, length_taken free c h k);
}
tiled_step (delete {free} {f} {files}) t = record {
  positive = simp empties_append (omega (arith, simp empties_append at t.positive));
  once = λ x. simp covers_append (omega (arith, simp covers_append at (t.once x)));
  nonempty = omega arith;
}
tiled_step (grow {free} {f} {files} c h k) t = record {
  positive = simp empties_append (omega (arith, empties_cut free c, simp empties_append at t.positive));
  once = λ x. simp covers_append (omega (arith, covers_cut x free c, simp covers_append at (t.once x)));
  nonempty = omega (arith, length-append f (taken free c));
}
tiled_step (shrink {free} {f} {files} c h k) t = record {
  positive = simp empties_append (omega (arith, empties_cut f c, simp empties_append at t.positive));
  once = λ x. simp covers_append (omega (arith, covers_cut x f c, simp covers_append at (t.once x)));
  nonempty = omega (arith, length_taken f c h k);
}

pub tiled_order : {n : ℕ} {free : List Run} {fs gs : List (List Run)} → Permᴰ fs gs → Tiled n (layout free fs) → Tiled n (layout free gs)
tiled_order {n} {free} {fs} {gs} p t = record {
  positive = simp empties_append (omega (arith, joined_empties p, simp empties_append at t.positive));
  once = λ x. simp covers_append (omega (arith, joined_covers x p, simp covers_append at (t.once x)));
  nonempty = omega (arith, blanks_perm p);
}

pub tiled_format : {n : ℕ} → 1 ≤ n → Tiled n (layout (run 0 n ∷ []) [])
tiled_format {n} h = record { positive = omega arith; once = λ x. omega arith; nonempty = refl }
