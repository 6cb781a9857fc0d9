-- The sweep over the nodes in the order of their blocks.
use mathlib.Core.Path.{◌≡◌, refl, sym, ap, subst, ◌∙◌}
use mathlib.Core.List.{List, [], ◌∷◌}
use mathlib.Core.Logic.{◌≢◌, ◌⊎◌, inl, inr, ⊎_elim}
use Prim.Native.Nat.{ℕ, zero, suc, ◌+◌, ◌-◌, ◌≤◌, ◌<◌}
use native.Mathlib.Omega.{arith}
use lib.ListN.{get_or}
use Rattle.links.proofs.Held.{same_or}
use Rattle.fat_node.specs.Entry.{Bytes, get}
use Rattle.fat_node.specs.Node.{Run, run, NodeAt}
use Rattle.fat_node.proofs.Nodes.{le_or_lt, node_one, node_same}
use Rattle.fat_table.specs.Steps.{first}
use Rattle.fat_merge.specs.Merge.{before, stretches, Spread}
use Rattle.fat_merge.specs.Inner.Sweep.{Ahead, end, node, IndexIs}
use Rattle.fat_merge.proofs.Stretches.{before_touch, before_gap, stretch_none, stretch_one, stretch_spread}

lt_or_le : (a b : ℕ) → (a < b) ⊎ (b ≤ a)
lt_or_le a b = ⊎_elim (λ h. inr h) (λ h. inl h) (le_or_lt b a)

-- a node of blocks before the stretches behind it ----------------------------------------------------------

-- s blocks from b on put before some runs
abbrev pub ahead_of : ℕ → ℕ → List Run → List Run
ahead_of zero b l = l
ahead_of (suc s) b l = before b (ahead_of s (suc b) l)

pub stretch_skip : (s k m b : ℕ) (c : ℕ → ℕ) → m ≡ s + k → ((x : ℕ) → b ≤ x → x < b + s → c x ≡ 0) → stretches m b c ≡ stretches k (b + s) c
stretch_skip zero k m b c e h =
    let p : m ≡ k = omega arith in
    let q : b ≡ b + 0 = omega arith in
    ap (λ (y : ℕ). stretches y b c) p ∙ ap (λ (y : ℕ). stretches k y c) q
stretch_skip (suc s) k zero b c e h = let z : ⊥ = omega arith in absurd z
stretch_skip (suc s) k (suc m) b c e h =
    let q : suc b + s ≡ b + suc s = omega arith in
    stretch_none m b c (h b (omega arith) (omega arith))
    ∙ stretch_skip s k m (suc b) c (omega arith) (λ x p r. h x (omega arith) (omega arith))
    ∙ ap (λ (y : ℕ). stretches k y c) q

pub stretch_run : (s k m b : ℕ) (c : ℕ → ℕ) → m ≡ s + k → ((x : ℕ) → b ≤ x → x < b + s → c x ≢ 0)
    → stretches m b c ≡ ahead_of s b (stretches k (b + s) c)
stretch_run zero k m b c e h =
    let p : m ≡ k = omega arith in
    let q : b ≡ b + 0 = omega arith in
    ap (λ (y : ℕ). stretches y b c) p ∙ ap (λ (y : ℕ). stretches k y c) q
stretch_run (suc s) k zero b c e h = let z : ⊥ = omega arith in absurd z
stretch_run (suc s) k (suc m) b c e h =
    let q : suc b + s ≡ b + suc s = omega arith in
    stretch_one m b c (h b (omega arith) (omega arith))
    ∙ ap (before b) (stretch_run s k m (suc b) c (omega arith) (λ x p r. h x (omega arith) (omega arith)))
    ∙ ap (λ (y : ℕ). before b (ahead_of s (suc b) (stretches k y c))) q

pub ahead_of_add : (a s m b : ℕ) (l : List Run) → m ≡ a + s → ahead_of a b (ahead_of s (b + a) l) ≡ ahead_of m b l
ahead_of_add zero s m b l e =
    let p : s ≡ m = omega arith in
    let q : b + 0 ≡ b = omega arith in
    ap (λ (y : ℕ). ahead_of s y l) q ∙ ap (λ (y : ℕ). ahead_of y b l) p
ahead_of_add (suc a) s zero b l e = let z : ⊥ = omega arith in absurd z
ahead_of_add (suc a) s (suc m) b l e =
    let q : b + suc a ≡ suc b + a = omega arith in
    ap (λ (y : ℕ). before b (ahead_of a (suc b) (ahead_of s y l))) q ∙ ap (before b) (ahead_of_add a s m (suc b) l (omega arith))

before_alone : (b : ℕ) (l : List Run) → first l ≢ suc (suc b) → before b l ≡ run b 1 ∷ l
before_alone b [] h = refl
before_alone b (r ∷ l) h = before_gap b r l (λ e. h (ap suc e))

-- where none of the runs behind starts at the end, the blocks are a run of their own
pub ahead_of_run : (s b : ℕ) (l : List Run) → 1 ≤ s → first l ≢ suc (b + s) → ahead_of s b l ≡ run b s ∷ l
ahead_of_run zero b l h f = let z : ⊥ = omega arith in absurd z
ahead_of_run (suc zero) b l h f = before_alone b l (λ e. f (e ∙ omega arith))
ahead_of_run (suc (suc s)) b l h f =
    ap (before b) (ahead_of_run (suc s) (suc b) l (omega arith) (λ e. f (e ∙ omega arith)))
    ∙ before_touch b (run (suc b) (suc s)) l refl

first_spread : (b : ℕ) (l : List Run) → Spread (suc b) l → first l ≢ suc b
first_spread b [] s e = omega arith
first_spread b (r ∷ l) s e = omega (arith, s.0, e)

-- no stretch starts at a block where c is 0, and none past the end
pub first_none : (k b : ℕ) (c : ℕ → ℕ) → c b ≡ 0 → first (stretches k b c) ≢ suc b
first_none zero b c h e = omega arith
first_none (suc k) b c h e = first_spread b (stretches k (suc b) c) (stretch_spread k (suc b) c) (sym (ap first (stretch_none k b c h)) ∙ e)

first_before : (b : ℕ) (l : List Run) → first (before b l) ≡ suc b
first_before b [] = refl
first_before b (r ∷ l) = ⊎_elim
    (λ h. ap first (before_touch b r l h))
    (λ h. ap first (before_gap b r l h))
    (same_or r.start (suc b))

pub first_some : (k b : ℕ) (c : ℕ → ℕ) → 1 ≤ k → c b ≢ 0 → first (stretches k b c) ≡ suc b
first_some zero b c h e = let z : ⊥ = omega arith in absurd z
first_some (suc k) b c h e = ap first (stretch_one k b c e) ∙ first_before b (stretches k (suc b) c)

-- what stands ahead ------------------------------------------------------------------------------------------

pub record At (n : ℕ) (t : Bytes) (w : List ℕ) (c : ℕ → ℕ) (b : ℕ) : Type 0 where
  pub size : ℕ
  pub is : NodeAt t n b size
  pub same : (x : ℕ) → b ≤ x → x < b + size → c x ≡ get_or w b 0
  pub inside : (x : ℕ) → b < x → x < b + size → get_or w x 0 ≡ 0
  pub rest : Ahead n t w c (b + size)

pub ahead_at : {n : ℕ} {t : Bytes} {w : List ℕ} {c : ℕ → ℕ} {b : ℕ} → Ahead n t w c b → b < n → At n t w c b
ahead_at (end e) h = let z : ⊥ = omega arith in absurd z
ahead_at (node {b} {s} i g z a) h = record { size = s; is = i; same = g; inside = z; rest = a }

pub ahead_within : {n : ℕ} {t : Bytes} {w : List ℕ} {c : ℕ → ℕ} {b : ℕ} → Ahead n t w c b → b ≤ n
ahead_within (end e) = omega arith
ahead_within (node i g z a) = omega (arith, i.within)

-- a table that is the same behind entry b stands the same from block b on
pub ahead_same : {n : ℕ} {t : Bytes} {w : List ℕ} {c : ℕ → ℕ} {b : ℕ} (t' : Bytes) → Ahead n t w c b → ((e : ℕ) → b < e → get t' e ≡ get t e) → Ahead n t' w c b
ahead_same t' (end e) g = end e
ahead_same {n} {t} {w} {c} t' (node {b} {s} i f z a) g =
    node (node_same t t' n b s (g (b + 1) (omega arith)) (λ k. (g (b + 2) (omega arith), g (b + s) (omega arith))) i) f z
    (ahead_same t' a (λ e k. g e (omega arith)))

-- and so do marks that are the same from block b on
pub ahead_marks : {n : ℕ} {t : Bytes} {w : List ℕ} {c : ℕ → ℕ} {b : ℕ} (w' : List ℕ) → Ahead n t w c b → ((x : ℕ) → b ≤ x → get_or w' x 0 ≡ get_or w x 0) → Ahead n t w' c b
ahead_marks w' (end e) g = end e
ahead_marks {n} {t} {w} {c} w' (node {b} {s} i f z a) g =
    node i (λ x p q. f x p q ∙ sym (g b (omega arith))) (λ x p q. g x (omega arith) ∙ z x p q) (ahead_marks w' a (λ x p. g x (omega arith)))

-- one node of the sweep
module _ (n : ℕ) (t : Bytes) (w : List ℕ) (c : ℕ → ℕ) (b s : ℕ) (a : Ahead n t w c b) (h : b < n) (i : NodeAt t n b s) where
  hop : At n t w c b
  hop = ahead_at a h

  hop_size : hop.size ≡ s
  hop_size = node_one t n b hop.size s hop.is i

  pub hop_ahead : Ahead n t w c (b + s)
  hop_ahead = subst (λ (y : ℕ). Ahead n t w c (b + y)) hop_size hop.rest

  hop_same : (x : ℕ) → b ≤ x → x < b + s → c x ≡ get_or w b 0
  hop_same = subst (λ (y : ℕ). (x : ℕ) → b ≤ x → x < b + y → c x ≡ get_or w b 0) hop_size hop.same

  pub hop_inside : (x : ℕ) → b < x → x < b + s → get_or w x 0 ≡ 0
  hop_inside = subst (λ (y : ℕ). (x : ℕ) → b < x → x < b + y → get_or w x 0 ≡ 0) hop_size hop.inside

  pub hop_unmarked : get_or w b 0 ≡ 0 → stretches (n - b) b c ≡ stretches (n - (b + s)) (b + s) c
  hop_unmarked z = stretch_skip s (n - (b + s)) (n - b) b c (omega (arith, i.within)) (λ x p q. hop_same x p q ∙ z)

  pub hop_marked : get_or w b 0 ≢ 0 → stretches (n - b) b c ≡ ahead_of s b (stretches (n - (b + s)) (b + s) c)
  hop_marked z = stretch_run s (n - (b + s)) (n - b) b c (omega (arith, i.within)) (λ x p q e. z (sym (hop_same x p q) ∙ e))

-- the first run ahead, by the mark at a block where a node starts or the sweep ends
module _ (n : ℕ) (t : Bytes) (w : List ℕ) (c : ℕ → ℕ) (b : ℕ) (a : Ahead n t w c b) where
  told_here : b < n → c b ≡ get_or w b 0
  told_here h = let o = ahead_at a h in o.same b (omega arith) (omega (arith, o.is.some))

  pub first_unmarked : (b < n → get_or w b 0 ≡ 0) → first (stretches (n - b) b c) ≢ suc b
  first_unmarked g e = ⊎_elim
      (λ h. first_none (n - b) b c (told_here h ∙ g h) e)
      (λ h.
      let q : n - b ≡ 0 = omega (arith, h) in
      let z : 0 ≡ suc b = sym (ap (λ (y : ℕ). first (stretches y b c)) q) ∙ e in
      omega (arith, z))
      (lt_or_le b n)

  pub first_index : (b < n → get_or w b 0 ≢ 0) → (r : ℕ) → IndexIs n b r → first (stretches (n - b) b c) ≡ r
  first_index g r i = ⊎_elim
      (λ h. first_some (n - b) b c (omega (arith, h)) (λ e. g h (sym (told_here h) ∙ e)) ∙ omega (arith, i.some h))
      (λ h.
      let q : n - b ≡ 0 = omega (arith, h) in
      ap (λ (y : ℕ). first (stretches y b c)) q ∙ sym (i.none h))
      (lt_or_le b n)
