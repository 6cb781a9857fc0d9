-- What stands in a table after a chain is laid in it: the chain, and all that shares no block with it.
use mathlib.Core.Path.{◌≡◌, refl, ◌∙◌}
use mathlib.Core.List.{List, [], ◌∷◌, ◌++◌}
use mathlib.Core.Logic.{◌⊎◌, inl, inr, ⊎_elim}
use Prim.Native.Nat.{ℕ, suc, ◌+◌, ◌-◌, ◌*◌, ◌≤◌, ◌<◌}
use native.Mathlib.Omega.{arith}
use lib.ListN.{length}
use Rattle.fat_node.specs.Entry.{Bytes, entry, get}
use Rattle.fat_node.specs.Node.{Run, run, set_node, set_head}
use Rattle.fat_node.proofs.Nodes.{le_or_lt, length_set_node, set_node_before, set_node_after, set_node_start, set_node_second, set_node_last, length_set_head, head_set, set_head_other}
use Rattle.fat_table.specs.Layout.{joined, hits, covers, empties}
use Rattle.fat_table.specs.Steps.{first, lay, relaid}
use Rattle.fat_table.specs.Holds.{HoldsNode, Laid, AllLaid}
use Rattle.fat_table.proofs.Layouts.{hits_in, hits_below, hits_most, covers_append, empties_append}

-- runs that share no block
abbrev pub Apart : Run → Run → Type 0
Apart r s = (s.start + s.size ≤ r.start) ⊎ (r.start + r.size ≤ s.start)

pub apart : (r s : Run) → 1 ≤ r.size → 1 ≤ s.size → ((x : ℕ) → hits x r + hits x s ≤ 1) → Apart r s
apart r s hr hs h = ⊎_elim
    (λ k. inl k)
    (λ k. ⊎_elim
    (λ m. inr m)
    (λ m. ⊎_elim
    (λ o. let z : ⊥ = omega (arith, h s.start, hits_in s.start r o m, hits_in s.start s (omega arith) (omega arith)) in absurd z)
    (λ o. let z : ⊥ = omega (arith, h r.start, hits_in r.start s (omega arith) k, hits_in r.start r (omega arith) (omega arith)) in absurd z)
    (le_or_lt r.start s.start))
    (le_or_lt (r.start + r.size) s.start))
    (le_or_lt (s.start + s.size) r.start)

module _ (t : Bytes) (r : Run) (p q : ℕ) (pos : 1 ≤ r.size) where
  -- an entry of a run apart is as it was
  set_node_apart : (s : Run) → Apart r s → (i : ℕ) → s.start < i → i ≤ s.start + s.size → get (set_node t r p q) i ≡ get t i
  set_node_apart s a i h k = ⊎_elim
      (λ m. set_node_before t r p q i (omega arith) pos)
      (λ m. set_node_after t r p q i (omega arith) pos)
      a

  pub keep_holds : (s : Run) (p' q' : ℕ) → 1 ≤ s.size → Apart r s → HoldsNode t s p' q' → HoldsNode (set_node t r p q) s p' q'
  keep_holds s p' q' h a w = record {
    start = set_node_apart s a (s.start + 1) (omega arith) (omega arith) ∙ w.start;
    second = λ k. set_node_apart s a (s.start + 2) (omega arith) (omega arith) ∙ w.second k;
    last = λ k. set_node_apart s a (s.start + s.size) (omega arith) (omega arith) ∙ w.last k;
  }

-- a chain laid ------------------------------------------------------------------------------------

pub length_lay : (l : List Run) (p : ℕ) (t : Bytes) → length (lay l p t) ≡ length t
length_lay [] p t = refl
length_lay (r ∷ l) p t = length_lay l (suc r.start) (set_node t r p (first l)) ∙ length_set_node t r p (first l)

pub lay_head : (l : List Run) (p : ℕ) (t : Bytes) → empties l ≡ 0 → get (lay l p t) 0 ≡ get t 0
lay_head [] p t e = refl
lay_head (r ∷ l) p t e = lay_head l (suc r.start) (set_node t r p (first l)) (omega arith) ∙ set_node_before t r p (first l) 0 (omega arith) (omega arith)

lay_keeps_holds : (l : List Run) (o : ℕ) (t : Bytes) (r : Run) (p q : ℕ) → 1 ≤ r.size → empties l ≡ 0 → ((x : ℕ) → hits x r + covers x l ≤ 1)
    → HoldsNode t r p q → HoldsNode (lay l o t) r p q
lay_keeps_holds [] o t r p q pos e c w = w
lay_keeps_holds (s ∷ l) o t r p q pos e c w =
    lay_keeps_holds l (suc s.start) (set_node t s o (first l)) r p q pos (omega arith) (λ x. omega (arith, c x))
    (keep_holds t s o (first l) (omega arith) r p q pos (apart s r (omega arith) pos (λ x. omega (arith, c x))) w)

pub lay_keeps : (l : List Run) (o : ℕ) (t : Bytes) (m : List Run) (p : ℕ) → empties m ≡ 0 → empties l ≡ 0 → ((x : ℕ) → covers x m + covers x l ≤ 1)
    → Laid t m p → Laid (lay l o t) m p
lay_keeps l o t [] p em e c w = tt
lay_keeps l o t (r ∷ m) p em e c w = (
  lay_keeps_holds l o t r p (first m) (omega arith) e (λ x. omega (arith, c x)) w.0,
  lay_keeps l o t m (suc r.start) (omega arith) e (λ x. omega (arith, c x)) w.1,
)

pub lay_keeps_all : (l : List Run) (o : ℕ) (t : Bytes) (fs : List (List Run)) → empties (joined fs) ≡ 0 → empties l ≡ 0
    → ((x : ℕ) → covers x (joined fs) + covers x l ≤ 1) → AllLaid t fs → AllLaid (lay l o t) fs
lay_keeps_all l o t [] ef e c w = tt
lay_keeps_all l o t (f ∷ fs) ef e c w = (
  lay_keeps l o t f 0 (omega (arith, empties_append f (joined fs))) e (λ x. omega (arith, c x, covers_append x f (joined fs))) w.0,
  lay_keeps_all l o t fs (omega (arith, empties_append f (joined fs))) e (λ x. omega (arith, c x, covers_append x f (joined fs))) w.1,
)

-- the head set: no node changes
head_holds : (t : Bytes) (i : ℕ) (r : Run) (p q : ℕ) → HoldsNode t r p q → 1 ≤ r.size → HoldsNode (set_head t i) r p q
head_holds t i r p q w h = record {
  start = set_head_other t i (r.start + 1) (omega arith) ∙ w.start;
  second = λ k. set_head_other t i (r.start + 2) (omega arith) ∙ w.second k;
  last = λ k. set_head_other t i (r.start + r.size) (omega arith) ∙ w.last k;
}

pub head_laid : (t : Bytes) (i : ℕ) (l : List Run) (p : ℕ) → empties l ≡ 0 → Laid t l p → Laid (set_head t i) l p
head_laid t i [] p e w = tt
head_laid t i (r ∷ l) p e w = (head_holds t i r p (first l) w.0 (omega arith), head_laid t i l (suc r.start) (omega arith) w.1)

pub head_all : (t : Bytes) (i : ℕ) (fs : List (List Run)) → empties (joined fs) ≡ 0 → AllLaid t fs → AllLaid (set_head t i) fs
head_all t i [] e w = tt
head_all t i (f ∷ fs) e w = (
  head_laid t i f 0 (omega (arith, empties_append f (joined fs))) w.0,
  head_all t i fs (omega (arith, empties_append f (joined fs))) w.1,
)

-- a run whose blocks are all below n
pub inside_of : (n : ℕ) (r : Run) → 1 ≤ r.size → ((x : ℕ) → hits x r ≤ hits x (run 0 n)) → r.start + r.size ≤ n
inside_of n r h c =
    let x : ℕ = r.start + (r.size - 1) in
    omega (arith, hits_below x (run 0 n) (omega (arith, c x, hits_in x r (omega arith) (omega arith))))

pub first_inside : (n : ℕ) (l : List Run) → empties l ≡ 0 → ((x : ℕ) → covers x l ≤ hits x (run 0 n)) → first l ≤ n
first_inside n [] e c = omega arith
first_inside n (r ∷ l) e c = omega (arith, inside_of n r (omega arith) (λ x. omega (arith, c x)))

module _ (n : ℕ) (small : n ≤ 1000000) where
  module _ (t : Bytes) (r : Run) (p q : ℕ) (len : length t ≡ 8 * (n + 1)) (pos : 1 ≤ r.size) (inside : r.start + r.size ≤ n) (hp : p ≤ n) (hq : q ≤ n) where
    holds_set : HoldsNode (set_node t r p q) r p q
    holds_set = record {
      start = set_node_start n small t r p q len pos inside hp hq;
      second = set_node_second n small t r p q len pos inside hp hq;
      last = set_node_last n small t r p q len pos inside hp hq;
    }

  pub laid_lay : (l : List Run) (p : ℕ) (t : Bytes) → length t ≡ 8 * (n + 1) → p ≤ n → empties l ≡ 0 → ((x : ℕ) → covers x l ≤ hits x (run 0 n)) → Laid (lay l p t) l p
  laid_lay [] p t len hp e c = tt
  laid_lay (r ∷ l) p t len hp e c =
      let pos : 1 ≤ r.size = omega arith in
      let el : empties l ≡ 0 = omega arith in
      let inside : r.start + r.size ≤ n = inside_of n r pos (λ x. omega (arith, c x)) in
      let cl : (x : ℕ) → covers x l ≤ hits x (run 0 n) = λ x. omega (arith, c x) in
      let t' : Bytes = set_node t r p (first l) in (
        lay_keeps_holds l (suc r.start) t' r p (first l) pos el (λ x. omega (arith, c x, hits_most x (run 0 n)))
            (holds_set t r p (first l) len pos inside hp (first_inside n l el cl)),
        laid_lay l (suc r.start) t' (length_set_node t r p (first l) ∙ len) (omega arith) el cl,
      )

  -- the table after a step shows the file and the free chain that the step laid, and the files that it left alone
  pub relaid_laid : (t : Bytes) (file free : List Run) (files : List (List Run)) → length t ≡ 8 * (n + 1) → AllLaid t files
      → empties (free ++ (file ++ joined files)) ≡ 0 → ((x : ℕ) → covers x (free ++ (file ++ joined files)) ≡ hits x (run 0 n))
      → (length (relaid t file free) ≡ 8 * (n + 1)) × (get (relaid t file free) 0 ≡ entry 0 (first free))
      × Laid (relaid t file free) free 0 × Laid (relaid t file free) file 0 × AllLaid (relaid t file free) files
  relaid_laid t file free files len w e c =
      let ee : empties free + (empties file + empties (joined files)) ≡ 0 = simp empties_append at e in
      let cc' : (x : ℕ) → covers x free + (covers x file + covers x (joined files)) ≤ hits x (run 0 n) =
      λ x. omega (arith, c x, covers_append x free (file ++ joined files), covers_append x file (joined files)) in
      let ef : empties free ≡ 0 = omega arith in
      let eg : empties file ≡ 0 = omega arith in
      let ej : empties (joined files) ≡ 0 = omega arith in
      let t₁ : Bytes = lay file 0 t in
      let t₂ : Bytes = lay free 0 t₁ in
      let l₁ : length t₁ ≡ 8 * (n + 1) = length_lay file 0 t ∙ len in
      let l₂ : length t₂ ≡ 8 * (n + 1) = length_lay free 0 t₁ ∙ l₁ in
      let a : Laid t₁ file 0 = laid_lay file 0 t len (omega arith) eg (λ x. omega (arith, cc' x)) in
      let b : Laid t₂ file 0 = lay_keeps free 0 t₁ file 0 eg ef (λ x. omega (arith, cc' x, hits_most x (run 0 n))) a in
      let d : Laid t₂ free 0 = laid_lay free 0 t₁ l₁ (omega arith) ef (λ x. omega (arith, cc' x)) in
      let f : AllLaid t₂ files =
      lay_keeps_all free 0 t₁ files ej ef (λ x. omega (arith, cc' x, hits_most x (run 0 n)))
      (lay_keeps_all file 0 t files ej eg (λ x. omega (arith, cc' x, hits_most x (run 0 n))) w) in (
        length_set_head t₂ (first free) ∙ l₂,
        head_set t₂ (first free) (omega arith) (omega (arith, first_inside n free ef (λ x. omega (arith, cc' x)))),
        head_laid t₂ (first free) free 0 ef d,
        head_laid t₂ (first free) file 0 eg b,
        head_all t₂ (first free) files ej f,
      )
