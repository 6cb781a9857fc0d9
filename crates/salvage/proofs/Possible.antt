-- A whole chain is a file's in some sound table: that it is whole says no more than the entries allow.
use mathlib.Core.Path.{◌≡◌, refl, sym, ap, subst, subst⁻¹, ◌∙◌}
use mathlib.Core.List.Memᴰ
use mathlib.Core.List.{List, [], ◌∷◌, ◌++◌, append-nil}
use mathlib.Core.Bool.{cond}
use mathlib.Core.Logic.{◌≢◌, ⊎_elim}
use Prim.Native.Nat.{ℕ, zero, suc, ◌+◌, ◌*◌, ◌≤◌, ◌<◌}
use native.Mathlib.Omega.{arith}
use lib.Dec.{eqb}
use lib.ListN.{length}
use borrow.Author.Tests.{eq-eqb, ne_eqb}
use Rattle.words.proofs.Laws as words
use Rattle.order.specs.Answer.{unbroken}
use Rattle.fat_node.specs.Entry.{Bytes}
use Rattle.fat_node.specs.Node.{Run, run, prev_at, next_at}
use Rattle.fat_node.proofs.Nodes.{le_or_lt}
use Rattle.fat_table.specs.Sound.{File}
use Rattle.fat_table.specs.Layout.{layout, hits, covers, empties}
use Rattle.fat_table.specs.Steps.{first, relaid}
use Rattle.fat_table.specs.Holds.{HoldsNode, Laid, Holds}
use Rattle.fat_table.specs.Agree.{SameNode}
use Rattle.fat_table.proofs.Layouts.{hits_in, hits_lo, hits_hi, hits_most, covers_append, empties_append}
use Rattle.fat_table.proofs.Laying.{relaid_laid}
use Rattle.fat_table.proofs.Sounds.{node_holds, holds_sound}
use Rattle.fat_table.proofs.Files.{Whole, is_file, bytes_relaid}
use Rattle.fat_table.proofs.Chains.{zero_or_not}
use Rattle.salvage.specs.Follow.{salvage, salvaged, SameIn}
use Rattle.salvage.proofs.Bounds.{Apart, apart_none}
use Rattle.salvage.proofs.Follows.{Stands, stop, node, left}

-- the nodes of a whole chain stand laid ------------------------------------------------------------

stands_first : (n : ℕ) (t : Bytes) (p i e : ℕ) (l : List Run) → Stands n t p i l e → e ≡ 0 → i ≡ first l
stands_first n t p i e l stop z = z
stands_first n t p i e l (node w back r) z = refl

stands_laid : (n : ℕ) (t : Bytes) → words.Bytes t → (p i e : ℕ) (l : List Run) → Stands n t p i l e → e ≡ 0 → Laid t l p
stands_laid n t g p i e l stop z = tt
stands_laid n t g p i e l (node {b = b} {s} {l = l'} w back r) z = (
  subst (λ (x : ℕ). HoldsNode t (run b s) x (first l')) back
      (subst (HoldsNode t (run b s) (prev_at t b)) (stands_first n t (suc b) (next_at t b) e l' r z) (node_holds t n b s g w)),
  stands_laid n t g (suc b) (next_at t b) e l' r z,
)

laid_same : (t t' : Bytes) (l : List Run) (p : ℕ) → Laid t l p → Laid t' l p → SameIn t t' l
laid_same t t' [] p w w' r m = absurd (Memᴰ.not-nil m)
laid_same t t' (a ∷ l) p w w' r m = ⊎_elim
    (λ q. subst⁻¹ (λ (x : Run). SameNode t t' x.start x.size) q (record {
      start = w.0.start ∙ sym w'.0.start;
      second = λ h. let e : a.size ≢ 1 = λ k. omega (arith, h, k) in w.0.second e ∙ sym (w'.0.second e);
      last = λ h. let e : a.size ≢ 1 = λ k. omega (arith, h, k) in w.0.last e ∙ sym (w'.0.last e);
    }))
    (λ k. laid_same t t' l (suc a.start) w.1 w'.1 r k)
    (Memᴰ.cases_cons m)

-- the blocks below m that are in no run of the list, each a run of its own -------------------------

gaps : ℕ → List Run → List Run
gaps zero c = []
gaps (suc m) c = cond (eqb (covers m c) 0) (run m 1 ∷ gaps m c) (gaps m c)

gap : (m : ℕ) (c : List Run) → covers m c ≡ 0 → gaps (suc m) c ≡ run m 1 ∷ gaps m c
unfolding gaps
gap m c e = rw (eq-eqb (covers m c) 0 e)

gapless : (m : ℕ) (c : List Run) → covers m c ≢ 0 → gaps (suc m) c ≡ gaps m c
unfolding gaps
gapless m c e = rw (ne_eqb (covers m c) 0 e)

gaps_none : (c : List Run) → gaps 0 c ≡ []
unfolding gaps
gaps_none c = refl

gaps_some : (m : ℕ) (c : List Run) → empties (gaps m c) ≡ 0
gaps_some zero c = ap empties (gaps_none c)
gaps_some (suc m) c = ⊎_elim
    (λ e. omega (arith, ap empties (gap m c e), gaps_some m c))
    (λ e. omega (arith, ap empties (gapless m c e), gaps_some m c))
    (zero_or_not (covers m c))

-- what is there of block x, by whether it is below m and in a run
gaps_over : (m : ℕ) (c : List Run) (x : ℕ) → m ≤ x → covers x (gaps m c) ≡ 0
gaps_over zero c x h = ap (covers x) (gaps_none c)
gaps_over (suc m) c x h = ⊎_elim
    (λ e. omega (arith, ap (covers x) (gap m c e), hits_hi x (run m 1) (omega (arith, h)), gaps_over m c x (omega (arith, h))))
    (λ e. omega (arith, ap (covers x) (gapless m c e), gaps_over m c x (omega (arith, h))))
    (zero_or_not (covers m c))

gaps_at : (m : ℕ) (c : List Run) (x : ℕ) → x < m → covers x c ≤ 1 → covers x (gaps m c) + covers x c ≡ 1
gaps_at zero c x h k = absurd (omega (arith, h))
gaps_at (suc m) c x h k = ⊎_elim
    (λ l.
    let q : x ≡ m = omega (arith, h, l) in
    let qc : covers x c ≡ covers m c = ap (λ (y : ℕ). covers y c) q in
    ⊎_elim
    (λ e. omega (arith, ap (covers x) (gap m c e), hits_in x (run m 1) (omega (arith, q)) (omega (arith, q)), gaps_over m c x (omega (arith, q)), qc, e))
    (λ e. omega (arith, ap (covers x) (gapless m c e), gaps_over m c x (omega (arith, q)), qc, e, k))
    (zero_or_not (covers m c)))
    (λ l. ⊎_elim
    (λ e. omega (arith, ap (covers x) (gap m c e), hits_lo x (run m 1) l, gaps_at m c x l k))
    (λ e. omega (arith, ap (covers x) (gapless m c e), gaps_at m c x l k))
    (zero_or_not (covers m c)))
    (le_or_lt m x)

-- a sound table with the chain ----------------------------------------------------------------------

-- a sound table of n blocks with the file c at block b, whose entries t has
pub record Model (n : ℕ) (t : Bytes) (b : ℕ) (c : List Run) : Type 0 where
  pub table : Bytes
  pub whole : Whole n table
  pub file : File table n b
  pub same : SameIn t table c

model : (n : ℕ) → n ≤ 1000000 → (t : Bytes) → words.Bytes t → length t ≡ 8 * (n + 1) → (b : ℕ) (c : List Run)
    → Apart n c → Laid t c 0 → first c ≡ suc b → Model n t b c
model n small t g room b [] a w f = absurd (omega (arith, f))
model n small t g room b (r ∷ l) a w f =
    let c : List Run = r ∷ l in
    let free : List Run = gaps n c in
    let t' : Bytes = relaid t c free in
    let e : empties (free ++ (c ++ [])) ≡ 0 = omega (arith, empties_append free (c ++ []), ap empties (append-nil c), gaps_some n c, a.some) in
    let o : (x : ℕ) → covers x (free ++ (c ++ [])) ≡ hits x (run 0 n) =
    λ x. ⊎_elim
    (λ h. omega (arith, covers_append x free (c ++ []), ap (covers x) (append-nil c), gaps_over n c x h, a.inside x, hits_hi x (run 0 n) (omega (arith, h))))
    (λ h. omega (arith, covers_append x free (c ++ []), ap (covers x) (append-nil c), gaps_at n c x h (omega (arith, a.inside x, hits_most x (run 0 n))), hits_in x (run 0 n) (omega arith) (omega (arith, h))))
    (le_or_lt n x) in
    let k = relaid_laid n small t c free [] room tt e o in
    let holds : Holds n t' (layout free (c ∷ [])) = record {
      room = k.0;
      head = k.1;
      free = k.2;
      files = (k.3, k.4);
      tiled = record { positive = e; once = o; nonempty = omega arith };
    } in
    record {
      table = t';
      whole = record { small = small; bytes = bytes_relaid t c free g; room = k.0; sound = holds_sound n small t' (layout free (c ∷ [])) holds };
      file = is_file n small t' free c [] b holds f;
      same = laid_same t t' c 0 w k.3;
    }

-- where the walk is whole, some sound table has that file, and t has the entries of its nodes
pub possible : (n : ℕ) → n ≤ 1000000 → (t : Bytes) → words.Bytes t → length t ≡ 8 * (n + 1) → (b : ℕ) (c : List Run)
    → salvaged n t b ≡ salvage c unbroken → Model n t b c
possible n small t g room b c h =
    let o = left (suc n) n t [] 0 (suc b) (apart_none n) in
    let q : (salvaged n t b).runs ≡ c = ap (λ s. s.runs) h in
    let z : o.end ≡ 0 = o.whole (ap (λ s. s.why.rule) h) in
    subst (Model n t b) (sym o.is ∙ q)
    (model n small t g room b o.rest (subst (Apart n) o.is o.apart) (stands_laid n t g 0 (suc b) o.end o.rest o.stands z)
    (sym (stands_first n t 0 (suc b) o.end o.rest o.stands z)))
