-- What a chain that is told 0 is worth: it is whole, and no other whole chain of the list has a block of it.
use mathlib.Core.Path.{◌≡◌, refl, sym, ap, ◌∙◌}
use mathlib.Core.List.{List, [], ◌∷◌}
use mathlib.Core.Bool.{Bool, true, false, cond}
use mathlib.Core.Logic.{⊎_elim}
use Prim.Native.Nat.{ℕ, zero, suc, ◌+◌, ◌≤◌, ◌<◌}
use native.Mathlib.Omega.{arith}
use lib.Dec.{eqb, leb}
use lib.ListN.{length, get_or}
use borrow.Author.Tests.{leb-false, eqb-true, eqb-false}
use Rattle.fat_node.specs.Entry.{Bytes}
use Rattle.fat_node.specs.Node.{Run}
use Rattle.fat_node.proofs.Nodes.{le_or_lt}
use Rattle.fat_node.proofs.Faults.{or_no}
use Rattle.fat_table.specs.Layout.{covers}
use Rattle.fat_table.proofs.Layouts.{hits_lo, hits_hi}
use Rattle.salvage.specs.Follow.{salvaged}
use Rattle.salvage_shared.specs.Shared.{kinds, laid, twice, meets, told, tells, trusts}
use Rattle.salvage_shared.proofs.Loops.{kinds_many, kinds_whole}

-- ---- a chain that meets no other

once : (s b : ℕ) (l : List Run) → twice s b l ≡ false → (x : ℕ) → b ≤ x → x < b + s → covers x l ≤ 1
once zero b l e x lo hi = absurd (omega (arith, lo, hi))
once (suc s) b l e x lo hi =
    let w = or_no (leb 2 (covers b l)) (twice s (suc b) l) e in
    ⊎_elim
    (λ h. once s (suc b) l w.1 x h (omega (arith, hi)))
    (λ h. let q : x ≡ b = omega (arith, lo, h) in omega (arith, ap (λ (y : ℕ). covers y l) q, leb-false 2 (covers b l) w.0))
    (le_or_lt (suc b) x)

pub alone : (c l : List Run) → meets c l ≡ false → (x : ℕ) → 0 < covers x c → covers x l ≤ 1
alone [] l e x h = absurd (omega (arith, h))
alone (r ∷ c) l e x h =
    let w = or_no (twice r.size r.start l) (meets c l) e in
    ⊎_elim
    (λ lo. ⊎_elim
    (λ hi. alone c l w.1 x (omega (arith, h, hits_hi x r hi)))
    (λ hi. once r.size r.start l w.0 x lo hi)
    (le_or_lt (r.start + r.size) x))
    (λ lo. alone c l w.1 x (omega (arith, h, hits_lo x r lo)))
    (le_or_lt r.start x)

-- ---- what is told of one of a list

tells_at : (n : ℕ) (t : Bytes) (l : List Run) (firsts ks : List ℕ) (i : ℕ) → i < length firsts → length ks ≡ length firsts
    → get_or (tells n t l firsts ks) i 0 ≡ told n t l (get_or firsts i 0) (get_or ks i 0)
tells_at n t l [] ks i h e = absurd (omega (arith, h))
tells_at n t l (b ∷ bs) [] i h e = absurd (omega (arith, e))
tells_at n t l (b ∷ bs) (k ∷ ks) zero h e = refl
tells_at n t l (b ∷ bs) (k ∷ ks) (suc i) h e = tells_at n t l bs ks i (omega (arith, h)) (omega (arith, e))

told_zero : (n : ℕ) (t : Bytes) (l : List Run) (b k : ℕ) → told n t l b k ≡ 0 → (k ≡ 0) × (meets (salvaged n t b).runs l ≡ false)
unfolding told
told_zero n t l b k = go (eqb k 0) refl (meets (salvaged n t b).runs l)
  where
    go : (x : Bool) → eqb k 0 ≡ x → (y : Bool) → ◌≡◌ {A = ℕ} (cond x (cond y 2 0) k) 0 → (k ≡ 0) × (y ≡ false)
    go true e true h = absurd (omega (arith, h))
    go true e false h = (eqb-true k 0 e, refl)
    go false e y h = absurd (eqb-false k 0 e h)

-- the chain of a first block that is told 0 is whole, and each block of it is in one run alone of all the whole chains of the list
pub trusted : (n : ℕ) (t : Bytes) (firsts : List ℕ) (i : ℕ) → i < length firsts → get_or (trusts n t firsts) i 0 ≡ 0
    → ((salvaged n t (get_or firsts i 0)).why.rule ≡ 0) × ((x : ℕ) → 0 < covers x (salvaged n t (get_or firsts i 0)).runs → covers x (laid n t firsts (kinds n t firsts 0)) ≤ 1)
unfolding trusts
trusted n t firsts i h e =
    let z = told_zero n t (laid n t firsts (kinds n t firsts 0)) (get_or firsts i 0) (get_or (kinds n t firsts 0) i 0)
    (sym (tells_at n t (laid n t firsts (kinds n t firsts 0)) firsts (kinds n t firsts 0) i h (kinds_many n t firsts 0)) ∙ e) in
    (kinds_whole n t firsts 0 i h z.0, alone (salvaged n t (get_or firsts i 0)).runs (laid n t firsts (kinds n t firsts 0)) z.1)
