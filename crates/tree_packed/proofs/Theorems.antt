-- Packed records and one record for each inode are the same: what a put keeps, when it finds the list full, and a run of puts from none open.
--
use mathlib.Core.Path.{◌≡◌, refl, sym, ap, ◌∙◌, subst}
use mathlib.Core.List.{List}
use mathlib.Core.Logic.{⊎_elim, ◌≢◌}
use Prim.Native.Nat.{ℕ, ◌+◌, ◌-◌, ◌*◌, ◌/◌, ◌≤◌, ◌<◌}
use native.Mathlib.Omega.{arith}
use lib.Dec.{eqb}
use lib.ListN.{length, get_or, set}
use lib.Seq.{get_or-set_same, get_or-set_other}
use borrow.Author.Tests.{eq-eqb, ne_eqb}
use Rattle.links.specs.Change.{pick, upd}
use Rattle.tree_packed.specs.Packed.{inode_at, Packed, Place, rec, below}
use Rattle.tree_packed.specs.Put.{Put, IsFull, gives, taken_out, put_in, put_of}
use Rattle.tree_packed.specs.Run.{Change, dense, Run, none, put}
use Rattle.std.proofs.Common.{Option, Some, None}
use Rattle.tree_packed.proofs.Laws.{le_or_lt, same_or_not, listed}
use Rattle.tree_packed.proofs.Moves.{taken_down, put_risen}
use Rattle.tree_packed.proofs.Cases.{put_nothing, put_full, put_new, put_out, put_over}
use Rattle.tree_packed.proofs.Keeps.{Keeps, below_place, keeps_over, keeps_out, keeps_in}

-- two outcomes that are one
same_count : {a b : ℕ} {p q : List ℕ} → gives (Some a) p ≡ gives (Some b) q → a ≡ b
same_count {a} {b} {p} {q} e = let f : Some a ≡ Some b = ap (λ (z : Put). z.kept) e in cc

same_list : {a b : Option ℕ} {p q : List ℕ} → gives a p ≡ gives b q → p ≡ q
same_list e = ap (λ (z : Put). z.list) e

not_both : {a : ℕ} {p q : List ℕ} → gives (Some a) p ≡ gives None q → ⊥
not_both {a} {p} {q} e = let f : Some a ≡ None = ap (λ (z : Put). z.kept) e in let z : ◌≡◌ {A = ℕ} 0 1 = cc in omega arith

-- nothing put over nothing
keeps_nothing : {k : ℕ} {l : List ℕ} {x r : ℕ} → Packed k l → rec k l x ≡ 0 → r ≡ 0 → Keeps k l x r k l
keeps_nothing {k} {l} {x} {r} P e z =
    record {
      packed = P;
      records = λ y. ⊎_elim (λ (q : y ≡ x). rw (eq-eqb y x q) (ap (rec k l) q ∙ e ∙ sym z)) (λ (q : y ≢ x). rw (ne_eqb y x q)) (same_or_not y x);
      size = refl;
      past = λ i h. refl;
    }

-- what a put gives: a list that is in order, with the number of records that goes with it, or None with the list as it was
data Outcome (k : ℕ) (l : List ℕ) (x r : ℕ) : Type 0 where
  stored : (m : ℕ) (l' : List ℕ) → put_of k l x r ≡ gives (Some m) l' → Keeps k l x r m l' → Outcome k l x r
  full : put_of k l x r ≡ gives None l → IsFull k l x → r ≢ 0 → Outcome k l x r

outcome : {k : ℕ} {l : List ℕ} {x : ℕ} (r : ℕ) → Packed k l → 0 < x → Outcome k l x r
outcome {k} {l} {x} r P some =
    let S : Place k l x (below k l x) = below_place k l x P in
    ⊎_elim
    (λ (e : rec k l x ≡ 0).
    ⊎_elim (λ (z : r ≡ 0). stored k l (sym (put_nothing P x r (rec k l x) refl e z)) (keeps_nothing P e z))
    (λ (z : r ≢ 0).
    ⊎_elim (λ (h : length l / 2 ≤ k). full (sym (put_full P x r (rec k l x) refl e z h)) (e, omega arith) z)
    (λ (h : k < length l / 2).
    stored (k + 1) (put_in k (below k l x) x r l) (sym (put_new P x r (rec k l x) refl (put_in k (below k l x) x r l) S e z h refl))
    (keeps_in P S e some (omega arith) (omega arith) (put_risen k (below k l x) x r l S.within (omega arith))))
    (le_or_lt (length l / 2) k))
    (same_or_not r 0))
    (λ (n : rec k l x ≢ 0).
    let f : (below k l x < k) × (inode_at l (below k l x) ≡ x) = listed P S (omega arith) in
    ⊎_elim
    (λ (z : r ≡ 0).
    stored (k - 1) (taken_out k (below k l x) l) (sym (put_out P x r (rec k l x) refl (taken_out k (below k l x) l) S n z refl))
    (subst (λ (v : ℕ). Keeps k l x v (k - 1) (taken_out k (below k l x) l)) (sym z) (keeps_out P f.0 f.1 (taken_down k (below k l x) l f.0 P.fits))))
    (λ (z : r ≢ 0).
    stored k (set l (2 * below k l x + 1) r) (sym (put_over P x r (rec k l x) refl S n z)) (keeps_over P f.0 f.1 (omega arith)))
    (same_or_not r 0))
    (same_or_not (rec k l x) 0)

-- a put that is not full: the list stays in order, x has the record put, every other inode the one that it had, and places past the records stay
pub put_keeps : {k : ℕ} {l : List ℕ} {x r m : ℕ} {l' : List ℕ} → Packed k l → 0 < x → put_of k l x r ≡ gives (Some m) l' → Keeps k l x r m l'
put_keeps {k} {l} {x} {r} {m} {l'} P some e = go (outcome r P some)
  where
    go : Outcome k l x r → Keeps k l x r m l'
    go (stored a p q K) =
        subst (λ (z : ℕ). Keeps k l x r z l') (same_count (sym q ∙ e)) (subst (λ (z : List ℕ). Keeps k l x r a z) (same_list (sym q ∙ e)) K)
    go (full q f z) = absurd (not_both (sym e ∙ q))

-- full exactly when no record of x is listed and every pair of places is taken, and the record put is not 0; then nothing has changed
pub full_only : {k : ℕ} {l : List ℕ} {x r : ℕ} {l' : List ℕ} → Packed k l → 0 < x → put_of k l x r ≡ gives None l' → IsFull k l x × (r ≢ 0) × (l' ≡ l)
full_only {k} {l} {x} {r} {l'} P some e = go (outcome r P some)
  where
    go : Outcome k l x r → IsFull k l x × (r ≢ 0) × (l' ≡ l)
    go (stored a p q K) = absurd (not_both (sym q ∙ e))
    go (full q f z) = (f, z, same_list (sym e ∙ q))

pub full_if : {k : ℕ} {l : List ℕ} (x r : ℕ) → Packed k l → IsFull k l x → r ≢ 0 → put_of k l x r ≡ gives None l
full_if {k} {l} x r P f z = sym (put_full P x r (rec k l x) refl f.0 z (let g : length l < 2 * (k + 1) = f.1 in omega arith))

-- no records
pub none_packed : (l : List ℕ) → Packed 0 l
none_packed l = record { fits = omega arith; named = λ i h. absurd (omega arith); rising = λ i h. absurd (omega arith); held = λ i h. absurd (omega arith) }

rec_zero : (l : List ℕ) (x : ℕ) → rec 0 l x ≡ 0
unfolding rec
rec_zero l x = refl

upd_same : (f g : ℕ → ℕ) → ((y : ℕ) → f y ≡ g y) → (x r y : ℕ) → upd f x r y ≡ upd g x r y
upd_same f g h x r y = ap (λ (z : ℕ). pick (eqb y x) r z) (h y)

-- a run of puts from none open, none of which found the list full: the list is in order, and its records are those of one for each inode
pub same_records : {start : List ℕ} {cs : List Change} {k : ℕ} {l : List ℕ} → Run start cs k l → Packed k l × ((y : ℕ) → rec k l y ≡ dense cs y)
same_records {start} none = (none_packed start, rec_zero start)
same_records (put {cs = cs} {k = k} {l = l} x r some run e) =
    let before : Packed k l × ((y : ℕ) → rec k l y ≡ dense cs y) = same_records run in
    let K = put_keeps before.0 some e in
    (K.packed, λ y. K.records y ∙ upd_same (rec k l) (dense cs) before.1 x r y)

-- the same over a list with one place an inode, as the calls had it before
pub same_set : (opens : List ℕ) (x r : ℕ) → x < length opens → (y : ℕ) → get_or (set opens x r) y 0 ≡ upd (λ z. get_or opens z 0) x r y
same_set opens x r h y =
    ⊎_elim (λ (q : y ≡ x). rw (eq-eqb y x q) (ap (λ (z : ℕ). get_or (set opens x r) z 0) q ∙ get_or-set_same opens x r 0 h))
    (λ (q : y ≢ x). rw (ne_eqb y x q) (get_or-set_other opens x y r 0 q))
    (same_or_not y x)

-- so a put keeps the two equal
pub same_put : {k : ℕ} {l : List ℕ} {m : ℕ} {l' : List ℕ} (opens : List ℕ) (x r : ℕ) → Packed k l → 0 < x → x < length opens
    → ((y : ℕ) → rec k l y ≡ get_or opens y 0) → put_of k l x r ≡ gives (Some m) l' → (y : ℕ) → rec m l' y ≡ get_or (set opens x r) y 0
same_put {k} {l} opens x r P some h s e y =
    (put_keeps P some e).records y ∙ upd_same (rec k l) (λ z. get_or opens z 0) s x r y ∙ sym (same_set opens x r h y)
