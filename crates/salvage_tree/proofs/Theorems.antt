-- What the entries that are listed are worth: where count, removed list and lengths are those of a sound table, they are exactly its live entries.
use mathlib.Core.Path.{◌≡◌, refl, sym, ap, subst⁻¹, ◌∙◌}
use mathlib.Core.List.{List, [], ◌∷◌, ◌++◌}
use mathlib.Core.Bool.{Bool, true, false, cond, ◌||◌}
use mathlib.Core.Logic.{inl, inr, ⊎_elim}
use Prim.Native.Nat.{ℕ, zero, suc, ◌+◌, ◌-◌, ◌/◌, ◌≤◌, ◌<◌}
use native.Mathlib.Omega.{arith}
use lib.Dec.{eqb}
use lib.ListN.{length}
use borrow.Author.Tests.{le-leb, ne_eqb}
use Rattle.order.specs.Gate.{cleared}
use Rattle.order.specs.Beside.{Beside, beside, within}
use Rattle.order.proofs.One.{one}
use Rattle.links.specs.Links.{◌∈◌, Distinct, Links}
use Rattle.links.specs.Change.{pick}
use Rattle.links.proofs.Laws.{kept, at_most}
use Rattle.tree_table.specs.Field.{field, count_field}
use Rattle.tree_table.specs.View.{View, LiveIn, removed_of}
use Rattle.tree_table.specs.Chain.{member}
use Rattle.tree_sound.specs.Sound.{Table}
use Rattle.tree_table.proofs.Chain.{member_in, not_member}
use Rattle.tree_marks.proofs.Walks.{le_or_lt}
use Rattle.salvage_tree.specs.Entries.{bound, met_from, collision, gone, others, entries}
use Rattle.salvage_tree.specs.Calls.{Entered, entered_gives, entered_rows, entered_done, entered_gate, EnteredPromise}
use Rattle.salvage_tree.proofs.Marked.{stops_zero, goes_on, met_stop, met_on}

-- ---- membership

untrue : {A : Type 0} → false ≡ true → A
untrue e = let z : ◌≡◌ {A = ℕ} 0 1 = ap (λ (b : Bool). cond b 1 0) e in absurd (omega (arith, z))

pub in_not : (y : ℕ) (l : List ℕ) → (y ∈ l → ⊥) → member y l ≡ false
in_not y l h = go (member y l) refl
  where
    go : (b : Bool) → member y l ≡ b → member y l ≡ false
    go true e = absurd (h (member_in y l e))
    go false e = e

-- ---- a list that ends is followed to its end

or_false : (a : Bool) → (a || false) ≡ a
or_false true = refl
or_false false = refl

turn : (a b c : Bool) → (pick a true b || c) ≡ (b || pick a true c)
turn true true c = refl
turn true false c = refl
turn false b c = refl

pub met_links : (k : ℕ) (next : ℕ → ℕ) (n : ℕ) (met : List ℕ) (x : ℕ) (xs : List ℕ) → Links next x xs → Distinct xs → ((y : ℕ) → y ∈ xs → y < n)
    → ((y : ℕ) → y ∈ xs → member y met ≡ false) → length xs ≤ k → (y : ℕ) → member y (met_from k next n met x) ≡ (member y met || member y xs)
met_links k next n met x [] l d b f h y =
    ap (member y) (met_stop k next n met x (stops_zero n met x l)) ∙ sym (or_false (member y met))
met_links zero next n met x (z ∷ zs) l d b f h y = absurd (omega (arith, h))
met_links (suc k) next n met x (z ∷ zs) l d b f h y =
    let e : x ≡ z = l.0 in
    let here : member x met ≡ false = subst⁻¹ (λ (v : ℕ). member v met ≡ false) e (f z (inl refl)) in
    let below : x < n = subst⁻¹ (λ (v : ℕ). v < n) e (b z (inl refl)) in
    let on = met_links k next n (x ∷ met) (next x) zs (subst⁻¹ (λ (v : ℕ). Links next (next v) zs) e l.2) d.1 (λ v i. b v (inr i))
    (λ v i. ap (λ (c : Bool). pick c true (member v met)) (ne_eqb x v (λ q. d.0 (subst⁻¹ (λ (u : ℕ). u ∈ zs) (sym e ∙ q) i))) ∙ f v (inr i))
    (omega (arith, h)) y in
    ap (member y) (met_on k next n met x (goes_on n met x (omega (arith, l.1, e)) below here))
    ∙ on
    ∙ turn (eqb x y) (member y met) (member y zs)
    ∙ ap (λ (v : ℕ). member y met || pick (eqb v y) true (member y zs)) e

-- ---- the others

in_others : (k x y : ℕ) (g : List ℕ) → y ∈ others k x g → (x ≤ y) × (y < x + k) × (member y g ≡ false)
in_others zero x y g h = absurd h
in_others (suc k) x y g h = go (member x g) refl h (in_others k (suc x) y g)
  where
    go : (b : Bool) → member x g ≡ b → y ∈ cond b (others k (suc x) g) (x ∷ others k (suc x) g)
        → (y ∈ others k (suc x) g → (suc x ≤ y) × (y < suc x + k) × (member y g ≡ false)) → (x ≤ y) × (y < x + suc k) × (member y g ≡ false)
    go true e h f = let z = f h in (omega (arith, z.0), omega (arith, z.1), z.2)
    go false e (inl q) f = (omega (arith, q), omega (arith, q), ap (λ (v : ℕ). member v g) q ∙ e)
    go false e (inr h) f = let z = f h in (omega (arith, z.0), omega (arith, z.1), z.2)

others_in : (k x y : ℕ) (g : List ℕ) → x ≤ y → y < x + k → member y g ≡ false → y ∈ others k x g
others_in zero x y g lo hi e = absurd (omega (arith, lo, hi))
others_in (suc k) x y g lo hi e = go (member x g) refl (λ h. others_in k (suc x) y g h (omega (arith, hi)) e)
  where
    go : (b : Bool) → member x g ≡ b → (suc x ≤ y → y ∈ others k (suc x) g) → y ∈ cond b (others k (suc x) g) (x ∷ others k (suc x) g)
    go true q f = ⊎_elim (λ h. f h) (λ h. let z : y ≡ x = omega (arith, lo, h) in untrue (sym e ∙ ap (λ (v : ℕ). member v g) z ∙ q)) (le_or_lt (suc x) y)
    go false q f = ⊎_elim (λ h. inr (f h)) (λ h. inl (omega (arith, lo, h))) (le_or_lt (suc x) y)

others_once : (k x : ℕ) (g : List ℕ) → Distinct (others k x g)
others_once zero x g = tt
others_once (suc k) x g = go (member x g) (others_once k (suc x) g)
  where
    go : (b : Bool) → Distinct (others k (suc x) g) → Distinct (cond b (others k (suc x) g) (x ∷ others k (suc x) g))
    go true d = d
    go false d = ((λ h. let z = in_others k (suc x) x g h in omega (arith, z.0)), d)

-- whatever the table holds, no entry is listed twice
pub once : (w : ℕ) (t : List ℕ) → Distinct (entries w t)
unfolding entries
once w t = others_once (bound w t - 1) 1 (gone w t)

-- ---- exact

-- a table is as a sound one in its length, its count, and the collision fields of entry 0 and of the removed entries, whatever stands elsewhere
pub record SameList (w : ℕ) (t t' : List ℕ) (v : View) : Type 0 where
  pub room : length t ≡ length t'
  pub count : field w t 0 count_field ≡ v.count
  pub first : collision w t 0 ≡ v.coll 0
  pub removed : (y : ℕ) → y ∈ removed_of v → collision w t y ≡ v.coll y
  pub fits : v.room ≡ length t' / w

module _ (w : ℕ) (t t' : List ℕ) (v : View) (s : Table v) (a : SameList w t t' v) where
  pub bounded : bound w t ≡ v.count
  unfolding bound
  bounded =
      let r : length t / w ≡ v.room = ap (λ (k : ℕ). k / w) a.room ∙ sym a.fits in
      rw (le-leb (field w t 0 count_field) (length t / w) (omega (arith, r, a.count, s.max_room, s.count_max))) a.count

  pub same_gone : (y : ℕ) → member y (gone w t) ≡ member y (removed_of v)
  unfolding gone
  same_gone y =
      let l : Links (collision w t) (collision w t 0) (removed_of v) =
      subst⁻¹ (λ (x : ℕ). Links (collision w t) x (removed_of v)) a.first (kept v.coll (collision w t) (v.coll 0) (removed_of v) a.removed s.removed) in
      ap (λ (k : ℕ). member y (met_from k (collision w t) k [] (collision w t 0))) bounded
      ∙ met_links v.count (collision w t) v.count [] (collision w t 0) (removed_of v) l s.removed_once s.removed_below (λ z h. refl)
      (at_most v.count (removed_of v) s.removed_once s.removed_below) y

  -- an entry that is listed is live
  pub listed_live : (y : ℕ) → y ∈ entries w t → LiveIn v y
  unfolding entries
  listed_live y h =
      let z = in_others (bound w t - 1) 1 y (gone w t) h in
      (omega (arith, z.0), omega (arith, z.0, z.1, bounded), not_member y (removed_of v) (sym (same_gone y) ∙ z.2))

  -- and every live entry is listed
  pub live_listed : (y : ℕ) → LiveIn v y → y ∈ entries w t
  unfolding entries
  live_listed y h = others_in (bound w t - 1) 1 y (gone w t) (omega (arith, h.0)) (omega (arith, h.0, h.1, bounded)) (same_gone y ∙ in_not y (removed_of v) h.2)

-- ---- one answer

pub one_entered : (w : ℕ) (t work list : List ℕ) (o o' : Beside Entered) → EnteredPromise w t work list o → EnteredPromise w t work list o' → o ≡ o'
one_entered w t work list o o' p q =
    one (entered_gate (λ a v. beside (entered_gives a 0 list) v) w t work ++ within (cleared (length t / w) work) (entered_rows w t list))
    (beside (entered_done w t list) (cleared (length t / w) work)) o o' p q
