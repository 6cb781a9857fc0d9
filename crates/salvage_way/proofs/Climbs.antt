-- Going up, directory by directory: what is counted, and what is listed.
use mathlib.Core.Path.{◌≡◌, refl, sym, ap, subst⁻¹, ◌∙◌}
use mathlib.Core.List.{List, [], ◌∷◌, ◌++◌}
use mathlib.Core.Bool.{Bool, true, false, cond, not, ◌&&◌}
use Prim.Native.Nat.{ℕ, zero, suc, ◌+◌, ◌*◌, ◌-◌, ◌≤◌, ◌<◌}
use native.Mathlib.Omega.{arith}
use native.Mathlib.Nat.{sub-zero, div-add-mod}
use lib.Dec.{ltb}
use lib.ListN.{length, get_or, set, take, length-set, length-append}
use lib.Seq.{length-take-le, take_all}
use Rattle.std.proofs.lemmas.List.{append_assoc, append-nil, take_more_set}
use borrow.Author.Tests.{eq-eqb, ne_eqb, ltb-true}
use Rattle.tree_table.specs.Field.{field}
use Rattle.tree_table.specs.Chain.{member, link_at}
use Rattle.salvage_tree.specs.Entries.{bound, goes, gone}
use Rattle.salvage_tree.specs.Inner.Says.{Marks}
use Rattle.salvage_tree.proofs.Marked.{stops_zero, stops_over, stops_met, goes_on, marked_met, free_met, marks_on}
use Rattle.salvage_tree.proofs.Outs.{bound_low}
use Rattle.salvage_way.specs.Way.{parent_of, way_from, way}
use Rattle.salvage_way.specs.Inner.Says.{Ready}

pub parent_root : (t : List ℕ) (x : ℕ) → x ≡ 1 → 0 ≡ parent_of t x
unfolding parent_of
parent_root t x e = rw (eq-eqb x 1 e)

pub parent_named : (t : List ℕ) (x y : ℕ) → (x ≡ 1 → ⊥) → y ≡ link_at t 40 0 x → y ≡ parent_of t x
unfolding parent_of field
parent_named t x y e q = rw (ne_eqb x 1 e) q

pub way_stop : (k : ℕ) (t : List ℕ) (n : ℕ) (met : List ℕ) (x : ℕ) → goes n met x ≡ false → way_from k t n met x ≡ []
way_stop zero t n met x e = refl
way_stop (suc k) t n met x e = rw e

pub way_on : (k : ℕ) (t : List ℕ) (n : ℕ) (met : List ℕ) (x : ℕ) → goes n met x ≡ true → way_from (suc k) t n met x ≡ x ∷ way_from k t n (x ∷ met) (parent_of t x)
way_on k t n met x e = rw e

begins : (t : List ℕ) (x : ℕ) → way t x ≡ way_from (bound 40 t) t (bound 40 t) (gone 40 t) x
unfolding way
begins t x = refl

-- ---- a step

-- at directory x, with what was met before marked
pub record Climbing (t : List ℕ) (n : ℕ) (work₀ work : List ℕ) (x left : ℕ) (rest : List ℕ) : Type 0 where
  pub met : List ℕ
  pub is : rest ≡ way_from left t n met x
  pub marks : Marks work met
  pub long : length work ≡ length work₀

climb_begin : (t : List ℕ) (n : ℕ) (work : List ℕ) (x : ℕ) → Ready t n work → Climbing t n work work x (n - 0) (way t x)
climb_begin t n work x r = record {
  met = gone 40 t;
  is = begins t x ∙ ap (λ (k : ℕ). way_from k t k (gone 40 t) x) (sym r.sized.is) ∙ ap {B = List ℕ} (λ (k : ℕ). way_from k t n (gone 40 t) x) (sym (sub-zero n));
  marks = r.marks;
  long = refl;
}

module _ (t : List ℕ) (n : ℕ) (work₀ work : List ℕ) (x left : ℕ) (rest : List ℕ) (g : Climbing t n work₀ work x left rest) where
  stop : goes n g.met x ≡ false → rest ≡ []
  stop e = g.is ∙ way_stop left t n g.met x e

  at_zero : x ≡ 0 → rest ≡ []
  at_zero e = stop (stops_zero n g.met x e)

  module _ (p : (x ≡ 0) → ⊥) where
    some : 0 < x
    some = omega (arith, p)

    at_over : n ≤ x → rest ≡ []
    at_over h = stop (stops_over n g.met x some h)

    module _ (h : x < n) (i : ℕ) (q : i ≡ x) where
      at_met : (get_or work i 0 ≡ 0 → ⊥) → rest ≡ []
      at_met e = stop (stops_met n g.met x some h (marked_met work g.met x g.marks (λ z. e (ap (λ (j : ℕ). get_or work j 0) q ∙ z))))

      module _ (e : get_or work i 0 ≡ 0) (left' : ℕ) (k : left ≡ left' + 1) where
        here : rest ≡ x ∷ way_from left' t n (x ∷ g.met) (parent_of t x)
        here =
            let m : left ≡ suc left' = omega (arith, k) in
            g.is ∙ ap (λ (l : ℕ). way_from l t n g.met x) m
            ∙ way_on left' t n g.met x (goes_on n g.met x some h (free_met work g.met x g.marks (ap (λ (j : ℕ). get_or work j 0) (sym q) ∙ e)))

        on : Ready t n work₀ → (y : ℕ) → y ≡ parent_of t x → Climbing t n work₀ (set work i 1) y left' (way_from left' t n (x ∷ g.met) (parent_of t x))
        on s y f = subst⁻¹ (λ (j : ℕ). Climbing t n work₀ (set work j 1) y left' (way_from left' t n (x ∷ g.met) (parent_of t x))) q (record {
          met = x ∷ g.met;
          is = ap (way_from left' t n (x ∷ g.met)) (sym f);
          marks = marks_on work g.met x g.marks (omega (arith, h, s.sized.long, g.long));
          long = length-set work x 1 ∙ g.long;
        })

-- ---- counting

pub record Counting (t : List ℕ) (n : ℕ) (work₀ work : List ℕ) (inode x left count : ℕ) : Type 0 where
  pub rest : List ℕ
  pub climbing : Climbing t n work₀ work x left rest
  pub sum : count + length rest ≡ length (way t inode)
  pub few : count + left ≤ n

pub count_begin : (t : List ℕ) (n : ℕ) (work : List ℕ) (inode : ℕ) → Ready t n work → Counting t n work work inode inode (n - 0) 0
count_begin t n work inode r = record { rest = way t inode; climbing = climb_begin t n work inode r; sum = omega arith; few = omega arith }

module _ (t : List ℕ) (n : ℕ) (work₀ work : List ℕ) (inode x left count : ℕ) (g : Counting t n work₀ work inode x left count) where
  counted : g.rest ≡ [] → count ≡ length (way t inode)
  counted e = omega (arith, g.sum, ap length e)

  pub count_zero : x ≡ 0 → count ≡ length (way t inode)
  count_zero e = counted (at_zero t n work₀ work x left g.rest g.climbing e)

  pub count_over : ((x ≡ 0) → ⊥) → n ≤ x → count ≡ length (way t inode)
  count_over p h = counted (at_over t n work₀ work x left g.rest g.climbing p h)

  pub count_met : ((x ≡ 0) → ⊥) → x < n → (i : ℕ) → i ≡ x → (get_or work i 0 ≡ 0 → ⊥) → count ≡ length (way t inode)
  count_met p h i q e = counted (at_met t n work₀ work x left g.rest g.climbing p h i q e)

  pub count_on : ((x ≡ 0) → ⊥) → x < n → (i : ℕ) → i ≡ x → get_or work i 0 ≡ 0 → (left' : ℕ) → left ≡ left' + 1 → Ready t n work₀ → (y : ℕ) → y ≡ parent_of t x
      → Counting t n work₀ (set work i 1) inode y left' (count + 1)
  count_on p h i q e left' k s y f =
      let r = here t n work₀ work x left g.rest g.climbing p h i q e left' k in
      record {
        rest = way_from left' t n (x ∷ g.climbing.met) (parent_of t x);
        climbing = on t n work₀ work x left g.rest g.climbing p h i q e left' k s y f;
        sum = omega (arith, g.sum, ap length r);
        few = omega (arith, g.few, k);
      }

-- ---- listing

-- x is the next directory of the way that starts at inode, after the first i, which stand in the list
pub record Listing (t : List ℕ) (inode x i : ℕ) (l : List ℕ) : Type 0 where
  pub left : ℕ
  pub met : List ℕ
  pub is : way t inode ≡ take i l ++ way_from left t (bound 40 t) met x

pub list_begin : (t : List ℕ) (inode : ℕ) (l : List ℕ) → Listing t inode inode 0 l
list_begin t inode l = record { left = bound 40 t; met = gone 40 t; is = begins t inode }

goes_below : (n : ℕ) (met : List ℕ) (x : ℕ) → goes n met x ≡ true → x < n
unfolding goes
goes_below n met x e = go (ltb 0 x) (ltb x n) refl e
  where
    go : (a b : Bool) → ltb x n ≡ b → (a && (b && not (member x met))) ≡ true → x < n
    go true true q h = ltb-true x n q
    go true false q h = cc
    go false b q h = cc

-- the way goes on with x, which lies in the table
record Next (t : List ℕ) (x : ℕ) (rest : List ℕ) : Type 0 where
  left : ℕ
  met : List ℕ
  is : rest ≡ x ∷ way_from left t (bound 40 t) met (parent_of t x)
  below : x < bound 40 t

next : (k : ℕ) (t met : List ℕ) (x : ℕ) → 0 < length (way_from k t (bound 40 t) met x) → Next t x (way_from k t (bound 40 t) met x)
next zero t met x h = absurd (omega (arith, h))
next (suc k) t met x h = go (goes (bound 40 t) met x) refl h
  where
    go : (b : Bool) → goes (bound 40 t) met x ≡ b → 0 < length (cond b (x ∷ way_from k t (bound 40 t) (x ∷ met) (parent_of t x)) [])
        → Next t x (cond b (x ∷ way_from k t (bound 40 t) (x ∷ met) (parent_of t x)) [])
    go true e h = record { left = k; met = x ∷ met; is = refl; below = goes_below (bound 40 t) met x e }
    go false e h = absurd (omega (arith, h))

module _ (t : List ℕ) (inode x i : ℕ) (l : List ℕ) (long : length l ≡ length (way t inode)) (g : Listing t inode x i l) (h : i < length l) where
  more : Next t x (way_from g.left t (bound 40 t) g.met x)
  more = next g.left t g.met x (omega (arith, ap length g.is, length-append (take i l) (way_from g.left t (bound 40 t) g.met x), length-take-le i l))

  pub list_in : x * 40 + 40 ≤ length t
  list_in = omega (arith, more.below, bound_low 40 t, div-add-mod (length t) 40)

  pub list_on : (y : ℕ) → y ≡ parent_of t x → Listing t inode y (i + 1) (set l i x)
  list_on y f = record {
    left = more.left;
    met = more.met;
    is = g.is ∙ ap (λ (r : List ℕ). take i l ++ r) more.is
        ∙ sym (append_assoc (take i l) (x ∷ []) (way_from more.left t (bound 40 t) more.met (parent_of t x)))
        ∙ ap (λ (a : List ℕ). a ++ way_from more.left t (bound 40 t) more.met (parent_of t x)) (sym (take_more_set l i x h))
        ∙ ap (λ (z : ℕ). take (i + 1) (set l i x) ++ way_from more.left t (bound 40 t) more.met z) (sym f);
  }

pub list_end : (t : List ℕ) (inode x i : ℕ) (l : List ℕ) → length l ≡ length (way t inode) → Listing t inode x i l → length l ≤ i → l ≡ way t inode
list_end t inode x i l long g h =
    let q : way t inode ≡ l ++ way_from g.left t (bound 40 t) g.met x =
    g.is ∙ ap (λ (a : List ℕ). a ++ way_from g.left t (bound 40 t) g.met x) (take_all i l h) in
    whole l (way_from g.left t (bound 40 t) g.met x) (omega (arith, ap length q, long)) ∙ sym q
  where
    whole : (a r : List ℕ) → length (a ++ r) ≡ length a → a ≡ a ++ r
    whole a [] e = sym (append-nil a)
    whole a (z ∷ r) e = absurd (omega (arith, e, length-append a (z ∷ r)))
