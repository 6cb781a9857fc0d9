-- The loops: along the removed list, and along the entries.
use mathlib.Core.Path.{◌≡◌, refl, sym, ap, subst, subst⁻¹, ◌∙◌}
use mathlib.Core.List.{List, [], ◌∷◌}
use mathlib.Core.Bool.{Bool, true, false, cond}
use Prim.Native.Nat.{ℕ, zero, suc, ◌+◌, ◌-◌, ◌≤◌, ◌<◌}
use native.Mathlib.Omega.{arith}
use native.Mathlib.Nat.{sub-zero}
use lib.Dec.{eqb}
use borrow.Author.Tests.{eq-eqb, ne_eqb}
use lib.ListN.{length, get_or, set, take, drop, length-set, drop_of_length-le}
use lib.Seq.{sets, drop-cons}
use Rattle.std.specs.List.{count_by}
use Rattle.std.proofs.lemmas.List.{drop-take}
use Rattle.std.proofs.lemmas.List.Sums.{sum_by-cons, sum_by-drop_more}
use Rattle.tree_table.specs.Field.{field}
use Rattle.tree_table.specs.Chain.{link_at}
use Rattle.salvage_tree.specs.Entries.{bound, met_from, collision, gone}
use Rattle.salvage_tree.specs.Inner.Says.{Marks, unmarked, Sized}
use Rattle.salvage_tree.proofs.Marked.{stops_zero, stops_over, stops_met, goes_on, met_stop, met_on, marked_met, free_met, marks_on, unmarked_free, unmarked_not}

-- ---- along the removed list

pub record Marking (w : ℕ) (t : List ℕ) (n : ℕ) (work₀ work : List ℕ) (x left : ℕ) : Type 0 where
  pub met : List ℕ
  pub is : gone w t ≡ met_from left (collision w t) n met x
  pub marks : Marks work met
  pub long : length work ≡ length work₀

-- the collision field stands last
last_field : (w : ℕ) (t : List ℕ) (x : ℕ) → link_at t w (w - 4) x ≡ collision w t x
unfolding field
last_field w t x = refl

begins : (w : ℕ) (t : List ℕ) → gone w t ≡ met_from (bound w t) (collision w t) (bound w t) [] (collision w t 0)
unfolding gone
begins w t = refl

pub marking_begin : (w : ℕ) (t : List ℕ) (n : ℕ) (work : List ℕ) (x : ℕ) → Sized w t n work → Marks work [] → x ≡ link_at t w (w - 4) 0 → Marking w t n work work x (n - 0)
marking_begin w t n work x s m q = let e : x ≡ collision w t 0 = q ∙ last_field w t 0 in record {
  met = [];
  is = begins w t ∙ ap (λ (k : ℕ). met_from k (collision w t) k [] (collision w t 0)) (sym s.is) ∙ ap (met_from n (collision w t) n []) (sym e)
      ∙ ap {B = List ℕ} (λ (k : ℕ). met_from k (collision w t) n [] x) (sym (sub-zero n));
  marks = m;
  long = refl;
}

module _ (w : ℕ) (t : List ℕ) (n : ℕ) (work₀ work : List ℕ) (x left : ℕ) (g : Marking w t n work₀ work x left) where
  ends : met_from left (collision w t) n g.met x ≡ g.met → Marks work (gone w t)
  ends e = subst⁻¹ (Marks work) (g.is ∙ e) g.marks

  pub marking_zero : x ≡ 0 → Marks work (gone w t)
  marking_zero e = ends (met_stop left (collision w t) n g.met x (stops_zero n g.met x e))

  module _ (p : (x ≡ 0) → ⊥) where
    some : 0 < x
    some = omega (arith, p)

    pub marking_over : n ≤ x → Marks work (gone w t)
    marking_over h = ends (met_stop left (collision w t) n g.met x (stops_over n g.met x some h))

    module _ (h : x < n) where
      pub marking_met : (i : ℕ) → i ≡ x → (get_or work i 0 ≡ 0 → ⊥) → Marks work (gone w t)
      marking_met i q e =
          ends (met_stop left (collision w t) n g.met x (stops_met n g.met x some h
          (marked_met work g.met x g.marks (λ z. e (ap (λ (j : ℕ). get_or work j 0) q ∙ z)))))

      pub marking_on : (i : ℕ) → i ≡ x → get_or work i 0 ≡ 0 → Sized w t n work₀ → (y : ℕ) → y ≡ link_at t w (w - 4) x
          → (left' : ℕ) → left ≡ left' + 1 → Marking w t n work₀ (set work i 1) y left'
      marking_on i q e s y f left' k =
          let m : left ≡ suc left' = omega (arith, k) in
          subst⁻¹ (λ (j : ℕ). Marking w t n work₀ (set work j 1) y left') q (record {
            met = x ∷ g.met;
            is = g.is
                ∙ ap (λ (l : ℕ). met_from l (collision w t) n g.met x) m
                ∙ met_on left' (collision w t) n g.met x (goes_on n g.met x some h (free_met work g.met x g.marks (ap (λ (j : ℕ). get_or work j 0) (sym q) ∙ e)))
                ∙ ap (met_from left' (collision w t) n (x ∷ g.met)) (sym (f ∙ last_field w t x));
            marks = marks_on work g.met x g.marks (omega (arith, h, s.long, g.long));
            long = length-set work x 1 ∙ g.long;
          })

-- ---- along the entries

next_left : (x n : ℕ) → x < n → n - x ≡ suc (n - (x + 1))
next_left x n h = omega (arith, h)

more : (x n : ℕ) (work : List ℕ) → x < n → (get_or work x 0 ≡ 0) → unmarked (n - x) x work ≡ x ∷ unmarked (n - (x + 1)) (x + 1) work
more x n work h e =
    let q : suc x ≡ x + 1 = omega arith in
    ap (λ (k : ℕ). unmarked k x work) (next_left x n h) ∙ unmarked_free (n - (x + 1)) x work e ∙ ap (λ (y : ℕ). x ∷ unmarked (n - (x + 1)) y work) q

skip : (x n : ℕ) (work : List ℕ) → x < n → (get_or work x 0 ≡ 0 → ⊥) → unmarked (n - x) x work ≡ unmarked (n - (x + 1)) (x + 1) work
skip x n work h e =
    let q : suc x ≡ x + 1 = omega arith in
    ap (λ (k : ℕ). unmarked k x work) (next_left x n h) ∙ unmarked_not (n - (x + 1)) x work e ∙ ap (λ (y : ℕ). unmarked (n - (x + 1)) y work) q

-- the marks from 1 below x are counted
pub record Counted (marks : List ℕ) (x count : ℕ) : Type 0 where
  pub sum : count + count_by (λ m. eqb m 0) (drop x marks) ≡ count_by (λ m. eqb m 0) (drop 1 marks)
  pub few : count ≤ x

module _ {marks : List ℕ} {x count : ℕ} (g : Counted marks x count) where
  next : x < length marks → count_by (λ m. eqb m 0) (drop x marks) ≡ cond (eqb (get_or marks x 0) 0) 1 0 + count_by (λ m. eqb m 0) (drop (x + 1) marks)
  next h = sum_by-drop_more (λ m. cond (eqb m 0) 1 0) marks x 0 h

  pub counted_hit : {count' : ℕ} → count' ≡ count + 1 → x < length marks → get_or marks x 0 ≡ 0 → Counted marks (x + 1) count'
  counted_hit q h e = record { sum = omega (arith, q, g.sum, next h, one (get_or marks x 0) e); few = omega (arith, q, g.few) }
    where
      one : (v : ℕ) → v ≡ 0 → ◌≡◌ {A = ℕ} (cond (eqb v 0) 1 0) 1
      one v e = rw (eq-eqb v 0 e)

  pub counted_skip : {count' : ℕ} → count' ≡ count → x < length marks → (get_or marks x 0 ≡ 0 → ⊥) → Counted marks (x + 1) count'
  counted_skip q h e = record { sum = omega (arith, q, g.sum, next h, none (get_or marks x 0) e); few = omega (arith, q, g.few) }
    where
      none : (v : ℕ) → (v ≡ 0 → ⊥) → ◌≡◌ {A = ℕ} (cond (eqb v 0) 1 0) 0
      none v e = rw (ne_eqb v 0 e)

  pub counted_end : length marks ≤ x → count ≡ count_by (λ m. eqb m 0) (drop 1 marks)
  counted_end h = omega (arith, g.sum, ap (count_by (λ m. eqb m 0)) (drop_of_length-le marks h))

-- of k places from x on those that are 0 are as many as the entries with no mark
free_count : (k x : ℕ) (work : List ℕ) → x + k ≤ length work → count_by (λ m. eqb m 0) (take k (drop x work)) ≡ length (unmarked k x work)
free_count zero x work h = refl
free_count (suc k) x work h =
    ap (λ (l : List ℕ). count_by (λ m. eqb m 0) (take (suc k) l)) (drop-cons work x 0 (omega (arith, h)))
    ∙ sum_by-cons (λ m. cond (eqb m 0) 1 0) (get_or work x 0) (take k (drop (suc x) work))
    ∙ ap (λ (c : ℕ). cond (eqb (get_or work x 0) 0) 1 0 + c) (free_count k (suc x) work (omega (arith, h)))
    ∙ one_more (eqb (get_or work x 0) 0) (unmarked k (suc x) work)
  where
    one_more : (b : Bool) (l : List ℕ) → cond b 1 0 + length l ≡ length (cond b (x ∷ l) l)
    one_more true l = omega arith
    one_more false l = omega arith

pub count_is : (n i : ℕ) (work : List ℕ) → i ≡ n → n ≤ length work → count_by (λ m. eqb m 0) (drop 1 (take i work)) ≡ length (unmarked (n - 1) 1 work)
count_is zero i work e h = ap (λ (j : ℕ). count_by (λ m. eqb m 0) (drop 1 (take j work))) e
count_is (suc k) i work e h =
    let q : i ≡ 1 + k = omega (arith, e) in
    let s : suc k - 1 ≡ k = omega arith in
    ap (λ (j : ℕ). count_by (λ m. eqb m 0) (drop 1 (take j work))) q
    ∙ ap (count_by (λ m. eqb m 0)) (drop-take 1 k work)
    ∙ free_count k 1 work (omega (arith, h))
    ∙ ap (λ (j : ℕ). length (unmarked j 1 work)) (sym s)

pub record Listing (n : ℕ) (work l₀ l : List ℕ) (x at : ℕ) : Type 0 where
  pub is : sets l₀ 0 (unmarked (n - 1) 1 work) ≡ sets l at (unmarked (n - x) x work)
  pub sum : at + length (unmarked (n - x) x work) ≡ length (unmarked (n - 1) 1 work)
  pub long : length l ≡ length l₀

module _ (n : ℕ) (work l₀ l : List ℕ) (x at : ℕ) (g : Listing n work l₀ l x at) where
  pub listing_hit : x < n → (i : ℕ) → i ≡ x → get_or work i 0 ≡ 0 → (l' : List ℕ) → l' ≡ set l at x → (at' : ℕ) → at' ≡ at + 1 → Listing n work l₀ l' (x + 1) at'
  listing_hit h i q e l' p at' k =
      let m = more x n work h (subst (λ (j : ℕ). get_or work j 0 ≡ 0) q e) in
      let s : suc at ≡ at' = omega (arith, k) in
      record {
        is = g.is ∙ ap (sets l at) m ∙ ap (λ (y : List ℕ). sets y (suc at) (unmarked (n - (x + 1)) (x + 1) work)) (sym p)
            ∙ ap (λ (j : ℕ). sets l' j (unmarked (n - (x + 1)) (x + 1) work)) s;
        sum = omega (arith, g.sum, ap length m, s);
        long = ap length p ∙ length-set l at x ∙ g.long;
      }

  pub listing_skip : x < n → (i : ℕ) → i ≡ x → (get_or work i 0 ≡ 0 → ⊥) → (l' : List ℕ) → l' ≡ l → (at' : ℕ) → at' ≡ at → Listing n work l₀ l' (x + 1) at'
  listing_skip h i q e l' p at' k =
      let m = skip x n work h (λ z. e (subst⁻¹ (λ (j : ℕ). get_or work j 0 ≡ 0) q z)) in
      record {
        is = g.is ∙ ap (sets l at) m ∙ ap (λ (y : List ℕ). sets y at (unmarked (n - (x + 1)) (x + 1) work)) (sym p)
            ∙ ap (λ (j : ℕ). sets l' j (unmarked (n - (x + 1)) (x + 1) work)) (sym k);
        sum = omega (arith, g.sum, ap length m, k);
        long = ap length p ∙ g.long;
      }
