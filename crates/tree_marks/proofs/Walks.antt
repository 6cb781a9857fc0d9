-- Going along a list and marking its entries.
use mathlib.Core.Path.{◌≡◌, refl, sym, ap, ◌∙◌, subst}
use mathlib.Core.List.{List, [], ◌∷◌, ◌++◌}
use mathlib.Core.Logic.{◌⊎◌, inl, inr, ⊎_elim, ◌≢◌}
use mathlib.Core.Bool.{true, false, false≢true}
use Prim.Native.Nat.{ℕ, zero, suc, ◌+◌, ◌*◌, ◌≤◌, ◌<◌}
use native.Mathlib.Omega.{arith}
use native.Mathlib.Nat.{mul-le-mul_right, suc-mul}
use native.Mathlib.Decide.{dec_lt}
use Rattle.std.proofs.Common.{Option, Some, None}
use lib.ListN.{length, get_or, set, length-set, length-append}
use lib.Seq.{get_or-set_same, get_or-set_other}
use Rattle.links.specs.Links.{◌∈◌, Links}
use Rattle.links.proofs.Laws.{one_list}
use Rattle.links.proofs.Way.{Way, way_on, way_end, way_new, in_left, in_right}
use Rattle.tree_marks.specs.Inner.Marks.{mark_at, Within, Unmarked, Marked, ListMarked, ListCounted}

pub in_snoc : (y x : ℕ) (ps : List ℕ) → y ∈ (ps ++ x ∷ []) → (y ∈ ps) ⊎ (y ≡ x)
in_snoc y x [] (inr m) = elim m [ ]
in_snoc y x [] (inl e) = inr e
in_snoc y x (a ∷ ps) (inl e) = inl (inl e)
in_snoc y x (a ∷ ps) (inr m) = ⊎_elim (λ (h : y ∈ ps). inl (inr h)) (λ (e : y ≡ x). inr e) (in_snoc y x ps m)

pub le_or_lt : (a b : ℕ) → (a ≤ b) ⊎ (b < a)
le_or_lt a b = go (dec_lt b a)
  where
    go : Dec (b < a) → (a ≤ b) ⊎ (b < a)
    go (yes h) = inr h
    go (no h) = inl (omega arith)

-- ---- as many places of a list hold 0

abbrev pub zeros : List ℕ → ℕ
zeros [] = 0
zeros (zero ∷ xs) = suc (zeros xs)
zeros (suc x ∷ xs) = zeros xs

-- no number is none
pub none_some : {n : ℕ} → ◌≡◌ {A = Option ℕ} None (Some n) → ⊥
none_some e = let z : ◌≡◌ {A = ℕ} 0 1 = cc in omega arith

pub zeros_set : (l : List ℕ) (i m : ℕ) → i < length l → get_or l i 0 ≡ 0 → 0 < m → zeros (set l i m) < zeros l
zeros_set [] i m h z p = absurd (omega arith)
zeros_set (zero ∷ xs) zero zero h z p = absurd (omega arith)
zeros_set (zero ∷ xs) zero (suc m) h z p = omega arith
zeros_set (suc x ∷ xs) zero m h z p = absurd (omega arith)
zeros_set (zero ∷ xs) (suc i) m h z p = let r : zeros (set xs i m) < zeros xs = zeros_set xs i m (omega arith) z p in omega arith
zeros_set (suc x ∷ xs) (suc i) m h z p = zeros_set xs i m (omega arith) z p

-- ---- places outside

pub within_refl : (off count : ℕ) (work : List ℕ) → Within off count work work
within_refl off count work = record { size = refl; before = λ j h. refl; behind = λ j h. refl }

pub within_trans : {off count : ℕ} {a b c : List ℕ} → Within off count a b → Within off count b c → Within off count a c
within_trans p q = record {
  size = q.size ∙ p.size;
  before = λ j h. q.before j h ∙ p.before j h;
  behind = λ j h. q.behind j h ∙ p.behind j h;
}

pub within_set : (off count i m : ℕ) (work : List ℕ) → i < count → Within off count work (set work (off + i) m)
within_set off count i m work h = record {
  size = length-set work (off + i) m;
  before = λ j k. get_or-set_other work (off + i) j m 0 (omega arith);
  behind = λ j k. get_or-set_other work (off + i) j m 0 (omega arith);
}

-- fewer places lie within more
pub within_more : {off count : ℕ} {a b : List ℕ} (room : ℕ) → count ≤ room → Within off count a b → Within off room a b
within_more room h p = record { size = p.size; before = p.before; behind = λ j k. p.behind j (omega arith) }

pub mark_same : (work : List ℕ) (off x m : ℕ) → off + x < length work → mark_at (set work (off + x) m) off x ≡ m
mark_same work off x m h = get_or-set_same work (off + x) m 0 h

pub mark_other : (work : List ℕ) (off x m y : ℕ) → y ≢ x → mark_at (set work (off + x) m) off y ≡ mark_at work off y
mark_other work off x m y n = get_or-set_other work (off + x) (off + y) m 0 (λ (e : off + y ≡ off + x). n (omega arith))

-- ---- the walk so far: it passed ps, and stands at x

pub record Walked (nx : ℕ → ℕ) (count first m : ℕ) (W W' : ℕ → ℕ) (x : ℕ) (ps : List ℕ) : Type 0 where
  pub way : Way nx first ps x
  pub free : Unmarked count W ps
  pub marks : Marked W W' m ps

module _ (nx : ℕ → ℕ) (count first m : ℕ) (hm : 0 < m) (W W' : ℕ → ℕ) (x : ℕ) (ps : List ℕ) (S : Walked nx count first m W W' x ps) (hx : 0 < x) where
  module _ (hc : x < count) (hz : W' x ≡ 0) where
    not_passed : x ∈ ps → ⊥
    not_passed h = let e : W' x ≡ m = S.marks.marked x h in omega arith

    pub walk_step : (W'' : ℕ → ℕ) → W'' x ≡ m → ((y : ℕ) → y ≢ x → W'' y ≡ W' y) → Walked nx count first m W W'' (nx x) (ps ++ x ∷ [])
    walk_step W'' same other = record {
      way = way_on nx first ps x S.way hx;
      free = λ y h.
          ⊎_elim (λ (i : y ∈ ps). S.free y i)
          (λ (e : y ≡ x). subst (λ z. (z < count) × (W z ≡ 0)) (sym e) (hc, sym (S.marks.others x not_passed) ∙ hz)) (in_snoc y x ps h);
      marks = record {
        marked = λ y h.
            ⊎_elim
            (λ (i : y ∈ ps). other y (λ (e : y ≡ x). not_passed (subst (λ z. z ∈ ps) e i)) ∙ S.marks.marked y i)
            (λ (e : y ≡ x). ap W'' e ∙ same)
            (in_snoc y x ps h);
        others = λ y h.
            other y (λ (e : y ≡ x). h (in_right y ps (x ∷ []) (inl e))) ∙ S.marks.others y (λ (i : y ∈ ps). h (in_left y ps (x ∷ []) i));
      };
    }

  -- an entry that is marked already, or past the end: there is no list
  pub walk_stuck : (count ≤ x) ⊎ (W' x ≢ 0) → (xs : List ℕ) → Links nx first xs → Unmarked count W xs → ⊥
  walk_stuck h xs l f =
      let r = way_new nx first ps x xs S.way l hx in
      let g = f x r.0 in
      ⊎_elim (λ (c : count ≤ x). let q : x < count = g.0 in omega arith) (λ (k : W' x ≢ 0). k (S.marks.others x r.1 ∙ g.1)) h

-- ---- the loop of mark_list

pub record Going (nx : ℕ → ℕ) (count first m off : ℕ) (work₀ work : List ℕ) (x : ℕ) : Type 0 where
  pub ps : List ℕ
  pub walked : Walked nx count first m (mark_at work₀ off) (mark_at work off) x ps
  pub within : Within off count work₀ work

pub going_begin : (nx : ℕ → ℕ) (count first m off : ℕ) (work : List ℕ) → Going nx count first m off work work first
going_begin nx count first m off work = record {
  ps = [];
  walked = record { way = refl; free = λ y h. absurd h; marks = record { marked = λ y h. absurd h; others = λ y _. refl } };
  within = within_refl off count work;
}

pub going_on : {nx : ℕ → ℕ} {count first m off : ℕ} {work₀ work : List ℕ} {x : ℕ} (i y : ℕ) → Going nx count first m off work₀ work x
    → 0 < m → 0 < i → i < count → get_or work (off + i) 0 ≡ 0 → off + count ≤ length work → i ≡ x → y ≡ nx i
    → Going nx count first m off work₀ (set work (off + i) m) y
going_on {nx} {count} {first} {m} {off} {work₀} {work} {x} i y G hm hi hc hz hl ei ey =
    let walked : Walked nx count first m (mark_at work₀ off) (mark_at work off) i G.ps = subst (λ z. Walked nx count first m (mark_at work₀ off) (mark_at work off) z G.ps) (sym ei) G.walked in
    record {
      ps = G.ps ++ i ∷ [];
      walked =
          subst (λ z. Walked nx count first m (mark_at work₀ off) (mark_at (set work (off + i) m) off) z (G.ps ++ i ∷ [])) (sym ey)
          (walk_step nx count first m hm (mark_at work₀ off) (mark_at work off) i G.ps walked hi hc hz (mark_at (set work (off + i) m) off)
          (mark_same work off i m (omega arith)) (λ z n. mark_other work off i m z n));
      within = within_trans G.within (within_set off count i m work hc);
    }

pub going_past : {nx : ℕ → ℕ} {count first m off : ℕ} {work₀ work : List ℕ} {x : ℕ} → Going nx count first m off work₀ work x
    → 0 < m → (x ≡ 0 → ⊥) → count ≤ x → ListMarked nx count first m off work₀ work false
going_past {nx} {count} {first} {m} {off} {work₀} {work} {x} G hm hx h = record {
  good = λ e. absurd (false≢true e);
  bad = λ _. walk_stuck nx count first m hm (mark_at work₀ off) (mark_at work off) x G.ps G.walked (omega arith) (inl h);
  within = G.within;
}

pub going_met : {nx : ℕ → ℕ} {count first m off : ℕ} {work₀ work : List ℕ} {x : ℕ} (i : ℕ) → Going nx count first m off work₀ work x
    → 0 < m → (x ≡ 0 → ⊥) → i ≡ x → (get_or work (off + i) 0 ≡ 0 → ⊥) → ListMarked nx count first m off work₀ work false
going_met {nx} {count} {first} {m} {off} {work₀} {work} {x} i G hm hx ei h = record {
  good = λ e. absurd (false≢true e);
  bad = λ _. walk_stuck nx count first m hm (mark_at work₀ off) (mark_at work off) x G.ps G.walked (omega arith) (inr (subst (λ z. mark_at work off z ≢ 0) ei h));
  within = G.within;
}

pub going_end : {nx : ℕ → ℕ} {count first m off : ℕ} {work₀ work : List ℕ} {x : ℕ} → Going nx count first m off work₀ work x → x ≡ 0 → ListMarked nx count first m off work₀ work true
going_end {nx} {count} {first} {m} {off} {work₀} {work} {x} G e = record {
  good = λ _. (G.ps, way_end nx first G.ps (subst (λ z. Way nx first G.ps z) e G.walked.way), G.walked.free, G.walked.marks);
  bad = λ q. absurd (false≢true (sym q));
  within = G.within;
}

-- ---- the same with the number of entries, one more than those passed

zeros_few : (l : List ℕ) → zeros l ≤ length l
zeros_few [] = omega arith
zeros_few (zero ∷ xs) = let r : zeros xs ≤ length xs = zeros_few xs in omega arith
zeros_few (suc x ∷ xs) = let r : zeros xs ≤ length xs = zeros_few xs in omega arith

pub record Counting (nx : ℕ → ℕ) (count first m off : ℕ) (work₀ work : List ℕ) (x n : ℕ) : Type 0 where
  pub going : Going nx count first m off work₀ work x
  pub size : n ≡ length going.ps
  -- each entry that was passed took one of the places that held 0
  pub room : n + zeros work ≤ length work₀

pub counting_begin : (nx : ℕ → ℕ) (count first m off : ℕ) (work : List ℕ) → Counting nx count first m off work work first 0
unfolding going_begin
counting_begin nx count first m off work = record { going = going_begin nx count first m off work; size = refl; room = (let z : zeros work ≤ length work = zeros_few work in omega arith) }

pub counting_on : {nx : ℕ → ℕ} {count first m off : ℕ} {work₀ work : List ℕ} {x n : ℕ} (i y : ℕ) → Counting nx count first m off work₀ work x n
    → 0 < m → 0 < i → i < count → get_or work (off + i) 0 ≡ 0 → off + count ≤ length work → i ≡ x → y ≡ nx i
    → Counting nx count first m off work₀ (set work (off + i) m) y (n + 1)
unfolding going_on
counting_on {nx} {count} {first} {m} {off} {work₀} {work} {x} {n} i y C hm hi hc hz hl ei ey = record {
  going = going_on i y C.going hm hi hc hz hl ei ey;
  size = (let s : n ≡ length C.going.ps = C.size in omega (arith, length-append C.going.ps (i ∷ [])));
  room = (let z : zeros (set work (off + i) m) < zeros work = zeros_set work (off + i) m (omega arith) hz hm in let r : n + zeros work ≤ length work₀ = C.room in omega arith);
}

pub counting_past : {nx : ℕ → ℕ} {count first m off : ℕ} {work₀ work : List ℕ} {x n : ℕ} → Counting nx count first m off work₀ work x n
    → 0 < m → (x ≡ 0 → ⊥) → count ≤ x → ListCounted nx count first m off work₀ work None
counting_past C hm hx h = record { listed = going_past C.going hm hx h; size = λ n e. absurd (none_some e) }

pub counting_met : {nx : ℕ → ℕ} {count first m off : ℕ} {work₀ work : List ℕ} {x n : ℕ} (i : ℕ) → Counting nx count first m off work₀ work x n
    → 0 < m → (x ≡ 0 → ⊥) → i ≡ x → (get_or work (off + i) 0 ≡ 0 → ⊥) → ListCounted nx count first m off work₀ work None
counting_met i C hm hx ei h = record { listed = going_met i C.going hm hx ei h; size = λ n e. absurd (none_some e) }

pub counting_end : {nx : ℕ → ℕ} {count first m off : ℕ} {work₀ work : List ℕ} {x n : ℕ} → Counting nx count first m off work₀ work x n → x ≡ 0 → ListCounted nx count first m off work₀ work (Some n)
counting_end {nx} {count} {first} {m} {off} {work₀} {work} {x} {n} C e =
    record {
      listed = going_end C.going e;
      size = λ k q xs l.
          let s : n ≡ k = cc in
          let t : xs ≡ C.going.ps = one_list nx first first xs C.going.ps refl l (way_end nx first C.going.ps (subst (λ z. Way nx first C.going.ps z) e C.going.walked.way)) in
          sym s ∙ C.size ∙ sym (ap length t);
    }

pub entry_in : (w x count n : ℕ) → x < count → count * w ≤ n → x * w + w ≤ n
entry_in w x count n h k = let m : suc x * w ≤ count * w = mul-le-mul_right w h in omega (arith, suc-mul x w)
