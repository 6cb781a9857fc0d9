-- Rules 1 to 5: what the absence of a fault says of a node and the reverse, and what the tests of the code tell, one lemma for each way out.
use mathlib.Core.Path.{◌≡◌, refl, sym, ap, subst, ◌∙◌}
use mathlib.Core.Bool.{Bool, true, false, not, ◌&&◌, ◌||◌}
use mathlib.Core.Logic.{◌⊎◌, inl, inr, ⊎_elim}
use Prim.Native.Nat.{ℕ, suc, ◌+◌, ◌-◌, ◌<◌, ◌≤◌}
use native.Mathlib.Omega.{arith}
use lib.Dec.{eqb, leb, ltb}
use borrow.Author.Tests.{eqb-true, eqb-false, eq-eqb, ne_eqb, ltb-true, ltb-false, lt-ltb, le-ltb, leb-false, lt-leb}
use Rattle.order.specs.Answer.{fault, unbroken}
use Rattle.order.specs.declared.Fault.{Fault}
use Rattle.fat_node.specs.Entry.{Bytes, top, u_at, v_at}
use Rattle.fat_node.specs.Node.{NodeAt}
use Rattle.fat_node.specs.Fault.{when, bad_start, bad_second, differs, span_fault, node_fault}
use Rattle.std.specs.Prelude.{Ok, Err}
use Rattle.fat_node.specs.Inner.Reads.{Unread, SizeReads}
use Rattle.fat_node.proofs.Nodes.{one_or_more}
use Rattle.fat_node.proofs.Cases.{untrue}

-- ---- picking a fault

pub when_yes : (b : Bool) (f g : Fault) → b ≡ true → when b f g ≡ f
unfolding when
when_yes b f g e = ap (λ (x : Bool). when x f g) e

pub when_no : (b : Bool) (f g : Fault) → b ≡ false → when b f g ≡ g
unfolding when
when_no b f g e = ap (λ (x : Bool). when x f g) e

-- a fault that was not given
pub not_given : (b : Bool) (e r : ℕ) (g : Fault) → (when b (fault e (suc r)) g).rule ≡ 0 → (b ≡ false) × (g.rule ≡ 0)
unfolding when
not_given true e r g h = absurd (omega arith)
not_given false e r g h = (refl, h)

-- ---- tests

pub or_no : (a b : Bool) → (a || b) ≡ false → (a ≡ false) × (b ≡ false)
or_no true b e = untrue (sym e)
or_no false b e = (refl, e)

pub no_or : {a b : Bool} → a ≡ false → b ≡ false → (a || b) ≡ false
no_or {b = b} e f = ap (λ (x : Bool). x || b) e ∙ f

pub not_no : (a : Bool) → not a ≡ false → a ≡ true
not_no true e = refl
not_no false e = sym e

pub and_yes : (a b : Bool) → (a && b) ≡ true → (a ≡ true) × (b ≡ true)
and_yes true b e = (refl, e)
and_yes false b e = untrue e

pub yes_and : {a b : Bool} → a ≡ true → b ≡ true → (a && b) ≡ true
yes_and {b = b} e f = ap (λ (x : Bool). x && b) e ∙ f

pub tell : (b : Bool) → (b ≡ true) ⊎ (b ≡ false)
tell true = inl refl
tell false = inr refl

-- ---- the tests of entries

pub start_fits : (u : ℕ) → bad_start u ≡ false → (0 < u) × (u ≤ top)
unfolding bad_start
start_fits u e = let s = or_no (eqb u 0) (ltb top u) e in let z = eqb-false u 0 s.0 in (omega arith, ltb-false top u s.1)

pub fits_start : (u : ℕ) → 0 < u → u ≤ top → bad_start u ≡ false
unfolding bad_start
fits_start u p q = no_or (ne_eqb u 0 (λ e. omega (arith, p, e))) (le-ltb top u q)

pub second_fits : (u v b : ℕ) → bad_second u v b ≡ false → (u ≡ top + (b + 1)) × (v < top) × (b + 2 ≤ v)
unfolding bad_second
second_fits u v b e =
    let s = or_no (not (eqb u (top + (b + 1)))) (leb top v || ltb v (b + 2)) e in
    let r = or_no (leb top v) (ltb v (b + 2)) s.1 in
    (eqb-true u (top + (b + 1)) (not_no (eqb u (top + (b + 1))) s.0), leb-false top v r.0, ltb-false v (b + 2) r.1)

pub fits_second : (u v b : ℕ) → u ≡ top + (b + 1) → v < top → b + 2 ≤ v → bad_second u v b ≡ false
unfolding bad_second
fits_second u v b p q r = no_or (ap not (eq-eqb u (top + (b + 1)) p)) (no_or (lt-leb top v q) (le-ltb v (b + 2) r))

pub same_fits : (t : Bytes) (e u v : ℕ) → differs t e u v ≡ false → (u_at t e ≡ u) × (v_at t e ≡ v)
unfolding differs
same_fits t e u v h =
    let d = and_yes (eqb (u_at t e) u) (eqb (v_at t e) v) (not_no (eqb (u_at t e) u && eqb (v_at t e) v) h) in
    (eqb-true (u_at t e) u d.0, eqb-true (v_at t e) v d.1)

pub fits_same : (t : Bytes) (e u v : ℕ) → u_at t e ≡ u → v_at t e ≡ v → differs t e u v ≡ false
unfolding differs
fits_same t e u v p q = ap not (yes_and (eq-eqb (u_at t e) u p) (eq-eqb (v_at t e) v q))

-- ---- a node

module _ (n : ℕ) (t : Bytes) (b : ℕ) where
  span_node : (span_fault n t b).rule ≡ 0
      → (b + 2 ≤ v_at t (b + 2)) × (v_at t (b + 2) ≤ n) × (u_at t (b + 2) ≡ top + (b + 1)) × (u_at t (v_at t (b + 2)) ≡ top + (b + 1)) × (v_at t (v_at t (b + 2)) ≡ v_at t (b + 2))
  unfolding span_fault
  span_node h =
      let w = not_given _ _ _ _ h in
      let x = not_given _ _ _ _ w.1 in
      let y = not_given _ _ _ _ x.1 in
      let z = not_given _ _ _ _ y.1 in
      let s = second_fits _ _ _ x.0 in
      let d = same_fits t _ _ _ z.0 in
      (s.2, ltb-false n (v_at t (b + 2)) y.0, s.0, d.0 ∙ s.0, d.1)

  -- where the start entry says one block, it stands
  one_node : b < n → (0 < u_at t (b + 1)) × (u_at t (b + 1) ≤ top) → v_at t (b + 1) < top → NodeAt t n b 1
  one_node room u lo = record {
    some = omega arith;
    within = omega arith;
    prev = u;
    one = λ e. lo;
    more = λ m. let z : ⊥ = omega arith in absurd z;
  }

  -- where it says several, and no rule is broken, they stand
  more_node : (0 < u_at t (b + 1)) × (u_at t (b + 1) ≤ top) → top ≤ v_at t (b + 1) → (span_fault n t b).rule ≡ 0 → NodeAt t n b (v_at t (b + 2) - b)
  more_node u hi h =
      let w = span_node h in
      let e : v_at t (b + 2) ≡ b + (v_at t (b + 2) - b) = omega (arith, w.0) in
      record {
        some = omega (arith, w.0);
        within = omega (arith, w.0, w.1);
        prev = u;
        one = λ o. let z : ⊥ = omega (arith, w.0, o) in absurd z;
        more = λ m. (hi, (w.2, e), (ap (u_at t) (sym e) ∙ w.3, ap (v_at t) (sym e) ∙ w.4 ∙ e));
      }

  -- where there is no fault a node stands
  pub clear_node : b < n → (node_fault n t b).rule ≡ 0
      → ((v_at t (b + 1) < top) × NodeAt t n b 1) ⊎ ((top ≤ v_at t (b + 1)) × (b + 2 ≤ v_at t (b + 2)) × NodeAt t n b (v_at t (b + 2) - b))
  unfolding node_fault
  clear_node room h =
      let w = not_given _ _ _ _ h in
      let u = start_fits (u_at t (b + 1)) w.0 in
      ⊎_elim
      (λ e. inl (ltb-true (v_at t (b + 1)) top e, one_node room u (ltb-true (v_at t (b + 1)) top e)))
      (λ e.
      let s : (span_fault n t b).rule ≡ 0 = ap (λ (f : Fault). f.rule) (sym (when_no _ _ _ e)) ∙ w.1 in
      inr (ltb-false (v_at t (b + 1)) top e, (span_node s).0, more_node u (ltb-false (v_at t (b + 1)) top e) s))
      (tell (ltb (v_at t (b + 1)) top))

  span_clear : (s : ℕ) → n ≤ 1000000 → u_at t (b + 2) ≡ top + (b + 1) → v_at t (b + 2) ≡ b + s → u_at t (b + s) ≡ top + (b + 1) → v_at t (b + s) ≡ b + s → 1 < s → b + s ≤ n → span_fault n t b ≡ unbroken
  unfolding span_fault
  span_clear s small u v u' v' m i =
      when_no _ _ _ (le-ltb n (b + 2) (omega arith))
      ∙ when_no _ _ _ (fits_second (u_at t (b + 2)) (v_at t (b + 2)) b u (omega arith) (omega arith))
      ∙ when_no _ _ _ (le-ltb n (v_at t (b + 2)) (omega arith))
      ∙ when_no _ _ _ (fits_same t (v_at t (b + 2)) (u_at t (b + 2)) (v_at t (b + 2)) (ap (u_at t) v ∙ u' ∙ sym u) (ap (v_at t) v ∙ v' ∙ sym v))

  -- where a node stands there is no fault
  pub node_clear : (s : ℕ) → NodeAt t n b s → n ≤ 1000000 → node_fault n t b ≡ unbroken
  unfolding node_fault
  node_clear s w small =
      when_no _ _ _ (fits_start (u_at t (b + 1)) w.prev.0 w.prev.1)
      ∙ ⊎_elim
      (λ e. when_yes _ _ _ (lt-ltb (v_at t (b + 1)) top (w.one e)))
      (λ e. let m = w.more (omega (arith, e, w.some)) in when_no _ _ _ (le-ltb (v_at t (b + 1)) top m.0) ∙ span_clear s small m.1.0 m.1.1 m.2.0 m.2.1 (omega (arith, e, w.some)) w.within)
      (one_or_more s)

-- ---- the reader

module _ (t : Bytes) (n b u v : ℕ) (small : n ≤ 1000000) (room : b < n) (eu : u ≡ u_at t (b + 1)) (ev : v ≡ v_at t (b + 1)) where
  -- what is broken is no node
  unread : (f : Fault) → f ≡ node_fault n t b → (f.rule ≡ 0 → ⊥) → Unread t n b f
  unread f e h = record { first = e; broken = h; none = λ s w. h (ap (λ (x : Fault). x.rule) (e ∙ node_clear n t b s w small)) }

  -- rule 1
  pub read_start : bad_start u ≡ true → Unread t n b (fault (b + 1) 1)
  unfolding node_fault
  read_start y = unread (fault (b + 1) 1) (sym (when_yes _ _ _ (ap bad_start (sym eu) ∙ y))) (λ e. omega arith)

  module _ (no : bad_start u ≡ false) where
    start : bad_start (u_at t (b + 1)) ≡ false
    start = ap bad_start (sym eu) ∙ no

    -- rules 2 to 5
    pub read_span : (f : Fault) → 2147483648 ≤ v → SizeReads t n b (Err f) → Unread t n b f
    unfolding node_fault
    read_span f hi p =
        unread f (p.0 ∙ sym (when_no _ _ _ start ∙ when_no _ _ _ (le-ltb (v_at t (b + 1)) top (omega (arith, hi, ev))))) p.1

    -- a node of one block
    pub read_one : (s : ℕ) → v < 2147483648 → s ≡ 1 → NodeAt t n b s
    read_one s lo e = subst (NodeAt t n b) (sym e) (one_node n t b room (start_fits (u_at t (b + 1)) start) (omega (arith, lo, ev)))

    -- one of several
    pub read_more : (s : ℕ) → 2147483648 ≤ v → SizeReads t n b (Ok s) → NodeAt t n b s
    read_more s hi p =
        subst (NodeAt t n b) (omega (arith, p.1))
        (more_node n t b (start_fits (u_at t (b + 1)) start) (omega (arith, hi, ev)) (ap (λ (x : Fault). x.rule) p.0))
