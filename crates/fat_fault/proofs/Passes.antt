-- The walk, the last pass and the whole: the invariants of their loops.
use mathlib.Core.Path.{◌≡◌, refl, sym, ap, subst, ◌∙◌}
use mathlib.Core.List.{List, [], ◌∷◌}
use mathlib.Core.Bool.{Bool, true, false, ◌||◌}
use mathlib.Core.Logic.{◌⊎◌, inl, inr, ⊎_elim}
use Prim.Native.Nat.{ℕ, zero, suc, ◌+◌, ◌<◌, ◌≤◌}
use native.Mathlib.Omega.{arith}
use lib.Dec.{eqb}
use lib.ListN.{length, get_or, set, replicate, length-set, length-replicate}
use lib.Seq.{get_or-set_same}
use borrow.Author.Tests.{eqb-true, eq-eqb, ne_eqb}
use Rattle.fat_node.specs.Entry.{Bytes}
use Rattle.fat_node.specs.Node.{Run, NodeAt}
use Rattle.std.specs.Prelude.{Result, Ok, Err}
use Rattle.fat_node.specs.Inner.Reads.{Unread}
use Rattle.fat_node.proofs.Cases.{untrue}
use Rattle.fat_table.specs.Chain.{size_at}
use Rattle.fat_table.specs.Counts.{scan, nodes}
use Rattle.fat_table.proofs.Sounds.{node_size}
use Rattle.order.specs.declared.Fault.{Fault}
use Rattle.order.specs.Answer.{fault, unbroken}
use Rattle.fat_node.specs.Fault.{node_fault}
use Rattle.fat_fault.specs.Fault.{or_else, walk_from, walk_fault, starts_at, is_node, head_fits, untied, lowest, later_fault, fault_of}
use Rattle.fat_fault.specs.Inner.Marks.{Finds, Walked}
use Rattle.fat_node.proofs.Faults.{when_yes, when_no, tell, node_clear}
use Rattle.fat_fault.proofs.Rules.{then_first, then_second}
use Rattle.fat_fault.proofs.Standing.{walk_on, walk_end, scan_on, scan_end}

-- ---- one place set

pub set_cases : (l : List ℕ) (i v j : ℕ) → (j ≡ i) ⊎ (get_or (set l i v) j 0 ≡ get_or l j 0)
set_cases [] i v j = inr refl
set_cases (x ∷ l) zero v zero = inl refl
set_cases (x ∷ l) zero v (suc j) = inr refl
set_cases (x ∷ l) (suc i) v zero = inr refl
set_cases (x ∷ l) (suc i) v (suc j) = ⊎_elim (λ e. inl (ap suc e)) (λ g. inr g) (set_cases l i v j)

zeros_at : (n i : ℕ) → ◌≡◌ {A = ℕ} (get_or (replicate n 0) i 0) 0
zeros_at zero i = refl
zeros_at (suc n) zero = refl
zeros_at (suc n) (suc i) = zeros_at n i

-- ---- the walk, about to read at b

pub record Walking (n : ℕ) (t : Bytes) (w : List ℕ) (b : ℕ) : Type 0 where
  pub fuel : ℕ
  pub most : b ≤ n
  pub enough : n ≤ b + fuel
  pub rest : walk_fault n t ≡ walk_from n t fuel b
  pub long : length w ≡ n
  pub least : (x : ℕ) → get_or w x 0 ≤ 1
  pub marks : (x : ℕ) → is_node n t x ≡ (eqb (get_or w x 0) 1 || starts_at (scan n t fuel b) x)

pub walking_none : (n : ℕ) (t : Bytes) (w : List ℕ) → w ≡ replicate n 0 → Walking n t w 0
unfolding walk_fault is_node
walking_none n t w e =
    let z : (x : ℕ) → get_or w x 0 ≡ 0 = λ x. ap (λ (l : List ℕ). get_or l x 0) e ∙ zeros_at n x in
    record {
      fuel = n;
      most = omega arith;
      enough = omega arith;
      rest = refl;
      long = ap length e ∙ length-replicate n 0;
      least = λ x. omega (arith, z x);
      marks = λ x. sym (ap (λ (b : Bool). b || starts_at (nodes n t) x) (ne_eqb (get_or w x 0) 1 (λ q. omega (arith, z x, q))));
    }

-- the fuel, one less
pub record Fuelled (n : ℕ) (t : Bytes) (w : List ℕ) (b : ℕ) : Type 0 where
  pub fuel : ℕ
  pub enough : n ≤ b + suc fuel
  pub rest : walk_fault n t ≡ or_else (node_fault n t b) (walk_from n t fuel (b + size_at t b))
  pub marks : (x : ℕ) → is_node n t x ≡ (eqb (get_or w x 0) 1 || (eqb b x || starts_at (scan n t fuel (b + size_at t b)) x))

fuelled : (n : ℕ) (t : Bytes) (w : List ℕ) (b : ℕ) → Walking n t w b → b < n → Fuelled n t w b
fuelled n t w b k h = go k.fuel k.enough k.rest k.marks
  where
    go : (f : ℕ) → n ≤ b + f → walk_fault n t ≡ walk_from n t f b → ((x : ℕ) → is_node n t x ≡ (eqb (get_or w x 0) 1 || starts_at (scan n t f b) x)) → Fuelled n t w b
    go zero e r m = absurd (omega arith)
    go (suc f) e r m = record {
      fuel = f;
      enough = e;
      rest = r ∙ walk_on n t f b h;
      marks = λ x. m x ∙ ap (λ (l : List Run). eqb (get_or w x 0) 1 || starts_at l x) (scan_on n t f b h);
    }

mark_on : (a b c d : Bool) → (b ≡ true → d ≡ true) → (b ≡ false → d ≡ a) → (a || (b || c)) ≡ (d || c)
mark_on a true c d f g = or_true a c ∙ sym (ap (λ (x : Bool). x || c) (f refl))
  where
    or_true : (a c : Bool) → (a || (true || c)) ≡ true
    or_true true c = refl
    or_true false c = refl
mark_on a false c d f g = sym (ap (λ (x : Bool). x || c) (g refl))

pub walking_more : (n : ℕ) (t : Bytes) (w : List ℕ) (b s : ℕ) → Walking n t w b → b < n → (node_fault n t b).rule ≡ 0 → NodeAt t n b s → Walking n t (set w b 1) (b + s)
walking_more n t w b s k h z nd =
    let f = fuelled n t w b k h in
    let e : size_at t b ≡ s = node_size t n b s nd in
    let same : get_or (set w b 1) b 0 ≡ 1 = get_or-set_same w b 1 0 (omega (arith, k.long)) in
    record {
      fuel = f.fuel;
      most = nd.within;
      enough = omega (arith, f.enough, nd.some);
      rest = f.rest ∙ then_second _ _ z ∙ ap (λ (x : ℕ). walk_from n t f.fuel (b + x)) e;
      long = length-set w b 1 ∙ k.long;
      least = λ x. ⊎_elim (λ q. omega (arith, same, ap (λ (y : ℕ). get_or (set w b 1) y 0) q)) (λ q. omega (arith, q, k.least x)) (set_cases w b 1 x);
      marks = λ x. f.marks x
          ∙ ap (λ (y : ℕ). eqb (get_or w x 0) 1 || (eqb b x || starts_at (scan n t f.fuel (b + y)) x)) e
          ∙ mark_on (eqb (get_or w x 0) 1) (eqb b x) (starts_at (scan n t f.fuel (b + s)) x) (eqb (get_or (set w b 1) x 0) 1)
          (λ q. eq-eqb (get_or (set w b 1) x 0) 1 (ap (λ (y : ℕ). get_or (set w b 1) y 0) (sym (eqb-true b x q)) ∙ same))
          (λ q. ⊎_elim (λ o. untrue (sym q ∙ eq-eqb b x (sym o))) (λ o. ap (λ (y : ℕ). eqb y 1) o) (set_cases w b 1 x));
    }

-- a node was read
pub walking_again : (n : ℕ) (t : Bytes) (w : List ℕ) (b s : ℕ) → n ≤ 1000000 → Walking n t w b → b < n → NodeAt t n b s → Walking n t (set w b 1) (b + s)
walking_again n t w b s small k h nd = walking_more n t w b s k h (ap (λ (x : Fault). x.rule) (node_clear n t b s nd small)) nd

-- none could be read
pub walking_found : (n : ℕ) (t : Bytes) (w : List ℕ) (b : ℕ) (f : Fault) → Unread t n b f → Walking n t w b → b < n → Walked n t w (Err f)
walking_found n t w b f u k h = (
  u.first ∙ sym ((fuelled n t w b k h).rest ∙ then_first _ _ (λ q. u.broken (ap (λ (x : Fault). x.rule) u.first ∙ q))),
  u.broken,
)

pub walking_end : (n : ℕ) (t : Bytes) (w : List ℕ) (b : ℕ) → Walking n t w b → n ≤ b → Walked n t w (Ok tt)
walking_end n t w b k h =
    let m : (x : ℕ) → is_node n t x ≡ (eqb (get_or w x 0) 1 || false) = λ x. k.marks x ∙ ap (λ (l : List Run). eqb (get_or w x 0) 1 || starts_at l x) (scan_end n t k.fuel b h) in (
      k.rest ∙ walk_end n t k.fuel b h,
      record {
        marked = record {
          long = k.long;
          node = λ x e. ⊎_elim
              (λ o. omega (arith, eqb-true (get_or w x 0) 1 o))
              (λ o. untrue (ap (λ (y : Bool). y || false) (sym o) ∙ sym (m x) ∙ e))
              (tell (eqb (get_or w x 0) 1));
          mark = λ x e. m x ∙ ap (λ (y : Bool). y || false) (eq-eqb (get_or w x 0) 1 (omega (arith, e, k.least x)));
        };
        least = k.least;
      },
    )

-- ---- the last pass, about to look at b

pub record Low (n : ℕ) (t : Bytes) (b : ℕ) : Type 0 where
  pub left : ℕ
  pub whole : b + left ≡ n
  pub rest : lowest n t n 0 ≡ lowest n t left b

pub low_begin : (n : ℕ) (t : Bytes) → Low n t 0
low_begin n t = record { left = n; whole = omega arith; rest = refl }

low_step : (n : ℕ) (t : Bytes) (b : ℕ) → Low n t b → b < n → (l : ℕ) × ((b + 1) + l ≡ n) × (lowest n t n 0 ≡ lowest n t (suc l) b)
low_step n t b k h = go k.left k.whole k.rest
  where
    go : (l : ℕ) → b + l ≡ n → lowest n t n 0 ≡ lowest n t l b → (l : ℕ) × ((b + 1) + l ≡ n) × (lowest n t n 0 ≡ lowest n t (suc l) b)
    go zero e r = absurd (omega arith)
    go (suc l) e r = (l, omega arith, r)

pub low_more : (n : ℕ) (t : Bytes) (b : ℕ) (r : Bool) → Low n t b → b < n → r ≡ untied n t b → r ≡ false → Low n t (b + 1)
low_more n t b r k h e f = let o = low_step n t b k h in record { left = o.0; whole = o.1; rest = o.2 ∙ when_no _ _ _ (sym e ∙ f) }

pub low_found : (n : ℕ) (t : Bytes) (b : ℕ) (r : Bool) → Low n t b → b < n → r ≡ untied n t b → r ≡ true → Finds (lowest n t n 0) (Err (fault (b + 1) 7))
low_found n t b r k h e f = let o = low_step n t b k h in (sym (o.2 ∙ when_yes _ _ _ (sym e ∙ f)), λ q. omega (arith, q))

pub low_end : (n : ℕ) (t : Bytes) (b : ℕ) → Low n t b → n ≤ b → lowest n t n 0 ≡ unbroken
low_end n t b k h =
    let e : k.left ≡ 0 = omega (arith, k.whole) in
    k.rest ∙ ap (λ (l : ℕ). lowest n t l b) e

-- ---- the whole

pub find_walk : (n : ℕ) (t : Bytes) (f : Fault) → Finds (walk_fault n t) (Err f) → Finds (fault_of n t) (Err f)
unfolding fault_of
find_walk n t f p = (p.0 ∙ sym (then_first _ _ (λ q. p.1 (ap (λ (x : Fault). x.rule) p.0 ∙ q))), p.1)

pub find_head : (n : ℕ) (t : Bytes) (r : Bool) → walk_fault n t ≡ unbroken → r ≡ head_fits n t → r ≡ false → Finds (fault_of n t) (Err (fault 0 6))
unfolding fault_of later_fault
find_head n t r z h b = (sym (then_second _ _ (ap (λ (x : Fault). x.rule) z) ∙ when_no _ _ _ (sym h ∙ b)), λ q. omega (arith, q))

pub find_lowest : (n m : ℕ) (t : Bytes) (r : Bool) (l : Result (Unit {0}) Fault) → m ≡ n → walk_fault n t ≡ unbroken → r ≡ head_fits n t → r ≡ true → Finds (lowest m t m 0) l → Finds (fault_of n t) l
unfolding fault_of later_fault
find_lowest n m t r l e z h b p =
    subst (λ (f : Fault). Finds f l)
    (ap (λ (k : ℕ). lowest k t k 0) e ∙ sym (then_second _ _ (ap (λ (x : Fault). x.rule) z) ∙ when_yes _ _ _ (sym h ∙ b))) p
