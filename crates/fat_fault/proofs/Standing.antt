-- The walk from block 0 finds no fault exactly when the nodes cover the blocks end to end.
use mathlib.Core.Path.{◌≡◌, refl, sym, ap, subst, ◌∙◌}
use mathlib.Core.List.Memᴰ
use mathlib.Core.List.{List, [], ◌∷◌}
use mathlib.Core.Bool.{Bool, true, false, ◌||◌}
use mathlib.Core.Logic.{⊎_elim}
use Prim.Native.Nat.{ℕ, zero, suc, ◌+◌, ◌<◌, ◌≤◌}
use native.Mathlib.Omega.{arith}
use lib.Dec.{eqb}
use borrow.Author.Tests.{eqb-true, eq-eqb, lt-ltb, le-ltb}
use Rattle.fat_node.specs.Entry.{Bytes}
use Rattle.fat_node.specs.Node.{Run, run, NodeAt}
use Rattle.fat_node.proofs.Nodes.{le_or_lt}
use Rattle.fat_node.proofs.Cases.{untrue}
use Rattle.fat_table.specs.Sound.{Starts, IsNode, Covered}
use Rattle.fat_table.specs.Sound.Starts.{begin, after}
use Rattle.fat_table.specs.Chain.{size_at}
use Rattle.fat_table.specs.Counts.{scan, nodes}
use Rattle.fat_table.proofs.Layouts.{EndToEnd}
use Rattle.fat_table.proofs.Chains.{In}
use Rattle.fat_table.proofs.Sounds.{node_size, node_in, in_node}
use Rattle.order.specs.declared.Fault.{Fault}
use Rattle.order.specs.Answer.{unbroken}
use Rattle.fat_node.specs.Fault.{node_fault}
use Rattle.fat_fault.specs.Fault.{or_else, walk_from, walk_fault, starts_at, is_node}
use Rattle.fat_node.proofs.Faults.{when_yes, when_no, node_clear}
use Rattle.fat_fault.proofs.Rules.{first_none, then_second, clear_node}

module _ (n : ℕ) (t : Bytes) where
  -- one step of the walk, and the end of it
  pub walk_on : (k b : ℕ) → b < n → walk_from n t (suc k) b ≡ or_else (node_fault n t b) (walk_from n t k (b + size_at t b))
  walk_on k b h = when_yes _ _ _ (lt-ltb b n h)

  pub walk_end : (k b : ℕ) → n ≤ b → walk_from n t k b ≡ unbroken
  walk_end zero b h = refl
  walk_end (suc k) b h = when_no _ _ _ (le-ltb b n h)

  pub scan_on : (k b : ℕ) → b < n → scan n t (suc k) b ≡ run b (size_at t b) ∷ scan n t k (b + size_at t b)
  scan_on k b h = rw (lt-ltb b n h)

  pub scan_end : (k b : ℕ) → n ≤ b → scan n t k b ≡ []
  scan_end zero b h = refl
  scan_end (suc k) b h = rw (le-ltb b n h)

  -- the nodes of a list go end to end from b, and each stands
  pub record Stand (b : ℕ) (l : List Run) : Type 0 where
    pub cover : EndToEnd b l n
    pub node : (r : Run) → In r l → NodeAt t n r.start r.size

  stand_none : (b : ℕ) → b ≡ n → Stand b []
  stand_none b e = record { cover = e; node = λ r m. absurd (Memᴰ.not-nil m) }

  stand_on : (b s : ℕ) (l : List Run) → NodeAt t n b s → Stand (b + s) l → Stand b (run b s ∷ l)
  stand_on b s l w d = record {
    cover = (refl, w.some, d.cover);
    node = λ r m. ⊎_elim
        (λ q. subst (λ (x : Run). NodeAt t n x.start x.size) (sym q) w)
        (λ k. d.node r k)
        (Memᴰ.cases_cons m);
  }

  clear_from : (k b : ℕ) → b ≤ n → n ≤ b + k → (walk_from n t k b).rule ≡ 0 → Stand b (scan n t k b)
  clear_from zero b h l f = stand_none b (omega arith)
  clear_from (suc k) b h l f =
      ⊎_elim
      (λ e. subst (Stand b) (sym (scan_end (suc k) b e)) (stand_none b (omega (arith, e))))
      (λ e.
      let g = first_none _ _ (ap (λ (x : Fault). x.rule) (sym (walk_on k b e)) ∙ f) in
      let w = clear_node n t b e g.0 in
      subst (Stand b) (sym (scan_on k b e)) (stand_on b (size_at t b) (scan n t k (b + size_at t b)) w (clear_from k (b + size_at t b) w.within (omega (arith, w.some)) g.1)))
      (le_or_lt n b)

  pub clear_stand : (walk_fault n t).rule ≡ 0 → Stand 0 (nodes n t)
  unfolding walk_fault
  clear_stand f = clear_from n 0 (omega arith) (omega arith) f

  covered_from : n ≤ 1000000 → Covered t n → (k b : ℕ) → Starts t n b → walk_from n t k b ≡ unbroken
  covered_from small c zero b st = refl
  covered_from small c (suc k) b st =
      ⊎_elim
      (λ e. walk_end (suc k) b e)
      (λ e.
      let w = c b (st, e) in
      let z = node_size t n b w.0 w.1 in
      walk_on k b e ∙ then_second _ _ (ap (λ (x : Fault). x.rule) (node_clear n t b w.0 w.1 small)) ∙ covered_from small c k (b + size_at t b) (after st w.1 (ap (λ (s : ℕ). b + s) z)))
      (le_or_lt n b)

  pub covered_clear : n ≤ 1000000 → Covered t n → walk_fault n t ≡ unbroken
  unfolding walk_fault
  covered_clear small c = covered_from small c n 0 begin

-- ---- a node starts at b: in the list, and as the rules say

pub starts_in : (l : List Run) (b : ℕ) → starts_at l b ≡ true → (r : Run) × In r l × (r.start ≡ b)
starts_in [] b e = untrue e
starts_in (a ∷ l) b e = go (eqb a.start b) refl e (λ f. starts_in l b f)
  where
    go : (x : Bool) → eqb a.start b ≡ x → (x || starts_at l b) ≡ true → (starts_at l b ≡ true → (r : Run) × In r l × (r.start ≡ b)) → (r : Run) × In r (a ∷ l) × (r.start ≡ b)
    go true q e ih = (a, Memᴰ.head refl, eqb-true a.start b q)
    go false q e ih = let w = ih e in (w.0, Memᴰ.tail w.1, w.2)

or_yes : (a b : Bool) → b ≡ true → (a || b) ≡ true
or_yes true b e = refl
or_yes false b e = e

pub in_starts : (l : List Run) (b : ℕ) (r : Run) → In r l → r.start ≡ b → starts_at l b ≡ true
in_starts [] b r m e = absurd (Memᴰ.not-nil m)
in_starts (a ∷ l) b r m e =
    ⊎_elim
    (λ q. ap (λ (x : Bool). x || starts_at l b) (eq-eqb a.start b (ap (λ (x : Run). x.start) (sym q) ∙ e)))
    (λ k. or_yes (eqb a.start b) (starts_at l b) (in_starts l b r k e))
    (Memᴰ.cases_cons m)

pub scan_below : (n : ℕ) (t : Bytes) (k b x : ℕ) → starts_at (scan n t k b) x ≡ true → x < n
scan_below n t zero b x e = untrue e
scan_below n t (suc k) b x e =
    ⊎_elim
    (λ h. untrue (ap (λ (l : List Run). starts_at l x) (sym (scan_end n t (suc k) b h)) ∙ e))
    (λ h. go (eqb b x) refl h (ap (λ (l : List Run). starts_at l x) (sym (scan_on n t k b h)) ∙ e) (λ f. scan_below n t k (b + size_at t b) x f))
    (le_or_lt n b)
  where
    go : (y : Bool) → eqb b x ≡ y → b < n → (y || starts_at (scan n t k (b + size_at t b)) x) ≡ true → (starts_at (scan n t k (b + size_at t b)) x ≡ true → x < n) → x < n
    go true q h e ih = omega (arith, eqb-true b x q)
    go false q h e ih = ih e

-- a node starts below n
pub node_below : (n : ℕ) (t : Bytes) (b : ℕ) → is_node n t b ≡ true → b < n
unfolding is_node
node_below n t b e = scan_below n t n 0 b e

module _ (n : ℕ) (t : Bytes) (s : Stand n t 0 (nodes n t)) where
  pub is_node_lem : (b : ℕ) → is_node n t b ≡ true → IsNode t n b
  unfolding is_node
  is_node_lem b e = let w = starts_in (nodes n t) b e in subst (IsNode t n) w.2 (in_node n t (nodes n t) s.cover s.node w.1)

  pub node_is : (b : ℕ) → IsNode t n b → is_node n t b ≡ true
  unfolding is_node
  node_is b i = let w = node_in n t (nodes n t) s.cover s.node i in in_starts (nodes n t) b w.0 w.1 w.2
