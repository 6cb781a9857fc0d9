-- Sweeps over the longest stretches of free blocks, rising: what holds whenever a loop's test is reached, for any relation between all stretches and those
-- that are left.
use mathlib.Core.Path.{◌≡◌, refl, sym, ap, subst, ◌∙◌}
use mathlib.Core.List.{List, [], ◌∷◌}
use mathlib.Core.Bool.{Bool, true, false, cond}
use mathlib.Core.Logic.{⊎_elim}
use Prim.Native.Nat.{ℕ, suc, ◌+◌, ◌-◌, ◌≤◌, ◌<◌}
use native.Mathlib.Omega.{arith}
use lib.Dec.{leb}
use lib.ListN.{get_or}
use borrow.Author.Tests.{leb-true, le-leb}
use Rattle.fat_node.specs.Entry.{Bytes}
use Rattle.fat_node.specs.Node.{Run, run}
use Rattle.fat_node.proofs.Nodes.{le_or_lt}
use Rattle.fat_table.specs.Layout.{covers}
use Rattle.fat_table.proofs.Layouts.{hits_in, hits_lo, hits_hi}
use Rattle.fat_carve.specs.Carve.{fit}
use Rattle.fat_carve.proofs.Carves.{fit_whole, fit_past}
use Rattle.fat_merge.specs.Merge.{stretches, Spread}
use Rattle.fat_merge.specs.Inner.Sweep.{Ahead, Reading}
use Rattle.fat_merge.proofs.Stretches.{stretch_spread, stretch_lo, spread_lo}
use Rattle.fat_merge.proofs.Loops.{Skips}
use Rattle.fat_plan.specs.Inner.Moves.{Says, Stands, StandsSaid, LowestSaid}
use Rattle.fat_plan.proofs.Reading.{Passes}

record OnSweep (R : List Run → List Run → Type 0) (n : ℕ) (t : Bytes) (w : List ℕ) (c : ℕ → ℕ) (b : ℕ) : Type 0 where
  ahead : Ahead n t w c b
  same : R (stretches n 0 c) (stretches (n - b) b c)

-- the sweep stands at block b, before a stretch or at the end
pub record Sweeping (R : List Run → List Run → Type 0) (n : ℕ) (t : Bytes) (w : List ℕ) (b : ℕ) : Type 0 where
  pub within : b ≤ n
  pub met : b < n → get_or w b 0 ≡ 0 → ⊥
  each : (c : ℕ → ℕ) → Ahead n t w c 0 → OnSweep R n t w c b

pub sweep_marked : {R : List Run → List Run → Type 0} (n : ℕ) (t : Bytes) (w : List ℕ) (b : ℕ) → Sweeping R n t w b → b < n → (get_or w b 0 ≡ 0 → ⊥)
sweep_marked n t w b v h = v.met h

module _ (R : List Run → List Run → Type 0) (n : ℕ) (t : Bytes) (w : List ℕ) (r : Reading n t w 0) where
  sweep_begin : ((l : List Run) → R l l) → (b : ℕ) → Skips n t w 0 b → Sweeping R n t w b
  sweep_begin g b s =
      let o = s r.told r.ahead in
      record {
        within = o.within;
        met = o.met;
        each = λ c a.
            let q : n ≡ n - 0 = omega arith in
            record {
              ahead = (s c a).ahead;
              same = subst (R (stretches n 0 c)) (ap (λ (y : ℕ). stretches y 0 c) q ∙ (s c a).same) (g (stretches n 0 c));
            };
      }

  module _ (b : ℕ) (v : Sweeping R n t w b) where
    sweep_reading : Reading n t w b
    sweep_reading = record { few = r.few; room = r.room; long = r.long; told = r.told; ahead = (v.each r.told r.ahead).ahead }

    module _ (e : ℕ) (p : Passes n t w b e) where
      sweep_fits : (b < e) × (e ≤ n)
      sweep_fits = let o = p r.told (v.each r.told r.ahead).ahead in (o.more, o.within)

      sweep_passed : Reading n t w e
      sweep_passed = record {
        few = r.few;
        room = r.room;
        long = r.long;
        told = r.told;
        ahead = (p r.told (v.each r.told r.ahead).ahead).ahead;
      }

      sweep_less : (x : ℕ) → Skips n t w e x → b < x
      sweep_less x s =
          let o = p r.told (v.each r.told r.ahead).ahead in
          omega (arith, o.more, (s r.told o.ahead).from)

      -- the stretch at hand and those behind it
      sweep_one : (c : ℕ → ℕ) → Ahead n t w c 0 → R (stretches n 0 c) (run b (e - b) ∷ stretches (n - e) e c)
      sweep_one c a = subst (R (stretches n 0 c)) (p c (v.each c a).ahead).one (v.each c a).same

      sweep_next : ((L l : List Run) → R L (run b (e - b) ∷ l) → R L l) → (x : ℕ) → Skips n t w e x → Sweeping R n t w x
      sweep_next g x s =
          let o = s r.told (p r.told (v.each r.told r.ahead).ahead).ahead in
          record {
            within = o.within;
            met = o.met;
            each = λ c a.
                let y = s c (p c (v.each c a).ahead).ahead in
                record {
                  ahead = y.ahead;
                  same = subst (R (stretches n 0 c)) y.same (g (stretches n 0 c) (stretches (n - e) e c) (sweep_one c a));
                };
          }

  -- at the end no stretch is left
  sweep_end : (b : ℕ) → Sweeping R n t w b → n ≤ b → (c : ℕ → ℕ) → Ahead n t w c 0 → R (stretches n 0 c) []
  sweep_end b v h c a =
      let q : n - b ≡ 0 = omega arith in
      subst (R (stretches n 0 c)) (ap (λ (y : ℕ). stretches y b c) q) (v.each c a).same

-- the first stretch that is long enough -------------------------------------------------------------------------

-- none of the stretches passed has k blocks
abbrev pub Fitting : ℕ → List Run → List Run → Type 0
Fitting k L l = fit k L ≡ fit k l

module _ (k n : ℕ) (t : Bytes) (w : List ℕ) (r : Reading n t w 0) where
  pub fit_begin : (b : ℕ) → Skips n t w 0 b → Sweeping (Fitting k) n t w b
  fit_begin b s = sweep_begin (Fitting k) n t w r (λ l. refl) b s

  pub fit_end : (b : ℕ) → Sweeping (Fitting k) n t w b → n ≤ b → LowestSaid n t w k 0
  fit_end b v h c a = sym (sweep_end (Fitting k) n t w r b v h c a)

  module _ (b : ℕ) (v : Sweeping (Fitting k) n t w b) where
    pub fit_reading : Reading n t w b
    fit_reading = sweep_reading (Fitting k) n t w r b v

    module _ (e : ℕ) (p : Passes n t w b e) where
      fit_bounds : (b < e) × (e ≤ n)
      fit_bounds = sweep_fits (Fitting k) n t w r b v e p

      pub fit_passed : Reading n t w e
      fit_passed = sweep_passed (Fitting k) n t w r b v e p

      pub fit_found : k ≤ e - b → LowestSaid n t w k (b + 1)
      fit_found h c a =
          let q : b + 1 ≡ suc b = omega arith in
          q ∙ sym (sweep_one (Fitting k) n t w r b v e p c a ∙ fit_whole k (run b (e - b)) (stretches (n - e) e c) h)

      pub fit_next : e - b < k → (x : ℕ) → Skips n t w e x → Sweeping (Fitting k) n t w x
      fit_next h x s = sweep_next (Fitting k) n t w r b v e p (λ L l q. q ∙ fit_past k (run b (e - b)) l h) x s

      pub fit_low : b ≤ e
      fit_low = omega (arith, fit_bounds.0)

      pub fit_less : (x : ℕ) → Skips n t w e x → n - x < n - b
      fit_less x s = omega (arith, sweep_less (Fitting k) n t w r b v e p x s, fit_bounds.0, fit_bounds.1)

-- whether k blocks from m on stand --------------------------------------------------------------------------------

-- the stretches passed all end at block m or before
abbrev pub Past : ℕ → List Run → List Run → Type 0
Past m L l = (x : ℕ) → m ≤ x → covers x L ≡ covers x l

pub says_not : {P : Type 0} → (P → ⊥) → Says false P
says_not g = record { so = λ e. let z : ◌≡◌ {A = Bool} false true = e in absurd_clash z; if = λ p. absurd (g p) }
  where
    absurd_clash : {A : Type 0} → ◌≡◌ {A = Bool} false true → A
    absurd_clash e = let z : ◌≡◌ {A = ℕ} 0 1 = ap (λ (b : Bool). cond b 1 0) e in let y : ⊥ = omega (arith, z) in absurd y

module _ (m k n : ℕ) (t : Bytes) (w : List ℕ) (r : Reading n t w 0) (some : 1 ≤ k) where
  pub stand_begin : (b : ℕ) → Skips n t w 0 b → Sweeping (Past m) n t w b
  stand_begin b s = sweep_begin (Past m) n t w r (λ l x h. refl) b s

  pub stand_end : (b : ℕ) → Sweeping (Past m) n t w b → n ≤ b → StandsSaid n t w m k false
  stand_end b v h c a = says_not (λ g. omega (arith, g m (omega arith) (omega (arith, some)), sweep_end (Past m) n t w r b v h c a m (omega arith)))

  module _ (b : ℕ) (v : Sweeping (Past m) n t w b) where
    pub stand_reading : Reading n t w b
    stand_reading = sweep_reading (Past m) n t w r b v

    module _ (e : ℕ) (p : Passes n t w b e) where
      stand_bounds : (b < e) × (e ≤ n)
      stand_bounds = sweep_fits (Past m) n t w r b v e p

      pub stand_passed : Reading n t w e
      stand_passed = sweep_passed (Past m) n t w r b v e p

      pub stand_low : b ≤ e
      stand_low = omega (arith, stand_bounds.0)

      pub stand_less : (x : ℕ) → Skips n t w e x → n - x < n - b
      stand_less x s = omega (arith, sweep_less (Past m) n t w r b v e p x s, stand_bounds.0, stand_bounds.1)

      pub stand_next : e ≤ m → (x : ℕ) → Skips n t w e x → Sweeping (Past m) n t w x
      stand_next h x s =
          sweep_next (Past m) n t w r b v e p
          (λ L l q y j. omega (arith, q y j, hits_hi y (run b (e - b)) (omega (arith, stand_bounds.0, h, j)))) x s

      -- the stretch at hand starts behind block m
      pub stand_before : m < e → m < b → StandsSaid n t w m k (leb b m)
      stand_before h j c a = record {
        so = λ q. absurd (omega (arith, leb-true b m q, j));
        if = λ g. absurd (omega (
          arith,
          g m (omega arith) (omega (arith, some)),
          sweep_one (Past m) n t w r b v e p c a m (omega arith),
          hits_lo m (run b (e - b)) j,
          stretch_lo (n - e) e c m h,
        ));
      }

      -- block m is in it
      stand_in : b ≤ m → m < e → (c : ℕ → ℕ) → Ahead n t w c 0 → m + k ≤ e → Stands n c m k
      stand_in h j c a q x f g =
          omega (arith, sweep_one (Past m) n t w r b v e p c a x f, hits_in x (run b (e - b)) (omega (arith, h, f)) (omega (arith, stand_bounds.0, g, q)))

      -- a stretch that is left starts behind the block where this one ends
      stand_gap : (c : ℕ → ℕ) → Ahead n t w c 0 → covers e (stretches (n - e) e c) ≡ 0
      stand_gap c a =
          let s : Spread b (run b (e - b) ∷ stretches (n - e) e c) = subst (Spread b) (p c (v.each c a).ahead).one (stretch_spread (n - b) b c) in
          spread_lo (suc (b + (e - b))) (stretches (n - e) e c) e s.1 (omega (arith, stand_bounds.0))

      stand_all : m < e → (c : ℕ → ℕ) → Ahead n t w c 0 → Stands n c m k → m + k ≤ e
      stand_all h c a g = ⊎_elim
          (λ j. j)
          (λ j. let z : ⊥ = omega (
            arith,
            g e (omega (arith, h)) j,
            sweep_one (Past m) n t w r b v e p c a e (omega (arith, h)),
            hits_hi e (run b (e - b)) (omega (arith, stand_bounds.0)),
            stand_gap c a,
          ) in absurd z)
          (le_or_lt (m + k) e)

      pub stand_says : m < e → b ≤ m → StandsSaid n t w m k (leb (m + k) e)
      stand_says h j c a = record {
        so = λ q. stand_in j h c a (leb-true (m + k) e q);
        if = λ g. le-leb (m + k) e (stand_all h c a g);
      }
