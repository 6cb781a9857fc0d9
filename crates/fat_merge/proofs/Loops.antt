-- The loops of the merge: what holds whenever a loop's test is reached.
use mathlib.Core.Path.{◌≡◌, refl, sym, ap, ◌∙◌}
use mathlib.Core.List.{List, ◌∷◌}
use mathlib.Core.Logic.{◌≢◌, ⊎_elim}
use Prim.Native.Nat.{ℕ, suc, ◌+◌, ◌-◌, ◌≤◌, ◌<◌}
use native.Mathlib.Omega.{arith}
use lib.ListN.{length, get_or, set, length-set}
use lib.Seq.{get_or-set_same, get_or-set_other}
use Rattle.links.proofs.Held.{same_or}
use Rattle.fat_node.specs.Entry.{Bytes, get}
use Rattle.fat_node.specs.Node.{Run, run, NodeAt, set_node}
use Rattle.fat_node.proofs.Nodes.{le_or_lt, length_set_node, set_node_after}
use Rattle.fat_table.specs.Steps.{first, lay}
use Rattle.fat_merge.specs.Merge.{stretches}
use Rattle.fat_merge.specs.Inner.Sweep.{Ahead, Here, Reading, Skipped, Passed, Swept, PassedOver, LaidFrom, IndexIs}
use Rattle.fat_merge.proofs.Sweeps.{ahead_of, ahead_of_add, ahead_of_run, ahead_at, ahead_within, ahead_same, ahead_marks, hop_ahead, hop_inside, hop_unmarked, hop_marked, first_unmarked, first_index}

-- what a sweep that needs no colour says of every one
abbrev pub Skips : ℕ → Bytes → List ℕ → ℕ → ℕ → Type 0
Skips n t w b r = (c : ℕ → ℕ) → Ahead n t w c b → Skipped n t w c b r

-- over nodes that are not marked -----------------------------------------------------------------------------

record OnSkip (n : ℕ) (t : Bytes) (w : List ℕ) (c : ℕ → ℕ) (f b : ℕ) : Type 0 where
  from : f ≤ b
  ahead : Ahead n t w c b
  same : stretches (n - f) f c ≡ stretches (n - b) b c
  none : (x : ℕ) → f ≤ x → x < b → get_or w x 0 ≡ 0

pub record Skipping (n : ℕ) (t : Bytes) (w : List ℕ) (f b : ℕ) : Type 0 where
  each : (c : ℕ → ℕ) → Ahead n t w c f → OnSkip n t w c f b

pub skip_begin : (n : ℕ) (t : Bytes) (w : List ℕ) (f : ℕ) → Skipping n t w f f
skip_begin n t w f = record {
  each = λ c a. record { from = omega arith; ahead = a; same = refl; none = λ x p q. let z : ⊥ = omega (arith, p, q) in absurd z };
}

module _ (n : ℕ) (t : Bytes) (w : List ℕ) (f b : ℕ) (v : Skipping n t w f b) where
  pub skip_here : Reading n t w f → b < n → Here n t b
  skip_here r h = let o = ahead_at (v.each r.told r.ahead).ahead h in record { few = r.few; room = r.room; low = h; size = o.size; node = o.is }

  pub skip_next : (s : ℕ) → b < n → get_or w b 0 ≡ 0 → NodeAt t n b s → Skipping n t w f (b + s)
  skip_next s h z i = record {
    each = λ c a.
        let o = v.each c a in
        record {
          from = omega (arith, o.from);
          ahead = hop_ahead n t w c b s o.ahead h i;
          same = o.same ∙ hop_unmarked n t w c b s o.ahead h i z;
          none = λ x p q.
              ⊎_elim
              (λ k. hop_inside n t w c b s o.ahead h i x k q)
              (λ k. ⊎_elim (λ e. ap (λ (y : ℕ). get_or w y 0) e ∙ z) (λ e. o.none x p (omega (arith, k, e))) (same_or x b))
              (le_or_lt (suc b) x);
        };
  }

  pub skip_met : b < n → (get_or w b 0 ≡ 0 → ⊥) → Skips n t w f b
  skip_met h g c a =
      let o = v.each c a in
      record { from = o.from; within = ahead_within o.ahead; ahead = o.ahead; same = o.same; met = λ k. g; none = o.none }

  pub skip_end : n ≤ b → Skips n t w f b
  skip_end h c a =
      let o = v.each c a in
      record { from = o.from; within = ahead_within o.ahead; ahead = o.ahead; same = o.same; met = λ k e. omega (arith, k, h); none = o.none }

-- over marked nodes ------------------------------------------------------------------------------------------

pub record OnPass (n : ℕ) (t : Bytes) (w : List ℕ) (c : ℕ → ℕ) (f b : ℕ) : Type 0 where
  pub from : f ≤ b
  pub ahead : Ahead n t w c b
  pub same : stretches (n - f) f c ≡ ahead_of (b - f) f (stretches (n - b) b c)

-- from block f with the marks w₀ the loop came to block b, with the marks w
pub record Passing (n : ℕ) (t : Bytes) (w₀ : List ℕ) (f : ℕ) (w : List ℕ) (b : ℕ) : Type 0 where
  each : (c : ℕ → ℕ) → Ahead n t w₀ c f → OnPass n t w₀ c f b
  pub swept : Swept f b w₀ w

-- nothing is swept at the beginning
swept_none : (f : ℕ) (w : List ℕ) → Swept f f w w
swept_none f w = record { long = refl; gone = λ x p q. let z : ⊥ = omega (arith, p, q) in absurd z; below = λ x p. refl; behind = λ x p. refl }

pub pass_begin : (n : ℕ) (t : Bytes) (w : List ℕ) (f : ℕ) → Passing n t w f w f
pass_begin n t w f = record {
  each = λ c a.
      let q : 0 ≡ f - f = omega arith in
      record { from = omega arith; ahead = a; same = ap (λ (y : ℕ). ahead_of y f (stretches (n - f) f c)) q };
  swept = swept_none f w;
}

-- one mark more taken away
swept_more : (f b s : ℕ) (w₀ w w' : List ℕ) → f ≤ b → 1 ≤ s → b < length w₀ → Swept f b w₀ w → w' ≡ set w b 0 → ((x : ℕ) → b < x → x < b + s → get_or w₀ x 0 ≡ 0)
    → Swept f (b + s) w₀ w'
swept_more f b s w₀ w w' h some low v e z =
    let other : (x : ℕ) → x ≢ b → get_or w' x 0 ≡ get_or w x 0 = λ x ne. ap (λ (l : List ℕ). get_or l x 0) e ∙ get_or-set_other w b x 0 0 ne in
    let here : get_or w' b 0 ≡ 0 = ap (λ (l : List ℕ). get_or l b 0) e ∙ get_or-set_same w b 0 0 (omega (arith, low, v.long)) in
    record {
      long = ap (λ (l : List ℕ). length l) e ∙ length-set w b 0 ∙ v.long;
      gone = λ x p q.
          ⊎_elim
          (λ k. other x (λ u. omega (arith, u, k)) ∙ v.behind x (omega (arith, k)) ∙ z x k q)
          (λ k. ⊎_elim (λ u. ap (λ (y : ℕ). get_or w' y 0) u ∙ here) (λ u. other x u ∙ v.gone x p (omega (arith, k, u))) (same_or x b))
          (le_or_lt (suc b) x);
      below = λ x p. other x (λ u. omega (arith, u, p, h)) ∙ v.below x p;
      behind = λ x p. other x (λ u. omega (arith, u, p, some)) ∙ v.behind x (omega (arith, p));
    }

pub pass_more : (n f b s : ℕ) (c : ℕ → ℕ) → f ≤ b → stretches (n - f) f c ≡ ahead_of (b - f) f (stretches (n - b) b c)
    → stretches (n - b) b c ≡ ahead_of s b (stretches (n - (b + s)) (b + s) c)
    → stretches (n - f) f c ≡ ahead_of (b + s - f) f (stretches (n - (b + s)) (b + s) c)
pass_more n f b s c h p q =
    let e : b ≡ f + (b - f) = omega arith in
    p
    ∙ ap (ahead_of (b - f) f) (q ∙ ap (λ (y : ℕ). ahead_of s y (stretches (n - (b + s)) (b + s) c)) e)
    ∙ ahead_of_add (b - f) s (b + s - f) f (stretches (n - (b + s)) (b + s) c) (omega arith)

pub pass_one : (n : ℕ) (t : Bytes) (w : List ℕ) (c : ℕ → ℕ) (f b : ℕ) → OnPass n t w c f b → f < b → (b < n → get_or w b 0 ≡ 0) → Passed n t w c f b
pass_one n t w c f b o h g =
    let e : b ≡ f + (b - f) = omega arith in
    record {
      more = h;
      within = ahead_within o.ahead;
      ahead = o.ahead;
      one = o.same
          ∙ ahead_of_run (b - f) f (stretches (n - b) b c) (omega arith) (λ q. first_unmarked n t w c b o.ahead g (q ∙ ap suc (sym e)));
    }

module _ (n : ℕ) (t : Bytes) (w₀ : List ℕ) (f : ℕ) (w : List ℕ) (b : ℕ) (r : Reading n t w₀ f) (v : Passing n t w₀ f w b) where
  pub pass_here : b < n → Here n t b
  pass_here h = let o = ahead_at (v.each r.told r.ahead).ahead h in record { few = r.few; room = r.room; low = h; size = o.size; node = o.is }

  pub pass_next : (s : ℕ) (w' : List ℕ) → b < n → (get_or w b 0 ≡ 0 → ⊥) → w' ≡ set w b 0 → NodeAt t n b s → Passing n t w₀ f w' (b + s)
  pass_next s w' h z e i =
      let y : get_or w₀ b 0 ≢ 0 = λ u. z (v.swept.behind b (omega arith) ∙ u) in
      let k = v.each r.told r.ahead in
      record {
        each = λ c a.
            let o = v.each c a in
            record {
              from = omega (arith, o.from);
              ahead = hop_ahead n t w₀ c b s o.ahead h i;
              same = pass_more n f b s c o.from o.same (hop_marked n t w₀ c b s o.ahead h i y);
            };
        swept = swept_more f b s w₀ w w' k.from i.some (omega (arith, h, r.long)) v.swept e (hop_inside n t w₀ r.told b s k.ahead h i);
      }

  pub pass_met : (get_or w₀ f 0 ≡ 0 → ⊥) → get_or w b 0 ≡ 0 → PassedOver n t w₀ w f b
  pass_met m g =
      let g₀ : get_or w₀ b 0 ≡ 0 = sym (v.swept.behind b (omega arith)) ∙ g in
      record {
        each = λ c a.
            let o = v.each c a in
            pass_one n t w₀ c f b o
            (⊎_elim (λ k. absurd (m (ap (λ (y : ℕ). get_or w₀ y 0) (the_same f b o.from k) ∙ g₀))) (λ k. k) (le_or_lt b f))
            (λ k. g₀);
        swept = v.swept;
      }
    where
      the_same : (f b : ℕ) → f ≤ b → b ≤ f → f ≡ b
      the_same f b p q = omega arith

  pub pass_end : f < n → n ≤ b → PassedOver n t w₀ w f b
  pass_end h k = record {
    each = λ c a. pass_one n t w₀ c f b (v.each c a) (omega arith) (λ j. let z : ⊥ = omega (arith, j, k) in absurd z);
    swept = v.swept;
  }

-- the stretches laid -----------------------------------------------------------------------------------------

record OnLay (n : ℕ) (t₀ : Bytes) (c : ℕ → ℕ) (f : ℕ) (t : Bytes) (w : List ℕ) (b p : ℕ) : Type 0 where
  ahead : Ahead n t w c b
  same : lay (stretches (n - f) f c) 0 t₀ ≡ lay (stretches (n - b) b c) p t

pub record Lays (n : ℕ) (t₀ : Bytes) (w₀ : List ℕ) (f : ℕ) (t : Bytes) (w : List ℕ) (b p : ℕ) : Type 0 where
  pub room : length t ≡ length t₀
  pub prev : p ≤ n
  pub from : f ≤ b
  pub within : b ≤ n
  pub met : b < n → get_or w b 0 ≡ 0 → ⊥
  pub swept : Swept f b w₀ w
  each : (c : ℕ → ℕ) → Ahead n t₀ w₀ c f → OnLay n t₀ c f t w b p

pub lays_begin : (n : ℕ) (t : Bytes) (w : List ℕ) (f : ℕ) → Reading n t w f → (f < n → get_or w f 0 ≡ 0 → ⊥) → Lays n t w f t w f 0
lays_begin n t w f r g = record {
  room = refl;
  prev = omega arith;
  from = omega arith;
  within = ahead_within r.ahead;
  met = g;
  swept = swept_none f w;
  each = λ c a. record { ahead = a; same = refl };
}

pub lays_end : (n : ℕ) (t₀ : Bytes) (w₀ : List ℕ) (f : ℕ) (t : Bytes) (w : List ℕ) (b p : ℕ) → Lays n t₀ w₀ f t w b p → n ≤ b → LaidFrom n t₀ t w₀ w f
lays_end n t₀ w₀ f t w b p v h = record {
  each = λ c a.
      let q : n - b ≡ 0 = omega arith in
      sym ((v.each c a).same ∙ ap (λ (y : ℕ). lay (stretches y b c) p t) q);
  swept = record {
    long = v.swept.long;
    gone = λ x k j. v.swept.gone x k (omega (arith, j, h));
    below = v.swept.below;
    behind = λ x k. v.swept.behind x (omega (arith, k, v.within));
  };
}

module _ (n : ℕ) (t₀ : Bytes) (w₀ : List ℕ) (f : ℕ) (t : Bytes) (w : List ℕ) (b p : ℕ) (r : Reading n t₀ w₀ f) (v : Lays n t₀ w₀ f t w b p) where
  pub lays_marked : b < n → (get_or w b 0 ≡ 0 → ⊥)
  lays_marked h = v.met h

  pub lays_reading : Reading n t w b
  lays_reading = record {
    few = r.few;
    room = v.room ∙ r.room;
    long = v.swept.long ∙ r.long;
    told = r.told;
    ahead = (v.each r.told r.ahead).ahead;
  }

  module _ (e : ℕ) (w₁ : List ℕ) (g : PassedOver n t w w₁ b e) where
    pub lays_passed : Reading n t w₁ e
    lays_passed =
        let o = lays_reading in
        record {
          few = o.few;
          room = o.room;
          long = g.swept.long ∙ o.long;
          told = o.told;
          ahead = ahead_marks w₁ (g.each o.told o.ahead).ahead g.swept.behind;
        }

    module _ (x q : ℕ) (k : Skips n t w₁ e x) (i : IndexIs n x q) where
      pub lays_fits : (b < e) × (e ≤ x) × (x ≤ n) × (q ≤ n)
      lays_fits =
          let o = lays_passed in
          let y = k o.told o.ahead in (
            (g.each r.told (v.each r.told r.ahead).ahead).more,
            y.from,
            y.within,
            ⊎_elim (λ h. omega (arith, i.none h)) (λ h. omega (arith, i.some h, h)) (le_or_lt n x),
          )

      -- the marks up to the next stretch are gone
      lays_swept : Swept f x w₀ w₁
      lays_swept =
          let z = lays_fits in
          let o = lays_passed in
          let y = k o.told o.ahead in
          record {
            long = g.swept.long ∙ v.swept.long;
            gone = λ j h m.
                ⊎_elim
                (λ u. y.none j u m)
                (λ u. ⊎_elim (λ a. g.swept.gone j a u) (λ a. g.swept.below j a ∙ v.swept.gone j h a) (le_or_lt b j))
                (le_or_lt e j);
            below = λ j h. g.swept.below j (omega (arith, h, v.from)) ∙ v.swept.below j h;
            behind = λ j h. g.swept.behind j (omega (arith, h, z.1)) ∙ v.swept.behind j (omega (arith, h, z.0, z.1));
          }

      pub lays_next : (t' : Bytes) → t' ≡ set_node t (run b (e - b)) p q → Lays n t₀ w₀ f t' w₁ x (b + 1)
      lays_next t' s =
          let z = lays_fits in
          let keeps : (j : ℕ) → x < j → get t' j ≡ get t j =
          λ j h. ap (λ (y : Bytes). get y j) s ∙ set_node_after t (run b (e - b)) p q j (omega (arith, z.0, z.1, h)) (omega (arith, z.0)) in
          record {
            room = ap (λ (y : Bytes). length y) s ∙ length_set_node t (run b (e - b)) p q ∙ v.room;
            prev = omega (arith, z.0, z.1, z.2);
            from = omega (arith, z.0, z.1, v.from);
            within = z.2;
            met = let o = lays_passed in (k o.told o.ahead).met;
            swept = lays_swept;
            each = λ c a.
                let o = v.each c a in
                let m = g.each c o.ahead in
                let j = k c (ahead_marks w₁ m.ahead g.swept.behind) in
                let L : List Run = stretches (n - x) x c in
                let l : stretches (n - b) b c ≡ run b (e - b) ∷ L = m.one ∙ ap {B = List Run} (λ y. run b (e - b) ∷ y) j.same in
                let q' : first L ≡ q = first_index n t w₁ c x j.ahead j.met q i in
                let d : suc b ≡ b + 1 = omega arith in
                record {
                  ahead = ahead_same t' j.ahead keeps;
                  same = o.same
                      ∙ ap (λ (y : List Run). lay y p t) l
                      ∙ ap (λ (y : ℕ). lay L (suc b) (set_node t (run b (e - b)) p y)) q'
                      ∙ ap (lay L (suc b)) (sym s)
                      ∙ ap (λ (y : ℕ). lay L y t') d;
                };
          }
