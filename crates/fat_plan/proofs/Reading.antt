-- The end of a stretch of marked blocks, read: what holds whenever the loop's test is reached.
use mathlib.Core.Path.{◌≡◌, ap, ◌∙◌}
use mathlib.Core.List.{List}
use mathlib.Core.Logic.{⊎_elim}
use Prim.Native.Nat.{ℕ, ◌+◌, ◌-◌, ◌≤◌, ◌<◌}
use native.Mathlib.Omega.{arith}
use lib.ListN.{get_or}
use Rattle.fat_node.specs.Entry.{Bytes}
use Rattle.fat_node.specs.Node.{NodeAt}
use Rattle.fat_node.proofs.Nodes.{le_or_lt}
use Rattle.fat_merge.specs.Merge.{stretches}
use Rattle.fat_merge.specs.Inner.Sweep.{Ahead, Here, Reading, Passed}
use Rattle.fat_merge.proofs.Sweeps.{ahead_of, ahead_at, hop_ahead, hop_marked}
use Rattle.fat_merge.proofs.Loops.{OnPass, pass_more, pass_one}

-- the sweep comes from block b to block r over a whole stretch, whatever the colours are
abbrev pub Passes : ℕ → Bytes → List ℕ → ℕ → ℕ → Type 0
Passes n t w b r = (c : ℕ → ℕ) → Ahead n t w c b → Passed n t w c b r

pub record Reads (n : ℕ) (t : Bytes) (w : List ℕ) (f b : ℕ) : Type 0 where
  each : (c : ℕ → ℕ) → Ahead n t w c f → OnPass n t w c f b

pub read_begin : (n : ℕ) (t : Bytes) (w : List ℕ) (f : ℕ) → Reads n t w f f
read_begin n t w f = record {
  each = λ c a.
      let q : 0 ≡ f - f = omega arith in
      record { from = omega arith; ahead = a; same = ap (λ (y : ℕ). ahead_of y f (stretches (n - f) f c)) q };
}

module _ (n : ℕ) (t : Bytes) (w : List ℕ) (f b : ℕ) (v : Reads n t w f b) where
  pub read_here : Reading n t w f → b < n → Here n t b
  read_here r h = let o = ahead_at (v.each r.told r.ahead).ahead h in record { few = r.few; room = r.room; low = h; size = o.size; node = o.is }

  pub read_next : (s : ℕ) → b < n → (get_or w b 0 ≡ 0 → ⊥) → NodeAt t n b s → Reads n t w f (b + s)
  read_next s h z i = record {
    each = λ c a.
        let o = v.each c a in
        record {
          from = omega (arith, o.from);
          ahead = hop_ahead n t w c b s o.ahead h i;
          same = pass_more n f b s c o.from o.same (hop_marked n t w c b s o.ahead h i z);
        };
  }

  pub read_met : (get_or w f 0 ≡ 0 → ⊥) → get_or w b 0 ≡ 0 → Passes n t w f b
  read_met m g c a =
      let o = v.each c a in
      pass_one n t w c f b o
      (⊎_elim (λ k. absurd (m (ap (λ (y : ℕ). get_or w y 0) (the_same f b o.from k) ∙ g))) (λ k. k) (le_or_lt b f))
      (λ k. g)
    where
      the_same : (f b : ℕ) → f ≤ b → b ≤ f → f ≡ b
      the_same f b p q = omega arith

  pub read_end : f < n → n ≤ b → Passes n t w f b
  read_end h k c a = pass_one n t w c f b (v.each c a) (omega arith) (λ j. let z : ⊥ = omega (arith, j, k) in absurd z)
