-- The gates of the calls with a map, from the table's own gate.
use mathlib.Core.Path.{◌≡◌, refl, sym, ap, subst, subst⁻¹, ◌∙◌}
use mathlib.Core.List.{List, [], ◌∷◌, ◌++◌}
use mathlib.Core.Bool.{Bool, true, false, not}
use mathlib.Core.Logic.{◌⊎◌, inl, inr, ⊎_elim}
use Prim.Native.Nat.{ℕ, ◌≤◌, ◌<◌}
use native.Mathlib.Omega.{arith}
use lib.ListN.{length, take, drop, replicate, length-append, length-replicate, length-drop}
use lib.Seq.{drop_at, length-take-le}
use borrow.Author.Tests.{not-true, not-false}
use Rattle.order.specs.First.{Row}
use Rattle.order.specs.Gate.{cleared, gate, Refusal, refusal}
use Rattle.order.specs.Given.{Given, None}
use Rattle.order.specs.Tells.{Tells}
use Rattle.std.specs.Prelude.{Result, Ok, Err}
use Rattle.order.specs.declared.Refusal as why
use Rattle.order.specs.declared.Refusal.TheVariants as refused
use Rattle.order.specs.Answer.{unbroken}
use Rattle.order.specs.Answer.{Answer}
use Rattle.order.specs.Answer.{BrokenFat, ReadOnlyVolume}
use Rattle.order.proofs.Gate.{later_says, later_past}
use Rattle.fat_node.specs.declared.Counts.{Counts}
use Rattle.fat_node.specs.Entry.{Bytes}
use Rattle.fat_node.specs.Sizes.{blocks}
use Rattle.fat_node.proofs.Sizes.{fit, inside}
use Rattle.fat_node.proofs.Nodes.{le_or_lt}
use Rattle.fat_table.specs.Sound.{Sound}
use Rattle.fat_test.specs.Gate.{InUse, unsound, retired, Uneven, Unfit, gate_with}
use Rattle.fat_test.specs.Inner.Gated.{OpenedWith, GateOf}
use Rattle.fat_test.proofs.Change.{not_in_use}
use Rattle.fat_walk.specs.Volume.{Volume}
use Rattle.map_bits.specs.Bits.{words_in}
use Rattle.fat_map.specs.Gate.{Short, IsMap, map_gate, map_rows}
use Rattle.fat_map.specs.Inner.Gated.{OpenedMap, MapGateOf, BuildGateOf, ChangeGateOf}

-- sizes, work list and map, soundness --------------------------------------------------------------------------------

module _ (t : Bytes) (d l : ℕ) (work map : List ℕ) where
  -- the map is long enough: what the table's gate tells
  module _ (long : length map < words_in (blocks t) → ⊥) where
    none_short : (length work < blocks t → ⊥) → Short t work map → ⊥
    none_short s k = ⊎_elim s long k

    long_refused : (o : Refusal) → Given (gate_with refusal (Uneven t d l) t l [] work) o → Given (map_gate refusal t d l [] work map) o
    long_refused o (inl p) = inl p
    long_refused o (inr (m, inl p)) = inr (m, inl p)
    long_refused o (inr (m, inr (i, inl p))) = inr (m, inr (i, inl (inl p.0, p.1)))
    long_refused o (inr (m, inr (i, inr (s, p)))) = inr (m, inr (i, inr (none_short s, p)))

    pub long_told : (work' : List ℕ) (r : Result Counts why.Refusal) → GateOf t d l work work' r → BuildGateOf t d l work map work' r
    unfolding MapGateOf
    long_told work' (Err a) g = long_refused (refusal (Err a) work') g
    long_told work' (Ok c) g = record {
      none = (g.none.0, (g.none.1.0, (none_short g.none.1.1.0, g.none.1.1.1)));
      sound = g.sound;
      clear = g.clear;
    }

  -- it is short: asked with no place of a work list, the table's gate tells the sizes, or 3
  module _ (short : length map < words_in (blocks t)) where
    nil : (l : List ℕ) → length l ≡ 0 → l ≡ []
    nil [] e = refl
    nil (x ∷ l) e = let z : ⊥ = omega arith in absurd z

    short_refused : (a : Answer) (none part : List ℕ) → length none ≡ 0 → length part ≡ 0 → Given (gate_with refusal (Uneven t d l) t l [] none) (refusal a part)
        → Given (map_gate refusal t d l [] work map) (refusal a work)
    short_refused a none part e f (inl p) = inl (p.0, ap (λ (r : Refusal). refusal r.answer work) p.1)
    short_refused a none part e f (inr (m, inl p)) = inr (m, inl (p.0, ap (λ (r : Refusal). refusal r.answer work) p.1))
    short_refused a none part e f (inr (m, inr (i, inl p))) = inr (m, inr (i, inl (inr short, ap (λ (r : Refusal). refusal r.answer work) p.1)))
    short_refused a none part e f (inr (m, inr (i, inr (s, p)))) = absurd (s (omega (arith, e, (inside t (λ o. i (inl o))).0)))

    untouched : (none part : List ℕ) (r : Result Counts why.Refusal) → length none ≡ 0 → length part ≡ 0 → GateOf t d l none part r → BuildGateOf t d l work map work r
    unfolding MapGateOf
    untouched none part (Err a) e f g = short_refused (Err a) none part e f g
    untouched none part (Ok c) e f g =
        absurd (g.none.1.1.0 (omega (arith, e, (inside t (λ o. g.none.1.0 (inl o))).0)))

    pub short_told : (part : List ℕ) (r : Result Counts why.Refusal) → GateOf t d l [] part r → length part ≡ 0 → BuildGateOf t d l work map (part ++ work) r
    short_told part r g f = subst⁻¹ (λ (p : List ℕ). BuildGateOf t d l work map (p ++ work) r) (nil part f) (untouched [] part r refl f g)

-- the words of a map, by the code's numbers
module _ (t : Bytes) (n w m : ℕ) (q : w ≡ words_in n) (e : n ≡ blocks t) where
  pub less_words : m < w → m < words_in (blocks t)
  less_words h = subst (λ (k : ℕ). m < words_in k) e (subst (λ (k : ℕ). m < k) q h)

  pub long_words : w ≤ m → m < words_in (blocks t) → ⊥
  long_words h k = let z : words_in n ≤ m = subst (λ (x : ℕ). x ≤ m) q h in omega (arith, subst (λ (x : ℕ). words_in x ≤ m) e z, k)

-- what an open gate says ---------------------------------------------------------------------------------------------

module _ (t : Bytes) (d l : ℕ) (more : List (Row Answer)) (work map work' : List ℕ) (g : OpenedMap t d l more work map work') where
  pub opened_volume : Volume (blocks t) t
  opened_volume = record { few = (inside t (λ o. g.none.1.0 (inl o))).1; room = fit t (λ m. g.none.0 (inl m)); sound = g.sound }

  pub opened_words : words_in (blocks t) ≤ length map
  opened_words = ⊎_elim (λ h. h) (λ h. absurd (g.none.1.1.0 (inr h))) (le_or_lt (words_in (blocks t)) (length map))

  opened_work : blocks t ≤ length work
  opened_work = ⊎_elim (λ h. h) (λ h. absurd (g.none.1.1.0 (inl h))) (le_or_lt (blocks t) (length work))

-- a cleared list is cleared
pub cleared_long : (n : ℕ) (work : List ℕ) → n ≤ length work → n ≤ length (cleared n work)
cleared_long n work h = omega (arith, length-append (replicate n 0) (drop n work), length-replicate {A = ℕ} n 0)

pub cleared_again : (n : ℕ) (work : List ℕ) → cleared n work ≡ cleared n (cleared n work)
cleared_again n work = ap (λ (l : List ℕ). replicate n 0 ++ l) (sym (drop_at (replicate n 0) (drop n work) n (length-replicate n 0)))

module _ (t : Bytes) (d l : ℕ) (work map work' : List ℕ) (c : Counts) (g : BuildGateOf t d l work map work' (Ok c)) (n : ℕ) (q : n ≡ blocks t) where
  abbrev opened : OpenedMap t d l [] work map work'
  unfolding MapGateOf
  opened = g

  pub build_ready : Volume n t
  build_ready = subst⁻¹ (λ (m : ℕ). Volume m t) q (opened_volume t d l [] work map work' opened)

  pub build_words : words_in n ≤ length map
  build_words = subst⁻¹ (λ (m : ℕ). words_in m ≤ length map) q (opened_words t d l [] work map work' opened)

  pub build_fits : (w : ℕ) → w ≡ words_in n → w ≤ length map
  build_fits w k = omega (arith, k, build_words)

  pub build_part : (w : ℕ) → w ≡ words_in n → length (take w map) ≡ words_in n
  build_part w k = length-take-le w map (build_fits w k) ∙ k

  pub build_work : (n ≤ length work') × (work' ≡ cleared n work')
  build_work =
      let c : work' ≡ cleared n work = opened.clear ∙ ap (λ (m : ℕ). cleared m work) (sym q) in
      let h : n ≤ length work = subst⁻¹ (λ (m : ℕ). m ≤ length work) q (opened_work t d l [] work map work' opened) in (
        subst⁻¹ (λ (w : List ℕ). n ≤ length w) c (cleared_long n work h),
        subst⁻¹ (λ (w : List ℕ). w ≡ cleared n w) c (cleared_again n work),
      )

-- the rows after soundness -------------------------------------------------------------------------------------------

module _ (t : Bytes) (d l : ℕ) (work map work' : List ℕ) where
  more_refused : (o : Refusal) → Given (map_gate refusal t d l [] work map) o → Given (map_gate refusal t d l (map_rows t l map) work map) o
  more_refused o (inl p) = inl p
  more_refused o (inr (m, inl p)) = inr (m, inl p)
  more_refused o (inr (m, inr (i, inl p))) = inr (m, inr (i, inl p))
  more_refused o (inr (m, inr (i, inr (s, inl p)))) = inr (m, inr (i, inr (s, inl p)))
  more_refused o (inr (m, inr (i, inr (s, inr (u, z))))) = absurd z

  pub change_refused : (a : why.Refusal) → BuildGateOf t d l work map work' (Err a) → ChangeGateOf t d l work map work' (Err a)
  unfolding MapGateOf
  change_refused a g = more_refused (refusal (Err a) work') g

  module _ (c : Counts) (g : BuildGateOf t d l work map work' (Ok c)) (work'' : List ℕ) (same : work'' ≡ work') where
    abbrev passed : OpenedMap t d l [] work map work'
    unfolding MapGateOf
    passed = g

    row_says : (a : why.Refusal) → Given (map_rows t l map) (Err a) → ChangeGateOf t d l work map work'' (Err a)
    unfolding MapGateOf
    row_says a p =
        let n = passed.none in
        subst⁻¹ (λ (w : List ℕ). Given (map_gate refusal t d l (map_rows t l map) work map) (refusal (Err a) w)) (same ∙ passed.clear)
        (inr (n.0, inr (n.1.0, inr (n.1.1.0, inr (n.1.1.1.0, later_says refusal (blocks t) work (map_rows t l map) (Err a) p)))))

    module _ (b : Bool) (m : Tells (IsMap t map) b) where
      pub change_strays : not b ≡ true → ChangeGateOf t d l work map work'' (BrokenFat unbroken)
      change_strays q = row_says (refused.BrokenFat unbroken) (inl (λ i. let z : b ≡ true = m.only i in let w : b ≡ false = not-true b q in absurd (cc), refl))

      module _ (q : not b ≡ false) where
        is : IsMap t map
        is = m.yes (not-false b q)

        pub change_retired : (c : Bool) → Tells (InUse l) c → not c ≡ true → ChangeGateOf t d l work map work'' ReadOnlyVolume
        change_retired c u f = row_says refused.ReadOnlyVolume (inr (λ k. k is, inl (not_in_use l c u (not-true c f), refl)))

        pub change_open : (c : Bool) → Tells (InUse l) c → not c ≡ false → ChangeGateOf t d l work map work'' (Ok tt)
        unfolding MapGateOf
        change_open c u f =
            let n = passed.none in
            record {
              none = (n.0, (n.1.0, (n.1.1.0, (n.1.1.1.0, later_past refusal (blocks t) work (map_rows t l map) ((λ k. k is), ((λ k. k (u.yes (not-false c f))), tt))))));
              sound = passed.sound;
              clear = same ∙ passed.clear;
            }
