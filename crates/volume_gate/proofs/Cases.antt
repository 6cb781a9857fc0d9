-- The two gates told apart: what each says of the sizes where it is asked with no place of a work list, and of soundness where the sizes have passed.
use mathlib.Core.Path.{◌≡◌, refl, sym, ap, subst, subst⁻¹, ◌∙◌}
use Rattle.std.specs.Prelude.{Result, Ok, Err}
use mathlib.Core.List.{List, [], ◌∷◌, ◌++◌}
use mathlib.Core.Logic.{◌⊎◌, inl, inr, ⊎_elim, ◌≢◌}
use Prim.Native.Nat.{ℕ, ◌+◌, ◌*◌, ◌/◌, ◌≤◌, ◌<◌}
use native.Mathlib.Omega.{arith}
use lib.ListN.{length, take, drop, replicate}
use lib.Seq.{length-take-le}
use Rattle.order.specs.First.{Row, row}
use Rattle.order.specs.Gate.{later, gate, cleared, Refusal, refusal}
use Rattle.order.specs.Given.{Given, None}
use Rattle.order.proofs.Gate.{later_says, later_past, past_later}
use Rattle.order.specs.Answer.{Answer, answer_of, number_of, SizeMismatch, InvalidValue, WorkTooShort, BrokenTree}
use Rattle.order.specs.declared.Refusal as why
use Rattle.fat_node.specs.Entry.{Bytes}
use Rattle.fat_node.specs.Sizes.{blocks}
use Rattle.fat_node.specs.declared.Counts.{Counts}
use Rattle.fat_node.proofs.Sizes.{inside}
use Rattle.fat_node.proofs.Nodes.{le_or_lt}
use Rattle.fat_test.specs.Gate.{unsound}
use Rattle.fat_test.specs.Inner.Gated as fat
use Rattle.tree_sound.specs.Sizes.{dir_room}
use Rattle.tree_sound.specs.Tables.{Tables, MisfitIn, OutsideIn, rooms_in, SoundIn}
use Rattle.tree_test.specs.Promise.{TreeGateOf}
use Rattle.volume_gate.specs.Gate.{places, Uneven, Unfit, broken_rows, volume_gate, Opened, VolumeGateOf}
use Rattle.volume_gate.specs.Inner.Sizes.{Sizes, Fit, size_rows, SizedOf, Sounds, SoundOf}

-- ---- rows that say the answer alone

module _ (k : ℕ) (work : List ℕ) where
  later_answer : (after : List (Row Answer)) (a : Answer) (w : List ℕ) → Given (later refusal k work after) (refusal a w) → Given after a
  later_answer [] a w z = absurd z
  later_answer (r ∷ rs) a w (inl p) = inl (p.0, ap (λ (x : Refusal). x.answer) p.1)
  later_answer (r ∷ rs) a w (inr p) = inr (p.0, later_answer rs a w p.1)

given_left : (rs qs : List (Row Answer)) (a : Answer) → Given rs a → Given (rs ++ qs) a
given_left [] qs a z = absurd z
given_left (r ∷ rs) qs a (inl p) = inl p
given_left (r ∷ rs) qs a (inr p) = inr (p.0, given_left rs qs a p.1)

given_right : (rs qs : List (Row Answer)) (a : Answer) → None rs → Given qs a → Given (rs ++ qs) a
given_right [] qs a n g = g
given_right (r ∷ rs) qs a n g = inr (n.0, given_right rs qs a n.1 g)

none_both : (rs qs : List (Row Answer)) → None rs → None qs → None (rs ++ qs)
none_both [] qs n m = m
none_both (r ∷ rs) qs n m = (n.0, none_both rs qs n.1 m)

-- ---- a gate whose work list is too short tells of the sizes

module _ (misfit invalid short : Type 0) (after : List (Row Answer)) (k : ℕ) (work : List ℕ) (s : (invalid → ⊥) → short) where
  refused_sizes : (a : Answer) (w : List ℕ) (r : ℕ) → Given (gate refusal misfit invalid short after k work) (refusal a w) → r ≡ number_of a → Sizes misfit invalid r
  refused_sizes a w r (inl p) e =
      let q : r ≡ 1 = e ∙ ap (λ (x : Refusal). number_of x.answer) p.1 in
      record { one = λ _. p.0; fits = λ n. absurd (n q); two = λ z. let y : ⊥ = omega (arith, z, q) in absurd y; valid = λ n. absurd (n q) }
  refused_sizes a w r (inr (m, inl p)) e =
      let q : r ≡ 2 = e ∙ ap (λ (x : Refusal). number_of x.answer) p.1 in
      record { one = λ z. let y : ⊥ = omega (arith, z, q) in absurd y; fits = λ _. m; two = λ _. p.0; valid = λ _ n. absurd (n q) }
  refused_sizes a w r (inr (m, inr (i, inl p))) e =
      let q : r ≡ 3 = e ∙ ap (λ (x : Refusal). number_of x.answer) p.1 in
      record {
        one = λ z. let y : ⊥ = omega (arith, z, q) in absurd y;
        fits = λ _. m;
        two = λ z. let y : ⊥ = omega (arith, z, q) in absurd y;
        valid = λ _ _. i;
      }
  refused_sizes a w r (inr (m, inr (i, inr (l, p)))) e = absurd (l (s i))

  open_sizes : {A : Type 0} → None (gate refusal misfit invalid short after k work) → A
  open_sizes n = absurd (n.1.1.0 (s n.1.0))

below_one : (n : ℕ) → (n < 1) ⊎ (1 ≤ n)
below_one n = ⊎_elim (λ h. inr h) (λ h. inl h) (le_or_lt 1 n)

-- the same of the block table's gate, and of the entry tables'
module _ (t : Bytes) (d l : ℕ) (work work' : List ℕ) (none : length work ≡ 0) where
  block_short : (Unfit t l → ⊥) → length work < blocks t
  block_short u = omega (arith, none, (inside t (λ o. u (inl o))).0)

  pub block_told : (g : Result Counts why.Refusal) → fat.GateOf t d l work work' g → (r : ℕ) → r ≡ number_of (answer_of g) → Sizes (Uneven t d l) (Unfit t l) r
  block_told (Ok c) says r e = open_sizes (Uneven t d l) (Unfit t l) (length work < blocks t) (unsound t) (blocks t) work block_short says.none
  block_told (Err a) says r e = refused_sizes (Uneven t d l) (Unfit t l) (length work < blocks t) (unsound t) (blocks t) work block_short (Err a) work' r says e

module _ (s : Tables) (work work' : List ℕ) (none : length work ≡ 0) where
  tree_short : (OutsideIn s → ⊥) → length work < rooms_in s
  tree_short u = ⊎_elim (λ h. absurd (u (inr (inl (inl h))))) (λ h. omega (arith, none, h)) (below_one (dir_room s.dir_table))

  pub tree_told : (g : Answer) → TreeGateOf s work work' g → (r : ℕ) → r ≡ number_of (answer_of g) → Sizes (MisfitIn s) (OutsideIn s) r
  unfolding TreeGateOf
  tree_told (Ok x) says r e =
      open_sizes (MisfitIn s) (OutsideIn s) (length work < rooms_in s) (row (SoundIn s → ⊥) BrokenTree ∷ []) (rooms_in s) work tree_short says.0
  tree_told (Err a) says r e =
      refused_sizes (MisfitIn s) (OutsideIn s) (length work < rooms_in s) (row (SoundIn s → ⊥) BrokenTree ∷ []) (rooms_in s) work tree_short (Err a) work' r says e

-- both layers: all of row 1 comes before any of row 2
module _ (t : Bytes) (d l : ℕ) (s : Tables) (b r : ℕ) (x : Sizes (Uneven t d l) (Unfit t l) b) (y : Sizes (MisfitIn s) (OutsideIn s) r) where
  pub blocks_misfit : b ≡ 1 → SizedOf t d l s SizeMismatch
  blocks_misfit e = inl (inl (x.one e), refl)

  pub tree_misfit : r ≡ 1 → SizedOf t d l s SizeMismatch
  tree_misfit e = inl (inr (y.one e), refl)

  module _ (m : b ≢ 1) (n : r ≢ 1) where
    fits : Uneven t d l ⊎ MisfitIn s → ⊥
    fits h = ⊎_elim (x.fits m) (y.fits n) h

    pub blocks_invalid : b ≡ 2 → SizedOf t d l s InvalidValue
    blocks_invalid e = inr (fits, inl (inl (x.two e), refl))

    pub tree_invalid : r ≡ 2 → SizedOf t d l s InvalidValue
    tree_invalid e = inr (fits, inl (inr (y.two e), refl))

    pub sizes_fit : b ≢ 2 → r ≢ 2 → Fit t d l s
    sizes_fit i j = record { even = x.fits m; fit = x.valid m i; tables = y.fits n; inside = y.valid n j }

-- ---- a list that was lent no place of

untouched : (w v : List ℕ) → length v ≡ 0 → v ++ w ≡ w
untouched w [] e = refl
untouched w (x ∷ v) e = absurd (omega (arith, e))

pub twice_untouched : (w v u : List ℕ) → length v ≡ 0 → length u ≡ 0 → u ++ (v ++ w) ≡ w
twice_untouched w v u e q = untouched (v ++ w) u q ∙ untouched w v e

pub cleared_all : (v u w : List ℕ) → v ≡ replicate (length u) 0 → length u ≡ length w → v ≡ replicate (length w) 0
cleared_all v u w e q = e ∙ ap (λ (n : ℕ). replicate n 0) q

pub take_long : (n : ℕ) (t : Bytes) (s : Tables) (w : List ℕ) → n ≡ blocks t → n + rooms_in s ≤ length w → places t s ≤ length (take (n + rooms_in s) w)
take_long n t s w e h = omega (arith, e, length-take-le (n + rooms_in s) w h)

-- ---- once the sizes have passed, the gates tell of soundness

module _ (t : Bytes) (d l : ℕ) (s : Tables) (f : Fit t d l s) (work work' : List ℕ) (room : places t s ≤ length work) where
  broken : (a : why.Refusal) → fat.GateOf t d l work work' (Err a) → Given (broken_rows t s) (Err a)
  broken a (inl p) = absurd (f.even p.0)
  broken a (inr (m, inl p)) = absurd (f.fit p.0)
  broken a (inr (m, inr (i, inl p))) = let z : ⊥ = omega (arith, p.0, room) in absurd z
  broken a (inr (m, inr (i, inr (h, p)))) =
      given_left (unsound t) (row (SoundIn s → ⊥) BrokenTree ∷ []) (Err a) (later_answer (blocks t) work (unsound t) (Err a) work' p)

  pub blocks_broken : (a : why.Refusal) → fat.GateOf t d l work work' (Err a) → (o : Answer) → o ≡ Err a → SoundOf t s o
  blocks_broken a p o e = subst⁻¹ (SoundOf t s) e (broken a p)

  module _ (c : Counts) (opened : fat.GateOf t d l work work' (Ok c)) (work₁ work₂ : List ℕ) (long : length work₁ ≡ length work) where
    sound_rows : None (unsound t)
    sound_rows = past_later refusal (blocks t) work (unsound t) opened.none.1.1.1

    pub tree_sound : (h : Answer) → TreeGateOf s work₁ work₂ h → SoundOf t s h
    unfolding TreeGateOf
    tree_sound (Ok x) w =
        record { none = none_both (unsound t) (row (SoundIn s → ⊥) BrokenTree ∷ []) sound_rows ((λ z. z w.1), tt); blocks = opened.sound; tree = w.1 }
    tree_sound (Err a) (inl p) = absurd (f.tables p.0)
    tree_sound (Err a) (inr (_, inl p)) = absurd (f.inside p.0)
    tree_sound (Err a) (inr (_, inr (_, inl p))) = let z : ⊥ = omega (arith, p.0, room, long) in absurd z
    tree_sound (Err a) (inr (_, inr (_, inr (_, p)))) =
        given_right (unsound t) (row (SoundIn s → ⊥) BrokenTree ∷ []) (Err a) sound_rows
        (later_answer (rooms_in s) work₁ (row (SoundIn s → ⊥) BrokenTree ∷ []) (Err a) work₂ p)

-- ---- the gate

module _ (t : Bytes) (d l : ℕ) (s : Tables) (work work₁ : List ℕ) (same : work₁ ≡ work) where
  -- what the gate says where the work list was not touched
  stays : (g : Answer) → VolumeGateOf t d l s work work g → VolumeGateOf t d l s work work₁ g
  stays g p = subst⁻¹ (λ (w : List ℕ). VolumeGateOf t d l s work w g) same p

  pub gate_sized : (a : why.Refusal) → Given (size_rows t d l s) (Err a) → (o : Answer) → o ≡ Err a → VolumeGateOf t d l s work work₁ o
  unfolding VolumeGateOf
  gate_sized a p o e = subst⁻¹ (VolumeGateOf t d l s work work₁) e (stays (Err a) (go p))
    where
      go : Given (size_rows t d l s) (Err a) → VolumeGateOf t d l s work work (Err a)
      go (inl p) = inl (p.0, ap (λ (x : Answer). refusal x work) p.1)
      go (inr (m, inl p)) = inr (m, inl (p.0, ap (λ (x : Answer). refusal x work) p.1))
      go (inr (m, inr (i, p))) = absurd p

  module _ (f : Fit t d l s) where
    even : Uneven t d l ⊎ MisfitIn s → ⊥
    even h = ⊎_elim f.even f.tables h

    valid : Unfit t l ⊎ OutsideIn s → ⊥
    valid h = ⊎_elim f.fit f.inside h

    pub gate_short : (n : ℕ) → n ≡ blocks t → length work₁ < n + rooms_in s → VolumeGateOf t d l s work work₁ WorkTooShort
    unfolding VolumeGateOf
    gate_short n q h = stays WorkTooShort (inr (even, inr (valid, inl (omega (arith, h, q, ap (λ (w : List ℕ). length w) same), refl))))

    told : (g : Answer) → SoundOf t s g → (length work < places t s → ⊥) → VolumeGateOf t d l s work (cleared (places t s) work) g
    unfolding VolumeGateOf
    told (Ok x) w long = record {
      none = (even, (valid, (long, later_past refusal (places t s) work (broken_rows t s) w.none)));
      blocks = w.blocks;
      tree = w.tree;
      clear = refl;
    }
    told (Err a) w long = inr (even, inr (valid, inr (long, later_says refusal (places t s) work (broken_rows t s) (Err a) w)))

    pub gate_told : (n : ℕ) (v : List ℕ) (g : Answer) → n ≡ blocks t → n + rooms_in s ≤ length work₁ → v ≡ replicate (length (take (n + rooms_in s) work₁)) 0 → SoundOf t s g
        → VolumeGateOf t d l s work (v ++ drop (n + rooms_in s) work₁) g
    gate_told n v g q h e p =
        let k : ℕ = n + rooms_in s in
        let c : v ++ drop k work₁ ≡ cleared (places t s) work =
        ap (λ (x : List ℕ). x ++ drop k work₁) (e ∙ ap (λ (j : ℕ). replicate j 0) (length-take-le k work₁ h))
        ∙ ap (λ (w : List ℕ). cleared k w) same
        ∙ ap (λ (j : ℕ). cleared (j + rooms_in s) work) q in
        subst⁻¹ (λ (w : List ℕ). VolumeGateOf t d l s work w g) c (told g p (λ x. omega (arith, x, h, q, ap (λ (w : List ℕ). length w) same)))
