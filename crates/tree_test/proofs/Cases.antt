-- Each way out of the test and of the gate, as a fact about sizes and rows.
use mathlib.Core.Path.{◌≡◌, refl, sym, ap, ◌∙◌}
use mathlib.Core.List.{List}
use mathlib.Core.Logic.{inl, inr, ⊎_elim}
use mathlib.Core.Bool.{Bool, true, false, false≢true}
use Prim.Native.Nat.{ℕ, zero, suc, ◌+◌, ◌/◌, ◌≤◌, ◌<◌}
use native.Mathlib.Omega.{arith}
use lib.ListN.{length, get_or, replicate}
use Rattle.std.proofs.Common.{Ok, Err}
use Rattle.order.specs.Gate.{cleared, Refusal, refusal}
use Rattle.order.specs.Given.{Given, None}
use Rattle.order.specs.Answer.{Answer, Done, SizeMismatch, InvalidValue, WorkTooShort, BrokenTree}
use Rattle.tree_table.specs.Field.{field}
use Rattle.tree_table.specs.View.{dir_view, file_view, removed_of}
use Rattle.tree_sound.specs.Sound.{Sound}
use Rattle.tree_sound.specs.Tables.{Tables, tables}
use Rattle.tree_sound.specs.Sizes.{rooms, Misfit, Beyond, Outside}
use Rattle.order.specs.Tells.{Tells}
use Rattle.tree_marks.specs.Inner.Marks.{mark_at}
use Rattle.tree_marks.specs.Inner.Gather.{GoneMarked}
use Rattle.tree_marks.proofs.Walks.{le_or_lt}
use Rattle.tree_packed.specs.Packed.{Packed}
use Rattle.tree_packed.specs.Opens.{opens}
use Rattle.tree_test.specs.Gate.{tree_gate}
use Rattle.tree_test.specs.Promise.{tested, TestPromise, TreeGateOf, PackedGateOf}
use Rattle.tree_test.specs.Inner.Halves.{DirsTested, FilesTested, Sized}

pub told_false : {P : Type 0} → (P → ⊥) → Tells P false
told_false n = record { yes = λ e. absurd (false≢true e); only = λ p. absurd (n p) }

pub tells_not : {P : Type 0} {r : Bool} → Tells P r → r ≡ false → P → ⊥
tells_not T e p = false≢true (sym e ∙ T.only p)

-- ---- sizes

within_sizes : (n : ℕ) → (Beyond n → ⊥) → (0 < n) × (n ≤ 65536)
within_sizes n f =
    (⊎_elim (λ (h : 1 ≤ n). h) (λ (h : n < 1). absurd (f (inl h))) (le_or_lt 1 n), ⊎_elim (λ (h : n ≤ 65536). h) (λ (h : 65536 < n). absurd (f (inr h))) (le_or_lt n 65536))

at_least : (k n : ℕ) → (n < k → ⊥) → k ≤ n
at_least k n f = ⊎_elim (λ (h : k ≤ n). h) (λ (h : n < k). absurd (f h)) (le_or_lt k n)

pub sized : {dh d fh f : List ℕ} → (Misfit dh d fh f → ⊥) → (Outside dh d fh f → ⊥) → Sized dh d fh f
sized {dh} {d} {fh} {f} m o =
    let a = within_sizes (length dh / 4) (λ h. o (inl h)) in
    let b = within_sizes (length d / 40) (λ h. o (inr (inl h))) in
    let c = within_sizes (length fh / 4) (λ h. o (inr (inr (inl h)))) in
    let e = within_sizes (length f / 48) (λ h. o (inr (inr (inr h)))) in
    record {
      dir_table = at_least 40 (length d) (λ h. m (inr (inl h)));
      dir_room = b.1;
      dir_some = a.0;
      dir_buckets = a.1;
      file_table = at_least 48 (length f) (λ h. m (inr (inr (inr h))));
      file_room = e.1;
      file_some = c.0;
      file_buckets = c.1;
    }

-- ---- soundness, by the two halves

pub zero_marks : (work : List ℕ) (off : ℕ) → ((j : ℕ) → get_or work j 0 ≡ 0) → (y : ℕ) → mark_at work off y ≡ 0
zero_marks work off z y = z (off + y)

module _ {dh d work w1 : List ℕ} {r1 : Bool} (A : DirsTested dh d work w1 r1) where
  pub later_zero : ((j : ℕ) → get_or work j 0 ≡ 0) → (y : ℕ) → mark_at w1 (length d / 40) y ≡ 0
  later_zero z y = A.within.behind (length d / 40 + y) (omega arith) ∙ z (length d / 40 + y)

  pub dirs_count : r1 ≡ true → (1 ≤ field 40 d 0 1) × (field 40 d 0 1 ≤ length d / 40)
  dirs_count e =
      let t = (A.good e).0.below.table in
      (t.count_one, let a = t.count_max in let b = t.max_room in omega arith)

  pub sound_dirs : (fh f : List ℕ) → r1 ≡ false → Tells (Sound (dir_view dh d) (file_view d fh f)) false
  sound_dirs fh f e = told_false (λ S. A.bad e S.dirs)

  pub sound_files : (fh f : List ℕ) → r1 ≡ true → {r2 : Bool} → ((h : List ℕ) → GoneMarked (field 40 d 0 1) (removed_of (dir_view h d)) w1 → FilesTested h d fh f r2)
      → Tells (Sound (dir_view dh d) (file_view d fh f)) r2
  sound_files fh f e {r2} B =
      let a = A.good e in
      let b = B dh a.1 in
      record {
        yes = λ t. record { dirs = a.0; files = b.good t };
        only = λ S. by r2 (λ q. b.bad q S.files);
      }
    where
      by : (r : Bool) → (r ≡ false → ⊥) → r ≡ true
      by true n = refl
      by false n = absurd (n refl)

-- ---- a cleared list

pub replicate_zero : (n j : ℕ) → ◌≡◌ {A = ℕ} (get_or (replicate n 0) j 0) 0
replicate_zero zero j = refl
replicate_zero (suc n) zero = refl
replicate_zero (suc n) (suc j) = replicate_zero n j

-- ---- the gate's ways out

module _ (dh d fh f work : List ℕ) where
  pub gate_misfit : Misfit dh d fh f → Given (tree_gate refusal (tables dh d fh f) work) (refusal SizeMismatch work)
  gate_misfit m = inl (m, refl)

  module _ (m : Misfit dh d fh f → ⊥) where
    pub gate_outside : Outside dh d fh f → Given (tree_gate refusal (tables dh d fh f) work) (refusal InvalidValue work)
    gate_outside o = inr (m, inl (o, refl))

    module _ (o : Outside dh d fh f → ⊥) where
      pub gate_short : length work < rooms d f → Given (tree_gate refusal (tables dh d fh f) work) (refusal WorkTooShort work)
      gate_short s = inr (m, inr (o, inl (s, refl)))

      module _ (s : rooms d f ≤ length work) where
        long : length work < rooms d f → ⊥
        long h = omega arith

        pub gate_broken : {w : List ℕ} → (Sound (dir_view dh d) (file_view d fh f) → ⊥) → w ≡ cleared (rooms d f) work
            → Given (tree_gate refusal (tables dh d fh f) work) (refusal BrokenTree w)
        gate_broken u c = inr (m, inr (o, inr (long, inl (u, ap (λ (x : List ℕ). refusal BrokenTree x) c))))

        pub gate_open : {w : List ℕ} → Sound (dir_view dh d) (file_view d fh f) → w ≡ cleared (rooms d f) work
            → None (tree_gate refusal (tables dh d fh f) work) × Sound (dir_view dh d) (file_view d fh f) × (w ≡ cleared (rooms d f) work)
        gate_open S c = ((m, (o, (long, ((λ u. u S), tt)))), S, c)

-- ---- the gate over a packed list

module _ (dh d fh f work : List ℕ) (k : ℕ) (l : List ℕ) (b : Bool) (F : (b ≡ true → Packed k l) × (Packed k l → b ≡ true)) where
  abbrev s : Tables
  s = tables dh d fh f

  -- a list in order: the tables' own gate
  pub in_order : (work' : List ℕ) (g : Answer) → b ≡ true → TreeGateOf s work work' g → PackedGateOf s (opens k l) work work' g
  unfolding TreeGateOf PackedGateOf
  in_order work' (Ok done) e p = ((p.0.0, (⊎_elim p.0.1.0 (λ n. n (F.0 e)), p.0.1.1)), p.1, p.2)
  in_order work' (Err why) e (inl p) = inl p
  in_order work' (Err why) e (inr (m, inl p)) = inr (m, inl (inl p.0, p.1))
  in_order work' (Err why) e (inr (m, inr (i, p))) = inr (m, inr (⊎_elim i (λ n. n (F.0 e)), p))

  module _ (no : b ≡ false) (r : Bool) (T : Tells (Misfit dh d fh f) r) where
    pub sizes_first : r ≡ true → PackedGateOf s (opens k l) work work SizeMismatch
    unfolding PackedGateOf
    sizes_first e = inl (T.yes e, refl)

    pub disordered : r ≡ false → PackedGateOf s (opens k l) work work InvalidValue
    unfolding PackedGateOf
    disordered e = inr (tells_not T e, inl (inr (λ P. false≢true (sym no ∙ F.1 P)), refl))

-- ---- the test

module _ (dh d fh f work : List ℕ) where
  answered : {a b : Answer} {v w : List ℕ} → refusal a v ≡ refusal b w → tested a v ≡ tested b w
  answered e = ap (λ (r : Refusal). tested r.answer r.work) e

  -- the gate's answer is the test's
  pub test_told : (work' : List ℕ) (g : Answer) → TreeGateOf (tables dh d fh f) work work' g → TestPromise (tables dh d fh f) work (tested g work')
  unfolding TreeGateOf
  test_told work' (Ok done) p = inr (p.0.0, inr (p.0.1.0, inr (p.0.1.1.0, inr (p.0.1.1.1.0, ap (λ (l : List ℕ). tested Done l) p.2))))
  test_told work' (Err why) (inl p) = inl (p.0, answered p.1)
  test_told work' (Err why) (inr (m, inl p)) = inr (m, inl (p.0, answered p.1))
  test_told work' (Err why) (inr (m, inr (q, inl p))) = inr (m, inr (q, inl (p.0, answered p.1)))
  test_told work' (Err why) (inr (m, inr (q, inr (s, inl p)))) = inr (m, inr (q, inr (s, inl (p.0, answered p.1))))
  test_told work' (Err why) (inr (m, inr (q, inr (s, inr p)))) = absurd p.1
