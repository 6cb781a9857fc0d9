-- A call over the packed list that was not refused for a full one, as the same call over one record for each inode.
use mathlib.Core.Path.{◌≡◌, refl, sym, ap, ◌∙◌, subst, subst⁻¹}
use mathlib.Core.List.{List, [], ◌∷◌, ◌++◌}
use mathlib.Core.Logic.{◌⊎◌, inl, inr, ⊎_elim}
use Prim.Native.Nat.{ℕ, suc, ◌≤◌, ◌<◌}
use native.Mathlib.Nat.{lt_of_not-le}
use native.Mathlib.Omega.{arith}
use lib.ListN.{length}
use Rattle.order.specs.First.{Row, row, First}
use Rattle.order.specs.Given.{Given, None}
use Rattle.order.specs.Giving.{giving}
use Rattle.order.specs.Beside.{Beside, beside, within}
use Rattle.order.specs.Answer.{Answer}
use Rattle.order.specs.Answer.{SizeMismatch, InvalidValue, WorkTooShort, BrokenTree}
use Rattle.tree_sound.specs.Tables.{Tables, dirs, files, OutsideIn, rooms_in, SoundIn}
use Rattle.tree_promises.specs.declared.Kind.{Kind}
use Rattle.tree_promises.specs.declared.Kind.TheVariants.{Directory, File}
use Rattle.tree_promises.specs.Kinds.{kind_room}
use Rattle.tree_promises.specs.Promise.{worked, OpensPromise}
use Rattle.tree_history.proofs.Stable.{sound_stable}
use Rattle.tree_packed.specs.Opens.{Opens, InOrder}
use Rattle.tree_promises.specs.Packed.{Outcome, gives, PackedPromise}
use Rattle.tree_same.specs.Alike.{Alike}

-- ---- own rows, as a refusal or none

module _ {A : Type 0} (refuse : Answer → A) (done : A) (w : List ℕ) where
  pub split : (o : Beside A) (tests : List (Row Answer)) → First (within w (giving refuse tests)) (beside done w) o
      → (None tests × (o ≡ beside done w)) ⊎ ((a : Answer) × Given tests a × (o ≡ beside (refuse a) w))
  split o [] p = inl (tt, p)
  split o (r ∷ rs) (inl p) = inr (r.gives, inl (p.0, refl), p.1)
  split o (r ∷ rs) (inr p) =
      ⊎_elim (λ (q : None rs × (o ≡ beside done w)). inl ((p.0, q.0), q.1))
      (λ (q : (a : Answer) × Given rs a × (o ≡ beside (refuse a) w)). inr (q.0, inr (p.0, q.1), q.2))
      (split o rs p.1)

  given : (tests : List (Row Answer)) (a : Answer) → Given tests a → First (within w (giving refuse tests)) (beside done w) (beside (refuse a) w)
  given [] a g = absurd g
  given (r ∷ rs) a (inl p) = inl (p.0, ap (λ (z : Answer). beside (refuse z) w) p.1)
  given (r ∷ rs) a (inr p) = inr (p.0, given rs a p.1)

  all_passed : (tests : List (Row Answer)) → None tests → First (within w (giving refuse tests)) (beside done w) (beside done w)
  all_passed [] n = refl
  all_passed (r ∷ rs) n = inr (n.0, all_passed rs n.1)

-- ---- a call

few : (m n : ℕ) → (m < n → ⊥) → n ≤ m
few m n f = let h : n < suc m = lt_of_not-le (λ (k : suc m ≤ n). f (omega arith)) in omega arith

room_few : (kind : Kind) (s : Tables) → (OutsideIn s → ⊥) → kind_room kind s ≤ 65536
room_few Directory s i = few 65536 (kind_room Directory s) (λ h. i (inr (inl (inr h))))
room_few File s i = few 65536 (kind_room File s) (λ h. i (inr (inr (inr (inr h)))))

-- the sizes fit, the tables are sound, and no row applied
pub record Passed (kind : Kind) (s : Tables) (tests : List (Row Answer)) : Type 0 where
  pub room : kind_room kind s ≤ 65536
  pub sound : SoundIn s
  pub none : None tests

-- the packed call gave g and the other one og: the same refusal with nothing changed, or what each gives where no row applies
unfoldable pub Both : {D : Type 0} (kind : Kind) (s : Tables) (o : Opens) (tests : List (Row Answer)) (done : Outcome) (refuse : Answer → D) (dense : D) (g : Outcome) (og : D) → Type 0
Both kind s o tests done refuse dense g og =
    ((a : Answer) × (g ≡ gives a 0 s o) × (og ≡ refuse a)) ⊎ (Passed kind s tests × (g ≡ done) × (og ≡ dense))

module _ {D : Type 0} (kind : Kind) (s : Tables) (o : Opens) (d work : List ℕ) (A : Alike d o) (P : InOrder o) (tests rows : List (Row Answer)) (done : Outcome)
    (refuse : Answer → D) (dense : D) (g : Beside Outcome) where
  abbrev Result : Type 0
  Result = (og : D) × OpensPromise kind refuse s d work (giving refuse rows) dense (beside og g.work) × Both kind s o tests done refuse dense g.given og

  module _ (own : SoundIn s → (a : Answer) → g.given.answer ≡ a → Given tests a → Given rows a) (none : SoundIn s → None tests → None rows) where
    pub same_call : PackedPromise s o work tests done g → Result
    unfolding OpensPromise PackedPromise Both
    same_call (inl p) =
        (refuse SizeMismatch, inl (p.0, ap (λ (z : Beside Outcome). beside (refuse SizeMismatch) z.work) p.1), inl (SizeMismatch, ap (λ (z : Beside Outcome). z.given) p.1, refl))
    same_call (inr (m, inl (inl x, e))) =
        (refuse InvalidValue, inr (m, inl (x, ap (λ (z : Beside Outcome). beside (refuse InvalidValue) z.work) e)), inl (InvalidValue, ap (λ (z : Beside Outcome). z.given) e, refl))
    same_call (inr (m, inl (inr x, e))) = absurd (x P)
    same_call (inr (m, inr (i, inl p))) = (
      refuse WorkTooShort,
      inr (m, inr (λ h. i (inl h), inl (inl p.0, ap (λ (z : Beside Outcome). beside (refuse WorkTooShort) z.work) p.1))),
      inl (WorkTooShort, ap (λ (z : Beside Outcome). z.given) p.1, refl),
    )
    same_call (inr (m, inr (i, inr (w, inl p)))) = (
      refuse BrokenTree,
      inr (m, inr (λ h. i (inl h), inr (long i w, inl (p.0, ap (λ (z : Beside Outcome). beside (refuse BrokenTree) z.work) p.1)))),
      inl (BrokenTree, ap (λ (z : Beside Outcome). z.given) p.1, refl),
    )
      where
        long : (OutsideIn s ⊎ (InOrder o → ⊥) → ⊥) → (length work < rooms_in s → ⊥) → (length work < rooms_in s) ⊎ (length d < kind_room kind s) → ⊥
        long i w = ⊎_elim w (λ (h : length d < kind_room kind s). omega (arith, A.long, room_few kind s (λ z. i (inl z))))
    same_call (inr (m, inr (i, inr (w, inr (u, p))))) =
        let S : SoundIn s = sound_stable (dirs s) (files s) u in
        let out : OutsideIn s → ⊥ = λ h. i (inl h) in
        let long : (length work < rooms_in s) ⊎ (length d < kind_room kind s) → ⊥ =
        ⊎_elim w (λ (h : length d < kind_room kind s). omega (arith, A.long, room_few kind s out)) in
        ⊎_elim
        (λ (q : None tests × (g ≡ beside done (worked s work))). (
          dense,
          subst⁻¹ (λ (z : List ℕ). OpensPromise kind refuse s d work (giving refuse rows) dense (beside dense z)) (ap (λ (z : Beside Outcome). z.work) q.1)
              (inr (m, inr (out, inr (long, inr (u, all_passed refuse dense (worked s work) rows (none S q.0)))))),
          inr (record { room = room_few kind s out; sound = S; none = q.0 }, ap (λ (z : Beside Outcome). z.given) q.1, refl),
        ))
        (λ (q : (a : Answer) × Given tests a × (g ≡ beside (gives a 0 s o) (worked s work))). (
          refuse q.0,
          subst⁻¹ (λ (z : List ℕ). OpensPromise kind refuse s d work (giving refuse rows) dense (beside (refuse q.0) z)) (ap (λ (z : Beside Outcome). z.work) q.2)
              (inr (m, inr (out, inr (long, inr (u, given refuse dense (worked s work) rows q.0 (own S q.0 (ap (λ (z : Beside Outcome). z.given.answer) q.2) q.1)))))),
          inl (q.0, ap (λ (z : Beside Outcome). z.given) q.2, refl),
        ))
        (split (λ a. gives a 0 s o) done (worked s work) g tests p)
