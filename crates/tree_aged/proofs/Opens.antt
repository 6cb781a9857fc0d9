-- The links of one entry, as the walk reads them.
use mathlib.Core.Path.{◌≡◌, refl, sym, ◌∙◌, subst, subst⁻¹}
use mathlib.Core.List.{List}
use mathlib.Core.Logic.{inl, inr}
use mathlib.Core.Bool.{Bool, true, false}
use Prim.Native.Nat.{ℕ, zero, suc, ◌-◌, ◌<◌}
use native.Mathlib.Omega.{arith}
use lib.ListN.{length}
use Rattle.tree_table.specs.Field.{field}
use Rattle.tree_table.specs.Chain.{link_at}
use Rattle.tree_marks.specs.Inner.Marks.{mark_of}
use Rattle.tree_promises.specs.Inner.Ready.{LiveAt}
use Rattle.tree_aged.specs.Inner.Walk.{ended, At, OpenTo, Open}
use Rattle.tree_aged.proofs.Walks.{place_in}

coll_is : (w : ℕ) (t : List ℕ) (x : ℕ) → link_at t w (w - 4) x ≡ field w t x 0
unfolding field
coll_is w t x = refl

next_is : (w : ℕ) (t : List ℕ) (x : ℕ) → link_at t w 20 x ≡ field w t x 6
unfolding field
next_is w t x = refl

module _ (w : ℕ) (t work : List ℕ) (x : ℕ) (A : At w t work x) where
  -- a link of a live entry has a place, or is 0
  placed : (v : ℕ) → (0 < v → LiveAt w t v) → v < length work
  placed zero f = omega (arith, A.fits.some, A.fits.room)
  placed (suc v) f = place_in {x = suc v} record { fits = A.fits; live = f (omega arith) }

  pub coll_placed : (c : ℕ) → c ≡ link_at t w (w - 4) x → c < length work
  coll_placed c e =
      subst⁻¹ (λ (v : ℕ). v < length work) (e ∙ coll_is w t x) (placed (field w t x 0) (A.fits.coll x A.live))

  pub next_placed : (n : ℕ) → n ≡ link_at t w 20 x → n < length work
  next_placed n e =
      subst⁻¹ (λ (v : ℕ). v < length work) (e ∙ next_is w t x) (placed (field w t x 6) (A.fits.next x A.live))

module _ (w : ℕ) (t work : List ℕ) (x c : ℕ) (e : c ≡ link_at t w (w - 4) x) (r : Bool) (O : OpenTo work c r) where
  pub open_coll : r ≡ true → Open w t work x c
  open_coll q = record {
    none = λ z. absurd (omega (arith, (O.yes q).0, z));
    some = λ _. (((O.yes q).0, inl (sym (e ∙ coll_is w t x))), (O.yes q).1);
  }

  module _ (n : ℕ) (f : n ≡ link_at t w 20 x) (r' : Bool) (O' : OpenTo work n r') where
    pub open_next : r' ≡ true → Open w t work x n
    open_next q = record {
      none = λ z. absurd (omega (arith, (O'.yes q).0, z));
      some = λ _. (((O'.yes q).0, inr (sym (f ∙ next_is w t x))), (O'.yes q).1);
    }

    pub open_no : r ≡ false → r' ≡ false → Open w t work x 0
    open_no q q' = record {
      none = λ _. (
        subst (λ (v : ℕ). 0 < v → mark_of work v ≡ ended) (e ∙ coll_is w t x) (O.no q),
        subst (λ (v : ℕ). 0 < v → mark_of work v ≡ ended) (f ∙ next_is w t x) (O'.no q'),
      );
      some = λ z. absurd (z refl);
    }
