-- The ways out of the call that lists entries.
use mathlib.Core.Path.{◌≡◌, refl, ap, subst⁻¹, ◌∙◌}
use mathlib.Core.List.{List, [], ◌++◌}
use mathlib.Core.Bool.{cond}
use mathlib.Core.Logic.{inl, inr, ⊎_elim}
use Prim.Native.Nat.{ℕ, ◌+◌, ◌*◌, ◌-◌, ◌/◌, ◌≤◌, ◌<◌, min}
use native.Mathlib.Omega.{arith}
use native.Mathlib.Nat.{div-add-mod, mod-lt, mul_comm, mul-le-mul_right}
use lib.Dec.{leb}
use borrow.Author.Tests.{le-leb, lt-leb}
use lib.ListN.{length, take, drop, replicate, length-replicate}
use lib.Seq.{sets, sets-eq, length-take-le}
use Rattle.std.specs.Prelude.{Err}
use Rattle.order.specs.Answer.{Answer}
use Rattle.order.specs.Answer as is
use Rattle.order.specs.Beside.{beside}
use Rattle.order.specs.Gate.{cleared}
use Rattle.order.specs.Given.{None}
use Rattle.order.specs.declared.Refusal.{Refusal}
use Rattle.order.proofs.Beside.{passed, refused}
use Rattle.order.proofs.Gate.{gate_given}
use Rattle.links.proofs.Held.{same_or}
use Rattle.tree_marks.proofs.Walks.{le_or_lt}
use Rattle.tree_table.specs.Field.{field}
use Rattle.tree_table.specs.Chain.{link_at}
use Rattle.tree_sound.specs.Sizes.{Beyond}
use Rattle.salvage_tree.specs.Entries.{bound, gone, others, entries}
use Rattle.salvage_tree.specs.Calls.{Entered, entered_gives, entered_rows, entered_done, entered_gate, EnteredPromise}
use Rattle.salvage_tree.specs.Inner.Says.{Marks, Roomy, RoomFor, unmarked, Sized, EnteredSays}
use Rattle.salvage_tree.proofs.Marked.{marks_none, marks_others}

-- what is listed where the marks are those of the removed list
live : (w : ℕ) (t : List ℕ) (n : ℕ) (work : List ℕ) → n ≡ bound w t → Marks work (gone w t) → unmarked (n - 1) 1 work ≡ entries w t
unfolding entries
live w t n work e m = marks_others (n - 1) 1 work (gone w t) m ∙ ap (λ (k : ℕ). others (k - 1) 1 (gone w t)) e

pub none_marked : (work work₀ : List ℕ) → work ≡ replicate (length work₀) 0 → Marks work []
none_marked work work₀ e = marks_none (length work₀) work e

pub still_sized : (w : ℕ) (t : List ℕ) (n : ℕ) (work₀ work : List ℕ) → Sized w t n work₀ → work ≡ replicate (length work₀) 0 → Sized w t n work
still_sized w t n work₀ work s e = record {
  wide = s.wide;
  some = s.some;
  is = s.is;
  inside = s.inside;
  few = s.few;
  long = omega (arith, s.long, ap length e, length-replicate {A = ℕ} (length work₀) 0);
}

module _ (w : ℕ) (t : List ℕ) (n : ℕ) (work₀ work₁ work work' list : List ℕ) (s : Sized w t n work₀) (e : work₁ ≡ replicate (length work₀) 0)
    (long : length work ≡ length work₁) (m : Marks work (gone w t)) (count : ℕ) (c : count ≡ length (unmarked (n - 1) 1 work))
    (z : work' ≡ replicate (length work) 0) where
  clear : work' ≡ replicate (length work₀) 0
  clear = z ∙ ap (λ (k : ℕ). replicate k 0) (long ∙ ap length e ∙ length-replicate {A = ℕ} (length work₀) 0)

  many : count ≡ length (entries w t)
  many = c ∙ ap length (live w t n work s.is m)

  pub out_short : length list < count → EnteredSays w t list (entered_gives is.ListTooShort 0 list) (length work₀) work'
  out_short h = record { given = inl (omega (arith, h, many), refl); clear = clear }

  pub out_done : count ≤ length list → (l : List ℕ) → l ≡ sets list 0 (unmarked (n - 1) 1 work) → EnteredSays w t list (entered_gives is.Done count l) (length work₀) work'
  out_done h l f =
      let q : l ≡ entries w t ++ drop (length (entries w t)) list =
      f ∙ ap (sets list 0) (live w t n work s.is m) ∙ sets-eq (entries w t) list 0 (omega (arith, h, many))
      ∙ ap (λ (k : ℕ). entries w t ++ drop k list) (zero_plus (length (entries w t))) in
      record {
        given = inr ((λ k. omega (arith, k, h, many)), (λ i. entered_gives is.Done (many i) (q i)));
        clear = clear;
      }
    where
      zero_plus : (k : ℕ) → 0 + k ≡ k
      zero_plus k = omega arith

-- ---- the rows of sizes and work list

-- the count stands first in entry 0
pub bound_is : (w : ℕ) (t : List ℕ) (c room : ℕ) → c ≡ link_at t w 0 0 → room ≡ length t / w → min c room ≡ bound w t
unfolding bound field
bound_is w t c room e q = lesser c room ∙ ap (λ (k : ℕ). cond (leb k room) k room) e ∙ ap (λ (k : ℕ). cond (leb (link_at t w 0 0) k) (link_at t w 0 0) k) q
  where
    lesser : (a b : ℕ) → min a b ≡ cond (leb a b) a b
    lesser a b = ⊎_elim (λ h. rw (le-leb a b h) (omega arith)) (λ h. rw (lt-leb a b h) (omega arith)) (le_or_lt a b)

pub bound_low : (w : ℕ) (t : List ℕ) → bound w t ≤ length t / w
bound_low w t = omega (arith, bound_is w t (link_at t w 0 0) (length t / w) refl refl)

room_fits : (w : ℕ) (t : List ℕ) → (length t / w) * w ≤ length t
room_fits w t = omega (arith, div-add-mod (length t) w, mul_comm w (length t / w))

-- a table that holds an entry has room for one
room_some : (w : ℕ) (t : List ℕ) → 24 ≤ w → w ≤ length t → 0 < length t / w
room_some w t wide fit = ⊎_elim
    (λ z. absurd (omega (arith, fit, div-add-mod (length t) w, ap (λ (k : ℕ). w * k) z, mod-lt (length t) (pos w wide))))
    (λ z. omega (arith, z))
    (same_or (length t / w) 0)
  where
    pos : (w : ℕ) → 24 ≤ w → 0 < w
    pos w h = omega (arith, h)

module _ (w : ℕ) (t work : List ℕ) (r : ℕ) (f : Roomy w t (length work) r) where
  pub sized : 24 ≤ w → (n : ℕ) → n ≡ bound w t → Sized w t n (take r work)
  sized wide n e = let low : n ≤ length t / w = omega (arith, e, bound_low w t) in record {
    wide = wide;
    some = f.some;
    is = e;
    inside = omega (arith, room_fits w t, mul-le-mul_right w low);
    few = omega (arith, low, f.is, f.few);
    long = omega (arith, low, f.is, length-take-le r work f.enough);
  }

  -- none of the rows applies, whatever a refusal gives
  pub fits : {A : Type 0} (refuse : Answer → List ℕ → A) → 24 ≤ w → None (entered_gate refuse w t work)
  fits refuse wide = (
    (λ h. omega (arith, h, f.some)),
    (⊎_elim (λ h. omega (arith, h, room_some w t wide f.some)) (λ h. omega (arith, h, f.is, f.few)), ((λ h. omega (arith, h, f.is, f.enough)), tt)),
  )

  -- the first places are clear, as many as there is room for
  pub clear_is : (v : List ℕ) → v ≡ replicate (length (take r work)) 0 → v ++ drop r work ≡ cleared (length t / w) work
  clear_is v e = ap (λ (x : List ℕ). x ++ drop r work) (e ∙ ap (λ (k : ℕ). replicate k 0) (length-take-le r work f.enough))
      ∙ ap (λ (k : ℕ). cleared k work) f.is

module _ (w : ℕ) (t work list : List ℕ) where
  pub size_refused : (why : Refusal) → RoomFor w t (length work) (Err why) → EnteredPromise w t work list (beside (entered_gives (Err why) 0 list) work)
  size_refused why g =
      refused (entered_gate (λ a v. beside (entered_gives a 0 list) v) w t work) (cleared (length t / w) work) (entered_rows w t list) (entered_done w t list)
      (beside (entered_gives (Err why) 0 list) work)
      (gate_given (λ a v. beside (entered_gives a 0 list) v) (length t / w) work (length t < w) (Beyond (length t / w)) (length work < length t / w) [] (Err why) work
      (g work refl))

  pub size_passed : 24 ≤ w → (r : ℕ) → Roomy w t (length work) r → (o : Entered) (v : List ℕ) → EnteredSays w t list o (length (take r work)) v
      → EnteredPromise w t work list (beside o (v ++ drop r work))
  size_passed wide r f o v s =
      subst⁻¹ (λ (x : List ℕ). EnteredPromise w t work list (beside o x)) (clear_is w t work r f v s.clear)
      (passed (entered_gate (λ a x. beside (entered_gives a 0 list) x) w t work) (cleared (length t / w) work) (entered_rows w t list) (entered_done w t list) o
      (fits w t work r f (λ a x. beside (entered_gives a 0 list) x) wide) s.given)
