-- The sizes of a table, and what has come past the rows that all calls begin with.
use mathlib.Core.Path.{◌≡◌}
use mathlib.Core.List.{List}
use mathlib.Core.Logic.{inl, inr, ⊎_elim}
use Prim.Native.Nat.{ℕ, ◌+◌, ◌*◌, ◌%◌, ◌≤◌, ◌<◌}
use native.Mathlib.Omega.{arith}
use lib.ListN.{length}
use Rattle.words.proofs.Laws as words
use Rattle.order.specs.First.{Row}
use Rattle.order.specs.Given.{None}
use Rattle.order.specs.Answer.{Answer}
use Rattle.order.proofs.Gate.{later_past, past_later}
use Rattle.fat_node.specs.Entry.{Bytes}
use Rattle.fat_node.specs.Sizes.{blocks, Misfit, Outside}
use Rattle.fat_node.proofs.Nodes.{le_or_lt}
use Rattle.links.proofs.Held.{same_or}
use Rattle.fat_table.specs.Sound.{Sound}
use Rattle.fat_table.proofs.Files.{Whole}
use Rattle.fat_table.proofs.Decided.{sound_decided}
use Rattle.fat_test.specs.Gate.{InUse, retired, Uneven, test_gate, gate_with}
use Rattle.words.specs.Word.{AreBytes}

pub are_bytes : (t : Bytes) → AreBytes t → words.Bytes t
are_bytes t g = record { byte = g }

-- a number that is not otherwise is so
pub not_not : (a b : ℕ) → ((a ≡ b → ⊥) → ⊥) → a ≡ b
not_not a b h = ⊎_elim (λ e. e) (λ e. absurd (h e)) (same_or a b)

pub not_less : (a b : ℕ) → (a < b → ⊥) → b ≤ a
not_less a b h = ⊎_elim (λ e. e) (λ e. absurd (h e)) (le_or_lt b a)

-- the sizes of a table fit
pub record Fits (t : Bytes) : Type 0 where
  pub room : length t ≡ 8 * (blocks t + 1)
  pub some : 1 ≤ blocks t
  pub few : blocks t ≤ 1000000

pub fits : (t : Bytes) → (Misfit t → ⊥) → (Outside t → ⊥) → Fits t
fits t m o =
    let a : 8 ≤ length t = not_less (length t) 8 (λ h. m (inl h)) in
    let b : length t % 8 ≡ 0 = not_not (length t % 8) 0 (λ h. m (inr h)) in
    record {
      room = omega (arith, a, b);
      some = not_less (blocks t) 1 (λ h. o (inl h));
      few = not_less 1000000 (blocks t) (λ h. o (inr h));
    }

-- and the reverse
pub fits_not_misfit : (t : Bytes) → Fits t → Misfit t → ⊥
fits_not_misfit t f m = ⊎_elim (λ h. omega (arith, h, f.room)) (λ h. h (omega (arith, f.room))) m

pub fits_not_outside : (t : Bytes) → Fits t → Outside t → ⊥
fits_not_outside t f o = ⊎_elim (λ h. omega (arith, h, f.some)) (λ h. omega (arith, h, f.few)) o

-- what has come past the rows of sizes, work list and soundness
pub record Passed (t : Bytes) (d l : ℕ) (work : List ℕ) : Type 0 where
  pub whole : Whole (blocks t) t
  pub some : 1 ≤ blocks t
  pub data_fits : d ≡ blocks t * l
  pub length_fits : (1 ≤ l) × (l ≤ 65536)
  pub work_fits : blocks t ≤ length work

pub whole_of_fits : (t : Bytes) → words.Bytes t → Fits t → Sound t (blocks t) → Whole (blocks t) t
whole_of_fits t g f s = record { small = f.few; bytes = g; room = f.room; sound = s }

pub sound_stable : (t : Bytes) → words.Bytes t → Fits t → ((Sound t (blocks t) → ⊥) → ⊥) → Sound t (blocks t)
sound_stable t g f h = ⊎_elim (λ s. s) (λ s. absurd (h s)) (sound_decided (blocks t) f.few t g f.room)

-- no row of the gate applies, by name, and the reverse; more are its rows after soundness
module _ {A : Type 0} (refuse : Answer → List ℕ → A) (t : Bytes) (d l : ℕ) (more : List (Row Answer)) (work : List ℕ) where
  pub passed : words.Bytes t → None (gate_with refuse (Uneven t d l) t l more work) → Passed t d l work
  passed g (misfit, (invalid, (short, (unsound, _)))) =
      let f : Fits t = fits t (λ h. misfit (inl h)) (λ h. invalid (inl h)) in
      record {
        whole = whole_of_fits t g f (sound_stable t g f unsound);
        some = f.some;
        data_fits = not_not d (blocks t * l) (λ h. misfit (inr h));
        length_fits = (not_less l 1 (λ h. invalid (inr (inl h))), not_less 65536 l (λ h. invalid (inr (inr h))));
        work_fits = not_less (length work) (blocks t) short;
      }

  pub passed_more : None (gate_with refuse (Uneven t d l) t l more work) → None more
  passed_more (_, (_, (_, (_, n)))) = past_later refuse (blocks t) work more n

  pub none_passed : Passed t d l work → None more → None (gate_with refuse (Uneven t d l) t l more work)
  none_passed p n =
      let f : Fits t = record { room = p.whole.room; some = p.some; few = p.whole.small } in (
        λ h. ⊎_elim (fits_not_misfit t f) (λ k. k p.data_fits) h,
        (
          λ h. ⊎_elim (fits_not_outside t f) (λ k. ⊎_elim (λ m. omega (arith, m, p.length_fits.0)) (λ m. omega (arith, m, p.length_fits.1)) k) h,
          (λ h. omega (arith, h, p.work_fits), (λ h. h p.whole.sound, later_past refuse (blocks t) work more n)),
        ),
      )

-- the row of the block length does not apply where that is in use, and only there
pub used_none : (l : ℕ) → InUse l → None (retired l)
used_none l u = ((λ n. n u), tt)

pub none_used : (l : ℕ) → None (retired l) → InUse l
none_used l n = ⊎_elim (λ a. inl a) (λ a. ⊎_elim (λ b. inr b) (λ b. absurd (n.0 (⊎_elim a b))) (same_or l 4096)) (same_or l 512)

-- the same of the test's gate
module _ {A : Type 0} (refuse : Answer → List ℕ → A) (t : Bytes) (work : List ℕ) where
  pub tested : words.Bytes t → None (test_gate refuse t work) → Fits t × Sound t (blocks t)
  tested g (misfit, (invalid, (_, (unsound, _)))) = let f : Fits t = fits t misfit invalid in (f, sound_stable t g f unsound)

  pub none_tested : Fits t → blocks t ≤ length work → Sound t (blocks t) → None (test_gate refuse t work)
  none_tested f h s = (fits_not_misfit t f, (fits_not_outside t f, (λ k. omega (arith, h, k), (λ u. u s, tt))))
