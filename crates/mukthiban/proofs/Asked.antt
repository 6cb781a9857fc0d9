-- The promises of the exports of open and close, from those of the calls and by the kind.
use mathlib.Core.Path.{◌≡◌, refl, ap, subst}
use mathlib.Core.List.{List, [], ◌∷◌, ◌++◌}
use mathlib.Core.Logic.{◌⊎◌, inl, inr, ⊎_elim}
use Prim.Native.Nat.{ℕ, zero, suc, ◌≤◌, ◌<◌}
use native.Mathlib.Omega.{arith}
use lib.ListN.{length}
use Rattle.order.specs.First.{Row, First, row}
use Rattle.order.specs.Gate.{gate}
use Rattle.order.specs.Giving.{giving}
use Rattle.order.specs.Beside.{Beside, beside, Promised}
use Rattle.order.specs.Answer.{number_of}
use Rattle.order.specs.Answer.{Answer}
use Rattle.order.specs.Answer.{SizeMismatch, InvalidValue, BrokenTree}
use Rattle.tree_sound.specs.Sizes.{Misfit}
use Rattle.tree_sound.specs.Tables.{Tables, tables, dirs, files, MisfitIn, OutsideIn, rooms_in, SoundIn}
use Rattle.tree_opens.specs.declared.Want.{Want}
use Rattle.tree_opens.specs.declared.Want.TheVariants.{Writer}
use Rattle.tree_packed.specs.Opens.{Opens, opens, InOrder}
use Rattle.tree_promises.specs.declared.Kind.{Kind}
use Rattle.tree_promises.specs.Promise.{worked}
use Rattle.tree_promises.specs.Packed.{Outcome, gives, refuse, PackedPromise, PackedOpen, PackedClose, open_tests, open_done, close_tests, close_done}
use Rattle.tree_promises.specs.Inner.Ready.{alone}
use Rattle.tree_promises.specs.Inner.Opening.{opening_in, OpenIn, CloseIn}
use Rattle.mukthiban.specs.Export.{Exported}
use Rattle.mukthiban.specs.Opening.{want_of, AskedPromise, OpenKindPromise, CloseKindPromise}

-- the rows with one more thing in row 2 that does not hold
module _ {A : Type 0} (refuse : Answer → List ℕ → Beside A) (misfit outside other short : Type 0) (after : List (Row Answer)) (k : ℕ) (work w : List ℕ)
    (own : List (Row A)) (done : A) (o : Beside A) (no : other → ⊥) where
  wider : Promised (gate refuse misfit outside short after k work) w own done o → Promised (gate refuse misfit (outside ⊎ other) short after k work) w own done o
  wider (inl p) = inl p
  wider (inr (m, inl p)) = inr (m, inl (inl p.0, p.1))
  wider (inr (m, inr (i, p))) = inr (m, inr (⊎_elim i no, p))

module _ (s : Tables) (o : Opens) (work : List ℕ) (number : ℕ) (tests : List (Row Answer)) (done : Outcome) where
  asked : (g : Beside Outcome) → number ≤ 1 → PackedPromise s o work tests done g → AskedPromise s o work number tests done g
  unfolding PackedPromise
  asked g h p =
      wider (λ a w. beside (refuse s o a) w) (MisfitIn s) (OutsideIn s ⊎ (InOrder o → ⊥)) (1 < number) (length work < rooms_in s)
      (row (SoundIn s → ⊥) BrokenTree ∷ []) (rooms_in s) work (worked s work) (giving (refuse s o) tests) done g (λ k. omega arith) p

  -- another kind: the sizes do not fit, or they do
  other : (a : Answer) → 1 < number → First (row (Misfit s.dir_hash s.dir_table s.file_hash s.file_table) SizeMismatch ∷ []) InvalidValue a
      → AskedPromise s o work number tests done (beside (refuse s o a) work)
  other a h (inl p) = inl (p.0, ap (λ (z : Answer). beside (refuse s o z) work) p.1)
  other a h (inr p) = inr (p.0, inl (inr h, ap (λ (z : Answer). beside (refuse s o z) work) p.1))

-- a kind other than 0 is the writer's
pub is_writer : (number : ℕ) → (number ≡ 0 → ⊥) → Writer ≡ want_of number
is_writer zero n = absurd (n refl)
is_writer (suc number) n = refl

-- ---- for the exports

module _ (kind : Kind) (dh d fh f : List ℕ) (k : ℕ) (l work : List ℕ) (x number n : ℕ) (a : Answer) (e : n ≡ number_of a) where
  abbrev s : Tables
  s = tables dh d fh f

  abbrev o : Opens
  o = opens k l

  module _ (h : 1 < number) (p : First (row (Misfit dh d fh f) SizeMismatch ∷ []) InvalidValue a) where
    pub open_other : Exported n (λ a. OpenKindPromise kind (tables dh d fh f) (opens k l) work x number (beside (gives a 0 (tables dh d fh f) (opens k l)) work))
    open_other = (a, e, other s o work number (open_tests kind s o x (want_of number)) (open_done kind s o x (want_of number)) a h p)

    pub close_other : Exported n (λ a. CloseKindPromise kind (tables dh d fh f) (opens k l) work x number (beside (gives a 0 (tables dh d fh f) (opens k l)) work))
    close_other = (a, e, other s o work number (close_tests kind s o x (want_of number)) (close_done kind s o x (want_of number)) a h p)

  module _ (h : number ≤ 1) (want : Want) (q : want ≡ want_of number) (k' : ℕ) (l' work' : List ℕ) where
    pub open_asked : PackedOpen kind (tables dh d fh f) (opens k l) work x want (beside (gives a 0 (tables dh d fh f) (opens k' l')) work')
        → Exported n (λ a. OpenKindPromise kind (tables dh d fh f) (opens k l) work x number (beside (gives a 0 (tables dh d fh f) (opens k' l')) work'))
    open_asked p = (
      a,
      e,
      asked s o work number (open_tests kind s o x (want_of number)) (open_done kind s o x (want_of number)) (beside (gives a 0 s (opens k' l')) work') h
          (subst (λ (v : Want). PackedOpen kind s o work x v (beside (gives a 0 s (opens k' l')) work')) q p),
    )

    pub close_asked : PackedClose kind (tables dh d fh f) (opens k l) work x want (beside (gives a 0 (tables dh d fh f) (opens k' l')) work')
        → Exported n (λ a. CloseKindPromise kind (tables dh d fh f) (opens k l) work x number (beside (gives a 0 (tables dh d fh f) (opens k' l')) work'))
    close_asked p = (
      a,
      e,
      asked s o work number (close_tests kind s o x (want_of number)) (close_done kind s o x (want_of number)) (beside (gives a 0 s (opens k' l')) work') h
          (subst (λ (v : Want). PackedClose kind s o work x v (beside (gives a 0 s (opens k' l')) work')) q p),
    )

-- the inner calls, of one table among the four
module _ (dh d fh f : List ℕ) (o o' : Opens) (x number n : ℕ) (a : Answer) (want : Want) (e : n ≡ number_of a) (q : want ≡ want_of number) where
  pub inner_open_dir : OpenIn (alone 40 d) o x want (opening_in a o') → Exported n (λ a. OpenIn (dirs (tables dh d fh f)) o x (want_of number) (opening_in a o'))
  unfolding OpenIn
  inner_open_dir p = (a, e, subst (λ (w : Want). OpenIn (dirs (tables dh d fh f)) o x w (opening_in a o')) q p)

  pub inner_open_file : OpenIn (alone 48 f) o x want (opening_in a o') → Exported n (λ a. OpenIn (files (tables dh d fh f)) o x (want_of number) (opening_in a o'))
  unfolding OpenIn
  inner_open_file p = (a, e, subst (λ (w : Want). OpenIn (files (tables dh d fh f)) o x w (opening_in a o')) q p)

  pub inner_close_dir : CloseIn (alone 40 d) o x want (opening_in a o') → Exported n (λ a. CloseIn (dirs (tables dh d fh f)) o x (want_of number) (opening_in a o'))
  unfolding CloseIn
  inner_close_dir p = (a, e, subst (λ (w : Want). CloseIn (dirs (tables dh d fh f)) o x w (opening_in a o')) q p)

  pub inner_close_file : CloseIn (alone 48 f) o x want (opening_in a o') → Exported n (λ a. CloseIn (files (tables dh d fh f)) o x (want_of number) (opening_in a o'))
  unfolding CloseIn
  inner_close_file p = (a, e, subst (λ (w : Want). CloseIn (files (tables dh d fh f)) o x w (opening_in a o')) q p)
