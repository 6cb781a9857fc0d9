-- The rows of open and close, by the places of their code.
use mathlib.Core.Path.{◌≡◌, refl, ap, ◌∙◌, subst, subst⁻¹}
use mathlib.Core.Bool.{Bool, true}
use mathlib.Core.List.{List, [], ◌∷◌}
use mathlib.Core.Logic.{inl, inr}
use Prim.Native.Nat.{ℕ, ◌+◌, ◌*◌, ◌≤◌, ◌<◌}
use native.Mathlib.Omega.{arith}
use lib.ListN.{length, take, drop}
use Rattle.order.specs.First.{Row, First}
use Rattle.order.specs.Giving.{giving}
use Rattle.order.specs.Given.{Given, None}
use Rattle.std.specs.Prelude.{Err}
use Rattle.order.specs.declared.Refusal.{Refusal}
use Rattle.order.specs.Answer.{Answer, Done, NotFound, TooManyOpens}
use Rattle.tree_table.specs.Field.{field}
use Rattle.order.specs.Tells.{Tells}
use Rattle.tree_packed.specs.Packed.{rec}
use Rattle.tree_packed.specs.Put.{IsFull}
use Rattle.tree_packed.specs.Opens.{Opens, opens, record_of, with_record}
use Rattle.tree_opens.specs.Step.{more, less, more_tests, less_tests}
use Rattle.tree_opens.specs.declared.Want.{Want}
use Rattle.tree_sound.specs.Tables.{Tables, tables, dirs, files}
use Rattle.tree_promises.specs.declared.Kind.TheVariants.{Directory, File}
use Rattle.tree_promises.specs.Steps.{with_carried}
use Rattle.tree_promises.specs.Inner.Ready.{LiveAt, Single, alone, SetOne, set_gives, set_rows}
use Rattle.tree_promises.specs.Inner.Opening.{opening_in, OpenIn, CloseIn}
use Rattle.tree_promises.specs.Calls.{live_tests, part, shown_rows, shown_gives, carry_rows, carry_gives, carry_done}
use Rattle.tree_look.proofs.Given.{given_first, none_first}
use Rattle.tree_look.proofs.Lists.{inside, all_fit}

module _ (t : List ℕ) (w x k : ℕ) (l : List ℕ) (want : Want) where
  abbrev o : Opens
  o = opens k l

  pub open_none : (LiveAt w t x → ⊥) → OpenIn (alone w t) (opens k l) x want (opening_in NotFound (opens k l))
  unfolding OpenIn
  open_none gone = inl (gone, refl)

  pub close_none : (LiveAt w t x → ⊥) → CloseIn (alone w t) (opens k l) x want (opening_in NotFound (opens k l))
  unfolding CloseIn
  close_none gone = inl (gone, refl)

  module _ (live : LiveAt w t x) where
    pub open_full : IsFull k l x → OpenIn (alone w t) (opens k l) x want (opening_in TooManyOpens (opens k l))
    unfolding OpenIn
    open_full full = inr (λ gone. gone live, inl (full, refl))

    module _ {n : ℕ} (count : n ≡ rec k l x) where
      module _ (place : IsFull k l x → ⊥) where
        pub open_refused : (why : Refusal) → Given (more_tests n want) (Err why) → OpenIn (alone w t) (opens k l) x want (opening_in (Err why) (opens k l))
        unfolding OpenIn
        open_refused why q =
            inr (
              λ gone. gone live,
              inr (
                place,
                given_first (λ a. opening_in a o) (opening_in Done (with_record o x (more (record_of o x) want))) (more_tests (record_of o x) want) (Err why)
                    (subst (λ z. Given (more_tests z want) (Err why)) count q),
              ),
            )

        pub open_done : {m k' : ℕ} {l' : List ℕ} → None (more_tests n want) × (m ≡ more n want) → opens k' l' ≡ with_record (opens k l) x m
            → OpenIn (alone w t) (opens k l) x want (opening_in Done (opens k' l'))
        unfolding OpenIn
        open_done q f =
            subst⁻¹ (λ (z : Opens). OpenIn (alone w t) o x want (opening_in Done z)) (f ∙ ap (with_record o x) (q.1 ∙ ap (λ z. more z want) count))
            (inr (
              λ gone. gone live,
              inr (
                place,
                none_first (λ a. opening_in a o) (opening_in Done (with_record o x (more (record_of o x) want))) (more_tests (record_of o x) want)
                    (subst (λ z. None (more_tests z want)) count q.0),
              ),
            ))

      pub close_refused : (why : Refusal) → Given (less_tests n want) (Err why) → CloseIn (alone w t) (opens k l) x want (opening_in (Err why) (opens k l))
      unfolding CloseIn
      close_refused why q =
          inr (
            λ gone. gone live,
            given_first (λ a. opening_in a o) (opening_in Done (with_record o x (less (record_of o x) want))) (less_tests (record_of o x) want) (Err why)
                (subst (λ z. Given (less_tests z want) (Err why)) count q),
          )

      pub close_done : {m k' : ℕ} {l' : List ℕ} → None (less_tests n want) × (m ≡ less n want) → opens k' l' ≡ with_record (opens k l) x m
          → CloseIn (alone w t) (opens k l) x want (opening_in Done (opens k' l'))
      unfolding CloseIn
      close_done q f =
          subst⁻¹ (λ (z : Opens). CloseIn (alone w t) o x want (opening_in Done z)) (f ∙ ap (with_record o x) (q.1 ∙ ap (λ z. less z want) count))
          (inr (
            λ gone. gone live,
            none_first (λ a. opening_in a o) (opening_in Done (with_record o x (less (record_of o x) want))) (less_tests (record_of o x) want)
                (subst (λ z. None (less_tests z want)) count q.0),
          ))

module _ {h t : List ℕ} {w : ℕ} (S : Single h t w) (x i : ℕ) {r : Bool} (T : Tells (LiveAt w t x) r) (yes : r ≡ true) (e : i ≡ x) where
  -- a live entry lies in the table
  pub live_fits : i * w + w ≤ length t
  live_fits = inside t w i (field w t 0 1) (let l : x < field w t 0 1 = (T.yes yes).1 in omega arith) (all_fit h t w S)

  -- bytes of it, shown
  pub shown : (at many : ℕ) (bytes none : List ℕ) → bytes ≡ take many (drop (i * w + at) t)
      → First (shown_rows (alone w t) x none) (shown_gives Done (part w t x at many)) (shown_gives Done bytes)
  shown at many bytes none q =
      inr (λ n. n (T.yes yes), ap (shown_gives Done) (q ∙ ap (λ z. take many (drop (z * w + at) t)) e))

-- what is given, seen otherwise: the rows stay
pub seen : {A B : Type 0} (look : A → B) (g : Answer → A) (tests : List (Row Answer)) (d o : A) → First (giving g tests) d o → First (giving (λ a. look (g a)) tests) (look d) (look o)
seen look g [] d o p = ap look p
seen look g (r ∷ rs) d o (inl p) = inl (p.0, ap look p.1)
seen look g (r ∷ rs) d o (inr p) = inr (p.0, seen look g rs d o p.1)

-- carried bytes set in one table, as a change of the four
pub set_dir : (s : Tables) (x : ℕ) (bytes : List ℕ) (a : Answer) (t : List ℕ)
    → First (set_rows 40 s.dir_table x) (set_gives Done (with_carried Directory (tables [] s.dir_table [] []) x bytes).dir_table) (set_gives a t)
    → First (carry_rows s (dirs s) x) (carry_done Directory s x bytes) (carry_gives a (tables s.dir_hash t s.file_hash s.file_table))
set_dir s x bytes a t p =
    seen (λ (z : SetOne). carry_gives z.answer (tables s.dir_hash z.table s.file_hash s.file_table)) (λ a. set_gives a s.dir_table) (live_tests (dirs s) x)
    (set_gives Done (with_carried Directory (tables [] s.dir_table [] []) x bytes).dir_table) (set_gives a t) p

pub set_file : (s : Tables) (x : ℕ) (bytes : List ℕ) (a : Answer) (t : List ℕ)
    → First (set_rows 48 s.file_table x) (set_gives Done (with_carried File (tables [] [] [] s.file_table) x bytes).file_table) (set_gives a t)
    → First (carry_rows s (files s) x) (carry_done File s x bytes) (carry_gives a (tables s.dir_hash s.dir_table s.file_hash t))
set_file s x bytes a t p =
    seen (λ (z : SetOne). carry_gives z.answer (tables s.dir_hash s.dir_table s.file_hash z.table)) (λ a. set_gives a s.file_table) (live_tests (files s) x)
    (set_gives Done (with_carried File (tables [] [] [] s.file_table) x bytes).file_table) (set_gives a t) p
