-- Each call on open records, on both sides.
use mathlib.Core.Path.{◌≡◌, refl, sym, ap, ◌∙◌, subst, subst⁻¹}
use mathlib.Core.List.{List, [], ◌∷◌, ◌++◌}
use mathlib.Core.Bool.{false}
use mathlib.Core.Logic.{◌⊎◌, inl, inr, ⊎_elim, ◌≢◌}
use Prim.Native.Nat.{ℕ, zero, suc, ◌≤◌, ◌<◌}
use native.Mathlib.Omega.{arith}
use lib.ListN.{length}
use Rattle.order.specs.First.{Row, row}
use Rattle.order.specs.Given.{Given, None}
use Rattle.order.specs.Giving.{giving}
use Rattle.order.specs.Beside.{Beside, beside}
use Rattle.order.specs.Answer.{Answer}
use Rattle.order.specs.Answer.{Done, InvalidValue, NotFound, AlreadyExist, Busy, TooManyOpens}
use Rattle.links.specs.Change.{pick}
use Rattle.links.proofs.Laws.{by_eq}
use Rattle.tree_key.specs.Key.{name_key}
use Rattle.tree_table.specs.View.{View, LiveIn}
use Rattle.tree_table.specs.Steps.{taken}
use Rattle.tree_sound.specs.Sound.{Table}
use Rattle.tree_sound.specs.Tables.{Tables, dirs, files, SoundIn}
use Rattle.tree_opens.specs.Opens.{opened, with_open}
use Rattle.tree_opens.specs.Record.{readers, writer, writer_alone}
use Rattle.tree_opens.specs.Step.{more, less, more_tests, less_tests}
use Rattle.tree_opens.specs.declared.Want.{Want}
use Rattle.tree_opens.specs.declared.Want.TheVariants.{Reader, Writer}
use Rattle.tree_promises.specs.declared.Kind.{Kind}
use Rattle.tree_promises.specs.declared.Kind.TheVariants.{Directory, File}
use Rattle.tree_promises.specs.Kinds.{kind_view, kind_room}
use Rattle.tree_promises.specs.Steps.{made, deleted, renamed}
use Rattle.tree_promises.specs.Legal.{legal}
use Rattle.tree_promises.specs.Has.{HasOther}
use Rattle.tree_promises.specs.Calls as dense
use Rattle.tree_promises.specs.Public.{MakePromise, RenamePromise, DeletePromise, OpenPromise, ClosePromise}
use Rattle.tree_history.proofs.Stable.{live_stable}
use Rattle.tree_history.proofs.Moves.{live_low, taken_low}
use Rattle.tree_packed.specs.Opens.{Opens, InOrder, record_of, NoPlace, with_record}
use Rattle.tree_promises.specs.Packed as packed
use Rattle.tree_promises.specs.Packed.{Outcome, gives, PackedPromise}
use Rattle.tree_same.specs.Alike.{Alike}
use Rattle.tree_same.proofs.Records.{put_alike}
use Rattle.tree_same.proofs.Same.{Passed, Both, same_call}

-- the outcome g over the packed list goes with an answer, tables and one record for each inode
pub record Follows (g : Outcome) (answer : Answer) (tables : Tables) (d : List ℕ) : Type 0 where
  pub answers : g.answer ≡ answer
  pub tabled : g.tables ≡ tables
  pub alike : Alike d g.opens
  pub order : InOrder g.opens

-- ---- inodes

positive : (n : ℕ) → n ≢ 0 → 0 < n
positive zero z = absurd (z refl)
positive (suc n) z = omega arith

taken_some : (v : View) → Table v → 0 < taken v
taken_some v T = by_eq (v.coll 0) 0 (λ b. 0 < pick b v.count (v.coll 0)) (λ e. omega (arith, T.count_one)) (λ n. positive (v.coll 0) n)

kind_taken : (kind : Kind) (s : Tables) → SoundIn s → 0 < taken (kind_view kind s)
kind_taken Directory s S = taken_some (dirs s) S.dirs.below.table
kind_taken File s S = taken_some (files s) S.files.table

-- rows in two parts
given_parts : (rs qs : List (Row Answer)) (a : Answer) → Given (rs ++ qs) a → Given rs a ⊎ Given qs a
given_parts [] qs a g = inr g
given_parts (r ∷ rs) qs a (inl p) = inl (inl p)
given_parts (r ∷ rs) qs a (inr p) = ⊎_elim (λ (g : Given rs a). inl (inr (p.0, g))) (λ (g : Given qs a). inr g) (given_parts rs qs a p.1)

none_front : (rs qs : List (Row Answer)) → None (rs ++ qs) → None rs
none_front [] qs n = tt
none_front (r ∷ rs) qs n = (n.0, none_front rs qs n.1)

pub none_back : (rs qs : List (Row Answer)) → None (rs ++ qs) → None qs
none_back [] qs n = n
none_back (r ∷ rs) qs n = none_back rs qs n.1

-- ---- the calls

module _ (kind : Kind) (s : Tables) (o : Opens) (d : List ℕ) (A : Alike d o) (P : InOrder o) (work : List ℕ) (g : Beside Outcome) where
  -- refused alike, or gone alike
  follows : {D : Type 0} (tests : List (Row Answer)) (done : Outcome) (refuse : Answer → D) (last : D) (answer_of : D → Answer) (tables_of : D → Tables) (opensIn : D → List ℕ)
      → ((a : Answer) → answer_of (refuse a) ≡ a) → ((a : Answer) → tables_of (refuse a) ≡ s) → ((a : Answer) → opensIn (refuse a) ≡ d)
      → (Passed kind s tests → Follows done (answer_of last) (tables_of last) (opensIn last))
      → (og : D) → Both kind s o tests done refuse last g.given og → Follows g.given (answer_of og) (tables_of og) (opensIn og)
  unfolding Both
  follows tests done refuse last answer_of tables_of opensIn ea et eo f og (inl (a, e, q)) =
      subst⁻¹ (λ (x : Outcome). Follows x (answer_of og) (tables_of og) (opensIn og)) e
      (record {
        answers = sym (ap answer_of q ∙ ea a);
        tabled = sym (ap tables_of q ∙ et a);
        alike = subst⁻¹ (λ (z : List ℕ). Alike z o) (ap opensIn q ∙ eo a) A;
        order = P;
      })
  follows {D} tests done refuse last answer_of tables_of opensIn ea et eo f og (inr (w, e, q)) =
      subst⁻¹ (λ (x : Outcome). Follows x (answer_of og) (tables_of og) (opensIn og)) e
      (subst⁻¹ (λ (x : D). Follows done (answer_of x) (tables_of x) (opensIn x)) q (f w))

  -- a record that is put on both sides
  put : (x r r' : ℕ) (t : Tables) (inode : ℕ) → r ≡ r' → 0 < x → x < 65536 → (NoPlace o x → r ≢ 0 → ⊥) → Follows (gives Done inode t (with_record o x r)) Done t (with_open d x r')
  put x r r' t inode e some low place =
      let q = put_alike d o A P x r some low place in record {
        answers = refl;
        tabled = refl;
        alike = subst (λ z. Alike (with_open d x z) (with_record o x r)) e q.0;
        order = q.1;
      }

  live : (x : ℕ) → ((LiveIn (kind_view kind s) x → ⊥) → ⊥) → LiveIn (kind_view kind s) x
  live x n = live_stable (kind_view kind s) x n

  low : (x : ℕ) {tests : List (Row Answer)} → Passed kind s tests → LiveIn (kind_view kind s) x → x < 65536
  low x w l = omega (arith, w.room, live_low kind s x w.sound l)

  pub same_open : (x : ℕ) (want : Want) → ((g.given.answer ≡ TooManyOpens) × NoPlace o x → ⊥)
      → PackedPromise s o work (packed.open_tests kind s o x want) (packed.open_done kind s o x want) g
      → (og : dense.Opening) × OpenPromise kind s d work x want (beside og g.work) × Follows g.given og.answer s og.opens
  same_open x want full p =
      let r =
      same_call kind s o d work A P (packed.open_tests kind s o x want) (dense.open_tests (kind_view kind s) d x want) (packed.open_done kind s o x want) (λ a. dense.opening_gives a d)
      (dense.open_done d x want) g own none p in (
        r.0,
        r.1,
        follows (packed.open_tests kind s o x want) (packed.open_done kind s o x want) (λ a. dense.opening_gives a d) (dense.open_done d x want) (λ (c : dense.Opening). c.answer)
            (λ _. s) (λ (c : dense.Opening). c.opens) (λ a. refl) (λ a. refl) (λ a. refl)
            (λ w.
            put x (more (record_of o x) want) (more (opened d x) want) s 0 (ap (λ z. more z want) (A.records x)) (live x w.none.0).0 (low x w (live x w.none.0))
            (λ n _. w.none.1.0 n))
            r.0 r.2,
      )
    where
      own : SoundIn s → (a : Answer) → g.given.answer ≡ a → Given (packed.open_tests kind s o x want) a → Given (dense.open_tests (kind_view kind s) d x want) a
      own S a e (inl q) = inl q
      own S a e (inr (l, inl q)) = absurd (full (e ∙ q.1, q.0))
      own S a e (inr (l, inr (n, q))) = inr (l, subst (λ z. Given (more_tests z want) a) (A.records x) q)

      none : SoundIn s → None (packed.open_tests kind s o x want) → None (dense.open_tests (kind_view kind s) d x want)
      none S n = (n.0, subst (λ z. None (more_tests z want)) (A.records x) n.1.1)

  pub same_close : (x : ℕ) (want : Want) → PackedPromise s o work (packed.close_tests kind s o x want) (packed.close_done kind s o x want) g
      → (og : dense.Opening) × ClosePromise kind s d work x want (beside og g.work) × Follows g.given og.answer s og.opens
  same_close x want p =
      let r =
      same_call kind s o d work A P (packed.close_tests kind s o x want) (dense.close_tests (kind_view kind s) d x want) (packed.close_done kind s o x want) (λ a. dense.opening_gives a d)
      (dense.close_done d x want) g own none p in (
        r.0,
        r.1,
        follows (packed.close_tests kind s o x want) (packed.close_done kind s o x want) (λ a. dense.opening_gives a d) (dense.close_done d x want) (λ (c : dense.Opening). c.answer)
            (λ _. s) (λ (c : dense.Opening). c.opens) (λ a. refl) (λ a. refl) (λ a. refl)
            (λ w.
            put x (less (record_of o x) want) (less (opened d x) want) s 0 (ap (λ z. less z want) (A.records x)) (live x w.none.0).0 (low x w (live x w.none.0))
            (λ n _. held want n.0 w.none.1))
            r.0 r.2,
      )
    where
      own : SoundIn s → (a : Answer) → g.given.answer ≡ a → Given (packed.close_tests kind s o x want) a → Given (dense.close_tests (kind_view kind s) d x want) a
      own S a e q = subst (λ z. Given (dense.close_tests_of (kind_view kind s) z x want) a) (A.records x) q

      none : SoundIn s → None (packed.close_tests kind s o x want) → None (dense.close_tests (kind_view kind s) d x want)
      none S n = subst (λ z. None (dense.close_tests_of (kind_view kind s) z x want)) (A.records x) n

      -- what is given back is listed
      held : (want : Want) → record_of o x ≡ 0 → None (less_tests (record_of o x) want) → ⊥
      held Reader e n = n.0 (ap readers e)
      held Writer e n = n.0 (ap writer e)

  pub same_rename : (x p : ℕ) (name : List ℕ) → PackedPromise s o work (packed.rename_tests kind s o x p name) (packed.rename_done kind s o x p name) g
      → (og : dense.Change) × RenamePromise kind s d work x p name (beside og g.work) × Follows g.given og.answer og.tables og.opens
  same_rename x p name q =
      let r =
      same_call kind s o d work A P (packed.rename_tests kind s o x p name) (dense.rename_tests kind s d x p name) (packed.rename_done kind s o x p name) (λ a. dense.change_gives a s d)
      (dense.rename_done kind s d x p name) g own none q in (
        r.0,
        r.1,
        follows (packed.rename_tests kind s o x p name) (packed.rename_done kind s o x p name) (λ a. dense.change_gives a s d) (dense.rename_done kind s d x p name)
            (λ (c : dense.Change). c.answer) (λ (c : dense.Change). c.tables) (λ (c : dense.Change). c.opens) (λ a. refl) (λ a. refl) (λ a. refl)
            (λ w. record { answers = refl; tabled = refl; alike = A; order = P })
            r.0 r.2,
      )
    where
      own : SoundIn s → (a : Answer) → g.given.answer ≡ a → Given (packed.rename_tests kind s o x p name) a → Given (dense.rename_tests kind s d x p name) a
      own S a e q = subst (λ z. Given (dense.rename_tests_of kind s z x p name) a) (A.records x) q

      none : SoundIn s → None (packed.rename_tests kind s o x p name) → None (dense.rename_tests kind s d x p name)
      none S n = subst (λ z. None (dense.rename_tests_of kind s z x p name)) (A.records x) n

  pub same_delete : (x : ℕ) → PackedPromise s o work (packed.delete_tests kind s o x) (packed.delete_done kind s o x) g
      → (og : dense.Change) × DeletePromise kind s d work x (beside og g.work) × Follows g.given og.answer og.tables og.opens
  same_delete x q =
      let r =
      same_call kind s o d work A P (packed.delete_tests kind s o x) (dense.delete_tests kind s d x) (packed.delete_done kind s o x) (λ a. dense.change_gives a s d)
      (dense.delete_done kind s d x) g own none q in (
        r.0,
        r.1,
        follows (packed.delete_tests kind s o x) (packed.delete_done kind s o x) (λ a. dense.change_gives a s d) (dense.delete_done kind s d x)
            (λ (c : dense.Change). c.answer) (λ (c : dense.Change). c.tables) (λ (c : dense.Change). c.opens) (λ a. refl) (λ a. refl) (λ a. refl)
            (λ w. put x 0 0 (deleted kind s x) 0 refl (live x w.none.0).0 (low x w (live x w.none.0)) (λ _ z. z refl))
            r.0 r.2,
      )
    where
      own : SoundIn s → (a : Answer) → g.given.answer ≡ a → Given (packed.delete_tests kind s o x) a → Given (dense.delete_tests kind s d x) a
      own S a e q = subst (λ z. Given (dense.delete_tests_of kind s z x) a) (A.records x) q

      none : SoundIn s → None (packed.delete_tests kind s o x) → None (dense.delete_tests kind s d x)
      none S n = subst (λ z. None (dense.delete_tests_of kind s z x)) (A.records x) n

  abbrev t : ℕ
  t = taken (kind_view kind s)

  abbrev makes : (p : ℕ) (name : List ℕ) → List (Row Answer)
  makes p name = dense.make_tests s (kind_view kind s) p name

  pub same_make : (p : ℕ) (name bytes : List ℕ) → ((g.given.answer ≡ TooManyOpens) × NoPlace o t → ⊥)
      → PackedPromise s o work (packed.make_tests kind s o p name) (packed.make_done kind s o p name bytes) g
      → (og : dense.Make) × MakePromise kind s d work p name bytes (beside og g.work) × Follows g.given og.answer og.tables og.opens
  same_make p name bytes full q =
      let r =
      same_call kind s o d work A P (packed.make_tests kind s o p name) (makes p name) (packed.make_done kind s o p name bytes) (λ a. dense.make_gives a 0 s d)
      (dense.make_done kind s d p name bytes) g own (λ S n. none_front (makes p name) (row (NoPlace o t) TooManyOpens ∷ []) n) q in (
        r.0,
        r.1,
        follows (packed.make_tests kind s o p name) (packed.make_done kind s o p name bytes) (λ a. dense.make_gives a 0 s d) (dense.make_done kind s d p name bytes)
            (λ (c : dense.Make). c.answer) (λ (c : dense.Make). c.tables) (λ (c : dense.Make). c.opens) (λ a. refl) (λ a. refl) (λ a. refl)
            (λ w.
            put t writer_alone writer_alone (made kind s p name bytes) t refl (kind_taken kind s w.sound)
            (omega (arith, w.room, taken_low kind s w.sound w.none.1.1.1.0))
            (λ n _. (none_back (makes p name) (row (NoPlace o t) TooManyOpens ∷ []) w.none).0 n))
            r.0 r.2,
      )
    where
      own : SoundIn s → (a : Answer) → g.given.answer ≡ a → Given (packed.make_tests kind s o p name) a → Given (makes p name) a
      own S a e q =
          ⊎_elim (λ (h : Given (makes p name) a). h)
          (λ (h : Given (row (NoPlace o t) TooManyOpens ∷ []) a). ⊎_elim (λ h. absurd (full (e ∙ h.1, h.0))) (λ h. absurd h.1) h)
          (given_parts (makes p name) (row (NoPlace o t) TooManyOpens ∷ []) a q)
