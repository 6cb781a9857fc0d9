-- When a list is full: what open and make then answer, and that nothing else of a list makes them answer so.
use mathlib.Core.Path.{◌≡◌, refl, sym, ap, ◌∙◌}
use mathlib.Core.List.{List, [], ◌∷◌, ◌++◌}
use mathlib.Core.Logic.{◌⊎◌, inl, inr, ⊎_elim}
use Prim.Native.Nat.{ℕ, ◌≤◌, ◌<◌}
use native.Mathlib.Omega.{arith}
use lib.ListN.{length}
use Rattle.order.specs.First.{Row, row, First}
use Rattle.order.specs.Given.{None}
use Rattle.order.specs.Giving.{giving}
use Rattle.order.specs.Beside.{Beside, beside, within}
use Rattle.order.specs.Answer.{number_of}
use Rattle.order.specs.Answer.{Answer}
use Rattle.order.specs.Answer.{TooManyOpens}
use Rattle.tree_table.specs.View.{LiveIn}
use Rattle.tree_table.specs.Steps.{taken}
use Rattle.tree_sound.specs.Tables.{Tables, rooms_in}
use Rattle.tree_opens.specs.Record.{total}
use Rattle.tree_opens.specs.declared.Want.{Want}
use Rattle.tree_promises.specs.declared.Kind.{Kind}
use Rattle.tree_promises.specs.Kinds.{kind_view}
use Rattle.tree_promises.specs.Promise.{worked}
use Rattle.tree_promises.specs.Calls as dense
use Rattle.tree_history.specs.Whole.{Whole}
use Rattle.tree_packed.specs.Opens.{Opens, InOrder, record_of, NoPlace}
use Rattle.tree_promises.specs.Packed as packed
use Rattle.tree_promises.specs.Packed.{Outcome, gives, PackedPromise}

module _ (kind : Kind) (s : Tables) (w : Whole s) (o : Opens) (P : InOrder o) (work : List ℕ) (long : rooms_in s ≤ length work) (g : Beside Outcome) where
  -- sizes, list, work list and soundness have passed: the own rows decide
  own : (tests : List (Row Answer)) (done : Outcome) → PackedPromise s o work tests done g
      → First (within (worked s work) (giving (λ a. gives a 0 s o) tests)) (beside done (worked s work)) g
  unfolding PackedPromise
  own tests done (inl p) = absurd (w.fits p.0)
  own tests done (inr (m, inl p)) = absurd (⊎_elim w.inside (λ n. n P) p.0)
  own tests done (inr (m, inr (i, inl p))) = absurd (let h : length work < rooms_in s = p.0 in omega arith)
  own tests done (inr (m, inr (i, inr (l, inl p)))) = absurd (p.0 w.sound)
  own tests done (inr (m, inr (i, inr (l, inr (u, p))))) = p

  abbrev answer : Beside Outcome → Answer
  answer x = x.given.answer

  -- full_open: an open of a live inode that is not listed, where every place is taken, is TooManyOpens; and TooManyOpens is that, or the limit
  pub full_open : (x : ℕ) (want : Want) → LiveIn (kind_view kind s) x
      → PackedPromise s o work (packed.open_tests kind s o x want) (packed.open_done kind s o x want) g
      → (NoPlace o x → answer g ≡ TooManyOpens) × (answer g ≡ TooManyOpens → NoPlace o x ⊎ (65535 ≤ total (record_of o x)))
  full_open x want l p = go (own (packed.open_tests kind s o x want) (packed.open_done kind s o x want) p)
    where
      not : (a : Answer) → (number_of a ≡ 17 → ⊥) → answer g ≡ a → answer g ≡ TooManyOpens → ⊥
      not a n e q = n (ap number_of (sym e ∙ q))

      go : First (within (worked s work) (giving (λ a. gives a 0 s o) (packed.open_tests kind s o x want))) (beside (packed.open_done kind s o x want) (worked s work)) g
          → (NoPlace o x → answer g ≡ TooManyOpens) × (answer g ≡ TooManyOpens → NoPlace o x ⊎ (65535 ≤ total (record_of o x)))
      go (inl q) = absurd (q.0 l)
      go (inr (a, inl q)) = (λ _. ap answer q.1, λ _. inl q.0)
      go (inr (a, inr (b, inl q))) = (λ f. absurd (b f), λ _. inr q.0)
      go (inr (a, inr (b, inr (c, inl q)))) = (λ f. absurd (b f), λ e. absurd (not _ (λ z. omega arith) (ap answer q.1) e))
      go (inr (a, inr (b, inr (c, inr (d, q))))) = (λ f. absurd (b f), λ e. absurd (not _ (λ z. omega arith) (ap answer q) e))

  -- full_make: a make that else may go is TooManyOpens exactly where the inode that it takes is not listed and every place is taken
  pub full_make : (p : ℕ) (name bytes : List ℕ) → None (dense.make_tests s (kind_view kind s) p name)
      → PackedPromise s o work (packed.make_tests kind s o p name) (packed.make_done kind s o p name bytes) g
      → (NoPlace o (taken (kind_view kind s)) → answer g ≡ TooManyOpens) × (answer g ≡ TooManyOpens → NoPlace o (taken (kind_view kind s)))
  full_make p name bytes n q = go (own (packed.make_tests kind s o p name) (packed.make_done kind s o p name bytes) q)
    where
      go : First (within (worked s work) (giving (λ a. gives a 0 s o) (packed.make_tests kind s o p name))) (beside (packed.make_done kind s o p name bytes) (worked s work)) g
          → (NoPlace o (taken (kind_view kind s)) → answer g ≡ TooManyOpens) × (answer g ≡ TooManyOpens → NoPlace o (taken (kind_view kind s)))
      go (inl r) = absurd (n.0 r.0)
      go (inr (a, inl r)) = absurd (n.1.0 r.0)
      go (inr (a, inr (b, inl r))) = absurd (n.1.1.0 r.0)
      go (inr (a, inr (b, inr (c, inl r)))) = absurd (n.1.1.1.0 r.0)
      go (inr (a, inr (b, inr (c, inr (d, inl r))))) = (λ _. ap answer r.1, λ _. r.0)
      go (inr (a, inr (b, inr (c, inr (d, inr (e, r)))))) = (λ f. absurd (e f), λ h. absurd (let z : ◌≡◌ {A = ℕ} 0 17 = ap number_of (sym (ap answer r) ∙ h) in omega arith))
