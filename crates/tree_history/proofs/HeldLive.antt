-- Whatever has an open stays live, as long as nothing is formatted: so every open can be given back.
use mathlib.Core.Path.{◌≡◌, refl, sym, ap, ◌∙◌, subst, subst⁻¹}
use mathlib.Core.List.{List, [], ◌∷◌}
use mathlib.Core.Logic.{◌⊎◌, inl, inr, ⊎_elim, ◌≢◌}
use Prim.Native.Nat.{ℕ, zero, suc, ◌≤◌, ◌<◌}
use native.Mathlib.Omega.{arith}
use lib.ListN.{length, get_or, set}
use lib.Seq.{get_or-set_other}
use Rattle.order.specs.Beside.{Beside}
use Rattle.order.specs.Answer.{Answer}
use Rattle.order.specs.Answer.{Done}
use Rattle.words.specs.Word.{AreBytes}
use Rattle.links.proofs.Held.{same_or}
use Rattle.tree_table.specs.View.{LiveIn}
use Rattle.tree_table.specs.Steps.{taken}
use Rattle.tree_sound.specs.Tables.{Tables, rooms_in}
use Rattle.tree_opens.specs.Opens.{opened, with_open}
use Rattle.tree_opens.specs.Record.{readers, writer, writer_alone}
use Rattle.tree_opens.specs.Step.{holds, more, less}
use Rattle.tree_opens.specs.declared.Want.{Want}
use Rattle.tree_opens.specs.declared.Want.TheVariants.{Reader, Writer}
use Rattle.tree_promises.specs.declared.Kind.{Kind}
use Rattle.tree_promises.specs.declared.Kind.TheVariants.{Directory, File}
use Rattle.tree_promises.specs.Kinds.{kind_view, kind_room}
use Rattle.tree_promises.specs.Steps.{made, deleted, renamed}
use Rattle.tree_promises.specs.Calls as calls
use Rattle.tree_promises.specs.Public.{SetCarriedPromise, MakePromise, RenamePromise, DeletePromise, OpenPromise, ClosePromise}
use Rattle.tree_history.specs.Whole.{Whole}
use Rattle.tree_history.specs.Call as step
use Rattle.tree_history.specs.Call.{State, state, Call, opens_of, changed}
use Rattle.tree_history.specs.Run as run
use Rattle.tree_history.specs.Run.{Run}
use Rattle.tree_history.specs.Held.{NoneOpen, HeldLive, NoFormat, Unformatted, out}
use Rattle.tree_history.proofs.Stable.{live_stable}
use Rattle.tree_history.proofs.Rows.{each_giving, of_tree}
use Rattle.tree_history.proofs.May.{may_make, may_rename, may_delete}
use Rattle.tree_history.proofs.Calls.{same_state, rename_refuses, delete_refuses}
use Rattle.tree_history.proofs.Theorems.{run_sound}
use Rattle.tree_history.proofs.Lives.{AllLive, live_carry, live_delete, live_rename, live_make, live_new}
use Rattle.tree_history.proofs.Moves.{Went, Refused, opens_outcome}
use Rattle.tree_history.proofs.Held.{held_out, given_back}

-- a directory is no file
apart : {P : Type 0} → Directory ≡ File → P
apart e = let z : ◌≡◌ {A = ℕ} 0 1 = cc in absurd (omega arith)

-- nothing put is nothing read
none_read : (l : List ℕ) (y : ℕ) → get_or (set l y 0) y 0 ≡ 0
none_read [] y = refl
none_read (a ∷ l) zero = refl
none_read (a ∷ l) (suc y) = none_read l y

module _ (s : State) (H : HeldLive s) where
  -- a record that is there after a put is the one that was put, or was there
  abbrev Where : (kind k : Kind) (x y : ℕ) → Type 0
  Where kind k x y = ((kind ≡ k) × (x ≡ y)) ⊎ ((kind ≡ k → x ≡ y → ⊥) × (opened (opens_of kind s) x ≡ 0 → ⊥))

  in_list : (kind : Kind) (x y r : ℕ) → (get_or (set (opens_of kind s) y r) x 0 ≡ 0 → ⊥) → Where kind kind x y
  unfolding opened
  in_list kind x y r h =
      ⊎_elim (λ (e : x ≡ y). inl (refl, e)) (λ (n : x ≢ y). inr (λ _ e. n e, λ z. h (get_or-set_other (opens_of kind s) y x r 0 n ∙ z))) (same_or x y)

  put : (kind k : Kind) (x y r : ℕ) (t : Tables) → (opened (opens_of kind (changed k s t (with_open (opens_of k s) y r))) x ≡ 0 → ⊥) → Where kind k x y
  unfolding opened with_open
  put Directory Directory x y r t h = in_list Directory x y r h
  put Directory File x y r t h = inr (λ e. apart e, h)
  put File Directory x y r t h = inr (λ e. apart (sym e), h)
  put File File x y r t h = in_list File x y r h

  -- the records as they were
  kept : (kind k : Kind) (t : Tables) (x : ℕ) → opened (opens_of kind (changed k s t (opens_of k s))) x ≡ opened (opens_of kind s) x
  kept Directory Directory t x = refl
  kept Directory File t x = refl
  kept File Directory t x = refl
  kept File File t x = refl

  -- where the tables keep every live entry: records as they were, or one put at an inode that is live then
  module _ (k : Kind) (t : Tables) (L : AllLive s.tables t) where
    pub left : HeldLive (changed k s t (opens_of k s))
    left kind x h = L kind x (H kind x (λ z. h (kept kind k t x ∙ z)))

    pub held : (y r : ℕ) → LiveIn (kind_view k t) y → HeldLive (changed k s t (with_open (opens_of k s) y r))
    held y r l kind x h =
        ⊎_elim
        (λ (e : (kind ≡ k) × (x ≡ y)). subst⁻¹ (λ (z : Kind). LiveIn (kind_view z t) x) e.0 (subst⁻¹ (λ z. LiveIn (kind_view k t) z) e.1 l))
        (λ (n : (kind ≡ k → x ≡ y → ⊥) × (opened (opens_of kind s) x ≡ 0 → ⊥)). L kind x (H kind x n.1))
        (put kind k x y r t h)

  none_at : (k : Kind) (t : Tables) (y : ℕ) → opened (opens_of k (changed k s t (with_open (opens_of k s) y 0))) y ≡ 0
  unfolding opened with_open
  none_at Directory t y = none_read s.dir_opens y
  none_at File t y = none_read s.file_opens y

  -- and where one is given up, of which nothing is open then
  pub given : (k : Kind) (t : Tables) (y : ℕ) → ((kind : Kind) (x : ℕ) → (kind ≡ k → x ≡ y → ⊥) → LiveIn (kind_view kind s.tables) x → LiveIn (kind_view kind t) x)
      → HeldLive (changed k s t (with_open (opens_of k s) y 0))
  given k t y L kind x h =
      ⊎_elim (λ (e : (kind ≡ k) × (x ≡ y)). absurd (h (nothing kind k x e.0 e.1)))
      (λ (n : (kind ≡ k → x ≡ y → ⊥) × (opened (opens_of kind s) x ≡ 0 → ⊥)). L kind x n.0 (H kind x n.1))
      (put kind k x y 0 t h)
    where
      nothing : (kind k : Kind) (x : ℕ) → kind ≡ k → x ≡ y → opened (opens_of kind (changed k s t (with_open (opens_of k s) y 0))) x ≡ 0
      nothing kind k x e q =
          subst⁻¹ (λ (z : Kind). opened (opens_of z (changed k s t (with_open (opens_of k s) y 0))) x ≡ 0) e
          (subst⁻¹ (λ z. opened (opens_of k (changed k s t (with_open (opens_of k s) y 0))) z ≡ 0) q (none_at k t y))

-- ---- the calls

all_same : (s : Tables) → AllLive s s
all_same s k y l = l

module _ (s : State) (W : Whole s.tables) (H : HeldLive s) (k : Kind) (work : List ℕ) where
  abbrev t : Tables
  t = s.tables

  abbrev opens : List ℕ
  opens = opens_of k s

  stays : HeldLive (changed k s t opens)
  stays = subst⁻¹ HeldLive (same_state k s) H

  open_lives : (y : ℕ) (want : Want) (o : Beside calls.Opening) → OpenPromise k t opens work y want o → HeldLive (changed k s t o.given.opens)
  open_lives y want o p =
      ⊎_elim
      (λ (w : Went t _ (calls.open_tests (kind_view k t) opens y want) (calls.open_done opens y want) o.given).
      subst⁻¹ (λ (g : calls.Opening). HeldLive (changed k s t g.opens)) w.is
      (held s H k t (all_same t) y (more (opened opens y) want) (live_stable (kind_view k t) y w.none.0)))
      (λ (r : Refused (λ a. calls.opening_gives a opens) o.given). subst⁻¹ (λ (g : calls.Opening). HeldLive (changed k s t g.opens)) r.is stays)
      (opens_outcome (λ a. calls.opening_gives a opens) t work (calls.open_done opens y want) o (calls.open_tests (kind_view k t) opens y want) refl k opens p)

  close_lives : (y : ℕ) (want : Want) (o : Beside calls.Opening) → ClosePromise k t opens work y want o → HeldLive (changed k s t o.given.opens)
  close_lives y want o p =
      ⊎_elim
      (λ (w : Went t _ (calls.close_tests (kind_view k t) opens y want) (calls.close_done opens y want) o.given).
      subst⁻¹ (λ (g : calls.Opening). HeldLive (changed k s t g.opens)) w.is
      (held s H k t (all_same t) y (less (opened opens y) want) (live_stable (kind_view k t) y w.none.0)))
      (λ (r : Refused (λ a. calls.opening_gives a opens) o.given). subst⁻¹ (λ (g : calls.Opening). HeldLive (changed k s t g.opens)) r.is stays)
      (opens_outcome (λ a. calls.opening_gives a opens) t work (calls.close_done opens y want) o (calls.close_tests (kind_view k t) opens y want) refl k opens p)

  delete_lives : (y : ℕ) (o : Beside calls.Change) → DeletePromise k t opens work y o → HeldLive (changed k s o.given.tables o.given.opens)
  delete_lives y o p =
      ⊎_elim
      (λ (w : Went t _ (calls.delete_tests k t opens y) (calls.delete_done k t opens y) o.given).
      subst⁻¹ (λ (g : calls.Change). HeldLive (changed k s g.tables g.opens)) w.is
      (given s H k (deleted k t y) y (λ kind x n l. live_delete t W k opens y (may_delete k t opens y w.none) kind x n l)))
      (λ (r : Refused (λ a. calls.change_gives a t opens) o.given). subst⁻¹ (λ (g : calls.Change). HeldLive (changed k s g.tables g.opens)) r.is stays)
      (opens_outcome (λ a. calls.change_gives a t opens) t work (calls.delete_done k t opens y) o (calls.delete_tests k t opens y) (delete_refuses k t opens y) k opens p)

  rename_lives : (y p : ℕ) (name : List ℕ) → AreBytes name → (o : Beside calls.Change) → RenamePromise k t opens work y p name o
      → HeldLive (changed k s o.given.tables o.given.opens)
  rename_lives y p name b o q =
      ⊎_elim
      (λ (w : Went t _ (calls.rename_tests k t opens y p name) (calls.rename_done k t opens y p name) o.given).
      subst⁻¹ (λ (g : calls.Change). HeldLive (changed k s g.tables g.opens)) w.is
      (left s H k (renamed k t y p name) (live_rename t W k y p name b (may_rename k t opens y p name w.none))))
      (λ (r : Refused (λ a. calls.change_gives a t opens) o.given). subst⁻¹ (λ (g : calls.Change). HeldLive (changed k s g.tables g.opens)) r.is stays)
      (opens_outcome (λ a. calls.change_gives a t opens) t work (calls.rename_done k t opens y p name) o (calls.rename_tests k t opens y p name)
      (rename_refuses k t opens y p name) k opens q)

  make_lives : (p : ℕ) (name bytes : List ℕ) → AreBytes name → AreBytes bytes → (o : Beside calls.Make) → MakePromise k t opens work p name bytes o
      → HeldLive (changed k s o.given.tables o.given.opens)
  make_lives p name bytes bn bb o q =
      ⊎_elim
      (λ (w : Went t _ (calls.make_tests t (kind_view k t) p name) (calls.make_done k t opens p name bytes) o.given).
      subst⁻¹ (λ (g : calls.Make). HeldLive (changed k s g.tables g.opens)) w.is
      (held s H k (made k t p name bytes) (live_make t W p name bytes bn bb k (may_make k t p name w.none)) (taken (kind_view k t)) writer_alone
      (live_new t W p name bytes bn bb k (may_make k t p name w.none))))
      (λ (r : Refused (λ a. calls.make_gives a 0 t opens) o.given). subst⁻¹ (λ (g : calls.Make). HeldLive (changed k s g.tables g.opens)) r.is stays)
      (opens_outcome (λ a. calls.make_gives a 0 t opens) t work (calls.make_done k t opens p name bytes) o (calls.make_tests t (kind_view k t) p name) refl k opens q)

  carry_lives : (y : ℕ) (bytes : List ℕ) → AreBytes bytes → (o : Beside calls.Carry) → SetCarriedPromise k t work y bytes o → AllLive t o.given.tables
  carry_lives y bytes b o =
      of_tree (λ (g : calls.Carry). AllLive t g.tables) (λ a. calls.carry_gives a t) t
      (record { misfit = all_same t; outside = all_same t; short = all_same t; broken = λ _. all_same t }) work (calls.carry_rows t (kind_view k t) y) (calls.carry_done k t y bytes) o
      (each_giving (λ (g : calls.Carry). AllLive t g.tables) (λ a. calls.carry_gives a t) (calls.live_tests (kind_view k t) y) (λ _. all_same t, tt))
      (λ _ n. live_carry t W k y bytes b (live_stable (kind_view k t) y n.0))

same_records : (s : State) (t : Tables) (kind : Kind) (x : ℕ) → opened (opens_of kind (state t s.dir_opens s.file_opens)) x ≡ opened (opens_of kind s) x
same_records s t Directory x = refl
same_records s t File x = refl

lives : (s : State) → Whole s.tables → HeldLive s → {a : Answer} {u : State} (c : Call s a u) → NoFormat c → HeldLive u
lives s W H (step.make k work p name bytes o bn bb q) n = make_lives s W H k work p name bytes bn bb o q
lives s W H (step.delete k work y o q) n = delete_lives s W H k work y o q
lives s W H (step.opening k work y want o q) n = open_lives s W H k work y want o q
lives s W H (step.closing k work y want o q) n = close_lives s W H k work y want o q
lives s W H (step.format dm fm o q) n = absurd n
lives s W H (step.test work o q) n = H
lives s W H (step.lookup k work p name o q) n = H
lives s W H (step.list k work y list o q) n = H
lives s W H (step.stat work o q) n = H
lives s W H (step.name_answer work k y o q) n = H
lives s W H (step.carried k work y o q) n = H
lives s W H (step.set_carried k work y bytes o b q) n =
    λ kind x h. carry_lives s W H k work y bytes b o q kind x (H kind x (λ z. h (same_records s o.given.tables kind x ∙ z)))
lives s W H (step.rename k work y p name o b q) n = rename_lives s W H k work y p name b o q

-- ---- the theorems

module _ (s : State) (W : Whole s.tables) (N : NoneOpen s) where
  -- open_live: over any history from whole tables and none open in which nothing is formatted, whatever has an open is live
  pub open_live : (t : State) (r : Run s t) → Unformatted r → HeldLive t
  open_live t run.none n = λ kind x h. absurd (h (N kind x))
  open_live t (run.calls u v a r c) n = lives u (run_sound s u W r) (open_live u r n.0) c n.1

  -- every_open: so every open that is out can be given back
  pub every_open : (t : State) (r : Run s t) → Unformatted r → (kind : Kind) (x : ℕ) (want : Want) → 0 < out r kind x want
      → (work : List ℕ) (o : Beside calls.Opening) → rooms_in t.tables ≤ length work → kind_room kind t.tables ≤ length (opens_of kind t)
      → ClosePromise kind t.tables (opens_of kind t) work x want o → o.given.answer ≡ Done
  every_open t r n kind x want h work o long full p =
      given_back s N kind x t r want work o h (run_sound s t W r) long full (open_live t r n kind x (some want h (held_out s N kind x t r want))) p
    where
      some : (want : Want) → 0 < out r kind x want → holds (opened (opens_of kind t) x) want ≡ out r kind x want → opened (opens_of kind t) x ≡ 0 → ⊥
      some Reader h e z = omega (arith, h, e, ap readers z)
      some Writer h e z = omega (arith, h, e, ap writer z)
