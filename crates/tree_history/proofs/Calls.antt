-- Every call that changes tables or open records, from its promise; of directories and files alike.
use mathlib.Core.Path.{◌≡◌, refl, subst⁻¹}
use mathlib.Core.Bool.{true}
use mathlib.Core.List.{List, []}
use Prim.Native.Nat.{ℕ}
use Rattle.order.specs.Beside.{Beside}
use Rattle.order.specs.Answer.{Answer}
use Rattle.order.specs.Answer.{Done}
use Rattle.words.specs.Word.{AreBytes}
use Rattle.tree_table.specs.View.{LiveIn}
use Rattle.tree_sound.specs.Tables.{Tables, SoundIn}
use Rattle.tree_opens.specs.declared.Want.{Want}
use Rattle.tree_promises.specs.declared.Kind.{Kind}
use Rattle.tree_promises.specs.declared.Kind.TheVariants.{Directory, File}
use Rattle.tree_promises.specs.Kinds.{kind_view}
use Rattle.tree_promises.specs.Steps.{with_carried, made, deleted, renamed}
use Rattle.tree_promises.specs.Calls as calls
use Rattle.tree_promises.specs.Public.{SetCarriedPromise, MakePromise, RenamePromise, DeletePromise, OpenPromise, ClosePromise}
use Rattle.tree_kept.proofs.Kept.{
  kept_make_dir,
  kept_make_file,
  kept_delete_dir,
  kept_delete_file,
  kept_rename_dir,
  kept_rename_file,
  kept_carry_dir,
  kept_carry_file,
}
use Rattle.tree_history.specs.Whole.{Lent, Whole}
use Rattle.tree_history.specs.Call.{State, state, opens_of, changed}
use Rattle.tree_history.specs.May.{MayMake, MayRename, MayDelete}
use Rattle.tree_history.proofs.Stable.{live_stable}
use Rattle.tree_history.proofs.May.{may_make, may_rename, rename_named, may_delete}
use Rattle.tree_history.proofs.Names.{legal_sure, legal_make, legal_rename, legal_delete, legal_carry}
use Rattle.tree_history.proofs.Sizes.{are_bytes, whole_step, fine, after_wrote}
use Rattle.tree_history.proofs.Steps.{after_carried, after_made, after_deleted, after_renamed}
use Rattle.tree_history.proofs.Good.{Good, Refusals, good_done, good_tree, good_opens}

-- ---- what may go keeps the tables sound

module _ (s : Tables) (w : Whole s) where
  kept_make : (kind : Kind) (p : ℕ) (name bytes : List ℕ) → AreBytes name → AreBytes bytes → MayMake kind s p name → SoundIn (made kind s p name bytes)
  kept_make Directory p name bytes bn bb m =
      kept_make_dir s (fine s w) w.sound p name bytes (are_bytes name bn) (are_bytes bytes bb) m.parent m.new_key m.space
  kept_make File p name bytes bn bb m =
      kept_make_file s (fine s w) w.sound p name bytes (are_bytes name bn) (are_bytes bytes bb) m.parent m.new_key m.space

  kept_rename : (kind : Kind) (x p : ℕ) (name : List ℕ) → AreBytes name → MayRename kind s x p name → SoundIn (renamed kind s x p name)
  kept_rename Directory x p name bn m =
      kept_rename_dir s (fine s w) w.sound x p name (are_bytes name bn) m.subject (m.not_root refl) m.parent (m.not_into_itself refl) m.free_key
  kept_rename File x p name bn m = kept_rename_file s (fine s w) w.sound x p name (are_bytes name bn) m.subject m.parent m.free_key

  kept_delete : (kind : Kind) (opens : List ℕ) (x : ℕ) → MayDelete kind s opens x → SoundIn (deleted kind s x)
  kept_delete Directory opens x m = kept_delete_dir s (fine s w) w.sound x m.subject (m.not_root refl) (m.childless refl)
  kept_delete File opens x m = kept_delete_file s (fine s w) w.sound x m.subject

  kept_carry : (kind : Kind) (x : ℕ) (bytes : List ℕ) → AreBytes bytes → LiveIn (kind_view kind s) x → SoundIn (with_carried kind s x bytes)
  kept_carry Directory x bytes bb l = kept_carry_dir s (fine s w) w.sound x bytes (are_bytes bytes bb) l
  kept_carry File x bytes bb l = kept_carry_file s (fine s w) w.sound x bytes (are_bytes bytes bb) l

-- ---- their rows refuse

pub rename_refuses : (kind : Kind) (s : Tables) (opens : List ℕ) (x p : ℕ) (name : List ℕ) → Refusals (calls.rename_tests kind s opens x p name) ≡ true
rename_refuses Directory s opens x p name = refl
rename_refuses File s opens x p name = refl

pub delete_refuses : (kind : Kind) (s : Tables) (opens : List ℕ) (x : ℕ) → Refusals (calls.delete_tests kind s opens x) ≡ true
delete_refuses Directory s opens x = refl
delete_refuses File s opens x = refl

-- ---- the calls

-- a state with its own tables and open records
pub same_state : (kind : Kind) (s : State) → changed kind s s.tables (opens_of kind s) ≡ s
same_state Directory s = refl
same_state File s = refl

module _ (s : State) (L : Lent s.tables) (work : List ℕ) (kind : Kind) where
  abbrev t : Tables
  t = s.tables

  abbrev opens : List ℕ
  opens = opens_of kind s

  unchanged : (a : Answer) → Good s a s → Good s a (changed kind s t opens)
  unchanged a g = subst⁻¹ (λ (u : State). Good s a u) (same_state kind s) g

  pub good_make : (p : ℕ) (name bytes : List ℕ) → AreBytes name → AreBytes bytes → (o : Beside calls.Make) → MakePromise kind t opens work p name bytes o
      → Good s o.given.answer (changed kind s o.given.tables o.given.opens)
  good_make p name bytes bn bb o =
      good_opens s L (λ (x : calls.Make). x.answer) (λ (x : calls.Make). changed kind s x.tables x.opens) (λ a. calls.make_gives a 0 t opens) unchanged
      work (calls.make_tests t (kind_view kind t) p name) (calls.make_done kind t opens p name bytes) o refl
      (λ w n.
      good_done s (changed kind s (made kind t p name bytes) (calls.make_done kind t opens p name bytes).opens)
      (whole_step t w (made kind t p name bytes) (after_made kind t p name bytes) (kept_make t w kind p name bytes bn bb (may_make kind t p name n)))
      (λ a. legal_make t w a kind p name bytes bn bb (may_make kind t p name n)))
      kind opens

  pub good_rename : (x p : ℕ) (name : List ℕ) → AreBytes name → (o : Beside calls.Change) → RenamePromise kind t opens work x p name o
      → Good s o.given.answer (changed kind s o.given.tables o.given.opens)
  good_rename x p name bn o =
      good_opens s L (λ (x : calls.Change). x.answer) (λ (x : calls.Change). changed kind s x.tables x.opens) (λ a. calls.change_gives a t opens) unchanged
      work (calls.rename_tests kind t opens x p name) (calls.rename_done kind t opens x p name) o (rename_refuses kind t opens x p name)
      (λ w n.
      good_done s (changed kind s (renamed kind t x p name) opens)
      (whole_step t w (renamed kind t x p name) (after_renamed kind t x p name) (kept_rename t w kind x p name bn (may_rename kind t opens x p name n)))
      (λ a. legal_rename t w a kind x p name bn (may_rename kind t opens x p name n) (legal_sure name (rename_named kind t opens x p name n))))
      kind opens

  pub good_delete : (x : ℕ) (o : Beside calls.Change) → DeletePromise kind t opens work x o
      → Good s o.given.answer (changed kind s o.given.tables o.given.opens)
  good_delete x o =
      good_opens s L (λ (x : calls.Change). x.answer) (λ (x : calls.Change). changed kind s x.tables x.opens) (λ a. calls.change_gives a t opens) unchanged
      work (calls.delete_tests kind t opens x) (calls.delete_done kind t opens x) o (delete_refuses kind t opens x)
      (λ w n.
      good_done s (changed kind s (deleted kind t x) (calls.delete_done kind t opens x).opens)
      (whole_step t w (deleted kind t x) (after_deleted kind t x) (kept_delete t w kind opens x (may_delete kind t opens x n)))
      (λ a. legal_delete t w a kind opens x (may_delete kind t opens x n)))
      kind opens

  -- a call that leaves the tables as they were
  counted : (u : List ℕ) → Whole t → Good s Done (changed kind s t u)
  counted u w = good_done s (changed kind s t u) (whole_step t w t (after_wrote t [] [] [] []) w.sound) (λ a. a)

  pub good_open : (x : ℕ) (want : Want) (o : Beside calls.Opening) → OpenPromise kind t opens work x want o
      → Good s o.given.answer (changed kind s t o.given.opens)
  good_open x want o =
      good_opens s L (λ (x : calls.Opening). x.answer) (λ (x : calls.Opening). changed kind s t x.opens) (λ a. calls.opening_gives a opens) unchanged work
      (calls.open_tests (kind_view kind t) opens x want) (calls.open_done opens x want) o refl (λ w n. counted (calls.open_done opens x want).opens w) kind opens

  pub good_close : (x : ℕ) (want : Want) (o : Beside calls.Opening) → ClosePromise kind t opens work x want o
      → Good s o.given.answer (changed kind s t o.given.opens)
  good_close x want o =
      good_opens s L (λ (x : calls.Opening). x.answer) (λ (x : calls.Opening). changed kind s t x.opens) (λ a. calls.opening_gives a opens) unchanged work
      (calls.close_tests (kind_view kind t) opens x want) (calls.close_done opens x want) o refl (λ w n. counted (calls.close_done opens x want).opens w) kind opens

  -- carried bytes
  pub good_set_carried : (x : ℕ) (bytes : List ℕ) → AreBytes bytes → (o : Beside calls.Carry) → SetCarriedPromise kind t work x bytes o
      → Good s o.given.answer (state o.given.tables s.dir_opens s.file_opens)
  good_set_carried x bytes bb o =
      good_tree s L (λ (x : calls.Carry). x.answer) (λ (x : calls.Carry). state x.tables s.dir_opens s.file_opens) (λ a. calls.carry_gives a t) (λ a g. g)
      work (calls.live_tests (kind_view kind t) x) (calls.carry_done kind t x bytes) o refl
      (λ w n.
      good_done s (state (with_carried kind t x bytes) s.dir_opens s.file_opens)
      (whole_step t w (with_carried kind t x bytes) (after_carried kind t x bytes) (kept_carry t w kind x bytes bb (live_stable (kind_view kind t) x n.0)))
      (λ a. legal_carry t w a kind x bytes bb (live_stable (kind_view kind t) x n.0)))
