-- Any run of calls over packed lists from none open is a history over one record for each inode, without the calls that were refused for a full list: they
-- change nothing. So what is said of those histories (crate tree_history) is said of the tables and records of these.
use mathlib.Core.Path.{◌≡◌, refl, sym, ap, subst, subst⁻¹}
use mathlib.Core.List.{List, [], ◌∷◌, ◌++◌}
use mathlib.Core.Logic.{◌⊎◌, inl, inr, ⊎_elim}
use Prim.Native.Nat.{ℕ, ◌+◌, ◌*◌, ◌<◌}
use native.Mathlib.Decide.{dec_lt}
use lib.ListN.{length}
use Rattle.order.specs.First.{Row, row}
use Rattle.order.specs.Given.{Given, None}
use Rattle.order.specs.Beside.{Beside, beside}
use Rattle.order.specs.Answer.{Answer}
use Rattle.order.specs.Answer.{TooManyOpens}
use Rattle.links.proofs.Held.{same_or}
use Rattle.tree_table.specs.Steps.{taken}
use Rattle.tree_sound.specs.Tables.{Tables}
use Rattle.tree_packed.specs.Packed.{rec}
use Rattle.tree_packed.specs.Opens.{Opens, NoPlace}
use Rattle.tree_promises.specs.declared.Kind.{Kind}
use Rattle.tree_promises.specs.declared.Kind.TheVariants.{Directory, File}
use Rattle.tree_promises.specs.Kinds.{kind_view}
use Rattle.tree_promises.specs.Promise.{worked}
use Rattle.tree_promises.specs.Calls.{make_tests}
use Rattle.tree_promises.specs.Packed as packed
use Rattle.tree_promises.specs.Packed.{Outcome, refuse, PackedPromise}
use Rattle.tree_history.specs.Call as dense
use Rattle.tree_history.specs.Run as history
use Rattle.tree_same.specs.Run as run
use Rattle.tree_same.specs.Run.{State, Call, asked_in, AnyRun, Same, NoneOpen, opens_of, changed}
use Rattle.tree_same.proofs.Same.{split}
use Rattle.tree_same.proofs.Calls.{none_back}
use Rattle.tree_same.proofs.Theorems.{Linked, Stepped, step, none_there}

-- a list is full for an inode, or it is not
placed : (o : Opens) (x : ℕ) → NoPlace o x ⊎ (NoPlace o x → ⊥)
placed o x = ⊎_elim (λ e. by e (dec_lt (length o.list) (2 * (o.count + 1)))) (λ n. inr (λ q. n q.0)) (same_or (rec o.count o.list x) 0)
  where
    by : rec o.count o.list x ≡ 0 → Dec (length o.list < 2 * (o.count + 1)) → NoPlace o x ⊎ (NoPlace o x → ⊥)
    by e (yes h) = inl (e, h)
    by e (no h) = inr (λ q. h q.1)

-- a call of which some test applies refuses, and changes nothing
stays : (s : Tables) (o : Opens) (work : List ℕ) (tests : List (Row Answer)) (done : Outcome) (g : Beside Outcome) → PackedPromise s o work tests done g
    → (None tests → ⊥) → (a : Answer) × (g.given ≡ refuse s o a)
unfolding PackedPromise
stays s o work tests done g (inl p) n = (_, ap (λ (z : Beside Outcome). z.given) p.1)
stays s o work tests done g (inr (m, inl p)) n = (_, ap (λ (z : Beside Outcome). z.given) p.1)
stays s o work tests done g (inr (m, inr (i, inl p))) n = (_, ap (λ (z : Beside Outcome). z.given) p.1)
stays s o work tests done g (inr (m, inr (i, inr (w, inl p)))) n = (_, ap (λ (z : Beside Outcome). z.given) p.1)
stays s o work tests done g (inr (m, inr (i, inr (w, inr (u, p))))) n =
    ⊎_elim (λ (q : None tests × (g ≡ beside done (worked s work))). absurd (n q.0))
    (λ (q : (a : Answer) × Given tests a × (g ≡ beside (refuse s o a) (worked s work))). (q.0, ap (λ (z : Beside Outcome). z.given) q.2))
    (split (refuse s o) done (worked s work) g tests p)

same_state : (kind : Kind) (s : State) (g : Outcome) → (a : Answer) × (g ≡ refuse s.tables (opens_of kind s) a) → changed kind s g.tables g.opens ≡ s
same_state Directory s g (a, e) = ap (λ (z : Outcome). changed Directory s z.tables z.opens) e
same_state File s g (a, e) = ap (λ (z : Outcome). changed File s z.tables z.opens) e

module _ (s : State) (d f : List ℕ) (L : Linked s d f) where
  -- a call stays where it is, or is the same call over one record for each inode
  any_step : {a : Answer} {u : State} (c : Call s a u) → (u ≡ s) ⊎ Stepped s u (asked_in c) a d f
  any_step (run.opening kind work x want o p) =
      ⊎_elim
      (λ (q : NoPlace (opens_of kind s) x). inl (same_state kind s o.given (stays s.tables (opens_of kind s) work (packed.open_tests kind s.tables (opens_of kind s) x want) (packed.open_done kind s.tables (opens_of kind s) x want) o p (λ n. n.1.0 q))))
      (λ (no : NoPlace (opens_of kind s) x → ⊥). inr (step s d f L (run.opening kind work x want o p) (λ q. no q.1)))
      (placed (opens_of kind s) x)
  any_step (run.make kind work p name bytes o bn bb q) =
      ⊎_elim
      (λ (h : NoPlace (opens_of kind s) (taken (kind_view kind s.tables))). inl (same_state kind s o.given (stays s.tables (opens_of kind s) work (packed.make_tests kind s.tables (opens_of kind s) p name) (packed.make_done kind s.tables (opens_of kind s) p name bytes) o q
      (λ n. (none_back (make_tests s.tables (kind_view kind s.tables) p name) (row (NoPlace (opens_of kind s) (taken (kind_view kind s.tables))) TooManyOpens ∷ []) n).0 h))))
      (λ (no : NoPlace (opens_of kind s) (taken (kind_view kind s.tables)) → ⊥). inr (step s d f L (run.make kind work p name bytes o bn bb q) (λ h. no h.1)))
      (placed (opens_of kind s) (taken (kind_view kind s.tables)))
  any_step (run.closing kind work x want o p) = inr (step s d f L (run.closing kind work x want o p) (λ q. q))
  any_step (run.rename kind work x p name o b q) = inr (step s d f L (run.rename kind work x p name o b q) (λ q. q))
  any_step (run.delete kind work x o p) = inr (step s d f L (run.delete kind work x o p) (λ q. q))
  any_step (run.other t a q c) = inr (step s d f L (run.other t a q c) (λ q. q))

record Ran (start : dense.State) (u : State) : Type 0 where
  dirs_then : List ℕ
  files_then : List ℕ
  ran : history.Run start (dense.state u.tables dirs_then files_then)
  linked : Linked u dirs_then files_then

follow : (s : State) (d f : List ℕ) → Linked s d f → (u : State) → AnyRun s u → Ran (dense.state s.tables d f) u
follow s d f L u run.none = record { dirs_then = d; files_then = f; ran = history.none; linked = L }
follow s d f L u (run.next t v a r c) =
    let q = follow s d f L t r in
    ⊎_elim
    (λ (e : v ≡ t). subst⁻¹ (λ (z : State). Ran (dense.state s.tables d f) z) e q)
    (λ (n : Stepped t v (asked_in c) a q.dirs_then q.files_then). record {
      dirs_then = n.dirs_then;
      files_then = n.files_then;
      ran = history.calls (dense.state t.tables q.dirs_then q.files_then) (dense.state v.tables n.dirs_then n.files_then) a q.ran n.call.call;
      linked = n.linked;
    })
    (any_step t q.dirs_then q.files_then q.linked c)

-- any_run: whatever is called over packed lists from none open, there is a history over one record for each inode that ends with the same tables and records
pub any_run : (s : State) (t : dense.State) → NoneOpen s t → (u : State) → AnyRun s u → (v : dense.State) × history.Run t v × Same u v
any_run s t N u r =
    let a = none_there t.dir_opens s.dir_opens N.no_dirs N.dir_places N.dirs in
    let b = none_there t.file_opens s.file_opens N.no_files N.file_places N.files in
    let q = follow s t.dir_opens t.file_opens (record { dirs = a.0; dirs_order = a.1; files = b.0; files_order = b.1 }) u r in (
      dense.state u.tables q.dirs_then q.files_then,
      subst⁻¹ (λ (z : Tables). history.Run (dense.state z t.dir_opens t.file_opens) (dense.state u.tables q.dirs_then q.files_then)) N.tables q.ran,
      record { tables = refl; dirs = q.linked.dirs; files = q.linked.files },
    )
