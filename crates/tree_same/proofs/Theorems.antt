-- Every call answers as it does with one record for each inode, over any run from none open in which no call was refused for a full list.
use mathlib.Core.Path.{◌≡◌, refl, sym, ap, subst, subst⁻¹}
use mathlib.Core.List.{List, [], ◌∷◌}
use Prim.Native.Nat.{ℕ, ◌≤◌}
use lib.ListN.{length}
use Rattle.order.specs.Beside.{Beside, beside}
use Rattle.order.specs.Answer.{Answer}
use Rattle.tree_sound.specs.Tables.{Tables}
use Rattle.tree_opens.specs.Opens.{opened}
use Rattle.tree_promises.specs.declared.Kind.{Kind}
use Rattle.tree_promises.specs.declared.Kind.TheVariants.{Directory, File}
use Rattle.tree_history.specs.Call as dense
use Rattle.tree_packed.specs.Opens.{Opens, opens, InOrder}
use Rattle.tree_same.specs.Alike.{Alike}
use Rattle.tree_same.specs.Asked.{Asked, asked_of, Asking}
use Rattle.tree_same.specs.Run as packed
use Rattle.tree_same.specs.Run.{State, Call, FullFor, asked_in, Run, DenseRun, Same, NoneOpen}
use Rattle.tree_same.proofs.Records.{none_alike}
use Rattle.tree_same.proofs.Calls.{Follows, same_open, same_close, same_make, same_rename, same_delete}

-- the records of a state, and one for each inode
pub record Linked (s : State) (d f : List ℕ) : Type 0 where
  pub dirs : Alike d s.dir_opens
  pub dirs_order : InOrder s.dir_opens
  pub files : Alike f s.file_opens
  pub files_order : InOrder s.file_opens

pub record Stepped (s u : State) (q : Asked) (a : Answer) (d f : List ℕ) : Type 0 where
  pub dirs_then : List ℕ
  pub files_then : List ℕ
  pub call : Asking q (dense.state s.tables d f) a (dense.state u.tables dirs_then files_then)
  pub linked : Linked u dirs_then files_then

-- a call with another name for its answer and its tables
renamed : (q : Asked) (s : dense.State) (a a' : Answer) (t t' : Tables) (d f : List ℕ) → a ≡ a' → t ≡ t' → Asking q s a' (dense.state t' d f)
    → Asking q s a (dense.state t d f)
renamed q s a a' t t' d f ea et c =
    subst⁻¹ (λ (z : Answer). Asking q s z (dense.state t d f)) ea (subst⁻¹ (λ (z : Tables). Asking q s a' (dense.state z d f)) et c)

-- a call is asked what it was asked
asking : {s u : dense.State} {a : Answer} (c : dense.Call s a u) → Asking (asked_of c) s a u
asking c = record { call = c; asks = refl }

module _ (s : State) (d f : List ℕ) (L : Linked s d f) where
  abbrev here : dense.State
  here = dense.state s.tables d f

  dir_step : (q : Asked) (u : Tables) (o : Opens) (a : Answer) (answer : Answer) (t : Tables) (d' : List ℕ) → a ≡ answer → u ≡ t → Alike d' o → InOrder o
      → Asking q here answer (dense.state t d' f) → Stepped s (packed.changed Directory s u o) q a d f
  dir_step q u o a answer t d' ea et A P c = record {
    dirs_then = d';
    files_then = f;
    call = renamed q here a answer u t d' f ea et c;
    linked = record { dirs = A; dirs_order = P; files = L.files; files_order = L.files_order };
  }

  file_step : (q : Asked) (u : Tables) (o : Opens) (a : Answer) (answer : Answer) (t : Tables) (f' : List ℕ) → a ≡ answer → u ≡ t → Alike f' o → InOrder o
      → Asking q here answer (dense.state t d f') → Stepped s (packed.changed File s u o) q a d f
  file_step q u o a answer t f' ea et A P c = record {
    dirs_then = d;
    files_then = f';
    call = renamed q here a answer u t d f' ea et c;
    linked = record { dirs = L.dirs; dirs_order = L.dirs_order; files = A; files_order = P };
  }

  pub step : {a : Answer} {u : State} (c : Call s a u) → (FullFor c → ⊥) → Stepped s u (asked_in c) a d f
  step (packed.opening Directory work x want o p) full =
      let r = same_open Directory s.tables s.dir_opens d L.dirs L.dirs_order work o x want full p in
      dir_step _ o.given.tables o.given.opens o.given.answer r.0.answer s.tables r.0.opens r.2.answers r.2.tabled r.2.alike r.2.order
      (asking (dense.opening Directory work x want (beside r.0 o.work) r.1))
  step (packed.opening File work x want o p) full =
      let r = same_open File s.tables s.file_opens f L.files L.files_order work o x want full p in
      file_step _ o.given.tables o.given.opens o.given.answer r.0.answer s.tables r.0.opens r.2.answers r.2.tabled r.2.alike r.2.order
      (asking (dense.opening File work x want (beside r.0 o.work) r.1))
  step (packed.closing Directory work x want o p) full =
      let r = same_close Directory s.tables s.dir_opens d L.dirs L.dirs_order work o x want p in
      dir_step _ o.given.tables o.given.opens o.given.answer r.0.answer s.tables r.0.opens r.2.answers r.2.tabled r.2.alike r.2.order
      (asking (dense.closing Directory work x want (beside r.0 o.work) r.1))
  step (packed.closing File work x want o p) full =
      let r = same_close File s.tables s.file_opens f L.files L.files_order work o x want p in
      file_step _ o.given.tables o.given.opens o.given.answer r.0.answer s.tables r.0.opens r.2.answers r.2.tabled r.2.alike r.2.order
      (asking (dense.closing File work x want (beside r.0 o.work) r.1))
  step (packed.make Directory work p name bytes o bn bb q) full =
      let r = same_make Directory s.tables s.dir_opens d L.dirs L.dirs_order work o p name bytes full q in
      dir_step _ o.given.tables o.given.opens o.given.answer r.0.answer r.0.tables r.0.opens r.2.answers r.2.tabled r.2.alike r.2.order
      (asking (dense.make Directory work p name bytes (beside r.0 o.work) bn bb r.1))
  step (packed.make File work p name bytes o bn bb q) full =
      let r = same_make File s.tables s.file_opens f L.files L.files_order work o p name bytes full q in
      file_step _ o.given.tables o.given.opens o.given.answer r.0.answer r.0.tables r.0.opens r.2.answers r.2.tabled r.2.alike r.2.order
      (asking (dense.make File work p name bytes (beside r.0 o.work) bn bb r.1))
  step (packed.rename Directory work x p name o b q) full =
      let r = same_rename Directory s.tables s.dir_opens d L.dirs L.dirs_order work o x p name q in
      dir_step _ o.given.tables o.given.opens o.given.answer r.0.answer r.0.tables r.0.opens r.2.answers r.2.tabled r.2.alike r.2.order
      (asking (dense.rename Directory work x p name (beside r.0 o.work) b r.1))
  step (packed.rename File work x p name o b q) full =
      let r = same_rename File s.tables s.file_opens f L.files L.files_order work o x p name q in
      file_step _ o.given.tables o.given.opens o.given.answer r.0.answer r.0.tables r.0.opens r.2.answers r.2.tabled r.2.alike r.2.order
      (asking (dense.rename File work x p name (beside r.0 o.work) b r.1))
  step (packed.delete Directory work x o q) full =
      let r = same_delete Directory s.tables s.dir_opens d L.dirs L.dirs_order work o x q in
      dir_step _ o.given.tables o.given.opens o.given.answer r.0.answer r.0.tables r.0.opens r.2.answers r.2.tabled r.2.alike r.2.order
      (asking (dense.delete Directory work x (beside r.0 o.work) r.1))
  step (packed.delete File work x o q) full =
      let r = same_delete File s.tables s.file_opens f L.files L.files_order work o x q in
      file_step _ o.given.tables o.given.opens o.given.answer r.0.answer r.0.tables r.0.opens r.2.answers r.2.tabled r.2.alike r.2.order
      (asking (dense.delete File work x (beside r.0 o.work) r.1))
  step (packed.other t a q c) full = record {
    dirs_then = d;
    files_then = f;
    call = c d f;
    linked = record { dirs = L.dirs; dirs_order = L.dirs_order; files = L.files; files_order = L.files_order };
  }

-- ---- runs

record Ran (start : dense.State) (calls : List Asked) (answers : List Answer) (u : State) : Type 0 where
  dirs_then : List ℕ
  files_then : List ℕ
  run : DenseRun start calls answers (dense.state u.tables dirs_then files_then)
  linked : Linked u dirs_then files_then

follow : (s : State) (d f : List ℕ) → Linked s d f → (calls : List Asked) (answers : List Answer) (u : State) → Run s calls answers u
    → Ran (dense.state s.tables d f) calls answers u
follow s d f L calls answers u packed.none = record { dirs_then = d; files_then = f; run = packed.none; linked = L }
follow s d f L calls answers u (packed.next before done t v a r c full) =
    let q = follow s d f L before done t r in
    let n = step t q.dirs_then q.files_then q.linked c full in
    record {
      dirs_then = n.dirs_then;
      files_then = n.files_then;
      run = packed.next before done (dense.state t.tables q.dirs_then q.files_then) (dense.state v.tables n.dirs_then n.files_then) (asked_in c) a q.run n.call;
      linked = n.linked;
    }

-- a list with no records
pub none_there : (d : List ℕ) (o : Opens) → o.count ≡ 0 → 65536 ≤ length d → ((x : ℕ) → opened d x ≡ 0) → Alike d o × InOrder o
none_there d o e h z = subst⁻¹ (λ (k : ℕ). Alike d (opens k o.list) × InOrder (opens k o.list)) e (none_alike d o.list h z)

-- same_run: over any run of calls from none open, none of which was refused for a full list, the same calls over one record for each inode give the same
-- answers, and the tables and records are the same at its end
pub same_run : (s : State) (t : dense.State) → NoneOpen s t → (calls : List Asked) (answers : List Answer) (u : State) → Run s calls answers u
    → (v : dense.State) × DenseRun t calls answers v × Same u v
same_run s t N calls answers u r =
    let a = none_there t.dir_opens s.dir_opens N.no_dirs N.dir_places N.dirs in
    let b = none_there t.file_opens s.file_opens N.no_files N.file_places N.files in
    let q = follow s t.dir_opens t.file_opens (record { dirs = a.0; dirs_order = a.1; files = b.0; files_order = b.1 }) calls answers u r in (
      dense.state u.tables q.dirs_then q.files_then,
      subst⁻¹ (λ (z : Tables). DenseRun (dense.state z t.dir_opens t.file_opens) calls answers (dense.state u.tables q.dirs_then q.files_then)) N.tables q.run,
      record { tables = refl; dirs = q.linked.dirs; files = q.linked.files },
    )
