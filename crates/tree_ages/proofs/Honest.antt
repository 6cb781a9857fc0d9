-- Tables that are alike are aged together: one half of which trees an honest writer leaves.
use mathlib.Core.Path.{◌≡◌, refl, sym, ap, ◌∙◌, subst, subst⁻¹}
use mathlib.Core.List.{List, [], ◌∷◌}
use mathlib.Core.Logic.{◌⊎◌, inl, inr, ⊎_elim, ◌≢◌}
use mathlib.Core.Bool.{true}
use Prim.Native.Nat.{ℕ, ◌≤◌, ◌<◌}
use native.Mathlib.Omega.{arith}
use lib.ListN.{length}
use Rattle.order.specs.Answer.{Done}
use Rattle.links.specs.Links.{◌∈◌, Links}
use Rattle.links.proofs.Laws.{walked, fewer, kept}
use Rattle.tree_table.specs.Field.{field}
use Rattle.tree_table.specs.View.{LiveIn, key_at, removed_of}
use Rattle.tree_sound.specs.Sound.{Table}
use Rattle.tree_sound.specs.Tables.{Tables, dirs, files}
use Rattle.tree_promises.specs.Inner.Ready.{Ready, LiveAt, alone}
use Rattle.tree_promises.specs.Legal.{legal}
use Rattle.tree_promises.specs.Calls.{Carry}
use Rattle.tree_promises.specs.Format.{FormatPromise}
use Rattle.tree_history.specs.Whole.{Lent, Whole}
use Rattle.tree_history.specs.Call.{State, state}
use Rattle.tree_history.specs.Run.{Run}
use Rattle.tree_history.specs.Names.{AllLegal, name_in}
use Rattle.tree_history.proofs.Sizes.{fine}
use Rattle.tree_history.proofs.Theorems.{format_legal}
use Rattle.tree_aged.specs.Age.{Names, Newer, one, more, Aged}
use Rattle.tree_aged.specs.Inner.Walk.{coll_of, next_of, Fits}
use Rattle.tree_aged.proofs.Public.{dirs_fit, files_fit}
use Rattle.tree_ages.specs.Alike.{SameTable, Alike}
use Rattle.tree_ages.proofs.Theorems.{run_aged}

module _ (w : ℕ) (h t h' t' work : List ℕ) (S : SameTable w h t h' t') (F : Fits w t work) (links : Links (coll_of w t) (field w t 0 0) (removed_of (alone w t)))
    (below : (y : ℕ) → y ∈ removed_of (alone w t) → y < field w t 0 1) where
  removed_same : removed_of (alone w t') ≡ removed_of (alone w t)
  removed_same =
      let few : length (removed_of (alone w t)) < field w t 0 1 = fewer (coll_of w t) (field w t 0 1) (field w t 0 0) (removed_of (alone w t)) F.some links below in
      walked (coll_of w t') (field w t' 0 1) (field w t' 0 0) (removed_of (alone w t))
      (subst⁻¹ (λ (z : ℕ). Links (coll_of w t') z (removed_of (alone w t))) S.first
      (kept (coll_of w t) (coll_of w t') (field w t 0 0) (removed_of (alone w t)) S.removed links))
      (omega (arith, few, S.count))

  live_too : (y : ℕ) → LiveAt w t y → LiveAt w t' y
  live_too y l = (l.0, subst⁻¹ (λ (n : ℕ). y < n) S.count l.1, λ m. l.2 (subst (λ (r : List ℕ). y ∈ r) removed_same m))

  -- what a live entry names it names in both
  names_too : (x y : ℕ) → LiveAt w t x → Names (coll_of w t) (next_of w t) x y → Names (coll_of w t') (next_of w t') x y × LiveAt w t y
  names_too x y l (p, inl e) =
      ((p, inl (S.live x 0 l (omega (arith, F.wide)) ∙ e)), subst (λ (z : ℕ). LiveAt w t z) e (F.coll x l (subst⁻¹ (λ (z : ℕ). 0 < z) e p)))
  names_too x y l (p, inr e) =
      ((p, inr (S.live x 6 l (omega (arith, F.wide)) ∙ e)), subst (λ (z : ℕ). LiveAt w t z) e (F.next x l (subst⁻¹ (λ (z : ℕ). 0 < z) e p)))

  newer_too : {x z : ℕ} → Newer (coll_of w t) (next_of w t) x z → LiveAt w t x → Newer (coll_of w t') (next_of w t') x z
  newer_too (one x y n) l = one x y (names_too x y l n).0
  newer_too (more x y z n r) l = let q = names_too x y l n in more x y z q.0 (newer_too r q.1)

  key_too : (y : ℕ) → LiveAt w t y → key_at (field w t') y ≡ key_at (field w t) y
  key_too y l =
      let f : (g : ℕ) → g ≤ 5 → field w t' y g ≡ field w t y g = λ g b. S.live y g l (omega (arith, F.wide, b)) in
      λ i. f 1 (omega arith) i ∷ f 2 (omega arith) i ∷ f 3 (omega arith) i ∷ f 4 (omega arith) i ∷ f 5 (omega arith) i ∷ []

  circle_too : ((x : ℕ) → LiveAt w t' x → Newer (coll_of w t') (next_of w t') x x → ⊥) → (x : ℕ) → LiveAt w t x → Newer (coll_of w t) (next_of w t) x x → ⊥
  circle_too none x l r = none x (live_too x l) (newer_too r l)

  legal_too : (root : ℕ) → ((x : ℕ) → LiveAt w t' x → (x ≡ root → ⊥) → legal (name_in (key_at (field w t') x)) ≡ true)
      → (x : ℕ) → LiveAt w t x → (x ≡ root → ⊥) → legal (name_in (key_at (field w t) x)) ≡ true
  legal_too root L x l n = ap (λ k. legal (name_in k)) (sym (key_too x l)) ∙ L x (live_too x l) n

-- honest_aged: whole tables that are equal, in every field that the rules read, to what some history from a format leaves are aged, and have legal names
-- alone
pub honest_aged : (s : Tables) → Whole s → (start u : State) (dm fm : ℕ) (o : Carry) → Lent start.tables → FormatPromise start.tables dm fm o
    → o.answer ≡ Done → Run (state o.tables start.dir_opens start.file_opens) u → Alike s u.tables → Aged (dirs s) (files s) × AllLegal s
honest_aged s w start u dm fm o L p e r S =
    let Q = fine s w in
    let R : Ready s = record { dir_buckets = Q.dir_some; file_buckets = Q.file_some; few_dirs = Q.dir_few; few_files = Q.file_few; sound = w.sound } in
    let A = run_aged start u dm fm o L p e r in
    let N = format_legal start u dm fm o L p e r in
    let d = w.sound.dirs.below.table in
    let f = w.sound.files.table in (
      record {
        of_dirs = circle_too 40 s.dir_hash s.dir_table u.tables.dir_hash u.tables.dir_table _ S.of_dirs (dirs_fit s R) d.removed d.removed_below A.of_dirs;
        of_files = circle_too 48 s.file_hash s.file_table u.tables.file_hash u.tables.file_table _ S.of_files (files_fit s R) f.removed f.removed_below A.of_files;
        root_last = sym (S.of_dirs.live 1 0 w.sound.dirs.root_live (omega arith)) ∙ A.root_last;
      },
      record {
        of_dirs = legal_too 40 s.dir_hash s.dir_table u.tables.dir_hash u.tables.dir_table _ S.of_dirs (dirs_fit s R) d.removed d.removed_below 1 N.of_dirs;
        of_files = legal_too 48 s.file_hash s.file_table u.tables.file_hash u.tables.file_table _ S.of_files (files_fit s R) f.removed f.removed_below 0 N.of_files;
      },
    )
