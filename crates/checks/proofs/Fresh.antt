-- Entry tables that hold the root alone are sound.
use mathlib.Core.Path.{◌≡◌, refl, sym, ap, subst, ◌∙◌}
use mathlib.Core.List.{List, [], ◌∷◌}
use mathlib.Core.Logic.{◌⊎◌, inl, inr, ⊎_elim}
use Prim.Native.Nat.{ℕ, zero, suc, ◌<◌, ◌≤◌}
use native.Mathlib.Omega.{arith}
use Rattle.links.specs.Links.{◌∈◌, Distinct, Links, Holds}
use Rattle.links.specs.Change.{walk}
use Rattle.links.proofs.Held.{same_or}
use Rattle.tree_table.specs.View.{View, parent, place, removed_of, LiveIn, Reaches}
use Rattle.tree_sound.specs.Sound.{Table, Sound, up}

walk_none : (next : ℕ → ℕ) (k x : ℕ) → x ≡ 0 → walk next k x ≡ []
walk_none next zero x e = refl
walk_none next (suc k) zero e = refl
walk_none next (suc k) (suc x) e = let z : ⊥ = omega (arith, e) in absurd z

-- none is removed
module _ (v : View) (none : v.coll 0 ≡ 0) where
  removed_none : removed_of v ≡ []
  removed_none = walk_none v.coll v.count (v.coll 0) none

  pub not_removed : (y : ℕ) → y ∈ removed_of v → ⊥
  not_removed y m = subst (λ (l : List ℕ). y ∈ l) removed_none m

  pub removed_links : Links v.coll (v.coll 0) (removed_of v)
  removed_links = subst (λ (l : List ℕ). Links v.coll (v.coll 0) l) (sym removed_none) none

  pub removed_once : Distinct (removed_of v)
  removed_once = subst (λ (l : List ℕ). Distinct l) (sym removed_none) tt

-- a list of none
pub holds_none : (next : ℕ → ℕ) (h : ℕ) (P : ℕ → Type 0) → h ≡ 0 → ((y : ℕ) → P y → ⊥) → Holds next h P
holds_none next h P e no_one = ([], e, λ y. (λ m. absurd m, λ p. no_one y p))

-- a list of one entry
pub holds_one : (next : ℕ → ℕ) (h x : ℕ) (P : ℕ → Type 0) → h ≡ x → 0 < x → next x ≡ 0 → P x → ((y : ℕ) → P y → y ≡ x) → Holds next h P
holds_one next h x P e some end p only = (
  x ∷ [],
  (e, some, end),
  λ y. (λ m. ⊎_elim (λ q. subst P (sym q) p) (λ z. absurd z) m, λ q. inl (only y q)),
)

-- a table of files with none in it
pub record NoFiles (F : View) : Type 0 where
  pub max : (1 ≤ F.maximum) × (F.maximum ≤ F.room)
  pub count : F.count ≡ 1
  pub removed : F.coll 0 ≡ 0
  pub hash : (b : ℕ) → b < F.buckets → F.hash b ≡ 0

module _ (F : View) (w : NoFiles F) where
  pub no_live : (y : ℕ) → LiveIn F y → ⊥
  no_live y l = omega (arith, l.0, l.1, w.count)

  pub no_files : Table F
  no_files =
      record {
        max_room = w.max.1;
        count_one = omega (arith, w.count);
        count_max = omega (arith, w.count, w.max);
        removed = removed_links F w.removed;
        removed_once = removed_once F w.removed;
        removed_below = λ y m. absurd (not_removed F w.removed y m);
        bucket = λ b h. holds_none F.coll (F.hash b) (λ y. LiveIn F y × (place F (F.key y) ≡ b)) (w.hash b h) (λ y q. no_live y q.0);
        keys = λ y z l m e. absurd (no_live y l);
      }

-- tables with the root alone
pub record Fresh (D F : View) : Type 0 where
  pub max : (2 ≤ D.maximum) × (D.maximum ≤ D.room)
  pub count : D.count ≡ 2
  pub removed : D.coll 0 ≡ 0
  pub coll : D.coll 1 ≡ 0
  pub key : D.key 1 ≡ 0 ∷ 0 ∷ 0 ∷ 0 ∷ 0 ∷ []
  pub next : D.next 1 ≡ 0
  pub sub_dirs : D.head 1 ≡ 0
  pub sub_files : F.head 1 ≡ 0
  pub here : D.hash (place D (D.key 1)) ≡ 1
  pub else : (b : ℕ) → b < D.buckets → (b ≡ place D (D.key 1) → ⊥) → D.hash b ≡ 0
  pub files : NoFiles F

module _ (D F : View) (w : Fresh D F) where
  only : (y : ℕ) → LiveIn D y → y ≡ 1
  only y l = omega (arith, l.0, l.1, w.count)

  root_live : LiveIn D 1
  root_live = (omega arith, omega (arith, w.count), not_removed D w.removed 1)

  root_up : up D 1 ≡ 0
  root_up = ap parent w.key

  bucket : (b : ℕ) → b < D.buckets → Holds D.coll (D.hash b) (λ y. LiveIn D y × (place D (D.key y) ≡ b))
  bucket b h =
      ⊎_elim
      (λ e.
      holds_one D.coll (D.hash b) 1 (λ y. LiveIn D y × (place D (D.key y) ≡ b)) (ap D.hash e ∙ w.here) (omega arith) w.coll
      (root_live, sym e) (λ y q. only y q.0))
      (λ ne.
      holds_none D.coll (D.hash b) (λ y. LiveIn D y × (place D (D.key y) ≡ b)) (w.else b h ne)
      (λ y q. ne (sym q.1 ∙ ap (λ (x : ℕ). place D (D.key x)) (only y q.0))))
      (same_or b (place D (D.key 1)))

  dirs : Table D
  dirs =
      record {
        max_room = w.max.1;
        count_one = omega (arith, w.count);
        count_max = omega (arith, w.count, w.max);
        removed = removed_links D w.removed;
        removed_once = removed_once D w.removed;
        removed_below = λ y m. absurd (not_removed D w.removed y m);
        bucket = bucket;
        keys = λ y z l m e. only y l ∙ sym (only z m);
      }

  pub fresh_sound : Sound D F
  fresh_sound =
      record {
        dirs = record {
          below = record {
            table = dirs;
            parents = λ y l ne. absurd (ne (only y l));
            lists = λ p l.
                holds_none D.next (D.head p) (λ y. LiveIn D y × (up D y ≡ p)) (ap D.head (only p l) ∙ w.sub_dirs)
                (λ y q. omega (arith, only p l, q.1, ap (up D) (only y q.0), root_up));
          };
          count_two = omega (arith, w.count);
          root_live = root_live;
          root_key = w.key;
          root_next = w.next;
          reach = λ y l. (1 ∷ [], (only y l, omega arith, root_up), inl refl);
        };
        files = record {
          table = no_files F w.files;
          parents = λ y l _. absurd (no_live F w.files y l);
          lists = λ p l.
              holds_none F.next (F.head p) (λ y. LiveIn F y × (up F y ≡ p)) (ap F.head (only p l) ∙ w.sub_files)
              (λ y q. no_live F w.files y q.0);
        };
      }

-- tables with the root and one directory in it, both in one bucket
pub record Second (D F : View) : Type 0 where
  pub max : (3 ≤ D.maximum) × (D.maximum ≤ D.room)
  pub count : D.count ≡ 3
  pub removed : D.coll 0 ≡ 0
  pub coll : (D.coll 2 ≡ 1) × (D.coll 1 ≡ 0)
  pub key : D.key 1 ≡ 0 ∷ 0 ∷ 0 ∷ 0 ∷ 0 ∷ []
  pub parent : up D 2 ≡ 1
  pub next : (D.next 1 ≡ 0) × (D.next 2 ≡ 0)
  pub sub_dirs : (D.head 1 ≡ 2) × (D.head 2 ≡ 0)
  pub sub_files : (F.head 1 ≡ 0) × (F.head 2 ≡ 0)
  pub same : place D (D.key 2) ≡ place D (D.key 1)
  pub here : D.hash (place D (D.key 1)) ≡ 2
  pub else : (b : ℕ) → b < D.buckets → (b ≡ place D (D.key 1) → ⊥) → D.hash b ≡ 0
  pub files : NoFiles F

module _ (D F : View) (w : Second D F) where
  either : (y : ℕ) → LiveIn D y → (y ≡ 1) ⊎ (y ≡ 2)
  either y l =
      ⊎_elim (λ e. inl e) (λ ne. inr (omega (arith, ne, l.0, l.1, w.count))) (same_or y 1)

  live_1 : LiveIn D 1
  live_1 = (omega arith, omega (arith, w.count), not_removed D w.removed 1)

  live_2 : LiveIn D 2
  live_2 = (omega arith, omega (arith, w.count), not_removed D w.removed 2)

  up_1 : up D 1 ≡ 0
  up_1 = ap parent w.key

  both_here : (y : ℕ) → LiveIn D y → place D (D.key y) ≡ place D (D.key 1)
  both_here y l =
      ⊎_elim
      (λ e. ap (λ (x : ℕ). place D (D.key x)) e)
      (λ e. ap (λ (x : ℕ). place D (D.key x)) e ∙ w.same)
      (either y l)

  bucket_2 : (b : ℕ) → b < D.buckets → Holds D.coll (D.hash b) (λ y. LiveIn D y × (place D (D.key y) ≡ b))
  bucket_2 b h =
      ⊎_elim
      (λ e. (
        2 ∷ 1 ∷ [],
        (ap D.hash e ∙ w.here, omega arith, (w.coll.0, omega arith, w.coll.1)),
        λ y. (
          λ m.
              ⊎_elim
              (λ q. subst (λ (x : ℕ). LiveIn D x × (place D (D.key x) ≡ b)) (sym q) (live_2, w.same ∙ sym e))
              (λ n. ⊎_elim (λ q. subst (λ (x : ℕ). LiveIn D x × (place D (D.key x) ≡ b)) (sym q) (live_1, sym e)) (λ z. absurd z) n)
              m,
          λ q. ⊎_elim (λ k. inr (inl k)) (λ k. inl k) (either y q.0),
        ),
      ))
      (λ ne.
      holds_none D.coll (D.hash b) (λ y. LiveIn D y × (place D (D.key y) ≡ b)) (w.else b h ne)
      (λ y q. ne (sym q.1 ∙ both_here y q.0)))
      (same_or b (place D (D.key 1)))

  -- the keys differ in their parents
  keys_2 : (y z : ℕ) → LiveIn D y → LiveIn D z → D.key y ≡ D.key z → y ≡ z
  keys_2 y z l m e =
      let p : up D y ≡ up D z = ap parent e in
      ⊎_elim
      (λ a.
      ⊎_elim
      (λ b. a ∙ sym b)
      (λ b. let x : ⊥ = omega (arith, p, ap (up D) a, ap (up D) b, up_1, w.parent) in absurd x)
      (either z m))
      (λ a.
      ⊎_elim
      (λ b. let x : ⊥ = omega (arith, p, ap (up D) a, ap (up D) b, up_1, w.parent) in absurd x)
      (λ b. a ∙ sym b)
      (either z m))
      (either y l)

  dirs_2 : Table D
  dirs_2 =
      record {
        max_room = w.max.1;
        count_one = omega (arith, w.count);
        count_max = omega (arith, w.count, w.max);
        removed = removed_links D w.removed;
        removed_once = removed_once D w.removed;
        removed_below = λ y m. absurd (not_removed D w.removed y m);
        bucket = bucket_2;
        keys = keys_2;
      }

  children : (p : ℕ) → (p ≡ 1) ⊎ (p ≡ 2) → Holds D.next (D.head p) (λ y. LiveIn D y × (up D y ≡ p))
  children p (inl e) =
      holds_one D.next (D.head p) 2 (λ y. LiveIn D y × (up D y ≡ p)) (ap D.head e ∙ w.sub_dirs.0) (omega arith) w.next.1
      (live_2, w.parent ∙ sym e)
      (λ y q. ⊎_elim (λ a. let x : ⊥ = omega (arith, e, q.1, ap (up D) a, up_1) in absurd x) (λ a. a) (either y q.0))
  children p (inr e) =
      holds_none D.next (D.head p) (λ y. LiveIn D y × (up D y ≡ p)) (ap D.head e ∙ w.sub_dirs.1)
      (λ y q.
      ⊎_elim
      (λ a. omega (arith, e, q.1, ap (up D) a, up_1))
      (λ a. omega (arith, e, q.1, ap (up D) a, w.parent))
      (either y q.0))

  file_head : (p : ℕ) → (p ≡ 1) ⊎ (p ≡ 2) → F.head p ≡ 0
  file_head p (inl e) = ap F.head e ∙ w.sub_files.0
  file_head p (inr e) = ap F.head e ∙ w.sub_files.1

  reaches : (y : ℕ) → (y ≡ 1) ⊎ (y ≡ 2) → Reaches (up D) y
  reaches y (inl e) = (1 ∷ [], (e, omega arith, up_1), inl refl)
  reaches y (inr e) = (2 ∷ 1 ∷ [], (e, omega arith, (w.parent, omega arith, up_1)), inr (inl refl))

  parents : (y : ℕ) → (y ≡ 1) ⊎ (y ≡ 2) → (y ≡ 1 → ⊥) → LiveIn D (up D y)
  parents y (inl e) ne = absurd (ne e)
  parents y (inr e) ne = subst (λ (x : ℕ). LiveIn D x) (sym (ap (up D) e ∙ w.parent)) live_1

  pub second_sound : Sound D F
  second_sound =
      record {
        dirs = record {
          below = record { table = dirs_2; parents = λ y l ne. parents y (either y l) ne; lists = λ p l. children p (either p l) };
          count_two = omega (arith, w.count);
          root_live = live_1;
          root_key = w.key;
          root_next = w.next.0;
          reach = λ y l. reaches y (either y l);
        };
        files = record {
          table = no_files F w.files;
          parents = λ y l _. absurd (no_live F w.files y l);
          lists = λ p l.
              holds_none F.next (F.head p) (λ y. LiveIn F y × (up F y ≡ p)) (file_head p (either p l)) (λ y q. no_live F w.files y q.0);
        };
      }
