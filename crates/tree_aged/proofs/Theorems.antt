-- What the promise means.
use mathlib.Core.Path.{◌≡◌, refl, sym, ap, ◌∙◌, subst, subst⁻¹}
use mathlib.Core.List.{List, [], ◌++◌, append-nil}
use mathlib.Core.Logic.{inl, inr, ⊎_elim, ◌≢◌}
use Prim.Native.Nat.{ℕ, zero, suc, ◌+◌, ◌-◌, ◌≤◌, ◌<◌}
use native.Mathlib.Omega.{arith}
use Rattle.order.specs.First.{Row, First}
use Rattle.order.specs.Answer.{Done}
use Rattle.links.proofs.Held.{same_or}
use Rattle.tree_table.specs.View.{View}
use Rattle.tree_sound.specs.Tables.{Tables, dirs, files}
use Rattle.tree_promises.proofs.Unique.{One, one_tree}
use Rattle.tree_promises.specs.Inner.Ready.{Ready, LiveAt}
use Rattle.tree_aged.specs.Age.{Names, Newer, one, more, Lost, LostIn, NoCircle, Aged}
use Rattle.tree_aged.specs.Inner.Walk.{coll_of, next_of, Fits}
use Rattle.tree_aged.proofs.Public.{dirs_fit, files_fit}
use Rattle.tree_aged.specs.Calls.{Age, age_gives, lost_from, lost_rows, aged_rows, AgedPromise}

-- promise and input leave one answer
pub one_aged : (s : Tables) (work : List ℕ) → One (AgedPromise s work)
one_aged s work = one_tree (λ a. age_gives a 0 0) s work (aged_rows s) (age_gives Done 0 0)

-- where no entry is lost there is no circle, and the other way round
circle_free : (v : View) → ((x : ℕ) → LostIn v x → ⊥) → NoCircle v
circle_free v f x l c = f x (l, record { entry = x; leads = inl refl; circle = c })

-- the rows for inodes give a table that is not 0, or none of them applies
module _ (lost : ℕ → Type 0) (table : ℕ) (some : table ≢ 0) (rest : List (Row Age)) (done o : Age) (zero-table : o.table ≡ 0) where
  past : (k x : ℕ) → First (lost_from k lost table x ++ rest) done o → ((y : ℕ) → x ≤ y → y < x + k → lost y → ⊥) × First rest done o
  past zero x p = ((λ y a b q. omega (arith, a, b)), p)
  past (suc k) x (inl p) = absurd (some (sym (ap (λ (g : Age). g.table) p.1) ∙ zero-table))
  past (suc k) x (inr p) =
      let r = past k (suc x) p.1 in (
        (λ y a b q.
            ⊎_elim (λ (e : y ≡ x). p.0 (subst lost e q)) (λ (n : y ≢ x). r.0 y (omega (arith, a, n)) (omega (arith, b)) q) (same_or y x)),
        r.1,
      )

-- what is told of sound tables with table 0: they are aged
pub told_aged : (s : Tables) (o : Age) → First (aged_rows s) (age_gives Done 0 0) o → o.table ≡ 0 → Aged (dirs s) (files s)
told_aged s o (inl p) z = let e : ◌≡◌ {A = ℕ} 1 0 = sym (ap (λ (g : Age). g.table) p.1) ∙ z in absurd (omega (arith, e))
told_aged s o (inr p) z =
    let d = past (LostIn (dirs s)) 1 (λ (e : ◌≡◌ {A = ℕ} 1 0). omega (arith, e)) (lost_rows (files s) 2) (age_gives Done 0 0) o z ((dirs s).count - 1) 1 p.1 in
    let f = past (LostIn (files s)) 2 (λ (e : ◌≡◌ {A = ℕ} 2 0). omega (arith, e)) [] (age_gives Done 0 0) o z ((files s).count - 1) 1
    (subst (λ (l : List (Row Age)). First l (age_gives Done 0 0) o) (sym (append-nil (lost_rows (files s) 2))) d.1)
    in
    record {
      of_dirs = circle_free (dirs s) (λ x q. d.0 x q.0.0 (omega (arith, q.0.0, q.0.1)) q);
      of_files = circle_free (files s) (λ x q. f.0 x q.0.0 (omega (arith, q.0.0, q.0.1)) q);
      root_last = last ((dirs s).coll 1) p.0;
    }
  where
    last : (n : ℕ) → ((n ≡ 0 → ⊥) → ⊥) → n ≡ 0
    last zero f = refl
    last (suc n) f = absurd (f (λ e. omega (arith, e)))

-- ---- and the other way round

-- what a live entry is newer than is live
live_one : {w : ℕ} {t work : List ℕ} → Fits w t work → (x y : ℕ) → Names (coll_of w t) (next_of w t) x y → LiveAt w t x → LiveAt w t y
live_one {w} {t} F x y (p, inl e) l = subst (λ (z : ℕ). LiveAt w t z) e (F.coll x l (subst⁻¹ (λ (z : ℕ). 0 < z) e p))
live_one {w} {t} F x y (p, inr e) l = subst (λ (z : ℕ). LiveAt w t z) e (F.next x l (subst⁻¹ (λ (z : ℕ). 0 < z) e p))

live_far : {w : ℕ} {t work : List ℕ} {x y : ℕ} → Newer (coll_of w t) (next_of w t) x y → Fits w t work → LiveAt w t x → LiveAt w t y
live_far (one x y n) F l = live_one F x y n l
live_far (more x y z n r) F l = live_far r F (live_one F x y n l)

-- without a circle no entry is lost
none_lost : {w : ℕ} {t work : List ℕ} → Fits w t work → ((x : ℕ) → LiveAt w t x → Newer (coll_of w t) (next_of w t) x x → ⊥)
    → (x : ℕ) → LiveAt w t x × Lost (coll_of w t) (next_of w t) x → ⊥
none_lost {w} {t} F none x (l, q) =
    none q.entry (⊎_elim (λ e. subst (λ (z : ℕ). LiveAt w t z) e l) (λ n. live_far n F l) q.leads) q.circle

no_row : (lost : ℕ → Type 0) (table : ℕ) (rest : List (Row Age)) (done o : Age) → ((y : ℕ) → lost y → ⊥)
    → (k x : ℕ) → First (lost_from k lost table x ++ rest) done o → First rest done o
no_row lost table rest done o f zero x p = p
no_row lost table rest done o f (suc k) x (inl p) = absurd (f x p.0)
no_row lost table rest done o f (suc k) x (inr p) = no_row lost table rest done o f k (suc x) p.1

-- of sound tables that are aged nothing is told
pub aged_told : (s : Tables) → Ready s → Aged (dirs s) (files s) → (o : Age) → First (aged_rows s) (age_gives Done 0 0) o → o ≡ age_gives Done 0 0
aged_told s R A o (inl p) = absurd (p.0 A.root_last)
aged_told s R A o (inr p) =
    no_row (LostIn (files s)) 2 [] (age_gives Done 0 0) o (none_lost (files_fit s R) A.of_files) ((files s).count - 1) 1
    (subst (λ (l : List (Row Age)). First l (age_gives Done 0 0) o) (sym (append-nil (lost_rows (files s) 2)))
    (no_row (LostIn (dirs s)) 1 (lost_rows (files s) 2) (age_gives Done 0 0) o (none_lost (dirs_fit s R) A.of_dirs) ((dirs s).count - 1) 1 p.1))
