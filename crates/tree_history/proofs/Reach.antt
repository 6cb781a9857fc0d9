-- Why directories stay reachable: a rename keeps every way up to the root where it does not go below itself, and else makes a ring.
use mathlib.Core.Path.{◌≡◌, refl, sym, ap, ◌∙◌, subst}
use mathlib.Core.List.{List, [], ◌∷◌}
use mathlib.Core.Logic.{inl, inr, ⊎_elim, ◌≢◌}
use Prim.Native.Nat.{ℕ, ◌<◌}
use native.Mathlib.Omega.{arith}
use Rattle.links.specs.Links.{◌∈◌, Links}
use Rattle.links.proofs.Laws.{distinct}
use Rattle.links.proofs.Held.{same_or, upd_same, upd_other}
use Rattle.tree_key.specs.Key.{name_key}
use Rattle.tree_table.specs.View.{View, parent, removed_of, LiveIn, Reaches}
use Rattle.tree_table.proofs.Table.{link, unlink}
use Rattle.tree_table.proofs.Agree.{Agree}
use Rattle.tree_sound.specs.Sound.{up}
use Rattle.tree_sound.proofs.Equal.{tree_of}
use Rattle.tree_sound.specs.Tables.{Tables, dirs, files}
use Rattle.tree_promises.specs.declared.Kind.TheVariants.{Directory}
use Rattle.tree_promises.specs.Has.{above}
use Rattle.tree_promises.specs.Steps.{renamed}
use Rattle.tree_sound.proofs.Bounds.{way_up}
use Rattle.tree_kept.proofs.Dirs.{renamed_dir_agrees}
use Rattle.tree_kept.proofs.Kept.{kept_rename_dir}
use Rattle.words.specs.Word.{AreBytes}
use Rattle.tree_history.specs.Whole.{Whole}
use Rattle.tree_history.specs.May.{MayRename}
use Rattle.tree_history.proofs.Sizes.{are_bytes, fine}

-- ---- the ring

module _ (u u' : ℕ → ℕ) (x : ℕ) (eo : (y : ℕ) → 0 < y → y ≢ x → u' y ≡ u y) where
  -- a way that met x still meets it
  meets : (q : ℕ) (qs zs : List ℕ) → Links u q qs → x ∈ qs → Links u' q zs → x ∈ zs
  meets q [] zs l m k = elim m [ ]
  meets q (a ∷ qs) [] l m k = absurd (let e : q ≡ a = l.0 in let p : 0 < a = l.1 in let z : q ≡ 0 = k in omega arith)
  meets q (a ∷ qs) (b ∷ zs) l m k =
      let e : q ≡ a = l.0 in
      let f : q ≡ b = k.0 in
      ⊎_elim (λ (h : a ≡ x). inl (sym h ∙ sym e ∙ f))
      (λ (n : a ≢ x).
      inr
      (meets (u a) qs zs l.2 (⊎_elim (λ (h : x ≡ a). absurd (n (sym h))) (λ (h : x ∈ qs). h) m)
      (subst (λ z. Links u' z zs) (ap u' (sym f ∙ e) ∙ eo a l.1 n) k.2)))
      (same_or a x)

  -- x below itself: the way up from x does not end
  ring : (q : ℕ) (qs xs : List ℕ) → u' x ≡ q → Links u q qs → x ∈ qs → 0 < x → Links u' x xs → ⊥
  ring q qs [] ex l m p k = let z : x ≡ 0 = k in omega arith
  ring q qs (b ∷ zs) ex l m p k =
      let f : x ≡ b = k.0 in
      let w : Links u' q zs = subst (λ z. Links u' z zs) (ap u' (sym f) ∙ ex) k.2 in
      (distinct u' x (b ∷ zs) k).0 (subst (λ z. z ∈ zs) f (meets q qs zs l m w))

-- ---- the theorems

module _ (s : Tables) (w : Whole s) (x p : ℕ) (name : List ℕ) (bn : AreBytes name) where
  -- stays_reachable: a directory that may be renamed leaves every directory reaching the root
  pub stays_reachable : MayRename Directory s x p name → (y : ℕ) → LiveIn (dirs (renamed Directory s x p name)) y → Reaches (up (dirs (renamed Directory s x p name))) y
  stays_reachable m =
      (kept_rename_dir s (fine s w) w.sound x p name (are_bytes name bn) m.subject (m.not_root refl) m.parent (m.not_into_itself refl) m.free_key).dirs.reach

  module _ (lx : LiveIn (dirs s) x) (n1 : x ≡ 1 → ⊥) (lp : LiveIn (dirs s) p) where
    same : Agree (link (unlink (dirs s) x) x (name_key p name)) (dirs (renamed Directory s x p name))
    same =
        renamed_dir_agrees s.dir_hash s.dir_table s.file_hash s.file_table (fine s w) (removed_of (dirs s)) (removed_of (files s))
        (tree_of (dirs s) (files s) refl refl w.sound) x lx n1 p lp name (are_bytes name bn)

    -- ring_below_itself: without the row IntoItself it would not: a directory that goes to itself or below itself no longer reaches the root
    pub ring_below_itself : x ∈ above (dirs s) p → Reaches (up (dirs (renamed Directory s x p name))) x → ⊥
    ring_below_itself m r =
        let D : View = dirs s in
        let k : List ℕ = name_key p name in
        let t = w.sound.dirs.reach p lp in
        let i : x ∈ t.0 = subst (λ zs. x ∈ zs) (way_up D w.sound.dirs p lp t.0 t.1) m in
        ring (up D) (up (dirs (renamed Directory s x p name))) x (λ y h n. ap parent (same.key y h ∙ upd_other D.key x k y n)) p t.0 r.0
        (ap parent (same.key x lx.0 ∙ upd_same D.key x k x refl)) t.1 i lx.0 r.1
