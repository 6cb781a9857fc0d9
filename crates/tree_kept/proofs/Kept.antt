-- Every tree call that is answered Done leaves sound tables: where the rows of RULES 2.2 let a step pass, the step keeps Sound. The hypotheses are the
-- rows' own conditions, not met.
use mathlib.Core.Path.{◌≡◌, refl, sym, ap, ◌∙◌, subst}
use mathlib.Core.List.{List, [], ◌∷◌}
use mathlib.Core.Logic.{◌⊎◌, inl, inr, ⊎_elim, ◌≢◌}
use Prim.Native.Nat.{ℕ, zero, suc, ◌+◌, ◌-◌, ◌<◌}
use native.Mathlib.Omega.{arith}
use lib.ListN.{length}
use borrow.Author.Tests.{ne_eqb}
use Rattle.words.proofs.Laws.{Bytes}
use Rattle.links.specs.Links.{◌∈◌, Links}
use Rattle.links.specs.Change.{walk, pick}
use Rattle.links.proofs.Held.{same_or}
use Rattle.tree_key.specs.Key.{name_key}
use Rattle.tree_table.specs.View.{View, removed_of, LiveIn}
use Rattle.tree_table.specs.Steps.{taken, free_of}
use Rattle.tree_table.proofs.Table.{Space, rest}
use Rattle.tree_sound.specs.Sound.{up}
use Rattle.tree_sound.proofs.Tree.{Tree}
use Rattle.tree_sound.proofs.Equal.{tree_of, sound_of}
use Rattle.tree_sound.specs.Tables.{Tables, dirs, files, SoundIn}
use Rattle.tree_promises.specs.declared.Kind.TheVariants.{Directory, File}
use Rattle.tree_promises.specs.Has.{Has, HasOther, above}
use Rattle.tree_promises.specs.Steps.{made, deleted, renamed, with_carried}
use Rattle.tree_sound.proofs.Bounds.{way_up}
use Rattle.tree_kept.proofs.Files.{Fine, deleted_file_kept, deleted_file_removed, deleted_file_count, deleted_file_maximum, renamed_file_kept}
use Rattle.tree_kept.proofs.MakeFile.{carried_file_kept, made_file_kept}
use Rattle.tree_kept.proofs.Dirs.{renamed_dir_kept, carried_dir_kept}
use Rattle.tree_kept.proofs.MakeDir.{made_dir_kept}
use Rattle.tree_kept.proofs.DeleteDir.{deleted_dir_kept, deleted_dir_removed, deleted_dir_count, deleted_dir_maximum}

pub walk_zero : (next : ℕ → ℕ) (k h : ℕ) → h ≡ 0 → walk next k h ≡ []
walk_zero next zero h e = refl
walk_zero next (suc k) h e = ap (walk next (suc k)) e

-- an entry that make can use is a removed one or a new one
pub space : (v : View) → (free_of v ≡ 0 → ⊥) → Space v
space v n =
    ⊎_elim
    (λ (e : v.coll 0 ≡ 0).
    let l : length (removed_of v) ≡ 0 = ap length (walk_zero v.coll v.count (v.coll 0) e) in
    inr (⊎_elim (λ (z : v.maximum - v.count ≡ 0). absurd (n (omega arith))) (λ (z : v.maximum - v.count ≢ 0). omega arith) (same_or (v.maximum - v.count) 0)))
    (λ (e : v.coll 0 ≢ 0). inl e)
    (same_or (v.coll 0) 0)

one_more : (v v' : View) (x : ℕ) → v'.count ≡ v.count → v'.maximum ≡ v.maximum → removed_of v' ≡ x ∷ removed_of v → free_of v' ≡ free_of v + 1
one_more v v' x c m r = let l : length (removed_of v') ≡ suc (length (removed_of v)) = ap length r in omega arith

-- the first removed entry is the one that make uses
abbrev front : List ℕ → ℕ
front [] = 0
front (a ∷ xs) = a

walk_front : (next : ℕ → ℕ) (k h x : ℕ) → 0 < x → front (walk next k h) ≡ x → h ≡ x
walk_front next zero h x p e = absurd (omega arith)
walk_front next (suc k) zero x p e = e
walk_front next (suc k) (suc h) x p e = e

own_next : (v : View) (x : ℕ) (xs : List ℕ) → 0 < x → removed_of v ≡ x ∷ xs → taken v ≡ x
own_next v x xs p e =
    let q : v.coll 0 ≡ x = walk_front v.coll v.count (v.coll 0) x p (ap front e) in
    ap (λ t. pick t v.count (v.coll 0)) (ne_eqb (v.coll 0) 0 (λ (z : v.coll 0 ≡ 0). omega arith)) ∙ q

module _ (s : Tables) (Q : Fine s.dir_hash s.dir_table s.file_hash s.file_table) (S : SoundIn s) where
  T : Tree (dirs s) (files s) (removed_of (dirs s)) (removed_of (files s))
  T = tree_of (dirs s) (files s) refl refl S

  pub kept_make_dir : (p : ℕ) (name padding : List ℕ) → Bytes name → Bytes padding → LiveIn (dirs s) p → (Has (dirs s) (name_key p name) → ⊥) → (free_of (dirs s) ≡ 0 → ⊥)
      → SoundIn (made Directory s p name padding)
  kept_make_dir p name padding bn bp lp free full =
      sound_of (dirs (made Directory s p name padding)) (files (made Directory s p name padding)) (rest (removed_of (dirs s))) (removed_of (files s))
      (made_dir_kept s.dir_hash s.dir_table s.file_hash s.file_table Q (removed_of (dirs s)) (removed_of (files s)) T p lp name padding bn bp (space (dirs s) full)
      (λ y l e. free (y, l, e)))

  pub kept_make_file : (p : ℕ) (name carried : List ℕ) → Bytes name → Bytes carried → LiveIn (dirs s) p → (Has (files s) (name_key p name) → ⊥) → (free_of (files s) ≡ 0 → ⊥)
      → SoundIn (made File s p name carried)
  kept_make_file p name carried bn bc lp free full =
      sound_of (dirs (made File s p name carried)) (files (made File s p name carried)) (removed_of (dirs s)) (rest (removed_of (files s)))
      (made_file_kept s.dir_hash s.dir_table s.file_hash s.file_table Q (removed_of (dirs s)) (removed_of (files s)) T p lp name carried bn bc (space (files s) full)
      (λ y l e. free (y, l, e)))

  pub kept_delete_dir : (x : ℕ) → LiveIn (dirs s) x → (x ≡ 1 → ⊥) → ((0 < (dirs s).head x) ⊎ (0 < (files s).head x) → ⊥) → SoundIn (deleted Directory s x)
  kept_delete_dir x lx n1 none =
      let a : (dirs s).head x ≡ 0 = ⊎_elim (λ (z : (dirs s).head x ≡ 0). z) (λ (z : (dirs s).head x ≢ 0). absurd (none (inl (omega arith)))) (same_or ((dirs s).head x) 0) in
      let b : (files s).head x ≡ 0 = ⊎_elim (λ (z : (files s).head x ≡ 0). z) (λ (z : (files s).head x ≢ 0). absurd (none (inr (omega arith)))) (same_or ((files s).head x) 0) in
      sound_of (dirs (deleted Directory s x)) (files (deleted Directory s x)) (x ∷ removed_of (dirs s)) (removed_of (files s))
      (deleted_dir_kept s.dir_hash s.dir_table s.file_hash s.file_table Q (removed_of (dirs s)) (removed_of (files s)) T x lx n1 a b)

  pub kept_delete_file : (x : ℕ) → LiveIn (files s) x → SoundIn (deleted File s x)
  kept_delete_file x lx =
      sound_of (dirs (deleted File s x)) (files (deleted File s x)) (removed_of (dirs s)) (x ∷ removed_of (files s))
      (deleted_file_kept s.dir_hash s.dir_table s.file_hash s.file_table Q (removed_of (dirs s)) (removed_of (files s)) T x lx)

  -- the way up from p is the list that `above` walks: so what is not in it is not above p
  pub not_above : (x p : ℕ) → LiveIn (dirs s) p → (x ∈ above (dirs s) p → ⊥) → (qs : List ℕ) → Links (up (dirs s)) p qs → x ∈ qs → ⊥
  not_above x p lp free qs l m = free (subst (λ zs. x ∈ zs) (sym (way_up (dirs s) S.dirs p lp qs l)) m)

  pub kept_rename_dir : (x p : ℕ) (name : List ℕ) → Bytes name → LiveIn (dirs s) x → (x ≡ 1 → ⊥) → LiveIn (dirs s) p → (x ∈ above (dirs s) p → ⊥)
      → (HasOther (dirs s) x (name_key p name) → ⊥) → SoundIn (renamed Directory s x p name)
  kept_rename_dir x p name bn lx n1 lp out free =
      sound_of (dirs (renamed Directory s x p name)) (files (renamed Directory s x p name)) (removed_of (dirs s)) (removed_of (files s))
      (renamed_dir_kept s.dir_hash s.dir_table s.file_hash s.file_table Q (removed_of (dirs s)) (removed_of (files s)) T x lx n1 p lp name bn
      (λ y l n e. free (y, l, n, e)) (not_above x p lp out))

  pub kept_rename_file : (x p : ℕ) (name : List ℕ) → Bytes name → LiveIn (files s) x → LiveIn (dirs s) p → (HasOther (files s) x (name_key p name) → ⊥)
      → SoundIn (renamed File s x p name)
  kept_rename_file x p name bn lx lp free =
      sound_of (dirs (renamed File s x p name)) (files (renamed File s x p name)) (removed_of (dirs s)) (removed_of (files s))
      (renamed_file_kept s.dir_hash s.dir_table s.file_hash s.file_table Q (removed_of (dirs s)) (removed_of (files s)) T x lx p lp name bn (λ y l n e. free (y, l, n, e)))

  pub kept_carry_dir : (x : ℕ) (bytes : List ℕ) → Bytes bytes → LiveIn (dirs s) x → SoundIn (with_carried Directory s x bytes)
  kept_carry_dir x bytes bb lx =
      sound_of (dirs (with_carried Directory s x bytes)) (files (with_carried Directory s x bytes)) (removed_of (dirs s)) (removed_of (files s))
      (carried_dir_kept s.dir_hash s.dir_table s.file_hash s.file_table Q (removed_of (dirs s)) (removed_of (files s)) T x lx bytes bb)

  pub kept_carry_file : (x : ℕ) (bytes : List ℕ) → Bytes bytes → LiveIn (files s) x → SoundIn (with_carried File s x bytes)
  kept_carry_file x bytes bb lx =
      sound_of (dirs (with_carried File s x bytes)) (files (with_carried File s x bytes)) (removed_of (dirs s)) (removed_of (files s))
      (carried_file_kept s.dir_hash s.dir_table s.file_hash s.file_table Q (removed_of (dirs s)) (removed_of (files s)) T x lx bytes bb)

  -- an entry that is given up is one more that make can use; of a directory whether or not it has children
  pub given_dir_free : (x : ℕ) → LiveIn (dirs s) x → (x ≡ 1 → ⊥) → free_of (dirs (deleted Directory s x)) ≡ free_of (dirs s) + 1
  given_dir_free x lx n1 =
      one_more (dirs s) (dirs (deleted Directory s x)) x (deleted_dir_count s.dir_hash s.dir_table s.file_hash s.file_table Q (removed_of (dirs s)) (removed_of (files s)) T x lx n1)
      (deleted_dir_maximum s.dir_hash s.dir_table s.file_hash s.file_table Q (removed_of (dirs s)) (removed_of (files s)) T x lx n1)
      (deleted_dir_removed s.dir_hash s.dir_table s.file_hash s.file_table Q (removed_of (dirs s)) (removed_of (files s)) T x lx n1)

  pub given_file_free : (x : ℕ) → LiveIn (files s) x → free_of (files (deleted File s x)) ≡ free_of (files s) + 1
  given_file_free x lx =
      one_more (files s) (files (deleted File s x)) x (deleted_file_count s.dir_hash s.dir_table s.file_hash s.file_table Q (removed_of (dirs s)) (removed_of (files s)) T x lx)
      (deleted_file_maximum s.dir_hash s.dir_table s.file_hash s.file_table Q (removed_of (dirs s)) (removed_of (files s)) T x lx)
      (deleted_file_removed s.dir_hash s.dir_table s.file_hash s.file_table Q (removed_of (dirs s)) (removed_of (files s)) T x lx)

  -- and it is the one that make uses next
  pub given_dir_next : (x : ℕ) → LiveIn (dirs s) x → (x ≡ 1 → ⊥) → taken (dirs (deleted Directory s x)) ≡ x
  given_dir_next x lx n1 =
      own_next (dirs (deleted Directory s x)) x (removed_of (dirs s)) lx.0
      (deleted_dir_removed s.dir_hash s.dir_table s.file_hash s.file_table Q (removed_of (dirs s)) (removed_of (files s)) T x lx n1)

  pub given_file_next : (x : ℕ) → LiveIn (files s) x → taken (files (deleted File s x)) ≡ x
  given_file_next x lx =
      own_next (files (deleted File s x)) x (removed_of (files s)) lx.0
      (deleted_file_removed s.dir_hash s.dir_table s.file_hash s.file_table Q (removed_of (dirs s)) (removed_of (files s)) T x lx)
