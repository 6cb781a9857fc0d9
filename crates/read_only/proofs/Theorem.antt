-- A volume with a block length that is not in use is never changed. The statement names definitions of specs/ alone.
use mathlib.Core.Path.{◌≡◌, refl, subst⁻¹, ◌∙◌}
use Prim.Native.Nat.{ℕ}
use Rattle.words.specs.Word.{AreBytes}
use Rattle.fat_node.specs.Entry.{Bytes}
use Rattle.fat_test.specs.Gate.{InUse}
use Rattle.fat_listed.proofs.Same.{read_only_write_blocks}
use Rattle.fat_history.proofs.InUse.{read_only_create, read_only_resize, read_only_delete, read_only_write}
use Rattle.fat_merge.proofs.Theorems.{read_only_merge}
use Rattle.fat_apply.proofs.Theorems.{read_only_apply}
use Rattle.kiosk_create.proofs.Theorems.{read_only_kiosk}
use Rattle.read_only.specs.Calls.{Calls, none, creates, resizes, deletes, writes, writes_listed, merges, applies, kiosk_creates, map_creates, map_resizes, map_deletes}
use Rattle.read_only.proofs.Maps.{read_only_map_create, read_only_map_resize, read_only_map_delete}

module _ (l : ℕ) (u : InUse l → ⊥) (t d : Bytes) (g : AreBytes t) where
  -- read_only: no run of calls with such a block length changes a byte of the table or of the data
  pub read_only : {t' d' : Bytes} → Calls l t d t' d' → (t' ≡ t) × (d' ≡ d)
  read_only none = (refl, refl)
  read_only (creates t₁ d₁ c work count o p) =
      let s = read_only c in
      (read_only_create t₁ l work (subst⁻¹ AreBytes s.0 g) u _ count o p ∙ s.0, s.1)
  read_only (resizes t₁ d₁ c work b count o p) =
      let s = read_only c in
      (read_only_resize t₁ l work (subst⁻¹ AreBytes s.0 g) u _ b count o p ∙ s.0, s.1)
  read_only (deletes t₁ d₁ c work b o p) =
      let s = read_only c in
      (read_only_delete t₁ l work (subst⁻¹ AreBytes s.0 g) u _ b o p ∙ s.0, s.1)
  read_only (writes t₁ d₁ c work b pos buf o p) =
      let s = read_only c in
      (s.0, read_only_write t₁ l work (subst⁻¹ AreBytes s.0 g) u d₁ b pos buf o p ∙ s.1)
  read_only (writes_listed t₁ d₁ c list pos buf o p) =
      let s = read_only c in
      (s.0, read_only_write_blocks d₁ l list pos buf o u p ∙ s.1)
  read_only (merges t₁ d₁ c work o p) =
      let s = read_only c in
      (read_only_merge t₁ l work o (subst⁻¹ AreBytes s.0 g) p u ∙ s.0, s.1)
  read_only (applies t₁ d₁ c work b plan o p) =
      let s = read_only c in
      let r = read_only_apply t₁ d₁ l work b plan o (subst⁻¹ AreBytes s.0 g) p u in
      (r.0 ∙ s.0, r.1 ∙ s.1)
  read_only (kiosk_creates t₁ d₁ c work count o p) =
      let s = read_only c in
      (read_only_kiosk t₁ _ l work count o (subst⁻¹ AreBytes s.0 g) p u ∙ s.0, s.1)
  read_only (map_creates t₁ d₁ c work map count o p) =
      let s = read_only c in
      (read_only_map_create t₁ _ l work map u count o p ∙ s.0, s.1)
  read_only (map_resizes t₁ d₁ c work map b count o p) =
      let s = read_only c in
      (read_only_map_resize t₁ _ l work map u b count o p ∙ s.0, s.1)
  read_only (map_deletes t₁ d₁ c work map b o p) =
      let s = read_only c in
      (read_only_map_delete t₁ _ l work map u b o p ∙ s.0, s.1)
