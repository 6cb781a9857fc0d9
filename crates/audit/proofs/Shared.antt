-- With no findings no two files share a block: the table that started all this had two files on one block.
use mathlib.Core.Path.{◌≡◌, refl, sym, ap, subst, subst⁻¹, ◌∙◌}
use mathlib.Core.List.Memᴰ
use mathlib.Core.List.Permᴰ
use mathlib.Core.List.{List, [], ◌∷◌, ◌++◌, Permᴰ, Memᴰ}
use mathlib.Core.Logic.{◌⊎◌, inl, inr, ⊎_elim, ◌≢◌}
use Prim.Native.Nat.{ℕ, zero, suc, ◌+◌, ◌≤◌, ◌<◌}
use native.Mathlib.Omega.{arith}
use Rattle.links.proofs.Held.{same_or}
use Rattle.fat_node.specs.Entry.{Bytes}
use Rattle.fat_node.specs.Node.{Run, run}
use Rattle.fat_table.specs.Sound.{File}
use Rattle.fat_table.specs.Chain.{free_at, file_at}
use Rattle.fat_table.specs.Layout.{Layout, layout, joined, hits, covers}
use Rattle.fat_table.specs.Steps.{first}
use Rattle.fat_table.specs.Holds.{Holds}
use Rattle.fat_table.proofs.Layouts.{covers_append, joined_covers, hits_most}
use Rattle.fat_table.proofs.Files.{Whole, seen_file, file_of, file_is}
use Rattle.fat_table.proofs.Stepped.{holds_order}
use Rattle.tree_sound.specs.Tables.{Tables}
use Rattle.audit_inner.specs.Findings.{findings}
use Rattle.audit_inner.specs.Volume.{record_block, subject}
use Rattle.audit.specs.Reader.{Full, Clean}
use Rattle.audit.proofs.Reader.{clean}

-- the chains of a list, in another order
mem_perm : {r : List Run} {a b : List (List Run)} → Permᴰ a b → Memᴰ r a → Memᴰ r b
mem_perm Permᴰ.nil m = m
mem_perm (Permᴰ.cons e p) m = ⊎_elim (λ q. Memᴰ.head (q ∙ e)) (λ k. Memᴰ.tail (mem_perm p k)) (Memᴰ.cases_cons m)
mem_perm (Permᴰ.swap e e') m = ⊎_elim
    (λ q. Memᴰ.tail (Memᴰ.head (q ∙ e)))
    (λ k. ⊎_elim (λ q. Memᴰ.head (q ∙ e')) (λ j. Memᴰ.tail (Memᴰ.tail j)) (Memᴰ.cases_cons k))
    (Memᴰ.cases_cons m)
mem_perm (Permᴰ.trans p q) m = mem_perm q (mem_perm p m)

-- a chain of the list covers no more than all
covers_mem : (x : ℕ) {f : List Run} {fs : List (List Run)} → Memᴰ f fs → covers x f ≤ covers x (joined fs)
covers_mem x (Memᴰ.head {x = g} {xs = gs} e) = omega (arith, covers_append x g (joined gs), ap (covers x) e)
covers_mem x (Memᴰ.tail {x = g} {xs = gs} m) = omega (arith, covers_append x g (joined gs), covers_mem x m)

module _ (n : ℕ) (t : Bytes) (w : Whole n t) where
  -- two files whose chains have a block in common are one
  pub one_file : (b c x : ℕ) → File t n b → File t n c → 1 ≤ covers x (file_at n t b) → 1 ≤ covers x (file_at n t c) → b ≡ c
  one_file b c x f g p q = ⊎_elim (λ e. e) (λ (d : b ≢ c). absurd (apart d)) (same_or b c)
    where
      apart : b ≢ c → ⊥
      apart d =
          let v = seen_file n t b w f in
          let o = file_of n w.small t (layout (free_at n t) (file_at n t b ∷ v.others)) c v.holds g in
          let h : Holds n t (layout (free_at n t) (o.0 ∷ o.1)) = holds_order o.2 v.holds in
          let e : file_at n t c ≡ o.0 = file_is n w.small t (free_at n t) o.0 o.1 h c o.3 in
          ⊎_elim
          (λ (i : o.0 ≡ file_at n t b). d (same b c (sym v.at ∙ ap first (sym i) ∙ o.3)))
          (λ (i : Memᴰ o.0 v.others).
          omega (
            arith,
            p,
            q,
            ap (covers x) e,
            covers_mem x i,
            covers_append x (file_at n t b) (joined v.others),
            covers_append x (free_at n t) (file_at n t b ++ joined v.others),
            v.holds.tiled.once x,
            hits_most x (run 0 n),
          ))
          (Memᴰ.cases_cons (mem_perm (Permᴰ.symm o.2) (Memᴰ.head refl)))
        where
          same : (b c : ℕ) → suc b ≡ suc c → b ≡ c
          same b c e = omega (arith, e)

  pub unshared : (l : ℕ) (s : Tables) → findings (subject n t l s.file_table) ≡ [] → (y z x : ℕ) → Full s y → Full s z
      → 1 ≤ covers x (file_at n t (record_block s.file_table y)) → 1 ≤ covers x (file_at n t (record_block s.file_table z)) → y ≡ z
  unshared l s e y z x f g p q =
      let c : Clean n t l s = (clean n t l s w).0 e in
      c.own y z f g (one_file (record_block s.file_table y) (record_block s.file_table z) x (c.chain y f) (c.chain z g) p q)
