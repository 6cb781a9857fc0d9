-- A volume in the profile that gets a kiosk create and a record for it is in the profile again, while the other rules allow.
use mathlib.Core.Path.{◌≡◌, refl, sym, ap, subst, ◌∙◌}
use mathlib.Core.List.{List, [], ◌∷◌, ◌++◌}
use mathlib.Core.Bool.{Bool, true}
use mathlib.Core.Logic.{◌⊎◌, inl, inr, ⊎_elim, ◌≢◌}
use Prim.Native.Nat.{ℕ, suc, ◌+◌, ◌*◌, ◌≤◌, ◌<◌}
use native.Mathlib.Omega.{arith}
use lib.ListN.{length}
use Rattle.words.specs.Word.{AreBytes}
use Rattle.links.proofs.Held.{same_or}
use Rattle.order.specs.Beside.{Beside}
use Rattle.order.specs.Answer.{Done}
use Rattle.fat_node.specs.Entry.{Bytes}
use Rattle.fat_node.specs.Node.{Run, run}
use Rattle.fat_node.specs.Sizes.{blocks}
use Rattle.fat_table.specs.Sound.{File}
use Rattle.fat_table.specs.Chain.{total, free_at, file_at}
use Rattle.tree_table.specs.View.{LiveIn}
use Rattle.tree_sound.specs.Tables.{Tables, files}
use Rattle.fat_promises.specs.Calls.{Create}
use Rattle.audit_inner.specs.Volume.{record_block, record_size}
use Rattle.audit.specs.Reader.{Full, Clean}
use Rattle.kiosk_create.specs.Create.{KioskPromise}
use Rattle.kiosk_create.proofs.Theorems.{one_node_kiosk, others_kiosk, only_kiosk, single_kiosk, new_kiosk}
use Rattle.kiosk_inner.specs.Profile.{most_files, live_files, simple, name_of}
use Rattle.kiosk.specs.Reader.{InProfile, Recorded}

module _ (t : Bytes) (d l : ℕ) (work : List ℕ) (count : ℕ) (o : Beside Create) (g : AreBytes t) (p : KioskPromise t d l work count o) (e : o.given.answer ≡ Done)
    (s s' : Tables) (y size : ℕ) (r : Recorded s s' y o.given.first size) where
  abbrev n : ℕ
  n = blocks t

  abbrev t' : Bytes
  t' = o.given.table

  abbrev m : ℕ
  m = o.given.first

  abbrev block : Tables → ℕ → ℕ
  block u z = record_block u.file_table z

  -- a live file of size above 0 was one before, or is the new one
  full_or : (z : ℕ) → Full s' z → (Full s z × (block s' z ≡ block s z)) ⊎ (z ≡ y)
  full_or z f = ⊎_elim
      (λ v. inl ((v, omega (arith, f.1, r.sizes z v)), r.blocks z v))
      (λ q. inr q)
      (r.only z f.0)

  new_full : 1 ≤ size → Full s' y
  new_full h = (r.live, omega (arith, h, r.bytes))

  still_full : (z : ℕ) → Full s z → Full s' z
  still_full z f = (r.stays z f.0, omega (arith, f.1, r.sizes z f.0))

  module _ (c : Clean n t l s) (some : 1 ≤ size) (fits : size ≤ count * l) where
    -- an old file does not name the new chain
    apart : (z : ℕ) → Full s z → block s z ≡ m → ⊥
    apart z f q = new_kiosk t d l work count o g p e (subst (File t n) q (c.chain z f))

    clean_again : Clean n t' l s'
    clean_again = record {
      chain = λ z f. ⊎_elim
          (λ w. subst (File t' n) (sym w.1) (others_kiosk t d l work count o g p e (block s z) (c.chain z w.0)).0)
          (λ q. subst (File t' n) (sym (ap (block s') q ∙ r.block)) (one_node_kiosk t d l work count o g p e).0)
          (full_or z f);
      own = λ z x f h q. ⊎_elim
          (λ w. ⊎_elim
          (λ v. c.own z x w.0 v.0 (sym w.1 ∙ q ∙ v.1))
          (λ k. absurd (apart z w.0 (sym w.1 ∙ q ∙ ap (block s') k ∙ r.block)))
          (full_or x h))
          (λ k. ⊎_elim
          (λ v. absurd (apart x v.0 (sym v.1 ∙ sym q ∙ ap (block s') k ∙ r.block)))
          (λ j. k ∙ sym j)
          (full_or x h))
          (full_or z f);
      enough = λ z f. ⊎_elim (λ w. old z w.0 w.1) (λ q. new z q) (full_or z f);
      named = λ b f. ⊎_elim
          (λ (q : b ≡ m). (y, new_full some, r.block ∙ sym q))
          (λ (q : b ≢ m).
          let w = c.named b (only_kiosk t d l work count o g p e b f q) in
          (w.0, still_full w.0 w.1, r.blocks w.0 w.1.0 ∙ w.2))
          (same_or b m);
    }
      where
        old : (z : ℕ) → Full s z → block s' z ≡ block s z → record_size s'.file_table z ≤ total (file_at n t' (block s' z)) * l
        old z f q =
            let a : total (file_at n t' (block s' z)) * l ≡ total (file_at n t (block s z)) * l =
            ap (λ (b : ℕ). total (file_at n t' b) * l) q
            ∙ ap (λ (k : List Run). total k * l) (others_kiosk t d l work count o g p e (block s z) (c.chain z f)).1 in
            omega (arith, a, r.sizes z f.0, c.enough z f)

        new : (z : ℕ) → z ≡ y → record_size s'.file_table z ≤ total (file_at n t' (block s' z)) * l
        new z q =
            let a : total (file_at n t' (block s' z)) * l ≡ (count + 0) * l =
            ap (λ (b : ℕ). total (file_at n t' b) * l) (ap (block s') q ∙ r.block)
            ∙ ap (λ (k : List Run). total k * l) (one_node_kiosk t d l work count o g p e).1 in
            let b : (count + 0) * l ≡ count * l = ap (λ (k : ℕ). k * l) (omega arith) in
            omega (arith, a, b, ap (record_size s'.file_table) q, r.bytes, fits)

  -- again: the new file has some bytes and no more than its blocks hold, its name is one of the profile, and there are not too many files
  pub again : InProfile n t l s → 1 ≤ size → size ≤ count * l → simple (name_of s'.file_table y) ≡ true → live_files s'.file_table ≤ most_files
      → InProfile n t' l s'
  again v some fits name few = record {
    clean = clean_again v.clean some fits;
    small = v.small;
    alone = λ z h. v.alone z (r.dirs z h);
    few = few;
    single = single_kiosk t d l work count o g p e v.single;
    names = λ z h. ⊎_elim
        (λ q. ap simple (r.names z q) ∙ v.names z q)
        (λ q. ap (λ (x : ℕ). simple (name_of s'.file_table x)) q ∙ name)
        (r.only z h);
  }
