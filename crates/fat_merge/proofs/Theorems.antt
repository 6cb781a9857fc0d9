-- What merge does, by its promise. The statements name definitions of specs/ alone.
use mathlib.Core.Path.{◌≡◌, refl, sym, ap, subst, subst⁻¹, ◌∙◌}
use mathlib.Core.List.{List}
use mathlib.Core.Logic.{⊎_elim}
use Prim.Native.Nat.{ℕ, ◌+◌, ◌*◌, ◌≤◌, ◌<◌}
use native.Mathlib.Omega.{arith}
use lib.ListN.{length, get_or, replicate, length-replicate}
use Rattle.words.specs.Word.{AreBytes}
use Rattle.order.specs.Beside.{Beside}
use Rattle.order.specs.Answer.{Done}
use Rattle.order.proofs.One.{one}
use Rattle.fat_node.specs.Entry.{Bytes}
use Rattle.fat_node.specs.Node.{Run, run}
use Rattle.fat_node.specs.Sizes.{blocks, Misfit, Outside}
use Rattle.fat_table.specs.Sound.{Sound, File}
use Rattle.fat_table.specs.Chain.{total, free_at, file_at}
use Rattle.fat_table.specs.Layout.{covers, joined}
use Rattle.fat_table.specs.Counts.{free_blocks, other_chains}
use Rattle.fat_table.specs.Changes.{Kept}
use Rattle.fat_table.proofs.Layouts.{hits_hi, covers_append, empties_append}
use Rattle.fat_table.proofs.Files.{Whole, seen}
use Rattle.fat_node.proofs.Nodes.{le_or_lt}
use Rattle.fat_test.specs.Gate.{InUse, test_gate}
use Rattle.fat_test.specs.Promise.{tested, test_refused, test_done, TestPromise}
use Rattle.fat_test.specs.Promise.{Tested}
use Rattle.fat_promises.specs.Calls.{Change}
use Rattle.fat_promises.specs.Blocks.{blocks_of, place_of, bytes_at}
use Rattle.fat_history.specs.KeptBy.{KeptBy}
use Rattle.fat_history.specs.Formats.{Stays}
use Rattle.fat_history.specs.OneChain.{OneChain}
use Rattle.fat_history.proofs.Rows.{last_given}
use Rattle.fat_history.proofs.Passes.{are_bytes, Fits, fits, whole_of_fits, none_tested}
use Rattle.fat_history.proofs.Honest.{blocks_of_lem, as_blocks}
use Rattle.fat_history.proofs.Lies.{one_chain_of}
use Rattle.fat_history.proofs.Places.{read_same}
use Rattle.fat_history.proofs.Apart.{SameFile, Still, still}
use Rattle.fat_retrace.specs.Within.{node_count, ReachedWithin}
use Rattle.fat_retrace.proofs.Theorems.{within}
use Rattle.fat_merge.specs.Merge.{tidied, merged, merge_entries, Spread}
use Rattle.fat_merge.specs.Promise.{MergePromise}
use Rattle.fat_merge.specs.Merges.{SameFiles, Calls, away, merges}
use Rattle.fat_merge.proofs.Merges as laws
use Rattle.fat_merge.proofs.Means.{Went, merge_cases, merge_means}
use Rattle.fat_merge.proofs.Fewest.{spread_fewest}

-- tables with the same files have the same free blocks ------------------------------------------------------------------------------------------------

module _ (n : ℕ) (t t' : Bytes) (w : Whole n t) (w' : Whole n t') (s : SameFiles n t t') where
  free_past : (u : Bytes) → Whole n u → (x : ℕ) → n ≤ x → covers x (free_at n u) ≡ 0
  free_past u v x h =
      let k = seen n u v in
      omega (arith, k.holds.tiled.once x, covers_append x (free_at n u) (joined k.files), hits_hi x (run 0 n) (omega (arith, h)))

  module _ (x : ℕ) where
    both : OneChain n t x → OneChain n t' x → covers x (free_at n t') ≡ covers x (free_at n t)
    both a b =
        ⊎_elim
        (λ f.
        ⊎_elim (λ f'. omega (arith, f.once, f'.once))
        (λ i'.
        let j : File t n i'.first = s.only i'.first i'.file in
        let z : ⊥ = omega (arith, i'.once, f.files i'.first j, ap (covers x) (s.chain i'.first j)) in
        absurd z)
        b)
        (λ i.
        ⊎_elim
        (λ f'.
        let z : ⊥ =
        omega (arith, i.once, f'.files i.first (s.stays i.first i.file), ap (covers x) (s.chain i.first i.file)) in
        absurd z)
        (λ i'. omega (arith, i.free, i'.free))
        b)
        a

    same_free : covers x (free_at n t') ≡ covers x (free_at n t)
    same_free =
        ⊎_elim (λ h. omega (arith, free_past t w x h, free_past t' w' x h))
        (λ h. both (one_chain_of n t w x h) (one_chain_of n t' w' x h))
        (le_or_lt n x)

-- merge, whatever it answers -----------------------------------------------------------------------------------------------------------------------------

module _ (t : Bytes) (l : ℕ) (work : List ℕ) (o : Beside Change) (g : AreBytes t) (p : MergePromise t l work o) where
  abbrev n : ℕ
  n = blocks t

  after : Went t l work o → o.given.table ≡ merged n t
  after w = ap (λ (x : Beside Change). x.given.table) w.is

  -- kept_merge: answered Done it leaves a sound table of the same length, and refused the table as it was
  pub kept_merge : KeptBy t o.given.answer o.given.table
  kept_merge = (
    λ e.
        let w = merge_means t l work o (are_bytes t g) p e in
        let v : Whole n (merged n t) = laws.merge_whole n t w.whole in
        subst⁻¹ (λ (x : Bytes). Sound x (blocks x) × (length x ≡ length t)) (after w)
        ((as_blocks n (merged n t) v).sound, v.room ∙ sym w.whole.room),
    λ e.
        ⊎_elim (λ r. r.table) (λ w. absurd (e (ap (λ (x : Beside Change). x.given.answer) w.is)))
        (merge_cases t l work o (are_bytes t g) p),
  )

  -- other_merge: every byte outside entry 0 and the entries of the new free nodes stays
  pub other_merge : Kept (merge_entries n t) t o.given.table
  other_merge =
      ⊎_elim (λ r i h k. ap (λ (x : Bytes). get_or x i 0) r.table)
      (λ w. subst⁻¹ (λ (x : Bytes). Kept (merge_entries n t) t x) (after w) (laws.merged_kept n t w.whole.bytes))
      (merge_cases t l work o (are_bytes t g) p)

  -- read_only_merge: with a block length that is not in use it leaves the table as it was
  pub read_only_merge : (InUse l → ⊥) → o.given.table ≡ t
  read_only_merge u = ⊎_elim (λ r. r.table) (λ w. absurd (u w.used)) (merge_cases t l work o (are_bytes t g) p)

  -- merge answered Done ------------------------------------------------------------------------------------------------------------------------------------

  module _ (e : o.given.answer ≡ Done) where
    went : Went t l work o
    went = merge_means t l work o (are_bytes t g) p e

    now_whole : Whole n o.given.table
    now_whole = subst⁻¹ (Whole n) (after went) (laws.merge_whole n t went.whole)

    now_fits : Fits o.given.table
    now_fits =
        let q : blocks o.given.table ≡ n = blocks_of_lem n o.given.table now_whole.room in
        record {
          room = now_whole.room ∙ ap (λ (m : ℕ). 8 * (m + 1)) (sym q);
          some = omega (arith, q, went.fits.some);
          few = omega (arith, q, went.fits.few);
        }

    now_free : free_at n o.given.table ≡ tidied n t
    now_free = ap (free_at n) (after went) ∙ laws.merge_free n t went.whole

    -- the test of a sound table that is lent n places or more
    testing : (u : Bytes) (w : List ℕ) (r : Tested × List ℕ) → Fits u → Sound u (blocks u) → blocks u ≤ length w → TestPromise u w r → r ≡ test_done u w
    testing u w r f s h q =
        one (test_gate test_refused u w) (test_done u w) r (test_done u w) q
        (last_given (test_gate test_refused u w) (test_done u w) (none_tested test_refused u w f h s))

    -- tested_merge: the test accepts the table after it as before it, with the same free blocks and the same number of files
    pub tested_merge : (work₀ work₁ : List ℕ) (r₀ r₁ : Tested × List ℕ) → n ≤ length work₀ → n ≤ length work₁ → TestPromise t work₀ r₀
        → TestPromise o.given.table work₁ r₁
        → (r₁.0.answer ≡ Done) × (r₁.0 ≡ r₀.0)
    tested_merge work₀ work₁ r₀ r₁ h₀ h₁ p₀ p₁ =
        let q : blocks o.given.table ≡ n = blocks_of_lem n o.given.table now_whole.room in
        let a : r₁ ≡ test_done o.given.table work₁ =
        testing o.given.table work₁ r₁ now_fits (as_blocks n o.given.table now_whole).sound (omega (arith, q, h₁)) p₁ in
        let b : r₀ ≡ test_done t work₀ = testing t work₀ r₀ went.fits went.whole.sound h₀ p₀ in
        let c : free_blocks (blocks o.given.table) o.given.table ≡ free_blocks n t =
        ap (λ (m : ℕ). free_blocks m o.given.table) q ∙ ap (free_blocks n) (after went) ∙ laws.merge_count n t went.whole in
        let d : other_chains (blocks o.given.table) o.given.table ≡ other_chains n t =
        ap (λ (m : ℕ). other_chains m o.given.table) q ∙ ap (other_chains n) (after went) ∙ laws.merge_others n t went.whole in (
          ap (λ (x : Tested × List ℕ). x.0.answer) a,
          ap (λ (x : Tested × List ℕ). x.0) a ∙ (λ i. tested Done (c i) (d i)) ∙ sym (ap (λ (x : Tested × List ℕ). x.0) b),
        )

    -- files_merge: the files are the same, each with the same chain
    pub files_merge : SameFiles n t o.given.table
    files_merge =
        subst⁻¹ (SameFiles n t) (after went)
        (record {
          stays = λ b i. (laws.merge_leaves n t went.whole b i).file;
          chain = λ b i. (laws.merge_leaves n t went.whole b i).same;
          only = laws.merge_only n t went.whole;
        })

    -- rising_merge: the free chain rises, with a gap between any two of its nodes
    pub rising_merge : Spread 0 (free_at n o.given.table)
    rising_merge = subst⁻¹ (Spread 0) now_free (laws.tidied_spread n t)

    -- fewest_merge: no sound table with the same files has fewer free nodes
    pub fewest_merge : (t' : Bytes) → AreBytes t' → length t' ≡ length t → Sound t' n → SameFiles n t t'
        → length (free_at n o.given.table) ≤ length (free_at n t')
    fewest_merge t' g' long s f =
        let w : Whole n t = went.whole in
        let w' : Whole n t' = record { small = w.small; bytes = are_bytes t' g'; room = long ∙ w.room; sound = s } in
        let k = seen n t' w' in
        let v = seen n t w in
        subst⁻¹ (λ (l : List Run). length l ≤ length (free_at n t')) now_free
        (spread_fewest n 0 (tidied n t) (free_at n t') (laws.tidied_spread n t) (laws.tidied_sizes n t)
        (omega (arith, k.holds.tiled.positive, empties_append (free_at n t') (joined k.files)))
        (λ x. omega (arith, k.holds.tiled.once x, covers_append x (free_at n t') (joined k.files)))
        (λ x. same_free n t t' w w' f x ∙ sym (laws.tidied_covers n w.small t (free_at n t) v.files v.holds x)))

    -- again_merge: a second merge changes no byte
    pub again_merge : (l' : ℕ) (work' : List ℕ) (o' : Beside Change) → MergePromise o.given.table l' work' o' → o'.given.table ≡ o.given.table
    again_merge l' work' o' q =
        ⊎_elim (λ r. r.table)
        (λ w.
        ap (λ (x : Beside Change). x.given.table) w.is
        ∙ ap (λ (m : ℕ). merged m o.given.table) (blocks_of_lem n o.given.table now_whole.room)
        ∙ ap (merged n) (after went)
        ∙ laws.merge_again n t went.whole
        ∙ sym (after went))
        (merge_cases o.given.table l' work' o' now_whole.bytes q)

    -- within_merge: the table after it is reached, in the entries that the rules read, by at most 3 x k creates and deletes after format, k its nodes
    pub within_merge : ReachedWithin (3 * node_count o.given.table) o.given.table
    within_merge =
        let u : Bytes = o.given.table in
        let w : List ℕ = replicate (blocks u) 0 in
        within u w (test_done u w) now_whole.bytes.byte
        (last_given (test_gate test_refused u w) (test_done u w)
        (none_tested test_refused u w now_fits (omega (arith, length-replicate {A = ℕ} (blocks u) 0)) (as_blocks n u now_whole).sound))
        refl

-- apart, with merges among the calls -------------------------------------------------------------------------------------------------------------------

module _ (n l b : ℕ) (t d : Bytes) (w : Whole n t) (i : File t n b) where
  -- a run after a run
  pub on : (t₁ d₁ t' d' : Bytes) → Still n l b t d t₁ d₁ → Still n l b t₁ d₁ t' d' → Still n l b t d t' d'
  on t₁ d₁ t' d' s r = record {
    whole = r.whole;
    long = r.long ∙ s.long;
    file = r.file;
    same = r.same ∙ s.same;
    bytes = λ k h.
        subst (λ (f : List Run). k < total f * l → get_or d' (place_of (blocks_of f) l k) 0 ≡ get_or d₁ (place_of (blocks_of f) l k) 0) s.same (r.bytes k) h
        ∙ s.bytes k h;
  }

  merge_on : (t₁ d₁ : Bytes) → Still n l b t d t₁ d₁ → (work : List ℕ) (o : Beside Change) → MergePromise t₁ l work o → Still n l b t d o.given.table d₁
  merge_on t₁ d₁ s work o p =
      ⊎_elim (λ r. subst⁻¹ (λ (x : Bytes). Still n l b t d x d₁) r.table s)
      (λ v.
      let q : o.given.table ≡ merged n t₁ =
      ap (λ (x : Beside Change). x.given.table) v.is ∙ ap (λ (m : ℕ). merged m t₁) (blocks_of_lem n t₁ s.whole.room) in
      let f : SameFile n t₁ (merged n t₁) b = laws.merge_leaves n t₁ s.whole b s.file in
      subst⁻¹ (λ (x : Bytes). Still n l b t d x d₁) q
      (record { whole = laws.merge_whole n t₁ s.whole; long = s.long; file = f.file; same = f.same ∙ s.same; bytes = s.bytes }))
      (merge_cases t₁ l work o s.whole.bytes p)

  pub still_calls : {t' d' : Bytes} → Calls l b t d t' d' → Still n l b t d t' d'
  still_calls (away t' d' a) = still n l b t d w i a
  still_calls (merges t₁ d₁ t' d' c work o p a) =
      let s : Still n l b t d o.given.table d₁ = merge_on t₁ d₁ (still_calls c) work o p in
      on o.given.table d₁ t' d' s (still n l b o.given.table d₁ s.whole s.file a)

-- apart_merge: apart, with merges anywhere among the calls: a file that no call names stays a file with the same chain, and holds the same bytes
pub apart_merge : (l b : ℕ) (t d t' d' : Bytes) → AreBytes t → (Misfit t → ⊥) → (Outside t → ⊥) → Sound t (blocks t) → File t (blocks t) b → Calls l b t d t' d'
    → Stays l b t d t' d'
apart_merge l b t d t' d' g m u s i c =
    let n : ℕ = blocks t in
    let v = still_calls n l b t d (whole_of_fits t (are_bytes t g) (fits t m u) s) i c in
    record {
      file = v.file;
      chain = v.same;
      bytes = λ many pos h.
          ap (λ (f : List Run). bytes_at many d' l (blocks_of f) pos) v.same
          ∙ read_same many d d' l (blocks_of (file_at n t b)) pos (λ k x y. v.bytes k (omega (arith, y, h)));
    }
