-- The theorems of the block layer over whole histories. Their statements name definitions of specs/ alone.
use mathlib.Core.Path.{◌≡◌, sym, ap, subst⁻¹, ◌∙◌}
use mathlib.Core.List.{List, Memᴰ}
use mathlib.Core.Logic.{◌≢◌, ◌⊎◌, inl, inr, ⊎_elim}
use Prim.Native.Nat.{ℕ, ◌+◌, ◌*◌, ◌≤◌, ◌<◌}
use native.Mathlib.Omega.{arith}
use lib.ListN.{length}
use Rattle.order.specs.Answer.{Done}
use Rattle.fat_node.specs.Entry.{Bytes}
use Rattle.fat_node.specs.Sizes.{blocks, Misfit, Outside}
use Rattle.fat_node.specs.Format.{formatted, FormatPromise}
use Rattle.order.specs.Answer.{Answer}
use Rattle.fat_node.specs.Node as nodes-of
use Rattle.fat_table.specs.Sound.{Sound, File}
use Rattle.fat_table.specs.Chain.{total, file_at}
use Rattle.fat_table.specs.Steps.{created, resized, deleted}
use Rattle.fat_table.specs.Agree.{Agree}
use Rattle.fat_table.proofs.Files.{Whole, whole_formatted, whole_created, whole_resized, whole_deleted}
use Rattle.fat_test.specs.Gate.{retired}
use Rattle.fat_test.specs.Promise.{TestPromise}
use Rattle.fat_test.specs.Promise.{Tested}
use Rattle.fat_promises.specs.Promise.{Beside}
use Rattle.fat_promises.specs.Blocks.{blocks_of, place_of, bytes_at, written}
use Rattle.fat_promises.specs.Calls.{Create, CreatePromise, Change, ResizePromise, DeletePromise, Carry, MayCarry, ReadPromise, write_done, WritePromise, size_of}
use Rattle.words.specs.Word.{AreBytes}
use Rattle.fat_history.specs.History.{History}
use Rattle.fat_history.specs.OneChain.{OneChain}
use Rattle.fat_history.specs.Away.{Away, none, writes}
use Rattle.fat_history.specs.KeptBy.{KeptBy}
use Rattle.fat_history.proofs.Passes.{are_bytes, Fits, Passed, fits, whole_of_fits}
use Rattle.fat_history.proofs.Means.{Went, format_means, create_means, create_keeps, resize_means, resize_keeps, delete_means, delete_keeps, read_means, read_gives, write_means, write_keeps, test_means, test_accepts}
use Rattle.fat_history.proofs.Honest.{blocks_of_lem, as_blocks, run_sound, sound_run}
use Rattle.fat_history.proofs.Lies.{one_chain_of}
use Rattle.fat_history.proofs.Places.{occurs_mem, places_differ, place_low, length_written, written_other, written_at, read_same, read_is}
use Rattle.fat_history.proofs.Apart.{Still, still, blocks_once, blocks_low, blocks_apart, below_end}

-- honest: the test of a table of 1 to 1,000,000 blocks answers Done exactly when some run of format and then create, resize and delete, each answered
-- Done, ends in a table equal to it in every entry that the rules read
pub honest : (t : Bytes) (work : List ℕ) (o : Tested × List ℕ) → AreBytes t → (Misfit t → ⊥) → (Outside t → ⊥) → blocks t ≤ length work → TestPromise t work o
    → (o.0.answer ≡ Done → (k : ℕ) × (t' : Bytes) × History k t' × Agree (blocks t) t t')
    × ((k : ℕ) (t' : Bytes) → History k t' → Agree (blocks t) t t' → o.0.answer ≡ Done)
honest t work o g m u h p =
    let f : Fits t = fits t m u in (
      λ e. let r = sound_run t g f (test_means t work o (are_bytes t g) p e).1 in (r.k, r.end, r.run_to, r.agrees),
      λ k t' r a. test_accepts t work o f h (run_sound t t' k r a) p,
    )

-- one_chain: in an accepted table each block lies in exactly one chain, the free one or one file's
pub one_chain : (t : Bytes) (work : List ℕ) (o : Tested × List ℕ) → AreBytes t → TestPromise t work o → o.0.answer ≡ Done → (x : ℕ) → x < blocks t
    → OneChain (blocks t) t x
one_chain t work o g p e x h =
    let w = test_means t work o (are_bytes t g) p e in
    one_chain_of (blocks t) t (whole_of_fits t (are_bytes t g) w.0 w.1) x h

-- kept: every call answered Done leaves a sound table of the same length, and every refusal leaves the table as it was -------------------------------

sound_now : (n : ℕ) (t t' : Bytes) → length t ≡ 8 * (n + 1) → Whole n t' → Sound t' (blocks t') × (length t' ≡ length t)
sound_now n t t' e w = ((as_blocks n t' w).sound, w.room ∙ sym e)

pub kept_format : (t t' : Bytes) (r : Answer) → AreBytes t → FormatPromise t r t' → KeptBy t r t'
kept_format t t' r g p = (done, refused p)
  where
    done : r ≡ Done → Sound t' (blocks t') × (length t' ≡ length t)
    done e =
        let w = format_means t t' r p e in
        let f : Fits t = w.0 in
        subst⁻¹ (λ (x : Bytes). Sound x (blocks x) × (length x ≡ length t)) w.1
        (sound_now (blocks t) t (formatted (blocks t) t) f.room (whole_formatted (blocks t) t f.some f.few (are_bytes t g) f.room))

    refused : FormatPromise t r t' → (r ≡ Done → ⊥) → t' ≡ t
    refused (inl q) e = ap (λ (x : Answer × Bytes). x.1) q.1
    refused (inr (_, inl q)) e = ap (λ (x : Answer × Bytes). x.1) q.1
    refused (inr (_, inr (_, q))) e = absurd (e (ap (λ (x : Answer × Bytes). x.0) q))

module _ (t : Bytes) (d l : ℕ) (work : List ℕ) (g : AreBytes t) where
  pub kept_create : (count : ℕ) (o : Beside Create) → CreatePromise t d l work count o → KeptBy t o.given.answer o.given.table
  kept_create count o p = (
    λ e.
        let w = create_means t d l work count o (are_bytes t g) p e in
        let m = w.may in
        let v : Whole (blocks t) t = w.passed.whole in
        subst⁻¹ (λ (x : Bytes). Sound x (blocks x) × (length x ≡ length t)) (ap (λ (x : Beside Create). x.given.table) w.is)
        (sound_now (blocks t) t (created (blocks t) t count) v.room (whole_created (blocks t) t v count m.some m.enough)),
    λ e. ⊎_elim (λ q. q) (λ w. absurd (e (ap (λ (x : Beside Create). x.given.answer) w.is))) (create_keeps t d l work count o (are_bytes t g) p),
  )

  pub kept_resize : (b count : ℕ) (o : Beside Change) → ResizePromise t d l work b count o → KeptBy t o.given.answer o.given.table
  kept_resize b count o p = (
    λ e.
        let w = resize_means t d l work b count o (are_bytes t g) p e in
        let m = w.may in
        let v : Whole (blocks t) t = w.passed.whole in
        subst⁻¹ (λ (x : Bytes). Sound x (blocks x) × (length x ≡ length t)) (ap (λ (x : Beside Change). x.given.table) w.is)
        (sound_now (blocks t) t (resized (blocks t) t b count) v.room (whole_resized (blocks t) t v b count m.file m.some m.enough)),
    λ e. ⊎_elim (λ q. q) (λ w. absurd (e (ap (λ (x : Beside Change). x.given.answer) w.is))) (resize_keeps t d l work b count o (are_bytes t g) p),
  )

  pub kept_delete : (b : ℕ) (o : Beside Change) → DeletePromise t d l work b o → KeptBy t o.given.answer o.given.table
  kept_delete b o p = (
    λ e.
        let w = delete_means t d l work b o (are_bytes t g) p e in
        let m = w.may in
        let v : Whole (blocks t) t = w.passed.whole in
        subst⁻¹ (λ (x : Bytes). Sound x (blocks x) × (length x ≡ length t)) (ap (λ (x : Beside Change). x.given.table) w.is)
        (sound_now (blocks t) t (deleted (blocks t) t b) v.room (whole_deleted (blocks t) t v b m.file)),
    λ e. ⊎_elim (λ q. q) (λ w. absurd (e (ap (λ (x : Beside Change). x.given.answer) w.is))) (delete_keeps t d l work b o (are_bytes t g) p),
  )

-- a refused write leaves the data as it was; the table it is lent unchangeable
pub kept_write : (t d : Bytes) (l : ℕ) (work : List ℕ) (b pos : ℕ) (buf : Bytes) (o : Beside Carry) → AreBytes t → WritePromise t d l work b pos buf o
    → (o.given.answer ≡ Done → ⊥) → o.given.bytes ≡ d
kept_write t d l work b pos buf o g p e =
    ⊎_elim (λ q. q) (λ w. absurd (e (ap (λ (x : Beside Carry). x.given.answer) w.is))) (write_keeps t d l work b pos buf o (are_bytes t g) p)

-- apart: over any run of calls from a sound table, a file that no call names stays a file with the same chain and reads the same bytes -------------------

pub apart : (l b : ℕ) (t d t' d' : Bytes) → AreBytes t → (Misfit t → ⊥) → (Outside t → ⊥) → Sound t (blocks t) → File t (blocks t) b → Away l b t d t' d'
    → File t' (blocks t) b
    × (file_at (blocks t) t' b ≡ file_at (blocks t) t b)
    × ((many pos : ℕ)
    → pos + many ≤ size_of (blocks t) t l b
    → bytes_at many d' l (blocks_of (file_at (blocks t) t' b)) pos ≡ bytes_at many d l (blocks_of (file_at (blocks t) t b)) pos)
apart l b t d t' d' g m u s i a =
    let n : ℕ = blocks t in
    let v = still n l b t d (whole_of_fits t (are_bytes t g) (fits t m u) s) i a in (
      v.file,
      v.same,
      λ many pos h.
          ap (λ (f : List nodes-of.Run). bytes_at many d' l (blocks_of f) pos) v.same
          ∙ read_same many d d' l (blocks_of (file_at n t b)) pos (λ k x y. v.bytes k (omega (arith, y, h))),
    )

-- no write changes a byte of another file
pub write_apart : (l b c pos : ℕ) (t d buf : Bytes) (work : List ℕ) (o : Beside Carry) → AreBytes t → (Misfit t → ⊥) → (Outside t → ⊥) → Sound t (blocks t)
    → File t (blocks t) b
    → c ≢ b
    → WritePromise t d l work c pos buf o
    → (many at : ℕ)
    → at + many ≤ size_of (blocks t) t l b
    → bytes_at many o.given.bytes l (blocks_of (file_at (blocks t) t b)) at ≡ bytes_at many d l (blocks_of (file_at (blocks t) t b)) at
write_apart l b c pos t d buf work o g m u s i ne p = (apart l b t d t o.given.bytes g m u s i (writes t d none work c pos buf o ne p)).2

-- two files never share a block
pub files_apart : (t : Bytes) (b c x : ℕ) → AreBytes t → (Misfit t → ⊥) → (Outside t → ⊥) → Sound t (blocks t) → File t (blocks t) b → File t (blocks t) c → b ≢ c
    → Memᴰ x (blocks_of (file_at (blocks t) t b))
    → Memᴰ x (blocks_of (file_at (blocks t) t c))
    → ⊥
files_apart t b c x g m u s i j ne p q =
    omega (
      arith,
      blocks_apart (blocks t) t (whole_of_fits t (are_bytes t g) (fits t m u) s) b c i j ne x,
      occurs_mem p,
      occurs_mem q,
    )

-- read back: what a write put is what a read of the same place gives, and a read beside it gives what it gave before, also after calls that name other
-- files -------------------------------------------------------------------------------------------------------------------------------------------------

-- a read after the run, where one before it may be done
module _ (l b : ℕ) (t d t' d' : Bytes) (work work' : List ℕ) (pos many : ℕ) (v : Still (blocks t) l b t d t' d') where
  same_blocks : blocks t' ≡ blocks t
  same_blocks = blocks_of_lem (blocks t) t' v.whole.room

  passed_after : Passed t (length d) l work → blocks t ≤ length work' → Passed t' (length d') l work'
  passed_after q k = record {
    whole = as_blocks (blocks t) t' v.whole;
    some = omega (arith, same_blocks, q.some);
    data_fits = v.long ∙ q.data_fits ∙ ap (λ (x : ℕ). x * l) (sym same_blocks);
    length_fits = q.length_fits;
    work_fits = omega (arith, same_blocks, k);
  }

  may_after : pos + many ≤ size_of (blocks t) t l b → MayCarry (blocks t') t' l b pos many
  may_after h = record {
    file = subst⁻¹ (λ (x : ℕ). File t' x b) same_blocks v.file;
    enough = subst⁻¹ (λ (x : ℕ). pos + many ≤ total (file_at x t' b) * l) same_blocks
        (subst⁻¹ (λ (f : List nodes-of.Run). pos + many ≤ total f * l) v.same h);
  }

-- apart, by the promise of read: a read of a file that no call of the run names is answered Done after it as before, with the same bytes
pub apart_read : (l b pos : ℕ) (t d t' d' : Bytes) (work work' : List ℕ) (buf buf' : Bytes) (r r' : Beside Carry) → AreBytes t → Away l b t d t' d'
    → ReadPromise t d l work b pos buf r
    → r.given.answer ≡ Done
    → length buf' ≡ length buf
    → blocks t ≤ length work'
    → ReadPromise t' d' l work' b pos buf' r'
    → (r'.given.answer ≡ Done) × (r'.given.bytes ≡ r.given.bytes)
apart_read l b pos t d t' d' work work' buf buf' r r' g a p done e k q =
    let n : ℕ = blocks t in
    let v = read_means t d l work b pos buf r (are_bytes t g) p done in
    let s : Still n l b t d t' d' = still n l b t d v.passed.whole v.may.file a in
    let h : pos + length buf' ≤ size_of n t l b = subst⁻¹ (λ (x : ℕ). pos + x ≤ size_of n t l b) e v.may.enough in
    let z = read_gives t' d' l work' b pos buf' r' (passed_after l b t d t' d' work work' pos (length buf') s v.passed k)
    (may_after l b t d t' d' work work' pos (length buf') s h) q in (
      ap (λ (x : Beside Carry). x.given.answer) z,
      ap (λ (x : Beside Carry). x.given.bytes) z
          ∙ ap (λ (x : ℕ). bytes_at (length buf') d' l (blocks_of (file_at x t' b)) pos) (blocks_of_lem n t' s.whole.room)
          ∙ ap (λ (f : List nodes-of.Run). bytes_at (length buf') d' l (blocks_of f) pos) s.same
          ∙ read_same (length buf') d d' l (blocks_of (file_at n t b)) pos (λ x y w. s.bytes x (omega (arith, w, h)))
          ∙ ap (λ (x : ℕ). bytes_at x d l (blocks_of (file_at n t b)) pos) e
          ∙ sym (ap (λ (x : Beside Carry). x.given.bytes) v.is),
    )

module _ (l b : ℕ) (t d : Bytes) (work : List ℕ) (pos : ℕ) (buf : Bytes) (o : Beside Carry) (t' d' : Bytes) (g : AreBytes t)
    (p : WritePromise t d l work b pos buf o) (done : o.given.answer ≡ Done) (a : Away l b t o.given.bytes t' d') where
  wrote : Went t (length d) l (retired l) work (MayCarry (blocks t) t l b pos (length buf)) (write_done (blocks t) t d l b pos buf) o
  wrote = write_means t d l work b pos buf o (are_bytes t g) p done

  now_is : o.given.bytes ≡ written buf d l (blocks_of (file_at (blocks t) t b)) pos
  now_is = ap (λ (x : Beside Carry). x.given.bytes) wrote.is

  after : Still (blocks t) l b t o.given.bytes t' d'
  after = still (blocks t) l b t o.given.bytes wrote.passed.whole wrote.may.file a

  long : length o.given.bytes ≡ length d
  long = ap {B = ℕ} length now_is ∙ length_written buf d l (blocks_of (file_at (blocks t) t b)) pos

  passed_now : Passed t (length o.given.bytes) l work
  passed_now = subst⁻¹ (λ (x : ℕ). Passed t x l work) long wrote.passed

  -- what a read after the run gives, in terms of the data after the write
  reads_now : (work' : List ℕ) (at : ℕ) (buf' : Bytes) (r : Beside Carry) → blocks t ≤ length work' → at + length buf' ≤ size_of (blocks t) t l b
      → ReadPromise t' d' l work' b at buf' r
      → (r.given.answer ≡ Done) × (r.given.bytes ≡ bytes_at (length buf') o.given.bytes l (blocks_of (file_at (blocks t) t b)) at)
  reads_now work' at buf' r k h q =
      let n : ℕ = blocks t in
      let e : blocks t' ≡ n = blocks_of_lem n t' after.whole.room in
      let z = read_gives t' d' l work' b at buf' r (passed_after l b t o.given.bytes t' d' work work' at (length buf') after passed_now k)
      (may_after l b t o.given.bytes t' d' work work' at (length buf') after h) q in (
        ap (λ (x : Beside Carry). x.given.answer) z,
        ap (λ (x : Beside Carry). x.given.bytes) z
            ∙ ap (λ (x : ℕ). bytes_at (length buf') d' l (blocks_of (file_at x t' b)) at) e
            ∙ ap (λ (f : List nodes-of.Run). bytes_at (length buf') d' l (blocks_of f) at) after.same
            ∙ read_same (length buf') o.given.bytes d' l (blocks_of (file_at n t b)) at (λ x y w. after.bytes x (omega (arith, w, h))),
      )

  -- a read of the same place is answered Done and gives the bytes that were written
  pub read_back : (work' : List ℕ) (buf' : Bytes) (r : Beside Carry) → blocks t ≤ length work' → length buf' ≡ length buf → ReadPromise t' d' l work' b pos buf' r
      → (r.given.answer ≡ Done) × (r.given.bytes ≡ buf)
  read_back work' buf' r k e q =
      let n : ℕ = blocks t in
      let C : List ℕ = blocks_of (file_at n t b) in
      let w : Whole n t = wrote.passed.whole in
      let lp : 0 < l = omega (arith, wrote.passed.length_fits.0) in
      let en : pos + length buf ≤ size_of n t l b = wrote.may.enough in
      let low : (x : ℕ) → x < pos + length buf → x < length C * l = λ x h. below_end n t w b l x (omega (arith, h, en)) in
      let z = reads_now work' pos buf' r k (subst⁻¹ (λ (x : ℕ). pos + x ≤ size_of n t l b) e en) q in (
        z.0,
        z.1
            ∙ ap (λ (x : ℕ). bytes_at x o.given.bytes l C pos) e
            ∙ ap (λ (y : Bytes). bytes_at (length buf) y l C pos) now_is
            ∙ read_is buf (written buf d l C pos) l C pos
            (written_at buf d l C pos
            (λ x y h m. places_differ l lp C (blocks_once n t w b wrote.may.file) x y (low x h) (low y m))
            (λ x h.
            subst⁻¹ (λ (y : ℕ). place_of C l x < y) wrote.passed.data_fits
            (place_low l lp C n x (blocks_low n t w b wrote.may.file) (low x h)))),
      )

  -- a read beside it, which before the write was answered Done, is answered Done and gives what it gave
  pub read_beside : (work₀ work' : List ℕ) (at : ℕ) (buf₀ buf' : Bytes) (r₀ r : Beside Carry) → (at + length buf' ≤ pos) ⊎ (pos + length buf ≤ at)
      → length buf' ≡ length buf₀
      → blocks t ≤ length work'
      → ReadPromise t d l work₀ b at buf₀ r₀
      → r₀.given.answer ≡ Done
      → ReadPromise t' d' l work' b at buf' r
      → (r.given.answer ≡ Done) × (r.given.bytes ≡ r₀.given.bytes)
  read_beside work₀ work' at buf₀ buf' r₀ r away e k p₀ d₀ q =
      let n : ℕ = blocks t in
      let C : List ℕ = blocks_of (file_at n t b) in
      let w : Whole n t = wrote.passed.whole in
      let lp : 0 < l = omega (arith, wrote.passed.length_fits.0) in
      let en : pos + length buf ≤ size_of n t l b = wrote.may.enough in
      let v = read_means t d l work₀ b at buf₀ r₀ (are_bytes t g) p₀ d₀ in
      let en₀ : at + length buf₀ ≤ size_of n t l b = v.may.enough in
      let en' : at + length buf' ≤ size_of n t l b = subst⁻¹ (λ (x : ℕ). at + x ≤ size_of n t l b) e en₀ in
      let z = reads_now work' at buf' r k en' q in (
        z.0,
        z.1
            ∙ ap (λ (y : Bytes). bytes_at (length buf') y l C at) now_is
            ∙ read_same (length buf') d (written buf d l C pos) l C at
            (λ x h m.
            written_other buf d l C pos (place_of C l x)
            (λ i y c.
            let same : x ≡ pos + i =
            places_differ l lp C (blocks_once n t w b wrote.may.file) x (pos + i) (below_end n t w b l x (omega (arith, m, en')))
            (below_end n t w b l (pos + i) (omega (arith, y, en))) c in
            ⊎_elim (λ s. omega (arith, s, same, h, m, y)) (λ s. omega (arith, s, same, h, m, y)) away))
            ∙ ap (λ (x : ℕ). bytes_at x d l C at) e
            ∙ sym (ap (λ (x : Beside Carry). x.given.bytes) v.is),
      )
