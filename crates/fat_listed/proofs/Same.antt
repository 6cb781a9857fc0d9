-- With the list that open list gave, read_blocks and write_blocks give what read and write give; and each leaves one answer.
use mathlib.Core.Path.{◌≡◌, sym, ap, subst, subst⁻¹, ◌∙◌}
use mathlib.Core.List.{List, [], ◌∷◌, ◌++◌, append_assoc}
use mathlib.Core.Logic.{◌⊎◌, inl, inr, ⊎_elim}
use Prim.Native.Nat.{ℕ, zero, suc, ◌+◌, ◌-◌, ◌*◌, ◌/◌, ◌≤◌, ◌<◌}
use native.Mathlib.Omega.{arith}
use native.Mathlib.Numerals.{add-one}
use native.Mathlib.Nat.{mul-div_cancel, div-lt_iff_lt-mul}
use lib.ListN.{length, get_or, take, drop, get_or-append}
use lib.Seq.{take_at, get_or-append-add}
use Rattle.order.specs.First.{First}
use Rattle.order.specs.Giving.{giving}
use Rattle.order.specs.Gate.{cleared}
use Rattle.order.specs.Answer.{number_of}
use Rattle.order.specs.Answer.{Done}
use Rattle.order.proofs.One.{one}
use Rattle.order.proofs.Beside as rows
use Rattle.words.specs.Word.{AreBytes}
use Rattle.fat_node.specs.Entry.{Bytes}
use Rattle.fat_node.specs.Node.{Run}
use Rattle.fat_node.proofs.Nodes.{le_or_lt}
use Rattle.fat_node.specs.Sizes.{blocks, Misfit, Outside}
use Rattle.fat_node.proofs.Sizes.{fit, inside}
use Rattle.links.proofs.Held.{same_or}
use Rattle.fat_table.specs.Sound.{Sound, File}
use Rattle.fat_table.specs.Chain.{total, chain_at, file_at}
use Rattle.fat_test.specs.Gate.{InUse, block_gate, change_gate}
use Rattle.fat_promises.specs.Blocks.{blocks_from, blocks_of, bytes_at, written}
use Rattle.fat_promises.specs.Promise.{Beside, beside, Promise, ChangePromise, change_rows}
use Rattle.fat_promises.specs.Calls.{Carry, carry_gives, carry_rows, read_done, write_done, size_of, ReadPromise, WritePromise, Listing, list_gives, ListPromise}
use Rattle.fat_walk.specs.Volume.{Data}
use Rattle.fat_walk.specs.Inner.Chains.{Chain}
use Rattle.fat_walk.proofs.Blocks.{length_from, length_blocks}
use Rattle.fat_walk.proofs.Nodes.{mid_within}
use Rattle.fat_walk.proofs.Found.{file_from}
use Rattle.fat_listed.proofs.Tests.{fit_none}
use Rattle.fat_listed.specs.Listed.{Uneven, Unfit, Foreign, listed_own, listed_tests, write_tests, ReadBlocksPromise, WriteBlocksPromise}

-- one answer --------------------------------------------------------------------------------------------------------------

pub one_read_blocks : (d : Bytes) (l : ℕ) (list : List ℕ) (pos : ℕ) (buf : Bytes) (o o' : Carry) → ReadBlocksPromise d l list pos buf o → ReadBlocksPromise d l list pos buf o' → o ≡ o'
one_read_blocks d l list pos buf o o' p q =
    one (giving (λ a. carry_gives a buf) (listed_tests (length d) l list pos (length buf))) (carry_gives Done (bytes_at (length buf) d l list pos)) o o' p q

pub one_write_blocks : (d : Bytes) (l : ℕ) (list : List ℕ) (pos : ℕ) (buf : Bytes) (o o' : Carry) → WriteBlocksPromise d l list pos buf o → WriteBlocksPromise d l list pos buf o' → o ≡ o'
one_write_blocks d l list pos buf o o' p q =
    one (giving (λ a. carry_gives a d) (write_tests (length d) l list pos (length buf))) (carry_gives Done (written buf d l list pos)) o o' p q

-- read_only_write_blocks: with a block length that is not in use write_blocks leaves the data as they were
pub read_only_write_blocks : (d : Bytes) (l : ℕ) (list : List ℕ) (pos : ℕ) (buf : Bytes) (o : Carry) → (InUse l → ⊥) → WriteBlocksPromise d l list pos buf o → o.bytes ≡ d
read_only_write_blocks d l list pos buf o u (inl p) = ap (λ (x : Carry). x.bytes) p.1
read_only_write_blocks d l list pos buf o u (inr (_, inl p)) = ap (λ (x : Carry). x.bytes) p.1
read_only_write_blocks d l list pos buf o u (inr (_, inr (_, inl p))) = ap (λ (x : Carry). x.bytes) p.1
read_only_write_blocks d l list pos buf o u (inr (_, inr (_, inr (n, p)))) = absurd (n u)

-- a chain's blocks --------------------------------------------------------------------------------------------------------

from_below : (s b j : ℕ) → j < s → get_or (blocks_from s b) j 0 < b + s
from_below zero b j h = let z : ⊥ = omega arith in absurd z
from_below (suc s) b zero h = omega arith
from_below (suc s) b (suc j) h = omega (arith, from_below s (suc b) j (omega arith))

-- every block of a chain that stands is below n
blocks_below : (n : ℕ) (t : Bytes) (P c : List Run) → Chain n t (P ++ c) → (k : ℕ) → k < total c → get_or (blocks_of c) k 0 < n
blocks_below n t P [] h k e = let z : ⊥ = omega arith in absurd z
blocks_below n t P (x ∷ c) h k e = ⊎_elim (after (blocks_below n t (P ++ x ∷ []) c)) here (le_or_lt x.size k)
  where
    long : length (blocks_from x.size x.start) ≡ x.size
    long = length_from x.size x.start

    here : k < x.size → get_or (blocks_of (x ∷ c)) k 0 < n
    here z =
        subst⁻¹ (λ (y : ℕ). y < n) (get_or-append (blocks_from x.size x.start) (blocks_of c) 0 k (omega (arith, long, z)))
        (omega (arith, from_below x.size x.start k z, mid_within n t P x c h))

    after : (Chain n t ((P ++ x ∷ []) ++ c) → (j : ℕ) → j < total c → get_or (blocks_of c) j 0 < n) → x.size ≤ k → get_or (blocks_of (x ∷ c)) k 0 < n
    after rest z =
        let q : k ≡ length (blocks_from x.size x.start) + (k - x.size) = omega (arith, long, z) in
        let g : Chain n t ((P ++ x ∷ []) ++ c) = subst⁻¹ (Chain n t) (append_assoc P (x ∷ []) c) h in
        subst⁻¹ (λ (y : ℕ). get_or (blocks_of (x ∷ c)) y 0 < n) q
        (subst⁻¹ (λ (y : ℕ). y < n) (get_or-append-add (blocks_from x.size x.start) (blocks_of c) (k - x.size) 0)
        (rest g (k - x.size) (omega (arith, e, z))))

-- the theorem -------------------------------------------------------------------------------------------------------------

-- a file's blocks are below n. That the table is sound and that there is a file is said as the rows say it: that they do not apply
module _ (n : ℕ) (t : Bytes) (few : n ≤ 1000000) (long : length t ≡ 8 * (n + 1)) (s : (Sound t n → ⊥) → ⊥) (g : AreBytes t) (b : ℕ) (f : (File t n b → ⊥) → ⊥) where
  file_blocks : Sound t n → File t n b → (k : ℕ) → k < total (file_at n t b) → get_or (blocks_of (file_at n t b)) k 0 < n
  file_blocks v w k h =
      blocks_below n t [] (file_at n t b) (subst (λ (i : ℕ). Chain n t (chain_at t n i)) (add-one b) (file_from n t (record { few = few; room = long; sound = v }) (record { byte = g }) b w).chain) k h

  pub file_below : (k : ℕ) → k < total (file_at n t b) → get_or (blocks_of (file_at n t b)) k 0 < n
  file_below k h = ⊎_elim (λ z. absurd (s (λ v. f (λ w. omega (arith, file_blocks v w k h, z))))) (λ z. z) (le_or_lt n (get_or (blocks_of (file_at n t b)) k 0))

  file_some : 1 ≤ n
  file_some = ⊎_elim (λ z. z) (λ z. absurd (f (λ w. omega (arith, z, w.0.1)))) (le_or_lt 1 n)

  module _ (d l : ℕ) (D : Data n d l) (pos many : ℕ) (bytes : Bytes) (done : Carry) where
    count : d / l ≡ n
    count = ap (λ (x : ℕ). x / l) D.fits ∙ mul-div_cancel n D.some

    size : length (blocks_of (file_at n t b)) * l ≡ size_of n t l b
    size = ap (λ (x : ℕ). x * l) (length_blocks (file_at n t b))

    even : Uneven d l → ⊥
    even u = u (D.fits ∙ ap (λ (x : ℕ). x * l) (sym count))

    fits : Unfit d l → ⊥
    fits = fit_none d l D.some D.few (omega (arith, count, file_some)) (omega (arith, count, few))

    home : (size_of n t l b < pos + many → ⊥) → Foreign (d / l) (blocks_of (file_at n t b)) l pos many → ⊥
    home room (k, a, e, h) =
        ⊎_elim
        (λ z. omega (arith, h, count, file_below (k / l) ((div-lt_iff_lt-mul D.some).1 (omega (arith, e, z)))))
        (λ z. room z)
        (le_or_lt (pos + many) (size_of n t l b))

    -- the tests over the file's list are the rows of read and write
    own_same : (o : Carry) → First (giving (λ a. carry_gives a bytes) (listed_own d l (blocks_of (file_at n t b)) pos many)) done o → First (carry_rows n t l b pos many bytes) done o
    own_same o (inl p) = inr (f, inl (omega (arith, p.0, size), p.1))
    own_same o (inr (z, inl p)) = absurd (home (λ q. z (omega (arith, q, size))) p.0)
    own_same o (inr (z, inr (w, p))) = inr (f, inr ((λ q. z (omega (arith, q, size))), p))

    same : (o : Carry) → First (giving (λ a. carry_gives a bytes) (listed_tests d l (blocks_of (file_at n t b)) pos many)) done o → First (carry_rows n t l b pos many bytes) done o
    same o (inl p) = absurd (even p.0)
    same o (inr (x, inl p)) = absurd (fits p.0)
    same o (inr (x, inr (y, p))) = own_same o p

    change_same : (o : Carry) → First (giving (λ a. carry_gives a bytes) (write_tests d l (blocks_of (file_at n t b)) pos many)) done o
        → First (change_rows (λ a. carry_gives a bytes) l (carry_rows n t l b pos many bytes)) done o
    change_same o (inl p) = absurd (even p.0)
    change_same o (inr (x, inl p)) = absurd (fits p.0)
    change_same o (inr (x, inr (y, inl p))) = inl p
    change_same o (inr (x, inr (y, inr (z, p)))) = inr (z, own_same o p)

  module _ (d : Bytes) (l : ℕ) (D : Data n (length d) l) (pos : ℕ) (buf : Bytes) (o : Carry) where
    -- on a sound table, over the file's blocks: as the calls inside, which require soundness
    pub read_same : ReadBlocksPromise d l (blocks_of (file_at n t b)) pos buf o → First (carry_rows n t l b pos (length buf) buf) (read_done n t d l b pos buf) o
    read_same p = same (length d) l D pos (length buf) buf (read_done n t d l b pos buf) o p

    pub write_same : WriteBlocksPromise d l (blocks_of (file_at n t b)) pos buf o
        → First (change_rows (λ a. carry_gives a d) l (carry_rows n t l b pos (length buf) d)) (write_done n t d l b pos buf) o
    write_same p = change_same (length d) l D pos (length buf) d (write_done n t d l b pos buf) o p

-- what open list says where it answers Done
pub record Listed (t : Bytes) (d l b count : ℕ) (list : List ℕ) : Type 0 where
  pub misfit : (Misfit t ⊎ (d ≡ blocks t * l → ⊥)) → ⊥
  pub outside : (Outside t ⊎ (l < 1) ⊎ (65536 < l)) → ⊥
  pub sound : (Sound t (blocks t) → ⊥) → ⊥
  pub file : (File t (blocks t) b → ⊥) → ⊥
  pub is : take count list ≡ blocks_of (file_at (blocks t) t b)

module _ (t : Bytes) (d l b count : ℕ) (work work' list list' : List ℕ) where
  number : (o : Beside Listing) → beside (list_gives Done count list') work' ≡ o → 0 ≡ number_of o.given.answer
  number o e = ap (λ (o : Beside Listing). number_of o.given.answer) e

  pub listed : ListPromise t d l work b list (beside (list_gives Done count list') work') → Listed t d l b count list'
  unfolding Promise
  listed (inl p) = absurd (omega (arith, number _ p.1))
  listed (inr (m, inl p)) = absurd (omega (arith, number _ p.1))
  listed (inr (m, inr (i, inl p))) = absurd (omega (arith, number _ p.1))
  listed (inr (m, inr (i, inr (s, inl p)))) = absurd (omega (arith, number _ p.1))
  listed (inr (m, inr (i, inr (s, inr (u, inl p))))) = absurd (omega (arith, number _ p.1))
  listed (inr (m, inr (i, inr (s, inr (u, inr (x, inl p)))))) = absurd (omega (arith, number _ p.1))
  listed (inr (m, inr (i, inr (s, inr (u, inr (x, inr (y, p))))))) = record {
    misfit = m;
    outside = i;
    sound = u;
    file = x;
    is =
        let e : list' ≡ blocks_of (file_at (blocks t) t b) ++ drop (total (file_at (blocks t) t b)) list = ap (λ (o : Beside Listing). o.given.list) p in
        let c : count ≡ total (file_at (blocks t) t b) = ap (λ (o : Beside Listing). o.given.count) p in
        ap (take count) e ∙ take_at (blocks_of (file_at (blocks t) t b)) (drop (total (file_at (blocks t) t b)) list) count (length_blocks (file_at (blocks t) t b) ∙ sym c);
  }

-- with the list that open list gave, on any later work list: what read and write give, with the work list that they leave
module _ (t d : Bytes) (l b count : ℕ) (list : List ℕ) (g : AreBytes t) (w : Listed t (length d) l b count list) (work : List ℕ) (room : blocks t ≤ length work)
    (pos : ℕ) (buf : Bytes) (o : Carry) where
  volume_long : length t ≡ 8 * (blocks t + 1)
  volume_long = fit t (λ m. w.misfit (inl m))

  volume_data : Data (blocks t) (length d) l
  volume_data = record {
    some = ⊎_elim (λ h. h) (λ h. absurd (w.outside (inr (inl (omega (arith, h)))))) (le_or_lt 1 l);
    few = ⊎_elim (λ h. h) (λ h. absurd (w.outside (inr (inr h)))) (le_or_lt l 65536);
    fits = ⊎_elim (λ e. e) (λ e. absurd (w.misfit (inr e))) (same_or (length d) (blocks t * l));
  }

  pub opened_read : ReadBlocksPromise d l (take count list) pos buf o → ReadPromise t d l work b pos buf (beside o (cleared (blocks t) work))
  unfolding Promise
  opened_read p =
      rows.passed
      (block_gate (λ a w. beside (carry_gives a buf) w) t (length d) l work)
      (cleared (blocks t) work)
      (carry_rows (blocks t) t l b pos (length buf) buf)
      (read_done (blocks t) t d l b pos buf)
      o
      (w.misfit, (w.outside, ((λ z. omega (arith, z, room)), (w.sound, tt))))
      (read_same (blocks t) t (inside t (λ z. w.outside (inl z))).1 volume_long w.sound g b w.file d l volume_data pos buf o
      (subst (λ (x : List ℕ). ReadBlocksPromise d l x pos buf o) w.is p))

  pub opened_write : WriteBlocksPromise d l (take count list) pos buf o → WritePromise t d l work b pos buf (beside o (cleared (blocks t) work))
  unfolding ChangePromise
  opened_write p =
      go (write_same (blocks t) t (inside t (λ z. w.outside (inl z))).1 volume_long w.sound g b w.file d l volume_data pos buf o
      (subst (λ (x : List ℕ). WriteBlocksPromise d l x pos buf o) w.is p))
    where
      short : length work < blocks t → ⊥
      short z = omega (arith, z, room)

      go : First (change_rows (λ a. carry_gives a d) l (carry_rows (blocks t) t l b pos (length buf) d)) (write_done (blocks t) t d l b pos buf) o
          → WritePromise t d l work b pos buf (beside o (cleared (blocks t) work))
      go (inl q) =
          rows.refused
          (change_gate (λ a w. beside (carry_gives a d) w) t (length d) l work)
          (cleared (blocks t) work)
          (carry_rows (blocks t) t l b pos (length buf) d)
          (write_done (blocks t) t d l b pos buf)
          (beside o (cleared (blocks t) work))
          (inr (w.misfit, inr (w.outside, inr (short, inr (w.sound, inl (q.0, ap (λ (x : Carry). beside x (cleared (blocks t) work)) q.1))))))
      go (inr (n, q)) =
          rows.passed
          (change_gate (λ a w. beside (carry_gives a d) w) t (length d) l work)
          (cleared (blocks t) work)
          (carry_rows (blocks t) t l b pos (length buf) d)
          (write_done (blocks t) t d l b pos buf)
          o
          (w.misfit, (w.outside, (short, (w.sound, (n, tt)))))
          q
