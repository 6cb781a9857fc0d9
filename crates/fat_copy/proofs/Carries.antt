-- Read and write: along a chain, a node's share at a time.
use mathlib.Core.Path.{◌≡◌, refl, sym, ap, subst, subst⁻¹, ◌∙◌}
use mathlib.Core.List.{List, [], ◌∷◌, ◌++◌, append_assoc}
use mathlib.Core.Logic.{⊎_elim}
use Prim.Native.Nat.{ℕ, ◌+◌, ◌-◌, ◌*◌, ◌≤◌, ◌<◌}
use native.Mathlib.Omega.{arith}
use native.Mathlib.Nat.{add-mul, mul-le-mul_right, one-le-mul}
use lib.ListN.{length, take, drop, length-drop}
use lib.Seq.{sets, length-sets, length-take-le, take-add}
use Rattle.fat_node.specs.Entry.{Bytes}
use Rattle.fat_node.specs.Node.{Run, next_at}
use Rattle.fat_node.proofs.Nodes.{le_or_lt}
use Rattle.fat_table.specs.Chain.{total, size_at}
use Rattle.fat_table.specs.Steps.{first}
use Rattle.fat_promises.specs.Blocks.{blocks_of, bytes_at, written}
use Rattle.fat_walk.specs.Inner.Chains.{Standing, Chain}
use Rattle.fat_judge.specs.Inner.Stretches.{CursorAt, CarriesAt, StretchOf}
use Rattle.fat_table.proofs.Unchanged.{total_append}
use Rattle.fat_walk.proofs.Nodes.{mid_size, mid_next, mid_standing, mid_pos, mid_within}
use Rattle.fat_walk.proofs.Blocks.{sets_append}
use Rattle.fat_copy.proofs.Puts.{lent_back, sets_whole}
use Rattle.fat_copy.proofs.InRow.{length_bytes, bytes_split, bytes_row, written_append, written_row, InRow, in_row}

-- a stretch ---------------------------------------------------------------------------------------------------------------

module _ (n : ℕ) (t : Bytes) (c : List Run) (l p i f : ℕ) (h : Chain n t c) (w : CursorAt c l p i f) where
  at_chain : Chain n t (w.before ++ w.node ∷ w.after)
  at_chain = subst (Chain n t) w.is h

  at_block : w.node.start ≡ i - 1
  at_block = omega (arith, w.at)

  pub at_standing : Standing n t (i - 1)
  at_standing = subst (Standing n t) at_block (mid_standing n t w.before w.node w.after at_chain)

  at_size : size_at t (i - 1) ≡ w.node.size
  at_size = ap (size_at t) (sym at_block) ∙ mid_size n t w.before w.node w.after at_chain

  at_next : next_at t (i - 1) ≡ first w.after
  at_next = ap (next_at t) (sym at_block) ∙ mid_next n t w.before w.node w.after at_chain

  at_bytes : size_at t (i - 1) * l ≡ w.node.size * l
  at_bytes = ap (λ (x : ℕ). x * l) at_size

  pub at_fits : f ≤ size_at t (i - 1) * l
  at_fits = omega (arith, w.fits, at_bytes)

  module _ (want at len next : ℕ) (some : 1 ≤ want) (s : StretchOf t l (i - 1) f want at len next) where
    pub stretch_some : 1 ≤ len
    stretch_some = ⊎_elim
        (λ k. omega (arith, k, some))
        (λ k. omega (arith, s.all k, w.fits, at_bytes))
        (le_or_lt want len)

    place : at ≡ w.node.start * l + f
    place = s.place ∙ ap (λ (x : ℕ). x * l + f) (sym at_block)

    pub stretch_row : 0 < l → InRow (blocks_of c) l p at len
    stretch_row pos =
        subst⁻¹ (λ (x : List Run). InRow (blocks_of x) l p at len) w.is
        (subst⁻¹ (λ (a : ℕ). InRow (blocks_of (w.before ++ w.node ∷ w.after)) l p a len) place
        (in_row w.before w.node w.after l f len p pos (omega (arith, s.fits, at_bytes)) w.sum))

    pub stretch_data : at + len ≤ n * l
    stretch_data =
        omega (
          arith,
          place,
          s.fits,
          at_bytes,
          add-mul w.node.start w.node.size l,
          mul-le-mul_right l (mid_within n t w.before w.node w.after at_chain),
        )

    -- where the file goes on after the node's last byte, it does so at the next node's first
    pub stretch_next : 0 < l → len < want → p + len < total c * l → CursorAt c l (p + len) next 0
    stretch_next pos k e = go w.after refl
      where
        full : p + len ≡ (total w.before + w.node.size) * l
        full = omega (arith, w.sum, s.all k, at_bytes, add-mul (total w.before) w.node.size l)

        whole : (A : List Run) → w.after ≡ A → total c ≡ total w.before + (w.node.size + total A)
        whole A q = ap total w.is ∙ total_append w.before (w.node ∷ w.after) ∙ ap (λ (x : List Run). total w.before + (w.node.size + total x)) q

        go : (A : List Run) → w.after ≡ A → CursorAt c l (p + len) next 0
        go [] q =
            let r : total c ≡ total w.before + w.node.size = whole [] q ∙ omega arith in
            let z : ⊥ = omega (arith, full, e, ap (λ (x : ℕ). x * l) r) in
            absurd z
        go (y ∷ A) q =
            let g : c ≡ (w.before ++ w.node ∷ []) ++ y ∷ A =
            w.is ∙ ap (λ (x : List Run). w.before ++ w.node ∷ x) q ∙ sym (append_assoc w.before (w.node ∷ []) (y ∷ A)) in
            let o : total (w.before ++ w.node ∷ []) ≡ total w.before + w.node.size = total_append w.before (w.node ∷ []) ∙ omega arith in
            record {
              before = w.before ++ w.node ∷ [];
              node = y;
              after = A;
              is = g;
              at = s.on ∙ at_next ∙ ap first q;
              sum = omega (arith, full, ap (λ (x : ℕ). x * l) o);
              fits = one-le-mul (mid_pos n t (w.before ++ w.node ∷ []) y A (subst (Chain n t) g h)) pos;
            }

-- a part of a list, as long as asked
pub part_length : (s : List ℕ) (a k : ℕ) → a + k ≤ length s → length (take k (drop a s)) ≡ k
part_length s a k h = length-take-le k (drop a s) (omega (arith, h, length-drop a s))

-- read --------------------------------------------------------------------------------------------------------------------

-- done bytes of the file are in the buffer; the next is byte f of the node that index i names
pub record Reading (c : List Run) (d : Bytes) (l pos : ℕ) (buf₀ buf : Bytes) (i f done : ℕ) : Type 0 where
  pub is : buf ≡ sets buf₀ 0 (bytes_at done d l (blocks_of c) pos)
  pub upto : done ≤ length buf₀
  pub at : done < length buf₀ → CursorAt c l (pos + done) i f

pub read_end : (c : List Run) (d : Bytes) (l pos : ℕ) (buf₀ buf : Bytes) (i f done : ℕ) → Reading c d l pos buf₀ buf i f done → length buf₀ ≤ done
    → buf ≡ bytes_at (length buf₀) d l (blocks_of c) pos
read_end c d l pos buf₀ buf i f done w h =
    let e : done ≡ length buf₀ = omega (arith, w.upto, h) in
    w.is
    ∙ sets_whole (bytes_at done d l (blocks_of c) pos) buf₀ (length_bytes done d l (blocks_of c) pos ∙ e)
    ∙ ap (λ (x : ℕ). bytes_at x d l (blocks_of c) pos) e

-- write -------------------------------------------------------------------------------------------------------------------

-- done bytes of the buffer are in the file; the next goes to byte f of the node that index i names
pub record Writing (c : List Run) (buf : Bytes) (l pos : ℕ) (d₀ d : Bytes) (i f done : ℕ) : Type 0 where
  pub is : d ≡ written (take done buf) d₀ l (blocks_of c) pos
  pub upto : done ≤ length buf
  pub at : done < length buf → CursorAt c l (pos + done) i f

-- a turn ------------------------------------------------------------------------------------------------------------------

module _ {n : ℕ} {t : Bytes} {c : List Run} {l pos i₀ f₀ i f done many at len next : ℕ} (y : CarriesAt n t l c pos many i₀ f₀) (g : 0 < l) (k : done < many)
    (x : done < many → CursorAt c l (pos + done) i f) (s : StretchOf t l (i - 1) f (many - done) at len next) where
  abbrev h : Chain n t c
  h = y.stands

  abbrev w : CursorAt c l (pos + done) i f
  w = x k

  -- where bytes are left after this turn
  turn_at : done + len < many → CursorAt c l (pos + (done + len)) next 0
  turn_at e =
      let q : pos + done + len ≡ pos + (done + len) = omega arith in
      subst (λ (x : ℕ). CursorAt c l x next 0) q
      (stretch_next n t c l (pos + done) i f h w (many - done) at len next (omega (arith, k)) s g (omega (arith, e, k)) (omega (arith, e, y.room)))

  turn_row : InRow (blocks_of c) l (pos + done) at len
  turn_row = stretch_row n t c l (pos + done) i f h w (many - done) at len next (omega (arith, k)) s g

  pub turn_some : 1 ≤ len
  turn_some = stretch_some n t c l (pos + done) i f h w (many - done) at len next (omega (arith, k)) s

  pub turn_upto : done + len ≤ many
  turn_upto = omega (arith, s.most, k)

  pub turn_data : at + len ≤ n * l
  turn_data = stretch_data n t c l (pos + done) i f h w (many - done) at len next (omega (arith, k)) s

  module _ (d buf₀ buf part : Bytes) (e e' : ℕ) (eb : length buf₀ ≡ many) (ed : length d ≡ n * l) (r : Reading c d l pos buf₀ buf i f done) (q : e ≡ len) (q' : e' ≡ len)
      (v : part ≡ take e' (drop at d)) where
    part_is : part ≡ take len (drop at d)
    part_is = v ∙ ap (λ (x : ℕ). take x (drop at d)) q'

    part_long : length part ≡ e
    part_long = ap length part_is ∙ part_length d at len (omega (arith, turn_data, ed)) ∙ sym q

    buf_long : length buf ≡ length buf₀
    buf_long = ap length r.is ∙ length-sets buf₀ 0 (bytes_at done d l (blocks_of c) pos)

    part_back : take done buf ++ (part ++ drop e (drop done buf)) ≡ sets buf done part
    part_back = lent_back buf part done e part_long (omega (arith, buf_long, eb, q, turn_upto))

    pub read_turn : Reading c d l pos buf₀ (take done buf ++ (part ++ drop e (drop done buf))) next 0 (done + len)
    read_turn =
        let B : List ℕ = blocks_of c in
        let pb : part ≡ bytes_at len d l B (pos + done) = part_is ∙ sym (bytes_row len d l B (pos + done) at turn_row (omega (arith, turn_data, ed))) in
        let a : done ≡ 0 + length (bytes_at done d l B pos) = omega (arith, length_bytes done d l B pos) in
        record {
          is =
              part_back
              ∙ ap (λ (x : Bytes). sets x done part) r.is
              ∙ ap (λ (x : ℕ). sets (sets buf₀ 0 (bytes_at done d l B pos)) x part) a
              ∙ sym (sets_append (bytes_at done d l B pos) part buf₀ 0)
              ∙ ap (λ (x : Bytes). sets buf₀ 0 (bytes_at done d l B pos ++ x)) pb
              ∙ ap (sets buf₀ 0) (sym (bytes_split done len d l B pos));
          upto = omega (arith, eb, turn_upto);
          at = λ z. turn_at (omega (arith, z, eb));
        }

  module _ (d₀ d d' buf part : Bytes) (e : ℕ) (eb : length buf ≡ many) (r : Writing c buf l pos d₀ d i f done) (q : e ≡ len) (u : part ≡ take e (drop done buf))
      (v : d' ≡ sets d at part) where
    share_is : part ≡ take len (drop done buf)
    share_is = u ∙ ap (λ (x : ℕ). take x (drop done buf)) q

    pub write_turn : Writing c buf l pos d₀ d' next 0 (done + len)
    write_turn =
        let B : List ℕ = blocks_of c in
        let lp : length part ≡ len = ap length share_is ∙ part_length buf done len (omega (arith, eb, turn_upto)) in
        let lt : length (take done buf) ≡ done = length-take-le done buf r.upto in
        record {
          is =
              v
              ∙ sym (written_row part d l B (pos + done) at (subst⁻¹ (InRow B l (pos + done) at) lp turn_row))
              ∙ ap (λ (x : Bytes). written part x l B (pos + done)) r.is
              ∙ ap (λ (x : ℕ). written part (written (take done buf) d₀ l B pos) l B (pos + x)) (sym lt)
              ∙ sym (written_append (take done buf) part d₀ l B pos)
              ∙ ap (λ (x : Bytes). written x d₀ l B pos) (ap (λ (x : Bytes). take done buf ++ x) share_is ∙ sym (take-add done len buf));
          upto = omega (arith, eb, turn_upto);
          at = λ z. turn_at (omega (arith, z, eb));
        }
