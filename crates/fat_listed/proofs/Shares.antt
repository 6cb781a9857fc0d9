-- Read and write along a list of blocks, a block's share at a time.
use mathlib.Core.Path.{◌≡◌, refl, sym, ap, subst, subst⁻¹, ◌∙◌}
use mathlib.Core.List.{List, ◌++◌}
use mathlib.Core.Logic.{⊎_elim}
use Prim.Native.Nat.{ℕ, suc, ◌+◌, ◌-◌, ◌*◌, ◌/◌, ◌%◌, ◌≤◌, ◌<◌}
use native.Mathlib.Omega.{arith}
use native.Mathlib.Nat.{suc-mul, mod-lt, div-add-mod', div-eq_of_lt, mod-eq_of_lt, mul-add-div_right, mul-add-mod_self_right, mul-le-mul, mul-le-mul_right}
use lib.ListN.{length, get_or, take, drop}
use Rattle.std.specs.Prelude.{min}
use lib.Seq.{sets, length-sets, length-take-le, take-length, take-add}
use Rattle.fat_node.specs.Entry.{Bytes}
use Rattle.fat_node.proofs.Nodes.{le_or_lt}
use Rattle.fat_promises.specs.Blocks.{place_of, bytes_at, written}
use Rattle.fat_walk.proofs.Blocks.{sets_append}
use Rattle.fat_copy.proofs.Puts.{lent_back, sets_whole}
use Rattle.fat_copy.proofs.InRow.{length_bytes, bytes_split, bytes_row, written_append, written_row, InRow}
use Rattle.fat_copy.proofs.Carries.{part_length}
use Rattle.fat_listed.specs.Shares.{Domestic, ShareOf, Touched}
use Rattle.fat_listed.proofs.Seen.{touched_at}

-- byte p of what is listed is byte f of the block at place i
pub record At (l p i f : ℕ) : Type 0 where
  pub sum : p ≡ i * l + f
  pub fits : f < l

module _ (l p i f : ℕ) (w : At l p i f) where
  -- its place in the list, also a few bytes on
  at_div : (j : ℕ) → f + j < l → (p + j) / l ≡ i
  at_div j h =
      let e : p + j ≡ i * l + (f + j) = omega (arith, w.sum) in
      ap (λ (x : ℕ). x / l) e ∙ mul-add-div_right (omega (arith, h)) i (f + j) ∙ omega (arith, div-eq_of_lt h)

  at_mod : (j : ℕ) → f + j < l → (p + j) % l ≡ f + j
  at_mod j h =
      let e : p + j ≡ i * l + (f + j) = omega (arith, w.sum) in
      ap (λ (x : ℕ). x % l) e ∙ mul-add-mod_self_right i l (f + j) ∙ mod-eq_of_lt h

  at_row : (list : List ℕ) (m : ℕ) → f + m ≤ l → InRow list l p (get_or list i 0 * l + f) m
  unfolding place_of
  at_row list m h j k =
      let q : f + j < l = omega (arith, h, k) in
      let e : get_or list ((p + j) / l) 0 * l ≡ get_or list i 0 * l = ap (λ (x : ℕ). get_or list x 0 * l) (at_div j q) in
      omega (arith, e, at_mod j q)

-- a share -----------------------------------------------------------------------------------------------------------------

pub share_few : (b l : ℕ) → b ≤ 1000000 → l ≤ 65536 → b * l ≤ 65536000000
share_few b l h k = omega (arith, mul-le-mul {n₁ = b} {m₁ = l} {n₂ = 1000000} {m₂ = 65536} h k)

pub share_says : (b l f want len : ℕ) → f < l → len ≡ min want (l - f) → ShareOf l b f want (b * l + f) len
share_says b l f want len h e = record { place = refl; most = omega (arith, e); fits = omega (arith, e, h); all = λ k. omega (arith, e, k, h) }

-- a turn ------------------------------------------------------------------------------------------------------------------

-- done bytes are carried, and the next is byte f of the k-th of the blocks that they lie in
pub record Turned (l pos many k f done : ℕ) : Type 0 where
  pub at : done < many → At l (pos + done) (pos / l + k) f
  pub from : f ≡ pos - (pos / l + k) * l
  pub reach : pos + done ≤ (pos / l + k) * l + f

pub turned_begin : (l pos many : ℕ) → 1 ≤ l → Turned l pos many 0 (pos % l) 0
turned_begin l pos many some =
    let e : (pos / l + 0) * l ≡ pos / l * l = ap (λ (x : ℕ). x * l) (omega arith) in
    record {
      at = λ _. record { sum = omega (arith, e, div-add-mod' pos l); fits = mod-lt pos some };
      from = omega (arith, e, div-add-mod' pos l);
      reach = omega (arith, e, div-add-mod' pos l);
    }

module _ (list : List ℕ) (l pos many : ℕ) (r : List ℕ) (some : 1 ≤ l) (w : Touched list l pos many r) where
  -- past the last of the blocks all is carried
  pub turned_end : (k f done : ℕ) → length r ≤ k → Turned l pos many k f done → many ≤ done
  turned_end k f done h t = ⊎_elim
      (λ z. z)
      (λ z. absurd (omega (arith, z, (t.at z).sum, w.all (omega (arith, z)), mul-le-mul_right {m = pos / l + length r} {n = pos / l + k} l (omega (arith, h)))))
      (le_or_lt many done)

  module _ (n : ℕ) (d : Domestic n list l pos many) (k f done : ℕ) (h : k < length r) (t : Turned l pos many k f done) where
    pub turn_more : done < many
    turn_more = ⊎_elim (λ z. absurd (omega (arith, z, t.from, t.reach, (w.only k h).0, (w.only k h).1))) (λ z. z) (le_or_lt many done)

    here : At l (pos + done) (pos / l + k) f
    here = t.at turn_more

    pub turn_fits : f < l
    turn_fits = here.fits

    pub turn_below : get_or r k 0 < n
    turn_below =
        let e : (pos + done) / l ≡ pos / l + k = ap (λ (x : ℕ). x / l) (omega arith) ∙ at_div l (pos + done) (pos / l + k) f here 0 (omega (arith, here.fits)) in
        subst⁻¹ (λ (x : ℕ). x < n) (touched_at list l pos many r some w k h)
        (subst (λ (x : ℕ). get_or list x 0 < n) e (d.below (pos + done) (omega arith) (omega (arith, turn_more))))

    module _ (at len : ℕ) (s : ShareOf l (get_or r k 0) f (many - done) at len) where
      pub turn_upto : done + len ≤ many
      turn_upto = omega (arith, s.most, turn_more)

      pub turn_data : at + len ≤ n * l
      turn_data = omega (arith, s.place, s.fits, suc-mul (get_or r k 0) l, mul-le-mul_right {m = suc (get_or r k 0)} {n = n} l (omega (arith, turn_below)))

      pub turn_row : InRow list l (pos + done) at len
      turn_row =
          subst⁻¹ (λ (a : ℕ). InRow list l (pos + done) a len) (s.place ∙ ap (λ (x : ℕ). x * l + f) (touched_at list l pos many r some w k h))
          (at_row l (pos + done) (pos / l + k) f here list len s.fits)

      pub turn_next : Turned l pos many (k + 1) 0 (done + len)
      turn_next =
          let e : (pos / l + (k + 1)) * l ≡ (pos / l + k) * l + l = ap (λ (x : ℕ). x * l) (omega arith) ∙ suc-mul (pos / l + k) l in
          record {
            at = λ z. record { sum = omega (arith, e, here.sum, s.all (omega (arith, z))); fits = omega (arith, here.fits) };
            from =
                omega (
                  arith,
                  e,
                  div-add-mod' pos l,
                  mod-lt pos {m = l} some,
                  mul-le-mul_right {m = pos / l} {n = pos / l + k} l (omega arith),
                );
            reach = omega (arith, e, t.reach, s.fits);
          }

-- read --------------------------------------------------------------------------------------------------------------------

-- done bytes are in the buffer
pub record Reading (list : List ℕ) (d : Bytes) (l pos : ℕ) (buf₀ buf : Bytes) (done : ℕ) : Type 0 where
  pub is : buf ≡ sets buf₀ 0 (bytes_at done d l list pos)
  pub upto : done ≤ length buf₀

pub read_begin : (list : List ℕ) (d : Bytes) (l pos : ℕ) (buf₀ : Bytes) → Reading list d l pos buf₀ buf₀ 0
read_begin list d l pos buf₀ = record { is = refl; upto = omega arith }

pub read_end : (list : List ℕ) (d : Bytes) (l pos : ℕ) (buf₀ buf : Bytes) (done : ℕ) → Reading list d l pos buf₀ buf done → length buf₀ ≤ done
    → buf ≡ bytes_at (length buf₀) d l list pos
read_end list d l pos buf₀ buf done w h =
    let e : done ≡ length buf₀ = omega (arith, w.upto, h) in
    w.is
    ∙ sets_whole (bytes_at done d l list pos) buf₀ (length_bytes done d l list pos ∙ e)
    ∙ ap (λ (x : ℕ). bytes_at x d l list pos) e

module _ (list : List ℕ) (l pos done at len : ℕ) (row : InRow list l (pos + done) at len) (d buf₀ buf part : Bytes) (e e' : ℕ) (upto : done + len ≤ length buf₀)
    (room : at + len ≤ length d) (r : Reading list d l pos buf₀ buf done) (q : e ≡ len) (q' : e' ≡ len) (v : part ≡ take e' (drop at d)) where
  part_is : part ≡ take len (drop at d)
  part_is = v ∙ ap (λ (x : ℕ). take x (drop at d)) q'

  part_long : length part ≡ e
  part_long = ap length part_is ∙ part_length d at len room ∙ sym q

  buf_long : length buf ≡ length buf₀
  buf_long = ap length r.is ∙ length-sets buf₀ 0 (bytes_at done d l list pos)

  part_back : take done buf ++ (part ++ drop e (drop done buf)) ≡ sets buf done part
  part_back = lent_back buf part done e part_long (omega (arith, buf_long, q, upto))

  pub read_turn : Reading list d l pos buf₀ (take done buf ++ (part ++ drop e (drop done buf))) (done + len)
  read_turn =
      let pb : part ≡ bytes_at len d l list (pos + done) = part_is ∙ sym (bytes_row len d l list (pos + done) at row room) in
      let a : done ≡ 0 + length (bytes_at done d l list pos) = omega (arith, length_bytes done d l list pos) in
      record {
        is =
            part_back
            ∙ ap (λ (x : Bytes). sets x done part) r.is
            ∙ ap (λ (x : ℕ). sets (sets buf₀ 0 (bytes_at done d l list pos)) x part) a
            ∙ sym (sets_append (bytes_at done d l list pos) part buf₀ 0)
            ∙ ap (λ (x : Bytes). sets buf₀ 0 (bytes_at done d l list pos ++ x)) pb
            ∙ ap (sets buf₀ 0) (sym (bytes_split done len d l list pos));
        upto = upto;
      }

  pub read_long : length (take done buf ++ (part ++ drop e (drop done buf))) ≡ length buf₀
  read_long = ap length part_back ∙ length-sets buf done part ∙ buf_long

-- write -------------------------------------------------------------------------------------------------------------------

-- done bytes of the buffer are in the data
pub record Writing (list : List ℕ) (buf : Bytes) (l pos : ℕ) (d₀ d : Bytes) (done : ℕ) : Type 0 where
  pub is : d ≡ written (take done buf) d₀ l list pos
  pub upto : done ≤ length buf

pub write_begin : (list : List ℕ) (buf : Bytes) (l pos : ℕ) (d₀ : Bytes) → Writing list buf l pos d₀ d₀ 0
write_begin list buf l pos d₀ = record { is = refl; upto = omega arith }

pub write_end : (list : List ℕ) (buf : Bytes) (l pos : ℕ) (d₀ d : Bytes) (done : ℕ) → Writing list buf l pos d₀ d done → length buf ≤ done
    → d ≡ written buf d₀ l list pos
write_end list buf l pos d₀ d done w h =
    let e : done ≡ length buf = omega (arith, w.upto, h) in
    w.is
    ∙ ap (λ (x : ℕ). written (take x buf) d₀ l list pos) e
    ∙ ap (λ (x : Bytes). written x d₀ l list pos) (take-length buf)

module _ (list : List ℕ) (l pos done at len : ℕ) (row : InRow list l (pos + done) at len) (d₀ d buf part : Bytes) (e e' : ℕ) (upto : done + len ≤ length buf)
    (room : at + len ≤ length d) (r : Writing list buf l pos d₀ d done) (q : e ≡ len) (q' : e' ≡ len) (v : part ≡ take e' (drop done buf)) where
  share_is : part ≡ take len (drop done buf)
  share_is = v ∙ ap (λ (x : ℕ). take x (drop done buf)) q'

  share_long : length part ≡ len
  share_long = ap length share_is ∙ part_length buf done len upto

  share_back : take at d ++ (part ++ drop e (drop at d)) ≡ sets d at part
  share_back = lent_back d part at e (share_long ∙ sym q) (omega (arith, q, room))

  pub write_turn : Writing list buf l pos d₀ (take at d ++ (part ++ drop e (drop at d))) (done + len)
  write_turn =
      let lt : length (take done buf) ≡ done = length-take-le done buf r.upto in
      record {
        is =
            share_back
            ∙ sym (written_row part d l list (pos + done) at (subst⁻¹ (InRow list l (pos + done) at) share_long row))
            ∙ ap (λ (x : Bytes). written part x l list (pos + done)) r.is
            ∙ ap (λ (x : ℕ). written part (written (take done buf) d₀ l list pos) l list (pos + x)) (sym lt)
            ∙ sym (written_append (take done buf) part d₀ l list pos)
            ∙ ap (λ (x : Bytes). written x d₀ l list pos) (ap (λ (x : Bytes). take done buf ++ x) share_is ∙ sym (take-add done len buf));
        upto = upto;
      }

  pub write_long : length (take at d ++ (part ++ drop e (drop at d))) ≡ length d
  write_long = ap length share_back ∙ length-sets d at part
