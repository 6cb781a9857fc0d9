-- The first blocks after create, resize and delete.
use mathlib.Core.Path.{◌≡◌, refl, sym, ap, subst, subst⁻¹, ◌∙◌}
use mathlib.Core.List.{List, [], ◌∷◌, ◌++◌}
use mathlib.Core.Bool.{Bool, true, false, cond}
use mathlib.Core.Logic.{◌⊎◌, inl, inr, ⊎_elim}
use Prim.Native.Nat.{ℕ, zero, suc, ◌+◌, ◌-◌, ◌*◌, ◌≤◌, ◌<◌}
use native.Mathlib.Omega.{arith}
use lib.ListN.{length}
use lib.Dec.{leb}
use Rattle.map_bits.specs.Bits.{words_from, words_in}
use Rattle.map_bits.specs.Inner.Turns.{between, Turn}
use Rattle.map_bits.proofs.Words.{words_same, length_words}
use Rattle.map_bits.proofs.Turns.{between_in, between_lo, between_hi}
use Rattle.fat_node.specs.Entry.{Bytes, Entry}
use Rattle.fat_node.specs.Node.{Run, run}
use Rattle.fat_node.proofs.Nodes.{le_or_lt}
use Rattle.fat_table.specs.Sound.{File}
use Rattle.fat_table.specs.Chain.{total, head_at, free_at, file_at}
use Rattle.fat_table.specs.Layout.{layout, taken, left}
use Rattle.fat_table.specs.Steps.{first, created, created_at, resized, deleted}
use Rattle.fat_table.specs.Holds.{Holds}
use Rattle.fat_table.proofs.Stepped.{holds_create, holds_delete}
use Rattle.fat_table.proofs.Files.{Whole, seen, seen_file, holds_resize_less, holds_resize_more, whole_created, whole_deleted, whole_resized}
use Rattle.fat_first.specs.Firsts.{first_at, firsts_of}
use Rattle.fat_first.proofs.Firsts.{first_most, first_out}
use Rattle.fat_first.proofs.Begun.{same, same_yes, same_some, same_most, begun, first_begun}

-- one block, by its index
pub same_between : (b x : ℕ) → same (suc b) x ≡ between b (b + 1) x
same_between b x = ⊎_elim
    (λ h. ⊎_elim
    (λ k. let e : same (suc b) x ≡ 1 = same_yes (suc b) x (omega (arith, h, k)) in omega (arith, e, between_in b (b + 1) x k h))
    (λ k. omega (arith, none (λ e. omega (arith, e, k)), between_lo b (b + 1) x k))
    (le_or_lt b x))
    (λ h. omega (arith, none (λ e. omega (arith, e, h)), between_hi b (b + 1) x h))
    (lt_or_le x (b + 1))
  where
    lt_or_le : (a c : ℕ) → (a < c) ⊎ (c ≤ a)
    lt_or_le a c = ⊎_elim (λ k. inr k) (λ k. inl k) (le_or_lt c a)

    none : (suc b ≡ suc x → ⊥) → same (suc b) x ≡ 0
    none h = ⊎_elim (λ k. absurd (h (same_some (suc b) x k))) (λ k. omega (arith, k)) (le_or_lt 1 (same (suc b) x))

-- the first blocks of a chain begin where it does
first_taken : (l : List Run) (c : ℕ) → 1 ≤ c → first (taken l c) ≡ first l
first_taken [] c h = refl
first_taken (r ∷ l) zero h = let z : ⊥ = omega arith in absurd z
first_taken (r ∷ l) (suc c) h = go (leb r.size (suc c))
  where
    go : (b : Bool) → first (cond b (r ∷ taken l (suc c - r.size)) (run r.start (suc c) ∷ [])) ≡ suc r.start
    go true = refl
    go false = refl

first_append : (l k : List Run) (b : ℕ) → first l ≡ suc b → first (l ++ k) ≡ first l
first_append [] k b e = let z : ⊥ = omega arith in absurd z
first_append (r ∷ l) k b e = refl

module _ (n : ℕ) (t : Bytes) (w : Whole n t) where
  -- create: the free front begins a file
  module _ (c : ℕ) (h : 1 ≤ c) (k : c ≤ total (free_at n t)) where
    pub firsts_created : (x : ℕ) → first_at n (created n t c) x ≡ first_at n t x + same (head_at t) x
    firsts_created x =
        let s = seen n t w in
        let e : first (taken (free_at n t) c) ≡ head_at t = first_taken (free_at n t) c h ∙ sym (ap (λ (z : Entry). z.v) s.holds.head) in
        omega (
          arith,
          first_begun n (created n t c) (whole_created n t w c h k) (left (free_at n t) c) (taken (free_at n t) c ∷ s.files)
              (holds_create n w.small t (free_at n t) s.files s.holds c h k) x,
          first_begun n t w (free_at n t) s.files s.holds x,
          ap (λ (i : ℕ). same i x) e,
        )

  module _ (b : ℕ) (i : File t n b) where
    -- delete: the file's first block begins none
    pub firsts_deleted : (x : ℕ) → first_at n t x ≡ first_at n (deleted n t b) x + same (suc b) x
    firsts_deleted x =
        let s = seen_file n t b w i in
        omega (
          arith,
          first_begun n (deleted n t b) (whole_deleted n t w b i) (file_at n t b ++ free_at n t) s.others
              (holds_delete n w.small t (free_at n t) (file_at n t b) s.others s.holds b s.at) x,
          first_begun n t w (free_at n t) (file_at n t b ∷ s.others) s.holds x,
          ap (λ (i : ℕ). same i x) s.at,
        )

    -- resize: the file begins where it did
    pub firsts_resized : (c : ℕ) → 1 ≤ c → c ≤ total (file_at n t b) + total (free_at n t) → (x : ℕ) → first_at n (resized n t b c) x ≡ first_at n t x
    firsts_resized c h k x =
        let s = seen_file n t b w i in
        let f : List Run = file_at n t b in
        let was = first_begun n t w (free_at n t) (f ∷ s.others) s.holds x in
        let whole : Whole n (resized n t b c) = whole_resized n t w b c i h k in
        ⊎_elim
        (λ l.
        omega (
          arith,
          first_begun n (resized n t b c) whole (left f c ++ free_at n t) (taken f c ∷ s.others)
              (holds_resize_less n w.small t (free_at n t) f s.others s.holds b s.at c h l) x,
          was,
          ap (λ (i : ℕ). same i x) (first_taken f c h),
        ))
        (λ l.
        let d : ℕ = c - total f in
        let held : Holds n (resized n t b c) (layout (left (free_at n t) d) ((f ++ taken (free_at n t) d) ∷ s.others)) =
        subst (λ (m : ℕ). Holds n (resized n t b m) (layout (left (free_at n t) d) ((f ++ taken (free_at n t) d) ∷ s.others))) (omega arith)
        (holds_resize_more n w.small t (free_at n t) f s.others s.holds b s.at d (omega arith) (omega arith)) in
        omega (
          arith,
          first_begun n (resized n t b c) whole (left (free_at n t) d) ((f ++ taken (free_at n t) d) ∷ s.others) held x,
          was,
          ap (λ (i : ℕ). same i x) (first_append f (taken (free_at n t) d) b s.at),
        ))
        (le_or_lt c (total f))

-- maps -------------------------------------------------------------------------------------------------

pub length_firsts : (n : ℕ) (t : Bytes) → length (firsts_of n t) ≡ words_in n
unfolding firsts_of
length_firsts n t = length_words (words_in n) 0 (first_at n t)

module _ (n : ℕ) (t u : Bytes) (w : Whole n t) (v : Whole n u) (map : List ℕ) (e : map ≡ firsts_of n t) where
  long : length map ≡ words_in n
  long = ap length e ∙ length_firsts n t

  shows : map ≡ words_from (length map) 0 (first_at n t)
  unfolding firsts_of
  shows = e ∙ ap (λ (k : ℕ). words_from k 0 (first_at n t)) (sym long)

  pub firsts_after : (map' : List ℕ) → map' ≡ words_from (length map) 0 (first_at n u) → map' ≡ firsts_of n u
  unfolding firsts_of
  firsts_after map' q = q ∙ ap (λ (k : ℕ). words_from k 0 (first_at n u)) long

  pub firsts_same : ((x : ℕ) → first_at n u x ≡ first_at n t x) → map ≡ firsts_of n u
  unfolding firsts_of
  firsts_same h = e ∙ words_same (words_in n) 0 (first_at n t) (first_at n u) (λ x p q. sym (h x))

  pub turn_in : (b : ℕ) → b < n → ((x : ℕ) → first_at n u x ≡ first_at n t x + same (suc b) x) → Turn true map (first_at n t) (first_at n u) b (b + 1)
  turn_in b k h = record {
    shows = shows;
    turned = λ x. omega (arith, h x, same_between b x);
    was = first_most n t w;
    is = first_most n u v;
    order = omega arith;
    fits = omega (arith, k, long);
  }

  pub turn_out : (b : ℕ) → b < n → ((x : ℕ) → first_at n t x ≡ first_at n u x + same (suc b) x) → Turn false map (first_at n t) (first_at n u) b (b + 1)
  turn_out b k h = record {
    shows = shows;
    turned = λ x. omega (arith, h x, same_between b x);
    was = first_most n t w;
    is = first_most n u v;
    order = omega arith;
    fits = omega (arith, k, long);
  }
