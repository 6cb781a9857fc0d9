-- The loops over the first blocks: what is followed, told and written of those before place i.
use mathlib.Core.Path.{◌≡◌, refl, sym, ap, ◌∙◌}
use mathlib.Core.List.{List, [], ◌∷◌, ◌++◌, append_assoc}
use mathlib.Core.Logic.{⊎_elim}
use Prim.Native.Nat.{ℕ, ◌+◌, ◌*◌, ◌≤◌, ◌<◌}
use native.Mathlib.Omega.{arith}
use lib.ListN.{length, get_or, take, drop}
use lib.Seq.{sets, sets-eq, length-sets}
use Rattle.std.proofs.lemmas.List.{drop-drop}
use borrow.Rule.Slice.PartMut.{put_mid}
use borrow.Author.Tests.{le-leb, lt-leb}
use Rattle.order.specs.Answer.{fault}
use Rattle.order.specs.declared.Fault.{Fault}
use Rattle.fat_node.specs.Entry.{Bytes}
use Rattle.fat_node.proofs.Nodes.{le_or_lt}
use Rattle.fat_table.specs.Chain.{total}
use Rattle.fat_promises.specs.Blocks.{blocks_of}
use Rattle.fat_walk.proofs.Blocks.{sets_append, length_blocks}
use Rattle.salvage.specs.Follow.{Salvage, salvage, salvaged}
use Rattle.salvage.specs.Inner.Walks.{WalkSays}
use Rattle.salvage.proofs.Walks.{look_out, clear_below}
use Rattle.salvage_shared.specs.Inner.Says.{MayJudge}
use Rattle.salvage_shared.proofs.Loops.{from_at, few}
use Rattle.salvage_chains.specs.Chains.{one, chains_from, chains, many, told, ends_of, followed}
use Rattle.salvage_chains.specs.Inner.Says.{OneSays, MayNumber, MayAll, Rooms}

-- ---- one chain

module _ (n : ℕ) (t : Bytes) (b : ℕ) where
  pub one_is : (spent : ℕ) → spent ≤ 4 * n → one n t b spent ≡ salvaged n t b
  unfolding one
  one_is spent h = rw (le-leb spent (4 * n) h)

  pub one_not : (spent : ℕ) → 4 * n < spent → one n t b spent ≡ salvage [] (fault 0 9)
  unfolding one
  one_not spent h = rw (lt-leb spent (4 * n) h)

  no_block : n ≤ b → salvaged n t b ≡ salvage [] (fault 0 7)
  no_block h = look_out n t 0 b h n []

  -- where it has blocks it was followed, from a block of the table
  one_some : (spent : ℕ) → (total (one n t b spent).runs ≡ 0 → ⊥) → (one n t b spent ≡ salvaged n t b) × (b < n)
  one_some spent h =
      ⊎_elim
      (λ (k : spent ≤ 4 * n). (
        one_is spent k,
        ⊎_elim (λ (q : n ≤ b). absurd (h (ap (λ (c : Salvage). total c.runs) (one_is spent k ∙ no_block q)))) (λ (q : b < n). q) (le_or_lt n b),
      ))
      (λ (k : 4 * n < spent). absurd (h (ap (λ (c : Salvage). total c.runs) (one_not spent k))))
      (le_or_lt spent (4 * n))

  module _ (w : List ℕ) (m spent : ℕ) (a : MayJudge n t w m spent) where
    nothing : (f : Fault) → one n t b spent ≡ salvage [] f → OneSays n t b m spent 0 f w
    nothing f e = record {
      sum = sym (ap (λ (c : Salvage). total c.runs) e);
      ended = sym (ap (λ (c : Salvage). c.why) e);
      free = λ x. omega (arith, a.free x);
      few = omega (arith, a.few);
      long = a.sized.long;
    }

    pub one_crowded : 4 * n < spent → OneSays n t b m spent 0 (fault 0 9) w
    one_crowded h = nothing (fault 0 9) (one_not spent h)

    pub one_out : spent ≤ 4 * n → n ≤ b → OneSays n t b m spent 0 (fault 0 7) w
    one_out h k = nothing (fault 0 7) (one_is spent h ∙ no_block k)

    pub one_walked : spent ≤ 4 * n → (count : ℕ) (why : Fault) (w' : List ℕ) → WalkSays n t b m count why w' → OneSays n t b m spent count why w'
    one_walked h count why w' s = record {
      sum = s.sum ∙ sym (ap (λ (c : Salvage). total c.runs) (one_is spent h));
      ended = s.ended ∙ sym (ap (λ (c : Salvage). c.why) (one_is spent h));
      free = s.least;
      few = omega (arith, h, s.sum, few n t b);
      long = s.long;
    }

-- ---- what is told of it

-- three places copied over are three places written
pub put_is : (e : List ℕ) (at : ℕ) (vs ys : List ℕ) (k : ℕ) → ys ≡ vs → k ≡ length vs → at + length vs ≤ length e → put_mid at k e ys ≡ sets e at vs
put_is e at vs ys k p q h =
    ap (λ (r : List ℕ). put_mid at k e r) p ∙ ap (λ (j : ℕ). put_mid at j e vs) q
    ∙ ap (λ (r : List ℕ). take at e ++ (vs ++ r)) (drop-drop (length vs) at e)
    ∙ sym (append_assoc (take at e) vs (drop (at + length vs) e)) ∙ sym (sets-eq vs e at h)

-- ---- its blocks

none_left : (xs : List ℕ) → length xs ≡ 0 → xs ≡ []
none_left [] e = refl
none_left (x ∷ xs) e = absurd (omega (arith, e))

module _ (n : ℕ) (t : Bytes) (b spent count : ℕ) (l : List ℕ) (at : ℕ) (a : MayNumber n t b spent count l at) where
  pub number_none : count ≡ 0 → l ≡ sets l at (blocks_of (one n t b spent).runs)
  number_none e =
      sym (ap (sets l at) (none_left (blocks_of (one n t b spent).runs) (length_blocks (one n t b spent).runs ∙ sym a.sum ∙ e)))

  module _ (h : count ≡ 0 → ⊥) where
    some : (one n t b spent ≡ salvaged n t b) × (b < n)
    some = one_some n t b spent (λ e. h (a.sum ∙ e))

    pub number_may : ((n ≤ 1000000) × (b < n)) × ((count ≡ total (salvaged n t b).runs) × (at + count ≤ length l))
    number_may = ((a.small, some.1), (a.sum ∙ ap (λ (c : Salvage). total c.runs) some.0, a.fits))

    pub number_done : (l' : List ℕ) → l' ≡ sets l at (blocks_of (salvaged n t b).runs) → l' ≡ sets l at (blocks_of (one n t b spent).runs)
    number_done l' p = p ∙ sym (ap (λ (c : Salvage). sets l at (blocks_of c.runs)) some.0)

-- ---- how many there are

-- the chains behind place i, where that one has k blocks
abbrev rest : (n : ℕ) (t : Bytes) (firsts : List ℕ) (at i k : ℕ) → List Salvage
rest n t firsts at i k = chains_from n t (drop (i + 1) firsts) (at + k)

-- the chains before place i were followed, and have `at` blocks
pub record Summing (n : ℕ) (t : Bytes) (firsts w : List ℕ) (at i : ℕ) : Type 0 where
  pub is : many (chains n t firsts) ≡ at + many (chains_from n t (drop i firsts) at)
  pub next : MayJudge n t w (i + 1) at

pub summing_begin : (n : ℕ) (t : Bytes) (firsts w : List ℕ) → MayAll n t w firsts → Summing n t firsts w 0 0
unfolding chains
summing_begin n t firsts w a = record {
  is = omega arith;
  next = record { sized = a.sized; free = λ x. omega (arith, clear_below n w a.clear x); few = omega arith };
}

module _ (n : ℕ) (t : Bytes) (firsts w : List ℕ) (at i : ℕ) (g : Summing n t firsts w at i) where
  module _ (h : i < length firsts) (count : ℕ) (why : Fault) (w' : List ℕ) (s : OneSays n t (get_or firsts i 0) (i + 1) at count why w') where
    left : many (chains_from n t (drop i firsts) at) ≡ count + many (rest n t firsts at i count)
    left =
        ap (λ (bs : List ℕ). many (chains_from n t bs at)) (from_at firsts i h)
        ∙ ap (λ (k : ℕ). k + many (chains_from n t (drop (i + 1) firsts) (at + k))) (sym s.sum)

    pub summing_on : Summing n t firsts w' (at + count) (i + 1)
    summing_on = record {
      is = omega (arith, g.is, left);
      next = record { sized = record { room = g.next.sized.room; small = g.next.sized.small; long = s.long }; free = s.free; few = s.few };
    }

-- ---- what is written

-- the chains before place i are told of and written
pub record Writing (n : ℕ) (t : Bytes) (firsts e₀ l₀ w e l : List ℕ) (at i : ℕ) : Type 0 where
  pub before : Summing n t firsts w at i
  pub told_is : sets e₀ 0 (ends_of (chains n t firsts)) ≡ sets e (3 * i) (ends_of (chains_from n t (drop i firsts) at))
  pub list_is : sets l₀ 0 (followed (chains n t firsts)) ≡ sets l at (followed (chains_from n t (drop i firsts) at))
  pub told_long : length e ≡ length e₀
  pub list_long : length l ≡ length l₀

pub writing_begin : (n : ℕ) (t : Bytes) (firsts w e l : List ℕ) → MayAll n t w firsts → Writing n t firsts e l w e l 0 0
unfolding chains
writing_begin n t firsts w e l a = record { before = summing_begin n t firsts w a; told_is = refl; list_is = refl; told_long = refl; list_long = refl }

module _ (n : ℕ) (t : Bytes) (firsts e₀ l₀ w e l : List ℕ) (at i : ℕ) (g : Writing n t firsts e₀ l₀ w e l at i) where
  module _ (a : Rooms n t firsts e₀ l₀) (h : i < length firsts) where
    module _ (count : ℕ) (why : Fault) (w' : List ℕ) (s : OneSays n t (get_or firsts i 0) (i + 1) at count why w') where
      pub writing_on : (e' l' : List ℕ) → e' ≡ sets e (3 * i) (told count why) → l' ≡ sets l at (blocks_of (one n t (get_or firsts i 0) at).runs)
          → Writing n t firsts e₀ l₀ w' e' l' (at + count) (i + 1)
      writing_on e' l' p q =
          let j : 3 * i + 3 ≡ 3 * (i + 1) = omega arith in
          record {
            before = summing_on n t firsts w at i g.before h count why w' s;
            told_is = g.told_is
                ∙ ap (λ (bs : List ℕ). sets e (3 * i) (ends_of (chains_from n t bs at))) (from_at firsts i h)
                ∙ sets_append (told (total (one n t (get_or firsts i 0) at).runs) (one n t (get_or firsts i 0) at).why) (ends_of (rest n t firsts at i (total (one n t (get_or firsts i 0) at).runs))) e (3 * i)
                ∙ ap (λ (k : ℕ). sets (sets e (3 * i) (told k (one n t (get_or firsts i 0) at).why)) (3 * i + 3) (ends_of (rest n t firsts at i k))) (sym s.sum)
                ∙ ap (λ (f : Fault). sets (sets e (3 * i) (told count f)) (3 * i + 3) (ends_of (rest n t firsts at i count))) (sym s.ended)
                ∙ ap (λ (y : List ℕ). sets y (3 * i + 3) (ends_of (rest n t firsts at i count))) (sym p)
                ∙ ap (λ (k : ℕ). sets e' k (ends_of (rest n t firsts at i count))) j;
            list_is = g.list_is
                ∙ ap (λ (bs : List ℕ). sets l at (followed (chains_from n t bs at))) (from_at firsts i h)
                ∙ sets_append (blocks_of (one n t (get_or firsts i 0) at).runs) (followed (rest n t firsts at i (total (one n t (get_or firsts i 0) at).runs))) l at
                ∙ ap (λ (k : ℕ). sets (sets l at (blocks_of (one n t (get_or firsts i 0) at).runs)) (at + k) (followed (rest n t firsts at i (total (one n t (get_or firsts i 0) at).runs)))) (length_blocks (one n t (get_or firsts i 0) at).runs)
                ∙ ap (λ (k : ℕ). sets (sets l at (blocks_of (one n t (get_or firsts i 0) at).runs)) (at + k) (followed (rest n t firsts at i k))) (sym s.sum)
                ∙ ap (λ (y : List ℕ). sets y (at + count) (followed (rest n t firsts at i count))) (sym q);
            told_long = ap length p ∙ length-sets e (3 * i) (told count why) ∙ g.told_long;
            list_long = ap length q ∙ length-sets l at (blocks_of (one n t (get_or firsts i 0) at).runs) ∙ g.list_long;
          }
