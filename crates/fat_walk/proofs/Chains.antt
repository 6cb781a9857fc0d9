-- The chains of a sound table stand in it, and share no block.
use mathlib.Core.Path.{◌≡◌, refl, sym, ap, ◌∙◌}
use mathlib.Core.List.{List, [], ◌∷◌, ◌++◌, Permᴰ}
use Prim.Native.Nat.{ℕ, suc, ◌+◌, ◌≤◌}
use native.Mathlib.Omega.{arith}
use lib.ListN.{length}
use Rattle.fat_node.specs.Entry.{Bytes, Entry}
use Rattle.fat_node.specs.Node.{Run, run}
use Rattle.fat_table.specs.Sound.{File}
use Rattle.fat_table.specs.Chain.{total, head_at, free_at, file_at}
use Rattle.fat_table.specs.Layout.{Layout, joined, hits, covers, runs, Tiled}
use Rattle.fat_table.proofs.Layouts.{EndToEnd, covers_append, empties_append, sorted}
use Rattle.fat_table.proofs.Files.{Whole, seen, seen_file}
use Rattle.fat_walk.specs.Inner.Chains.{ChainFrom}
use Rattle.fat_table.proofs.Unchanged.{total_append}

-- the chains of a sound table -------------------------------------------------------------------------

total_perm : {a b : List Run} → Permᴰ a b → total a ≡ total b
total_perm Permᴰ.nil = refl
total_perm (Permᴰ.cons e p) = omega (arith, ap (λ (r : Run). r.size) e, total_perm p)
total_perm (Permᴰ.swap e e') = omega (arith, ap (λ (r : Run). r.size) e, ap (λ (r : Run). r.size) e')
total_perm (Permᴰ.trans p q) = total_perm p ∙ total_perm q

total_end : (b : ℕ) (l : List Run) (n : ℕ) → EndToEnd b l n → b + total l ≡ n
total_end b [] n w = omega (arith, w)
total_end b (r ∷ l) n w = omega (arith, total_end (b + r.size) l n w.2)

-- the runs have n blocks in all
pub total_tiled : {n : ℕ} {L : Layout} → Tiled n L → total (runs L) ≡ n
total_tiled {n} {L} t =
    let s = sorted (length (runs L)) 0 n n (runs L) (omega arith) (omega arith) t.positive t.once in
    omega (arith, total_end 0 s.0 n s.2, total_perm s.1)

module _ (n : ℕ) (t : Bytes) (w : Whole n t) where
  pub free_chain : ChainFrom n t (head_at t)
  free_chain =
      let s = seen n t w in
      let h = s.holds in
      record {
        chain = record {
          few = w.small;
          room = w.room;
          laid = h.free;
          positive = omega (arith, h.tiled.positive, empties_append (free_at n t) (joined s.files));
          inside = λ x. omega (arith, h.tiled.once x, covers_append x (free_at n t) (joined s.files));
          sum = omega (arith, total_tiled h.tiled, total_append (free_at n t) (joined s.files));
        };
        at = sym (ap (λ (e : Entry). e.v) h.head);
      }

  module _ (b : ℕ) (i : File t n b) where
    pub file_chain : ChainFrom n t (suc b)
    file_chain =
        let s = seen_file n t b w i in
        let h = s.holds in
        let f : List Run = file_at n t b in
        let j : List Run = joined s.others in
        record {
          chain = record {
            few = w.small;
            room = w.room;
            laid = h.files.0;
            positive = omega (arith, h.tiled.positive, empties_append (free_at n t) (f ++ j), empties_append f j);
            inside = λ x. omega (arith, h.tiled.once x, covers_append x (free_at n t) (f ++ j), covers_append x f j);
            sum = omega (arith, total_tiled h.tiled, total_append (free_at n t) (f ++ j), total_append f j);
          };
          at = s.at;
        }

    -- file and free chain share no block
    pub file_beside : (z : ℕ) → covers z (file_at n t b) + covers z (free_at n t) ≤ hits z (run 0 n)
    file_beside z =
        let s = seen_file n t b w i in
        let f : List Run = file_at n t b in
        let j : List Run = joined s.others in
        omega (arith, s.holds.tiled.once z, covers_append z (free_at n t) (f ++ j), covers_append z f j)

    pub file_fits : total (file_at n t b) + total (free_at n t) ≤ n
    file_fits =
        let s = seen_file n t b w i in
        let f : List Run = file_at n t b in
        let j : List Run = joined s.others in
        omega (arith, total_tiled s.holds.tiled, total_append (free_at n t) (f ++ j), total_append f j)
