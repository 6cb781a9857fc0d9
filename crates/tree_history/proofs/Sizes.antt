-- Writes keep bytes and sizes; and what sizes that fit say.
use mathlib.Core.Path.{◌≡◌, ◌∙◌, subst}
use mathlib.Core.List.{List}
use mathlib.Core.Logic.{◌⊎◌, inl, inr}
use Prim.Native.Nat.{ℕ, ◌/◌, ◌%◌, ◌<◌}
use native.Mathlib.Nat.{lt_of_not-le}
use lib.ListN.{length}
use Rattle.words.proofs.Laws.{Bytes}
use Rattle.tree_table.specs.Field.{Write, wrote}
use Rattle.tree_table.proofs.Field.{length_wrote}
use Rattle.tree_sound.specs.Sizes.{Beyond}
use Rattle.tree_sound.specs.Sound.{Sound}
use Rattle.tree_sound.specs.Tables.{Tables, tables, dirs, files, MisfitIn, OutsideIn}
use Rattle.tree_kept.proofs.Tables.{bytes_wrote}
use Rattle.tree_kept.proofs.Files.{Fine}
use Rattle.words.specs.Word.{AreBytes}
use Rattle.tree_history.specs.Whole.{Lent, Whole, SameSizes}
use Rattle.tree_history.proofs.Stable.{le_stable}

pub are_bytes : (t : List ℕ) → AreBytes t → Bytes t
are_bytes t g = record { byte = g }

-- s' is s after writes: it is as long, and bytes if s is
pub record After (s s' : Tables) : Type 0 where
  pub sizes : SameSizes s s'
  pub lent : Lent s → Lent s'

pub after_wrote : (s : Tables) (a b c e : List Write)
    → After s (tables (wrote 4 s.dir_hash a) (wrote 40 s.dir_table b) (wrote 4 s.file_hash c) (wrote 48 s.file_table e))
after_wrote s a b c e = record {
  sizes = record {
    dir_hash = length_wrote 4 a s.dir_hash;
    dir_table = length_wrote 40 b s.dir_table;
    file_hash = length_wrote 4 c s.file_hash;
    file_table = length_wrote 48 e s.file_table;
  };
  lent = λ l. record {
    dir_hash = (bytes_wrote 4 a s.dir_hash (are_bytes s.dir_hash l.dir_hash)).byte;
    dir_table = (bytes_wrote 40 b s.dir_table (are_bytes s.dir_table l.dir_table)).byte;
    file_hash = (bytes_wrote 4 c s.file_hash (are_bytes s.file_hash l.file_hash)).byte;
    file_table = (bytes_wrote 48 e s.file_table (are_bytes s.file_table l.file_table)).byte;
  };
}

pub after_then : (s t u : Tables) → After s t → After t u → After s u
after_then s t u a b = record {
  sizes = record {
    dir_hash = b.sizes.dir_hash ∙ a.sizes.dir_hash;
    dir_table = b.sizes.dir_table ∙ a.sizes.dir_table;
    file_hash = b.sizes.file_hash ∙ a.sizes.file_hash;
    file_table = b.sizes.file_table ∙ a.sizes.file_table;
  };
  lent = λ l. b.lent (a.lent l);
}

-- sizes are of the lengths alone
four : (P : ℕ → ℕ → ℕ → ℕ → Type 0) (s s' : Tables) → SameSizes s s'
    → P (length s'.dir_hash) (length s'.dir_table) (length s'.file_hash) (length s'.file_table)
    → P (length s.dir_hash) (length s.dir_table) (length s.file_hash) (length s.file_table)
four P s s' e p =
    subst (λ n. P (length s.dir_hash) (length s.dir_table) (length s.file_hash) n) e.file_table
    (subst (λ n. P (length s.dir_hash) (length s.dir_table) n (length s'.file_table)) e.file_hash
    (subst (λ n. P (length s.dir_hash) n (length s'.file_hash) (length s'.file_table)) e.dir_table
    (subst (λ n. P n (length s'.dir_table) (length s'.file_hash) (length s'.file_table)) e.dir_hash p)))

-- tables after writes, once they are sound
pub whole_after : (s : Tables) → (MisfitIn s → ⊥)
    → (OutsideIn s → ⊥) → Lent s → (s' : Tables) → After s s' → Sound (dirs s') (files s')
    → Whole s' × SameSizes s s'
whole_after s fits inside L s' a S = (
  record {
    lent = a.lent L;
    fits = λ m. fits (four (λ i j k l. ((i ≡ 0) ⊎ (i % 4 ≡ 0 → ⊥)) ⊎ (j < 40) ⊎ ((k ≡ 0) ⊎ (k % 4 ≡ 0 → ⊥)) ⊎ (l < 48)) s s' a.sizes m);
    inside = λ m. inside (four (λ i j k l. Beyond (i / 4) ⊎ Beyond (j / 40) ⊎ Beyond (k / 4) ⊎ Beyond (l / 48)) s s' a.sizes m);
    sound = S;
  },
  a.sizes,
)

module _ (s : Tables) (w : Whole s) where
  pub whole_step : (s' : Tables) → After s s' → Sound (dirs s') (files s') → Whole s' × SameSizes s s'
  whole_step = whole_after s w.fits w.inside w.lent

  pub fine : Fine s.dir_hash s.dir_table s.file_hash s.file_table
  fine = record {
    dir_hash = are_bytes s.dir_hash w.lent.dir_hash;
    dir_table = are_bytes s.dir_table w.lent.dir_table;
    file_hash = are_bytes s.file_hash w.lent.file_hash;
    file_table = are_bytes s.file_table w.lent.file_table;
    dir_few = le_stable (length s.dir_table / 40) 65536 (λ k. w.inside (inr (inl (inr (lt_of_not-le k)))));
    file_few = le_stable (length s.file_table / 48) 65536 (λ k. w.inside (inr (inr (inr (inr (lt_of_not-le k))))));
    dir_some = le_stable 1 (length s.dir_hash / 4) (λ k. w.inside (inl (inl (lt_of_not-le k))));
    file_some = le_stable 1 (length s.file_hash / 4) (λ k. w.inside (inr (inr (inl (inl (lt_of_not-le k))))));
  }
