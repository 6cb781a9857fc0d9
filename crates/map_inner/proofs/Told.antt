-- Whether a map is the table's, told by a comparison with the one drawn.
use mathlib.Core.Path.{◌≡◌, sym, ap, ◌∙◌}
use mathlib.Core.List.{List}
use mathlib.Core.Bool.{Bool, true, not}
use Prim.Native.Nat.{ℕ}
use lib.ListN.{length, replicate}
use Rattle.order.specs.Tells.{Tells}
use Rattle.map_bits.specs.Bits.{words_in}
use Rattle.map_bits.proofs.Words.{length_words}
use Rattle.fat_node.specs.Entry.{Bytes}
use Rattle.fat_table.specs.Chain.{free_at}
use Rattle.fat_table.specs.Layout.{covers}
use Rattle.map_inner.specs.Map.{map_of}

pub length_map : (n : ℕ) (t : Bytes) → length (map_of n t) ≡ words_in n
unfolding map_of
length_map n t = length_words (words_in n) 0 (λ x. covers x (free_at n t))

module _ (n : ℕ) (t : Bytes) (drawn map : List ℕ) (e : drawn ≡ map_of n t) where
  pub same_words : length map ≡ words_in n → length drawn ≡ length map
  same_words l = ap length e ∙ length_map n t ∙ sym l

  pub told : (scratch : List ℕ) (r : Bool) → Tells (drawn ≡ map) (not r) → length map ≡ words_in n → scratch ≡ replicate (length drawn) 0
      → Tells (map ≡ map_of n t) (not r) × (scratch ≡ replicate (words_in n) 0)
  told scratch r d l z = (
    record { yes = λ y. sym (d.yes y) ∙ e; only = λ q. d.only (e ∙ sym q) },
    z ∙ ap (λ (k : ℕ). replicate k 0) (ap length e ∙ length_map n t),
  )
