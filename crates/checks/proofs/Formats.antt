-- The checks of format.
use mathlib.Core.Path.{◌≡◌, refl, ap, ◌∙◌}
use mathlib.Core.List.{List, [], ◌∷◌}
use mathlib.Core.Logic.{inl, inr, ⊎_elim}
use Prim.Native.Nat.{ℕ, ◌+◌, ◌*◌, ◌≤◌, ◌<◌}
use native.Mathlib.Omega.{arith}
use lib.ListN.{length}
use Rattle.words.specs.Word.{word, put_word}
use Rattle.order.specs.Answer.{InvalidValue}
use Rattle.order.specs.First.{First}
use Rattle.order.proofs.One.{refused}
use Rattle.fat_node.specs.Entry.{Bytes, get, put}
use Rattle.fat_node.specs.Node.{set_node, set_head, prev_half, next_half}
use Rattle.fat_node.specs.Sizes.{blocks, Misfit, Outside}
use Rattle.fat_node.specs.Format.{formatted, format_rows, format_done, format_gives, FormatPromise}
use Rattle.order.specs.Answer.{Answer}
use Rattle.checks.specs.Check.{Check, Shows}
use Rattle.checks.specs.Blocks.{zeros, formats, format4, one_block}
use Rattle.checks.proofs.Passes.{none_first, Sole, sole}
use Rattle.checks.proofs.Then.{then}

-- a table of n blocks passes the sizes
module _ (t : Bytes) (n : ℕ) (len : length t ≡ 8 * (n + 1)) (some : 1 ≤ n) (few : n ≤ 1000000) where
  pub fits : Misfit t → ⊥
  fits m = ⊎_elim (λ h. omega (arith, len, h)) (λ h. h (omega (arith, len))) m

  pub inside : Outside t → ⊥
  inside m = ⊎_elim (λ h. omega (arith, len, some, h)) (λ h. omega (arith, len, few, h)) m

  pub formats_done : Sole (First (format_rows t) (format_done t)) (format_done t)
  formats_done = sole (format_rows t) (format_done t) (format_done t) (none_first (format_rows t) (format_done t) (fits, (inside, tt)))

  pub shows_format : (wanted : List ℕ) (cs : List (Check Bytes)) → (formats n wanted).seen (format_done t) ≡ wanted → Shows cs (format_done t).1
      → Shows (formats n wanted ∷ cs) t
  shows_format wanted cs sees rest =
      then (formats n wanted) cs t (format_done t).1 formats_done.0
      (λ o p. (
        ap (λ (x : Answer × Bytes). (formats n wanted).seen x) (formats_done.1 o p) ∙ sees,
        ap (λ (x : Answer × Bytes). x.1) (formats_done.1 o p),
      )) rest

pub sees4 : format4.seen (format_done (zeros 4)) ≡ format4.wanted
unfolding word put_word get put prev_half next_half set_node set_head formatted
sees4 = refl

sees1 : (formats 1 (0 ∷ 0 ∷ 1 ∷ 0x80000000 ∷ 0 ∷ [])).seen (format_done (zeros 1)) ≡ 0 ∷ 0 ∷ 1 ∷ 0x80000000 ∷ 0 ∷ []
unfolding word put_word get put prev_half next_half set_node set_head formatted
sees1 = refl

pub one_block_lem : Shows one_block.checks (zeros 1)
one_block_lem = shows_format (zeros 1) 1 refl (omega arith) (omega arith) (0 ∷ 0 ∷ 1 ∷ 0x80000000 ∷ 0 ∷ []) [] sees1 tt

-- beside the list: a table of more than a million blocks is refused with InvalidValue, and stays as it was
pub format_many : (t : Bytes) → (Misfit t → ⊥) → 1000000 < blocks t → (o : Answer × Bytes) → FormatPromise t o.0 o.1 → o ≡ format_gives InvalidValue t
format_many t fit many o p = refused (format_rows t) (format_done t) o (format_gives InvalidValue t) (inr (fit, inl (inr many, refl))) p
