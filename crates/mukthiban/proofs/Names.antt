-- The promise of the name's export, from that of the call and by the kind.
use mathlib.Core.Path.{◌≡◌, refl, ap, subst, subst⁻¹}
use mathlib.Core.List.{List, [], ◌∷◌}
use mathlib.Core.Logic.{◌⊎◌, inl, inr, ⊎_elim}
use Prim.Native.Nat.{ℕ, zero, suc, ◌+◌, ◌*◌, ◌≤◌, ◌<◌}
use native.Mathlib.Omega.{arith}
use Rattle.std.specs.Prelude.{Ok, Err}
use Rattle.order.specs.First.{First, row}
use Rattle.order.specs.Gate.{gate, cleared}
use Rattle.order.specs.Beside.{Beside, beside, Promised}
use Rattle.order.specs.Answer.{Answer, Done, NotFound, BrokenTree, SizeMismatch, InvalidValue}
use Rattle.order.specs.declared.Refusal.{Refusal}
use Rattle.tree_sound.specs.Sizes.{Misfit, rooms}
use Rattle.tree_sound.specs.Tables.{Tables}
use Rattle.tree_promises.specs.declared.Kind.{Kind}
use Rattle.tree_promises.specs.declared.Kind.TheVariants.{Directory, File}
use Rattle.tree_promises.specs.Promise.{TreePromise}
use Rattle.tree.specs.Name.{NameAnswerPromise}
use Rattle.mukthiban.specs.Export.{Exported}
use Rattle.mukthiban.specs.Name.{Naming, named_gives, name_rows, name_done, NamePromise}

-- an answer with its place
abbrev naming : ℕ → Answer → Naming
naming at (Ok done) = named_gives Done at
naming at (Err why) = named_gives (Err why) 0

module _ {misfit outside other short unsound dead : Type 0} (k at : ℕ) (work w : List ℕ) (a : Answer) (no : other → ⊥) where
  -- the rows of the answer alone, as rows of the answer with its place
  pub with_place : Promised (gate (λ a w. beside a w) misfit outside short (row unsound BrokenTree ∷ []) k work) (cleared k work) (row dead NotFound ∷ []) Done (beside a w)
      → Promised (gate (λ a w. beside (named_gives a 0) w) misfit (outside ⊎ other) short (row unsound BrokenTree ∷ []) k work) (cleared k work)
      (row dead (named_gives NotFound 0) ∷ []) (named_gives Done at) (beside (naming at a) w)
  with_place (inl p) = inl (p.0, ap (λ (o : Beside Answer). beside (naming at o.given) o.work) p.1)
  with_place (inr (m, inl p)) = inr (m, inl (inl p.0, ap (λ (o : Beside Answer). beside (naming at o.given) o.work) p.1))
  with_place (inr (m, inr (i, inl p))) =
      inr (m, inr (⊎_elim i no, inl (p.0, ap (λ (o : Beside Answer). beside (naming at o.given) o.work) p.1)))
  with_place (inr (m, inr (i, inr (s, inl p)))) =
      inr (m, inr (⊎_elim i no, inr (s, inl (p.0, ap (λ (o : Beside Answer). beside (naming at o.given) o.work) p.1))))
  with_place (inr (m, inr (i, inr (s, inr (u, inl p))))) =
      inr (m, inr (⊎_elim i no, inr (s, inr (u, inl (p.0, ap (λ (o : Beside Answer). beside (naming at o.given) o.work) p.1)))))
  with_place (inr (m, inr (i, inr (s, inr (u, inr (d, p)))))) =
      inr (m, inr (⊎_elim i no, inr (s, inr (u, inr (d, ap (λ (o : Beside Answer). beside (naming at o.given) o.work) p)))))

-- a kind is a table, and the width of its entries
module _ (s : Tables) (work w : List ℕ) (kind x : ℕ) (a : Answer) (of : Kind × ℕ) where
  -- the directories
  pub dir_named : kind ≡ 0 → of ≡ (Directory, 40) → NameAnswerPromise s work of.0 x (beside a w) → NamePromise s work kind x (beside (naming (x * of.1 + 4) a) w)
  unfolding TreePromise
  dir_named e z p =
      subst⁻¹ (λ (o : Kind × ℕ). NamePromise s work kind x (beside (naming (x * o.1 + 4) a) w)) z
      (subst⁻¹ (λ (k : ℕ). NamePromise s work k x (beside (naming (x * 40 + 4) a) w)) e
      (with_place (rooms s.dir_table s.file_table) (x * 40 + 4) work w a (λ h. omega (arith, h)) (subst (λ (o : Kind × ℕ). NameAnswerPromise s work o.0 x (beside a w)) z p)))

  -- the files
  pub file_named : kind ≡ 1 → of ≡ (File, 48) → NameAnswerPromise s work of.0 x (beside a w) → NamePromise s work kind x (beside (naming (x * of.1 + 4) a) w)
  unfolding TreePromise
  file_named e z p =
      subst⁻¹ (λ (o : Kind × ℕ). NamePromise s work kind x (beside (naming (x * o.1 + 4) a) w)) z
      (subst⁻¹ (λ (k : ℕ). NamePromise s work k x (beside (naming (x * 48 + 4) a) w)) e
      (with_place (rooms s.dir_table s.file_table) (x * 48 + 4) work w a (λ h. omega (arith, h)) (subst (λ (o : Kind × ℕ). NameAnswerPromise s work o.0 x (beside a w)) z p)))

-- another kind: the sizes do not fit, or they do
pub other_named : (s : Tables) (work : List ℕ) (kind x : ℕ) (why : Refusal) → First (row (Misfit s.dir_hash s.dir_table s.file_hash s.file_table) SizeMismatch ∷ []) InvalidValue (Err why)
    → 1 < kind → NamePromise s work kind x (beside (named_gives (Err why) 0) work)
other_named s work kind x why (inl p) h = inl (p.0, ap (λ (a : Answer). beside (named_gives a 0) work) p.1)
other_named s work kind x why (inr p) h = inr (p.0, inl (inr h, ap (λ (a : Answer). beside (named_gives a 0) work) p.1))

module _ (s : Tables) (kind x n off : ℕ) where
  pub inner_dir : kind ≡ 0 → Exported n (λ a. First (name_rows s 0 x) (name_done 0 x) (named_gives a off)) → Exported n (λ a. First (name_rows s kind x) (name_done kind x) (named_gives a off))
  inner_dir e p = subst⁻¹ (λ (k : ℕ). Exported n (λ a. First (name_rows s k x) (name_done k x) (named_gives a off))) e p

  pub inner_file : kind ≡ 1 → Exported n (λ a. First (name_rows s 1 x) (name_done 1 x) (named_gives a off)) → Exported n (λ a. First (name_rows s kind x) (name_done kind x) (named_gives a off))
  inner_file e p = subst⁻¹ (λ (k : ℕ). Exported n (λ a. First (name_rows s k x) (name_done k x) (named_gives a off))) e p
