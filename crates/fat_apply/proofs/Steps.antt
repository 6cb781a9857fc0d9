-- An accepted plan applied, call by call.
use mathlib.Core.Path.{◌≡◌, refl, sym, ap, subst, subst⁻¹, ◌∙◌}
use mathlib.Core.List.{List, [], ◌∷◌, ◌++◌}
use mathlib.Core.Logic.{◌⊎◌, inl, inr, ⊎_elim}
use Prim.Native.Nat.{ℕ, suc, ◌+◌, ◌*◌, ◌/◌, ◌≤◌, ◌<◌}
use native.Mathlib.Omega.{arith}
use native.Mathlib.Numerals.{add-one}
use mir.Syntax.{w64}
use mir.Val.{Fits}
use lib.ListN.{length, get_or}
use lib.Seq.{sets}
use Rattle.words.proofs.Laws as words
use Rattle.std.specs.Prelude.{Err}
use Rattle.order.specs.Answer.{Answer, Done}
use Rattle.order.specs.declared.Refusal.{Refusal}
use Rattle.order.proofs.Tests.{tests_passed}
use Rattle.fat_node.specs.Entry.{Bytes}
use Rattle.fat_node.specs.Node.{Run, run}
use Rattle.fat_table.specs.Sound.{File}
use Rattle.fat_table.specs.Chain.{total, chain_at, free_at, file_at}
use Rattle.fat_table.specs.Layout.{hits, covers, joined}
use Rattle.fat_table.specs.Steps.{deleted}
use Rattle.fat_table.proofs.Layouts.{hits_most, covers_append}
use Rattle.fat_table.proofs.Laying.{inside_of}
use Rattle.fat_table.proofs.Files.{Whole, seen_file}
use Rattle.fat_promises.specs.Blocks.{blocks_of, bytes_at}
use Rattle.fat_walk.specs.Volume.{Volume}
use Rattle.fat_walk.specs.Inner.Chains.{ChainFrom, LastAt}
use Rattle.fat_walk.proofs.Chains.{file_chain}
use Rattle.fat_walk.proofs.Found.{file_fits}
use Rattle.fat_walk.proofs.Hops.{whole_of}
use Rattle.fat_judge.specs.Inner.Plans.{DeleteAt}
use Rattle.fat_walk.proofs.Blocks.{length_blocks}
use Rattle.fat_step.proofs.Over.{outside}
use Rattle.fat_history.proofs.Places.{occurs, occurs_at, occurs_blocks}
use Rattle.fat_history.proofs.Apart.{blocks_low}
use Rattle.fat_carve.specs.Carve.{Window}
use Rattle.fat_carve.proofs.Carves.{window_of}
use Rattle.fat_place.specs.Place.{applied, placed}
use Rattle.fat_place.proofs.Tables.{place_whole, place_leaves}
use Rattle.fat_place.proofs.Applied.{applied_steps}
use Rattle.fat_plan.specs.Plan.{moves, target_of}
use Rattle.fat_plan.specs.Promise.{check_tests, CheckSound, MayCheck}
use Rattle.fat_plan.proofs.Judges.{file_some}
use Rattle.fat_plan.proofs.May.{may_check, none_check}
use Rattle.fat_apply.specs.Apply.{copied, apply_gives, apply_done, ApplySound}
use Rattle.fat_apply.specs.Inner.Moving.{sources_of, Movable, AppliedBy}
use Rattle.fat_apply.proofs.Copies.{sources_length}

pub sources_moves : (B : List ℕ) (m : ℕ) → sources_of (moves B m) ≡ B
sources_moves [] m = refl
sources_moves (b ∷ B) m = ap {B = List ℕ} (λ l. b ∷ l) (sources_moves B (suc m))

-- what is known of a plan that is accepted -------------------------------------------------------------------------------

module _ (n : ℕ) (t : Bytes) (w : Whole n t) (b : ℕ) (plan : List ℕ) (a : MayCheck n t b plan) (some : 1 ≤ total (file_at n t b)) where
  abbrev F : List Run
  F = file_at n t b

  abbrev m : ℕ
  m = target_of plan

  pub window : Window m (total F) (free_at n t)
  window = window_of m (total F) (free_at n t) some a.accepted.free

  -- no block is in two chains
  once : (x : ℕ) → covers x (free_at n t) + covers x F ≤ hits x (run 0 n)
  once x =
      let s = seen_file n t b w a.file in
      omega (arith, s.holds.tiled.once x, covers_append x (free_at n t) (F ++ joined s.others), covers_append x F (joined s.others))

  pub target_within : m + total F ≤ n
  target_within = inside_of n (run m (total F)) some (λ x. omega (arith, window.each x, once x))

  sources_are : sources_of plan ≡ blocks_of F
  sources_are = ap sources_of a.accepted.each ∙ sources_moves (blocks_of F) m

  sources_many : length (sources_of plan) ≡ total F
  sources_many = ap {B = ℕ} length sources_are ∙ length_blocks F

  pub plan_half : length plan / 2 ≡ total F
  plan_half = sym (sources_length plan) ∙ sources_many

  pub plan_long : 1 < length plan
  plan_long = omega (arith, plan_half, some)

  module _ (i : ℕ) (h : i < length (sources_of plan)) where
    abbrev x : ℕ
    x = get_or (sources_of plan) i 0

    source_in : 1 ≤ occurs x (blocks_of F)
    source_in =
        let e : get_or (blocks_of F) i 0 ≡ x = ap (λ (l : List ℕ). get_or l i 0) (sym sources_are) in
        subst (λ (y : ℕ). 1 ≤ occurs y (blocks_of F)) e (occurs_at (blocks_of F) i (omega (arith, h, ap {B = ℕ} length sources_are)))

    source_apart : (x < m) ⊎ (m + total F ≤ x)
    source_apart =
        outside x (run m (total F)) (omega (arith, window.each x, once x, hits_most x (run 0 n), occurs_blocks x F, source_in))

  pub movable : Movable n m plan
  movable = record {
    few = w.small;
    within = omega (arith, target_within, sources_many);
    low = λ i h. blocks_low n t w b a.file (get_or (sources_of plan) i 0) (source_in i h);
    apart = λ i h. ⊎_elim (λ p. inl p) (λ p. inr (omega (arith, p, sources_many))) (source_apart i h);
  }

  copied_is : (d : Bytes) (l : ℕ) → sets d (m * l) (bytes_at (length (sources_of plan) * l) d l (sources_of plan) 0) ≡ copied n t d l b m
  unfolding copied
  copied_is d l =
      ap (λ (k : ℕ). sets d (m * l) (bytes_at (k * l) d l (sources_of plan) 0)) sources_many
      ∙ ap (λ (B : List ℕ). sets d (m * l) (bytes_at (total F * l) d l B 0)) sources_are

-- the step ---------------------------------------------------------------------------------------------------------------

module _ (n : ℕ) (t : Bytes) (v : Volume n t) (g : words.Bytes t) (b : ℕ) (plan : List ℕ) (a : MayCheck n t b plan) where
  here : Whole n t
  here = whole_of n t v g

  some_blocks : 1 ≤ total (file_at n t b)
  some_blocks = file_some n t b v g a.file

  pub step_long : 1 < length plan
  step_long = plan_long n t here b plan a some_blocks

  abbrev r : ℕ
  r = target_of plan

  pub step_movable : Movable n r plan
  step_movable = movable n t here b plan a some_blocks

  pub step_fits : Fits w64 (b + 1)
  step_fits = file_fits n t b v a.file

  module _ (k : ℕ) (h : k ≡ length plan / 2) where
    half : k ≡ total (file_at n t b)
    half = h ∙ plan_half n t here b plan a some_blocks

    pub step_window : Window r k (free_at n t)
    step_window = subst⁻¹ (λ (y : ℕ). Window r y (free_at n t)) half (window n t here b plan a some_blocks)

    pub step_within : r + k ≤ n
    step_within = omega (arith, half, target_within n t here b plan a some_blocks)

    module _ (t₁ : Bytes) (e : t₁ ≡ placed n t r k) where
      placed_whole : Whole n (placed n t r k)
      placed_whole = place_whole n t here r k step_window

      placed_file : File (placed n t r k) n b
      placed_file = (place_leaves n t here r k step_window b a.file).file

      pub step_volume : Volume n t₁
      step_volume = subst⁻¹ (Volume n) e (record { few = placed_whole.small; room = placed_whole.room; sound = placed_whole.sound })

      -- the old file stands beside the new one, and its last node is sought
      pub step_chain : ChainFrom n t₁ (b + 1)
      step_chain =
          subst⁻¹ (ChainFrom n t₁) (add-one b)
          (subst⁻¹ (λ (y : Bytes). ChainFrom n y (suc b)) e (file_chain n (placed n t r k) placed_whole b placed_file))

      pub step_delete : (y : ℕ) → LastAt (chain_at t₁ n (b + 1)) y → DeleteAt n t₁ b y
      step_delete y w = record {
        may = record { file = subst⁻¹ (λ (z : Bytes). File z n b) e placed_file };
        end = subst (λ (j : ℕ). LastAt (chain_at t₁ n j) y) (add-one b) w;
      }

      table_is : (t₂ : Bytes) → t₂ ≡ deleted n t₁ b → t₂ ≡ applied n t b r
      table_is t₂ s =
          s
          ∙ ap (λ (y : Bytes). deleted n y b) e
          ∙ ap (λ (y : ℕ). deleted n (placed n t r y) b) half
          ∙ applied_steps n t here b a.file r (window n t here b plan a some_blocks)

      pub step_done : (t₂ : Bytes) → t₂ ≡ deleted n t₁ b → (d d₁ : Bytes) (l : ℕ)
          → d₁ ≡ sets d (r * l) (bytes_at (length (sources_of plan) * l) d l (sources_of plan) 0)
          → AppliedBy n t d l b plan r t₂ d₁
      step_done t₂ s d d₁ l q = record { at = refl; table = table_is t₂ s; bytes = q ∙ copied_is n t here b plan a some_blocks d l }

-- the call that requires soundness -----------------------------------------------------------------------------------------

pub apply_refused : (n : ℕ) (t d : Bytes) (l b : ℕ) (plan : List ℕ) (why : Refusal) → CheckSound n t b plan (Err why) → ApplySound n t d l b plan (apply_gives (Err why) 0 t d)
apply_refused n t d l b plan why (inl p) = inl (p.0, ap (λ (y : Answer). apply_gives y 0 t d) p.1)
apply_refused n t d l b plan why (inr (p, inl q)) = inr (p, inl (q.0, ap (λ (y : Answer). apply_gives y 0 t d) q.1))
apply_refused n t d l b plan why (inr (p, inr (q, z))) = cc

pub apply_may : (n : ℕ) (t : Bytes) (b : ℕ) (plan : List ℕ) → CheckSound n t b plan Done → Volume n t → words.Bytes t → MayCheck n t b plan
apply_may n t b plan (inl p) v g = cc
apply_may n t b plan (inr (p, inl q)) v g = cc
apply_may n t b plan (inr (p, inr (q, z))) v g = may_check n t b plan (whole_of n t v g) (p, (q, tt))

pub apply_done_lem : (n : ℕ) (t d : Bytes) (l b : ℕ) (plan : List ℕ) → MayCheck n t b plan → (r : ℕ) (t' d' : Bytes) → AppliedBy n t d l b plan r t' d'
    → ApplySound n t d l b plan (apply_gives Done r t' d')
apply_done_lem n t d l b plan a r t' d' p =
    subst⁻¹ (ApplySound n t d l b plan) (λ i. apply_gives Done (p.at i) (p.table i) (p.bytes i))
    (tests_passed (λ y. apply_gives y 0 t d) (apply_done n t d l b plan) (check_tests n t b plan) (none_check n t b plan a))
