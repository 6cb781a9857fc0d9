-- The list is complete, and each finding stands once: how often each stands in it.
use mathlib.Core.Path.{◌≡◌, refl, sym, ap, subst, subst⁻¹, ◌∙◌}
use mathlib.Core.List.{List, [], ◌∷◌, ◌++◌}
use mathlib.Core.Bool.{Bool, true, false, cond, not, ◌&&◌}
use mathlib.Core.Logic.{◌⊎◌, inl, inr, ⊎_elim}
use Prim.Native.Nat.{ℕ, zero, suc, ◌+◌, ◌≤◌, ◌<◌}
use native.Mathlib.Omega.{arith}
use lib.Dec.{eqb, ltb}
use borrow.Author.Tests.{eqb-true, eqb-false, eq-eqb, ltb-true, ltb-false, lt-ltb, le-ltb}
use Rattle.fat_node.proofs.Nodes.{le_or_lt}
use Rattle.audit_inner.specs.Findings.{Subject, Finding, finding, when, astray, shared, over, lost, file_findings, block_findings, findings}
use Rattle.audit.specs.Reader.{times, bit}

times_append : (k x : ℕ) (a b : List Finding) → times k x (a ++ b) ≡ times k x a + times k x b
times_append k x [] b = omega arith
times_append k x (f ∷ a) b = omega (arith, times_append k x a b)

-- of one finding: of another kind, and of this kind
other : (j k x y : ℕ) (t : Bool) → eqb j k ≡ false → times k x (when t (finding j y)) ≡ 0
other j k x y true e = ap (λ (c : Bool). cond {A = ℕ} (c && eqb y x) 1 0 + 0) e
other j k x y false e = refl

same : (k x y : ℕ) (t : Bool) → times k x (when t (finding k y)) ≡ bit (t && eqb y x)
same k x y true = ap (λ (c : Bool). cond {A = ℕ} (c && eqb y x) 1 0 + 0) (eq-eqb k k refl) ∙ omega arith
same k x y false = refl

-- one number more
more : (P : ℕ → Bool) (x n : ℕ) → bit (ltb x n && P x) + bit (P n && eqb n x) ≡ bit (ltb x (suc n) && P x)
more P x n = go (eqb n x) refl
  where
    none : (t : Bool) → bit (t && false) ≡ 0
    none true = refl
    none false = refl

    go : (t : Bool) → eqb n x ≡ t → bit (ltb x n && P x) + bit (P n && t) ≡ bit (ltb x (suc n) && P x)
    go true e =
        let q : n ≡ x = eqb-true n x e in
        let a : bit (ltb x n && P x) ≡ 0 = ap (λ (c : Bool). bit (c && P x)) (le-ltb x n (omega (arith, q))) in
        let b : bit (ltb x (suc n) && P x) ≡ bit (P x) = ap (λ (c : Bool). bit (c && P x)) (lt-ltb x (suc n) (omega (arith, q))) in
        let c : bit (P n && true) ≡ bit (P x) = ap (λ (y : ℕ). bit (P y && true)) q ∙ last (P x) in
        omega (arith, a, b, c)
      where
        last : (t : Bool) → bit (t && true) ≡ bit t
        last true = refl
        last false = refl
    go false e =
        let a : bit (P n && false) ≡ 0 = none (P n) in
        let b : bit (ltb x (suc n) && P x) ≡ bit (ltb x n && P x) =
        ⊎_elim
        (λ (h : n ≤ x).
        ap (λ (c : Bool). bit (c && P x)) (le-ltb x (suc n) (strict h (eqb-false n x e)))
        ∙ sym (ap (λ (c : Bool). bit (c && P x)) (le-ltb x n h)))
        (λ (h : x < n).
        ap (λ (c : Bool). bit (c && P x)) (lt-ltb x (suc n) (omega (arith, h))) ∙ sym (ap (λ (c : Bool). bit (c && P x)) (lt-ltb x n h)))
        (le_or_lt n x) in
        omega (arith, a, b)
      where
        strict : n ≤ x → (n ≡ x → ⊥) → suc n ≤ x
        strict h d = ⊎_elim (λ (k : suc n ≤ x). k) (λ (k : x < suc n). absurd (d (omega (arith, h, k)))) (le_or_lt (suc n) x)

module _ (S : Subject) where
  -- of the files and of the blocks, a kind k that P decides
  files_times : (k : ℕ) (P : ℕ → Bool)
      → ((x y : ℕ) → times k x (when (astray S y) (finding 1 y) ++ (when (shared S y) (finding 2 y) ++ when (over S y) (finding 3 y))) ≡ bit (P y && eqb y x))
      → (x n : ℕ) → times k x (file_findings S n) ≡ bit (ltb x n && P x)
  files_times k P r x zero = sym (ap (λ (c : Bool). bit (c && P x)) (le-ltb x 0 (omega arith)))
  files_times k P r x (suc n) =
      times_append k x (file_findings S n) (when (astray S n) (finding 1 n) ++ (when (shared S n) (finding 2 n) ++ when (over S n) (finding 3 n)))
      ∙ ap (λ (m : ℕ). m + times k x (when (astray S n) (finding 1 n) ++ (when (shared S n) (finding 2 n) ++ when (over S n) (finding 3 n)))) (files_times k P r x n)
      ∙ ap (λ (m : ℕ). bit (ltb x n && P x) + m) (r x n)
      ∙ more P x n

  blocks_times : (k : ℕ) (P : ℕ → Bool) → ((x y : ℕ) → times k x (when (lost S y) (finding 4 y)) ≡ bit (P y && eqb y x)) → (x n : ℕ) → times k x (block_findings S n) ≡ bit (ltb x n && P x)
  blocks_times k P r x zero = sym (ap (λ (c : Bool). bit (c && P x)) (le-ltb x 0 (omega arith)))
  blocks_times k P r x (suc n) =
      times_append k x (block_findings S n) (when (lost S n) (finding 4 n))
      ∙ ap (λ (m : ℕ). m + times k x (when (lost S n) (finding 4 n))) (blocks_times k P r x n)
      ∙ ap (λ (m : ℕ). bit (ltb x n && P x) + m) (r x n)
      ∙ more P x n

  -- a kind that does not stand there
  abbrev never : ℕ → Bool
  never y = false

  no_bit : (x n : ℕ) → bit (ltb x n && false) ≡ 0
  no_bit x n = go (ltb x n)
    where
      go : (t : Bool) → bit (t && false) ≡ 0
      go true = refl
      go false = refl

  three : (k x y : ℕ) (a b c : ℕ) → times k x (when (astray S y) (finding 1 y)) ≡ a → times k x (when (shared S y) (finding 2 y)) ≡ b → times k x (when (over S y) (finding 3 y)) ≡ c
      → times k x (when (astray S y) (finding 1 y) ++ (when (shared S y) (finding 2 y) ++ when (over S y) (finding 3 y))) ≡ a + (b + c)
  three k x y a b c p q r =
      omega (
        arith,
        times_append k x (when (astray S y) (finding 1 y)) (when (shared S y) (finding 2 y) ++ when (over S y) (finding 3 y)),
        times_append k x (when (shared S y) (finding 2 y)) (when (over S y) (finding 3 y)),
        p,
        q,
        r,
      )

  whole : (k x : ℕ) (a b : ℕ) → times k x (file_findings S S.count) ≡ a → times k x (block_findings S S.blocks) ≡ b → times k x (findings S) ≡ a + b
  unfolding findings
  whole k x a b p q = omega (arith, times_append k x (file_findings S S.count) (block_findings S S.blocks), p, q)

  -- the list is complete and each finding stands once: of each kind, once where it applies and else never
  pub times_astray : (y : ℕ) → times 1 y (findings S) ≡ bit (ltb y S.count && astray S y)
  times_astray x =
      whole 1 x _ _
      (files_times 1 (astray S) (λ z y. three 1 z y _ _ _ (same 1 z y (astray S y)) (other 2 1 z y (shared S y) refl) (other 3 1 z y (over S y) refl) ∙ omega arith) x S.count)
      (blocks_times 1 never (λ z y. other 4 1 z y (lost S y) refl) x S.blocks ∙ no_bit x S.blocks)
      ∙ omega arith

  pub times_shared : (y : ℕ) → times 2 y (findings S) ≡ bit (ltb y S.count && shared S y)
  times_shared x =
      whole 2 x _ _
      (files_times 2 (shared S) (λ z y. three 2 z y _ _ _ (other 1 2 z y (astray S y) refl) (same 2 z y (shared S y)) (other 3 2 z y (over S y) refl) ∙ omega arith) x S.count)
      (blocks_times 2 never (λ z y. other 4 2 z y (lost S y) refl) x S.blocks ∙ no_bit x S.blocks)
      ∙ omega arith

  pub times_over : (y : ℕ) → times 3 y (findings S) ≡ bit (ltb y S.count && over S y)
  times_over x =
      whole 3 x _ _
      (files_times 3 (over S) (λ z y. three 3 z y _ _ _ (other 1 3 z y (astray S y) refl) (other 2 3 z y (shared S y) refl) (same 3 z y (over S y)) ∙ omega arith) x S.count)
      (blocks_times 3 never (λ z y. other 4 3 z y (lost S y) refl) x S.blocks ∙ no_bit x S.blocks)
      ∙ omega arith

  pub times_lost : (b : ℕ) → times 4 b (findings S) ≡ bit (ltb b S.blocks && lost S b)
  times_lost x =
      whole 4 x _ _
      (files_times 4 never (λ z y. three 4 z y _ _ _ (other 1 4 z y (astray S y) refl) (other 2 4 z y (shared S y) refl) (other 3 4 z y (over S y) refl)) x S.count ∙ no_bit x S.count)
      (blocks_times 4 (lost S) (λ z y. same 4 z y (lost S y)) x S.blocks)
      ∙ omega arith
