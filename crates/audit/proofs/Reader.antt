-- No findings exactly when the two layers agree.
use mathlib.Core.Path.{◌≡◌, refl, sym, ap, subst, subst⁻¹, ◌∙◌}
use mathlib.Core.List.{List, [], ◌∷◌, ◌++◌}
use mathlib.Core.Bool.{Bool, true, false, cond, not, ◌&&◌, ◌||◌}
use mathlib.Core.Logic.{◌⊎◌, inl, inr, ⊎_elim, ◌≢◌}
use Prim.Native.Nat.{ℕ, zero, suc, ◌+◌, ◌-◌, ◌*◌, ◌≤◌, ◌<◌}
use native.Mathlib.Omega.{arith}
use lib.Dec.{eqb, ltb}
use borrow.Author.Tests.{eqb-true, eq-eqb, ltb-true, ltb-false, lt-ltb, le-ltb}
use Rattle.links.specs.Links.{◌∈◌}
use Rattle.links.proofs.Held.{same_or}
use Rattle.fat_node.specs.Entry.{Bytes}
use Rattle.fat_node.proofs.Nodes.{le_or_lt}
use Rattle.fat_node.specs.Node.{Run}
use Rattle.fat_table.specs.Sound.{File}
use Rattle.fat_table.specs.Layout.{empties}
use Rattle.fat_table.specs.Steps.{first}
use Rattle.fat_table.specs.Chain.{total, file_at}
use Rattle.fat_table.proofs.Files.{Whole}
use Rattle.fat_table.proofs.Decided.{file_decided}
use Rattle.tree_table.specs.Chain.{member}
use Rattle.tree_table.specs.View.{LiveIn}
use Rattle.tree_table.proofs.Chain.{member_in, not_member}
use Rattle.tree_sound.specs.Tables.{Tables, files}
use Rattle.audit_inner.specs.Findings.{Subject, Finding, finding, full, names, named, starts, astray, shared, over, lost, when, file_findings, block_findings, findings}
use Rattle.audit_inner.specs.Volume.{record_block, record_size, count_of, removed_files, is_live, chain_of, subject}
use Rattle.audit_inner.proofs.Chains.{chain_file, chain_none}
use Rattle.fat_walk.proofs.Chains.{file_chain}
use Rattle.audit.specs.Reader.{Full, Clean, times, bit}
use Rattle.audit.proofs.Times.{times_astray, times_shared, times_over, times_lost}

-- ---- tests

untrue : {A : Type 0} → true ≡ false → A
untrue e = let z : ◌≡◌ {A = ℕ} 0 1 = cc in let z' : ⊥ = omega (arith, z) in absurd z'

both : (a b : Bool) → a && b ≡ true → (a ≡ true) × (b ≡ true)
both true b e = (refl, e)
both false b e = untrue (sym e)

and_true : (a b : Bool) → a ≡ true → b ≡ true → a && b ≡ true
and_true a b e q = ap (λ (x : Bool). x && b) e ∙ q

-- a test that does not say yes says no
no_if : (a : Bool) → (a ≡ true → ⊥) → a ≡ false
no_if true h = absurd (h refl)
no_if false h = refl

flip : (a : Bool) → not a ≡ true → a ≡ false
flip true e = untrue (sym e)
flip false e = refl

bit_none : (a b : Bool) → bit (a && b) ≡ 0 → a ≡ true → b ≡ true → ⊥
bit_none a b e p q = let z : bit (a && b) ≡ 1 = ap bit (and_true a b p q) in omega (arith, z, e)

-- ---- a subject with no findings: none of the four applies

pub record Quiet (S : Subject) : Type 0 where
  pub astray : (y : ℕ) → y < S.count → astray S y ≡ true → ⊥
  pub shared : (y : ℕ) → y < S.count → shared S y ≡ true → ⊥
  pub over : (y : ℕ) → y < S.count → over S y ≡ true → ⊥
  pub lost : (b : ℕ) → b < S.blocks → lost S b ≡ true → ⊥

module _ (S : Subject) where
  none_quiet : findings S ≡ [] → Quiet S
  none_quiet e = record {
    astray = λ y h p. bit_none (ltb y S.count) (astray S y) (sym (times_astray S y) ∙ ap (times 1 y) e) (lt-ltb y S.count h) p;
    shared = λ y h p. bit_none (ltb y S.count) (shared S y) (sym (times_shared S y) ∙ ap (times 2 y) e) (lt-ltb y S.count h) p;
    over = λ y h p. bit_none (ltb y S.count) (over S y) (sym (times_over S y) ∙ ap (times 3 y) e) (lt-ltb y S.count h) p;
    lost = λ b h p. bit_none (ltb b S.blocks) (lost S b) (sym (times_lost S b) ∙ ap (times 4 b) e) (lt-ltb b S.blocks h) p;
  }

  empty : (t : Bool) (f : Finding) (l : List Finding) → (t ≡ true → ⊥) → l ≡ [] → when t f ++ l ≡ []
  empty true f l h e = absurd (h refl)
  empty false f l h e = e

  module _ (q : Quiet S) where
    quiet_files : (y : ℕ) → y ≤ S.count → file_findings S y ≡ []
    quiet_files zero h = refl
    quiet_files (suc y) h =
        ap (λ (l : List Finding). l ++ (when (astray S y) (finding 1 y) ++ (when (shared S y) (finding 2 y) ++ when (over S y) (finding 3 y)))) (quiet_files y (omega (arith, h)))
        ∙ empty (astray S y) (finding 1 y) _ (q.astray y (omega (arith, h)))
        (empty (shared S y) (finding 2 y) _ (q.shared y (omega (arith, h))) (lastly (over S y) (finding 3 y) (q.over y (omega (arith, h)))))
      where
        lastly : (t : Bool) (f : Finding) → (t ≡ true → ⊥) → when t f ≡ []
        lastly true f k = absurd (k refl)
        lastly false f k = refl

    quiet_blocks : (b : ℕ) → b ≤ S.blocks → block_findings S b ≡ []
    quiet_blocks zero h = refl
    quiet_blocks (suc b) h =
        ap (λ (l : List Finding). l ++ when (lost S b) (finding 4 b)) (quiet_blocks b (omega (arith, h))) ∙ lastly (lost S b) (finding 4 b) (q.lost b (omega (arith, h)))
      where
        lastly : (t : Bool) (f : Finding) → (t ≡ true → ⊥) → when t f ≡ []
        lastly true f k = absurd (k refl)
        lastly false f k = refl

    quiet_none : findings S ≡ []
    unfolding findings
    quiet_none =
        ap (λ (l : List Finding). l ++ block_findings S S.blocks) (quiet_files S.count (omega arith)) ∙ quiet_blocks S.blocks (omega arith)

  -- a file below y that names block b
  named_some : (y b : ℕ) → named S y b ≡ true → (z : ℕ) × (z < y) × (full S z ≡ true) × (S.block z ≡ b)
  unfolding names
  named_some zero b e = untrue (sym e)
  named_some (suc y) b e = go (names S y b) refl e (named_some y b)
    where
      go : (t : Bool) → names S y b ≡ t → t || named S y b ≡ true → (named S y b ≡ true → (z : ℕ) × (z < y) × (full S z ≡ true) × (S.block z ≡ b))
          → (z : ℕ) × (z < suc y) × (full S z ≡ true) × (S.block z ≡ b)
      go true p q f = let w = both (full S y) (eqb (S.block y) b) p in (y, omega arith, w.0, eqb-true (S.block y) b w.1)
      go false p q f = let w = f q in (w.0, omega (arith, w.1), w.2, w.3)

  some_named : (y b z : ℕ) → z < y → full S z ≡ true → S.block z ≡ b → named S y b ≡ true
  unfolding names
  some_named zero b z h e q = let x : ⊥ = omega (arith, h) in absurd x
  some_named (suc y) b z h e q = ⊎_elim (λ (k : y ≤ z). first (omega (arith, h, k))) (λ (k : z < y). rest (some_named y b z k e q)) (le_or_lt y z)
    where
      or_true : (a c : Bool) → c ≡ true → a || c ≡ true
      or_true true c p = refl
      or_true false c p = p

      first : z ≡ y → names S y b || named S y b ≡ true
      first k =
          ap (λ (t : Bool). t || named S y b)
          (and_true (full S y) (eqb (S.block y) b) (subst (λ (x : ℕ). full S x ≡ true) k e) (eq-eqb (S.block y) b (ap S.block (sym k) ∙ q)))

      rest : named S y b ≡ true → names S y b || named S y b ≡ true
      rest p = or_true (names S y b) (named S y b) p

-- ---- the two layers

total_some : (l : List Run) (b : ℕ) → first l ≡ suc b → empties l ≡ 0 → 1 ≤ total l
total_some [] b e p = let z : ⊥ = omega (arith, e) in absurd z
total_some (r ∷ l) b e p = omega (arith, p)

-- inode y is live exactly where the test says so
pub live_in : (s : Tables) (y : ℕ) → is_live s.file_table y ≡ true → LiveIn (files s) y
unfolding is_live count_of removed_files
live_in s y e =
    let a = both (ltb 0 y) _ e in
    let b = both (ltb y (count_of s.file_table)) _ a.1 in
    (ltb-true 0 y a.0, ltb-true y (count_of s.file_table) b.0, not_member y (removed_files s.file_table) (flip (member y (removed_files s.file_table)) b.1))

pub in_live : (s : Tables) (y : ℕ) → LiveIn (files s) y → is_live s.file_table y ≡ true
unfolding is_live count_of removed_files
in_live s y l =
    and_true (ltb 0 y) _ (lt-ltb 0 y l.0)
    (and_true (ltb y (count_of s.file_table)) _ (lt-ltb y (count_of s.file_table) l.1)
    (ap not (no_if (member y (removed_files s.file_table)) (λ e. l.2 (member_in y (removed_files s.file_table) e)))))

module _ (n : ℕ) (t : Bytes) (l : ℕ) (s : Tables) (w : Whole n t) where
  abbrev S : Subject
  S = subject n t l s.file_table

  abbrev block : ℕ → ℕ
  block = record_block s.file_table

  full_of : (y : ℕ) → Full s y → full S y ≡ true
  unfolding full
  full_of y f = and_true (is_live s.file_table y) _ (in_live s y f.0) (lt-ltb 0 (record_size s.file_table y) f.1)

  of_full : (y : ℕ) → full S y ≡ true → Full s y
  unfolding full
  of_full y e = let a = both (is_live s.file_table y) _ e in (live_in s y a.0, ltb-true 0 (record_size s.file_table y) a.1)

  below : (y : ℕ) → Full s y → y < S.count
  unfolding count_of
  below y f = f.0.1

  starts_of : (b : ℕ) → File t n b → starts S b ≡ true
  unfolding starts
  starts_of b f =
      let c = file_chain n t w b f in
      lt-ltb 0 (chain_of n t b) (omega (arith, chain_file n t w b f, total_some (file_at n t b) b c.at c.chain.positive))

  of_starts : (b : ℕ) → starts S b ≡ true → File t n b
  unfolding starts
  of_starts b e =
      ⊎_elim (λ f. f) (λ h. let z : ⊥ = omega (arith, ltb-true 0 (chain_of n t b) e, chain_none n t w b h) in absurd z) (file_decided n t b w)

  clean_quiet : Clean n t l s → Quiet S
  unfolding astray shared over lost
  clean_quiet c = record {
    astray = λ y h e.
        let a = both (full S y) _ e in
        let f = of_full y a.0 in
        untrue (sym (starts_of (block y) (c.chain y f)) ∙ flip (starts S (block y)) a.1);
    shared = λ y h e.
        let a = both (full S y) _ e in
        let b = both (starts S (block y)) _ a.1 in
        let z = named_some S y (block y) b.1 in
        let q : z.0 ≡ y = c.own z.0 y (of_full z.0 z.2) (of_full y a.0) z.3 in
        omega (arith, q, z.1);
    over = λ y h e.
        let a = both (full S y) _ e in
        let b = both (starts S (block y)) _ a.1 in
        let f = of_full y a.0 in
        omega (
          arith,
          ltb-true (chain_of n t (block y) * l) (record_size s.file_table y) b.1,
          c.enough y f,
          ap (λ (m : ℕ). m * l) (chain_file n t w (block y) (c.chain y f)),
        );
    lost = λ b h e.
        let a = both (starts S b) _ e in
        let m = c.named b (of_starts b a.0) in
        untrue (sym (some_named S S.count b m.0 (below m.0 m.1) (full_of m.0 m.1) m.2) ∙ flip (named S S.count b) a.1);
  }

  quiet_clean : Quiet S → Clean n t l s
  unfolding astray shared over lost
  quiet_clean q = record {
    chain = chained;
    own = λ y z f g e. ⊎_elim (λ (k : y ≤ z). ⊎_elim (λ p. p) (λ (d : y ≢ z). absurd (twice y z f g e (strict y z k d))) (same_or y z)) (λ (k : z < y). absurd (twice z y g f (sym e) k)) (le_or_lt y z);
    enough = λ y f.
        ⊎_elim (λ k. k)
        (λ (k : total (file_at n t (block y)) * l < record_size s.file_table y).
        absurd (q.over y (below y f) (and_true (full S y) _ (full_of y f) (and_true (starts S (block y)) _ (starts_of (block y) (chained y f))
        (lt-ltb (chain_of n t (block y) * l) (record_size s.file_table y) (omega (arith, k, ap (λ (m : ℕ). m * l) (chain_file n t w (block y) (chained y f)))))))))
        (le_or_lt (record_size s.file_table y) (total (file_at n t (block y)) * l));
    named = λ b f. holder b f (named S S.count b) refl;
  }
    where
      chained : (y : ℕ) → Full s y → File t n (block y)
      chained y f = of_starts (block y) (yes (starts S (block y)) refl)
        where
          yes : (x : Bool) → starts S (block y) ≡ x → starts S (block y) ≡ true
          yes true e = e
          yes false e = absurd (q.astray y (below y f) (and_true (full S y) _ (full_of y f) (ap not e)))

      strict : (y z : ℕ) → y ≤ z → y ≢ z → y < z
      strict y z k d = ⊎_elim (λ (h : z ≤ y). absurd (d (omega (arith, h, k)))) (λ h. h) (le_or_lt z y)

      twice : (y z : ℕ) → Full s y → Full s z → block y ≡ block z → y < z → ⊥
      twice y z f g e h =
          q.shared z (below z g)
          (and_true (full S z) _ (full_of z g)
          (and_true (starts S (block z)) _ (starts_of (block z) (chained z g)) (some_named S z (block z) y h (full_of y f) e)))

      holder : (b : ℕ) → File t n b → (x : Bool) → named S S.count b ≡ x → (y : ℕ) × Full s y × (block y ≡ b)
      holder b f true e = let z = named_some S S.count b e in (z.0, of_full z.0 z.2, z.3)
      holder b f false e = absurd (q.lost b f.0.1 (and_true (starts S b) _ (starts_of b f) (ap not e)))

  -- the reader's theorem
  pub clean : (findings S ≡ [] → Clean n t l s) × (Clean n t l s → findings S ≡ [])
  clean = ((λ e. quiet_clean (none_quiet S e)), λ c. quiet_none S (clean_quiet c))
