-- A worked example of every kind: six blocks of 512 bytes; the file chains start at 0 (1 block), 2 (2 blocks) and 5 (1 block).
use mathlib.Core.Path.{◌≡◌, refl}
use mathlib.Core.List.{List, [], ◌∷◌}
use mathlib.Core.Bool.{Bool, true, false}
use Prim.Native.Nat.{ℕ, zero, suc}
use Rattle.audit_inner.specs.Findings.{Subject, Finding, finding, full, names, starts, astray, shared, over, lost, findings, flat}

-- the fields of inode y, or of block b, from a list
abbrev at : {A : Type 0} → A → List A → ℕ → A
at d [] y = d
at d (a ∷ l) zero = a
at d (a ∷ l) (suc y) = at d l y

-- inode 1 has the chain at 0, and all of it; 2 names block 1, which starts none; 3 is removed; 4 names the chain at 0 too, and is over it; 5 has size 0
-- and names the chain at 2; 6 has the chain at 5
abbrev pub example : Subject
example = record {
  blocks = 6;
  each = 512;
  count = 7;
  live = at false (false ∷ true ∷ true ∷ false ∷ true ∷ true ∷ true ∷ []);
  block = at 0 (0 ∷ 0 ∷ 1 ∷ 0 ∷ 0 ∷ 2 ∷ 5 ∷ []);
  size = at 0 (0 ∷ 512 ∷ 1 ∷ 9 ∷ 513 ∷ 0 ∷ 1 ∷ []);
  chain = at 0 (1 ∷ 0 ∷ 2 ∷ 0 ∷ 0 ∷ 1 ∷ []);
}

pub example_findings : flat (findings example) ≡ 1 ∷ 2 ∷ 2 ∷ 4 ∷ 3 ∷ 4 ∷ 4 ∷ 2 ∷ []
unfolding findings astray shared over lost full names starts
example_findings = refl

-- without inodes 2 and 4, and with a size for 5, nothing is found
abbrev pub mended : Subject
mended = record {
  blocks = 6;
  each = 512;
  count = 7;
  live = at false (false ∷ true ∷ false ∷ false ∷ false ∷ true ∷ true ∷ []);
  block = at 0 (0 ∷ 0 ∷ 1 ∷ 0 ∷ 0 ∷ 2 ∷ 5 ∷ []);
  size = at 0 (0 ∷ 512 ∷ 1 ∷ 9 ∷ 513 ∷ 1024 ∷ 1 ∷ []);
  chain = at 0 (1 ∷ 0 ∷ 2 ∷ 0 ∷ 0 ∷ 1 ∷ []);
}

pub mended_findings : findings mended ≡ []
unfolding findings astray shared over lost full names starts
mended_findings = refl
