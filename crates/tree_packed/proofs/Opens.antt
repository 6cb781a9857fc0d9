-- A put where the number of records is lent with the list.
use mathlib.Core.Path.{◌≡◌, sym, ap, ◌∙◌}
use mathlib.Core.List.{List}
use Prim.Native.Nat.{ℕ}
use Rattle.tree_packed.specs.Put.{Put, put_of}
use Rattle.tree_packed.specs.Put as put
use Rattle.tree_packed.specs.Opens.{opens, many, with_record}
use Rattle.std.proofs.Common.{Option, Some, None}

-- how many records there are then, and the list
module _ (k x r : ℕ) (l l' : List ℕ) (a : Option ℕ) (e : put.gives a l' ≡ put_of k l x r) where
  pub put_kept : (m : ℕ) → a ≡ Some m → opens m l' ≡ with_record (opens k l) x r
  put_kept m q = ap (λ (z : Option ℕ). opens (many k z) l') (sym q) ∙ ap (λ (p : Put). opens (many k p.kept) p.list) e

  pub put_lost : a ≡ None → opens k l' ≡ with_record (opens k l) x r
  put_lost q = ap (λ (z : Option ℕ). opens (many k z) l') (sym q) ∙ ap (λ (p : Put). opens (many k p.kept) p.list) e
