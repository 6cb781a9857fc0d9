-- One record for each inode beside the packed list: what a put leaves.
use mathlib.Core.Path.{◌≡◌, refl, sym}
use mathlib.Core.List.{List}
use mathlib.Core.Logic.{◌≢◌}
use Prim.Native.Nat.{ℕ, ◌≤◌, ◌<◌}
use native.Mathlib.Omega.{arith}
use lib.ListN.{length, length-set}
use Rattle.tree_packed.specs.Packed.{Packed, rec}
use Rattle.tree_packed.specs.Put.{Put, gives, put_of}
use Rattle.std.specs.Prelude.{Option, Some, None}
use Rattle.tree_packed.proofs.Theorems.{put_keeps, full_only, same_put, none_packed}
use Rattle.tree_opens.specs.Opens.{opened, with_open}
use Rattle.tree_packed.specs.Opens.{Opens, opens, InOrder, NoPlace, many, with_record}
use Rattle.tree_same.specs.Alike.{Alike}

-- a put on both sides
module _ (d : List ℕ) (o : Opens) (A : Alike d o) (P : InOrder o) (x r : ℕ) (some : 0 < x) (low : x < 65536) (place : NoPlace o x → r ≢ 0 → ⊥) where
  abbrev k : ℕ
  k = o.count

  abbrev l : List ℕ
  l = o.list

  -- what a put leaves, where it is not full
  kept : (m : ℕ) (l' : List ℕ) → put_of k l x r ≡ gives (Some m) l' → Alike (with_open d x r) (opens m l') × InOrder (opens m l')
  unfolding opened with_open
  kept m l' e = (
    record {
      long = omega (arith, A.long, length-set d x r);
      records = same_put d x r P some (omega (arith, A.long)) A.records e;
    },
    (put_keeps P some e).packed,
  )

  by_kept : (a : Option ℕ) (l' : List ℕ) → put_of k l x r ≡ gives a l' → Alike (with_open d x r) (opens (many k a) l') × InOrder (opens (many k a) l')
  by_kept (Some m) l' e = kept m l' e
  by_kept None l' e = let f = full_only P some e in absurd (place f.0 f.1)

  pub put_alike : Alike (with_open d x r) (with_record o x r) × InOrder (with_record o x r)
  put_alike = by_kept (put_of k l x r).kept (put_of k l x r).list refl

-- none open
pub none_alike : (d list : List ℕ) → 65536 ≤ length d → ((x : ℕ) → opened d x ≡ 0) → Alike d (opens 0 list) × InOrder (opens 0 list)
unfolding rec
none_alike d list h z = (record { long = h; records = λ x. sym (z x) }, none_packed list)
