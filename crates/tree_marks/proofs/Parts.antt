-- Places of the work list that are lent as a part: what is written there, and that no other place changes.
use mathlib.Core.Path.{◌≡◌, ap, ◌∙◌}
use mathlib.Core.List.{List, ◌++◌}
use Prim.Native.Nat.{ℕ, ◌+◌, ◌-◌, ◌≤◌, ◌<◌}
use native.Mathlib.Omega.{arith}
use lib.ListN.{length, get_or, take, drop, length-append, length-drop, get_or-append}
use lib.Seq.{length-take-le, get_or-take, get_or-drop, get_or-append-add}
use Rattle.tree_marks.specs.Inner.Marks.{mark_at, Within}

-- the list with `mid` for its k elements from `off` on
abbrev pub patched : List ℕ → ℕ → ℕ → List ℕ → List ℕ
patched work off k mid = take off work ++ (mid ++ drop k (drop off work))

module _ (work mid : List ℕ) (off count k : ℕ) (h : off + count ≤ length work) (ek : k ≡ count) (e : length mid ≡ k) where
  front : length (take off work) ≡ off
  front = length-take-le off work (omega arith)

  pub part_within : Within off count work (patched work off k mid)
  part_within =
      let a = front in
      let d : length (drop off work) ≡ length work - off = length-drop off work in
      let f : length (drop k (drop off work)) ≡ length (drop off work) - k = length-drop k (drop off work) in
      let q : length (mid ++ drop k (drop off work)) ≡ length mid + length (drop k (drop off work)) = length-append mid (drop k (drop off work)) in
      let s : length (patched work off k mid) ≡ length (take off work) + length (mid ++ drop k (drop off work)) = length-append (take off work) (mid ++ drop k (drop off work)) in
      record {
        size = omega arith;
        before = λ j l. get_or-append (take off work) (mid ++ drop k (drop off work)) 0 j (omega arith) ∙ get_or-take off work j 0 l;
        behind = λ j l. behind j l;
      }
    where
      behind : (j : ℕ) → off + count ≤ j → get_or (patched work off k mid) j 0 ≡ get_or work j 0
      behind j l =
          let a = front in
          let e1 : j ≡ length (take off work) + (length mid + (j - (off + count))) = omega arith in
          ap (λ z. get_or (patched work off k mid) z 0) e1
          ∙ get_or-append-add (take off work) (mid ++ drop k (drop off work)) (length mid + (j - (off + count))) 0
          ∙ get_or-append-add mid (drop k (drop off work)) (j - (off + count)) 0
          ∙ get_or-drop k (drop off work) (j - (off + count)) 0
          ∙ get_or-drop off work (k + (j - (off + count))) 0
          ∙ ap (λ z. get_or work z 0) (let e2 : off + (k + (j - (off + count))) ≡ j = omega arith in e2)

  pub part_mark : (y : ℕ) → y < count → mark_at (patched work off k mid) off y ≡ get_or mid y 0
  part_mark y l =
      let a = front in
      ap (λ z. get_or (patched work off k mid) z 0) (let e1 : off + y ≡ length (take off work) + y = omega arith in e1)
      ∙ get_or-append-add (take off work) (mid ++ drop k (drop off work)) y 0
      ∙ get_or-append mid (drop k (drop off work)) 0 y (omega arith)

-- the places from off to off + i, where i is count
pub part_room : (work : List ℕ) (off i count : ℕ) → i ≡ count → off + count ≤ length work → length (take (off + i - off) (drop off work)) ≡ count
part_room work off i count e h =
    length-take-le (off + i - off) (drop off work) (omega (arith, length-drop off work)) ∙ (let z : off + i - off ≡ count = omega arith in z)
