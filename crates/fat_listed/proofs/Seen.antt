-- The blocks that the bytes lie in, as a part of the list.
use Rattle.std.proofs.Common.{◌≡◌, ap, sym, subst, ◌∙◌, List, ℕ, suc, ◌+◌, ◌-◌, ◌*◌, ◌/◌, ◌%◌, ◌≤◌, ◌<◌, Bool, true, false, length, get_or, take, drop, arith, ⊎_elim}
use Rattle.std.proofs.Math.Nat.{suc-mul, add-mul, mul-le-mul_right, div-add-mod', mod-lt, lt_of_mul-lt-mul_right, mul-div_cancel, div-lt_iff_lt-mul}
use Rattle.std.proofs.lemmas.List.{get_or-take, get_or-drop, length-take, length-drop}
use Rattle.order.specs.Tells.{Tells}
use Rattle.fat_node.proofs.Nodes.{le_or_lt}
use Rattle.fat_listed.specs.Listed.{Foreign}
use Rattle.fat_listed.specs.Shares.{Touched}
use Rattle.fat_listed.proofs.Tests.{decide}

module _ (list : List ℕ) (l pos many : ℕ) (some : 1 ≤ l) where
  -- where some bytes are asked for
  module _ (more : 1 ≤ many) (c : ℕ) (h : (pos % l + many % l ≤ c * l) × (c * l < pos % l + many % l + l)) where
    around : (pos + many ≤ (pos / l + (many / l + c)) * l) × ((pos / l + (many / l + c)) * l < pos + many + l)
    around =
        let s : (pos / l + (many / l + c)) * l ≡ pos / l * l + (many / l * l + c * l) =
        add-mul (pos / l) (many / l + c) l ∙ ap (λ (x : ℕ). pos / l * l + x) (add-mul (many / l) c l) in
        (omega (arith, div-add-mod' pos l, div-add-mod' many l, h.0, s), omega (arith, div-add-mod' pos l, div-add-mod' many l, h.1, s))

    pub touched_in : pos + many ≤ length list * l → pos / l + (many / l + c) ≤ length list
    touched_in room =
        let q : suc (length list) * l ≡ length list * l + l = suc-mul (length list) l in
        let k : pos / l + (many / l + c) < suc (length list) = lt_of_mul-lt-mul_right l {m = pos / l + (many / l + c)} {n = suc (length list)} (omega (arith, around.1, room, q)) in
        omega (arith, k)

    pub touched_some : (m : ℕ) → m ≡ many / l + c → pos / l + m ≤ length list → Touched list l pos many (take m (drop (pos / l) list))
    touched_some m q room =
        let z : length (take m (drop (pos / l) list)) ≡ m = length-take m (drop (pos / l) list) ∙ omega (arith, length-drop (pos / l) list, room) in
        record {
          is = ap (λ (x : ℕ). take x (drop (pos / l) list)) (sym z);
          all = λ _. subst (λ (x : ℕ). pos + many ≤ (pos / l + x) * l) (sym q ∙ sym z) around.0;
          only = λ i h. (more, let k : suc (pos / l + i) ≤ pos / l + (many / l + c) = omega (arith, h, z, q) in omega (arith, around.1, suc-mul (pos / l + i) l, mul-le-mul_right l k));
        }

  -- and where none are
  pub touched_none : many ≡ 0 → (m : ℕ) → m ≡ 0 → Touched list l pos many (take m (drop (pos / l) list))
  touched_none e m q =
      let z : length (take m (drop (pos / l) list)) ≡ 0 = length-take m (drop (pos / l) list) ∙ omega (arith, q) in
      record {
        is = ap (λ (x : ℕ). take x (drop (pos / l) list)) (q ∙ sym z);
        all = λ h. absurd (omega (arith, h, e));
        only = λ i h. absurd (omega (arith, h, z));
      }

-- the blocks r ------------------------------------------------------------------------------------------------------------

module _ (list : List ℕ) (l pos many : ℕ) (r : List ℕ) (some : 1 ≤ l) (w : Touched list l pos many r) where
  pub touched_at : (i : ℕ) → i < length r → get_or r i 0 ≡ get_or list (pos / l + i) 0
  touched_at i h = ap (λ (x : List ℕ). get_or x i 0) w.is ∙ get_or-take (length r) (drop (pos / l) list) i 0 h ∙ get_or-drop (pos / l) list i 0

  -- a block at or over n among them is one that a byte lies in
  pub hit : (n i : ℕ) → i < length r → n ≤ get_or r i 0 → Foreign n list l pos many
  hit n i h k = ⊎_elim
      (λ z.
      let e : (pos / l + i) * l / l ≡ pos / l + i = mul-div_cancel (pos / l + i) some in
      ((pos / l + i) * l, z, (w.only i h).1, subst (λ (x : ℕ). n ≤ get_or list x 0) (sym e) (subst (λ (x : ℕ). n ≤ x) (touched_at i h) k)))
      (λ z.
      let q : (pos / l + i) * l < suc (pos / l) * l = omega (arith, z, suc-mul (pos / l) l, div-add-mod' pos l, mod-lt pos {m = l} some) in
      let e : pos / l + i ≡ pos / l = omega (arith, lt_of_mul-lt-mul_right l q) in
      (pos, omega arith, omega (arith, (w.only i h).0), subst (λ (x : ℕ). n ≤ get_or list x 0) e (subst (λ (x : ℕ). n ≤ x) (touched_at i h) k)))
      (le_or_lt pos ((pos / l + i) * l))

  pub missed : (n : ℕ) → ((i : ℕ) → i < length r → get_or r i 0 < n) → Foreign n list l pos many → ⊥
  missed n f (k, a, b, e) =
      let lo : pos / l ≤ k / l = ⊎_elim (λ z. z) (λ z. absurd (omega (arith, a, div-add-mod' pos l, (div-lt_iff_lt-mul some).0 z))) (le_or_lt (pos / l) (k / l)) in
      let hi : k / l < pos / l + length r = (div-lt_iff_lt-mul some).1 (omega (arith, b, w.all (omega (arith, a, b)))) in
      let i : k / l - pos / l < length r = omega (arith, lo, hi) in
      let q : pos / l + (k / l - pos / l) ≡ k / l = omega (arith, lo) in
      omega (arith, e, f (k / l - pos / l) i, touched_at (k / l - pos / l) i, ap (λ (x : ℕ). get_or list x 0) q)

  -- whether a block among them is at or over n
  pub told : (n : ℕ) (b : Bool) → (b ≡ true → (i : ℕ) × (i < length r) × (n ≤ get_or r i 0)) → (b ≡ false → (i : ℕ) → i < length r → get_or r i 0 < n)
      → Tells (Foreign n list l pos many) b
  told n b found none = decide b (λ e. let h = found e in hit n h.0 h.1 h.2) (λ e. missed n (none e))
