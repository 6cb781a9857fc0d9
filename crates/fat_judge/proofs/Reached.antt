-- Whether a read or a write lies within its file, and where it begins.
use mathlib.Core.Path.{◌≡◌, refl, ap, subst, ◌∙◌}
use mathlib.Core.List.{List, ◌∷◌}
use mathlib.Core.Logic.{inl, inr}
use mathlib.Core.Bool.{Bool, true, false}
use Prim.Native.Nat.{ℕ, ◌+◌, ◌-◌, ◌*◌, ◌/◌, ◌%◌, ◌≤◌, ◌<◌}
use native.Mathlib.Omega.{arith}
use native.Mathlib.Numerals.{add-one}
use native.Mathlib.Nat.{add-mul, mod-lt, div-add-mod', mul-le-mul_right}
use mir.Syntax.{w64}
use mir.Val.{Fits}
use Rattle.words.proofs.Laws as words
use Rattle.order.specs.Given.{Given}
use Rattle.order.specs.Answer as is
use Rattle.fat_node.specs.Entry.{Bytes}
use Rattle.fat_node.specs.Node.{Run, next_at}
use Rattle.fat_table.specs.Sound.{File}
use Rattle.fat_table.specs.Chain.{total, size_at, chain_at}
use Rattle.fat_table.proofs.Unchanged.{total_append}
use Rattle.fat_promises.specs.Calls.{carry_tests, size_of}
use Rattle.fat_walk.specs.Volume.{Volume}
use Rattle.fat_walk.specs.Inner.Chains.{Standing, Chain, Inside, Beyond, Seeking, SeekSays, Amid}
use Rattle.fat_judge.specs.Inner.Stretches.{CursorAt, Reaches}
use Rattle.fat_judge.specs.Inner.Plans.{CarryAt}
use Rattle.fat_walk.specs.declared.Sought.{Sought}
use Rattle.fat_walk.specs.declared.Sought.TheVariants.{Within, Past}
use Rattle.fat_walk.proofs.Nodes.{mid_pos}
use Rattle.fat_walk.proofs.Found.{inside_count, inside_size, file_from, says_within, says_past, go_on}
use Rattle.fat_judge.proofs.Cursors.{few_bytes, same_bytes, stretch_few, cursor_in, cursor_few, Passes}

-- how far a file goes on ---------------------------------------------------------------------------------------------------

pub reaches : (c : List Run) (l p many : ℕ) → p + many ≤ total c * l → Reaches c l p many true
reaches c l p many h = record { yes = λ _. h; no = λ e. let z : ◌≡◌ {A = ℕ} 0 1 = cc in let x : ⊥ = omega (arith, z) in absurd x }

pub reaches_not : (c : List Run) (l p many : ℕ) → total c * l < p + many → Reaches c l p many false
reaches_not c l p many h = record { yes = λ e. let z : ◌≡◌ {A = ℕ} 0 1 = cc in let x : ⊥ = omega (arith, z) in absurd x; no = λ _. h }

-- the bytes of a node are few
pub reach_fits : (n : ℕ) (t : Bytes) (b l s : ℕ) → Standing n t b → l ≤ 65536 → s ≡ size_at t b → Fits w64 (s * l)
reach_fits n t b l s w h e = omega (arith, stretch_few n t b l w h, same_bytes s (size_at t b) l e)

module _ (n : ℕ) (t : Bytes) (b l f s : ℕ) (e : s ≡ size_at t b) (c : List Run) (p : ℕ) (h : Chain n t c) (w : CursorAt c l p (b + 1) f) where
  abbrev node_in : Inside c (total w.before + 1) b 1
  node_in = record {
    before = w.before;
    node = w.node;
    after = w.after;
    is = w.is;
    at = omega (arith, w.at);
    sum = refl;
    some = omega arith;
    fits = mid_pos n t w.before w.node w.after (subst (Chain n t) w.is h);
  }

  node_bytes : s * l ≡ w.node.size * l
  node_bytes = same_bytes s w.node.size l (e ∙ inside_size n t c (total w.before + 1) b 1 h node_in)

  upto : (total w.before + w.node.size) * l ≡ total w.before * l + s * l
  upto = omega (arith, add-mul (total w.before) w.node.size l, node_bytes)

  whole : total w.before + w.node.size ≤ total c
  whole = omega (arith, ap total w.is, total_append w.before (w.node ∷ w.after))

  near : (many : ℕ) → f + many ≤ s * l → p + many ≤ total c * l
  near many k = omega (arith, w.sum, k, upto, mul-le-mul_right l whole)

  module _ (many q : ℕ) (o : q ≡ next_at t b) (some : 1 ≤ l) (k : s * l < f + many) (r : Sought)
      (u : (c : List Run) (k : ℕ) → Chain n t c → Seeking c k q (b + 1) ((f + many - s * l - 1) / l + 1) → SeekSays c k r) where
    abbrev d : ℕ
    d = f + many - s * l - 1

    abbrev sought : ℕ
    sought = total w.before + w.node.size + (d / l + 1)

    says : SeekSays c sought r
    says = u c sought h (go_on n t c (total w.before + 1) b 1 h node_in q (d / l + 1) o (omega arith))

    parts : sought * l ≡ (total w.before + w.node.size) * l + (d / l * l + l)
    parts = omega (arith, add-mul (total w.before + w.node.size) (d / l + 1) l, add-mul (d / l) 1 l)

    far : (x m : ℕ) → r ≡ Within x m → p + many ≤ total c * l
    far x m z =
        let i : sought ≤ total c = inside_count n t c sought x m h (says_within c sought r x m says z) in
        omega (arith, w.sum, k, upto, parts, mul-le-mul_right l i, div-add-mod' d l, mod-lt d some)

    beyond : (x m : ℕ) → r ≡ Past x m → total c * l < p + many
    beyond x m z =
        let v : Beyond c sought x m = says_past c sought r x m says z in
        let i : total c ≤ total w.before + w.node.size + d / l = omega (arith, v.sum, v.some) in
        omega (arith, w.sum, k, upto, mul-le-mul_right l i, add-mul (total w.before + w.node.size) (d / l) l, div-add-mod' d l)

module _ (n : ℕ) (t : Bytes) (b l f many s : ℕ) (e : s ≡ size_at t b) where
  pub goes_near : f + many ≤ s * l → (c : List Run) (p : ℕ) → Chain n t c → CursorAt c l p (b + 1) f → Reaches c l p many true
  goes_near k c p h w = reaches c l p many (near n t b l f s e c p h w many k)

  module _ (q : ℕ) (o : q ≡ next_at t b) (some : 1 ≤ l) (k : s * l < f + many) (r : Sought)
      (u : (c : List Run) (k : ℕ) → Chain n t c → Seeking c k q (b + 1) ((f + many - s * l - 1) / l + 1) → SeekSays c k r) where
    pub goes_far : (x m : ℕ) → r ≡ Within x m → (c : List Run) (p : ℕ) → Chain n t c → CursorAt c l p (b + 1) f → Reaches c l p many true
    goes_far x m z c p h w = reaches c l p many (far n t b l f s e c p h w many q o some k r u x m z)

    pub goes_not : (x m : ℕ) → r ≡ Past x m → (c : List Run) (p : ℕ) → Chain n t c → CursorAt c l p (b + 1) f → Reaches c l p many false
    goes_not x m z c p h w = reaches_not c l p many (beyond n t b l f s e c p h w many q o some k r u x m z)

-- the judge ---------------------------------------------------------------------------------------------------------------

module _ (n : ℕ) (t : Bytes) (v : Volume n t) (g : words.Bytes t) (l b pos many : ℕ) (f : File t n b) where
  abbrev C : List Run
  C = chain_at t n (b + 1)

  stands : Chain n t C
  stands = (file_from n t v g b f).chain

  size_is : total C * l ≡ size_of n t l b
  size_is = ap (λ (i : ℕ). total (chain_at t n i) * l) (add-one b)

  out : total C * l < pos + many → Given (carry_tests n t l b pos many) is.OutOfBound
  out h = inr ((λ q. q f), inl (omega (arith, h, size_is), refl))

  -- the volume has fewer bytes
  pub carry_over : (o : Bool) → Passes o (n * l) pos many → o ≡ true → Given (carry_tests n t l b pos many) is.OutOfBound
  carry_over o w z = out (omega (arith, w.0 z, mul-le-mul_right l stands.sum))

  module _ (some : 1 ≤ l) (few : l ≤ 65536) (room : pos + many ≤ n * l) (r : Sought) (s : SeekSays C (pos / l + 1) r) where
    small : n * l ≤ 65536000000
    small = few_bytes n l n v.few few (omega arith)

    module _ (x m : ℕ) (e : r ≡ Within x m) where
      numbers : (x ≤ 1000000) × (1 ≤ m) × ((m - 1) * l + pos % l ≤ 65536000000)
      numbers = cursor_few n t C l pos r x m stands some few s e

      pub node_fits : Fits w64 (x + 1)
      node_fits = omega (arith, numbers.0)

      pub end_fits : (m - 1) * l + pos % l + many ≤ 131072000000
      end_fits = omega (arith, numbers.2, room, small)

      pub carry_amid : Amid n t x
      carry_amid = record { chain = C; sought = pos / l + 1; part = m; stands = stands; at = says_within C (pos / l + 1) r x m s e }

      cursor : CursorAt C l pos (x + 1) ((m - 1) * l + pos % l)
      cursor = cursor_in C l pos some r s x m e

      module _ (o : Bool) (u : (c : List Run) (p : ℕ) → Chain n t c → CursorAt c l p (x + 1) ((m - 1) * l + pos % l) → Reaches c l p many o) where
        pub carry_at : o ≡ true → CarryAt n t l b pos many (x + 1) ((m - 1) * l + pos % l)
        carry_at z = record {
          may = record { file = f; enough = omega (arith, (u C pos stands cursor).yes z, size_is) };
          at = λ _. subst (λ (i : ℕ). CursorAt (chain_at t n i) l pos (x + 1) ((m - 1) * l + pos % l)) (add-one b) cursor;
        }

        pub carry_out : o ≡ false → Given (carry_tests n t l b pos many) is.OutOfBound
        carry_out z = out ((u C pos stands cursor).no z)
