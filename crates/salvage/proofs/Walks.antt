-- What the code of a walk tells, one lemma for each way out.
use mathlib.Core.Path.{◌≡◌, refl, sym, ap, subst, subst⁻¹, ◌∙◌}
use mathlib.Core.List.{List, [], ◌∷◌, ◌++◌}
use mathlib.Core.Bool.{Bool, true, false, not}
use mathlib.Core.Logic.{⊎_elim}
use Prim.Native.Nat.{ℕ, zero, suc, ◌+◌, ◌-◌, ◌≤◌, ◌<◌}
use native.Mathlib.Omega.{arith}
use lib.ListN.{length, get_or, replicate, length-append}
use lib.Dec.{eqb, ltb}
use borrow.Author.Tests.{eq-eqb, ne_eqb, lt-ltb, le-ltb}
use Rattle.std.specs.Prelude.{Ok, Err}
use Rattle.order.specs.Answer.{fault, unbroken}
use Rattle.order.specs.declared.Fault.{Fault}
use Rattle.fat_node.specs.Entry.{Bytes}
use Rattle.fat_node.specs.Node.{Run, run, NodeAt, next_at}
use Rattle.fat_node.specs.Fault.{node_fault}
use Rattle.fat_node.specs.Inner.Reads.{Unread, Reads}
use Rattle.fat_node.specs.declared.Node.{Node}
use Rattle.fat_node.proofs.Faults.{when_yes, when_no}
use Rattle.fat_node.proofs.Nodes.{le_or_lt}
use Rattle.fat_table.specs.Chain.{total, size_at}
use Rattle.fat_table.specs.Layout.{hits, covers}
use Rattle.fat_table.proofs.Layouts.{hits_in, hits_lo, hits_hi, covers_append}
use Rattle.fat_table.proofs.Chains.{zero_or_not}
use Rattle.fat_table.proofs.Sounds.{node_size}
use Rattle.fat_table.proofs.Unchanged.{total_append}
use Rattle.salvage.specs.Follow.{readable, unread, shared, salvage, missed, follow, salvaged}
use Rattle.salvage.specs.Inner.Walks.{Looked, LookSays, Tells, Below, Taken, TakeSays, WalkSays}
use Rattle.salvage.proofs.Reading.{readable_node, node_readable}
use Rattle.salvage.proofs.Bounds.{Apart, apart_on, apart_none, total_apart, length_total, shared_none, none_shared}
use Rattle.salvage.proofs.Follows.{follow_whole, follow_none, follow_missed, follow_overlap, follow_on}

-- ---- a look at a block

pub unreadable : (n : ℕ) (t : Bytes) (b : ℕ) → ((s : ℕ) → NodeAt t n b s → ⊥) → readable n t b ≡ false
unreadable n t b h = go (readable n t b) refl
  where
    go : (x : Bool) → readable n t b ≡ x → x ≡ false
    go true e = absurd (h (size_at t b) (readable_node n t b e))
    go false e = refl

pub missed_none : (p b : ℕ) → p ≡ 0 → fault (b + 1) 8 ≡ missed p b
unfolding missed
missed_none p b h = sym (when_yes (eqb p 0) (fault (b + 1) 8) (fault p 7) (eq-eqb p 0 h))

pub missed_some : (p b : ℕ) → (p ≡ 0 → ⊥) → fault p 7 ≡ missed p b
unfolding missed
missed_some p b h = sym (when_no (eqb p 0) (fault (b + 1) 8) (fault p 7) (ne_eqb p 0 h))

unread_out : (n : ℕ) (t : Bytes) (p b : ℕ) → n ≤ b → unread n t p b ≡ fault p 7
unfolding unread
unread_out n t p b h = when_no (ltb b n) (node_fault n t b) (fault p 7) (le-ltb b n h)

unread_in : (n : ℕ) (t : Bytes) (p b : ℕ) → b < n → unread n t p b ≡ node_fault n t b
unfolding unread
unread_in n t p b h = when_yes (ltb b n) (node_fault n t b) (fault p 7) (lt-ltb b n h)

pub look_out : (n : ℕ) (t : Bytes) (p b : ℕ) → n ≤ b → LookSays n t p b (Err (fault p 7))
look_out n t p b h = λ k seen.
    follow_none k n t seen p b (unreadable n t b (λ s w. omega (arith, h, w.some, w.within))) ∙ ap (salvage seen) (unread_out n t p b h)

pub look_broken : (n : ℕ) (t : Bytes) (p b : ℕ) (f : Fault) → b < n → Unread t n b f → LookSays n t p b (Err f)
look_broken n t p b f h u = λ k seen. follow_none k n t seen p b (unreadable n t b u.none) ∙ ap (salvage seen) (unread_in n t p b h ∙ sym u.first)

module _ (n : ℕ) (t : Bytes) (p b : ℕ) (x : Node) (w : Reads t n b (Ok x)) where
  pub look_missed : n ≤ 1000000 → (x.prev ≡ p → ⊥) → (why : Fault) → why ≡ missed p b → LookSays n t p b (Err why)
  look_missed small h why q = λ k seen.
      follow_missed k n t seen p b (node_readable n t b x.size small w.0) (λ z. h (w.1 ∙ z)) ∙ ap (salvage seen) (sym q)

-- ---- whether a node can be read

-- where one can be read
module _ (n : ℕ) (t : Bytes) (b : ℕ) (r : Bool) (w : Tells n t b r) (e : r ≡ true) where
  pub read_some : (s : ℕ) × NodeAt t n b s
  read_some = (w.yes e).1

-- ---- marks

-- none of the places from b up to x had the mark, and all have it; the others are as they were
pub record Taking (w : List ℕ) (b x m : ℕ) (w' : List ℕ) : Type 0 where
  pub free : (y : ℕ) → b ≤ y → y < x → get_or w y 0 ≡ m → ⊥
  pub marked : (y : ℕ) → b ≤ y → y < x → get_or w' y 0 ≡ m
  pub before : (y : ℕ) → y < b → get_or w' y 0 ≡ get_or w y 0
  pub after : (y : ℕ) → x ≤ y → get_or w' y 0 ≡ get_or w y 0
  pub from : b ≤ x
  pub long : length w' ≡ length w

module _ (w : List ℕ) (b x m : ℕ) (w' : List ℕ) (a : Taking w b x m w') where
  least : Below w (m + 1) → Below w' (m + 1)
  least h y = ⊎_elim
      (λ lo. ⊎_elim
      (λ hi. omega (arith, h y, a.after y hi))
      (λ hi. omega (arith, a.marked y lo hi))
      (le_or_lt x y))
      (λ lo. omega (arith, h y, a.before y lo))
      (le_or_lt b y)

-- ---- the walk

-- a walk at index i, after the node that index p names: the runs seen are marked, and what is left to follow decides
pub record Walking (n : ℕ) (t : Bytes) (first m : ℕ) (work : List ℕ) (i p count : ℕ) : Type 0 where
  pub seen : List Run
  pub fuel : ℕ
  pub is : salvaged n t first ≡ follow (suc fuel) n t seen p i
  pub apart : Apart n seen
  pub sum : count ≡ total seen
  pub marked : (x : ℕ) → 0 < covers x seen → get_or work x 0 ≡ m
  pub free : (x : ℕ) → covers x seen ≡ 0 → get_or work x 0 < m
  pub enough : length seen + fuel ≡ n
  pub long : length work ≡ n

zeros : (n x : ℕ) → ◌≡◌ {A = ℕ} (get_or (replicate n 0) x 0) 0
zeros zero x = refl
zeros (suc n) zero = refl
zeros (suc n) (suc x) = zeros n x

pub clear_below : (n : ℕ) (work : List ℕ) → work ≡ replicate n 0 → Below work 1
clear_below n work w x = omega (arith, ap (λ (l : List ℕ). get_or l x 0) w, zeros n x)

pub walk_begin : (n : ℕ) (t : Bytes) (first m : ℕ) (work : List ℕ) (i : ℕ) → i ≡ first + 1 → Below work m → length work ≡ n → Walking n t first m work i 0 0
walk_begin n t first m work i e w l =
    let q : suc first ≡ i = omega (arith, e) in
    record {
      seen = [];
      fuel = n;
      is = ap (follow (suc n) n t [] 0) q;
      apart = apart_none n;
      sum = refl;
      marked = λ x h. absurd (omega (arith, h));
      free = λ x h. w x;
      enough = omega arith;
      long = l;
    }

module _ (n : ℕ) (t : Bytes) (first m : ℕ) (work : List ℕ) (i p count : ℕ) (w : Walking n t first m work i p count) where
  walk_least : Below work (m + 1)
  walk_least x = ⊎_elim
      (λ z. omega (arith, w.free x z))
      (λ z. omega (arith, w.marked x (omega (arith, z))))
      (zero_or_not (covers x w.seen))

  -- the runs followed and why there are no more
  says : (why : Fault) (work' : List ℕ) → Below work' (m + 1) → length work' ≡ n → salvaged n t first ≡ salvage w.seen why → WalkSays n t first m count why work'
  says why work' l g e = record { sum = w.sum ∙ ap (λ x. total x.runs) (sym e); ended = ap (λ x. x.why) (sym e); long = g; least = l }

  pub walk_whole : i ≡ 0 → WalkSays n t first m count unbroken work
  walk_whole e = says unbroken work walk_least w.long (w.is ∙ ap (follow (suc w.fuel) n t w.seen p) e ∙ follow_whole w.fuel n t w.seen p)

  module _ (b : ℕ) (eb : i ≡ suc b) where
    at : salvaged n t first ≡ follow (suc w.fuel) n t w.seen p (suc b)
    at = w.is ∙ ap (follow (suc w.fuel) n t w.seen p) eb

    module _ (s q : ℕ) (looked : Looked n t p b s q) where
      size : size_at t b ≡ s
      size = node_size t n b s looked.node

      pub walk_clash : n ≤ 1000000 → (work' : List ℕ) (r : Bool) → TakeSays work b s m work' r → length work' ≡ length work → r ≡ false → WalkSays n t first m count (fault p 7) work'
      walk_clash small work' r k g f =
          let c = k.no f in
          says (fault p 7) work' (k.least walk_least) (g ∙ w.long)
          (at ∙ follow_overlap w.fuel n t w.seen p b (node_readable n t b s small looked.node) looked.prev
          (λ z. omega (arith, c.taken, w.free c.at (shared_none s b w.seen (subst (λ (m : ℕ). shared m b w.seen ≡ 0) size z) c.at c.low c.high))))

      module _ (work' : List ℕ) (k : Taken work b s m work') where
        none : shared s b w.seen ≡ 0
        none = none_shared s b w.seen (λ x lo hi. ⊎_elim
            (λ z. z)
            (λ z. absurd (k.free x lo hi (w.marked x (omega (arith, z)))))
            (zero_or_not (covers x w.seen)))

        on : Apart n (w.seen ++ run b s ∷ [])
        on = apart_on n w.seen b s w.apart looked.node.some looked.node.within none

        -- a block of the run has the mark, another has what it had
        both : (x : ℕ) (P : ℕ → ℕ → Type 0) → (b ≤ x → x < b + s → P m 1) → P (get_or work x 0) 0 → P (get_or work' x 0) (hits x (run b s))
        both x P hit not = ⊎_elim
            (λ lo. ⊎_elim
            (λ hi. subst⁻¹ (λ (v : ℕ). P v (hits x (run b s))) (k.after x hi) (subst⁻¹ (P (get_or work x 0)) (hits_hi x (run b s) hi) not))
            (λ hi. subst⁻¹ (λ (v : ℕ). P v (hits x (run b s))) (k.marked x lo hi) (subst⁻¹ (P m) (hits_in x (run b s) lo hi) (hit lo hi)))
            (le_or_lt (b + s) x))
            (λ lo. subst⁻¹ (λ (v : ℕ). P v (hits x (run b s))) (k.before x lo) (subst⁻¹ (P (get_or work x 0)) (hits_lo x (run b s) lo) not))
            (le_or_lt b x)

        pub walk_fits : (count + s ≤ n) × (1 ≤ s)
        walk_fits = (omega (arith, w.sum, total_apart n (w.seen ++ run b s ∷ []) on, total_append w.seen (run b s ∷ [])), omega (arith, looked.node.some))

        pub walk_on : n ≤ 1000000 → length work' ≡ length work → Walking n t first m work' q i (count + s)
        walk_on small g =
            let more : 1 ≤ w.fuel = omega (arith, w.enough, total_apart n (w.seen ++ run b s ∷ []) on, length_total (w.seen ++ run b s ∷ []) on.some, length-append w.seen (run b s ∷ [])) in
            let f : w.fuel ≡ suc (w.fuel - 1) = omega (arith, more) in
            record {
              seen = w.seen ++ run b s ∷ [];
              fuel = w.fuel - 1;
              is = at
                  ∙ follow_on w.fuel n t w.seen p b (node_readable n t b s small looked.node) looked.prev (subst⁻¹ (λ (m : ℕ). shared m b w.seen ≡ 0) size none)
                  ∙ ap (λ (m : ℕ). follow w.fuel n t (w.seen ++ run b m ∷ []) (suc b) (next_at t b)) size
                  ∙ ap (λ (m : ℕ). follow m n t (w.seen ++ run b s ∷ []) (suc b) (next_at t b)) f
                  ∙ ap (follow (suc (w.fuel - 1)) n t (w.seen ++ run b s ∷ []) (suc b)) (sym looked.on)
                  ∙ ap (λ (m : ℕ). follow (suc (w.fuel - 1)) n t (w.seen ++ run b s ∷ []) m q) (sym eb);
              apart = on;
              sum = omega (arith, w.sum, total_append w.seen (run b s ∷ []));
              marked = λ x h. both x (λ v c. 0 < covers x w.seen + c → v ≡ m) (λ lo hi z. refl) (λ z. w.marked x (omega (arith, z)))
                  (omega (arith, h, covers_append x w.seen (run b s ∷ [])));
              free = λ x h. both x (λ v c. covers x w.seen + c ≡ 0 → v < m) (λ lo hi z. absurd (omega (arith, z))) (λ z. w.free x (omega (arith, z)))
                  (omega (arith, h, covers_append x w.seen (run b s ∷ [])));
              enough = omega (arith, w.enough, more, length-append w.seen (run b s ∷ []));
              long = g ∙ w.long;
            }
