-- The chains of a sound table and their nodes, as the functions that go along them find them.
use mathlib.Core.Path.{◌≡◌, refl, sym, ap, subst, subst⁻¹, ◌∙◌}
use mathlib.Core.List.{List, [], ◌∷◌, ◌++◌, append_assoc}
use Prim.Native.Nat.{ℕ, ◌+◌, ◌-◌, ◌*◌, ◌≤◌}
use native.Mathlib.Omega.{arith}
use native.Mathlib.Numerals.{add-one}
use mir.Syntax.{w8, w64}
use mir.Val.{Fits}
use lib.ListN.{length, get_or}
use Rattle.words.proofs.Laws as words
use Rattle.fat_node.specs.Entry.{Bytes}
use Rattle.fat_node.specs.Node.{Run, next_at}
use Rattle.fat_table.specs.Sound.{File}
use Rattle.fat_table.specs.Chain.{total, size_at, head_at, chain_at}
use Rattle.fat_table.specs.Steps.{first}
use Rattle.fat_table.proofs.Laying.{first_inside}
use Rattle.fat_walk.specs.Volume.{Volume}
use Rattle.fat_walk.specs.Inner.Chains.{Standing, StandingAt, Chain, ChainFrom, Inside, LastIs, none, node, Beyond, SeekSays, Seeking, Underway, Amid, LastAt}
use Rattle.fat_walk.specs.declared.Sought.{Sought}
use Rattle.fat_walk.specs.declared.Sought.TheVariants.{Within, Past}
use Rattle.fat_table.proofs.Unchanged.{total_append}
use Rattle.fat_walk.proofs.Nodes.{mid_standing, mid_next, mid_size}
use Rattle.fat_walk.proofs.Chains.{free_chain, file_chain}
use Rattle.fat_walk.proofs.Hops.{whole_of}

-- chains and their nodes --------------------------------------------------------------------------------

-- the node that starts what comes after some runs stands
after_standing : (n : ℕ) (t : Bytes) (P B : List Run) (i : ℕ) → Chain n t (P ++ B) → first B ≡ i → StandingAt n t i
after_standing n t P [] i c e b h = let z : ⊥ = omega (arith, e, h) in absurd z
after_standing n t P (y ∷ B) i c e b h =
    let q : y.start ≡ b = omega (arith, e, h) in
    subst (Standing n t) q (mid_standing n t P y B c)

pub first_standing : (n : ℕ) (t : Bytes) (i : ℕ) → ChainFrom n t i → StandingAt n t i
first_standing n t i c = after_standing n t [] (chain_at t n i) i c.chain c.at

pub first_below : (n : ℕ) (t : Bytes) (i : ℕ) → ChainFrom n t i → i ≤ n
first_below n t i c = omega (arith, c.at, first_inside n (chain_at t n i) c.chain.positive c.chain.inside)

pub last_standing : (n : ℕ) (t : Bytes) (l : List Run) (b : ℕ) → Chain n t l → LastAt l b → Standing n t b
last_standing n t l b c w = subst (Standing n t) w.at (mid_standing n t w.before w.node [] (subst (Chain n t) w.is c))

module _ (n : ℕ) (t : Bytes) (l : List Run) (k b m : ℕ) (c : Chain n t l) (w : Inside l k b m) where
  within_chain : Chain n t (w.before ++ w.node ∷ w.after)
  within_chain = subst (Chain n t) w.is c

  pub inside_standing : Standing n t b
  inside_standing = subst (Standing n t) w.at (mid_standing n t w.before w.node w.after within_chain)

  pub inside_next : StandingAt n t (next_at t b)
  inside_next =
      after_standing n t (w.before ++ w.node ∷ []) w.after (next_at t b)
      (subst (Chain n t) (sym (append_assoc w.before (w.node ∷ []) w.after)) within_chain)
      (sym (mid_next n t w.before w.node w.after within_chain) ∙ ap (next_at t) w.at)

  pub inside_size : size_at t b ≡ w.node.size
  inside_size = ap (size_at t) (sym w.at) ∙ mid_size n t w.before w.node w.after within_chain

  pub inside_part : (1 ≤ m) × (m ≤ size_at t b)
  inside_part = (w.some, omega (arith, w.fits, inside_size))

  pub inside_count : k ≤ total l
  inside_count = omega (arith, w.sum, w.fits, ap total w.is, total_append w.before (w.node ∷ w.after))

  pub inside_first : 1 ≤ first l
  inside_first = some_first l w.before w.is
    where
      some_first : (l before : List Run) → l ≡ before ++ w.node ∷ w.after → 1 ≤ first l
      some_first l [] e = omega (arith, ap first e)
      some_first l (r ∷ before) e = omega (arith, ap first e)

-- the last node, found by seeking more blocks than there are
pub last_past : (n : ℕ) (t : Bytes) (i k j m : ℕ) → ChainFrom n t i → (i ≡ 0 → ⊥) → Beyond (chain_at t n i) k j m → LastAt (chain_at t n i) (j - 1)
last_past n t i k j m c h w = go w.last
  where
    go : LastIs (chain_at t n i) j → LastAt (chain_at t n i) (j - 1)
    go (none e k) = absurd (h (sym c.at ∙ ap first e))
    go (node before y e k) = record { before = before; node = y; is = e; at = omega (arith, k) }

pub last_some : (n : ℕ) (t : Bytes) (i k j m : ℕ) → ChainFrom n t i → (i ≡ 0 → ⊥) → Beyond (chain_at t n i) k j m → 1 ≤ j
last_some n t i k j m c h w = go w.last
  where
    go : LastIs (chain_at t n i) j → 1 ≤ j
    go (none e k) = absurd (h (sym c.at ∙ ap first e))
    go (node before y e k) = omega (arith, k)

pub last_within : (n : ℕ) (t : Bytes) (i b m : ℕ) → ChainFrom n t i → Inside (chain_at t n i) (n + 1) b m → LastAt (chain_at t n i) b
last_within n t i b m c w =
    let z : ⊥ = omega (arith, inside_count n t (chain_at t n i) (n + 1) b m c.chain w, c.chain.sum) in
    absurd z

-- the chains of a volume, by the code's b + 1 -------------------------------------------------------------

module _ (n : ℕ) (t : Bytes) (v : Volume n t) (g : words.Bytes t) where
  pub head_chain : (h : ℕ) → h ≡ head_at t → ChainFrom n t h
  head_chain h e = subst⁻¹ (ChainFrom n t) e (free_chain n t (whole_of n t v g))

  pub file_from : (b : ℕ) → File t n b → ChainFrom n t (b + 1)
  file_from b f = subst⁻¹ (ChainFrom n t) (add-one b) (file_chain n t (whole_of n t v g) b f)

-- the bytes of a lent slice, as the borrow checker says it of them
pub are_bytes : (t : Bytes) → ((i : ℕ) → Fits w8 (get_or t i 0)) → words.Bytes t
are_bytes t g = record { byte = λ i. omega (arith, g i) }

-- the index of a file's first block is a number of the code
pub file_fits : (n : ℕ) (t : Bytes) (b : ℕ) → Volume n t → File t n b → Fits w64 (b + 1)
file_fits n t b v f = omega (arith, v.few, f.0.1)

-- what is sought, by how it is taken apart
pub says_within : (l : List Run) (k : ℕ) (r : Sought) (b m : ℕ) → SeekSays l k r → r ≡ Within b m → Inside l k b m
says_within l k r b m w e = subst (SeekSays l k) e w

pub says_past : (l : List Run) (k : ℕ) (r : Sought) (i m : ℕ) → SeekSays l k r → r ≡ Past i m → Beyond l k i m
says_past l k r i m w e = subst (SeekSays l k) e w

module _ (n : ℕ) (t : Bytes) (i : ℕ) (r : Sought) (c : ChainFrom n t i) (w : SeekSays (chain_at t n i) (n + 1) r) where
  pub last_in : (b m : ℕ) → r ≡ Within b m → LastAt (chain_at t n i) b
  last_in b m e = last_within n t i b m c (says_within (chain_at t n i) (n + 1) r b m w e)

-- on from a node of a chain ------------------------------------------------------------------------------

module _ (n : ℕ) (t : Bytes) (l : List Run) (k b m : ℕ) (c : Chain n t l) (w : Inside l k b m) where
  pub go_on : (q j : ℕ) → q ≡ next_at t b → 1 ≤ j → Seeking l (total w.before + w.node.size + j) q (b + 1) j
  go_on q j e h = record {
    passed = w.before ++ w.node ∷ [];
    rest = w.after;
    is = w.is ∙ sym (append_assoc w.before (w.node ∷ []) w.after);
    at = sym (e ∙ ap (next_at t) (sym w.at) ∙ mid_next n t w.before w.node w.after (subst (Chain n t) w.is c));
    end = node w.before w.node refl (omega (arith, w.at));
    sum = omega (arith, total_append w.before (w.node ∷ []));
    some = h;
  }

  -- what is known of an end that is past
  pub end_past : (h i j : ℕ) → Beyond l h i j → (1 ≤ i) × LastAt l (i - 1)
  end_past h i j p = go p.last
    where
      go : LastIs l i → (1 ≤ i) × LastAt l (i - 1)
      go (none e z) = let x : ⊥ = omega (arith, ap total e, inside_count n t l k b m c w, w.sum, w.some) in absurd x
      go (node before y e z) = (omega (arith, z), record { before = before; node = y; is = e; at = omega (arith, z) })

module _ (n : ℕ) (t : Bytes) (b : ℕ) (a : Amid n t b) where
  pub amid_standing : Standing n t b
  amid_standing = inside_standing n t a.chain a.sought b a.part a.stands a.at

  pub amid_room : 8 * b + 16 ≤ length t
  amid_room = let s = amid_standing in omega (arith, s.room, s.node.some, s.node.within)

  pub amid_fits : Fits w64 (b + 1)
  amid_fits = let s = amid_standing in omega (arith, s.few, s.node.some, s.node.within)

  pub amid_way : (q j : ℕ) → q ≡ next_at t b → Underway n t q (b + 1) (j + 1)
  amid_way q j e = record {
    chain = a.chain;
    sought = total a.at.before + a.at.node.size + (j + 1);
    stands = a.stands;
    at = go_on n t a.chain a.sought b a.part a.stands a.at q (j + 1) e (omega arith);
  }

module _ (n : ℕ) (t : Bytes) (b q : ℕ) (e : q ≡ next_at t b) (r : Sought)
    (s : (l : List Run) (k : ℕ) → Chain n t l → Seeking l k q (b + 1) (n + 1) → SeekSays l k r) where
  on_says : (l : List Run) (k m : ℕ) (c : Chain n t l) (w : Inside l k b m) → SeekSays l (total w.before + w.node.size + (n + 1)) r
  on_says l k m c w = s l (total w.before + w.node.size + (n + 1)) c (go_on n t l k b m c w q (n + 1) e (omega arith))

  pub last_on : (x m : ℕ) → r ≡ Within x m → (l : List Run) (k p : ℕ) → Chain n t l → Inside l k b p → LastAt l x
  last_on x m p l k j c w =
      let h : ℕ = total w.before + w.node.size + (n + 1) in
      let z : ⊥ = omega (arith, inside_count n t l h x m c (says_within l h r x m (on_says l k j c w) p), c.sum) in
      absurd z

  pub last_end : (i m : ℕ) → r ≡ Past i m → (l : List Run) (k p : ℕ) → Chain n t l → Inside l k b p → LastAt l (i - 1)
  last_end i m p l k j c w =
      let h : ℕ = total w.before + w.node.size + (n + 1) in
      (end_past n t l k b j c w h i m (says_past l h r i m (on_says l k j c w) p)).1

  pub last_end_some : (i m : ℕ) → r ≡ Past i m → Amid n t b → 1 ≤ i
  last_end_some i m p a =
      let h : ℕ = total a.at.before + a.at.node.size + (n + 1) in
      (end_past n t a.chain a.sought b a.part a.stands a.at h i m
      (says_past a.chain h r i m (on_says a.chain a.sought a.part a.stands a.at) p)).0
