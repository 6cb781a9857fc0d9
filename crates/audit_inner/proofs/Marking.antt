-- The marks before the first file: each chain's length at its first block, and the removed inodes.
use mathlib.Core.Path.{◌≡◌, refl, sym, ap, subst, subst⁻¹, ◌∙◌}
use mathlib.Core.List.{List, [], ◌∷◌}
use mathlib.Core.Bool.{Bool, true, false, cond, not, ◌&&◌}
use mathlib.Core.Logic.{◌⊎◌, inl, inr, ⊎_elim, ◌≢◌}
use Prim.Native.Nat.{ℕ, zero, suc, ◌+◌, ◌-◌, ◌*◌, ◌/◌, ◌≤◌, ◌<◌}
use native.Mathlib.Omega.{arith}
use mir.Val.{Fits}
use mir.Syntax.{w32, w64}
use native.Mathlib.Numerals.{add-one}
use lib.Dec.{ltb}
use lib.ListN.{length, get_or, set, length-set}
use lib.Seq.{get_or-set_same, get_or-set_other}
use borrow.Author.Tests.{lt-ltb}
use Rattle.words.proofs.Laws as words
use Rattle.links.specs.Links.{◌∈◌, Links}
use Rattle.links.proofs.Laws.{one_list}
use Rattle.links.proofs.Held.{same_or}
use Rattle.fat_node.specs.Entry.{Bytes}
use Rattle.fat_node.specs.Node.{NodeAt, prev_at}
use Rattle.fat_node.proofs.Nodes.{le_or_lt}
use Rattle.fat_table.specs.Sound.{Starts, begin, after, IsNode, File}
use Rattle.fat_table.specs.Chain.{total, size_at, head_at, chain_at, file_at}
use Rattle.fat_table.proofs.Sounds.{node_size}
use Rattle.fat_table.proofs.Files.{Whole}
use Rattle.fat_walk.specs.Volume.{Volume}
use Rattle.fat_walk.specs.Inner.Chains.{Standing, ChainFrom}
use Rattle.fat_walk.proofs.Hops.{whole_of, starts_after, node_standing}
use Rattle.fat_walk.proofs.Found.{file_from}
use Rattle.tree_table.specs.Chain.{link_at, member}
use Rattle.tree_table.specs.Field.{field, collision_field}
use Rattle.tree_table.proofs.Chain.{member_in, not_member}
use Rattle.tree_marks.specs.Inner.Marks.{gone, mark_at, Marked, ListMarked}
use Rattle.audit_inner.specs.Volume.{count_of, removed_files, is_live, chain_of}
use Rattle.audit_inner.specs.Inner.Marks.{Files, Behind, Clear, Lengths, Start, Dead, Gone}
use Rattle.audit_inner.proofs.Chains.{chain_file, chain_none, chain_sum}
use Rattle.audit_inner.proofs.Judging.{count_word}

-- ---- one node

module _ (n : ℕ) (t : Bytes) (v : Volume n t) (g : words.Bytes t) (b : ℕ) (i : IsNode t n b) where
  pub node_behind : (p : ℕ) → p ≡ prev_at t b → (p ≡ 0 → ⊥) → 0 ≡ chain_of n t b
  node_behind p e h = sym (chain_none n t (whole_of n t v g) b (λ f. h (e ∙ f.1)))

  pub node_free : (h : ℕ) → h ≡ head_at t → h ≡ b + 1 → 0 ≡ chain_of n t b
  node_free h e q = sym (chain_none n t (whole_of n t v g) b (λ f. f.2 (sym e ∙ q)))

  pub node_file : (p h : ℕ) → p ≡ prev_at t b → p ≡ 0 → h ≡ head_at t → (h ≡ b + 1 → ⊥) → File t n b
  node_file p h e z q k = (i, sym e ∙ z, λ x. k (q ∙ x))

  pub node_chain : File t n b → (r : ℕ) → r ≡ total (chain_at t n (b + 1)) → r ≡ chain_of n t b
  node_chain f r e = e ∙ ap (λ (j : ℕ). total (chain_at t n j)) (add-one b) ∙ sym (chain_file n t (whole_of n t v g) b f)

  pub node_few : File t n b → (r : ℕ) → r ≡ total (chain_at t n (b + 1)) → r ≤ 1000000
  node_few f r e = omega (arith, e ∙ ap (λ (j : ℕ). total (chain_at t n j)) (add-one b), chain_sum n t (whole_of n t v g) b f, v.few)

  pub node_fits : File t n b → (r : ℕ) → r ≡ total (chain_at t n (b + 1)) → Fits w32 r
  node_fits f r e = omega (arith, node_few f r e)

-- ---- all nodes

-- the blocks below b are marked
pub record Going (n : ℕ) (t : Bytes) (work₀ work : List ℕ) (b : ℕ) : Type 0 where
  pub starts : Starts t n b
  pub within : b ≤ n
  pub marked : (x : ℕ) → x < b → get_or work x 0 ≡ chain_of n t x
  pub zeros : (x : ℕ) → b ≤ x → get_or work x 0 ≡ 0
  pub behind : Behind n work₀ work

pub going_begin : (n : ℕ) (t : Bytes) (work : List ℕ) → Clear 0 work → Going n t work work 0
going_begin n t work z = record {
  starts = begin;
  within = omega arith;
  marked = λ x h. let c : ⊥ = omega (arith, h) in absurd c;
  zeros = λ x h. z.at x h;
  behind = record { long = refl; rest = λ j h. refl };
}

module _ (n : ℕ) (t : Bytes) (v : Volume n t) (g : words.Bytes t) (work₀ work : List ℕ) (b : ℕ) (w : Going n t work₀ work b) (h : b < n) where
  pub going_node : IsNode t n b
  going_node = (w.starts, h)

  pub going_standing : Standing n t b
  going_standing = node_standing n t (whole_of n t v g) b going_node

  pub going_size : (s : ℕ) → s ≡ size_at t b → (1 ≤ s) × (b + s ≤ n)
  going_size s e =
      let k = going_standing in
      let q : size_at t b ≡ k.size = node_size t n b k.size k.node in
      (omega (arith, e, q, k.node.some), omega (arith, e, q, k.node.within))

  pub going_fits : (s : ℕ) → s ≡ size_at t b → Fits w64 (b + s)
  going_fits s e = omega (arith, (going_size s e).1, v.few)

  pub going_less : (s : ℕ) → s ≡ size_at t b → n - (b + s) < n - b
  going_less s e = let z = going_size s e in omega (arith, z.0, z.1)

  pub going_on : (c s : ℕ) → c ≡ chain_of n t b → s ≡ size_at t b → n ≤ length work₀ → Going n t work₀ (set work b c) (b + s)
  going_on c s e q room =
      let k = going_standing in
      let p : s ≡ k.size = q ∙ node_size t n b k.size k.node in
      let m : NodeAt t n b s = subst⁻¹ (NodeAt t n b) p k.node in
      record {
        starts = after w.starts m refl;
        within = m.within;
        marked = λ x i. ⊎_elim (λ j. here x j) (λ j. later x i j m) (same_or x b);
        zeros = λ x i. get_or-set_other work b x c 0 (λ (j : x ≡ b). omega (arith, i, j, m.some)) ∙ w.zeros x (omega (arith, i));
        behind = record {
          long = length-set work b c ∙ w.behind.long;
          rest = λ j i. get_or-set_other work b j c 0 (λ (z : j ≡ b). omega (arith, z, i, h)) ∙ w.behind.rest j i;
        };
      }
    where
      here : (x : ℕ) → x ≡ b → get_or (set work b c) x 0 ≡ chain_of n t x
      here x j =
          ap (λ (y : ℕ). get_or (set work b c) y 0) j ∙ get_or-set_same work b c 0 (omega (arith, h, room, w.behind.long)) ∙ e ∙ ap (chain_of n t) (sym j)

      later : (x : ℕ) → x < b + s → x ≢ b → NodeAt t n b s → get_or (set work b c) x 0 ≡ chain_of n t x
      later x i j m =
          get_or-set_other work b x c 0 j
          ∙ ⊎_elim
          (λ (z : b ≤ x).
          w.zeros x z
          ∙ sym (chain_none n t (whole_of n t v g) x (λ f.
          let y : b + s ≤ x = starts_after n t (whole_of n t v g) b s x going_node m f.0 (⊎_elim (λ (k : b < x). k) (λ (k : x ≤ b). absurd (j (omega (arith, k, z)))) (lt_or_le b x)) in
          omega (arith, y, i))))
          (λ (z : x < b). w.marked x z)
          (le_or_lt b x)
        where
          lt_or_le : (a c : ℕ) → (a < c) ⊎ (c ≤ a)
          lt_or_le a c = ⊎_elim (λ k. inr k) (λ k. inl k) (le_or_lt c a)

pub going_end : (n : ℕ) (t : Bytes) (work₀ work : List ℕ) (b : ℕ) → Going n t work₀ work b → (b < n → ⊥)
    → Lengths n t work₀ work
going_end n t work₀ work b w h = record {
  at = λ x i. w.marked x (⊎_elim (λ (k : n ≤ b). omega (arith, i, k)) (λ k. absurd (h k)) (le_or_lt n b));
  behind = w.behind;
}

-- ---- the removed inodes

live_of : (f : Bytes) (y : ℕ) → 0 < y → y < count_of f → is_live f y ≡ not (member y (removed_files f))
unfolding is_live
live_of f y h k =
    ap (λ (t : Bool). t && (ltb y (count_of f) && not (member y (removed_files f)))) (lt-ltb 0 y h)
    ∙ ap (λ (t : Bool). t && not (member y (removed_files f))) (lt-ltb y (count_of f) k)

links_of : (f : Bytes) (first : ℕ) → Files f → first ≡ link_at f 48 44 0 → Links (link_at f 48 44) first (removed_files f)
unfolding field
links_of f first F e = subst⁻¹ (λ (x : ℕ). Links (link_at f 48 44) x (removed_files f)) e F.removed

module _ (n : ℕ) (f : Bytes) (F : Files f) (work work' : List ℕ) (first : ℕ) (e : first ≡ link_at f 48 44 0) (room : n + count_of f ≤ length work)
    (z : Clear n work) (count : ℕ) (is : count ≡ link_at f 48 0 0) (r : Bool) (m : ListMarked (link_at f 48 44) count first gone n work work' r) where
  same : count ≡ count_of f
  same = is ∙ sym (count_word f)

  yes : r ≡ true
  yes = go r refl
    where
      go : (t : Bool) → r ≡ t → r ≡ true
      go true q = q
      go false q =
          absurd (m.bad q (removed_files f) (links_of f first F e) (λ y i. (omega (arith, F.below y i, same), z.at (n + y) (omega arith))))

  marks : Marked (mark_at work n) (mark_at work' n) gone (removed_files f)
  marks =
      let g = m.good yes in
      subst (Marked (mark_at work n) (mark_at work' n) gone) (one_list (link_at f 48 44) first first g.0 (removed_files f) refl g.1 (links_of f first F e)) g.3

  dead_at : (y : ℕ) → 0 < y → y < count_of f → get_or work' (n + y) 0 ≡ cond (is_live f y) 0 gone
  dead_at y h k = go (member y (removed_files f)) refl ∙ ap (λ (t : Bool). cond {A = ℕ} t 0 gone) (sym (live_of f y h k))
    where
      go : (t : Bool) → member y (removed_files f) ≡ t → get_or work' (n + y) 0 ≡ cond (not (member y (removed_files f))) 0 gone
      go true q = marks.marked y (member_in y (removed_files f) q) ∙ ap (λ (t : Bool). cond {A = ℕ} (not t) 0 gone) (sym q)
      go false q =
          marks.others y (not_member y (removed_files f) q) ∙ z.at (n + y) (omega arith) ∙ ap (λ (t : Bool). cond {A = ℕ} (not t) 0 gone) (sym q)

  pub removed_marked : Gone n f work work'
  removed_marked = record { dead = record { room = omega (arith, room, m.within.size); at = dead_at }; before = λ b h. m.within.before b h }

-- what the walk along the removed inodes asks for
module _ (n : ℕ) (f : Bytes) (work : List ℕ) (count : ℕ) (F : Files f) (e : count ≡ link_at f 48 0 0) where
  pub removed_table : count * 48 ≤ length f
  removed_table = omega (arith, F.fits, e, count_word f)

  pub removed_room : n + count_of f ≤ length work → n + count ≤ length work
  removed_room room = omega (arith, room, e, count_word f)

-- ---- both

module _ (n : ℕ) (t f : Bytes) (work work₁ : List ℕ) (c : Lengths n t work work₁) where
  pub mark_room : Files f → n + length f / 48 ≤ length work → n + count_of f ≤ length work₁
  mark_room F h = omega (arith, h, c.behind.long, F.fits)

  pub mark_clear : Clear 0 work → Clear n work₁
  mark_clear z = record { at = λ j h. c.behind.rest j h ∙ z.at j (omega arith) }

  pub mark_start : (work₂ : List ℕ) → Gone n f work₁ work₂ → Start n (chain_of n t) f work₂
  mark_start work₂ d = record { chains = λ b h. d.before b h ∙ c.at b h; dead = d.dead }
