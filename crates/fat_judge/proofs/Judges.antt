-- What the judges of create, resize and delete say, from what they call.
use mathlib.Core.Path.{◌≡◌, refl, sym, ap, subst, ◌∙◌}
use mathlib.Core.List.{List, [], ◌∷◌, ◌++◌}
use mathlib.Core.Logic.{⊎_elim}
use mathlib.Core.Bool.{Bool, true, false, not}
use Prim.Native.Nat.{ℕ, ◌+◌, ◌-◌, ◌≤◌}
use native.Mathlib.Omega.{arith}
use native.Mathlib.Numerals.{add-one}
use borrow.Author.Tests.{not-false}
use Rattle.words.proofs.Laws as words
use Rattle.fat_node.specs.Entry.{Bytes}
use Rattle.fat_node.specs.Node.{Run, next_at}
use Rattle.fat_node.proofs.Nodes.{le_or_lt}
use Rattle.fat_table.specs.Sound.{File}
use Rattle.fat_table.specs.Chain.{total, size_at, head_at, chain_at, free_at, file_at}
use Rattle.fat_table.specs.Steps.{first}
use Rattle.fat_table.proofs.Unchanged.{total_append}
use Rattle.fat_promises.specs.Calls.{MayResize}
use Rattle.fat_walk.specs.Volume.{Volume}
use Rattle.fat_walk.specs.Inner.Chains.{Standing, Chain, ChainFrom, Inside, Beyond, SeekSays, Amid, LastAt}
use Rattle.fat_judge.specs.Inner.Plans.{CreateAt, SameAt, ShrinkAt, GrowAt}
use Rattle.fat_walk.specs.declared.Sought.{Sought}
use Rattle.fat_walk.specs.declared.Sought.TheVariants.{Within, Past}
use Rattle.fat_walk.proofs.Nodes.{mid_next}
use Rattle.fat_walk.proofs.Walks.{ended}
use Rattle.fat_walk.proofs.Found.{inside_standing, inside_count, inside_size, inside_first, last_past, last_some, head_chain, file_from, says_within, says_past}

file_chain_is : (n : ℕ) (t : Bytes) (b : ℕ) → chain_at t n (b + 1) ≡ file_at n t b
file_chain_is n t b = ap (chain_at t n) (add-one b)

last_file : (n : ℕ) (t : Bytes) (b y : ℕ) → LastAt (chain_at t n (b + 1)) y → LastAt (file_at n t b) y
last_file n t b y w = subst (λ (l : List Run). LastAt l y) (file_chain_is n t b) w

some : (c : ℕ) → (c ≡ 0 → ⊥) → 1 ≤ c
some c z = ⊎_elim (λ h. h) (λ h. absurd (z (omega (arith, h)))) (le_or_lt 1 c)

module _ (n : ℕ) (t : Bytes) (v : Volume n t) (g : words.Bytes t) where
  -- create -------------------------------------------------------------------------------------------------

  module _ (c h : ℕ) (r : Sought) (e : h ≡ head_at t) (s : SeekSays (chain_at t n h) c r) where
    pub create_some : (x m : ℕ) → r ≡ Within x m → 1 ≤ h
    create_some x m p =
        let k : ChainFrom n t h = head_chain n t v g h e in
        omega (arith, inside_first n t (chain_at t n h) c x m k.chain (says_within (chain_at t n h) c r x m s p), k.at)

    pub create_at : (x m : ℕ) → (c ≡ 0 → ⊥) → r ≡ Within x m → CreateAt n t c (h - 1) x m
    create_at x m z p =
        let w : Inside (chain_at t n h) c x m = says_within (chain_at t n h) c r x m s p in
        record {
          may = record {
            some = some c z;
            enough = omega (arith, inside_count n t (chain_at t n h) c x m (head_chain n t v g h e).chain w, ap (λ (j : ℕ). total (chain_at t n j)) e);
          };
          at = ap (λ (j : ℕ). j - 1) e;
          cut = subst (λ (j : ℕ). Inside (chain_at t n j) c x m) e w;
        }

  -- resize, of a file to some blocks ------------------------------------------------------------------------

  module _ (b c : ℕ) (f : File t n b) (some : 1 ≤ c) (r : Sought) (s : SeekSays (chain_at t n (b + 1)) c r) where
    file_many : total (chain_at t n (b + 1)) ≡ total (file_at n t b)
    file_many = ap total (file_chain_is n t b)

    in_file : (x m : ℕ) → r ≡ Within x m → Inside (chain_at t n (b + 1)) c x m
    in_file x m p = says_within (chain_at t n (b + 1)) c r x m s p

    in_may : (x m : ℕ) → r ≡ Within x m → MayResize n t b c
    in_may x m p = record {
      file = f;
      some = some;
      enough = omega (arith, inside_count n t (chain_at t n (b + 1)) c x m (file_from n t v g b f).chain (in_file x m p), file_many);
    }

    pub in_standing : (x m : ℕ) → r ≡ Within x m → Standing n t x
    in_standing x m p = inside_standing n t (chain_at t n (b + 1)) c x m (file_from n t v g b f).chain (in_file x m p)

    -- the node where the file is to end is its last, whole
    pub resize_same : (x m : ℕ) (o : Bool) → r ≡ Within x m → (o ≡ true → (m ≡ size_at t x) × (next_at t x ≡ 0)) → o ≡ true → SameAt n t b c
    resize_same x m o p h₀ e₀ =
        let h : (m ≡ size_at t x) × (next_at t x ≡ 0) = h₀ e₀ in
        let k : ChainFrom n t (b + 1) = file_from n t v g b f in
        let w : Inside (chain_at t n (b + 1)) c x m = in_file x m p in
        let z : size_at t x ≡ w.node.size = inside_size n t (chain_at t n (b + 1)) c x m k.chain w in
        let e : first w.after ≡ 0 =
        sym (mid_next n t w.before w.node w.after (subst (Chain n t) w.is k.chain)) ∙ ap (next_at t) w.at ∙ h.1 in
        let a : w.after ≡ [] = ended w.after 0 e refl in
        let l : chain_at t n (b + 1) ≡ w.before ++ w.node ∷ [] = w.is ∙ ap (λ (y : List Run). w.before ++ w.node ∷ y) a in
        record { may = in_may x m p; same = omega (arith, w.sum, h.0, z, ap total l, total_append w.before (w.node ∷ []), file_many) }

    pub in_amid : (x m : ℕ) → r ≡ Within x m → Amid n t x
    in_amid x m p = record {
      chain = chain_at t n (b + 1);
      sought = c;
      part = m;
      stands = (file_from n t v g b f).chain;
      at = in_file x m p;
    }

    -- it is in the file
    pub resize_shrink : (y x m : ℕ) → r ≡ Within x m → ((l : List Run) (k m : ℕ) → Chain n t l → Inside l k x m → LastAt l y) → ShrinkAt n t b c y x m
    resize_shrink y x m p e = record {
      may = in_may x m p;
      end = last_file n t b y (e (chain_at t n (b + 1)) c m (file_from n t v g b f).chain (in_file x m p));
      cut = subst (λ (l : List Run). Inside l c x m) (file_chain_is n t b) (in_file x m p);
    }

    -- it is not
    module _ (j k : ℕ) (p : r ≡ Past j k) where
      past : Beyond (chain_at t n (b + 1)) c j k
      past = says_past (chain_at t n (b + 1)) c r j k s p

      pub past_some : 1 ≤ k
      past_some = past.some

      pub past_last : 1 ≤ j
      past_last = last_some n t (b + 1) c j k (file_from n t v g b f) (λ e. omega (arith, e)) past

      module _ (h : ℕ) (q : Sought) (e : h ≡ head_at t) (u : SeekSays (chain_at t n h) k q) where
        free_many : total (chain_at t n h) ≡ total (free_at n t)
        free_many = ap (λ (z : ℕ). total (chain_at t n z)) e

        -- it is in the free chain
        pub resize_grow : (x m : ℕ) → q ≡ Within x m → GrowAt n t b c (j - 1) x m
        resize_grow x m o =
            let w : Inside (chain_at t n h) k x m = says_within (chain_at t n h) k q x m u o in
            let d : k ≡ c - total (file_at n t b) = omega (arith, past.sum, file_many) in
            record {
              may = record {
                file = f;
                some = some;
                enough = omega (arith, inside_count n t (chain_at t n h) k x m (head_chain n t v g h e).chain w, past.sum, file_many, free_many);
              };
              end = last_file n t b (j - 1) (last_past n t (b + 1) c j k (file_from n t v g b f) (λ z. omega (arith, z)) past);
              more = omega (arith, past.sum, past.some, file_many);
              cut = subst (λ (z : ℕ). Inside (free_at n t) z x m) d (subst (λ (z : ℕ). Inside (chain_at t n z) k x m) e w);
            }

-- whether the block is a file's first, as is_file tells it ---------------------------------------------------

module _ (n : ℕ) (t : Bytes) (b : ℕ) (r : Bool) (s : (r ≡ true → File t n b) × (File t n b → r ≡ true)) where
  pub is_file : not r ≡ false → File t n b
  is_file e = s.0 (not-false r e)
