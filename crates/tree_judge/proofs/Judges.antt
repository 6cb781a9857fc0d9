-- The tests before a step, by the places of their code.
use mathlib.Core.Path.{◌≡◌, refl, sym, ap, ◌∙◌, subst}
use mathlib.Core.Bool.{false, not}
use mathlib.Core.List.{List, [], ◌∷◌, ◌++◌}
use mathlib.Core.Logic.{inl, inr, ⊎_elim, ◌≢◌}
use Prim.Native.Nat.{ℕ, zero, suc, ◌+◌, ◌-◌, ◌*◌, ◌/◌, ◌%◌, ◌≤◌, ◌<◌}
use native.Mathlib.Omega.{arith}
use native.Mathlib.Decide.{dec_lt}
use lib.Dec.{eqb, leb}
use lib.ListN.{length}
use borrow.Author.Tests.{eq-eqb, ne_eqb, le-leb, leb-true}
use Rattle.order.specs.First.{Row, row}
use Rattle.order.specs.Given.{Given, None}
use Rattle.order.specs.Answer.{Answer}
use Rattle.order.specs.Answer.{NotFound, NotOpen, Busy, DeletingRoot, NotEmpty}
use Rattle.links.specs.Links.{◌∈◌}
use Rattle.links.specs.Change.{walk}
use Rattle.tree_key.specs.Hash.{hash_of}
use Rattle.tree_table.specs.Field.{field}
use Rattle.tree_table.specs.View.{key_at, hash_at}
use Rattle.tree_table.specs.Steps.{free_of}
use Rattle.tree_table.specs.Chain.{link_at, list_at, Ends, seek_in}
use Rattle.tree_table.specs.declared.Hit.{Hit}
use Rattle.tree_sound.specs.Sizes.{buckets}
use Rattle.tree_sound.specs.Tables.{Tables, tables}
use Rattle.tree_promises.specs.declared.Kind.TheVariants.{Directory}
use Rattle.tree_promises.specs.Has.{HasOther}
use Rattle.tree_promises.specs.Calls.{held_tests_of, alone_tests_of, delete_tests_of}
use Rattle.tree_opens.specs.Record.{readers, writer}
use Rattle.tree_promises.specs.Inner.Ready.{LiveAt, Single, alone, hashed}
use Rattle.tree_look.proofs.Lists.{inside, all_fit, bucket_ends, bucket_list, bucket_is}
use Rattle.order.specs.Tells.{Tells}
use Rattle.tree_look.proofs.Lives.{in_hash}
use Rattle.tree_test.proofs.Cases.{told_false}
use Rattle.tree_look.proofs.Lookups.{seek_missed, seek_met}

-- ---- rows in two parts

-- what the first tests refuse stays refused
pub given_front : (rs qs : List (Row Answer)) (a : Answer) → Given rs a → Given (rs ++ qs) a
given_front [] qs a g = absurd g
given_front (r ∷ rs) qs a (inl p) = inl p
given_front (r ∷ rs) qs a (inr p) = inr (p.0, given_front rs qs a p.1)

pub given_behind : (rs qs : List (Row Answer)) (a : Answer) → None rs → Given qs a → Given (rs ++ qs) a
given_behind [] qs a n g = g
given_behind (r ∷ rs) qs a n g = inr (n.0, given_behind rs qs a n.1 g)

pub none_both : (rs qs : List (Row Answer)) → None rs → None qs → None (rs ++ qs)
none_both [] qs n m = m
none_both (r ∷ rs) qs n m = (n.0, none_both rs qs n.1 m)

-- ---- live

less_sure : (a b : ℕ) → ((a < b → ⊥) → ⊥) → a < b
less_sure a b n = go (dec_lt a b)
  where
    go : Dec (a < b) → a < b
    go (yes h) = h
    go (no h) = absurd (n h)

-- that an inode is live can be told from that it is not so that it is not
pub live_sure : (w : ℕ) (t : List ℕ) (x : ℕ) → ((LiveAt w t x → ⊥) → ⊥) → LiveAt w t x
live_sure w t x n =
    (less_sure 0 x (λ k. n (λ l. k l.0)), less_sure x (field w t 0 1) (λ k. n (λ l. k l.1)), λ m. n (λ l. l.2 m))

module _ (t : List ℕ) (w x : ℕ) (opens : ℕ) where
  pub held_none : (LiveAt w t x → ⊥) → Given (held_tests_of (alone w t) opens x) NotFound
  held_none gone = inl (gone, refl)

  module _ (live : LiveAt w t x) (n : ℕ) (count : n ≡ writer opens) where
    pub held_shut : n ≡ 0 → Given (held_tests_of (alone w t) opens x) NotOpen
    held_shut g = inr (λ k. k live, inl (sym count ∙ g, refl))

    pub held_go : (n ≡ 0 → ⊥) → None (held_tests_of (alone w t) opens x)
    held_go g = (λ k. k live, (λ z. g (count ∙ z), tt))

  module _ (held : None (held_tests_of (alone w t) opens x)) (n : ℕ) (count : n ≡ readers opens) where
    pub alone_busy : 0 < n → Given (alone_tests_of (alone w t) opens x) Busy
    alone_busy g = given_behind (held_tests_of (alone w t) opens x) (row (0 < readers opens) Busy ∷ []) Busy held (inl (omega arith, refl))

    pub alone_go : n ≤ 0 → None (alone_tests_of (alone w t) opens x)
    alone_go g = none_both (held_tests_of (alone w t) opens x) (row (0 < readers opens) Busy ∷ []) held (λ (k : 0 < readers opens). omega arith, tt)

-- the tests of one table by itself are those of the table among the four
module _ {h d : List ℕ} (S : Single h d 40) (opens : ℕ) (x : ℕ) (n : None (alone_tests_of (alone 40 d) opens x)) where
  abbrev s : Tables
  s = tables h d [] []

  pub alone_fits : x * 40 + 40 ≤ length d
  alone_fits = let l = live_sure 40 d x n.0 in inside d 40 x (field 40 d 0 1) l.1 (all_fit h d 40 S)

  pub dir_root : x ≡ 1 → Given (delete_tests_of Directory s opens x) DeletingRoot
  dir_root e = inr (n.0, inr (n.1.0, inr (n.1.1.0, inl (e, refl))))

  pub dir_dirs : (u : ℕ) → (x ≡ 1 → ⊥) → u ≡ link_at d 40 24 x → (u ≡ 0 → ⊥) → Given (delete_tests_of Directory s opens x) NotEmpty
  unfolding field
  dir_dirs u r e z = inr (n.0, inr (n.1.0, inr (n.1.1.0, inr (r, inl (inl (omega arith), refl)))))

  pub dir_files : (u : ℕ) → (x ≡ 1 → ⊥) → u ≡ link_at d 40 28 x → (u ≡ 0 → ⊥) → Given (delete_tests_of Directory s opens x) NotEmpty
  unfolding field
  dir_files u r e z = inr (n.0, inr (n.1.0, inr (n.1.1.0, inr (r, inl (inr (omega arith), refl)))))

  pub dir_go : (u v : ℕ) → (x ≡ 1 → ⊥) → u ≡ link_at d 40 24 x → u ≡ 0 → v ≡ link_at d 40 28 x → v ≡ 0 → None (delete_tests_of Directory s opens x)
  unfolding field
  dir_go u v r eu zu ev zv =
      (n.0, (n.1.0, (n.1.1.0, (r, (⊎_elim (λ (k : 0 < link_at d 40 24 x). omega arith) (λ (k : 0 < link_at d 40 28 x). omega arith), tt)))))

-- ---- another entry with the key

module _ {h t : List ℕ} {w : ℕ} (S : Single h t w) (k : List ℕ) (b first : ℕ) (hit : Hit) (eb : b ≡ hash_of k % (length h / 4))
    (ef : first ≡ hash_at h b) where
  pub key_ends : Ends t w (w - 4) first
  key_ends = subst (λ z. Ends t w (w - 4) z) (sym ef) (bucket_ends h t w S b (in_hash S b k eb))

  pub key_fits : b * 4 + 4 ≤ length h
  key_fits = let q : b < length h / 4 = in_hash S b k eb in omega arith

  module _ (x : ℕ) (eh : hit ≡ seek_in (key_at (field w t)) k (list_at t w (w - 4) first) 0) where
    xs : List ℕ
    xs = (S.table.bucket b (in_hash S b k eb)).0

    hit_is : hit ≡ seek_in (key_at (field w t)) k xs 0
    unfolding xs
    hit_is =
        eh
        ∙ ap (λ l. seek_in (key_at (field w t)) k l 0)
        (ap (list_at t w (w - 4)) ef ∙ bucket_list h t w S b (in_hash S b k eb) ∙ bucket_is h t w S b (in_hash S b k eb))

    in_bucket : (y : ℕ) → LiveAt w t y → key_at (field w t) y ≡ k → y ∈ xs
    unfolding xs
    in_bucket y l e = ((S.table.bucket b (in_hash S b k eb)).2 y).1 (l, ap (λ z. hash_of z % buckets h) e ∙ sym eb)

    live_in : (y : ℕ) → y ∈ xs → LiveAt w t y
    unfolding xs
    live_in y m = (((S.table.bucket b (in_hash S b k eb)).2 y).0 m).0

    pub other_none : hit.inode ≡ 0 → Tells (HasOther (hashed w h t) x k) false
    other_none e =
        let r = seek_missed (key_at (field w t)) k xs 0 (λ y m. (live_in y m).0) (ap (λ z. z.inode) (sym hit_is) ∙ e) in
        told_false (λ p. r.none p.0 (in_bucket p.0 p.1 p.3) p.3)

    pub other_some : hit.inode ≢ 0 → Tells (HasOther (hashed w h t) x k) (not (eqb hit.inode x))
    other_some z =
        let i : ℕ = (seek_in (key_at (field w t)) k xs 0).inode in
        let e : hit.inode ≡ i = ap (λ z. z.inode) hit_is in
        let m = seek_met (key_at (field w t)) k xs 0 (λ q. z (e ∙ q)) in
        tell i e (live_in i m.0) m.1
      where
        tell : (i : ℕ) → hit.inode ≡ i → LiveAt w t i → key_at (field w t) i ≡ k → Tells (HasOther (hashed w h t) x k) (not (eqb hit.inode x))
        tell i e l q = record {
          yes = λ r. (i, l, (λ (p : i ≡ x). let y : ◌≡◌ {A = ℕ} 0 1 = (let u = eq-eqb hit.inode x (e ∙ p) in cc) in omega arith), q);
          only = λ p. ap not (ne_eqb hit.inode x (λ (u : hit.inode ≡ x). p.2 (S.table.keys p.0 i p.1 l (p.3 ∙ sym q) ∙ sym e ∙ u)));
        }

-- ---- entries left

walk_some : (next : ℕ → ℕ) (k x : ℕ) → 0 < k → x ≢ 0 → 0 < length (walk next k x)
walk_some next zero x h n = absurd (omega arith)
walk_some next (suc k) zero h n = absurd (n refl)
walk_some next (suc k) (suc x) h n = omega arith

walk_none : (next : ℕ → ℕ) (k x : ℕ) → x ≡ 0 → length (walk next k x) ≡ 0
walk_none next zero x e = refl
walk_none next (suc k) zero e = refl
walk_none next (suc k) (suc x) e = absurd (omega arith)

module _ (t : List ℕ) (w : ℕ) (some : 0 < field w t 0 1) (first : ℕ) (ef : first ≡ link_at t w (w - 4) 0) where
  pub full_removed : (first ≡ 0 → ⊥) → Tells (free_of (alone w t) ≡ 0) false
  unfolding field
  full_removed n = told_false (λ p. omega (arith, walk_some (λ y. field w t y 0) (field w t 0 1) (field w t 0 0) some (λ q. n (ef ∙ q))))

  pub full_counted : (m c : ℕ) → first ≡ 0 → m ≡ link_at t w 4 0 → c ≡ link_at t w 0 0 → Tells (free_of (alone w t) ≡ 0) (leb m c)
  unfolding field
  full_counted m c z em ec =
      let l : length (walk (λ y. field w t y 0) (field w t 0 1) (field w t 0 0)) ≡ 0 = walk_none (λ y. field w t y 0) (field w t 0 1) (field w t 0 0) (sym ef ∙ z) in record {
        yes = λ e. let q : m ≤ c = leb-true m c e in omega arith;
        only = λ p. le-leb m c (omega arith);
      }
