-- Lookup's rows, from what the walk along a bucket finds.
use mathlib.Core.Path.{◌≡◌, refl, sym, ap, ◌∙◌, subst}
use mathlib.Core.Bool.{Bool, true, false}
use mathlib.Core.List.{List, [], ◌∷◌}
use mathlib.Core.Logic.{inl, inr, ◌≢◌}
use Prim.Native.Nat.{ℕ, ◌+◌, ◌-◌, ◌*◌, ◌/◌, ◌%◌, ◌<◌}
use native.Mathlib.Omega.{arith}
use lib.ListN.{length}
use Rattle.order.specs.First.{First}
use Rattle.order.specs.Answer.{Done, NotFound}
use Rattle.words.specs.Word.{word}
use Rattle.links.specs.Links.{◌∈◌}
use Rattle.links.specs.Change.{pick}
use Rattle.tree_key.specs.Key.{same_key}
use Rattle.tree_key.specs.Hash.{hash_of}
use Rattle.tree_key.proofs.Laws.{same_equal, equal_same}
use Rattle.tree_table.specs.Field.{field}
use Rattle.tree_table.specs.View.{View, key_at, bucket_of, place}
use Rattle.tree_table.specs.Chain.{list_at, seek_in}
use Rattle.tree_table.specs.declared.Hit.{Hit}
use Rattle.tree_sound.specs.Sizes.{buckets}
use Rattle.tree_promises.specs.Inner.Ready.{LiveAt, Single, hashed}
use Rattle.tree_promises.specs.Calls.{Lookup, lookup_rows, lookup_done, lookup_gives}
use Rattle.tree_look.proofs.Lists.{bucket_list, bucket_is}
use Rattle.tree_look.proofs.Lives.{hash_word, in_hash}

-- a search that finds nothing: no entry of the list has the key, and all were compared
pub record Missed (key : ℕ → List ℕ) (k xs : List ℕ) (n : ℕ) : Type 0 where
  pub none : (y : ℕ) → y ∈ xs → key y ≡ k → ⊥
  pub all : (seek_in key k xs n).compared ≡ n + length xs

pub seek_missed : (key : ℕ → List ℕ) (k xs : List ℕ) (n : ℕ) → ((y : ℕ) → y ∈ xs → 0 < y) → (seek_in key k xs n).inode ≡ 0 → Missed key k xs n
seek_missed key k [] n pos e = record { none = λ y m q. m; all = omega arith }
seek_missed key k (x ∷ xs) n pos e = go (same_key (key x) k) refl e (λ z. seek_missed key k xs (n + 1) (λ y m. pos y (inr m)) z)
  where
    miss : same_key (key x) k ≡ false → ((y : ℕ) → y ∈ xs → key y ≡ k → ⊥) → (y : ℕ) → y ∈ (x ∷ xs) → key y ≡ k → ⊥
    miss s f y (inl p) q =
        let a : true ≡ false = sym (equal_same (key x) k (ap key (sym p) ∙ q)) ∙ s in
        let b : ◌≡◌ {A = ℕ} 0 1 = cc in
        omega arith
    miss s f y (inr p) q = f y p q

    go : (t : Bool) → same_key (key x) k ≡ t → (pick t (record { inode = x; compared = n + 1 }) (seek_in key k xs (n + 1))).inode ≡ 0
        → ((seek_in key k xs (n + 1)).inode ≡ 0 → Missed key k xs (n + 1)) → Missed key k (x ∷ xs) n
    go true s z f = absurd (omega (arith, pos x (inl refl)))
    go false s z f =
        let r = f z in
        record {
          none = miss s r.none;
          all = ap (λ t. (pick t (record { inode = x; compared = n + 1 }) (seek_in key k xs (n + 1))).compared) s ∙ omega (arith, r.all);
        }

-- x stands in the list and has the key
abbrev Met : (ℕ → List ℕ) → List ℕ → List ℕ → ℕ → Type 0
Met key k xs x = (x ∈ xs) × (key x ≡ k)

-- a search that finds an entry
pub seek_met : (key : ℕ → List ℕ) (k xs : List ℕ) (n : ℕ) → (seek_in key k xs n).inode ≢ 0 → Met key k xs (seek_in key k xs n).inode
seek_met key k [] n e = absurd (e refl)
seek_met key k (x ∷ xs) n e = go (same_key (key x) k) refl e (λ z. seek_met key k xs (n + 1) z)
  where
    go : (t : Bool) → same_key (key x) k ≡ t → (pick t (record { inode = x; compared = n + 1 }) (seek_in key k xs (n + 1))).inode ≢ 0
        → ((seek_in key k xs (n + 1)).inode ≢ 0 → Met key k xs (seek_in key k xs (n + 1)).inode)
        → Met key k (x ∷ xs) (pick t (record { inode = x; compared = n + 1 }) (seek_in key k xs (n + 1))).inode
    go true s z f = (inl refl, same_equal (key x) k s)
    go false s z f = let r = f z in (inr r.0, r.1)

module _ {h t : List ℕ} {w : ℕ} (S : Single h t w) (k : List ℕ) (b first : ℕ) (hit : Hit) (eb : b ≡ hash_of k % (length h / 4))
    (ef : first ≡ word h (b * 4)) (eh : hit ≡ seek_in (key_at (field w t)) k (list_at t w (w - 4) first) 0) where
  hb : b < buckets h
  hb = in_hash S b k eb

  -- the bucket, as its rule speaks of it
  xs : List ℕ
  xs = (S.table.bucket b hb).0

  bucket_of_lem : bucket_of (hashed w h t) (place (hashed w h t) k) ≡ xs
  unfolding xs
  bucket_of_lem = ap (bucket_of (hashed w h t)) (sym eb) ∙ bucket_is h t w S b hb

  hit_is : hit ≡ seek_in (key_at (field w t)) k xs 0
  unfolding xs
  hit_is =
      eh
      ∙ ap (λ l. seek_in (key_at (field w t)) k l 0) (ap (list_at t w (w - 4)) (ef ∙ hash_word h b) ∙ bucket_list h t w S b hb ∙ bucket_is h t w S b hb)

  -- a live entry with the key stands in the bucket
  in_bucket : (y : ℕ) → LiveAt w t y → key_at (field w t) y ≡ k → y ∈ xs
  unfolding xs
  in_bucket y l e = ((S.table.bucket b hb).2 y).1 (l, ap (λ z. hash_of z % buckets h) e ∙ sym eb)

  live_in : (y : ℕ) → y ∈ xs → LiveAt w t y
  unfolding xs
  live_in y m = (((S.table.bucket b hb).2 y).0 m).0

  pub lookup_none : hit.inode ≡ 0
      → First (lookup_rows (hashed w h t) k) (lookup_done (hashed w h t) k) (lookup_gives NotFound 0 hit.compared)
  lookup_none e =
      let r = seek_missed (key_at (field w t)) k xs 0 (λ y m. (live_in y m).0) (ap (λ z. z.inode) (sym hit_is) ∙ e) in
      inl (
        λ p. r.none p.0 (in_bucket p.0 p.1 p.2) p.2,
        ap (lookup_gives NotFound 0) (omega (arith, ap (λ z. z.compared) hit_is, r.all, ap length bucket_of_lem)),
      )

  pub lookup_done_lem : hit.inode ≢ 0
      → First (lookup_rows (hashed w h t) k) (lookup_done (hashed w h t) k) (lookup_gives Done hit.inode hit.compared)
  lookup_done_lem e =
      let z : (seek_in (key_at (field w t)) k xs 0).inode ≢ 0 = λ q. e (ap (λ z. z.inode) hit_is ∙ q) in
      let m = seek_met (key_at (field w t)) k xs 0 z in
      inr (
        λ n. n ((seek_in (key_at (field w t)) k xs 0).inode, live_in _ m.0, m.1),
        ap (λ z. lookup_gives Done z.inode z.compared) (hit_is ∙ ap (λ l. seek_in (key_at (field w t)) k l 0) (sym bucket_of_lem)),
      )

-- the key that the code makes of a parent and a name
pub with_key : (v : View) {k k' : List ℕ} {o : Lookup} → k ≡ k' → First (lookup_rows v k) (lookup_done v k) o → First (lookup_rows v k') (lookup_done v k') o
with_key v {k} {k'} {o} e p = subst (λ (z : List ℕ). First (lookup_rows v z) (lookup_done v z) o) e p
