-- Whether an inode is live, by the bucket of its own key.
use mathlib.Core.Path.{◌≡◌, sym, ap, ◌∙◌, subst}
use mathlib.Core.Bool.{Bool, false}
use mathlib.Core.List.{List}
use Prim.Native.Nat.{ℕ, ◌+◌, ◌-◌, ◌*◌, ◌/◌, ◌%◌, ◌≤◌, ◌<◌}
use native.Mathlib.Nat.{mul-le-mul_right, mod-lt}
use native.Mathlib.Omega.{arith}
use lib.ListN.{length, take, drop}
use Rattle.words.specs.Word.{word}
use Rattle.links.specs.Links.{◌∈◌}
use Rattle.tree_key.specs.Key.{key_of}
use Rattle.tree_key.specs.Hash.{hash_of}
use Rattle.tree_table.specs.Field.{field}
use Rattle.tree_table.specs.View.{key_at, hash_at}
use Rattle.tree_table.specs.Chain.{list_at, Ends, member}
use Rattle.tree_table.proofs.Chain.{key_part, member_in, in_member}
use Rattle.tree_sound.specs.Sizes.{buckets}
use Rattle.order.specs.Tells.{Tells}
use Rattle.tree_test.proofs.Cases.{told_false}
use Rattle.tree_promises.specs.Inner.Ready.{LiveAt, Single}
use Rattle.tree_look.proofs.Lists.{inside, all_fit, bucket_ends, bucket_list, bucket_is}

pub hash_word : (h : List ℕ) (b : ℕ) → word h (b * 4) ≡ hash_at h b
unfolding field
hash_word h b = ap (word h) (omega arith)

pub count_word : (w : ℕ) (t : List ℕ) → word t 0 ≡ field w t 0 1
unfolding field
count_word w t = ap (word t) (omega arith)

module _ {h t : List ℕ} {w : ℕ} (S : Single h t w) where
  -- entry 0 is there
  pub first_fits : w ≤ length t
  first_fits = omega (arith, all_fit h t w S, mul-le-mul_right w S.table.count_one)

  pub live_zero : (x : ℕ) → x ≡ 0 → Tells (LiveAt w t x) false
  live_zero x e = told_false (λ l. let p : 0 < x = l.0 in omega arith)

  pub live_beyond : (x c : ℕ) → c ≡ word t 0 → c ≤ x → Tells (LiveAt w t x) false
  live_beyond x c e g = told_false (λ l. let p : x < field w t 0 1 = l.1 in omega (arith, count_word w t))

  pub live_inside : (x c i : ℕ) → c ≡ word t 0 → x < c → i ≡ x → i * w + w ≤ length t
  live_inside x c i e g q = inside t w i (field w t 0 1) (omega (arith, count_word w t)) (all_fit h t w S)

  pub in_hash : (b : ℕ) (k : List ℕ) → b ≡ hash_of k % (length h / 4) → b < buckets h
  in_hash b k e = omega (arith, mod-lt (hash_of k) S.some)

  pub bucket_there : (b first : ℕ) (k : List ℕ) → b ≡ hash_of k % (length h / 4) → first ≡ word h (b * 4) → Ends t w (w - 4) first
  bucket_there b first k e f = subst (λ z. Ends t w (w - 4) z) (sym (f ∙ hash_word h b)) (bucket_ends h t w S b (in_hash b k e))

  pub live_told : (x i b first : ℕ) (k : List ℕ) (r : Bool) → i ≡ x → k ≡ key_of (take (i * w + w - i * w) (drop (i * w) t)) → b ≡ hash_of k % (length h / 4)
      → first ≡ word h (b * 4) → r ≡ member x (list_at t w (w - 4) first) → Tells (LiveAt w t x) r
  live_told x i b first k r ei ek eb ef er =
      let hb : b < buckets h = in_hash b k eb in
      let key : k ≡ key_at (field w t) x = ek ∙ key_part w t x (i * w) (ap (λ z. z * w) ei) (omega (arith, S.wide)) in
      let at : hash_of (key_at (field w t) x) % buckets h ≡ b = ap (λ z. hash_of z % buckets h) (sym key) ∙ sym eb in
      let H = S.table.bucket b hb in
      let l : list_at t w (w - 4) first ≡ H.0 = ap (list_at t w (w - 4)) (ef ∙ hash_word h b) ∙ bucket_list h t w S b hb ∙ bucket_is h t w S b hb in record {
        yes = λ e. ((H.2 x).0 (subst (λ z. x ∈ z) l (member_in x (list_at t w (w - 4) first) (sym er ∙ e)))).0;
        only = λ p. er ∙ in_member x (list_at t w (w - 4) first) (subst (λ z. x ∈ z) (sym l) ((H.2 x).1 (p, at)));
      }

-- a bucket's word lies in the hash
pub bucket_fits : (h : List ℕ) (k : List ℕ) (b : ℕ) → b ≡ hash_of k % (length h / 4) → 0 < length h / 4 → b * 4 + 4 ≤ length h
bucket_fits h k b e p = let q : b < length h / 4 = omega (arith, mod-lt (hash_of k) p) in omega arith
