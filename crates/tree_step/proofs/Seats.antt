-- Where an entry of a sound table stands in its lists.
use mathlib.Core.Path.{◌≡◌, sym, ap, ◌∙◌, subst}
use mathlib.Core.List.{List}
use mathlib.Core.Logic.{⊎_elim}
use Prim.Native.Nat.{ℕ, ◌+◌, ◌-◌, ◌*◌, ◌/◌, ◌%◌, ◌≤◌, ◌<◌}
use native.Mathlib.Omega.{arith}
use lib.ListN.{length, take, drop}
use Rattle.links.specs.Links.{◌∈◌}
use Rattle.links.specs.Change.{before}
use Rattle.links.proofs.Held.{before_is}
use Rattle.tree_key.specs.Key.{key_of}
use Rattle.tree_key.specs.Hash.{hash_of}
use Rattle.tree_table.specs.Field.{field}
use Rattle.tree_table.specs.View.{key_at, hash_at, bucket_of, place}
use Rattle.tree_table.specs.Chain.{link_at, list_at, Ends}
use Rattle.tree_table.proofs.Chain.{key_part}
use Rattle.tree_sound.specs.Sizes.{buckets}
use Rattle.tree_promises.specs.Inner.Ready.{LiveAt, Single, hashed}
use Rattle.tree_step.specs.Inner.Seat.{head_of, InParent, InBucket, InList}
use Rattle.tree_look.proofs.Lists.{inside, all_fit, bucket_ends, bucket_list, bucket_is}
use Rattle.tree_look.proofs.Lives.{first_fits, in_hash}

-- the entry before another in a list lies where the list's entries do, or is entry 0
pub before_fits : {t : List ℕ} {w at first : ℕ} (x p : ℕ) → Ends t w at first → x ∈ list_at t w at first → w ≤ length t → p ≡ before x 0 (list_at t w at first) → p * w + w ≤ length t
before_fits {t} {w} {at} {first} x p E m h e =
    ⊎_elim
    (λ (r : (before x 0 (list_at t w at first) ≡ 0) × (first ≡ x)).
    let z : p ≡ 0 = e ∙ r.0 in
    subst (λ q. q * w + w ≤ length t) (sym z) (omega arith))
    (λ (r : (before x 0 (list_at t w at first) ∈ list_at t w at first) × (link_at t w at (before x 0 (list_at t w at first)) ≡ x)).
    subst (λ q. q * w + w ≤ length t) (sym e) (E.inside (before x 0 (list_at t w at first)) r.0))
    (before_is (link_at t w at) x 0 first (list_at t w at first) E.links m)

module _ {h t : List ℕ} {w : ℕ} (S : Single h t w) {x : ℕ} (l : LiveAt w t x) where
  pub live_fits : (i : ℕ) → i ≡ x → i * w + w ≤ length t
  live_fits i e = let a : x < field w t 0 1 = l.1 in inside t w i (field w t 0 1) (omega arith) (all_fit h t w S)

  -- b is the bucket of x's own key
  module _ (i b first : ℕ) (k : List ℕ) (ei : i ≡ x) (ek : k ≡ key_of (take (i * w + w - i * w) (drop (i * w) t))) (eb : b ≡ hash_of k % (length h / 4)) where
    own_key : k ≡ key_at (field w t) x
    own_key = ek ∙ key_part w t x (i * w) (ap (λ z. z * w) ei) (omega (arith, S.wide))

    own_place : place (hashed w h t) (key_at (field w t) x) ≡ b
    own_place = ap (λ z. hash_of z % buckets h) (sym own_key) ∙ sym eb

    pub hash_fits : b * 4 + 4 ≤ length h
    hash_fits = let q : b < length h / 4 = in_hash S b k eb in omega arith

    pub own_ends : first ≡ hash_at h b → Ends t w (w - 4) first
    own_ends ef = subst (λ z. Ends t w (w - 4) z) (sym ef) (bucket_ends h t w S b (in_hash S b k eb))

    pub own_there : first ≡ hash_at h b → x ∈ list_at t w (w - 4) first
    own_there ef =
        let hb : b < buckets h = in_hash S b k eb in
        subst (λ z. x ∈ z) (sym (ap (list_at t w (w - 4)) ef ∙ bucket_list h t w S b hb ∙ bucket_is h t w S b hb))
        (((S.table.bucket b hb).2 x).1 (l, own_place))

    pub own_seat : (p n : ℕ) → first ≡ hash_at h b → p ≡ before x 0 (list_at t w (w - 4) first) → n ≡ link_at t w (w - 4) x
        → InBucket h t w x (record { bucket = b; before = p; after = n })
    unfolding field
    own_seat p n ef ep en =
        record {
          bucket = sym own_place;
          before =
              ep
              ∙ ap (before x 0) (ap (list_at t w (w - 4)) ef ∙ bucket_list h t w S b (in_hash S b k eb) ∙ ap (λ z. bucket_of (hashed w h t) z) (sym own_place));
          after = en;
          bucket_inside = hash_fits;
          before_inside = before_fits x p (own_ends ef) (own_there ef) (first_fits S) ep;
        }

module _ {d : List ℕ} {at : ℕ} {t : List ℕ} {w x : ℕ} (L : InParent d at t w x) (up first : ℕ) (eu : up ≡ link_at t w 0 x) where
  up_is : up ≡ field w t x 1
  unfolding field
  up_is = eu

  pub up_fits : up * 40 + 40 ≤ length d
  up_fits = subst (λ z. z * 40 + 40 ≤ length d) (sym up_is) L.up_inside

  module _ (ef : first ≡ link_at d 40 at up) where
    head_is : first ≡ head_of d at t w x
    head_is = ef ∙ ap (link_at d 40 at) up_is

    pub list_ends : Ends t w 20 first
    list_ends = subst (λ z. Ends t w 20 z) (sym head_is) L.ends

    pub list_there : x ∈ list_at t w 20 first
    list_there = subst (λ z. x ∈ list_at t w 20 z) (sym head_is) L.there

    pub list_seat : (p n : ℕ) → w ≤ length t → p ≡ before x 0 (list_at t w 20 first) → n ≡ link_at t w 20 x → InList d at t w x (record { up = up; before = p; after = n })
    unfolding field
    list_seat p n h ep en =
        record {
          up = up_is;
          before = ep ∙ ap (λ z. before x 0 (list_at t w 20 z)) head_is ∙ ap (before x 0) L.walked;
          after = en;
          before_inside = before_fits x p list_ends list_there h ep;
        }
