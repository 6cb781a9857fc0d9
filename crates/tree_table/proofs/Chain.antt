-- The walks along a list: where it goes on, and where it has ended.
use mathlib.Core.Path.{◌≡◌, refl, sym, ap, ap₂, ◌∙◌, subst}
use mathlib.Core.List.{List, [], ◌∷◌, ◌++◌, append_assoc, append-nil}
use mathlib.Core.Logic.{inl, inr, ⊎_elim, ◌≢◌}
use mathlib.Core.Bool.{Bool, true, false}
use Prim.Native.Nat.{ℕ, zero, suc, ◌+◌, ◌-◌, ◌*◌, ◌≤◌, ◌<◌}
use native.Mathlib.Omega.{arith}
use lib.Dec.{eqb}
use borrow.Author.Tests.{eq-eqb, ne_eqb, eqb-true}
use native.Mathlib.Numerals.{add-one}
use lib.ListN.{length, get_or, set, take, drop, length-set, take-append-drop}
use lib.Seq.{get_or-take, get_or-drop, take-suc-set, drop-set-lt, drop-drop}
use Rattle.words.specs.Word.{word}
use Rattle.links.specs.Links.{◌∈◌, Links}
use Rattle.links.specs.Change.{pick, walk, before}
use Rattle.links.proofs.Laws.{by_eq, walked}
use Rattle.tree_key.specs.Key.{key_of, same_key}
use Rattle.tree_table.specs.Field.{field}
use Rattle.tree_table.specs.View.{key_at}
use Rattle.tree_table.specs.Chain.{link_at, list_at, Ends, member, seek_in}

-- a walk is no longer than its fuel
length_walk : (next : ℕ → ℕ) (k x : ℕ) → length (walk next k x) ≤ k
length_walk next zero x = omega arith
length_walk next (suc k) zero = omega arith
length_walk next (suc k) (suc x) = let h : length (walk next k (next (suc x))) ≤ k = length_walk next k (next (suc x)) in omega arith

pub list_short : (t : List ℕ) (w at x : ℕ) → length (list_at t w at x) ≤ 65536
unfolding list_at
list_short t w at x = length_walk (link_at t w at) 65536 x

-- a list that is there is the one that the code walks
module _ (t : List ℕ) (w at x : ℕ) (xs : List ℕ) (l : Links (link_at t w at) x xs) (short : length xs ≤ 65536) where
  pub list_is : list_at t w at x ≡ xs
  unfolding list_at
  list_is = walked (link_at t w at) 65536 x xs l short

  pub ends : ((y : ℕ) → y ∈ xs → y * w + w ≤ length t) → Ends t w at x
  ends inside = record {
    links = subst (λ l. Links (link_at t w at) x l) (sym list_is) l;
    inside = λ y m. inside y (subst (λ l. y ∈ l) list_is m);
  }

pub ends_short : {t : List ℕ} {w at x : ℕ} → Ends t w at x → length (list_at t w at x) ≤ 65536
ends_short {t} {w} {at} {x} E = list_short t w at x

-- at an entry the list goes on, at r
pub record Goes (t : List ℕ) (w at x r : ℕ) : Type 0 where
  pub list : list_at t w at x ≡ x ∷ list_at t w at r
  pub rest : Ends t w at r
  pub fits : x * w + w ≤ length t
  pub less : length (list_at t w at x) ≡ suc (length (list_at t w at r))

on : (t : List ℕ) (w at x : ℕ) → Ends t w at x → x ≢ 0 → Goes t w at x (link_at t w at x)
on t w at x E n = go (list_at t w at x) refl E.links
  where
    go : (xs : List ℕ) → list_at t w at x ≡ xs → Links (link_at t w at) x xs → Goes t w at x (link_at t w at x)
    go [] e l = absurd (n l)
    go (y ∷ zs) e l =
        let p : x ≡ y = l.0 in
        let lz : Links (link_at t w at) (link_at t w at x) zs = subst (λ u. Links (link_at t w at) (link_at t w at u) zs) (sym p) l.2 in
        let s : length (y ∷ zs) ≤ 65536 = subst (λ l. length l ≤ 65536) e (list_short t w at x) in
        let ez : list_at t w at (link_at t w at x) ≡ zs = list_is t w at (link_at t w at x) zs lz (omega arith) in
        let el : list_at t w at x ≡ x ∷ list_at t w at (link_at t w at x) = e ∙ ap₂ (λ u v. u ∷ v) (sym p) (sym ez) in
        record {
          list = el;
          rest = ends t w at (link_at t w at x) zs lz (omega arith) (λ u m. E.inside u (subst (λ l. u ∈ l) (sym e) (inr m)));
          fits = E.inside x (subst (λ l. x ∈ l) (sym el) (inl refl));
          less = ap length el;
        }

pub goes : {t : List ℕ} {w at x r : ℕ} → Ends t w at x → x ≢ 0 → r ≡ link_at t w at x → Goes t w at x r
goes {t} {w} {at} {x} {r} E n e = subst (λ z. Goes t w at x z) (sym e) (on t w at x E n)

pub fits_at : {t : List ℕ} {w at x : ℕ} → Ends t w at x → x ≢ 0 → x * w + w ≤ length t
fits_at {t} {w} {at} {x} E n = (on t w at x E n).fits

-- at 0 it has ended
pub stops : (t : List ℕ) (w at x : ℕ) → x ≡ 0 → list_at t w at x ≡ []
unfolding list_at
stops t w at x e = ap (walk (link_at t w at) 65536) e

-- ---- members

pub member_in : (x : ℕ) (xs : List ℕ) → member x xs ≡ true → x ∈ xs
member_in x [] e = absurd (let z : ◌≡◌ {A = ℕ} 0 1 = cc in omega arith)
member_in x (y ∷ ys) e = go (eqb y x) refl e (member_in x ys)
  where
    go : (t : Bool) → eqb y x ≡ t → pick t true (member x ys) ≡ true → (member x ys ≡ true → x ∈ ys) → x ∈ (y ∷ ys)
    go true q r f = inl (sym (eqb-true y x q))
    go false q r f = inr (f r)

pub in_member : (x : ℕ) (xs : List ℕ) → x ∈ xs → member x xs ≡ true
in_member x [] x'' = elim x'' [ ]
in_member x (y ∷ ys) (inl e) = ap (λ t. pick t true (member x ys)) (eq-eqb y x (sym e))
in_member x (y ∷ ys) (inr m) = by_eq y x (λ t. pick t true (member x ys) ≡ true) (λ _. refl) (λ _. in_member x ys m)

pub not_member : (x : ℕ) (xs : List ℕ) → member x xs ≡ false → x ∈ xs → ⊥
not_member x xs e m = let q = in_member x xs m in let z : ◌≡◌ {A = ℕ} 0 1 = cc in omega arith

module _ {t : List ℕ} {w at x r : ℕ} (G : Goes t w at x r) {y : ℕ} where
  pub member_here : x ≡ y → member y (list_at t w at x) ≡ true
  member_here e = ap (member y) G.list ∙ ap (λ b. pick b true (member y (list_at t w at r))) (eq-eqb x y e)

  pub member_on : x ≢ y → member y (list_at t w at x) ≡ member y (list_at t w at r)
  member_on n = ap (member y) G.list ∙ ap (λ b. pick b true (member y (list_at t w at r))) (ne_eqb x y n)

  pub before_on : (p : ℕ) → x ≢ y → before y p (list_at t w at x) ≡ before y x (list_at t w at r)
  before_on p n = ap (before y p) G.list ∙ ap (λ b. pick b p (before y x (list_at t w at r))) (ne_eqb x y n)

  pub still_there : x ≢ y → y ∈ list_at t w at x → y ∈ list_at t w at r
  still_there n m =
      ⊎_elim (λ (e : y ≡ x). absurd (n (sym e))) (λ (k : y ∈ list_at t w at r). k) (subst (λ l. y ∈ l) G.list m)

pub member_found : {t : List ℕ} {w at x y : ℕ} → Ends t w at x → x ≢ 0 → x ≡ y → true ≡ member y (list_at t w at x)
member_found E n e = sym (member_here (goes E n refl) e)

pub member_none : {t : List ℕ} {w at x : ℕ} (y : ℕ) → Ends t w at x → x ≡ 0 → false ≡ member y (list_at t w at x)
member_none {t} {w} {at} {x} y E e = ap (member y) (sym (stops t w at x e))

first_here : (y p : ℕ) (xs : List ℕ) (next : ℕ → ℕ) (x : ℕ) → Links next x xs → y ∈ xs → x ≡ y → before y p xs ≡ p
first_here y p [] next x l m e = elim m [ ]
first_here y p (a ∷ xs) next x l m e = ap (λ b. pick b p (before y a xs)) (eq-eqb a y (sym l.0 ∙ e))

-- y first: nothing before it but p
pub before_here : {t : List ℕ} {w at x y : ℕ} (p : ℕ) → Ends t w at x → y ∈ list_at t w at x → x ≡ y → before y p (list_at t w at x) ≡ p
before_here {t} {w} {at} {x} {y} p E m e = first_here y p (list_at t w at x) (link_at t w at) x E.links m e

-- a list that holds an entry does not start at 0
pub not_ended : {t : List ℕ} {w at x : ℕ} (y : ℕ) → Ends t w at x → y ∈ list_at t w at x → x ≢ 0
not_ended {t} {w} {at} {x} y E m e = subst (λ l. y ∈ l) (stops t w at x e) m

-- ---- keys

-- a word of a part is a word of the whole
pub word_part : (t : List ℕ) (a n i : ℕ) → i + 4 ≤ n → word (take n (drop a t)) i ≡ word t (a + i)
unfolding word
word_part t a n i h =
    let g : (j : ℕ) → j < n → get_or (take n (drop a t)) j 0 ≡ get_or t (a + j) 0 = λ j l. rw (get_or-take, get_or-drop) in
    let g0 : get_or (take n (drop a t)) i 0 ≡ get_or t (a + i) 0 = g i (omega arith) in
    let g1 : get_or (take n (drop a t)) (i + 1) 0 ≡ get_or t (a + (i + 1)) 0 = g (i + 1) (omega arith) in
    let g2 : get_or (take n (drop a t)) (i + 2) 0 ≡ get_or t (a + (i + 2)) 0 = g (i + 2) (omega arith) in
    let g3 : get_or (take n (drop a t)) (i + 3) 0 ≡ get_or t (a + (i + 3)) 0 = g (i + 3) (omega arith) in
    let e1 : a + (i + 1) ≡ a + i + 1 = omega arith in
    let e2 : a + (i + 2) ≡ a + i + 2 = omega arith in
    let e3 : a + (i + 3) ≡ a + i + 3 = omega arith in
    cc

-- the key of an entry's own part is the key among its fields
pub key_part : (w : ℕ) (t : List ℕ) (x a : ℕ) → a ≡ x * w → 24 ≤ w → key_of (take (a + w - a) (drop a t)) ≡ key_at (field w t) x
unfolding field
key_part w t x a e h =
    let n : a + w - a ≡ w = omega arith in
    let k0 : word (take w (drop a t)) 0 ≡ word t (a + 0) = word_part t a w 0 (omega arith) in
    let k1 : word (take w (drop a t)) 4 ≡ word t (a + 4) = word_part t a w 4 (omega arith) in
    let k2 : word (take w (drop a t)) 8 ≡ word t (a + 8) = word_part t a w 8 (omega arith) in
    let k3 : word (take w (drop a t)) 12 ≡ word t (a + 12) = word_part t a w 12 (omega arith) in
    let k4 : word (take w (drop a t)) 16 ≡ word t (a + 16) = word_part t a w 16 (omega arith) in
    ap (λ z. key_of (take z (drop a t))) n ∙ cc

module _ {t : List ℕ} {w x r : ℕ} (G : Goes t w (w - 4) x r) (k : List ℕ) (n : ℕ) (hit : Bool) (e : hit ≡ same_key (key_at (field w t) x) k) where
  pub seek_hit : hit ≡ true → record { inode = x; compared = n + 1 } ≡ seek_in (key_at (field w t)) k (list_at t w (w - 4) x) n
  seek_hit h =
      sym (ap (λ l. seek_in (key_at (field w t)) k l n) G.list
      ∙ ap (λ b. pick b (record { inode = x; compared = n + 1 }) (seek_in (key_at (field w t)) k (list_at t w (w - 4) r) (n + 1))) (sym e ∙ h))

  pub seek_miss : hit ≡ false → seek_in (key_at (field w t)) k (list_at t w (w - 4) r) (n + 1) ≡ seek_in (key_at (field w t)) k (list_at t w (w - 4) x) n
  seek_miss h =
      sym (ap (λ l. seek_in (key_at (field w t)) k l n) G.list
      ∙ ap (λ b. pick b (record { inode = x; compared = n + 1 }) (seek_in (key_at (field w t)) k (list_at t w (w - 4) r) (n + 1))) (sym e ∙ h))

pub seek_end : {t : List ℕ} {w x : ℕ} (k : List ℕ) (n : ℕ) → Ends t w (w - 4) x → x ≡ 0 → record { inode = 0; compared = n } ≡ seek_in (key_at (field w t)) k (list_at t w (w - 4) x) n
seek_end {t} {w} {x} k n E e = ap (λ l. seek_in (key_at (field w t)) k l n) (sym (stops t w (w - 4) x e))

pub fits_index : {t : List ℕ} {w at x : ℕ} (i : ℕ) → Ends t w at x → x ≢ 0 → i ≡ x → i * w + w ≤ length t
fits_index {t} {w} {at} {x} i E n e = subst (λ z. z * w + w ≤ length t) (sym e) (fits_at E n)

-- the entry's own part, at a start that is i * w
pub part_key : (t : List ℕ) (w : ℕ) {x i : ℕ} (k : List ℕ) {r : Bool} → i ≡ x → 24 ≤ w → r ≡ same_key (key_of (take (i * w + w - i * w) (drop (i * w) t))) k
    → r ≡ same_key (key_at (field w t) x) k
part_key t w {x} {i} k {r} e h q = q ∙ ap (λ l. same_key l k) (key_part w t x (i * w) (ap (λ z. z * w) e) h)

-- ---- a list written to the front of another

-- i entries are written, and the rest of the list starts at x
pub record Writing (t : List ℕ) (w at first : ℕ) (old l : List ℕ) (x i : ℕ) : Type 0 where
  pub on : Ends t w at x
  pub left : i + length (list_at t w at x) ≡ length (list_at t w at first)
  pub room : length (list_at t w at first) ≤ length old
  pub same : length l ≡ length old
  pub done : take i l ++ list_at t w at x ≡ list_at t w at first
  pub past : drop i l ≡ drop i old

pub write_begin : {t : List ℕ} {w at first : ℕ} {old : List ℕ} → Ends t w at first → length (list_at t w at first) ≤ length old → Writing t w at first old old first 0
write_begin E h = record { on = E; left = omega arith; room = h; same = refl; done = refl; past = refl }

module _ {t : List ℕ} {w at first : ℕ} {old l : List ℕ} {x i : ℕ} (W : Writing t w at first old l x i) where
  pub write_fits : x ≢ 0 → i < length l
  write_fits n = omega (arith, (goes W.on n refl).less, W.left, W.room, W.same)

  pub write_step : {r : ℕ} → x ≢ 0 → r ≡ link_at t w at x → Writing t w at first old (set l i x) r (i + 1)
  write_step {r} n e =
      let G = goes W.on n e in
      let h : i < length l = write_fits n in
      record {
        on = G.rest;
        left = omega (arith, G.less, W.left);
        room = W.room;
        same = length-set l i x ∙ W.same;
        done =
            ap (λ z. take z (set l i x) ++ list_at t w at r) (add-one i)
            ∙ ap (λ z. z ++ list_at t w at r) (take-suc-set l i x h)
            ∙ append_assoc (take i l) (x ∷ []) (list_at t w at r)
            ∙ ap (λ z. take i l ++ z) (sym G.list)
            ∙ W.done;
        past =
            drop-set-lt (i + 1) l i x (omega arith)
            ∙ sym (drop-drop 1 i l) ∙ ap (drop 1) W.past ∙ drop-drop 1 i old;
      }

  pub write_end : x ≡ 0 → l ≡ list_at t w at first ++ drop (length (list_at t w at first)) old
  write_end z =
      let s : list_at t w at x ≡ [] = stops t w at x z in
      let k : i ≡ length (list_at t w at first) = omega (arith, W.left, ap length s) in
      sym (take-append-drop i l)
      ∙ ap₂ (λ a b. a ++ b) (sym (append-nil (take i l)) ∙ ap (λ z. take i l ++ z) (sym s) ∙ W.done) (W.past ∙ ap (λ z. drop z old) k)
