-- A bucket's entries have no equal key behind them exactly if the keys at its places differ pairwise.
use mathlib.Core.Path.{◌≡◌, refl, sym, ap, ◌∙◌, subst}
use mathlib.Core.List.{List, [], ◌∷◌, ◌++◌}
use mathlib.Core.Logic.{inl, inr, ⊎_elim, ◌≢◌}
use mathlib.Core.Bool.{Bool, true, false, false≢true}
use Prim.Native.Nat.{ℕ, zero, suc, ◌+◌, ◌-◌, ◌/◌, ◌≤◌, ◌<◌}
use native.Mathlib.Omega.{arith}
use borrow.Author.Tests.{lt-ltb, le-ltb}
use lib.ListN.{length, get_or, take, drop, replicate, get_or-replicate, length-append}
use lib.Seq.{take_at}
use Rattle.links.specs.Links.{◌∈◌, Links}
use Rattle.tree_table.specs.Field.{field}
use Rattle.tree_table.specs.View.{key_at, hash_at}
use Rattle.tree_table.specs.Chain.{link_at, list_at, Ends}
use Rattle.tree_table.proofs.Chain.{goes, stops}
use Rattle.order.specs.Tells.{Tells}
use Rattle.tree_marks.specs.Inner.Marks.{gone, mark_at, Within, ListMarked}
use Rattle.tree_marks.specs.Inner.Gather.{bucket_at}
use Rattle.tree_marks.proofs.Walks.{le_or_lt, within_trans}
use Rattle.tree_marks.proofs.Parts.{patched, part_within, part_mark, part_room}
use Rattle.tree_marks.proofs.Gathering.{Checking, check_begin, check_on, check_stop, check_done}
use Rattle.tree_sort.specs.Inner.Sort.{Inside, Different}
use Rattle.tree_apart.specs.Inner.Apart.{Apart, few, AllApart, far, Bounded, NoneFar, FarApart, Wiped, Sifted}

-- ---- places and members

pub placed : (xs : List ℕ) (z : ℕ) → z ∈ xs → (j : ℕ) × (j < length xs) × (get_or xs j 0 ≡ z)
placed [] z x' = elim x' [ ]
placed (y ∷ ys) z (inl e) = (0, omega arith, sym e)
placed (y ∷ ys) z (inr m) = let p = placed ys z m in (suc p.0, (let h : p.0 < length ys = p.1 in omega arith), p.2)

pub member : (xs : List ℕ) (j : ℕ) → j < length xs → get_or xs j 0 ∈ xs
member [] j h = absurd (omega arith)
member (y ∷ ys) zero h = inl refl
member (y ∷ ys) (suc j) h = inr (member ys j (omega arith))

-- ---- the two ways to say it

module _ (t : List ℕ) (w : ℕ) where
  abbrev key : ℕ → List ℕ
  key = key_at (field w t)

  abbrev walk : ℕ → List ℕ
  walk x = list_at t w (w - 4) x

  abbrev next : ℕ → ℕ
  next = link_at t w (w - 4)

  record Step (x a : ℕ) (ys : List ℕ) : Type 0 where
    ends : Ends t w (w - 4) (next x)
    here : a ≡ x
    rest : walk (next x) ≡ ys

  step : (x a : ℕ) (ys : List ℕ) → Ends t w (w - 4) x → walk x ≡ a ∷ ys → Step x a ys
  step x a ys E e =
      let n : x ≢ 0 = λ z. (let q : ◌≡◌ {A = List ℕ} [] (a ∷ ys) = sym (stops t w (w - 4) x z) ∙ e in let y : ◌≡◌ {A = ℕ} 0 1 = cc in omega arith) in
      let G = goes E n refl in
      let q : x ∷ walk (next x) ≡ a ∷ ys = sym G.list ∙ e in
      record { ends = G.rest; here = cc; rest = cc }

  shifted : (a : ℕ) (ys : List ℕ) → Different key (a ∷ ys) → Different key ys
  shifted a ys D i j h l e = D (suc i) (suc j) (omega arith) (omega arith) e

  to_apart : (xs : List ℕ) (x : ℕ) → Ends t w (w - 4) x → walk x ≡ xs → Different key xs → (y : ℕ) → y ∈ xs → Apart t w y
  to_apart [] x E e D y x8 z m q = elim x8 [ ]
  to_apart (a ∷ ys) x E e D y (inl p) z m q =
      let S = step x a ys E e in
      let k : z ∈ ys = subst (λ l. z ∈ l) (ap (λ u. walk (next u)) (p ∙ S.here) ∙ S.rest) m in
      let f = placed ys z k in
      let l : f.0 < length ys = f.1 in
      D 0 (suc f.0) (omega arith) (omega arith) (ap key (sym p) ∙ sym q ∙ ap key (sym f.2))
  to_apart (a ∷ ys) x E e D y (inr m) z k q = let S = step x a ys E e in to_apart ys (next x) S.ends S.rest (shifted a ys D) y m z k q

  to_different : (xs : List ℕ) (x : ℕ) → Ends t w (w - 4) x → walk x ≡ xs → ((y : ℕ) → y ∈ xs → Apart t w y) → Different key xs
  to_different [] x E e A i j h l q = omega arith
  to_different (a ∷ ys) x E e A zero zero h l q = omega arith
  to_different (a ∷ ys) x E e A zero (suc j) h l q =
      let S = step x a ys E e in
      A a (inl refl) (get_or ys j 0) (subst (λ u. get_or ys j 0 ∈ u) (sym (ap (λ u. walk (next u)) S.here ∙ S.rest)) (member ys j (omega arith))) (sym q)
  to_different (a ∷ ys) x E e A (suc i) zero h l q = omega arith
  to_different (a ∷ ys) x E e A (suc i) (suc j) h l q =
      let S = step x a ys E e in to_different ys (next x) S.ends S.rest (λ y m. A y (inr m)) i j (omega arith) (omega arith) q

  pub all_apart : (x : ℕ) {r : Bool} → Ends t w (w - 4) x → Tells (Different key (walk x)) r → Tells (AllApart t w x) r
  all_apart x E T = record {
    yes = λ e. record { each = to_apart (walk x) x E refl (T.yes e) };
    only = λ A. T.only (to_different (walk x) x E refl A.each);
  }

  pub list_inside : (x : ℕ) → Ends t w (w - 4) x → 24 ≤ w → Inside t w (walk x)
  list_inside x E h = record { wide = h; fits = λ i l. E.inside (get_or (walk x) i 0) (member (walk x) i l) }

-- the part of the room that holds the list
pub front_is : (xs rest l : List ℕ) (n : ℕ) → l ≡ xs ++ rest → n ≡ length xs → take n l ≡ xs
front_is xs rest l n e q = ap (take n) e ∙ take_at xs rest n (sym q)

-- ---- long or not

pub far_yes : (t : List ℕ) (w first : ℕ) → few < length (list_at t w (w - 4) first) → true ≡ far t w first
unfolding far
far_yes t w first h = sym (lt-ltb few (length (list_at t w (w - 4) first)) h)

pub far_no : (t : List ℕ) (w first : ℕ) → length (list_at t w (w - 4) first) ≤ few → false ≡ far t w first
unfolding far
far_no t w first h = sym (le-ltb few (length (list_at t w (w - 4) first)) h)

-- ---- bucket by bucket

-- the buckets before i were seen
pub record Seeing (h : List ℕ) (P : ℕ → Type 0) (buckets i : ℕ) : Type 0 where
  pub whole : buckets ≡ length h / 4
  pub most : i ≤ buckets + 1
  pub seen : Checking P i

pub see_begin : (h : List ℕ) (P : ℕ → Type 0) → Seeing h P (length h / 4) 1
see_begin h P = record { whole = refl; most = omega arith; seen = check_begin P }

module _ (h : List ℕ) (P : ℕ → Type 0) {buckets i : ℕ} (S : Seeing h P buckets i) where
  pub see_on : {r : Bool} → i ≤ buckets → Tells (P i) r → r ≡ true → Seeing h P buckets (i + 1)
  see_on l T e = record { whole = S.whole; most = omega arith; seen = check_on S.seen T e }

  pub see_stop : {r : Bool} → i ≤ buckets → Tells (P i) r → r ≡ false → Tells ((j : ℕ) → 0 < j → j < length h / 4 + 1 → P j) false
  see_stop l T e = check_stop S.seen (omega (arith, S.whole)) T e

  pub see_end : buckets < i → Tells ((j : ℕ) → 0 < j → j < length h / 4 + 1 → P j) true
  see_end l = check_done S.seen (omega (arith, S.whole))

-- bucket b, counted from 0, is number b + 1
pub numbered : (h : List ℕ) (b : ℕ) {x : ℕ} → x ≡ hash_at h b → x ≡ bucket_at h (b + 1)
numbered h b e = e ∙ ap (hash_at h) (omega arith)

-- what is asked of bucket j
abbrev pub Right : List ℕ → List ℕ → ℕ → ℕ → Type 0
Right h t w j = far t w (bucket_at h j) ≡ true → AllApart t w (bucket_at h j)

abbrev pub Near : List ℕ → List ℕ → ℕ → ℕ → Type 0
Near h t w j = far t w (bucket_at h j) ≡ false

pub right_at : (h t : List ℕ) (w i : ℕ) {first : ℕ} {r : Bool} → first ≡ bucket_at h i → Tells (far t w first ≡ true → AllApart t w first) r → Tells (Right h t w i) r
right_at h t w i {first} {r} e T = subst (λ x. Tells (far t w x ≡ true → AllApart t w x) r) e T

pub far_right : {h t : List ℕ} {w : ℕ} {r : Bool} → Tells ((j : ℕ) → 0 < j → j < length h / 4 + 1 → Right h t w j) r → Tells (FarApart h t w) r
far_right T = record { yes = λ e. record { right = T.yes e }; only = λ F. T.only F.right }

pub none_right : {h t : List ℕ} {w : ℕ} {r : Bool} → Tells ((j : ℕ) → 0 < j → j < length h / 4 + 1 → Near h t w j) r → Tells (NoneFar h t w) r
none_right T = record { yes = λ e. record { near = T.yes e }; only = λ F. T.only F.near }

pub near_yes : (h t : List ℕ) (w i : ℕ) {first : ℕ} {r : Bool} → first ≡ bucket_at h i → r ≡ far t w first → r ≡ false → Tells (Near h t w i) true
near_yes h t w i {first} e q f = record { yes = λ _. ap (far t w) (sym e) ∙ sym q ∙ f; only = λ _. refl }

pub near_no : (h t : List ℕ) (w i : ℕ) {first : ℕ} {r : Bool} → first ≡ bucket_at h i → r ≡ far t w first → r ≡ true → Tells (Near h t w i) false
near_no h t w i {first} e q f = record { yes = λ z. absurd (false≢true z); only = λ n. absurd (false≢true (sym n ∙ ap (far t w) (sym e) ∙ sym q ∙ f)) }

pub bucket_ends : {h t : List ℕ} {w room i first : ℕ} → Bounded h t w room → first ≡ bucket_at h i → 0 < i → i < length h / 4 + 1 → Ends t w (w - 4) first
bucket_ends {t = t} {w = w} B e p l = subst (λ x. Ends t w (w - 4) x) (sym e) (B.ends _ p l)

pub bucket_short : {h t : List ℕ} {w room i first : ℕ} → Bounded h t w room → first ≡ bucket_at h i → 0 < i → i < length h / 4 + 1 → length (list_at t w (w - 4) first) ≤ room
bucket_short {t = t} {w = w} {room = room} B e p l = subst (λ x. length (list_at t w (w - 4) x) ≤ room) (sym e) (B.short _ p l)

-- ---- the places of the marks

module _ (work mid : List ℕ) (off count k : ℕ) (h : off + count ≤ length work) (ek : k ≡ count) (e : length mid ≡ k) where
  pub part_wiped : (n : ℕ) → n ≡ k → mid ≡ replicate n 0 → Wiped off count work (patched work off k mid)
  part_wiped n en em = record {
    zeros = λ y l. part_mark work mid off count k h ek e y l ∙ ap (λ m. get_or m y 0) em ∙ get_or-replicate n y 0 0 (omega arith);
    within = part_within work mid off count k h ek e;
  }

-- ---- the whole

module _ {h t : List ℕ} {w count off : ℕ} {work w1 : List ℕ} {r1 : Bool} (A : Tells (FarApart h t w) r1 × Within off count work w1) where
  pub sift_stop : r1 ≡ false → Sifted h t w count off work w1 false
  sift_stop e = record {
    good = λ q. absurd (false≢true q);
    bad = λ _ F R l b. absurd (false≢true (sym e ∙ A.0.only F));
    within = A.1;
  }

  module _ (e1 : r1 ≡ true) (out : (y : ℕ) → count ≤ y → mark_at work off y ≡ 0) {w2 : List ℕ} (Z : Wiped off count w1 w2) where
    zeros : (y : ℕ) → mark_at w2 off y ≡ 0
    zeros y = ⊎_elim (λ (k : count ≤ y). Z.within.behind (off + y) (omega arith) ∙ A.1.behind (off + y) (omega arith) ∙ out y k) (λ (k : y < count). Z.zeros y k) (le_or_lt count y)

    pub sift_end : {w3 : List ℕ} {first : ℕ} {r : Bool} → first ≡ link_at t w (w - 4) 0 → ListMarked (link_at t w (w - 4)) count first gone off w2 w3 r → Sifted h t w count off work w3 r
    sift_end {w3} {first} {r} ef L = record {
      good = λ e.
          let g = L.good e in (
            A.0.yes e1,
            (
              g.0,
              record {
                links = subst (λ x. Links (link_at t w (w - 4)) x g.0) ef g.1;
                below = λ y m. (g.2 y m).0;
                dead = g.3.marked;
                others = λ y n. g.3.others y n ∙ zeros y;
              },
            ),
          );
      bad = λ e F R l b. L.bad e R (subst (λ x. Links (link_at t w (w - 4)) x R) (sym ef) l) (λ y m. (b y m, zeros y));
      within = within_trans A.1 (within_trans Z.within L.within);
    }

-- ---- what the code holds

module _ (t : List ℕ) (w x : ℕ) (rest : List ℕ) {n : ℕ} {l : List ℕ} (e : l ≡ list_at t w (w - 4) x ++ rest) (q : n ≡ length (list_at t w (w - 4) x)) (E : Ends t w (w - 4) x) where
  held : take n l ≡ list_at t w (w - 4) x
  held = front_is (list_at t w (w - 4) x) rest l n e q

  pub held_inside : 24 ≤ w → Inside t w (take n l)
  held_inside h = subst (λ m. Inside t w m) (sym held) (list_inside t w x E h)

  pub held_tells : {r : Bool} → Tells (Different (key_at (field w t)) (take n l)) r → Tells (AllApart t w x) r
  held_tells {r} T = all_apart t w x E (subst (λ m. Tells (Different (key_at (field w t)) m) r) held T)

  pub held_fits : n ≤ length l
  held_fits = omega (arith, ap length e, length-append (list_at t w (w - 4) x) rest)

pub part_bounded : {h t : List ℕ} {w count : ℕ} (work : List ℕ) (off i : ℕ) → i ≡ count → off + count ≤ length work → Bounded h t w count → Bounded h t w (length (take (off + i - off) (drop off work)))
part_bounded {h} {t} {w} {count} work off i e l B = subst (λ n. Bounded h t w n) (sym (part_room work off i count e l)) B
