-- A stretch of blocks put in or taken out: in one word, in whole words, and piece by piece.
use mathlib.Core.Path.{◌≡◌, refl, sym, ap, subst, ◌∙◌}
use mathlib.Core.List.{List, ◌++◌}
use mathlib.Core.Bool.{Bool, true, false, cond, ◌&&◌}
use mathlib.Core.Logic.{◌⊎◌, inl, inr, ⊎_elim}
use Prim.Native.Nat.{ℕ, zero, suc, ◌+◌, ◌-◌, ◌*◌, ◌/◌, ◌%◌, ◌^◌, ◌≤◌, ◌<◌}
use native.Mathlib.Omega.{arith}
use lib.Dec.{leb, ltb}
use lib.ListN.{length, get_or, set, take, drop, replicate, length-set}
use lib.Seq.{paste}
use borrow.Rule.Slice.PartMut.{put_mid, post_of, Post-is}
use Rattle.std.proofs.lemmas.List.{length-take-le, length-drop, length-replicate}
use Rattle.std.proofs.lemmas.List.Edits.{paste_none, paste_all, fill_from_more}
use borrow.Author.Tests.{lt-ltb, le-ltb, le-leb, lt-leb}
use Rattle.map_bits.specs.Bits.{word, words_from}
use Rattle.map_bits.specs.Inner.Turns.{between, Turned, Turn, Turnable}
use Rattle.map_bits.proofs.Words.{le_or_lt, word_same, word_add, word_none, word_all, word_less, word_part, get_words, words_same, set_words}

-- between ------------------------------------------------------------------------------------------------------------

module _ (lo hi x : ℕ) where
  pub between_in : lo ≤ x → x < hi → between lo hi x ≡ 1
  unfolding between
  between_in h k = rw (le-leb _ _ h, lt-ltb _ _ k)

  pub between_lo : x < lo → between lo hi x ≡ 0
  unfolding between
  between_lo h = rw (lt-leb _ _ h)

  pub between_hi : hi ≤ x → between lo hi x ≡ 0
  unfolding between
  between_hi h = go (leb lo x)
    where
      go : (t : Bool) → cond {A = ℕ} (t && ltb x hi) 1 0 ≡ 0
      go true = rw (le-ltb _ _ h)
      go false = refl

  pub between_most : between lo hi x ≤ 1
  unfolding between
  between_most = go (leb lo x && ltb x hi)
    where
      go : (t : Bool) → cond {A = ℕ} t 1 0 ≤ 1
      go true = omega arith
      go false = omega arith

pub between_none : (a x : ℕ) → between a a x ≡ 0
between_none a x = ⊎_elim (λ h. between_hi a a x h) (λ h. between_lo a a x h) (le_or_lt a x)

pub between_split : (lo m hi x : ℕ) → lo ≤ m → m ≤ hi → between lo m x + between m hi x ≡ between lo hi x
between_split lo m hi x p q = ⊎_elim
    (λ h. ⊎_elim
    (λ k. omega (arith, between_hi lo m x (omega arith), between_hi m hi x k, between_hi lo hi x k))
    (λ k. omega (arith, between_hi lo m x h, between_in m hi x h k, between_in lo hi x (omega arith) k))
    (le_or_lt hi x))
    (λ h. ⊎_elim
    (λ k. omega (arith, between_in lo m x k h, between_lo m hi x h, between_in lo hi x k (omega arith)))
    (λ k. omega (arith, between_lo lo m x k, between_lo m hi x h, between_lo lo hi x k))
    (le_or_lt lo x))
    (le_or_lt m x)

-- one word -----------------------------------------------------------------------------------------------------------

-- a word a that becomes b, by the bits m
abbrev pub Word : Bool → (a b m : ℕ) → Type 0
Word true a b m = b ≡ a + m
Word false a b m = a ≡ b + m

module _ (b lo hi m : ℕ) (p : lo ≤ hi) (q : hi ≤ 32) (e : m + 2 ^ lo ≡ 2 ^ hi) where
  mask_word : word 32 b (between (b + lo) (b + hi)) ≡ m
  mask_word =
      let z : word 32 b (between (b + lo) (b + hi)) + 2 ^ lo ≡ 2 ^ hi =
      word_part 32 b lo hi (between (b + lo) (b + hi)) p q (λ x u v. between_lo (b + lo) (b + hi) x v) (λ x u v. between_in (b + lo) (b + hi) x u v)
      (λ x u v. between_hi (b + lo) (b + hi) x u) in
      omega arith

  sum_word : (c d : ℕ → ℕ) → ((x : ℕ) → d x ≡ c x + between (b + lo) (b + hi) x) → word 32 b d ≡ word 32 b c + m
  sum_word c d h =
      let w : word 32 b d ≡ word 32 b (λ x. c x + between (b + lo) (b + hi) x) = word_same 32 b d (λ x. c x + between (b + lo) (b + hi) x) (λ x u v. h x) in
      let s : word 32 b (λ x. c x + between (b + lo) (b + hi) x) ≡ word 32 b c + word 32 b (between (b + lo) (b + hi)) =
      word_add 32 b c (between (b + lo) (b + hi)) in
      omega (arith, w, s, mask_word)

  turned_word : (on : Bool) (c d : ℕ → ℕ) → Turned on c d (b + lo) (b + hi) → Word on (word 32 b c) (word 32 b d) m
  turned_word true c d h = sum_word c d h
  turned_word false c d h = sum_word d c h

outside : (on : Bool) (c d : ℕ → ℕ) (lo hi x : ℕ) → Turned on c d lo hi → (x < lo) ⊎ (hi ≤ x) → c x ≡ d x
outside true c d lo hi x h = ⊎_elim (λ k. omega (arith, h x, between_lo lo hi x k)) (λ k. omega (arith, h x, between_hi lo hi x k))
outside false c d lo hi x h = ⊎_elim (λ k. omega (arith, h x, between_lo lo hi x k)) (λ k. omega (arith, h x, between_hi lo hi x k))

value : (on : Bool) (a b m v : ℕ) → Word on a b m → v ≡ cond on (a + m) (a - m) → v ≡ b
value true a b m v w e = omega arith
value false a b m v w e = omega arith

word_fits : (on : Bool) (a b m : ℕ) → Word on a b m → on ≡ true → b < 4294967296 → a + m < 4294967296
word_fits true a b m w e h = omega arith
word_fits false a b m w e h = let z : ◌≡◌ {A = ℕ} 0 1 = cc in omega arith

word_holds : (on : Bool) (a b m : ℕ) → Word on a b m → on ≡ false → m ≤ a
word_holds true a b m w e = let z : ◌≡◌ {A = ℕ} 0 1 = cc in omega arith
word_holds false a b m w e = omega arith

module _ (on : Bool) (map : List ℕ) (i lo hi w m : ℕ) (p : lo < hi) (q : hi ≤ 32) (e : m + 2 ^ lo ≡ 2 ^ hi) (g : w ≡ get_or map i 0) where
  module _ (c d : ℕ → ℕ) (t : Turn on map c d (32 * i + lo) (32 * i + hi)) where
    here : i < length map
    here = omega (arith, t.fits)

    got : w ≡ word 32 (32 * i) c
    got =
        let z : get_or (words_from (length map) 0 c) i 0 ≡ word 32 (0 + 32 * i) c = get_words (length map) 0 i c here in
        g ∙ ap (λ (l : List ℕ). get_or l i 0) t.shows ∙ z ∙ ap (λ (x : ℕ). word 32 x c) (omega arith)

    turns : Word on w (word 32 (32 * i) d) m
    turns =
        subst (λ (x : ℕ). Word on x (word 32 (32 * i) d) m) (sym got)
        (turned_word (32 * i) lo hi m (omega arith) q e on c d t.turned)

    pub part_fits : on ≡ true → w + m < 4294967296
    part_fits o =
        let z : word 32 (32 * i) d < 4294967296 = word_less 32 (32 * i) d t.is in
        word_fits on w (word 32 (32 * i) d) m turns o z

    pub part_holds : on ≡ false → m ≤ w
    part_holds o = word_holds on w (word 32 (32 * i) d) m turns o

    pub part_done : (v : ℕ) → v ≡ cond on (w + m) (w - m) → set map i v ≡ words_from (length map) 0 d
    part_done v ev =
        ap (λ (l : List ℕ). set l i v) t.shows
        ∙ set_words (length map) 0 i v c d here (value on w (word 32 (32 * i) d) m v turns ev ∙ ap (λ (x : ℕ). word 32 x d) (omega arith))
        (λ x u z. outside on c d (32 * i + lo) (32 * i + hi) x t.turned (inl (omega arith)))
        (λ x u z. outside on c d (32 * i + lo) (32 * i + hi) x t.turned (inr (omega arith)))

  pub part_room : Turnable on map (32 * i + lo) (32 * i + hi) → i < length map
  part_room t = here t.from t.to t.turn

  pub part_over : Turnable on map (32 * i + lo) (32 * i + hi) → on ≡ true → w + m < 4294967296
  part_over t = part_fits t.from t.to t.turn

  pub part_under : Turnable on map (32 * i + lo) (32 * i + hi) → on ≡ false → m ≤ w
  part_under t = part_holds t.from t.to t.turn

  pub part_turned : (v : ℕ) → v ≡ cond on (w + m) (w - m) → (c d : ℕ → ℕ) → Turn on map c d (32 * i + lo) (32 * i + hi) → set map i v ≡ words_from (length map) 0 d
  part_turned v ev c d t = part_done c d t v ev

-- a stretch of no block
empty_same : (on : Bool) (c d : ℕ → ℕ) (lo hi x : ℕ) → hi ≤ lo → Turned on c d lo hi → c x ≡ d x
empty_same on c d lo hi x h t = outside on c d lo hi x t (⊎_elim (λ k. inr (omega arith)) (λ k. inl k) (le_or_lt lo x))

pub part_none : (on : Bool) (map : List ℕ) (a b : ℕ) → b ≤ a → (c d : ℕ → ℕ) → Turn on map c d a b → map ≡ words_from (length map) 0 d
part_none on map a b h c d t = t.shows ∙ words_same (length map) 0 c d (λ x u v. empty_same on c d a b x h t.turned)

-- piece by piece -----------------------------------------------------------------------------------------------------

-- the set on the way from c to d, once the blocks below e are turned
abbrev pub mid : (on : Bool) (c d : ℕ → ℕ) (lo hi e : ℕ) → ℕ → ℕ
mid true c d lo hi e = λ x. c x + between lo e x
mid false c d lo hi e = λ x. d x + between e hi x

module _ (c d : ℕ → ℕ) (lo hi : ℕ) where
  mid_turned : (on : Bool) (a b : ℕ) → Turned on c d lo hi → lo ≤ a → a ≤ b → b ≤ hi → Turned on (mid on c d lo hi a) (mid on c d lo hi b) a b
  mid_turned true a b t p q r = λ x. omega (arith, between_split lo a b x p q)
  mid_turned false a b t p q r = λ x. omega (arith, between_split a b hi x q r)

  mid_most : (on : Bool) (a x : ℕ) → Turned on c d lo hi → ((x : ℕ) → c x ≤ 1) → ((x : ℕ) → d x ≤ 1) → lo ≤ a → a ≤ hi → mid on c d lo hi a x ≤ 1
  mid_most true a x t hc hd p q = omega (arith, t x, hd x, between_split lo a hi x p q)
  mid_most false a x t hc hd p q = omega (arith, t x, hc x, between_split lo a hi x p q)

  mid_begin : (on : Bool) (a x : ℕ) → Turned on c d lo hi → a ≡ lo → mid on c d lo hi a x ≡ c x
  mid_begin true a x t e = let z : between lo a x ≡ 0 = rw e (between_none lo x) in omega arith
  mid_begin false a x t e = let z : between a hi x ≡ between lo hi x = rw e in omega (arith, t x)

  mid_end : (on : Bool) (a x : ℕ) → Turned on c d lo hi → a ≡ hi → mid on c d lo hi a x ≡ d x
  mid_end true a x t e = let z : between lo a x ≡ between lo hi x = rw e in omega (arith, t x)
  mid_end false a x t e = let z : between a hi x ≡ 0 = rw e (between_none hi x) in omega arith

-- the map shows that set, whatever c and d are
pub record Staged (on : Bool) (map₀ map : List ℕ) (lo hi a : ℕ) : Type 0 where
  pub long : length map ≡ length map₀
  pub from : lo ≤ a
  pub to : a ≤ hi
  pub each : (c d : ℕ → ℕ) → Turn on map₀ c d lo hi → map ≡ words_from (length map₀) 0 (mid on c d lo hi a)

pub staged_begin : (on : Bool) (map : List ℕ) (lo hi a : ℕ) → a ≡ lo → lo ≤ hi → Staged on map map lo hi a
staged_begin on map lo hi a e h = record {
  long = refl;
  from = omega arith;
  to = omega arith;
  each = λ c d t. t.shows ∙ words_same (length map) 0 c (mid on c d lo hi a) (λ x u v. sym (mid_begin c d lo hi on a x t.turned e));
}

module _ (on : Bool) (map₀ map : List ℕ) (lo hi a : ℕ) (s : Staged on map₀ map lo hi a) where
  pub staged_turn : (b : ℕ) → a ≤ b → b ≤ hi → (c d : ℕ → ℕ) → Turn on map₀ c d lo hi → Turn on map (mid on c d lo hi a) (mid on c d lo hi b) a b
  staged_turn b p q c d t = record {
    shows = s.each c d t ∙ ap (λ (n : ℕ). words_from n 0 (mid on c d lo hi a)) (sym s.long);
    turned = mid_turned c d lo hi on a b t.turned s.from p q;
    was = λ x. mid_most c d lo hi on a x t.turned t.was t.is s.from s.to;
    is = λ x. mid_most c d lo hi on b x t.turned t.was t.is (omega (arith, s.from)) q;
    order = p;
    fits = omega (arith, t.fits, s.long);
  }

  pub staged_turnable : Turnable on map₀ lo hi → (b : ℕ) → a ≤ b → b ≤ hi → Turnable on map a b
  staged_turnable t b p q = record {
    from = mid on t.from t.to lo hi a;
    to = mid on t.from t.to lo hi b;
    turn = staged_turn b p q t.from t.to t.turn;
  }

  pub staged_next : (map' : List ℕ) (b : ℕ) → a ≤ b → b ≤ hi → length map' ≡ length map
      → ((c d : ℕ → ℕ) → Turn on map c d a b → map' ≡ words_from (length map) 0 d) → Staged on map₀ map' lo hi b
  staged_next map' b p q l h = record {
    long = l ∙ s.long;
    from = omega (arith, s.from);
    to = q;
    each = λ c d t. h (mid on c d lo hi a) (mid on c d lo hi b) (staged_turn b p q c d t) ∙ ap (λ (n : ℕ). words_from n 0 (mid on c d lo hi b)) s.long;
  }

  pub staged_move : (b : ℕ) → a ≡ b → Staged on map₀ map lo hi b
  staged_move b e = subst (λ (x : ℕ). Staged on map₀ map lo hi x) e s

  pub staged_end : a ≡ hi → (c d : ℕ → ℕ) → Turn on map₀ c d lo hi → map ≡ words_from (length map₀) 0 d
  staged_end e c d t = s.each c d t ∙ words_same (length map₀) 0 (mid on c d lo hi a) d (λ x u v. mid_end c d lo hi on a x t.turned e)

-- whole words --------------------------------------------------------------------------------------------------------

-- every block of the word is turned: the word is full, or has none
full : (on : Bool) (c d : ℕ → ℕ) (b lo hi : ℕ) → Turned on c d lo hi → ((x : ℕ) → c x ≤ 1) → ((x : ℕ) → d x ≤ 1) → lo ≤ b → b + 32 ≤ hi
    → word 32 b (mid on c d lo hi (b + 32)) ≡ cond on 4294967295 0
full true c d b lo hi t hc hd p q =
    let z : word 32 b (λ x. c x + between lo (b + 32) x) + 1 ≡ 4294967296 =
    word_all 32 b (λ x. c x + between lo (b + 32) x)
    (λ x u v. omega (arith, between_in lo (b + 32) x (omega arith) v, t x, hd x, between_in lo hi x (omega arith) (omega arith))) in
    omega arith
full false c d b lo hi t hc hd p q =
    word_none 32 b (λ x. d x + between (b + 32) hi x)
    (λ x u v. omega (arith, between_lo (b + 32) hi x v, t x, hc x, between_in lo hi x (omega arith) (omega arith)))

mid_apart : (on : Bool) (c d : ℕ → ℕ) (lo hi a b x : ℕ) → Turned on c d lo hi → lo ≤ a → a ≤ b → b ≤ hi → (x < a) ⊎ (b ≤ x) → mid on c d lo hi a x ≡ mid on c d lo hi b x
mid_apart on c d lo hi a b x t p q r h = outside on (mid on c d lo hi a) (mid on c d lo hi b) a b x (mid_turned c d lo hi on a b t p q r) h

module _ (on : Bool) (map₀ map : List ℕ) (lo hi k v : ℕ) (s : Staged on map₀ map lo hi (32 * k)) (r : Turnable on map₀ lo hi) (n : 32 * k + 32 ≤ hi) where
  pub whole_here : k < length map
  whole_here = omega (arith, r.turn.fits, s.long)

  pub whole_next : v ≡ cond on 4294967295 0 → Staged on map₀ (set map k v) lo hi (32 * (k + 1))
  whole_next e = record {
    long = length-set map k v ∙ s.long;
    from = omega (arith, s.from);
    to = omega arith;
    each = λ c d t.
        ap (λ (l : List ℕ). set l k v) (s.each c d t)
        ∙ set_words (length map₀) 0 k v (mid on c d lo hi (32 * k)) (mid on c d lo hi (32 * (k + 1))) (omega (arith, whole_here, s.long))
        (e ∙ sym (full on c d (32 * k) lo hi t.turned t.was t.is s.from n)
        ∙ ap (λ (x : ℕ). word 32 (32 * k) (mid on c d lo hi x)) (omega arith) ∙ ap (λ (x : ℕ). word 32 x (mid on c d lo hi (32 * (k + 1)))) (omega arith))
        (λ x u w. mid_apart on c d lo hi (32 * k) (32 * (k + 1)) x t.turned s.from (omega arith) (omega arith) (inl (omega arith)))
        (λ x u w. mid_apart on c d lo hi (32 * k) (32 * (k + 1)) x t.turned s.from (omega arith) (omega arith) (inr (omega arith)));
  }

-- k words from word i on, all with v
module _ (on : Bool) (map₀ map : List ℕ) (lo hi i v : ℕ) (s : Staged on map₀ map lo hi (32 * i)) (r : Turnable on map₀ lo hi) (e : v ≡ cond on 4294967295 0) where
  pub whole_all : (k : ℕ) → 32 * (i + k) ≤ hi → Staged on map₀ (paste map i (replicate k v) k) lo hi (32 * (i + k))
  whole_all zero h =
      subst (λ (m : List ℕ). Staged on map₀ m lo hi (32 * (i + 0))) (paste_none map i (replicate 0 v))
      (staged_move on map₀ map lo hi (32 * i) s (32 * (i + 0)) (omega arith))
  whole_all (suc k) h =
      let w = whole_all k (omega arith) in
      let q : k + 1 ≡ suc k = omega arith in
      subst (λ (m : List ℕ). Staged on map₀ m lo hi (32 * (i + suc k))) (fill_from_more map i k v (omega (arith, r.turn.fits, s.long)) ∙ ap (λ (n : ℕ). paste map i (replicate n v) n) q)
      (staged_move on map₀ _ lo hi (32 * (i + k + 1)) (whole_next on map₀ _ lo hi (i + k) v w r (omega arith) e) (32 * (i + suc k)) (omega arith))

-- the words from i up to and without j, filled
pub mid_filled : (map y : List ℕ) (i j v : ℕ) → i ≤ j → j ≤ length map → y ≡ replicate (length (take (j - i) (drop i map))) v
    → put_mid i (j - i) map y ≡ paste map i (replicate (j - i) v) (j - i)
mid_filled map y i j v h n e =
    let l : length (take (j - i) (drop i map)) ≡ j - i = length-take-le (j - i) (drop i map) (omega (arith, length-drop i map)) in
    let p : post_of i (j - i) map ≡ drop (i + (j - i)) map = Post-is i j map h ∙ ap (λ (k : ℕ). drop k map) (omega-j i j h) in
    ap (λ (z : List ℕ). put_mid i (j - i) map z) (e ∙ ap (λ (k : ℕ). replicate k v) l)
    ∙ ap (λ (z : List ℕ). take i map ++ (replicate (j - i) v ++ z)) p
    ∙ sym (paste_all map i (replicate (j - i) v) (j - i) (sym (length-replicate (j - i) v)))
  where
    omega-j : (i j : ℕ) → i ≤ j → j ≡ i + (j - i)
    omega-j i j h = omega arith

-- the whole stretch: within one word, or the first word's end, whole words, and the last word's begin -------------------------------------

low : (a : ℕ) → 32 * (a / 32) + a % 32 ≡ a
low a = omega arith

ne_less : (i j : ℕ) → (i ≡ j → ⊥) → i ≤ j → i < j
ne_less i j d h = ⊎_elim (λ k. absurd (d (omega arith))) (λ k. k) (le_or_lt j i)

-- what a turn of a part of the map says
abbrev pub Says : (on : Bool) (map map' : List ℕ) (a b : ℕ) → Type 0
Says on map map' a b = (c d : ℕ → ℕ) → Turn on map c d a b → map' ≡ words_from (length map) 0 d

module _ (on : Bool) (map : List ℕ) (lo hi : ℕ) (r : Turnable on map lo hi) where
  begin : Staged on map map lo hi (32 * (lo / 32) + lo % 32)
  begin = staged_begin on map lo hi (32 * (lo / 32) + lo % 32) (low lo) r.turn.order

  module _ (e : lo / 32 ≡ hi / 32) where
    ends : 32 * (lo / 32) + hi % 32 ≡ hi
    ends = omega arith

    orders : 32 * (lo / 32) + lo % 32 ≤ 32 * (lo / 32) + hi % 32
    orders = omega (arith, low lo, r.turn.order, ends)

    pub one_turnable : (hi % 32 ≤ 32) × Turnable on map (32 * (lo / 32) + lo % 32) (32 * (lo / 32) + hi % 32)
    one_turnable = (omega arith, staged_turnable on map map lo hi (32 * (lo / 32) + lo % 32) begin r (32 * (lo / 32) + hi % 32) orders (omega (arith, ends)))

    pub one_turned : (map' : List ℕ) → length map' ≡ length map → Says on map map' (32 * (lo / 32) + lo % 32) (32 * (lo / 32) + hi % 32) → Says on map map' lo hi
    one_turned map' l s =
        staged_end on map map' lo hi (32 * (lo / 32) + hi % 32)
        (staged_next on map map lo hi (32 * (lo / 32) + lo % 32) begin map' (32 * (lo / 32) + hi % 32) orders (omega (arith, ends)) l s) ends

  module _ (d : lo / 32 ≡ hi / 32 → ⊥) where
    apart : lo / 32 < hi / 32
    apart = ne_less (lo / 32) (hi / 32) d (omega (arith, r.turn.order))

    pub first_turnable : (32 ≤ 32) × Turnable on map (32 * (lo / 32) + lo % 32) (32 * (lo / 32) + 32)
    first_turnable = (omega arith, staged_turnable on map map lo hi (32 * (lo / 32) + lo % 32) begin r (32 * (lo / 32) + 32) (omega arith) (omega (arith, apart)))

    module _ (map₁ : List ℕ) (l₁ : length map₁ ≡ length map) (s₁ : Says on map map₁ (32 * (lo / 32) + lo % 32) (32 * (lo / 32) + 32)) where
      second : Staged on map map₁ lo hi (32 * (lo / 32 + 1))
      second =
          staged_move on map map₁ lo hi (32 * (lo / 32) + 32)
          (staged_next on map map lo hi (32 * (lo / 32) + lo % 32) begin map₁ (32 * (lo / 32) + 32) (omega arith) (omega (arith, apart)) l₁ s₁)
          (32 * (lo / 32 + 1)) (omega arith)

      pub second_turnable : Turnable on map₁ (32 * (lo / 32 + 1)) (32 * (hi / 32))
      second_turnable = staged_turnable on map map₁ lo hi (32 * (lo / 32 + 1)) second r (32 * (hi / 32)) (omega (arith, apart)) (omega arith)

      module _ (map₂ : List ℕ) (l₂ : length map₂ ≡ length map₁) (s₂ : Says on map₁ map₂ (32 * (lo / 32 + 1)) (32 * (hi / 32))) where
        third : Staged on map map₂ lo hi (32 * (hi / 32) + 0)
        third =
            staged_move on map map₂ lo hi (32 * (hi / 32))
            (staged_next on map map₁ lo hi (32 * (lo / 32 + 1)) second map₂ (32 * (hi / 32)) (omega (arith, apart)) (omega arith) l₂ s₂)
            (32 * (hi / 32) + 0) (omega arith)

        pub third_turnable : (hi % 32 ≤ 32) × Turnable on map₂ (32 * (hi / 32) + 0) (32 * (hi / 32) + hi % 32)
        third_turnable = (omega arith, staged_turnable on map map₂ lo hi (32 * (hi / 32) + 0) third r (32 * (hi / 32) + hi % 32) (omega arith) (omega arith))

        pub all_turned : (map₃ : List ℕ) → length map₃ ≡ length map₂ → Says on map₂ map₃ (32 * (hi / 32) + 0) (32 * (hi / 32) + hi % 32) → Says on map map₃ lo hi
        all_turned map₃ l₃ s₃ =
            staged_end on map map₃ lo hi (32 * (hi / 32) + hi % 32)
            (staged_next on map map₂ lo hi (32 * (hi / 32) + 0) third map₃ (32 * (hi / 32) + hi % 32) (omega arith) (omega arith) l₃ s₃) (low hi)
