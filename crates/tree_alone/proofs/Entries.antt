-- One entry by itself: its hash and the keys behind it.
use mathlib.Core.Path.{◌≡◌, refl, sym, ap, ◌∙◌, subst}
use mathlib.Core.List.{List, [], ◌∷◌}
use mathlib.Core.Logic.{◌⊎◌, inl, inr, ⊎_elim, ◌≢◌}
use mathlib.Core.Bool.{Bool, true, false, false≢true}
use Prim.Native.Nat.{ℕ, ◌+◌, ◌-◌, ◌*◌, ◌%◌, ◌≤◌, ◌<◌}
use native.Mathlib.Omega.{arith}
use lib.Dec.{eqb, ltb}
use Rattle.std.proofs.Common.{Some, None}
use borrow.Author.Tests.{eqb-true, eq-eqb}
use lib.ListN.{length, take, drop}
use Rattle.links.specs.Links.{◌∈◌}
use Rattle.links.specs.Change.{pick}
use Rattle.links.proofs.Laws.{positive, fewer}
use Rattle.links.proofs.Held.{same_or}
use Rattle.tree_key.specs.Key.{key_of, key_words, same_key}
use Rattle.tree_key.specs.Hash.{hash_of}
use Rattle.tree_key.specs.declared.SaveExtKey.{SaveExtKey}
use Rattle.tree_key.proofs.Laws.{same_equal, equal_same}
use Rattle.tree_table.specs.Field.{field}
use Rattle.tree_table.specs.View.{key_at}
use Rattle.tree_table.specs.Chain.{link_at, list_at, Ends, seek_in}
use Rattle.tree_table.specs.declared.Hit.{Hit}
use Rattle.tree_table.proofs.Chain.{key_part, goes, stops, ends}
use Rattle.order.specs.Tells.{Tells}
use Rattle.tree_marks.specs.Inner.Marks.{gone, mark_at, ListMarked, ListCounted, Within}
use Rattle.tree_marks.proofs.Walks.{entry_in, within_refl, within_trans, none_some}
use Rattle.tree_marks.proofs.Gathering.{Checking, check_begin, check_on, gathers_more, gathers_stop}
use Rattle.tree_marks.specs.Inner.Gather.{Gathered, any, bucket_at}
use Rattle.tree_apart.specs.Inner.Apart.{Apart, far}
use Rattle.tree_alone.specs.Inner.Entries.{Fits, AllFit}
use Rattle.tree_alone.specs.Inner.Stage.{BucketFiled, BucketCounted, BucketsCounted}

-- a search that finds nothing met no entry with the key
pub seek_none : (key : ℕ → List ℕ) (k xs : List ℕ) (n : ℕ) → ((y : ℕ) → y ∈ xs → 0 < y) → (seek_in key k xs n).inode ≡ 0 → (z : ℕ) → z ∈ xs → key z ≡ k → ⊥
seek_none key k [] n pos e z m q = elim m [ ]
seek_none key k (y ∷ ys) n pos e z m q = go (same_key (key y) k) refl e (λ i u. seek_none key k ys (n + 1) (λ y m. pos y (inr m)) i z u q)
  where
    go : (t : Bool) → same_key (key y) k ≡ t → (pick t (record { inode = y; compared = n + 1 }) (seek_in key k ys (n + 1))).inode ≡ 0
        → ((seek_in key k ys (n + 1)).inode ≡ 0 → z ∈ ys → ⊥) → ⊥
    go true s i f = let h : 0 < y = pos y (inl refl) in omega arith
    go false s i f = ⊎_elim (λ (u : z ≡ y). false≢true (sym s ∙ equal_same (key y) k (ap key (sym u) ∙ q))) (λ (u : z ∈ ys). f i u) m

-- and where no entry has the key, it finds nothing
pub seek_nothing : (key : ℕ → List ℕ) (k xs : List ℕ) (n : ℕ) → ((z : ℕ) → z ∈ xs → key z ≡ k → ⊥) → (seek_in key k xs n).inode ≡ 0
seek_nothing key k [] n none = refl
seek_nothing key k (y ∷ ys) n none = go (same_key (key y) k) refl (seek_nothing key k ys (n + 1) (λ z m. none z (inr m)))
  where
    go : (t : Bool) → same_key (key y) k ≡ t → (seek_in key k ys (n + 1)).inode ≡ 0 → (pick t (record { inode = y; compared = n + 1 }) (seek_in key k ys (n + 1))).inode ≡ 0
    go true s r = absurd (none y (inl refl) (same_equal (key y) k s))
    go false s r = r

module _ (t : List ℕ) (w buckets : ℕ) (long : Bool) (y mark : ℕ) where
  pub fits_gone : mark ≡ gone → Tells (Fits t w buckets long y mark) true
  fits_gone e = record { yes = λ _. inl e; only = λ _. refl }

  module _ (n : mark ≡ gone → ⊥) (h : ℕ) (eh : h ≡ hash_of (key_at (field w t) y) % buckets) where
    pub fits_not : (mark ≡ h + 1 → ⊥) → Tells (Fits t w buckets long y mark) false
    fits_not d = record {
      yes = λ e. absurd (false≢true e);
      only = λ p. absurd (⊎_elim n
          (λ (q : (mark ≡ hash_of (key_at (field w t) y) % buckets + 1) × (long ≡ false → Apart t w y)). d (q.0 ∙ ap (λ z. z + 1) (sym eh))) p);
    }

    pub fits_long : mark ≡ h + 1 → long ≡ true → Tells (Fits t w buckets long y mark) true
    fits_long em el = record { yes = λ _. inr (em ∙ ap (λ z. z + 1) eh, λ f. absurd (false≢true (sym f ∙ el))); only = λ _. refl }

    pub fits_apart : mark ≡ h + 1 → long ≡ false → (k : List ℕ) → k ≡ key_at (field w t) y → (first : ℕ) → first ≡ link_at t w (w - 4) y → Ends t w (w - 4) first
        → (hit : Hit) → hit ≡ seek_in (key_at (field w t)) k (list_at t w (w - 4) first) 0 → Tells (Fits t w buckets long y mark) (eqb hit.inode 0)
    fits_apart em el k ek first ef E hit ehit = record {
      yes = λ e. inr (
        em ∙ ap (λ z. z + 1) eh,
        λ _ z m q.
            seek_none (key_at (field w t)) k (list_at t w (w - 4) first) 0 (positive (link_at t w (w - 4)) first (list_at t w (w - 4) first) E.links)
            (ap (λ u. u.inode) (sym ehit) ∙ eqb-true hit.inode 0 e) z (subst (λ u. z ∈ list_at t w (w - 4) u) (sym ef) m) (q ∙ sym ek),
      );
      only = λ p.
          eq-eqb hit.inode 0 (ap (λ u. u.inode) ehit
          ∙ seek_nothing (key_at (field w t)) k (list_at t w (w - 4) first) 0 (λ z m q.
          ⊎_elim n (λ (r : (mark ≡ hash_of (key_at (field w t) y) % buckets + 1) × (long ≡ false → Apart t w y)). r.1 el z (subst (λ u. z ∈ list_at t w (w - 4) u) ef m) (q ∙ ek)) p));
    }

-- what the code found with the bool that it holds for `far`
pub all_fit_far : (t : List ℕ) (w buckets first mark : ℕ) {long b : Bool} → long ≡ far t w first
    → Tells ((y : ℕ) → y ∈ list_at t w (w - 4) first → Fits t w buckets long y mark) b → Tells (AllFit t w buckets first mark) b
all_fit_far t w buckets first mark {long} {b} e T = subst (λ z. Tells ((y : ℕ) → y ∈ list_at t w (w - 4) first → Fits t w buckets z y mark) b) e T

-- the key that the code reads from the entry's own part
pub read_key : (t : List ℕ) (w : ℕ) {y i : ℕ} {k : SaveExtKey} → i ≡ y → 24 ≤ w → key_words k ≡ key_of (take (i * w + w - i * w) (drop (i * w) t)) → key_words k ≡ key_at (field w t) y
read_key t w {y} {i} e h q = q ∙ key_part w t y (i * w) (ap (λ z. z * w) e) h

pub at_index : (i y w n : ℕ) → i ≡ y → y * w + w ≤ n → i * w + w ≤ n
at_index i y w n e h = subst (λ z. z * w + w ≤ n) (sym e) h

-- ---- a bucket gone along: the entries before x have P

pub record Going (t : List ℕ) (w first : ℕ) (P : ℕ → Type 0) (x : ℕ) : Type 0 where
  pub on : Ends t w (w - 4) x
  pub rest : ((y : ℕ) → y ∈ list_at t w (w - 4) x → P y) → (y : ℕ) → y ∈ list_at t w (w - 4) first → P y
  pub part : (y : ℕ) → y ∈ list_at t w (w - 4) x → y ∈ list_at t w (w - 4) first

pub going_begin : {t : List ℕ} {w first : ℕ} (P : ℕ → Type 0) → Ends t w (w - 4) first → Going t w first P first
going_begin P E = record { on = E; rest = λ f. f; part = λ y m. m }

module _ {t : List ℕ} {w first : ℕ} {P : ℕ → Type 0} {x : ℕ} (C : Going t w first P x) where
  pub going_on : {r : ℕ} {b : Bool} → x ≢ 0 → r ≡ link_at t w (w - 4) x → Tells (P x) b → b ≡ true → Going t w first P r
  going_on {r} {b} n e T q =
      let G = goes C.on n e in
      record {
        on = G.rest;
        rest = λ f. C.rest (λ y m.
            ⊎_elim (λ (u : y ≡ x). subst P (sym u) (T.yes q)) (λ (k : y ∈ list_at t w (w - 4) r). f y k) (subst (λ l. y ∈ l) G.list m));
        part = λ y m. C.part y (subst (λ l. y ∈ l) (sym G.list) (inr m));
      }

  pub going_stop : {b : Bool} → x ≢ 0 → Tells (P x) b → b ≡ false → Tells ((y : ℕ) → y ∈ list_at t w (w - 4) first → P y) false
  going_stop n T q =
      let G = goes C.on n refl in
      record {
        yes = λ e. absurd (false≢true e);
        only = λ all. absurd (false≢true (sym q ∙ T.only (all x (C.part x (subst (λ l. x ∈ l) (sym G.list) (inl refl))))));
      }

  pub going_done : x ≡ 0 → Tells ((y : ℕ) → y ∈ list_at t w (w - 4) first → P y) true
  going_done z = record { yes = λ _. C.rest (λ y m. absurd (subst (λ l. y ∈ l) (stops t w (w - 4) x z) m)); only = λ _. refl }

-- ---- all entries, by the buckets

-- whether a mark is there
pub mark_none : {m : ℕ} → m ≡ 0 → Tells (0 < m) false
mark_none e = record { yes = λ q. absurd (false≢true q); only = λ p. absurd (omega arith) }

pub mark_some : {m : ℕ} → m ≢ 0 → Tells (0 < m) true
mark_some {m} n = record { yes = λ _. ⊎_elim (λ (e : m ≡ 0). absurd (n e)) (λ (k : m ≢ 0). omega arith) (same_or m 0); only = λ _. refl }

-- an entry that fits has a mark
fits_mark : (t : List ℕ) (w buckets : ℕ) (long : Bool) (y mark : ℕ) → Fits t w buckets long y mark → 0 < mark
fits_mark t w buckets long y mark p =
    ⊎_elim (λ (g : mark ≡ gone). omega arith)
    (λ (q : (mark ≡ hash_of (key_at (field w t) y) % buckets + 1) × (long ≡ false → Apart t w y)). let e : mark ≡ hash_of (key_at (field w t) y) % buckets + 1 = q.0 in omega arith) p

-- every entry fits, if every bucket's do and every entry has a mark
pub entries_by : (h t : List ℕ) (w count buckets : ℕ) (W : ℕ → ℕ)
    → ((j : ℕ) → 0 < j → j < buckets + 1 → (y : ℕ) → W y ≡ j → y ∈ list_at t w (w - 4) (bucket_at h j))
    → ((y : ℕ) → (W y ≡ 0) ⊎ ((W y ≡ gone) ⊎ ((0 < W y) × (W y < buckets + 1) × any (W y))))
    → ((j : ℕ) → 0 < j → j < buckets + 1 → AllFit t w buckets (bucket_at h j) j)
    → (a : Bool) → Tells ((y : ℕ) → 0 < y → y < count → 0 < W y) a → Tells ((y : ℕ) → 0 < y → y < count → Fits t w buckets (far t w (bucket_at h (W y))) y (W y)) a
entries_by h t w count buckets W marks only fit a A = record {
  yes = λ q y p l.
      ⊎_elim (λ (z : W y ≡ 0). absurd (let k : 0 < W y = A.yes q y p l in omega arith))
      (⊎_elim (λ (g : W y ≡ gone). inl g)
      (λ (k : (0 < W y) × (W y < buckets + 1) × any (W y)). fit (W y) k.0 k.1 y (marks (W y) k.0 k.1 y refl)))
      (only y);
  only = λ all. A.only (λ y p l. fits_mark t w buckets (far t w (bucket_at h (W y))) y (W y) (all y p l));
}

-- ---- one bucket: the walk that marks it, then its entries

-- the list that the code compares
pub filing_ends : {t : List ℕ} {w count first i off : ℕ} {work work' : List ℕ} {r : Bool} → ListMarked (link_at t w (w - 4)) count first i off work work' r
    → r ≡ true → 1 ≤ count → count ≤ 65536 → count * w ≤ length t → Ends t w (w - 4) first
filing_ends {t} {w} {count} {first} A e h1 hc hl =
    let a = A.good e in
    let s : length a.0 < count = fewer (link_at t w (w - 4)) count first a.0 (omega arith) a.1 (λ y m. (a.2 y m).0) in
    ends t w (w - 4) first a.0 a.1 (omega arith) (λ z m. entry_in w z count (length t) (a.2 z m).0 hl)

module _ {t : List ℕ} {w count buckets first i off : ℕ} {work work' : List ℕ} {r : Bool} (A : ListMarked (link_at t w (w - 4)) count first i off work work' r) where
  pub filing_stop : r ≡ false → BucketFiled t w count buckets first i off work work' false
  filing_stop e = record {
    good = λ q. absurd (false≢true q);
    bad = λ _ xs l f _. A.bad e xs l f;
    within = A.within;
  }

  pub filing_done : r ≡ true → {b : Bool} → Tells (AllFit t w buckets first i) b → BucketFiled t w count buckets first i off work work' b
  filing_done e T = record {
    good = λ q. (A.good e, T.yes q);
    bad = λ q xs l f all. absurd (false≢true (sym q ∙ T.only all));
    within = A.within;
  }

-- ---- the same with the bucket's length

module _ (t : List ℕ) (w first : ℕ) {count i off : ℕ} {work work' : List ℕ} {n : ℕ} (A : ListCounted (link_at t w (w - 4)) count first i off work work' (Some n))
    (h1 : 1 ≤ count) (hc : count ≤ 65536) (hl : count * w ≤ length t) where
  pub counted_ends : Ends t w (w - 4) first
  counted_ends = filing_ends A.listed refl h1 hc hl

  pub counted_size : n ≡ length (list_at t w (w - 4) first)
  counted_size = A.size n refl (list_at t w (w - 4) first) counted_ends.links

  pub counted_far : ltb 64 n ≡ far t w first
  unfolding far
  counted_far = ap (ltb 64) counted_size

module _ {t : List ℕ} {w count buckets first i off : ℕ} {work work' : List ℕ} where
  pub counted_stop : ListCounted (link_at t w (w - 4)) count first i off work work' None → BucketCounted t w count buckets first i off work work' None
  counted_stop A = record { filed = filing_stop A.listed refl; longer = λ n e. absurd (none_some e) }

  module _ {n : ℕ} (A : ListCounted (link_at t w (w - 4)) count first i off work work' (Some n)) {b : Bool} (T : Tells (AllFit t w buckets first i) b) where
    pub counted_no : b ≡ false → BucketCounted t w count buckets first i off work work' None
    counted_no e = record {
      filed = subst (λ z. BucketFiled t w count buckets first i off work work' z) e (filing_done A.listed refl T);
      longer = λ n e. absurd (none_some e);
    }

    pub counted_yes : 1 ≤ count → count ≤ 65536 → count * w ≤ length t → b ≡ true → BucketCounted t w count buckets first i off work work' (Some n)
    counted_yes h1 hc hl e = record {
      filed = subst (λ z. BucketFiled t w count buckets first i off work work' z) e (filing_done A.listed refl T);
      longer = λ m q. (let s : n ≡ m = cc in let k : n ≡ length (list_at t w (w - 4) first) = counted_size t w first A h1 hc hl in omega arith);
    }

-- ---- the buckets one after the other

pub record Filling (h t : List ℕ) (w count buckets off : ℕ) (work₀ work : List ℕ) (longest i : ℕ) : Type 0 where
  pub most : i ≤ buckets + 1
  pub size : length work ≡ length work₀
  pub lists : (R : List ℕ) → Gathered (link_at t w (w - 4)) count (bucket_at h) any R 1 (mark_at work₀ off) → Gathered (link_at t w (w - 4)) count (bucket_at h) any R i (mark_at work off)
  pub fit : Checking (λ j. AllFit t w buckets (bucket_at h j) j) i
  pub long : (j : ℕ) → 0 < j → j < i → length (list_at t w (w - 4) (bucket_at h j)) ≤ longest
  pub within : Within off count work₀ work

pub filling_begin : (h t : List ℕ) (w count buckets off : ℕ) (work : List ℕ) → Filling h t w count buckets off work work 0 1
filling_begin h t w count buckets off work = record {
  most = omega arith;
  size = refl;
  lists = λ R G. G;
  fit = check_begin _;
  long = λ j p l. absurd (omega arith);
  within = within_refl off count work;
}

module _ {h t : List ℕ} {w count buckets off : ℕ} {work₀ work work' : List ℕ} {longest i first : ℕ} (C : Filling h t w count buckets off work₀ work longest i) (hi : i ≤ buckets) (hm : buckets ≤ 65536)
    (e : first ≡ bucket_at h i) where
  module _ {n : ℕ} (B : BucketCounted t w count buckets first i off work work' (Some n)) where
    filed : BucketFiled t w count buckets first i off work work' true
    filed = B.filed

    pub filling_on : {m : ℕ} → longest ≤ m → n ≤ m → Filling h t w count buckets off work₀ work' m (i + 1)
    filling_on {m} a b = record {
      most = omega arith;
      size = filed.within.size ∙ C.size;
      lists = λ R G. gathers_more (buckets + 1) C.fit.some (omega arith) (omega arith) e tt listed (C.lists R G) refl;
      fit = check_on C.fit (record { yes = λ _. subst (λ z. AllFit t w buckets z i) e (filed.good refl).1; only = λ _. refl }) refl;
      long = λ j q l.
          ⊎_elim
          (λ (k : j ≡ i).
          let s : length (list_at t w (w - 4) first) ≤ n = B.longer n refl in
          subst (λ z. length (list_at t w (w - 4) (bucket_at h z)) ≤ m) (sym k) (subst (λ z. length (list_at t w (w - 4) z) ≤ m) e (omega arith)))
          (λ (k : j ≢ i). let s : length (list_at t w (w - 4) (bucket_at h j)) ≤ longest = C.long j q (omega arith) in omega arith)
          (same_or j i);
      within = within_trans C.within filed.within;
    }
      where
        listed : ListMarked (link_at t w (w - 4)) count first i off work work' true
        listed = record { good = λ _. (filed.good refl).0; bad = λ z. absurd (false≢true (sym z)); within = filed.within }

  pub filling_stop : BucketCounted t w count buckets first i off work work' None → BucketsCounted h t w count buckets off work₀ work' None
  filling_stop B = record {
    filed = λ R G. record {
      good = λ z. absurd (false≢true z);
      bad = λ _ f right all.
          (gathers_stop (buckets + 1) C.fit.some (omega arith) (omega arith) e tt (listed (all i C.fit.some (omega arith))) (C.lists R G) refl).bad refl f right;
    };
    longest = λ n q. absurd (none_some q);
    within = within_trans C.within B.filed.within;
  }
    where
      listed : AllFit t w buckets (bucket_at h i) i → ListMarked (link_at t w (w - 4)) count first i off work work' false
      listed all = record { good = λ z. absurd (false≢true z); bad = λ _ xs l f. B.filed.bad refl xs l f (subst (λ z. AllFit t w buckets z i) (sym e) all); within = B.filed.within }

pub filling_done : {h t : List ℕ} {w count buckets off : ℕ} {work₀ work : List ℕ} {longest i : ℕ} → Filling h t w count buckets off work₀ work longest i → buckets < i
    → BucketsCounted h t w count buckets off work₀ work (Some longest)
filling_done {h} {t} {w} {count} {buckets} {off} {work₀} {work} {longest} {i} C l =
    let e : i ≡ buckets + 1 = let m : i ≤ buckets + 1 = C.most in omega arith in
    record {
      filed = λ R G. record {
        good = λ _. (subst (λ z. Gathered (link_at t w (w - 4)) count (bucket_at h) any R z (mark_at work off)) e (C.lists R G), λ j a b. C.fit.right j a (omega arith));
        bad = λ q. absurd (false≢true (sym q));
      };
      longest = λ n q j a b. (let s : longest ≡ n = cc in let k : length (list_at t w (w - 4) (bucket_at h j)) ≤ longest = C.long j a (omega arith) in omega arith);
      within = C.within;
    }
