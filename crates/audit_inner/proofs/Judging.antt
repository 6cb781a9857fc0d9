-- One inode, judged by the mark of the block that it names.
use mathlib.Core.Path.{◌≡◌, refl, sym, ap, subst, subst⁻¹, ◌∙◌}
use mathlib.Core.List.{List, [], ◌∷◌, ◌++◌}
use mathlib.Core.Bool.{Bool, true, false, cond, not, ◌&&◌, ◌||◌}
use mathlib.Core.Logic.{◌⊎◌, inl, inr, ⊎_elim, ◌≢◌}
use Prim.Native.Nat.{ℕ, zero, suc, ◌+◌, ◌*◌, ◌/◌, ◌%◌, ◌≤◌, ◌<◌}
use native.Mathlib.Omega.{arith}
use native.Mathlib.Nat.{mul-le-mul_right}
use mir.Val.{Fits}
use mir.Syntax.{w64}
use lib.Dec.{eqb, ltb, leb}
use lib.ListN.{length, get_or, set, length-set}
use lib.Seq.{get_or-set_same, get_or-set_other}
use borrow.Author.Tests.{eqb-true, eqb-false, eq-eqb, ne_eqb, ltb-true, ltb-false, lt-ltb, le-ltb, le-leb, lt-leb}
use Rattle.links.proofs.Held.{same_or}
use Rattle.fat_node.specs.Entry.{Bytes, top}
use Rattle.tree_marks.specs.Inner.Marks.{gone}
use Rattle.tree_table.specs.Chain.{link_at}
use Rattle.tree_table.specs.Field.{field}
use Rattle.audit_inner.specs.Findings.{Subject, full, names, named, starts, astray, shared, over, lost}
use Rattle.audit_inner.specs.Volume.{record_block, record_size, count_of, is_live, subject_of}
use Rattle.audit_inner.specs.Inner.Marks.{Chains, mark, Marked, Behind, Dead, ChainJudged, ChainSays, Looked, FileJudged, FileLooked, FileSays, LostSays}
use Rattle.audit_inner.specs.declared.Judged.{Judged}

-- a number is 0 or not, by its test
some_or : (c : ℕ) → (c ≡ 0) ⊎ (0 < c)
some_or zero = inl refl
some_or (suc c) = inr (omega arith)

-- ---- marks, read

pub mark_zero : (c : ℕ) (was : Bool) → c ≡ 0 → mark c was ≡ 0
unfolding mark
mark_zero c was e = ap (λ (x : Bool). cond (x && was) (top + c) c) (le-ltb 0 c (omega (arith, e))) ∙ e

pub mark_plain : (c : ℕ) (was : Bool) → was ≡ false → mark c was ≡ c
unfolding mark
mark_plain c was e = ap (λ (x : Bool). cond (ltb 0 c && x) (top + c) c) e ∙ go (ltb 0 c)
  where
    go : (x : Bool) → cond (x && false) (top + c) c ≡ c
    go true = refl
    go false = refl

pub mark_named : (c : ℕ) (was : Bool) → 0 < c → was ≡ true → mark c was ≡ top + c
unfolding mark
mark_named c was h e = ap (λ (x : Bool). cond (x && was) (top + c) c) (lt-ltb 0 c h) ∙ ap (λ (x : Bool). cond x (top + c) c) e

-- what a mark is, in either case
mark_is : (c : ℕ) (was : Bool) → ((c ≡ 0) × (mark c was ≡ 0)) ⊎ ((0 < c) × (((was ≡ true) × (mark c was ≡ top + c)) ⊎ ((was ≡ false) × (mark c was ≡ c))))
mark_is c was = ⊎_elim (λ e. inl (e, mark_zero c was e)) (λ h. inr (h, go was refl h)) (some_or c)
  where
    go : (w : Bool) → was ≡ w → 0 < c → ((was ≡ true) × (mark c was ≡ top + c)) ⊎ ((was ≡ false) × (mark c was ≡ c))
    go true e h = inl (e, mark_named c was h e)
    go false e h = inr (e, mark_plain c was e)

pub mark_rest : (c : ℕ) (was : Bool) → c ≤ 1000000 → mark c was % top ≡ c
mark_rest c was k =
    ⊎_elim (λ p. omega (arith, p.0, p.1)) (λ p. ⊎_elim (λ q. omega (arith, q.1, k)) (λ q. omega (arith, q.1, k)) p.1) (mark_is c was)

mark_some : (c : ℕ) (was : Bool) → (mark c was ≡ 0 → ⊥) → 0 < c
mark_some c was h = ⊎_elim (λ p. absurd (h p.1)) (λ p. p.0) (mark_is c was)

mark_none : (c : ℕ) (was : Bool) → mark c was ≡ 0 → c ≡ 0
mark_none c was e = ⊎_elim (λ p. p.0) (λ p. ⊎_elim (λ q. let z : ⊥ = omega (arith, q.1, e) in absurd z) (λ q. omega (arith, q.1, e)) p.1) (mark_is c was)

mark_flag : (c : ℕ) (was : Bool) → c ≤ 1000000 → 0 < c → leb top (mark c was) ≡ was
mark_flag c was k h =
    ⊎_elim (λ p. let z : ⊥ = omega (arith, p.0, h) in absurd z)
    (λ p. ⊎_elim (λ q. le-leb top (mark c was) (omega (arith, q.1)) ∙ sym q.0) (λ q. lt-leb top (mark c was) (omega (arith, q.1, k)) ∙ sym q.0) p.1)
    (mark_is c was)

-- whether a mark is that of a chain that no file names
lost_zero : (m c : ℕ) (was : Bool) → m ≡ 0 → m ≡ mark c was → false ≡ ltb 0 c && not was
lost_zero m c was z e = sym (ap (λ (x : Bool). x && not was) (le-ltb 0 c (omega (arith, mark_none c was (sym e ∙ z)))))

lost_some : (m c : ℕ) (was : Bool) → (m ≡ 0 → ⊥) → c ≤ 1000000 → m ≡ mark c was → ltb m top ≡ ltb 0 c && not was
lost_some m c was n k e =
    let h : 0 < c = mark_some c was (λ z. n (e ∙ z)) in
    let f : ltb 0 c ≡ true = lt-ltb 0 c h in
    ⊎_elim (λ p. let z : ⊥ = omega (arith, p.0, h) in absurd z)
    (λ p.
    ⊎_elim
    (λ q. le-ltb m top (omega (arith, e, q.1)) ∙ sym (ap (λ (x : Bool). x && not was) f ∙ ap not q.0))
    (λ q. lt-ltb m top (omega (arith, e, q.1, k)) ∙ sym (ap (λ (x : Bool). x && not was) f ∙ ap not q.0))
    p.1)
    (mark_is c was)

pub lost_never : (m : ℕ) → m ≡ 0 → LostSays m (not (eqb m 0))
lost_never m z = record { says = λ c was k e. ap not (eq-eqb m 0 z) ∙ lost_zero m c was z e }

pub lost_told : (m : ℕ) → (m ≡ 0 → ⊥) → LostSays m (ltb m top)
lost_told m n = record { says = λ c was k e. lost_some m c was n k e }

-- ---- the chain that a file names

module _ (n : ℕ) (chain : ℕ → ℕ) (was : ℕ → Bool) (l b size : ℕ) (work : List ℕ) (k : Chains n chain) (m : Marked n chain was work) where
  -- the block starts no chain: no mark changes
  module _ (e : chain b ≡ 0) (r : Judged) (told : r ≡ record { astray = true; shared = false; over = false }) where
    pub judged_astray : ChainJudged n chain was l b size work r
    judged_astray =
        let f : ltb 0 (chain b) ≡ false = le-ltb 0 (chain b) (omega (arith, e)) in
        record {
          astray = ap (λ (j : Judged). j.astray) told ∙ sym (ap not f);
          shared = ap (λ (j : Judged). j.shared) told ∙ sym (ap (λ (x : Bool). x && was b) f);
          over = ap (λ (j : Judged). j.over) told ∙ sym (ap (λ (x : Bool). x && ltb (chain b * l) size) f);
          marked = record { at = λ x h. m.at x h ∙ same x (eqb b x) refl };
        }
      where
        same : (x : ℕ) (t : Bool) → eqb b x ≡ t → mark (chain x) (was x) ≡ mark (chain x) (t || was x)
        same x true q =
            let z : chain x ≡ 0 = ap chain (sym (eqb-true b x q)) ∙ e in
            mark_zero (chain x) (was x) z ∙ sym (mark_zero (chain x) (true || was x) z)
        same x false q = refl

  pub judged_out : n ≤ b → (r : Judged) → r ≡ record { astray = true; shared = false; over = false } → ChainJudged n chain was l b size work r
  judged_out h = judged_astray (k.out b h)

  module _ (h : b < n) where
    pub judged_none : get_or work b 0 ≡ 0 → (r : Judged) → r ≡ record { astray = true; shared = false; over = false } → ChainJudged n chain was l b size work r
    judged_none z = judged_astray (mark_none (chain b) (was b) (sym (m.at b h) ∙ z))

    pub judged_some : n ≤ length work → (get_or work b 0 ≡ 0 → ⊥) → (r : Judged)
        → r ≡ record { astray = false; shared = leb top (get_or work b 0); over = ltb (get_or work b 0 % top * l) size }
        → ChainJudged n chain was l b size (set work b (get_or work b 0 % top + top)) r
    judged_some room z r told =
        let c : ℕ = chain b in
        let e : get_or work b 0 ≡ mark c (was b) = m.at b h in
        let s : 0 < c = mark_some c (was b) (λ q. z (e ∙ q)) in
        let f : ltb 0 c ≡ true = lt-ltb 0 c s in
        let g : get_or work b 0 % top ≡ c = ap (λ (x : ℕ). x % top) e ∙ mark_rest c (was b) (k.few b) in
        record {
          astray = ap (λ (j : Judged). j.astray) told ∙ sym (ap not f);
          shared = ap (λ (j : Judged). j.shared) told ∙ ap (leb top) e ∙ mark_flag c (was b) (k.few b) s ∙ sym (ap (λ (x : Bool). x && was b) f);
          over = ap (λ (j : Judged). j.over) told ∙ ap (λ (x : ℕ). ltb (x * l) size) g ∙ sym (ap (λ (x : Bool). x && ltb (c * l) size) f);
          marked = record { at = λ x i. new x i (eqb b x) refl s g };
        }
      where
        new : (x : ℕ) → x < n → (t : Bool) → eqb b x ≡ t → 0 < chain b → get_or work b 0 % top ≡ chain b
            → get_or (set work b (get_or work b 0 % top + top)) x 0 ≡ mark (chain x) (t || was x)
        new x i true q s g =
            let p : b ≡ x = eqb-true b x q in
            ap (λ (y : ℕ). get_or (set work b (get_or work b 0 % top + top)) y 0) (sym p)
            ∙ get_or-set_same work b (get_or work b 0 % top + top) 0 (omega (arith, h, room))
            ∙ omega (arith, g)
            ∙ sym (mark_named (chain b) (true || was x) s refl)
            ∙ ap (λ (y : ℕ). mark (chain y) (true || was x)) p
        new x i false q s g = get_or-set_other work b x _ 0 (λ p. eqb-false b x q (sym p)) ∙ m.at x i

pub behind_same : (n : ℕ) (work : List ℕ) → Behind n work work
behind_same n work = record { long = refl; rest = λ j h. refl }

pub behind_set : (n b v : ℕ) (work : List ℕ) → b < n → Behind n work (set work b v)
behind_set n b v work h = record { long = length-set work b v; rest = λ j k. get_or-set_other work b j v 0 (λ (e : j ≡ b). omega (arith, e, h, k)) }

pub dead_behind : (n : ℕ) (f : Bytes) (work work' : List ℕ) → Behind n work work' → Dead n f work → Dead n f work'
dead_behind n f work work' b d = record {
  room = omega (arith, d.room, b.long);
  at = λ y h k. b.rest (n + y) (omega arith) ∙ d.at y h k;
}

-- ---- a file

module _ (n : ℕ) (chain : ℕ → ℕ) (l : ℕ) (f : Bytes) (y : ℕ) where
  abbrev S : Subject
  S = subject_of chain n l f

  -- a file that is not live, or has size 0
  module _ (e : full S y ≡ false) where
    pub unfull_judged : (r : Judged) → (r.astray ≡ false) × ((r.shared ≡ false) × (r.over ≡ false)) → FileJudged S y r
    unfolding astray shared over
    unfull_judged r told = record {
      astray = told.0 ∙ sym (ap (λ (x : Bool). x && not (starts S (S.block y))) e);
      shared = told.1.0 ∙ sym (ap (λ (x : Bool). x && (starts S (S.block y) && named S y (S.block y))) e);
      over = told.1.1 ∙ sym (ap (λ (x : Bool). x && (starts S (S.block y) && ltb (S.chain (S.block y) * S.each) (S.size y))) e);
    }

    unnamed : (x : ℕ) → named S (suc y) x ≡ named S y x
    unfolding names
    unnamed x = ap (λ (t : Bool). (t && eqb (S.block y) x) || named S y x) e

    pub unfull_looked : (work : List ℕ) → Looked n chain l f y work → Looked n chain l f (suc y) work
    unfull_looked work w = record {
      marked = record { at = λ b h. w.marked.at b h ∙ ap (mark (chain b)) (sym (unnamed b)) };
      dead = w.dead;
    }

  -- a live file of size above 0
  module _ (e : full S y ≡ true) (b size : ℕ) (p : record_block f y ≡ b) (q : record_size f y ≡ size) (work work' : List ℕ) (r : Judged)
      (j : ChainJudged n chain (named S y) l b size work' r) (h : Behind n work work') where
    pub full_judged : FileJudged S y r
    unfolding astray shared over starts
    full_judged = record {
      astray = j.astray ∙ ap (λ (x : ℕ). not (ltb 0 (chain x))) (sym p) ∙ sym (ap (λ (t : Bool). t && not (starts S (S.block y))) e);
      shared = j.shared ∙ ap (λ (x : ℕ). ltb 0 (chain x) && named S y x) (sym p)
          ∙ sym (ap (λ (t : Bool). t && (starts S (S.block y) && named S y (S.block y))) e);
      over = j.over ∙ ap (λ (x : ℕ). ltb 0 (chain x) && ltb (chain x * l) size) (sym p)
          ∙ ap (λ (z : ℕ). ltb 0 (chain (record_block f y)) && ltb (chain (record_block f y) * l) z) (sym q)
          ∙ sym (ap (λ (t : Bool). t && (starts S (S.block y) && ltb (S.chain (S.block y) * S.each) (S.size y))) e);
    }

    pub full_looked : Looked n chain l f y work → Looked n chain l f (suc y) work'
    unfolding names
    full_looked w = record {
      marked = record {
        at = λ x i.
            j.marked.at x i
            ∙ ap (λ (z : ℕ). mark (chain x) (eqb z x || named S y x)) (sym p)
            ∙ ap (λ (t : Bool). mark (chain x) ((t && eqb (S.block y) x) || named S y x)) (sym e);
      };
      dead = dead_behind n f work work' h w.dead;
    }

  -- which of them it is, by the mark of the inode and the size
  pub dead_unfull : (work : List ℕ) → Dead n f work → 0 < y → y < count_of f → (get_or work (n + y) 0 ≡ 0 → ⊥) → full S y ≡ false
  unfolding full
  dead_unfull work d h k z = go (is_live f y) refl
    where
      go : (t : Bool) → is_live f y ≡ t → is_live f y && ltb 0 (record_size f y) ≡ false
      go true q = absurd (z (d.at y h k ∙ ap (λ (t : Bool). cond {A = ℕ} t 0 gone) q))
      go false q = ap (λ (t : Bool). t && ltb 0 (record_size f y)) q

  pub empty_unfull : (size : ℕ) → size ≡ record_size f y → size ≡ 0 → full S y ≡ false
  unfolding full
  empty_unfull size q z = ap (λ (t : Bool). is_live f y && t) (le-ltb 0 (record_size f y) (omega (arith, q, z))) ∙ go (is_live f y)
    where
      go : (t : Bool) → t && false ≡ false
      go true = refl
      go false = refl

  pub live_full : (work : List ℕ) (size : ℕ) → Dead n f work → 0 < y → y < count_of f → get_or work (n + y) 0 ≡ 0 → size ≡ record_size f y → (size ≡ 0 → ⊥) → full S y ≡ true
  unfolding full
  live_full work size d h k z q s = go (is_live f y) refl
    where
      go : (t : Bool) → is_live f y ≡ t → is_live f y && ltb 0 (record_size f y) ≡ true
      go true e =
          ap (λ (t : Bool). t && ltb 0 (record_size f y)) e
          ∙ lt-ltb 0 (record_size f y) (⊎_elim (λ p. absurd (s (q ∙ p))) (λ p. p) (some_or (record_size f y)))
      go false e = let v : ⊥ = omega (arith, z, d.at y h k, ap (λ (t : Bool). cond {A = ℕ} t 0 gone) e) in absurd v

-- the record's words, as the code reads them
pub block_word : (f : Bytes) (y : ℕ) → record_block f y ≡ link_at f 48 28 y
unfolding record_block field
block_word f y = refl

pub size_words : (f : Bytes) (y : ℕ) → record_size f y ≡ link_at f 48 32 y + 4294967296 * link_at f 48 36 y
unfolding record_size field
size_words f y = refl

pub count_word : (f : Bytes) → count_of f ≡ link_at f 48 0 0
unfolding count_of field
count_word f = refl

pub size_sum : (f : Bytes) (y low high : ℕ) → low ≡ link_at f 48 32 y → high ≡ link_at f 48 36 y → low + 4294967296 * high ≡ record_size f y
size_sum f y low high e q = omega (arith, e, q, size_words f y)

-- a chain's bytes are a number of the code
pub product_fits : (m l : ℕ) → m ≤ 4294967296 → l ≤ 65536 → Fits w64 (m * l)
product_fits m l k h = omega (arith, mul-le-mul_right l k, h)

-- each way out of the judging of a chain, and of an inode
module _ (n l b size : ℕ) (work : List ℕ) (r : Judged) where
  pub chain_out : n ≤ b → r ≡ record { astray = true; shared = false; over = false } → ChainSays n l b size work work r
  chain_out h e = record { says = λ chain was k m. judged_out n chain was l b size work k m h r e; behind = behind_same n work }

  pub chain_nil : b < n → get_or work b 0 ≡ 0 → r ≡ record { astray = true; shared = false; over = false } → ChainSays n l b size work work r
  chain_nil h z e = record { says = λ chain was k m. judged_none n chain was l b size work k m h z r e; behind = behind_same n work }

  pub chain_some : b < n → n ≤ length work → (get_or work b 0 ≡ 0 → ⊥)
      → r ≡ record { astray = false; shared = leb top (get_or work b 0); over = ltb (get_or work b 0 % top * l) size }
      → ChainSays n l b size work (set work b (get_or work b 0 % top + top)) r
  chain_some h room z e = record {
    says = λ chain was k m. judged_some n chain was l b size work k m h room z r e;
    behind = behind_set n b (get_or work b 0 % top + top) work h;
  }

module _ (n l : ℕ) (f : Bytes) (y i : ℕ) (work : List ℕ) (e : i ≡ y) where
  at_inode : get_or work (n + i) 0 ≡ get_or work (n + y) 0
  at_inode = ap (λ (x : ℕ). get_or work (n + x) 0) e

  pub file_dead : (r : Judged) → 0 < y → y < count_of f → (get_or work (n + i) 0 ≡ 0 → ⊥)
      → (r.astray ≡ false) × ((r.shared ≡ false) × (r.over ≡ false)) → FileSays n l f y work work r
  file_dead r h j z told = record {
    says = λ chain k w.
        let u : full (subject_of chain n l f) y ≡ false = dead_unfull n chain l f y work w.dead h j (λ q. z (at_inode ∙ q)) in
        record { judged = unfull_judged n chain l f y u r told; looked = unfull_looked n chain l f y u work w };
  }

  pub file_empty : (r : Judged) (size : ℕ) → size ≡ record_size f y → size ≡ 0
      → (r.astray ≡ false) × ((r.shared ≡ false) × (r.over ≡ false)) → FileSays n l f y work work r
  file_empty r size q z told = record {
    says = λ chain k w.
        let u : full (subject_of chain n l f) y ≡ false = empty_unfull n chain l f y size q z in
        record { judged = unfull_judged n chain l f y u r told; looked = unfull_looked n chain l f y u work w };
  }

  pub file_full : (r : Judged) (size b c : ℕ) (work' : List ℕ) → 0 < y → y < count_of f → get_or work (n + i) 0 ≡ 0 → size ≡ record_size f y → (size ≡ 0 → ⊥)
      → b ≡ link_at f 48 28 y → c ≡ b → ChainSays n l c size work work' r → FileSays n l f y work work' r
  file_full r size b c work' h j z q s p o v = record {
    says = λ chain k w.
        let u : full (subject_of chain n l f) y ≡ true = live_full n chain l f y work size w.dead h j (sym at_inode ∙ z) q s in
        let m = v.says chain (named (subject_of chain n l f) y) k w.marked in
        let x : record_block f y ≡ c = block_word f y ∙ sym p ∙ sym o in
        record {
          judged = full_judged n chain l f y u c size x (sym q) work work' r m v.behind;
          looked = full_looked n chain l f y u c size x (sym q) work work' r m v.behind w;
        };
  }
