-- The loops over the inodes and over the blocks, and the two passes.
use mathlib.Core.Path.{◌≡◌, refl, sym, ap, subst, subst⁻¹, ◌∙◌}
use mathlib.Core.List.{List, [], ◌∷◌, ◌++◌}
use mathlib.Core.Bool.{Bool, true, false, not, ◌&&◌, ◌||◌}
use mathlib.Core.Logic.{◌⊎◌, inl, inr, ⊎_elim, ◌≢◌}
use Prim.Native.Nat.{ℕ, zero, suc, ◌+◌, ◌*◌, ◌/◌, ◌%◌, ◌≤◌, ◌<◌}
use native.Mathlib.Omega.{arith}
use native.Mathlib.Numerals.{add-one}
use lib.Dec.{eqb, ltb}
use lib.ListN.{length, get_or, set, drop, replicate, length-append}
use lib.Seq.{sets, sets-eq, get_or-set_same, get_or-set_other}
use Rattle.links.proofs.Held.{same_or}
use Rattle.order.specs.First.{First}
use Rattle.order.specs.Answer.{Done, ListTooShort}
use Rattle.fat_node.specs.Entry.{Bytes, top}
use Rattle.fat_node.proofs.Nodes.{le_or_lt}
use Rattle.tree_table.specs.Chain.{link_at}
use Rattle.audit_inner.specs.Findings.{Subject, Finding, finding, full, names, named, starts, astray, shared, over, lost, when, file_findings, block_findings, findings, flat}
use Rattle.audit_inner.specs.Volume.{count_of, is_live, chain_of, subject_of, subject}
use Rattle.audit_inner.specs.Calls.{Audit, audit_gives, AuditSound}
use Rattle.audit_inner.specs.Inner.Marks.{Files, Ready, Chains, mark, Marked, Behind, Start, Looked, FileJudged, FileSays, Wrote, Put, told, PutFile, FilesSay, LostSays, BlocksSay, SweepSays, ReportSays}
use Rattle.audit_inner.specs.declared.Judged.{Judged}
use Rattle.words.proofs.Laws as words
use Rattle.fat_walk.proofs.Hops.{whole_of}
use Rattle.audit_inner.proofs.Chains.{chains_of}
use Rattle.audit_inner.proofs.Writing.{length_flat, put_none, put_then, when_most}
use Rattle.audit_inner.proofs.Judging.{mark_plain, mark_rest, behind_set, dead_behind, count_word}

-- ---- the inodes

-- what is known of the files below y: their chains are flagged, their findings are counted and written
pub record Known (n : ℕ) (chain : ℕ → ℕ) (l : ℕ) (f : Bytes) (list₀ : List ℕ) (y : ℕ) (work list : List ℕ) (found : ℕ) : Type 0 where
  pub looked : Looked n chain l f y work
  pub count : found ≡ length (file_findings (subject_of chain n l f) y)
  pub wrote : Wrote list₀ (file_findings (subject_of chain n l f) y) list

pub record FilesGoing (n l : ℕ) (f : Bytes) (work₀ list₀ : List ℕ) (y : ℕ) (work list : List ℕ) (found : ℕ) : Type 0 where
  pub from : 0 < y
  pub to : y ≤ count_of f
  pub bound : found ≤ 3 * y
  pub long : length work ≡ length work₀
  pub list_long : length list ≡ length list₀
  pub known : (chain : ℕ → ℕ) → Chains n chain → Start n chain f work₀ → Known n chain l f list₀ y work list found

-- inode 0 is no file
module _ (n : ℕ) (chain : ℕ → ℕ) (l : ℕ) (f : Bytes) where
  abbrev S : Subject
  S = subject_of chain n l f

  no_zero : file_findings S 1 ≡ []
  unfolding astray shared over full is_live
  no_zero = refl

  unnamed_zero : (x : ℕ) → named S 1 x ≡ false
  unfolding names full is_live
  unnamed_zero x = refl

  known_begin : (work list : List ℕ) → Start n chain f work → Known n chain l f list 1 work list 0
  known_begin work list s = record {
    looked = record {
      marked = record { at = λ b h. s.chains b h ∙ sym (mark_plain (chain b) (named S 1 b) (unnamed_zero b)) };
      dead = s.dead;
    };
    count = sym (ap (λ (o : List Finding). length o) no_zero);
    wrote = subst⁻¹ (λ (o : List Finding). Wrote list o list) no_zero (record { long = refl; is = λ h. refl });
  }

  told_is : (y : ℕ) (j : Judged) → FileJudged S y j → file_findings S y ++ told j y ≡ file_findings S (suc y)
  told_is y j p = λ i. file_findings S y ++ (when (p.astray i) (finding 1 y) ++ (when (p.shared i) (finding 2 y) ++ when (p.over i) (finding 3 y)))

  known_on : (list₀ : List ℕ) (y : ℕ) (work list work' list' : List ℕ) (found r : ℕ) (j : Judged) → Known n chain l f list₀ y work list found
      → FileJudged S y j → Looked n chain l f (suc y) work' → Put found (told j y) list list' r → Known n chain l f list₀ (suc y) work' list' r
  known_on list₀ y work list work' list' found r j w p q u = record {
    looked = q;
    count = omega (arith, u.count, w.count, length-append (file_findings S y) (told j y), ap (λ (o : List Finding). length o) (told_is y j p));
    wrote = subst (λ (o : List Finding). Wrote list₀ o list') (told_is y j p) (u.wrote list₀ (file_findings S y) w.count w.wrote);
  }

pub files_begin : (n l : ℕ) (f : Bytes) (work list : List ℕ) → 1 ≤ count_of f → FilesGoing n l f work list 1 work list 0
files_begin n l f work list h = record {
  from = omega arith;
  to = h;
  bound = omega arith;
  long = refl;
  list_long = refl;
  known = λ chain k s. known_begin n chain l f work list s;
}

pub files_on : (n l : ℕ) (f : Bytes) (work₀ list₀ : List ℕ) (y : ℕ) (work list work' list' : List ℕ) (found r : ℕ) (j : Judged)
    → FilesGoing n l f work₀ list₀ y work list found → (count : ℕ) → count ≡ link_at f 48 0 0 → y < count → length work' ≡ length work → length list' ≡ length list
    → FileSays n l f y work work' j → PutFile found j y list list' r
    → FilesGoing n l f work₀ list₀ (y + 1) work' list' r
files_on n l f work₀ list₀ y work list work' list' found r j w count word h long list_long g u = record {
  from = omega arith;
  to = omega (arith, h, word, count_word f);
  bound = omega (arith, w.bound, u.most);
  long = long ∙ w.long;
  list_long = list_long ∙ w.list_long;
  known = λ chain k s.
      let o = w.known chain k s in
      let p = g.says chain k o.looked in
      subst⁻¹ (λ (z : ℕ). Known n chain l f list₀ z work' list' r) (add-one y) (known_on n chain l f list₀ y work list work' list' found r j o p.judged p.looked u.put);
}

pub files_end : (n l : ℕ) (f : Bytes) (work₀ list₀ : List ℕ) (y : ℕ) (work list : List ℕ) (found count : ℕ)
    → FilesGoing n l f work₀ list₀ y work list found → count ≡ link_at f 48 0 0 → count ≤ y → Files f
    → FilesSay n l f work₀ list₀ work list found
files_end n l f work₀ list₀ y work list found count w word h F =
    let q : count ≡ count_of f = word ∙ sym (count_word f) in
    let e : y ≡ count_of f = omega (arith, h, q, w.to) in
    record {
      says = λ chain k s.
          let o : Known n chain l f list₀ (count_of f) work list found = subst (λ (z : ℕ). Known n chain l f list₀ z work list found) e (w.known chain k s) in
          record { count = o.count; wrote = o.wrote; looked = o.looked };
      few = omega (arith, w.bound, w.to, F.fits, F.few);
    }

-- what judging inode y asks for
module _ (n l : ℕ) (f : Bytes) (work₀ list₀ : List ℕ) (y : ℕ) (work list : List ℕ) (found count : ℕ) (w : FilesGoing n l f work₀ list₀ y work list found)
    (e : count ≡ link_at f 48 0 0) (h : y < count) (F : Files f) where
  pub inode_below : y < count_of f
  inode_below = omega (arith, h, e, count_word f)

  pub inode_inside : y * 48 + 48 ≤ length f
  inode_inside = omega (arith, h, e, count_word f, F.fits)

  pub inode_room : n + count_of f ≤ length work₀ → n + count_of f ≤ length work
  inode_room room = omega (arith, room, w.long)

-- the number of findings is a number of the code
pub files_fits : (n l : ℕ) (f : Bytes) (work₀ list₀ : List ℕ) (y : ℕ) (work list : List ℕ) (found : ℕ) → FilesGoing n l f work₀ list₀ y work list found → Files f → found ≤ 1000000
files_fits n l f work₀ list₀ y work list found w F = omega (arith, w.bound, w.to, F.fits, F.few)

-- ---- the blocks

pub record Counted (S : Subject) (n found₀ : ℕ) (list₀ : List ℕ) (b : ℕ) (work list : List ℕ) (count : ℕ) : Type 0 where
  pub put : Put found₀ (block_findings S b) list₀ list count
  pub done : (x : ℕ) → x < b → get_or work x 0 ≡ S.chain x
  pub rest : (x : ℕ) → b ≤ x → x < n → get_or work x 0 ≡ mark (S.chain x) (named S S.count x)

pub record BlocksGoing (n found₀ : ℕ) (work₀ list₀ : List ℕ) (b : ℕ) (work list : List ℕ) (count : ℕ) : Type 0 where
  pub to : b ≤ n
  pub bound : count ≤ found₀ + b
  pub behind : Behind n work₀ work
  pub list_long : length list ≡ length list₀
  pub counted : (S : Subject) → Chains n S.chain → Marked n S.chain (named S S.count) work₀ → Counted S n found₀ list₀ b work list count

pub blocks_begin : (n found : ℕ) (work list : List ℕ) → BlocksGoing n found work list 0 work list found
blocks_begin n found work list = record {
  to = omega arith;
  bound = omega arith;
  behind = record { long = refl; rest = λ j h. refl };
  list_long = refl;
  counted = λ S k m. record { put = put_none found list; done = λ x h. let z : ⊥ = omega (arith, h) in absurd z; rest = λ x h i. m.at x i };
}

lost_is : (S : Subject) (b : ℕ) (t : Bool) → t ≡ ltb 0 (S.chain b) && not (named S S.count b) → t ≡ lost S b
unfolding lost starts
lost_is S b t e = e

module _ (n found₀ : ℕ) (work₀ list₀ : List ℕ) (b : ℕ) (work list : List ℕ) (count : ℕ) (w : BlocksGoing n found₀ work₀ list₀ b work list count) (h : b < n)
    (room : n ≤ length work₀) where
  counted_on : (list' : List ℕ) (r : ℕ) (t : Bool) → ((c : ℕ) (was : Bool) → c ≤ 1000000 → get_or work b 0 ≡ mark c was → t ≡ ltb 0 c && not was)
      → Put count (when t (finding 4 b)) list list' r → (S : Subject) → Chains n S.chain → Counted S n found₀ list₀ b work list count
      → Counted S n found₀ list₀ (suc b) (set work b (get_or work b 0 % top)) list' r
  counted_on list' r t l p S k o =
      let c : ℕ = S.chain b in
      let e : get_or work b 0 ≡ mark c (named S S.count b) = o.rest b (omega arith) h in
      let q : t ≡ lost S b = lost_is S b t (l c (named S S.count b) (k.few b) e) in
      let m : get_or work b 0 % top ≡ c = ap (λ (x : ℕ). x % top) e ∙ mark_rest c (named S S.count b) (k.few b) in
      record {
        put = put_then found₀ count r (block_findings S b) (when (lost S b) (finding 4 b)) list₀ list list' o.put (subst (λ (x : Bool). Put count (when x (finding 4 b)) list list' r) q p);
        done = λ x i. ⊎_elim
            (λ (z : x ≡ b).
            ap (λ (y : ℕ). get_or (set work b (get_or work b 0 % top)) y 0) z
            ∙ get_or-set_same work b (get_or work b 0 % top) 0 (omega (arith, h, room, w.behind.long))
            ∙ m
            ∙ ap S.chain (sym z))
            (λ (z : x ≢ b). get_or-set_other work b x (get_or work b 0 % top) 0 z ∙ o.done x (below x i z))
            (same_or x b);
        rest = λ x i j. get_or-set_other work b x (get_or work b 0 % top) 0 (λ (z : x ≡ b). omega (arith, z, i)) ∙ o.rest x (omega (arith, i)) j;
      }
    where
      below : (x : ℕ) → x < suc b → x ≢ b → x < b
      below x i z = ⊎_elim (λ (y : b ≤ x). absurd (z (omega (arith, y, i)))) (λ y. y) (le_or_lt b x)

  pub blocks_on : (list' : List ℕ) (r : ℕ) (t : Bool) → length list' ≡ length list → LostSays (get_or work b 0) t
      → Put count (when t (finding 4 b)) list list' r
      → BlocksGoing n found₀ work₀ list₀ (b + 1) (set work b (get_or work b 0 % top)) list' r
  blocks_on list' r t long l p = record {
    to = omega (arith, h);
    bound = omega (arith, w.bound, p.count, when_most t (finding 4 b));
    behind =
        let s = behind_set n b (get_or work b 0 % top) work h in
        record { long = s.long ∙ w.behind.long; rest = λ j i. s.rest j i ∙ w.behind.rest j i };
    list_long = long ∙ w.list_long;
    counted = λ S k m.
        subst⁻¹ (λ (x : ℕ). Counted S n found₀ list₀ x (set work b (get_or work b 0 % top)) list' r) (add-one b) (counted_on list' r t l.says p S k (w.counted S k m));
  }

pub blocks_end : (n found₀ : ℕ) (work₀ list₀ : List ℕ) (b : ℕ) (work list : List ℕ) (count : ℕ) → BlocksGoing n found₀ work₀ list₀ b work list count → (b < n → ⊥)
    → BlocksSay n found₀ work₀ list₀ work list count
blocks_end n found₀ work₀ list₀ b work list count w h =
    let e : b ≡ n = ⊎_elim (λ (k : n ≤ b). omega (arith, k, w.to)) (λ k. absurd (h k)) (le_or_lt n b) in
    record {
      says = λ S k m.
          let o : Counted S n found₀ list₀ n work list count = subst (λ (x : ℕ). Counted S n found₀ list₀ x work list count) e (w.counted S k m) in
          record { put = o.put; chains = o.done };
      behind = w.behind;
      few = omega (arith, w.bound, w.to);
    }

-- ---- one pass

pub swept : (n l : ℕ) (f : Bytes) (work₀ work work' list₀ list list' : List ℕ) (found r : ℕ) → FilesSay n l f work₀ list₀ work list found
    → BlocksSay n found work list work' list' r → n ≤ 1000000 → SweepSays n l f work₀ list₀ work' list' r
unfolding findings
swept n l f work₀ work work' list₀ list list' found r a b few = record {
  says = λ chain k s.
      let o = a.says chain k s in
      let p = b.says (subject_of chain n l f) k o.looked.marked in
      record {
        count = omega (arith, p.put.count, o.count, length-append (file_findings (subject_of chain n l f) (count_of f)) (block_findings (subject_of chain n l f) n));
        wrote = p.put.wrote list₀ (file_findings (subject_of chain n l f) (count_of f)) o.count o.wrote;
        start = record { chains = p.chains; dead = dead_behind n f work work' b.behind o.looked.dead };
      };
  few = omega (arith, a.few, b.few, few);
}

-- ---- two passes

no_places : (v l : List ℕ) → length v ≡ 0 → v ++ l ≡ l
no_places [] l e = refl
no_places (x ∷ v) l e = let z : ⊥ = omega (arith, e) in absurd z

module _ (S : Subject) (list list₁ : List ℕ) (same : list₁ ≡ list) (count : ℕ) (c : count ≡ length (findings S)) where
  audit_short : length list₁ < 2 * count → AuditSound S list (audit_gives ListTooShort 0 list₁)
  audit_short h = inl (omega (arith, h, c, ap (λ (l : List ℕ). length l) same), ap (λ (l : List ℕ). audit_gives ListTooShort 0 l) same)

  audit_done : (list' : List ℕ) → 2 * count ≤ length list₁ → Wrote list₁ (findings S) list' → AuditSound S list (audit_gives Done count list')
  audit_done list' h w =
      let k : 2 * length (findings S) ≤ length list = omega (arith, h, c, ap (λ (l : List ℕ). length l) same) in
      let q : 0 + length (flat (findings S)) ≡ 2 * length (findings S) = omega (arith, length_flat (findings S)) in
      let e : list' ≡ flat (findings S) ++ drop (2 * length (findings S)) list =
      w.is (omega (arith, k, ap (λ (l : List ℕ). length l) same))
      ∙ ap (λ (l : List ℕ). sets l 0 (flat (findings S))) same
      ∙ sets-eq (flat (findings S)) list 0 (omega (arith, length_flat (findings S), k))
      ∙ ap (λ (m : ℕ). flat (findings S) ++ drop m list) q in
      inr ((λ z. omega (arith, z, k)), λ i. audit_gives Done (c i) (e i))

module _ (n l : ℕ) (f : Bytes) (work work₁ list none v : List ℕ) (count : ℕ) (a : SweepSays n l f work none work₁ v count) (z : length v ≡ 0) where
  pub report_short : length (v ++ list) < 2 * count → ReportSays n l f work list (audit_gives ListTooShort 0 (v ++ list))
  report_short h = record { says = λ chain k s. audit_short (subject_of chain n l f) list (v ++ list) (no_places v list z) count (a.says chain k s).count h }

  pub report_done : (work₂ list' : List ℕ) (again : ℕ) → 2 * count ≤ length (v ++ list) → SweepSays n l f work₁ (v ++ list) work₂ list' again
      → ReportSays n l f work list (audit_gives Done count list')
  report_done work₂ list' again h b = record {
    says = λ chain k s.
        let o = a.says chain k s in
        audit_done (subject_of chain n l f) list (v ++ list) (no_places v list z) count o.count list' h (b.says chain k o.start).wrote;
  }

-- ---- the audit

pub audit_says : (n : ℕ) (t : Bytes) (l : ℕ) (f : Bytes) (work₁ list : List ℕ) (o : Audit) → Ready n t l f → words.Bytes t → Start n (chain_of n t) f work₁
    → ReportSays n l f work₁ list o → AuditSound (subject n t l f) list o
audit_says n t l f work₁ list o R g s r = r.says (chain_of n t) (chains_of n t (whole_of n t R.volume g)) s

pub audit_clear : (work v w : List ℕ) → v ≡ replicate (length w) 0 → length w ≡ length work → v ≡ replicate (length work) 0
audit_clear work v w e q = e ∙ ap (λ (m : ℕ). replicate m 0) q
