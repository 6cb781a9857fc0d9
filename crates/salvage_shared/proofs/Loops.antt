-- The loops over the first blocks: what is judged, counted and told of those before place i.
use mathlib.Core.Path.{◌≡◌, refl, sym, ap, subst, ◌∙◌}
use mathlib.Core.List.{List, [], ◌∷◌, ◌++◌, append-nil, append_assoc}
use mathlib.Core.Bool.{Bool, true, false, cond}
use Prim.Native.Nat.{ℕ, zero, suc, ◌+◌, ◌*◌, ◌≤◌, ◌<◌}
use native.Mathlib.Omega.{arith}
use lib.Dec.{eqb, leb}
use lib.ListN.{length, get_or, drop, drop_of_length-le}
use lib.Seq.{sets, sets-eq, drop-cons}
use borrow.Author.Tests.{eq-eqb, ne_eqb, le-leb, eqb-true}
use Rattle.order.specs.declared.Fault.{Fault}
use Rattle.fat_node.specs.Entry.{Bytes}
use Rattle.fat_node.specs.Node.{Run, NodeAt}
use Rattle.fat_table.specs.Chain.{total}
use Rattle.salvage.specs.Follow.{salvaged, salvage, unread}
use Rattle.salvage.specs.Inner.Walks.{WalkSays}
use Rattle.salvage.proofs.Reading.{unread_not}
use Rattle.salvage.proofs.Bounds.{apart_none, total_apart}
use Rattle.salvage.proofs.Follows.{left, follow_none}
use Rattle.salvage.proofs.Walks.{unreadable}
use Rattle.salvage_shared.specs.Shared.{kind_of, kinds, whole_runs, laid, told, tells}
use Rattle.salvage_shared.specs.Inner.Says.{Counts, Added, MeetsRuns, Tells, TellsAll, Kinds, MayJudge, Judges, MayShare, JudgedAll}
use Rattle.salvage_shared.proofs.Counted.{added_none, added_append}

-- ---- places

-- what stands from place i on, where there is one
pub from_at : (l : List ℕ) (i : ℕ) → i < length l → drop i l ≡ get_or l i 0 ∷ drop (i + 1) l
from_at l i h = let q : suc i ≡ i + 1 = omega arith in drop-cons l i 0 h ∙ ap (λ (j : ℕ). get_or l i 0 ∷ drop j l) q

-- a whole list written
pub sets_all : (vs l : List ℕ) → length vs ≡ length l → sets l 0 vs ≡ vs
sets_all vs l e =
    sets-eq vs l 0 (omega (arith, e)) ∙ ap (λ (r : List ℕ). vs ++ r) (drop_of_length-le l {i = 0 + length vs} (omega (arith, e))) ∙ append-nil vs

-- ---- what is judged

module _ (n : ℕ) (t : Bytes) (b : ℕ) where
  kind_whole : (salvaged n t b).why.rule ≡ 0 → kind_of n t b ≡ 0
  unfolding kind_of
  kind_whole e = rw (eq-eqb (salvaged n t b).why.rule 0 e)

  kind_cut : ((salvaged n t b).why.rule ≡ 0 → ⊥) → kind_of n t b ≡ 1
  unfolding kind_of
  kind_cut e = rw (ne_eqb (salvaged n t b).why.rule 0 e)

  pub kind_tells : kind_of n t b ≡ 0 → (salvaged n t b).why.rule ≡ 0
  unfolding kind_of
  kind_tells = go (eqb (salvaged n t b).why.rule 0) refl
    where
      go : (x : Bool) → eqb (salvaged n t b).why.rule 0 ≡ x → ◌≡◌ {A = ℕ} (cond x 0 1) 0 → (salvaged n t b).why.rule ≡ 0
      go true e h = eqb-true (salvaged n t b).why.rule 0 e
      go false e h = absurd (omega (arith, h))

  pub few : total (salvaged n t b).runs ≤ n
  few = total_apart n (salvaged n t b).runs (left (suc n) n t [] 0 (suc b) (apart_none n)).apart

  next_more : (spent kind spent' : ℕ) → spent ≤ 4 * n → kind_of n t b ≡ kind → spent' ≡ spent + total (salvaged n t b).runs → (bs : List ℕ)
      → kinds n t (b ∷ bs) spent ≡ kind ∷ kinds n t bs spent'
  next_more spent kind spent' h e q bs =
      ap (λ (x : Bool). cond x (kind_of n t b ∷ kinds n t bs (spent + total (salvaged n t b).runs)) (3 ∷ kinds n t bs spent)) (le-leb spent (4 * n) h)
      ∙ ap (λ (k : ℕ). k ∷ kinds n t bs (spent + total (salvaged n t b).runs)) e
      ∙ ap (λ (s : ℕ). kind ∷ kinds n t bs s) (sym q)

  none : n ≤ b → (s : ℕ) → NodeAt t n b s → ⊥
  none h s w = omega (arith, h, w.some, w.within)

  pub out : n ≤ b → salvaged n t b ≡ salvage [] (unread n t 0 b)
  out h = follow_none n n t [] 0 b (unreadable n t b (none h))

  pub judge_out : (w : List ℕ) (m spent : ℕ) → MayJudge n t w m spent → spent ≤ 4 * n → n ≤ b → Judges n t b m spent w 1 spent
  judge_out w m spent a s h = record {
    next = next_more spent 1 spent s (kind_cut (λ z. unread_not n t b 0 (unreadable n t b (none h)) (ap (λ x. x.why.rule) (sym (out h)) ∙ z))) (omega (arith, ap (λ x. total x.runs) (out h)));
    free = λ x. omega (arith, a.free x);
    few = a.few;
    long = a.sized.long;
  }

  module _ (m spent count : ℕ) (why : Fault) (w' : List ℕ) (s : WalkSays n t b m count why w') (h : spent ≤ 4 * n) where
    judge_room : spent + count ≤ 5 * n
    judge_room = omega (arith, h, s.sum, few)

    judged : (kind spent' : ℕ) → kind_of n t b ≡ kind → spent' ≡ spent + count → Judges n t b m spent w' kind spent'
    judged kind spent' e q = record {
      next = next_more spent kind spent' h e (omega (arith, q, s.sum));
      free = s.least;
      few = omega (arith, q, judge_room);
      long = s.long;
    }

    pub judge_whole : (spent' : ℕ) → spent' ≡ spent + count → why.rule ≡ 0 → Judges n t b m spent w' 0 spent'
    judge_whole spent' q e = judged 0 spent' (kind_whole (ap (λ (f : Fault). f.rule) (sym s.ended) ∙ e)) q

    pub judge_cut : (spent' : ℕ) → spent' ≡ spent + count → (why.rule ≡ 0 → ⊥) → Judges n t b m spent w' 1 spent'
    judge_cut spent' q e = judged 1 spent' (kind_cut (λ z. e (ap (λ (f : Fault). f.rule) s.ended ∙ z))) q

pub judge_fits : (n : ℕ) (t : Bytes) (b m spent count : ℕ) (why : Fault) (w w' : List ℕ) → MayJudge n t w m spent → WalkSays n t b m count why w' → spent ≤ 4 * n
    → spent + count < 18446744073709551616
judge_fits n t b m spent count why w w' a s h = omega (arith, judge_room n t b m spent count why w' s h, a.sized.small)

-- the first blocks before place i are judged
pub record Judging (n : ℕ) (t : Bytes) (firsts l₀ work l : List ℕ) (spent i : ℕ) : Type 0 where
  pub is : sets l₀ 0 (kinds n t firsts 0) ≡ sets l i (kinds n t (drop i firsts) spent)
  pub long : length l ≡ length l₀
  pub next : MayJudge n t work (i + 1) spent

module _ (n : ℕ) (t : Bytes) (firsts l₀ work l : List ℕ) (spent i : ℕ) (g : Judging n t firsts l₀ work l spent i) where
  ended : length firsts ≤ i → l ≡ sets l₀ 0 (kinds n t firsts 0)
  ended h = sym (g.is ∙ ap (λ (bs : List ℕ). sets l i (kinds n t bs spent)) (drop_of_length-le firsts {i = i} h))

-- as many as there are first blocks
pub kinds_many : (n : ℕ) (t : Bytes) (firsts : List ℕ) (spent : ℕ) → length (kinds n t firsts spent) ≡ length firsts
kinds_many n t [] spent = refl
kinds_many n t (b ∷ bs) spent = go (leb spent (4 * n)) (kinds_many n t bs)
  where
    go : (x : Bool) → ((s : ℕ) → length (kinds n t bs s) ≡ length bs)
        → length (cond x (kind_of n t b ∷ kinds n t bs (spent + total (salvaged n t b).runs)) (3 ∷ kinds n t bs spent)) ≡ suc (length bs)
    go true h = ap suc (h (spent + total (salvaged n t b).runs))
    go false h = ap suc (h spent)

pub judging_end : (n : ℕ) (t : Bytes) (firsts l₀ work₀ work l : List ℕ) (spent i : ℕ) → MayShare n t work₀ firsts l₀ → Judging n t firsts l₀ work l spent i
    → length firsts ≤ i → JudgedAll n t firsts l work
judging_end n t firsts l₀ work₀ work l spent i a g h = record {
  told = ended n t firsts l₀ work l spent i g h ∙ sets_all (kinds n t firsts 0) l₀ (kinds_many n t firsts 0 ∙ sym a.many);
  long = g.next.sized.long;
}

-- 0 is told of whole chains alone
pub kinds_whole : (n : ℕ) (t : Bytes) (firsts : List ℕ) (spent i : ℕ) → i < length firsts → get_or (kinds n t firsts spent) i 0 ≡ 0
    → (salvaged n t (get_or firsts i 0)).why.rule ≡ 0
kinds_whole n t [] spent i h = absurd (omega (arith, h))
kinds_whole n t (b ∷ bs) spent zero h = go (leb spent (4 * n))
  where
    go : (x : Bool) → get_or (cond x (kind_of n t b ∷ kinds n t bs (spent + total (salvaged n t b).runs)) (3 ∷ kinds n t bs spent)) 0 0 ≡ 0 → (salvaged n t b).why.rule ≡ 0
    go true e = kind_tells n t b e
    go false e = absurd (omega (arith, e))
kinds_whole n t (b ∷ bs) spent (suc i) h = go (leb spent (4 * n)) (λ s. kinds_whole n t bs s i (omega (arith, h)))
  where
    go : (x : Bool) → ((s : ℕ) → get_or (kinds n t bs s) i 0 ≡ 0 → (salvaged n t (get_or bs i 0)).why.rule ≡ 0)
        → get_or (cond x (kind_of n t b ∷ kinds n t bs (spent + total (salvaged n t b).runs)) (3 ∷ kinds n t bs spent)) (suc i) 0 ≡ 0
        → (salvaged n t (get_or bs i 0)).why.rule ≡ 0
    go true f e = f (spent + total (salvaged n t b).runs) e
    go false f e = f spent e

-- ---- what is counted

whole_runs_lem : (n : ℕ) (t : Bytes) (b k : ℕ) → k ≡ 0 → (salvaged n t b).runs ≡ whole_runs n t b k
unfolding whole_runs
whole_runs_lem n t b k e = rw (eq-eqb k 0 e)

no_runs : (n : ℕ) (t : Bytes) (b k : ℕ) → (k ≡ 0 → ⊥) → [] ≡ whole_runs n t b k
unfolding whole_runs
no_runs n t b k e = rw (ne_eqb k 0 e)

pub lay_whole : (n : ℕ) (t : Bytes) (w w' : List ℕ) (b k : ℕ) → k ≡ 0 → Added w w' (salvaged n t b).runs → Added w w' (whole_runs n t b k)
lay_whole n t w w' b k e a = subst (Added w w') (whole_runs_lem n t b k e) a

pub lay_not : (n : ℕ) (t : Bytes) (w : List ℕ) (b k : ℕ) → (k ≡ 0 → ⊥) → Added w w (whole_runs n t b k)
lay_not n t w b k e = subst (Added w w) (no_runs n t b k e) (added_none w)

-- the first blocks before place i are counted
pub record Laying (n : ℕ) (t : Bytes) (firsts ks w₀ w : List ℕ) (i : ℕ) : Type 0 where
  pub done : List Run
  pub added : Added w₀ w done
  pub is : laid n t firsts ks ≡ done ++ laid n t (drop i firsts) (drop i ks)

module _ (n : ℕ) (t : Bytes) (firsts ks w₀ w : List ℕ) (i : ℕ) (g : Laying n t firsts ks w₀ w i) where
  pub laying_on : i < length firsts → Kinds n t w₀ firsts ks → (w' : List ℕ) → Added w w' (whole_runs n t (get_or firsts i 0) (get_or ks i 0)) → Laying n t firsts ks w₀ w' (i + 1)
  laying_on h a w' d =
      let one : List Run = whole_runs n t (get_or firsts i 0) (get_or ks i 0) in
      record {
        done = g.done ++ one;
        added = added_append w₀ w w' g.done one g.added d;
        is = g.is
            ∙ ap (λ (bs : List ℕ). g.done ++ laid n t bs (drop i ks)) (from_at firsts i h)
            ∙ ap (λ (qs : List ℕ). g.done ++ laid n t (get_or firsts i 0 ∷ drop (i + 1) firsts) qs) (from_at ks i (omega (arith, h, a.many)))
            ∙ sym (append_assoc g.done one (laid n t (drop (i + 1) firsts) (drop (i + 1) ks)));
      }

-- ---- what is told

module _ (n : ℕ) (t : Bytes) (w : List ℕ) (b k : ℕ) where
  cut : (k ≡ 0 → ⊥) → (l : List Run) → k ≡ told n t l b k
  unfolding told
  cut e l = rw (ne_eqb k 0 e)

  pub tell_cut : (k ≡ 0 → ⊥) → Tells n t w b k k
  tell_cut e = record { is = λ l c. cut e l }

  module _ (e : k ≡ 0) (r : Bool) (m : MeetsRuns w (salvaged n t b).runs r) where
    shared : r ≡ true → (l : List Run) → Counts w l → 2 ≡ told n t l b k
    unfolding told
    shared f l c = rw (eq-eqb k 0 e, sym (m.is l c) ∙ f)

    alone : r ≡ false → (l : List Run) → Counts w l → k ≡ told n t l b k
    unfolding told
    alone f l c = e ∙ rw (eq-eqb k 0 e, sym (m.is l c) ∙ f)

    pub tell_shared : (v : ℕ) → v ≡ 2 → r ≡ true → Tells n t w b k v
    tell_shared v z f = record { is = λ l c. z ∙ shared f l c }

    pub tell_alone : r ≡ false → Tells n t w b k k
    tell_alone f = record { is = alone f }

-- of the first blocks before place i it is told; the later places have what was judged
pub record Telling (n : ℕ) (t : Bytes) (w firsts ks l : List ℕ) (i : ℕ) : Type 0 where
  pub is : (c : List Run) → Counts w c → sets ks 0 (tells n t c firsts ks) ≡ sets l i (tells n t c (drop i firsts) (drop i ks))
  pub same : (j : ℕ) → i ≤ j → get_or l j 0 ≡ get_or ks j 0
  pub long : length l ≡ length ks

tells_many : (n : ℕ) (t : Bytes) (c : List Run) (firsts ks : List ℕ) → length ks ≡ length firsts → length (tells n t c firsts ks) ≡ length ks
tells_many n t c [] [] e = refl
tells_many n t c [] (k ∷ ks) e = absurd (omega (arith, e))
tells_many n t c (b ∷ bs) [] e = refl
tells_many n t c (b ∷ bs) (k ∷ ks) e = ap suc (tells_many n t c bs ks (omega (arith, e)))

module _ (n : ℕ) (t : Bytes) (w firsts ks l : List ℕ) (i : ℕ) (g : Telling n t w firsts ks l i) where
  pub telling_end : length firsts ≤ i → Kinds n t w firsts ks → TellsAll n t w firsts ks l
  telling_end h a = record {
    is = λ c d.
        sym (g.is c d ∙ ap (λ (bs : List ℕ). sets l i (tells n t c bs (drop i ks))) (drop_of_length-le firsts {i = i} h))
        ∙ sets_all (tells n t c firsts ks) ks (tells_many n t c firsts ks a.many);
  }
