-- What a history does to tables, by the calls' own promises.
use mathlib.Core.Path.{◌≡◌, refl, ap, subst⁻¹, ◌∙◌}
use mathlib.Core.List.{List, [], ◌∷◌, ◌++◌}
use mathlib.Core.Logic.{inl, ⊎_elim}
use Prim.Native.Nat.{ℕ, suc, ◌*◌, ◌≤◌}
use native.Mathlib.Omega.{arith}
use lib.ListN.{length, replicate, length-replicate}
use Rattle.words.proofs.Laws as words
use Rattle.order.specs.Answer.{Done}
use Rattle.fat_node.specs.Entry.{Bytes}
use Rattle.fat_node.specs.Node.{Run}
use Rattle.fat_node.specs.Sizes.{blocks}
use Rattle.fat_table.specs.Chain.{total, free_at}
use Rattle.fat_table.specs.Layout.{Layout, layout, taken, left}
use Rattle.fat_table.specs.Steps.{first, created, deleted}
use Rattle.fat_table.specs.Holds.{Holds}
use Rattle.fat_table.proofs.Stepped.{free_read, holds_create, holds_delete, holds_order}
use Rattle.fat_table.proofs.Sounds.{holds_sound}
use Rattle.fat_table.proofs.Files.{Whole, is_file, bytes_created, bytes_deleted}
use Rattle.fat_table.specs.Sound.{File}
use Rattle.fat_test.specs.Gate.{InUse}
use Rattle.fat_promises.specs.Promise.{Beside}
use Rattle.fat_promises.specs.Calls.{Create, MayCreate, CreatePromise, Change, MayDelete, DeletePromise}
use Rattle.fat_promises.proofs.Unique.{one_create, one_delete}
use Rattle.fat_history.proofs.Passes.{Passed}
use Rattle.fat_history.proofs.Means.{create_done_lem, create_last, delete_done_lem, delete_last}
use Rattle.fat_history.proofs.Honest.{blocks_of_lem, as_blocks}
use Rattle.fat_retrace.specs.History.{Call, create, delete}
use Rattle.fat_retrace.specs.Ends.{Ends}
use Rattle.fat_retrace.proofs.Goes as goes
use Rattle.fat_retrace.proofs.Goes.{Goes}

-- the calls of a history, one after the other from the table t on, each by its own promise and answered Done, end in t'; d is the length of the data, l the
-- block length
pub data Ran : List Call → Bytes → Bytes → Type 0 where
  ran_none : {t : Bytes} → Ran [] t t
  ran_create : {h : List Call} {t t' : Bytes} (d l : ℕ) (work : List ℕ) (count : ℕ) (o : Beside Create) → CreatePromise t d l work count o
      → o.given.answer ≡ Done
      → Ran h o.given.table t'
      → Ran (create count ∷ h) t t'
  ran_delete : {h : List Call} {t t' : Bytes} (d l : ℕ) (work : List ℕ) (b : ℕ) (o : Beside Change) → DeletePromise t d l work b o
      → o.given.answer ≡ Done
      → Ran h o.given.table t'
      → Ran (delete b ∷ h) t t'

-- a block length in use is within the sizes
used_fits : (l : ℕ) → InUse l → (1 ≤ l) × (l ≤ 65536)
used_fits l u = ⊎_elim (λ e. (omega (arith, e), omega (arith, e))) (λ e. (omega (arith, e), omega (arith, e))) u

-- a table of n blocks of bytes that holds a layout
pub record Held (n : ℕ) (t : Bytes) (L : Layout) : Type 0 where
  pub bytes : words.Bytes t
  pub holds : Holds n t L

module _ (n : ℕ) (some : 1 ≤ n) (small : n ≤ 1000000) (t : Bytes) (l : ℕ) (used : InUse l) (work : List ℕ) (long : blocks t ≤ length work) where
  -- it may be worked on
  ready : (L : Layout) → Held n t L → Passed t (blocks t * l) l work
  ready L h =
      let e : blocks t ≡ n = blocks_of_lem n t h.holds.room in
      let w : Whole n t = record { small = small; bytes = h.bytes; room = h.holds.room; sound = holds_sound n small t L h.holds } in
      record { whole = as_blocks n t w; some = omega (arith, e, some); data_fits = refl; length_fits = used_fits l used; work_fits = long }

  -- a create is answered Done, and a table that holds the next layout is left
  may_create : (free : List Run) (files : List (List Run)) (c : ℕ) → 1 ≤ c → c ≤ total free → Held n t (layout free files) → MayCreate (blocks t) t c
  may_create free files c a b h =
      let e : blocks t ≡ n = blocks_of_lem n t h.holds.room in
      let fr : total (free_at (blocks t) t) ≡ total free =
      ap (λ (x : ℕ). total (free_at x t)) e ∙ ap total (free_read n small t (layout free files) h.holds) in
      record { some = a; enough = omega (arith, fr, b) }

  held_create : (free : List Run) (files : List (List Run)) (c : ℕ) → 1 ≤ c → c ≤ total free → Held n t (layout free files)
      → Held n (created (blocks t) t c) (layout (left free c) (taken free c ∷ files))
  held_create free files c a b h =
      let q : created (blocks t) t c ≡ created n t c = ap (λ (x : ℕ). created x t c) (blocks_of_lem n t h.holds.room) in
      record {
        bytes = bytes_created (blocks t) t 0 c h.bytes;
        holds = subst⁻¹ (λ (x : Bytes). Holds n x (layout (left free c) (taken free c ∷ files))) q (holds_create n small t free files h.holds c a b);
      }

  -- and so is a delete
  may_delete : (free f : List Run) (files : List (List Run)) (b : ℕ) → first f ≡ suc b → Held n t (layout free (f ∷ files)) → MayDelete (blocks t) t b
  may_delete free f files b at h = record {
    file = subst⁻¹ (λ (x : ℕ). File t x b) (blocks_of_lem n t h.holds.room) (is_file n small t free f files b h.holds at);
  }

  held_delete : (free f : List Run) (files : List (List Run)) (b : ℕ) → first f ≡ suc b → Held n t (layout free (f ∷ files))
      → Held n (deleted (blocks t) t b) (layout (f ++ free) files)
  held_delete free f files b at h =
      let q : deleted (blocks t) t b ≡ deleted n t b = ap (λ (x : ℕ). deleted x t b) (blocks_of_lem n t h.holds.room) in
      record {
        bytes = bytes_deleted (blocks t) t b 0 h.bytes;
        holds = subst⁻¹ (λ (x : Bytes). Holds n x (layout (f ++ free) files)) q (holds_delete n small t free f files h.holds b at);
      }

-- what calls give that keep their promises is what Done gives
sure_create : (t : Bytes) (d l : ℕ) (work : List ℕ) (c : ℕ) (h : List Call) (k : ℕ) (P : Bytes → Type 0) (o : Beside Create) → Passed t d l work → InUse l → MayCreate (blocks t) t c
    → CreatePromise t d l work c o
    → Ends h k (created (blocks t) t c) P
    → (o.given.answer ≡ Done) × Ends h k o.given.table P
sure_create t d l work c h k P o q u m p w =
    let e : o ≡ create_last t d l work c = one_create t d l work c o (create_last t d l work c) p (create_done_lem t d l work c q u m) in
    (ap (λ (x : Beside Create). x.given.answer) e, subst⁻¹ (λ (x : Beside Create). Ends h k x.given.table P) e w)

sure_delete : (t : Bytes) (d l : ℕ) (work : List ℕ) (b : ℕ) (h : List Call) (k : ℕ) (P : Bytes → Type 0) (o : Beside Change) → Passed t d l work → InUse l → MayDelete (blocks t) t b
    → DeletePromise t d l work b o
    → Ends h k (deleted (blocks t) t b) P
    → (o.given.answer ≡ Done) × Ends h k o.given.table P
sure_delete t d l work b h k P o q u m p w =
    let e : o ≡ delete_last t d l work b = one_delete t d l work b o (delete_last t d l work b) p (delete_done_lem t d l work b q u m) in
    (ap (λ (x : Beside Change). x.given.answer) e, subst⁻¹ (λ (x : Beside Change). Ends h k x.given.table P) e w)

-- what the calls from the table t on can make: a table that holds the layout M
pub record Led (n : ℕ) (h : List Call) (t : Bytes) (M : Layout) : Type 0 where
  pub end : Bytes
  pub runs_to : Ran h t end
  pub holds : Holds n end M

module _ (n : ℕ) (some : 1 ≤ n) (small : n ≤ 1000000) where
  -- what is done to a layout is done to every table that holds it, whatever keeps the promises
  pub sure : (l : ℕ) → InUse l → (P : Bytes → Type 0) {h : List Call} {L M : Layout} → Goes h L M → ((u : Bytes) → Holds n u M → P u) → (t : Bytes)
      → Held n t L
      → Ends h l t P
  sure l used P goes.none last t s = last t s.holds
  sure l used P (goes.order p w) last t s = sure l used P w last t (record { bytes = s.bytes; holds = holds_order p s.holds })
  sure l used P (goes.creates {h = h} {free = free} {files = files} c a b w) last t s = λ work o long p.
      sure_create t (blocks t * l) l work c h l P o (ready n some small t l used work long (layout free files) s) used (may_create n some small t l used work long free files c a b s) p
      (sure l used P w last (created (blocks t) t c) (held_create n some small t l used work long free files c a b s))
  sure l used P (goes.deletes {h = h} {free = free} {f = f} {files = files} b e w) last t s = λ work o long p.
      sure_delete t (blocks t * l) l work b h l P o (ready n some small t l used work long (layout free (f ∷ files)) s) used (may_delete n some small t l used work long free f files b e s) p
      (sure l used P w last (deleted (blocks t) t b) (held_delete n some small t l used work long free f files b e s))

  abbrev zeros : Bytes → List ℕ
  zeros t = replicate (blocks t) 0

  enough : (t : Bytes) → blocks t ≤ length (zeros t)
  enough t = omega (arith, length-replicate {A = ℕ} (blocks t) 0)

  used_here : InUse 512
  used_here = inl refl

  -- and there are such calls, over blocks of 512 bytes
  pub led : {h : List Call} {L M : Layout} → Goes h L M → (t : Bytes) → Held n t L → Led n h t M
  led goes.none t s = record { end = t; runs_to = ran_none; holds = s.holds }
  led (goes.order p w) t s = led w t (record { bytes = s.bytes; holds = holds_order p s.holds })
  led (goes.creates {free = free} {files = files} c a b w) t s =
      let k = led w (created (blocks t) t c) (held_create n some small t 512 used_here (zeros t) (enough t) free files c a b s) in
      record {
        end = k.end;
        runs_to = ran_create (blocks t * 512) 512 (zeros t) c (create_last t (blocks t * 512) 512 (zeros t) c)
            (create_done_lem t (blocks t * 512) 512 (zeros t) c (ready n some small t 512 used_here (zeros t) (enough t) (layout free files) s) used_here (may_create n some small t 512 used_here (zeros t) (enough t) free files c a b s)) refl k.runs_to;
        holds = k.holds;
      }
  led (goes.deletes {free = free} {f = f} {files = files} b e w) t s =
      let k = led w (deleted (blocks t) t b) (held_delete n some small t 512 used_here (zeros t) (enough t) free f files b e s) in
      record {
        end = k.end;
        runs_to = ran_delete (blocks t * 512) 512 (zeros t) b (delete_last t (blocks t * 512) 512 (zeros t) b)
            (delete_done_lem t (blocks t * 512) 512 (zeros t) b (ready n some small t 512 used_here (zeros t) (enough t) (layout free (f ∷ files)) s) used_here (may_delete n some small t 512 used_here (zeros t) (enough t) free f files b e s)) refl k.runs_to;
        holds = k.holds;
      }
