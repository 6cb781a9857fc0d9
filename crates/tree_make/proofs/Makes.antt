-- Make on sound tables, by the places of its code.
use mathlib.Core.Path.{◌≡◌, refl, sym, ap, ap₂, ◌∙◌, subst}
use mathlib.Core.List.{List, [], ◌∷◌, ◌++◌}
use mathlib.Core.Logic.{inl, ◌≢◌}
use Prim.Native.Nat.{ℕ, zero, suc, ◌+◌, ◌-◌, ◌*◌, ◌/◌, ◌≤◌, ◌<◌}
use native.Mathlib.Omega.{arith}
use native.Mathlib.Nat.{div-mul-le_self}
use lib.ListN.{length}
use Rattle.order.specs.First.{Row}
use Rattle.order.specs.Given.{Given, None}
use Rattle.order.specs.Answer.{Answer}
use Rattle.order.specs.Answer.{Done}
use Rattle.links.specs.Links.{◌∈◌, Links}
use Rattle.links.specs.Change.{pick, walk}
use Rattle.links.proofs.Laws.{by_eq}
use Rattle.tree_table.specs.Field.{field}
use Rattle.tree_table.specs.View.{removed_of, LiveIn}
use Rattle.tree_table.specs.Steps.{taken, free_of}
use Rattle.tree_packed.specs.Opens.{Opens, opens, with_record}
use Rattle.tree_opens.specs.Record.{writer_alone}
use Rattle.tree_sound.specs.Tables.{Tables, tables, dirs, files}
use Rattle.tree_promises.specs.declared.Kind.TheVariants.{Directory, File}
use Rattle.tree_promises.specs.Steps.{made}
use Rattle.tree_promises.specs.Calls.{make_tests}
use Rattle.tree_promises.specs.Packed.{gives, refuse, Inside, make_tests_in, make_done}
use Rattle.tree_promises.specs.Inner.Ready.{Ready, ReadyOpens, Single, alone, hashed}
use Rattle.tree_make.specs.Inner.Take.{Takes}
use Rattle.tree_look.proofs.Lists.{inside, all_fit, dir_single, file_single}
use Rattle.tree_look.proofs.Given.{given_first}
use Rattle.tree_look.proofs.Lives.{first_fits}
use Rattle.tree_judge.proofs.Judges.{live_sure}
use Rattle.tree_judge.proofs.Rows.{call_done}
use Rattle.tree_judge.proofs.Makes.{place_tests}

-- a list that does not start at 0 holds its first entry
first_in : (next : ℕ → ℕ) (h : ℕ) (xs : List ℕ) → Links next h xs → h ≢ 0 → h ∈ xs
first_in next h [] l n = absurd (n l)
first_in next h (y ∷ ys) l n = inl l.0

none_left : (next : ℕ → ℕ) (k x : ℕ) → x ≡ 0 → length (walk next k x) ≡ 0
none_left next zero x e = refl
none_left next (suc k) zero e = refl
none_left next (suc k) (suc x) e = absurd (omega arith)

module _ {h t : List ℕ} {w : ℕ} (S : Single h t w) (free : free_of (alone w t) ≡ 0 → ⊥) where
  abbrev first : ℕ
  first = field w t 0 0

  abbrev count : ℕ
  count = field w t 0 1

  -- a removed entry lies below count
  below : first ≢ 0 → first < count
  below n = S.table.removed_below first (first_in (λ y. field w t y 0) first (removed_of (alone w t)) S.table.removed n)

  -- where none is removed, one was never used
  left : first ≡ 0 → count < field w t 0 2
  left e =
      let z : length (removed_of (alone w t)) ≡ 0 = none_left (λ y. field w t y 0) count first e in
      let n : (field w t 0 2 - count + length (removed_of (alone w t)) ≡ 0) → ⊥ = free in
      let q : field w t 0 2 - count + length (removed_of (alone w t)) ≢ 0 = n in
      omega (arith, S.table.count_max)

  room_low : (x : ℕ) → x < length t / w → x * w + w ≤ length t
  room_low x l = inside t w x (length t / w) l (div-mul-le_self (length t) w)

  taken_low : taken (alone w t) < length t / w
  taken_low =
      by_eq first 0 (λ b. pick b count first < length t / w)
      (λ e. omega (arith, left e, S.table.max_room))
      (λ n. omega (arith, below n, S.table.count_max, S.table.max_room))

  pub takes : Takes w t
  takes = record {
    first = first_fits S;
    removed = by_eq first 0 (λ _. first * w + w ≤ length t) (λ e. subst (λ z. z * w + w ≤ length t) (sym e) (omega (arith, first_fits S))) (λ n. inside t w first count (below n) (all_fit h t w S));
    few = λ e. omega (arith, left e, S.table.max_room, S.few);
    inside = room_low (taken (alone w t)) taken_low;
    low = taken_low;
  }

-- what passed tests give
module _ (s : Tables) (R : Ready s) (p : ℕ) (name : List ℕ) where
  goal : None (make_tests s (files s) p name) → LiveIn (dirs s) p
  goal n = live_sure 40 s.dir_table p n.1.0

  parent_fits : LiveIn (dirs s) p → p * 40 + 40 ≤ length s.dir_table
  parent_fits l = inside s.dir_table 40 p (field 40 s.dir_table 0 1) l.1 (all_fit s.dir_hash s.dir_table 40 (dir_single s R))

  pub new_file_asks : None (make_tests s (files s) p name) → Takes 48 s.file_table × (p * 40 + 40 ≤ length s.dir_table) × (0 < length s.file_hash / 4)
  new_file_asks n = (takes (file_single s R) n.1.1.1.0, parent_fits (live_sure 40 s.dir_table p n.1.0), R.file_buckets)

  pub new_dir_asks : None (make_tests s (dirs s) p name) → Takes 40 s.dir_table × (p * 40 + 40 ≤ length s.dir_table) × (0 < length s.dir_hash / 4)
  new_dir_asks n = (takes (dir_single s R) n.1.1.1.0, parent_fits (live_sure 40 s.dir_table p n.1.0), R.dir_buckets)

-- what the call gives
pub gave_file : (dh d h f d' h' f' : List ℕ) (o o' : Opens) (x p : ℕ) (name carried : List ℕ) → x ≡ taken (alone 48 f)
    → d' ≡ (made File (tables [] d h f) p name carried).dir_table → h' ≡ (made File (tables [] d h f) p name carried).file_hash → f' ≡ (made File (tables [] d h f) p name carried).file_table
    → o' ≡ with_record o x writer_alone
    → gives Done x (tables dh d' h' f') o' ≡ make_done File (tables dh d h f) o p name carried
gave_file dh d h f d' h' f' o o' x p name carried ex ed eh ef eo =
    ap (λ (z : Opens). gives Done x (tables dh d' h' f') z) eo
    ∙ ap (λ z. gives Done z (tables dh d' h' f') (with_record o z writer_alone)) ex
    ∙ ap (λ z. gives Done (taken (alone 48 f)) (tables dh z h' f') (with_record o (taken (alone 48 f)) writer_alone)) ed
    ∙ ap₂ (λ y z. gives Done (taken (alone 48 f)) (tables dh (made File (tables [] d h f) p name carried).dir_table y z) (with_record o (taken (alone 48 f)) writer_alone)) eh ef

pub gave_dir : (h d fh f h' d' : List ℕ) (o o' : Opens) (x p : ℕ) (name padding : List ℕ) → x ≡ taken (alone 40 d)
    → h' ≡ (made Directory (tables h d [] []) p name padding).dir_hash → d' ≡ (made Directory (tables h d [] []) p name padding).dir_table
    → o' ≡ with_record o x writer_alone
    → gives Done x (tables h' d' fh f) o' ≡ make_done Directory (tables h d fh f) o p name padding
gave_dir h d fh f h' d' o o' x p name padding ex eh ed eo =
    ap (λ (z : Opens). gives Done x (tables h' d' fh f) z) eo
    ∙ ap (λ z. gives Done z (tables h' d' fh f) (with_record o z writer_alone)) ex
    ∙ ap₂ (λ y z. gives Done (taken (alone 40 d)) (tables y z fh f) (with_record o (taken (alone 40 d)) writer_alone)) eh ed

none_front : (rs qs : List (Row Answer)) → None (rs ++ qs) → None rs
none_front [] qs n = tt
none_front (r ∷ rs) qs n = (n.0, none_front rs qs n.1)

-- ---- the ends of make

module _ (dh d h f l : List ℕ) (k p : ℕ) (name : List ℕ) where
  abbrev here : Tables
  here = tables dh d h f

  abbrev o : Opens
  o = opens k l

  pub make_file_no : (a : Answer) (carried : List ℕ) → Given (make_tests_in (tables dh d [] []) (hashed 48 h f) (opens k l) p name) a
      → Inside (tables dh d h f) (opens k l) (make_tests_in (tables dh d h f) (files (tables dh d h f)) (opens k l) p name) (make_done File (tables dh d h f) (opens k l) p name carried) (gives a 0 (tables dh d h f) (opens k l))
  make_file_no a carried g = given_first (refuse here o) (make_done File here o p name carried) (make_tests_in here (files here) o p name) a g

  pub new_file_may : ReadyOpens (tables dh d h f) (opens k l) → None (make_tests_in (tables dh d [] []) (hashed 48 h f) (opens k l) p name) → Takes 48 f × (p * 40 + 40 ≤ length d) × (0 < length h / 4)
  new_file_may R go =
      new_file_asks here R.ready p name
      (none_front (make_tests here (files here) p name) (place_tests o (taken (files here))) go)

  pub make_file_done : (d' h' f' : List ℕ) (x : ℕ) (carried : List ℕ) → None (make_tests_in (tables dh d [] []) (hashed 48 h f) (opens k l) p name)
      → (x ≡ taken (alone 48 f)) × (d' ≡ (made File (tables [] d h f) p name carried).dir_table)
      × (h' ≡ (made File (tables [] d h f) p name carried).file_hash) × (f' ≡ (made File (tables [] d h f) p name carried).file_table)
      → (k' : ℕ) (l' : List ℕ) → opens k' l' ≡ with_record (opens k l) x writer_alone
      → Inside (tables dh d h f) (opens k l) (make_tests_in (tables dh d h f) (files (tables dh d h f)) (opens k l) p name) (make_done File (tables dh d h f) (opens k l) p name carried) (gives Done x (tables dh d' h' f') (opens k' l'))
  make_file_done d' h' f' x carried go new k' l' eo =
      call_done (refuse here o) (make_done File here o p name carried) (gives Done x (tables dh d' h' f') (opens k' l'))
      (make_tests_in here (files here) o p name) go
      (gave_file dh d h f d' h' f' o (opens k' l') x p name carried new.0 new.1 new.2 new.3 eo)

  pub make_dir_no : (a : Answer) (padding : List ℕ) → Given (make_tests_in (tables dh d [] []) (hashed 40 dh d) (opens k l) p name) a
      → Inside (tables dh d h f) (opens k l) (make_tests_in (tables dh d h f) (dirs (tables dh d h f)) (opens k l) p name) (make_done Directory (tables dh d h f) (opens k l) p name padding) (gives a 0 (tables dh d h f) (opens k l))
  make_dir_no a padding g = given_first (refuse here o) (make_done Directory here o p name padding) (make_tests_in here (dirs here) o p name) a g

  pub new_dir_may : ReadyOpens (tables dh d h f) (opens k l) → None (make_tests_in (tables dh d [] []) (hashed 40 dh d) (opens k l) p name) → Takes 40 d × (p * 40 + 40 ≤ length d) × (0 < length dh / 4)
  new_dir_may R go =
      new_dir_asks here R.ready p name
      (none_front (make_tests here (dirs here) p name) (place_tests o (taken (dirs here))) go)

  pub make_dir_done : (h' d' : List ℕ) (x : ℕ) (padding : List ℕ) → None (make_tests_in (tables dh d [] []) (hashed 40 dh d) (opens k l) p name)
      → (x ≡ taken (alone 40 d)) × (h' ≡ (made Directory (tables dh d [] []) p name padding).dir_hash)
      × (d' ≡ (made Directory (tables dh d [] []) p name padding).dir_table)
      → (k' : ℕ) (l' : List ℕ) → opens k' l' ≡ with_record (opens k l) x writer_alone
      → Inside (tables dh d h f) (opens k l) (make_tests_in (tables dh d h f) (dirs (tables dh d h f)) (opens k l) p name) (make_done Directory (tables dh d h f) (opens k l) p name padding) (gives Done x (tables h' d' h f) (opens k' l'))
  make_dir_done h' d' x padding go new k' l' eo =
      call_done (refuse here o) (make_done Directory here o p name padding) (gives Done x (tables h' d' h f) (opens k' l'))
      (make_tests_in here (dirs here) o p name) go
      (gave_dir dh d h f h' d' o (opens k' l') x p name padding new.0 new.1 new.2 eo)
