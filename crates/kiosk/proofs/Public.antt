-- The public call is the gate, then the rules judged on sound tables. Each end of it, as `search` finds it from what the two ensure.
use mathlib.Core.Path.{◌≡◌, refl, sym, ap, subst, subst⁻¹, ◌∙◌}
use mathlib.Core.List.{List, [], ◌∷◌, ◌++◌}
use mathlib.Core.Logic.{◌⊎◌, inl, inr, ⊎_elim}
use Prim.Native.Nat.{ℕ, ◌+◌, ◌*◌, ◌/◌, ◌≤◌, ◌<◌}
use native.Mathlib.Omega.{arith}
use lib.ListN.{length, get_or, take, drop, replicate, take-append-drop}
use lib.Seq.{length-take-le}
use Rattle.order.specs.First.{Row, First}
use Rattle.order.specs.Gate.{cleared}
use Rattle.std.specs.Prelude.{Err}
use Rattle.order.specs.declared.Refusal as why
use Rattle.order.specs.Answer.{Answer, Done}
use Rattle.order.proofs.Beside as rows
use Rattle.order.proofs.Gate.{gate_given, gate_none}
use Rattle.fat_node.specs.Entry.{Bytes}
use Rattle.fat_node.specs.Sizes.{blocks}
use Rattle.tree_table.specs.Field.{field}
use Rattle.tree_sound.specs.Sizes.{rooms}
use Rattle.tree_sound.specs.Tables.{Tables, tables, MisfitIn, OutsideIn, SoundIn}
use Rattle.volume_gate.specs.Gate.{places, Uneven, Unfit, broken_rows, volume_gate, Opened, VolumeGateOf}
use Rattle.audit.specs.Promise.{VolumePromise}
use Rattle.audit.specs.Inner.Opened.{OpenVolume}
use Rattle.audit.proofs.Public.{audit_ready, part_ready, part_long, part_clear}
use Rattle.audit_inner.specs.Inner.Marks.{Ready, Clear}
use Rattle.kiosk_inner.specs.Profile.{profile_rules, Broken}
use Rattle.kiosk_inner.specs.Inner.Judge.{Rooted, ReadyProfile, ProfileSays}
use Rattle.kiosk.specs.Promise.{Profile, beside, profile_gives, ruled, profile_rows, TestPromise, TestSays}
use Rattle.kiosk.specs.Inner.Opened.{OpenProfile, OpenSays}

-- ---- the gate is open

-- what sound entry tables say of the directories
pub rooted : (s : Tables) → SoundIn s → Rooted s.dir_table
rooted s v =
    let D = v.dirs in
    record {
      room = omega (arith, D.count_two, D.below.table.count_max, D.below.table.max_room);
      root = ap (λ (k : List ℕ). get_or k 0 0) D.root_key;
      list = D.below.lists 1 D.root_live;
      parents = D.below.parents;
      reach = D.reach;
    }

pub test_ready : (t : Bytes) (n l : ℕ) (dh d fh f : Bytes) (work work' : List ℕ) → VolumeGateOf t n l (tables dh d fh f) work work' Done → OpenProfile t l d f work'
unfolding VolumeGateOf
test_ready t n l dh d fh f work work' g = record { volume = audit_ready t n l dh d fh f work work' g; dirs = rooted (tables dh d fh f) g.tree }

-- a broken rule, as a row of the call
ruled_first : (rs : List (Row ℕ)) (k : ℕ) → First rs 0 k → First (ruled rs) (profile_gives Done 0) (profile_gives Done k)
ruled_first [] k e = ap (profile_gives Done) e
ruled_first (r ∷ rs) k (inl p) = inl (p.0, ap (profile_gives Done) p.1)
ruled_first (r ∷ rs) k (inr p) = inr (p.0, ruled_first rs k p.1)

module _ (t : Bytes) (d l : ℕ) (s : Tables) (work work' : List ℕ) where
  abbrev own : List (Row Profile)
  own = profile_rows (blocks t) t l s.dir_table s.file_table

  -- it refuses with a
  pub test_refused : (a : why.Refusal) (o : Profile) → VolumeGateOf t d l s work work' (Err a) → o ≡ profile_gives (Err a) 0 → TestPromise t d l s work (beside o work')
  unfolding VolumePromise VolumeGateOf
  test_refused a o g q =
      subst⁻¹ (λ x. TestPromise t d l s work (beside x work')) q
      (rows.refused (volume_gate (λ a w. beside (profile_gives a 0) w) t d l s work) (cleared (places t s) work) own (profile_gives Done 0) (beside (profile_gives (Err a) 0) work')
      (gate_given (λ a w. beside (profile_gives a 0) w) (places t s) work (Uneven t d l ⊎ MisfitIn s) (Unfit t l ⊎ OutsideIn s) (length work < places t s) (broken_rows t s) (Err a) work' g))

  -- it is open, and the rules decide
  pub test_passed : (work'' : List ℕ) (k : ℕ) → VolumeGateOf t d l s work work' Done → OpenSays t l s.dir_table s.file_table work' work'' k
      → TestPromise t d l s work (beside (profile_gives Done k) work'')
  unfolding VolumePromise VolumeGateOf
  test_passed work'' k v p =
      subst⁻¹ (λ (w : List ℕ). TestPromise t d l s work (beside (profile_gives Done k) w)) (p.same ∙ v.clear)
      (rows.passed (volume_gate (λ a w. beside (profile_gives a 0) w) t d l s work) (cleared (places t s) work) own (profile_gives Done 0) (profile_gives Done k)
      (gate_none (λ a w. beside (profile_gives a 0) w) (places t s) work (Uneven t d l ⊎ MisfitIn s) (Unfit t l ⊎ OutsideIn s) (length work < places t s) (broken_rows t s) v.none)
      (ruled_first (profile_rules (blocks t) t l s.dir_table s.file_table) k p.says))

-- ---- the named places of the work list

module _ (t : Bytes) (l : ℕ) (d f : Bytes) (work : List ℕ) (o : OpenProfile t l d f work) (n : ℕ) (e : n ≡ blocks t) where
  pub place_ready : ReadyProfile n t l d f
  place_ready = record { audit = part_ready t l d f work o.volume n e; dirs = o.dirs }

  pub place_long : n + length f / 48 ≤ length (take (n + rooms d f) work)
  place_long = part_long t l d f work o.volume n e

  pub place_clear : Clear 0 (take (n + rooms d f) work)
  place_clear = part_clear t l d f work o.volume n e

  pub place_says : (v : List ℕ) (k : ℕ) → ProfileSays n t l d f (take (n + rooms d f) work) v k → OpenSays t l d f work (v ++ drop (n + rooms d f) work) k
  place_says v k p =
      let m : ℕ = n + rooms d f in
      let long : m ≤ length work = omega (arith, o.volume.long, e) in
      let zeroed : take m work ≡ replicate m 0 = subst⁻¹ (λ (m : ℕ). take (m + rooms d f) work ≡ replicate (m + rooms d f) 0) e o.volume.zeros in
      record {
        says = subst (λ (m : ℕ). Broken m t l d f k) e p.says;
        same =
            ap (λ (x : List ℕ). x ++ drop m work) (p.clear ∙ ap (λ (m : ℕ). replicate m 0) (length-take-le m work long) ∙ sym zeroed)
            ∙ take-append-drop m work;
      }

-- ---- tables that were tested once

pub tested_says : (n : ℕ) (t : Bytes) (l : ℕ) (d f : Bytes) (work work' : List ℕ) (k : ℕ) → ProfileSays n t l d f work work' k
    → TestSays n t l d f work work' (profile_gives Done k)
tested_says n t l d f work work' k p = record { says = ruled_first (profile_rules n t l d f) k p.says; clear = p.clear }
