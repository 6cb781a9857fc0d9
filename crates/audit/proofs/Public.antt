-- The public call is the gate, then the audit that requires soundness. Each end of it, as `search` finds it from what the two ensure.
use mathlib.Core.Path.{◌≡◌, refl, sym, ap, subst, subst⁻¹, ◌∙◌}
use mathlib.Core.List.{List, [], ◌∷◌, ◌++◌}
use mathlib.Core.Logic.{◌⊎◌, inl, inr, ⊎_elim}
use Prim.Native.Nat.{ℕ, ◌+◌, ◌*◌, ◌/◌, ◌≤◌, ◌<◌}
use native.Mathlib.Omega.{arith}
use lib.ListN.{length, get_or, take, drop, replicate, length-replicate, length-append, length-drop, take-append-drop, get_or-replicate, get_or-eq_default}
use lib.Seq.{length-take-le, take_at}
use Rattle.order.specs.First.{Row, First}
use Rattle.order.specs.Gate.{cleared, refusal}
use Rattle.order.specs.Given.{Given}
use Rattle.std.specs.Prelude.{Err}
use Rattle.order.specs.declared.Refusal as why
use Rattle.order.specs.Answer.{Answer, Done}
use Rattle.order.proofs.Beside as rows
use Rattle.order.proofs.Gate.{gate_given, gate_none}
use Rattle.fat_node.specs.Entry.{Bytes}
use Rattle.fat_node.specs.Sizes.{blocks}
use Rattle.fat_node.proofs.Sizes.{fit, inside}
use Rattle.fat_node.proofs.Nodes.{le_or_lt}
use Rattle.fat_walk.specs.Volume.{Volume}
use Rattle.tree_sound.specs.Sizes.{rooms}
use Rattle.tree_sound.specs.Tables.{Tables, tables, MisfitIn, OutsideIn, rooms_in, SoundIn}
use Rattle.volume_gate.specs.Gate.{places, Uneven, Unfit, broken_rows, volume_gate, Opened, VolumeGateOf}
use Rattle.audit_inner.specs.Volume.{count_of, removed_files, subject}
use Rattle.audit_inner.specs.Calls.{Audit, audit_gives, audit_rows, audit_done}
use Rattle.audit_inner.specs.Inner.Marks.{Files, Ready, Clear, AuditSays}
use Rattle.audit.specs.Promise.{beside, VolumePromise, AuditPromise}
use Rattle.audit.specs.Inner.Opened.{OpenVolume, OpenSays}

-- ---- the gate is open

module _ (t : Bytes) (d l : ℕ) (s : Tables) (work work' : List ℕ) (g : Opened t d l s work work') where
  open_volume : Volume (blocks t) t
  open_volume = record { few = (inside t (λ o. g.none.1.0 (inl (inl o)))).1; room = fit t (λ m. g.none.0 (inl (inl m))); sound = g.blocks }

  open_files : Files s.file_table
  unfolding count_of removed_files
  open_files =
      let v = g.tree.files.table in
      record {
        some = v.count_one;
        fits = omega (arith, v.count_max, v.max_room);
        few = ⊎_elim (λ h. h) (λ h. absurd (g.none.1.0 (inr (inr (inr (inr (inr h))))))) (le_or_lt (length s.file_table / 48) 65536);
        removed = v.removed;
        below = v.removed_below;
      }

  open_ready : Ready (blocks t) t l s.file_table
  open_ready = record {
    volume = open_volume;
    few = ⊎_elim (λ h. h) (λ h. absurd (g.none.1.0 (inl (inr (inr h))))) (le_or_lt l 65536);
    files = open_files;
  }

  open_long : places t s ≤ length work
  open_long = ⊎_elim (λ h. h) (λ h. absurd (g.none.1.1.0 h)) (le_or_lt (places t s) (length work))

  opened : OpenVolume t l s.dir_table s.file_table work'
  opened =
      let k : ℕ = places t s in
      let c : work' ≡ replicate k 0 ++ drop k work = g.clear in
      record {
        ready = open_ready;
        zeros = ap (take k) c ∙ take_at (replicate k 0) (drop k work) k (length-replicate {A = ℕ} k 0);
        long = omega (arith, ap (λ (w : List ℕ). length w) c, length-append (replicate k 0) (drop k work), length-replicate {A = ℕ} k 0);
      }

pub audit_ready : (t : Bytes) (n l : ℕ) (dh d fh f : Bytes) (work work' : List ℕ) → VolumeGateOf t n l (tables dh d fh f) work work' Done → OpenVolume t l d f work'
unfolding VolumeGateOf
audit_ready t n l dh d fh f work work' g = opened t n l (tables dh d fh f) work work' g

module _ (t : Bytes) (d l : ℕ) (s : Tables) (work work' : List ℕ) where
  -- it refuses with a
  pub audit_refused : (list : List ℕ) (a : why.Refusal) (o : Audit) → VolumeGateOf t d l s work work' (Err a) → o ≡ audit_gives (Err a) 0 list
      → AuditPromise t d l s work list (beside o work')
  unfolding VolumePromise VolumeGateOf
  audit_refused list a o g q =
      let S = subject (blocks t) t l s.file_table in
      subst⁻¹ (λ x. AuditPromise t d l s work list (beside x work')) q
      (rows.refused (volume_gate (λ a w. beside (audit_gives a 0 list) w) t d l s work) (cleared (places t s) work) (audit_rows S list) (audit_done S list) (beside (audit_gives (Err a) 0 list) work')
      (gate_given (λ a w. beside (audit_gives a 0 list) w) (places t s) work (Uneven t d l ⊎ MisfitIn s) (Unfit t l ⊎ OutsideIn s) (length work < places t s) (broken_rows t s) (Err a) work' g))

  -- it is open, and the audit's own rows decide
  pub audit_passed : (list work'' : List ℕ) (o : Audit) → VolumeGateOf t d l s work work' Done → OpenSays t l s.file_table work' list work'' o → AuditPromise t d l s work list (beside o work'')
  unfolding VolumePromise VolumeGateOf
  audit_passed list work'' o v p =
      let S = subject (blocks t) t l s.file_table in
      subst⁻¹ (λ (w : List ℕ). AuditPromise t d l s work list (beside o w)) (p.same ∙ v.clear)
      (rows.passed (volume_gate (λ a w. beside (audit_gives a 0 list) w) t d l s work) (cleared (places t s) work) (audit_rows S list) (audit_done S list) o
      (gate_none (λ a w. beside (audit_gives a 0 list) w) (places t s) work (Uneven t d l ⊎ MisfitIn s) (Unfit t l ⊎ OutsideIn s) (length work < places t s) (broken_rows t s) v.none)
      p.says)

-- ---- the named places of the work list

zero_at : (k : ℕ) (w : List ℕ) → w ≡ replicate k 0 → Clear 0 w
zero_at k w e = record { at = λ j h. ap (λ (v : List ℕ). get_or v j 0) e ∙ zeros k j }
  where
    zeros : (k j : ℕ) → ◌≡◌ {A = ℕ} (get_or (replicate k 0) j 0) 0
    zeros k j = ⊎_elim (λ (h : k ≤ j). out k j h) (λ (h : j < k). get_or-replicate k j 0 0 h) (le_or_lt k j)
      where
        out : (k j : ℕ) → k ≤ j → ◌≡◌ {A = ℕ} (get_or (replicate k 0) j 0) 0
        out k j h = get_or-eq_default (replicate k 0) 0 (omega (arith, length-replicate {A = ℕ} k 0, h))

module _ (t : Bytes) (l : ℕ) (d f : Bytes) (work : List ℕ) (o : OpenVolume t l d f work) (n : ℕ) (e : n ≡ blocks t) where
  pub part_ready : Ready n t l f
  part_ready = subst⁻¹ (λ (m : ℕ). Ready m t l f) e o.ready

  long : n + rooms d f ≤ length work
  long = omega (arith, o.long, e)

  pub part_long : n + length f / 48 ≤ length (take (n + rooms d f) work)
  part_long = omega (arith, length-take-le (n + rooms d f) work long)

  zeroed : take (n + rooms d f) work ≡ replicate (n + rooms d f) 0
  zeroed = subst⁻¹ (λ (m : ℕ). take (m + rooms d f) work ≡ replicate (m + rooms d f) 0) e o.zeros

  pub part_clear : Clear 0 (take (n + rooms d f) work)
  part_clear = zero_at (n + rooms d f) (take (n + rooms d f) work) zeroed

  pub part_says : (v list : List ℕ) (a : Audit) → AuditSays n t l f (take (n + rooms d f) work) list v a → OpenSays t l f work list (v ++ drop (n + rooms d f) work) a
  part_says v list a p =
      let k : ℕ = n + rooms d f in
      record {
        says = subst (λ (m : ℕ). First (audit_rows (subject m t l f) list) (audit_done (subject m t l f) list) a) e p.says;
        same =
            ap (λ (x : List ℕ). x ++ drop k work) (p.clear ∙ ap (λ (m : ℕ). replicate m 0) (length-take-le k work long) ∙ sym zeroed)
            ∙ take-append-drop k work;
      }
