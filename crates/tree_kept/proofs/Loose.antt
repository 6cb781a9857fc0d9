-- Which entries the steps touch, that their writes fit, and what a change of the files leaves of the tree.
use mathlib.Core.Path.{◌≡◌, sym, ap, ◌∙◌, subst}
use mathlib.Core.List.{List, [], ◌∷◌, ◌++◌}
use mathlib.Core.Logic.{⊎_elim}
use mathlib.Core.Bool.{Bool, true, false}
use Prim.Native.Nat.{ℕ, zero, suc, ◌+◌, ◌*◌, ◌/◌, ◌^◌, ◌≤◌, ◌<◌}
use native.Mathlib.Omega.{arith}
use native.Mathlib.Nat.{mul-le-mul_right, div-mul-le_self, suc-mul}
use lib.ListN.{length}
use Rattle.links.specs.Links.{◌∈◌, Links, Holds}
use Rattle.links.specs.Change.{walk, before}
use Rattle.links.proofs.Laws.{kept, positive, walked, fewer}
use Rattle.links.proofs.Held.{before_is}
use Rattle.tree_table.specs.Field.{Write}
use Rattle.tree_table.specs.View.{View, parent, removed_of, Live}
use Rattle.tree_table.specs.Steps.{copy_writes, cut_writes}
use Rattle.tree_table.proofs.Field.{Has, Fit}
use Rattle.tree_table.proofs.Table.{Here, Sound, walk_is}
use Rattle.tree_table.proofs.Agree.{Agree, live_agree, sound_agree}
use Rattle.tree_sound.specs.Sound.{up}
use Rattle.tree_sound.proofs.Tree.{Tree}

-- an entry that the room has lies in the table
pub entry_fits : (w : ℕ) (t : List ℕ) (y : ℕ) → y < length t / w → y * w + w ≤ length t
entry_fits w t y h =
    let a : suc y * w ≤ length t / w * w = mul-le-mul_right w h in
    let b : length t / w * w ≤ length t = div-mul-le_self (length t) w in omega (arith, suc-mul y w)

-- the entry before another is 0 or a live one
pub before_low : (v : View) (Dir : ℕ → Type 0) (R : List ℕ) (S : Sound v Dir R 0) (next : ℕ → ℕ) (h : ℕ) (P : ℕ → Type 0) (H : Holds next h (λ y. Here v R 0 y × P y)) (x : ℕ)
    → x ∈ H.0 → before x 0 (walk next v.count h) < v.count
before_low v Dir R S next h P H x m =
    subst (λ l. before x 0 l < v.count) (sym (walk_is v Dir R S next h P H))
    (⊎_elim
    (λ (r : (before x 0 H.0 ≡ 0) × (h ≡ x)). let c : 1 ≤ v.count = S.count_one in let z : before x 0 H.0 ≡ 0 = r.0 in omega arith)
    (λ (r : before x 0 H.0 ∈ H.0 × (next (before x 0 H.0) ≡ x)). ((H.2 (before x 0 H.0)).0 r.0).0.0.1)
    (before_is next x 0 h H.0 H.1 m))

pub fit_append : (w n : ℕ) (ws vs : List Write) → Fit w n ws → Fit w n vs → Fit w n (ws ++ vs)
fit_append w n [] vs a b = b
fit_append w n (x ∷ ws) vs a b = (a.0, fit_append w n ws vs a.1 b)

pub fit_cut : (w n : ℕ) (t : Bool) (p f v : ℕ) → p * w + w ≤ n → Has w f → v < 2 ^ 32 → Fit w n (cut_writes t p f v)
fit_cut w n true p f v a b c = tt
fit_cut w n false p f v a b c = ((a, b, c), tt)

pub fit_copy : (w n k f : ℕ) (m : ℕ → ℕ → ℕ) (x : ℕ) → x * w + w ≤ n → 4 * (f + k) ≤ w → ((g : ℕ) → m 0 g < 2 ^ 32) → Fit w n (copy_writes k f m x)
fit_copy w n zero f m x a b c = tt
fit_copy w n (suc k) f m x a b c = ((a, omega arith, c f), fit_copy w n k (suc f) m x a (omega arith) c)

-- the removed list is what a walk finds, also of a table that has the same count and collision fields
pub removed_agree : (v v' : View) (Dir : ℕ → Type 0) (R : List ℕ) → Sound v Dir R 0 → v'.count ≡ v.count → ((y : ℕ) → v'.coll y ≡ v.coll y) → removed_of v' ≡ R
removed_agree v v' Dir R S c e =
    let h : length R < v.count = fewer v.coll v.count (v.coll 0) R S.count_one S.removed S.removed_below in
    walked v'.coll v'.count (v'.coll 0) R (subst (λ z. Links v'.coll z R) (sym (e 0)) (kept v.coll v'.coll (v.coll 0) R (λ y _. e y) S.removed)) (omega arith)

-- ---- the directories as they were to the rule, and other files

pub tree_files : (D D' F F' : View) (RD RF RF' : List ℕ) → Tree D F RD RF → Agree D D' → F'.root ≡ 0 → Sound F' (Live D.count RD) RF' 0 → Tree D' F' RD RF'
tree_files D D' F F' RD RF RF' T A e S = record {
  dirs = sound_agree D D' A RD 0 (Live D.count RD) (Live D'.count RD) (live_agree D D' A RD) (λ p l. l.0) T.dirs;
  files = same_dirs F' RF' S;
  dir_root = A.root ∙ T.dir_root;
  file_root = e;
  root_live = (live_agree D D' A RD 1).0 T.root_live;
  root_key = A.key 1 (omega arith) ∙ T.root_key;
  root_next = A.next 1 (omega arith) ∙ T.root_next;
  reach = λ y l.
      let r = T.reach y ((live_agree D D' A RD y).1 l) in
      (r.0, kept (up D) (up D') y r.0 (λ z m. ap parent (A.key z (positive (up D) y r.0 r.1 z m))) r.1, r.2);
}
  where
    same_dirs : (v : View) (R : List ℕ) → Sound v (Live D.count RD) R 0 → Sound v (Live D'.count RD) R 0
    same_dirs v R S = record {
      max_room = S.max_room;
      count_one = S.count_one;
      count_max = S.count_max;
      removed = S.removed;
      removed_below = S.removed_below;
      bucket = S.bucket;
      keys = S.keys;
      child = λ p h. S.child p ((live_agree D D' A RD p).1 h);
      parents = λ y h n. (live_agree D D' A RD (parent (v.key y))).0 (S.parents y h n);
    }
