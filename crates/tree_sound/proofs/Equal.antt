-- Sound, as RULES 5.7 has it, and the form that the steps are proved with say the same.
use mathlib.Core.Path.{◌≡◌, refl, sym, ◌∙◌, subst}
use mathlib.Core.List.{List}
use Prim.Native.Nat.{ℕ, ◌<◌}
use Rattle.links.specs.Links.{Holds}
use Rattle.links.proofs.Laws.{distinct}
use Rattle.links.proofs.Held.{holds_kept}
use Rattle.tree_table.specs.View.{View, place, Live, LiveIn, removed_of}
use Rattle.tree_table.proofs.Table.{Here, Sound, not_zero, removed_is}
use Rattle.tree_sound.specs.Sound.{Table, Below, up}
use Rattle.tree_sound.specs.Sound as whole
use Rattle.tree_sound.proofs.Tree.{Tree}

-- a list of live entries holds no loose inode 0, and the reverse
module _ (v : View) (R : List ℕ) (next : ℕ → ℕ) (h : ℕ) (P : ℕ → Type 0) where
  pub loose : Holds next h (λ y. Live v.count R y × P y) → Holds next h (λ y. Here v R 0 y × P y)
  loose H =
      holds_kept next next (λ y. Live v.count R y × P y) (λ y. Here v R 0 y × P y) h h refl (λ y _. refl)
      (λ y. (λ q. ((q.0, not_zero q.0.0), q.1), λ q. (q.0.0, q.1))) H

  pub tight : Holds next h (λ y. Here v R 0 y × P y) → Holds next h (λ y. Live v.count R y × P y)
  tight H =
      holds_kept next next (λ y. Here v R 0 y × P y) (λ y. Live v.count R y × P y) h h refl (λ y _. refl)
      (λ y. (λ q. (q.0.0, q.1), λ q. ((q.0, not_zero q.0.0), q.1))) H

-- one half in the form of the steps
half_of : (D v : View) (root : ℕ) (B : Below D v root) → v.root ≡ root → Sound v (LiveIn D) (removed_of v) 0
half_of D v root B same = record {
  max_room = B.table.max_room;
  count_one = B.table.count_one;
  count_max = B.table.count_max;
  removed = B.table.removed;
  removed_below = B.table.removed_below;
  bucket = λ b h. loose v (removed_of v) v.coll (v.hash b) (λ y. place v (v.key y) ≡ b) (B.table.bucket b h);
  child = λ p h. loose v (removed_of v) v.next (v.head p) (λ y. up v y ≡ p) (B.lists p h);
  keys = λ y z a b e. B.table.keys y z a.0 b.0 e;
  parents = λ y h n. B.parents y h.0 (λ e. n (e ∙ sym same));
}

module _ (D F : View) (dir_root : D.root ≡ 1) (file_root : F.root ≡ 0) where
  -- from the sentences of RULES 5.7
  pub tree_of : whole.Sound D F → Tree D F (removed_of D) (removed_of F)
  tree_of S = record {
    dirs = half_of D D 1 S.dirs.below dir_root;
    files = half_of D F 0 S.files file_root;
    dir_root = dir_root;
    file_root = file_root;
    root_live = S.dirs.root_live;
    root_key = S.dirs.root_key;
    root_next = S.dirs.root_next;
    reach = S.dirs.reach;
  }

-- back to them
table_of : (v : View) (Dir : ℕ → Type 0) (S : Sound v Dir (removed_of v) 0) → Table v
table_of v Dir S = record {
  max_room = S.max_room;
  count_one = S.count_one;
  count_max = S.count_max;
  removed = S.removed;
  removed_once = distinct v.coll (v.coll 0) (removed_of v) S.removed;
  removed_below = S.removed_below;
  bucket = λ b h. tight v (removed_of v) v.coll (v.hash b) (λ y. place v (v.key y) ≡ b) (S.bucket b h);
  keys = λ y z a b e. S.keys y z (a, not_zero a.0) (b, not_zero b.0) e;
}

below_of : (D v : View) (root : ℕ) → Sound v (LiveIn D) (removed_of v) 0 → v.root ≡ root → Below D v root
below_of D v root S same = record {
  table = table_of v (LiveIn D) S;
  parents = λ y l n. S.parents y (l, not_zero l.0) (λ e. n (e ∙ same));
  lists = λ p l. tight v (removed_of v) v.next (v.head p) (λ y. up v y ≡ p) (S.child p l);
}

whole_of : (D F : View) → Tree D F (removed_of D) (removed_of F) → whole.Sound D F
whole_of D F T = record {
  dirs = record {
    below = below_of D D 1 T.dirs T.dir_root;
    count_two = (let h : 1 < D.count = T.root_live.1 in h);
    root_live = T.root_live;
    root_key = T.root_key;
    root_next = T.root_next;
    reach = T.reach;
  };
  files = below_of D F 0 T.files T.file_root;
}

-- whatever the removed lists are called
pub sound_of : (D F : View) (RD RF : List ℕ) → Tree D F RD RF → whole.Sound D F
sound_of D F RD RF T =
    whole_of D F
    (subst (λ R. Tree D F (removed_of D) R) (sym (removed_is F (Live D.count RD) RF T.files)) (subst (λ R. Tree D F R RF) (sym (removed_is D (Live D.count RD) RD T.dirs)) T))
