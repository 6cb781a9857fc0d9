-- The two tables as one tree, in the form that the steps are proved with: each table sound with one loose inode (0 for none) and its removed list at
-- hand. It is Sound (RULES 5.7), and make, delete and rename keep it.
use mathlib.Core.Path.{◌≡◌, refl, sym, ap, ◌∙◌, subst}
use mathlib.Core.List.{List, [], ◌∷◌}
use mathlib.Core.Logic.{◌⊎◌, inl, inr, ⊎_elim, ◌≢◌}
use Prim.Native.Nat.{ℕ, ◌<◌}
use native.Mathlib.Omega.{arith}
use native.Mathlib.Nat.{mod-lt}
use Rattle.links.specs.Links.{◌∈◌, Links, Holds}
use Rattle.links.specs.Change.{upd}
use Rattle.links.proofs.Laws.{kept, one_list, first_in}
use Rattle.links.proofs.Held.{same_or, upd_same, upd_other}
use Rattle.tree_key.specs.Hash.{hash_of}
use Rattle.tree_table.specs.View.{View, parent, Live, Reaches}
use Rattle.tree_table.specs.Steps.{taken}
use Rattle.tree_table.proofs.Table.{Here, Sound, link, linked, unlink, unlinked, unlinked_next, take, rest, give, Space, Took, took, took_live, gave, gave_live, not_zero}
use Rattle.tree_sound.specs.Sound.{up}

-- ---- going up by parents

module _ (u u' : ℕ → ℕ) (x q : ℕ) (ex : u' x ≡ q) (eo : (y : ℕ) → y ≢ x → u' y ≡ u y) (u1 : u 1 ≡ 0)
    (qs : List ℕ) (lq : Links u q qs) (mq : 1 ∈ qs) (nq : x ∈ qs → ⊥) where
  -- the way up from q does not change
  still_up : Links u' q qs
  still_up = kept u u' q qs (λ y m. eo y (λ (e : y ≡ x). nq (subst (λ z. z ∈ qs) e m))) lq

  -- so x reaches 1
  pub x_up : 0 < x → (xs : List ℕ) × Links u' x xs × (1 ∈ xs)
  x_up p = (x ∷ qs, (refl, p, subst (λ z. Links u' z qs) (sym ex) still_up), inr mq)

  -- and so does whatever did
  pub all_up : (y : ℕ) (xs : List ℕ) → Links u y xs → 1 ∈ xs → (ys : List ℕ) × Links u' y ys × (1 ∈ ys)
  all_up y [] l m = elim m [ ]
  all_up y (a ∷ xs) l m =
      ⊎_elim
      (λ (e : a ≡ x). (a ∷ qs, (l.0, l.1, subst (λ z. Links u' z qs) (sym ex ∙ ap u' (sym e)) still_up), inr mq))
      (λ (n : a ≢ x).
      ⊎_elim
      (λ (e : 1 ≡ a). (a ∷ [], (l.0, l.1, eo a n ∙ ap u (sym e) ∙ u1), inl e))
      (λ (j : 1 ∈ xs).
      let r = all_up (u a) xs l.2 j in
      (a ∷ r.0, (l.0, l.1, subst (λ z. Links u' z r.0) (sym (eo a n)) r.1), inr r.2))
      m)
      (same_or a x)

-- ---- the rule of the two tables

-- the two tables together, each with no loose entry; RD and RF are their removed lists
pub record Tree (D F : View) (RD RF : List ℕ) : Type 0 where
  pub dirs : Sound D (Live D.count RD) RD 0
  pub files : Sound F (Live D.count RD) RF 0
  pub dir_root : D.root ≡ 1
  pub file_root : F.root ≡ 0
  pub root_live : Live D.count RD 1
  pub root_key : D.key 1 ≡ 0 ∷ 0 ∷ 0 ∷ 0 ∷ 0 ∷ []
  pub root_next : D.next 1 ≡ 0
  pub reach : (y : ℕ) → Live D.count RD y → Reaches (up D) y

abbrev pub heads : View → (ℕ → ℕ) → View
heads v head = record {
  buckets = v.buckets;
  room = v.room;
  root = v.root;
  count = v.count;
  maximum = v.maximum;
  hash = v.hash;
  coll = v.coll;
  next = v.next;
  head = head;
  key = v.key;
}

module _ (D F : View) (RD RF : List ℕ) (S : Tree D F RD RF) where
  pub root_up : up D 1 ≡ 0
  root_up = ap parent S.root_key

  -- the directories above a live one are live
  above_live : (y : ℕ) (xs : List ℕ) → Live D.count RD y → Links (up D) y xs → (z : ℕ) → z ∈ xs → Live D.count RD z
  above_live y [] ly l z x3 = elim x3 [ ]
  above_live y (a ∷ xs) ly l z (inl e) = subst (λ w. Live D.count RD w) (l.0 ∙ sym e) ly
  above_live y (a ∷ xs) ly l z (inr m) =
      ⊎_elim
      (λ (e : a ≡ 1). absurd (none xs (subst (λ w. Links (up D) w xs) (ap (up D) e ∙ root_up) l.2) m))
      (λ (n : a ≢ 1).
      let la : Live D.count RD a = subst (λ w. Live D.count RD w) l.0 ly in
      above_live (up D a) xs (S.dirs.parents a (la, not_zero la.0) (λ (e : a ≡ D.root). n (e ∙ S.dir_root))) l.2 z m)
      (same_or a 1)
    where
      none : (zs : List ℕ) → Links (up D) 0 zs → z ∈ zs → ⊥
      none [] k i = elim i [ ]
      none (b ∷ zs) k i = let p : 0 ≡ b = k.0 in let q : 0 < b = k.1 in omega arith

  -- no live entry of the table v has a parent that is no live directory, but for the root
  -- ---- rename a file
  pub renamed_file : (x : ℕ) (k : List ℕ) → Live F.count RF x → Live D.count RD (parent k) → 0 < F.buckets
      → ((y : ℕ) → Live F.count RF y → y ≢ x → F.key y ≢ k)
      → Tree D (link (unlink F x) x k) RD RF
  renamed_file x k lx lp hb fresh = record {
    dirs = S.dirs;
    files =
        linked (unlink F x) RF x k lx (Live D.count RD)
        (unlinked F RF x lx (Live D.count RD) S.files (mod-lt (hash_of (F.key x)) hb)
        (S.files.parents x (lx, not_zero lx.0) (λ (e : x ≡ F.root). not_zero lx.0 (e ∙ S.file_root))))
        (λ y h. fresh y h.0 h.1) lp;
    dir_root = S.dir_root;
    file_root = S.file_root;
    root_live = S.root_live;
    root_key = S.root_key;
    root_next = S.root_next;
    reach = S.reach;
  }

  -- ---- rename a directory, to a parent that is not it or below it
  pub renamed_dir : (x : ℕ) (k : List ℕ) → Live D.count RD x → x ≢ 1 → Live D.count RD (parent k) → 0 < D.buckets
      → ((y : ℕ) → Live D.count RD y → y ≢ x → D.key y ≢ k)
      → ((qs : List ℕ) → Links (up D) (parent k) qs → x ∈ qs → ⊥)
      → Tree (link (unlink D x) x k) F RD RF
  renamed_dir x k lx n1 lp hb fresh above =
      let d : Live D.count RD (parent (D.key x)) = S.dirs.parents x (lx, not_zero lx.0) (λ (e : x ≡ D.root). n1 (e ∙ S.dir_root)) in
      record {
        dirs =
            linked (unlink D x) RD x k lx (Live D.count RD)
            (unlinked D RD x lx (Live D.count RD) S.dirs (mod-lt (hash_of (D.key x)) hb)
            d)
            (λ y h. fresh y h.0 h.1) lp;
        files = S.files;
        dir_root = S.dir_root;
        file_root = S.file_root;
        root_live = S.root_live;
        root_key = upd_other D.key x k 1 (λ (e : 1 ≡ x). n1 (sym e)) ∙ S.root_key;
        root_next =
            upd_other (unlink D x).next x ((unlink D x).head (parent k)) 1 (λ (e : 1 ≡ x). n1 (sym e))
            ∙ unlinked_next D RD x lx (Live D.count RD) S.dirs d 1 (λ (e : up D 1 ≡ up D x). not_zero d.0 (sym e ∙ root_up))
            ∙ S.root_next;
        reach = λ y ly.
            let r = S.reach y ly in
            let t = S.reach (parent k) lp in
            all_up (up D) (up (link (unlink D x) x k)) x (parent k)
            (ap parent (upd_same D.key x k x refl)) (λ z n. ap parent (upd_other D.key x k z n)) root_up
            t.0 t.1 t.2 (above t.0 t.1) y r.0 r.1 r.2;
      }

-- ---- more directories, or fewer

-- the directory z, new, has no children
pub more_dirs : (v : View) (Dir Dir' : ℕ → Type 0) (R : List ℕ) (x z : ℕ) → Sound v Dir R x
    → ((p : ℕ) → Dir' p → (p ≡ z) ⊎ ((p ≢ z) × Dir p)) → ((p : ℕ) → Dir p → Dir' p) → (Dir z → ⊥) → ((y : ℕ) → y ≡ v.root → Here v R x y → parent (v.key y) ≢ z)
    → Sound (heads v (upd v.head z 0)) Dir' R x
more_dirs v Dir Dir' R x z S i j n r = record {
  max_room = S.max_room;
  count_one = S.count_one;
  count_max = S.count_max;
  removed = S.removed;
  removed_below = S.removed_below;
  bucket = S.bucket;
  keys = S.keys;
  child = λ p h.
      ⊎_elim
      (λ (e : p ≡ z). (
        [],
        upd_same v.head z 0 p e,
        λ y. (
          absurd,
          λ q.
              ⊎_elim (λ (w : y ≡ v.root). r y w q.0 (q.1 ∙ e)) (λ (w : y ≢ v.root). n (subst Dir (q.1 ∙ e) (S.parents y q.0 w))) (same_or y v.root),
        ),
      ))
      (λ (w : (p ≢ z) × Dir p).
      subst (λ u. Holds v.next u (λ y. Here v R x y × (parent (v.key y) ≡ p))) (sym (upd_other v.head z 0 p w.0)) (S.child p w.1))
      (i p h);
  parents = λ y h w. j (parent (v.key y)) (S.parents y h w);
}

-- the directory z, which has no children, is none any more
pub fewer_dirs : (v : View) (Dir Dir' : ℕ → Type 0) (R : List ℕ) (x z : ℕ) (head : ℕ → ℕ) → Sound v Dir R x
    → ((p : ℕ) → Dir' p → (p ≢ z) × Dir p) → ((p : ℕ) → p ≢ z → Dir p → Dir' p) → ((p : ℕ) → p ≢ z → head p ≡ v.head p)
    → Dir z → v.head z ≡ 0 → Sound (heads v head) Dir' R x
fewer_dirs v Dir Dir' R x z head S i j k dz e0 = record {
  max_room = S.max_room;
  count_one = S.count_one;
  count_max = S.count_max;
  removed = S.removed;
  removed_below = S.removed_below;
  bucket = S.bucket;
  keys = S.keys;
  child = λ p h.
      let w = i p h in
      subst (λ u. Holds v.next u (λ y. Here v R x y × (parent (v.key y) ≡ p))) (sym (k p w.0)) (S.child p w.1);
  parents = λ y h w.
      j (parent (v.key y)) (λ (e : parent (v.key y) ≡ z).
      let H = S.child z dz in
      let l : H.0 ≡ [] = one_list v.next (v.head z) 0 H.0 [] e0 H.1 refl in
      subst (λ xs. y ∈ xs) l ((H.2 y).1 (h, e)))
      (S.parents y h w);
}

-- ---- make and delete

-- a file is made
abbrev pub make_file : View → List ℕ → View
make_file F k = link (take F) (taken F) k

-- a directory is made: the directories' table, and the heads of the file lists, which stand in it too
abbrev pub make_dir : View → List ℕ → View
make_dir D k = link (heads (take D) (upd D.head (taken D) 0)) (taken D) k

abbrev pub make_dir_files : View → View → View
make_dir_files D F = heads F (upd F.head (taken D) 0)

module _ (D F : View) (RD RF : List ℕ) (S : Tree D F RD RF) where
  pub made_file : (k : List ℕ) → Space F → Live D.count RD (parent k) → ((y : ℕ) → Live F.count RF y → F.key y ≢ k)
      → Tree D (make_file F k) RD (rest RF)
  made_file k sp lp fresh =
      let t : Took F RF (rest RF) (taken F) (take F).count = took_live F (Live D.count RD) RF S.files in
      record {
        dirs = S.dirs;
        files =
            linked (take F) (rest RF) (taken F) k t.0 (Live D.count RD) (took F (Live D.count RD) RF S.files sp)
            (λ y h. ⊎_elim (λ (e : y ≡ taken F). absurd (h.1 e)) (λ (w : (y ≢ taken F) × Live F.count RF y). fresh y w.1) ((t.2 y).0 h.0))
            lp;
        dir_root = S.dir_root;
        file_root = S.file_root;
        root_live = S.root_live;
        root_key = S.root_key;
        root_next = S.root_next;
        reach = S.reach;
      }

  pub made_dir : (k : List ℕ) → Space D → Live D.count RD (parent k) → ((y : ℕ) → Live D.count RD y → D.key y ≢ k)
      → Tree (make_dir D k) (make_dir_files D F) (rest RD) RF
  made_dir k sp lp fresh = record {
    dirs =
        linked (heads (take D) (upd D.head x 0)) (rest RD) x k t.0 (Live (take D).count (rest RD))
        (more_dirs (take D) (Live D.count RD) (Live (take D).count (rest RD)) (rest RD) x x (took D (Live D.count RD) RD S.dirs sp)
        (λ p. (t.2 p).0) lives t.1
        (λ y e h (q : parent (D.key y) ≡ x).
        not_zero t.0.0 (sym q ∙ ap (λ z. parent (D.key z)) (e ∙ S.dir_root) ∙ root_up D F RD RF S)))
        (λ y h. ⊎_elim (λ (e : y ≡ x). absurd (h.1 e)) (λ (w : (y ≢ x) × Live D.count RD y). fresh y w.1) ((t.2 y).0 h.0))
        (lives (parent k) lp);
    files =
        more_dirs F (Live D.count RD) (Live (take D).count (rest RD)) RF 0 x S.files (λ p. (t.2 p).0) lives t.1
        (λ y e h _. not_zero h.0.0 (e ∙ S.file_root));
    dir_root = S.dir_root;
    file_root = S.file_root;
    root_live = lives 1 S.root_live;
    root_key = upd_other D.key x k 1 n1 ∙ S.root_key;
    root_next = upd_other D.next x (upd D.head x 0 (parent k)) 1 n1 ∙ S.root_next;
    reach = λ y ly.
        ⊎_elim
        (λ (e : y ≡ x). subst (λ z. Reaches (up (make_dir D k)) z) (sym e) (x_up (up D) (up (make_dir D k)) x (parent k) ux uo u1 q.0 q.1 q.2 nx t.0.0))
        (λ (w : (y ≢ x) × Live D.count RD y).
        let r = S.reach y w.1 in
        all_up (up D) (up (make_dir D k)) x (parent k) ux uo u1 q.0 q.1 q.2 nx y r.0 r.1 r.2)
        ((t.2 y).0 ly);
  }
    where
      x : ℕ
      x = taken D

      t : Took D RD (rest RD) (taken D) (take D).count
      t = took_live D (Live D.count RD) RD S.dirs

      lives : (p : ℕ) → Live D.count RD p → Live (take D).count (rest RD) p
      lives p l = (t.2 p).1 (inr ((λ (e : p ≡ x). t.1 (subst (λ z. Live D.count RD z) e l)), l))

      n1 : 1 ≢ x
      n1 e = t.1 (subst (λ z. Live D.count RD z) e S.root_live)

      q : Reaches (up D) (parent k)
      q = S.reach (parent k) lp

      nx : x ∈ q.0 → ⊥
      nx m = t.1 (above_live D F RD RF S (parent k) q.0 lp q.1 x m)

      u1 : up D 1 ≡ 0
      u1 = root_up D F RD RF S

      ux : up (make_dir D k) x ≡ parent k
      ux = ap parent (upd_same D.key x k x refl)

      uo : (y : ℕ) → y ≢ x → up (make_dir D k) y ≡ up D y
      uo y n = ap parent (upd_other D.key x k y n)

abbrev pub delete_file : View → ℕ → View
delete_file F x = give (unlink F x) x

-- x's entry becomes entry 0's, and with it the heads of its lists
abbrev pub delete_dir : View → ℕ → View
delete_dir D x = heads (give (unlink D x) x) (upd (unlink D x).head x (D.head 0))

abbrev pub delete_dir_files : View → ℕ → View
delete_dir_files F x = heads F (upd F.head x (F.head 0))

module _ (D F : View) (RD RF : List ℕ) (S : Tree D F RD RF) where
  pub deleted_file : (x : ℕ) → Live F.count RF x → 0 < F.buckets → Tree D (delete_file F x) RD (x ∷ RF)
  deleted_file x lx hb = record {
    dirs = S.dirs;
    files =
        gave (unlink F x) (Live D.count RD) RF x lx
        (unlinked F RF x lx (Live D.count RD) S.files (mod-lt (hash_of (F.key x)) hb)
        (S.files.parents x (lx, not_zero lx.0) (λ (e : x ≡ F.root). not_zero lx.0 (e ∙ S.file_root))));
    dir_root = S.dir_root;
    file_root = S.file_root;
    root_live = S.root_live;
    root_key = S.root_key;
    root_next = S.root_next;
    reach = S.reach;
  }

  module _ (x : ℕ) (lx : Live D.count RD x) (n1 : x ≢ 1) (hb : 0 < D.buckets) (no_dirs : D.head x ≡ 0) (no_files : F.head x ≡ 0) where
    -- no directory names x as its parent
    pub childless : (y : ℕ) → Live D.count RD y → up D y ≢ x
    childless y ly e =
        let H = S.dirs.child x lx in
        let l : H.0 ≡ [] = one_list D.next (D.head x) 0 H.0 [] no_dirs H.1 refl in
        subst (λ xs. y ∈ xs) l ((H.2 y).1 ((ly, not_zero ly.0), e))

    pub not_above : (y : ℕ) (xs : List ℕ) → Live D.count RD y → y ≢ x → Links (up D) y xs → x ∈ xs → ⊥
    not_above y [] ly n l x5 = elim x5 [ ]
    not_above y (a ∷ xs) ly n l (inl e) = n (l.0 ∙ sym e)
    not_above y (a ∷ xs) ly n l (inr m) =
        not_above (up D a) xs
        (above_live D F RD RF S y (a ∷ xs) ly l (up D a) (inr (first_in (up D) (up D a) x xs l.2 m)))
        (childless a (subst (λ z. Live D.count RD z) l.0 ly)) l.2 m

    lives : (p : ℕ) → Live D.count (x ∷ RD) p → (p ≢ x) × Live D.count RD p
    lives p l = let r = (gave_live D RD x p).0 l in (r.1, r.0)

    back : (p : ℕ) → p ≢ x → Live D.count RD p → Live D.count (x ∷ RD) p
    back p n l = (gave_live D RD x p).1 (l, n)

    pub deleted_dir : Tree (delete_dir D x) (delete_dir_files F x) (x ∷ RD) RF
    deleted_dir =
        let d : Live D.count RD (up D x) = S.dirs.parents x (lx, not_zero lx.0) (λ (e : x ≡ D.root). n1 (e ∙ S.dir_root)) in
        record {
          dirs =
              fewer_dirs (give (unlink D x) x) (Live D.count RD) (Live D.count (x ∷ RD)) (x ∷ RD) 0 x (upd (unlink D x).head x (D.head 0))
              (gave (unlink D x) (Live D.count RD) RD x lx (unlinked D RD x lx (Live D.count RD) S.dirs (mod-lt (hash_of (D.key x)) hb) d))
              lives back (λ p n. upd_other (unlink D x).head x (D.head 0) p n) lx
              (upd_other D.head (up D x) _ x (λ (e : x ≡ up D x). childless x lx (sym e)) ∙ no_dirs);
          files =
              fewer_dirs F (Live D.count RD) (Live D.count (x ∷ RD)) RF 0 x (upd F.head x (F.head 0)) S.files
              lives back (λ p n. upd_other F.head x (F.head 0) p n) lx no_files;
          dir_root = S.dir_root;
          file_root = S.file_root;
          root_live = back 1 (λ e. n1 (sym e)) S.root_live;
          root_key = upd_other D.key x (D.key 0) 1 (λ e. n1 (sym e)) ∙ S.root_key;
          root_next =
              upd_other (unlink D x).next x ((unlink D x).next 0) 1 (λ e. n1 (sym e))
              ∙ unlinked_next D RD x lx (Live D.count RD) S.dirs d 1 (λ (e : up D 1 ≡ up D x). not_zero d.0 (sym e ∙ root_up D F RD RF S))
              ∙ S.root_next;
          reach = λ y ly.
              let w = lives y ly in
              let r = S.reach y w.1 in (
                r.0,
                kept (up D) (up (delete_dir D x)) y r.0
                    (λ z m. ap parent (upd_other D.key x (D.key 0) z (λ (e : z ≡ x). not_above y r.0 w.1 w.0 r.1 (subst (λ u. u ∈ r.0) e m))))
                    r.1,
                r.2,
              );
        }
