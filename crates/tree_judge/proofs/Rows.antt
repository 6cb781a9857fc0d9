-- The tests of rename and make, by the places of their code, and what a judged call gives.
use mathlib.Core.Path.{◌≡◌, refl, sym, ap, ◌∙◌, subst}
use mathlib.Core.Bool.{Bool, true, false, false≢true}
use mathlib.Core.List.{List, [], ◌∷◌, ◌++◌}
use mathlib.Core.Logic.{inl, inr, ⊎_elim, ◌≢◌}
use Prim.Native.Nat.{ℕ, ◌<◌}
use native.Mathlib.Omega.{arith}
use Rattle.order.specs.First.{Row, row, First}
use Rattle.order.specs.Given.{Given, None}
use Rattle.order.specs.Answer.{Answer}
use Rattle.order.specs.Answer.{InvalidValue, NotFound, DeletingRoot, IntoItself, AlreadyExist, NoSpace}
use Rattle.links.specs.Links.{◌∈◌, Links}
use Rattle.links.proofs.Held.{same_or}
use Rattle.tree_key.specs.Key.{name_key}
use Rattle.tree_table.specs.Field.{field}
use Rattle.tree_table.specs.View.{View, LiveIn, parent}
use Rattle.tree_table.specs.Steps.{free_of}
use Rattle.tree_table.specs.Chain.{link_at, list_at, Ends, member}
use Rattle.tree_table.proofs.Chain.{member_in, not_member}
use Rattle.tree_sound.specs.Sound.{up}
use Rattle.tree_sound.specs.Tables.{Tables, dirs, files}
use Rattle.tree_promises.specs.declared.Kind.{Kind}
use Rattle.tree_promises.specs.declared.Kind.TheVariants.{Directory, File}
use Rattle.tree_promises.specs.Legal.{legal}
use Rattle.tree_promises.specs.Has.{above, Has, HasOther}
use Rattle.order.specs.Giving.{giving}
use Rattle.tree_promises.specs.Kinds.{kind_view}
use Rattle.tree_promises.specs.Calls.{held_tests_of, root_tests, ring_tests, rename_tests_of, make_tests}
use Rattle.tree_promises.specs.Inner.Ready.{Ready, Single}
use Rattle.tree_look.proofs.Lists.{all_fit, count_few, dir_single, ends_of, list_of}
use Rattle.order.specs.Tells.{Tells}
use Rattle.tree_test.proofs.Cases.{tells_not}
use Rattle.tree_look.proofs.Given.{none_first}

-- what rename is asked behind the tests of the entry that is held
abbrev pub after_held : (kind : Kind) (s : Tables) (x p : ℕ) (name : List ℕ) → List (Row Answer)
after_held kind s x p name =
    root_tests kind x ++ (row (legal name ≡ false) InvalidValue ∷ row (LiveIn (dirs s) p → ⊥) NotFound ∷ (ring_tests kind s x p ++ (row (HasOther (kind_view kind s) x (name_key p name)) AlreadyExist ∷ [])))

-- ---- the way up

module _ (s : Tables) (R : Ready s) where
  abbrev D : View
  D = dirs s

  root_up : up D 1 ≡ 0
  root_up = ap parent R.sound.dirs.root_key

  none_above : (z : ℕ) (zs : List ℕ) → Links (up D) 0 zs → z ∈ zs → ⊥
  none_above z [] k i = elim i [ ]
  none_above z (b ∷ zs) k i = let p : 0 ≡ b = k.0 in let q : 0 < b = k.1 in omega arith

  -- the directories above a live one are live
  pub above_live : (y : ℕ) (xs : List ℕ) → LiveIn D y → Links (up D) y xs → (z : ℕ) → z ∈ xs → LiveIn D z
  above_live y [] ly l z x3 = elim x3 [ ]
  above_live y (a ∷ xs) ly l z (inl e) = subst (λ w. LiveIn D w) (l.0 ∙ sym e) ly
  above_live y (a ∷ xs) ly l z (inr m) =
      ⊎_elim
      (λ (e : a ≡ 1). absurd (none_above z xs (subst (λ w. Links (up D) w xs) (ap (up D) e ∙ root_up) l.2) m))
      (λ (n : a ≢ 1).
      above_live (up D a) xs (R.sound.dirs.below.parents a (subst (λ w. LiveIn D w) l.0 ly) n) l.2 z m)
      (same_or a 1)

  module _ (p : ℕ) (lp : LiveIn D p) where
    S : Single s.dir_hash s.dir_table 40
    S = dir_single s R

    up_same : (y : ℕ) → link_at s.dir_table 40 0 y ≡ field 40 s.dir_table y 1
    unfolding field
    up_same y = refl

    pub above_ends : Ends s.dir_table 40 0 p
    above_ends =
        let r = R.sound.dirs.reach p lp in
        ends_of s.dir_table 40 0 (field 40 s.dir_table 0 1) p (λ y. field 40 s.dir_table y 1) up_same r.0 r.1 R.sound.dirs.below.table.count_one
        (count_few s.dir_hash s.dir_table 40 (dir_single s R)) (all_fit s.dir_hash s.dir_table 40 (dir_single s R)) (λ y m. (above_live p r.0 lp r.1 y m).1)

    pub above_list : list_at s.dir_table 40 0 p ≡ above D p
    above_list =
        let r = R.sound.dirs.reach p lp in
        list_of s.dir_table 40 0 (field 40 s.dir_table 0 1) p (λ y. field 40 s.dir_table y 1) up_same r.0 r.1 R.sound.dirs.below.table.count_one
        (count_few s.dir_hash s.dir_table 40 (dir_single s R)) (all_fit s.dir_hash s.dir_table 40 (dir_single s R)) (λ y m. (above_live p r.0 lp r.1 y m).1)

-- ---- the tests of rename and make

-- what the code found of a new name that is legal
pub good_name : (name : List ℕ) → true ≡ legal name → legal name ≡ false → ⊥
good_name name e z = false≢true (sym z ∙ sym e)

module _ (s : Tables) (held_by x p : ℕ) (name : List ℕ) where
  module _ (held : None (held_tests_of (files s) held_by x)) where
    pub file_named : legal name ≡ false → Given (rename_tests_of File s held_by x p name) InvalidValue
    file_named e = inr (held.0, inr (held.1.0, inl (e, refl)))

    module _ (ok : legal name ≡ false → ⊥) {r : Bool} (T : Tells (LiveIn (dirs s) p) r) where
      pub file_parent : r ≡ false → Given (rename_tests_of File s held_by x p name) NotFound
      file_parent e = inr (held.0, inr (held.1.0, inr (ok, inl (tells_not T e, refl))))

      pub file_exists : {q : Bool} → r ≡ true → Tells (HasOther (files s) x (name_key p name)) q → q ≡ true → Given (rename_tests_of File s held_by x p name) AlreadyExist
      file_exists e O f = inr (held.0, inr (held.1.0, inr (ok, inr (λ n. n (T.yes e), inl (O.yes f, refl)))))

      pub file_go : {q : Bool} → r ≡ true → Tells (HasOther (files s) x (name_key p name)) q → q ≡ false → None (rename_tests_of File s held_by x p name)
      file_go e O f = (held.0, (held.1.0, (ok, (λ n. n (T.yes e), (tells_not O f, tt)))))

  module _ (held : None (held_tests_of (dirs s) held_by x)) where
    pub dir_first : x ≡ 1 → Given (rename_tests_of Directory s held_by x p name) DeletingRoot
    dir_first e = inr (held.0, inr (held.1.0, inl (e, refl)))

    pub dir_named : (x ≡ 1 → ⊥) → legal name ≡ false → Given (rename_tests_of Directory s held_by x p name) InvalidValue
    dir_named n1 e = inr (held.0, inr (held.1.0, inr (n1, inl (e, refl))))

    module _ (n1 : x ≡ 1 → ⊥) (ok : legal name ≡ false → ⊥) {r : Bool} (T : Tells (LiveIn (dirs s) p) r) where
      pub dir_parent : r ≡ false → Given (rename_tests_of Directory s held_by x p name) NotFound
      dir_parent e = inr (held.0, inr (held.1.0, inr (n1, inr (ok, inl (tells_not T e, refl)))))

      module _ (e : r ≡ true) {m : Bool} (em : m ≡ member x (list_at s.dir_table 40 0 p)) (R : Ready s) where
        into : m ≡ true → x ∈ above (dirs s) p
        into f = subst (λ z. x ∈ z) (above_list s R p (T.yes e)) (member_in x (list_at s.dir_table 40 0 p) (sym em ∙ f))

        pub dir_into : m ≡ true → Given (rename_tests_of Directory s held_by x p name) IntoItself
        dir_into f = inr (held.0, inr (held.1.0, inr (n1, inr (ok, inr (λ n. n (T.yes e), inl (into f, refl))))))

        apart : m ≡ false → x ∈ above (dirs s) p → ⊥
        apart f i = not_member x (list_at s.dir_table 40 0 p) (sym em ∙ f) (subst (λ z. x ∈ z) (sym (above_list s R p (T.yes e))) i)

        pub dir_exists : {q : Bool} → m ≡ false → Tells (HasOther (dirs s) x (name_key p name)) q → q ≡ true → Given (rename_tests_of Directory s held_by x p name) AlreadyExist
        dir_exists f O g = inr (held.0, inr (held.1.0, inr (n1, inr (ok, inr (λ n. n (T.yes e), inr (apart f, inl (O.yes g, refl)))))))

        pub dir_free : {q : Bool} → m ≡ false → Tells (HasOther (dirs s) x (name_key p name)) q → q ≡ false → None (rename_tests_of Directory s held_by x p name)
        dir_free f O g = (held.0, (held.1.0, (n1, (ok, (λ n. n (T.yes e), (apart f, (tells_not O g, tt)))))))

pub make_named : (s : Tables) (v : View) (p : ℕ) (name : List ℕ) → legal name ≡ false → Given (make_tests s v p name) InvalidValue
make_named s v p name e = inl (e, refl)

module _ (s : Tables) (v : View) (p : ℕ) (name : List ℕ) (ok : legal name ≡ false → ⊥) {r : Bool} (T : Tells (LiveIn (dirs s) p) r) where
  pub make_parent : r ≡ false → Given (make_tests s v p name) NotFound
  make_parent e = inr (ok, inl (tells_not T e, refl))

  module _ (e : r ≡ true) {q : Bool} (O : Tells (HasOther v 0 (name_key p name)) q) where
    pub make_exists : q ≡ true → Given (make_tests s v p name) AlreadyExist
    make_exists f = let o = O.yes f in inr (ok, inr (λ n. n (T.yes e), inl ((o.0, o.1, o.3), refl)))

    fresh : q ≡ false → Has v (name_key p name) → ⊥
    fresh f h = tells_not O f (h.0, h.1, (λ (z : h.0 ≡ 0). let u : 0 < h.0 = h.1.0 in omega arith), h.2)

    pub make_full : {u : Bool} → q ≡ false → Tells (free_of v ≡ 0) u → u ≡ true → Given (make_tests s v p name) NoSpace
    make_full f F g = inr (ok, inr (λ n. n (T.yes e), inr (fresh f, inl (F.yes g, refl))))

    pub make_go : {u : Bool} → q ≡ false → Tells (free_of v ≡ 0) u → u ≡ false → None (make_tests s v p name)
    make_go f F g = (ok, (λ n. n (T.yes e), (fresh f, (tells_not F g, tt))))

-- ---- what the calls give

-- a call that went
pub call_done : {A : Type 0} (g : Answer → A) (d o : A) (tests : List (Row Answer)) → None tests → o ≡ d → First (giving g tests) d o
call_done g d o tests n e = subst (λ z. First (giving g tests) d z) (sym e) (none_first g d tests n)

pub other_key : (v : View) (x : ℕ) {k k' : List ℕ} {r : Bool} → k ≡ k' → Tells (HasOther v x k) r → Tells (HasOther v x k') r
other_key v x {k} {k'} {r} e T = subst (λ z. Tells (HasOther v x z) r) e T
