-- The steps of create, resize and delete as few writes, and the calls: judge, then step.
use mathlib.Core.Path.{◌≡◌, sym, ap, subst, subst⁻¹, ◌∙◌}
use mathlib.Core.Logic.{◌⊎◌, ⊎_elim}
use mathlib.Core.List.{List, ◌∷◌, ◌++◌, append_assoc}
use Prim.Native.Nat.{ℕ, ◌+◌, ◌-◌, ◌≤◌}
use native.Mathlib.Omega.{arith}
use Rattle.words.proofs.Laws as words
use Rattle.std.specs.Prelude.{Ok}
use Rattle.order.specs.Given.{Given}
use Rattle.order.specs.Answer.{Answer}
use Rattle.order.specs.Answer as is
use Rattle.order.proofs.Tests.{test_refused, tests_passed}
use Rattle.fat_node.specs.Entry.{Bytes}
use Rattle.fat_node.specs.Node.{Run, next_at, set_head}
use Rattle.fat_table.specs.Sound.{File}
use Rattle.fat_table.specs.Chain.{total, size_at, head_at, free_at, file_at}
use Rattle.fat_table.specs.Steps.{created, resized, deleted}
use Rattle.fat_table.proofs.Unchanged.{total_append}
use Rattle.fat_promises.specs.Calls.{create_gives, create_tests, create_done, CreateSound, change_gives, resize_tests, resize_done, ResizeSound, delete_tests, delete_done, DeleteSound}
use Rattle.fat_promises.proofs.May.{none_create, none_resize, none_delete}
use Rattle.fat_walk.specs.Volume.{Volume}
use Rattle.fat_walk.specs.Inner.Chains.{Standing, StandingAt, Chain, Inside, LastAt}
use Rattle.fat_step.specs.Inner.Writes.{join_at, cut_at}
use Rattle.fat_judge.specs.Inner.Plans.{TakeAt, CreateAt, SameAt, ShrinkAt, GrowAt, ResizePlanned, RecutAt, Recut, DeleteAt}
use Rattle.fat_judge.specs.declared.ResizePlan.{ResizePlan}
use Rattle.fat_judge.specs.declared.ResizePlan.TheVariants.{Same, Shrink, Grow}
use Rattle.fat_walk.proofs.Chains.{free_chain, file_chain}
use Rattle.fat_step.proofs.Few.{both_is, both_chain, created_few, resized_few, resized_same, deleted_few}
use Rattle.fat_walk.proofs.Found.{inside_standing, inside_next, inside_part, last_standing, first_standing, first_below, head_chain}
use Rattle.fat_walk.proofs.Hops.{whole_of}

module _ (n : ℕ) (t : Bytes) (v : Volume n t) (g : words.Bytes t) where
  -- create -------------------------------------------------------------------------------------------------

  module _ (x m : ℕ) (w : TakeAt n t x m) where
    free : Chain n t (free_at n t)
    free = (free_chain n t (whole_of n t v g)).chain

    pub create_node : Standing n t x
    create_node = inside_standing n t (free_at n t) w.count x m free w.cut

    pub create_next : StandingAt n t (next_at t x)
    create_next = inside_next n t (free_at n t) w.count x m free w.cut

    pub create_fits : m ≤ size_at t x
    create_fits = (inside_part n t (free_at n t) w.count x m free w.cut).1

  pub create_stepped : (x m : ℕ) (u : Bytes) → u ≡ cut_at t x m → (c : ℕ) → Inside (free_at n t) c x m → u ≡ created n t c
  create_stepped x m u p c w =
      p ∙ ap (λ (j : ℕ). cut_at t j m) (sym w.at) ∙ created_few n t (whole_of n t v g) w.before w.node w.after m c w.is w.some w.fits w.sum

  -- resize -------------------------------------------------------------------------------------------------

  -- what `join` asks for, of the head and of a file's last node
  pub head_node : (h : ℕ) → h ≡ head_at t → StandingAt n t h
  head_node h e = first_standing n t h (head_chain n t v g h e)

  pub head_low : (h : ℕ) → h ≡ head_at t → h ≤ n
  head_low h e = first_below n t h (head_chain n t v g h e)

  last_node : (b y : ℕ) → File t n b → LastAt (file_at n t b) y → Standing n t y
  last_node b y f w = last_standing n t (file_at n t b) y (file_chain n t (whole_of n t v g) b f).chain w

  pub resize_last : (y x m : ℕ) → Recut n t y x m → Standing n t y
  resize_last y x m w = last_node w.file y w.at.may.file w.at.end

  module _ (y x m h : ℕ) (u : Bytes) (q : h ≡ head_at t) (p : u ≡ join_at t y h) where
    module _ (b c : ℕ) (w : RecutAt n t b c y x m) where
      joined_is : u ≡ join_at t w.end.node.start (head_at t)
      joined_is = p ∙ ap (λ (z : ℕ). join_at t z h) (sym w.end.at) ∙ ap (join_at t w.end.node.start) q

      two : List Run
      two = w.end.before ++ w.end.node ∷ free_at n t

      joined_chain : Chain n u two
      unfolding two
      joined_chain = subst⁻¹ (λ (z : Bytes). Chain n z (w.end.before ++ w.end.node ∷ free_at n t)) joined_is
          (both_chain n t (whole_of n t v g) b w.may.file w.end.before w.end.node w.end.is)

      joined_inside : Inside two c x m
      unfolding two
      joined_inside = subst (λ (l : List Run). Inside l c x m) (both_is n t (whole_of n t v g) b w.may.file w.end.before w.end.node w.end.is) w.cut

    module _ (w : Recut n t y x m) where
      abbrev chain : Chain n u (two w.file w.count w.at)
      chain = joined_chain w.file w.count w.at

      abbrev inside : Inside (two w.file w.count w.at) w.count x m
      inside = joined_inside w.file w.count w.at

      pub resize_node : Standing n u x
      resize_node = inside_standing n u (two w.file w.count w.at) w.count x m chain inside

      pub resize_next : StandingAt n u (next_at u x)
      resize_next = inside_next n u (two w.file w.count w.at) w.count x m chain inside

      pub resize_fits : m ≤ size_at u x
      resize_fits = (inside_part n u (two w.file w.count w.at) w.count x m chain inside).1

    pub resize_stepped : (z : Bytes) → z ≡ cut_at u x m → (b c : ℕ) → RecutAt n t b c y x m → z ≡ resized n t b c
    unfolding two
    resize_stepped z k b c w =
        let i : Inside (two b c w) c x m = joined_inside b c w in
        k
        ∙ ap (λ (a : Bytes). cut_at a x m) (joined_is b c w)
        ∙ ap (λ (a : ℕ). cut_at (join_at t w.end.node.start (head_at t)) a m) (sym i.at)
        ∙ resized_few n t (whole_of n t v g) b w.may.file w.end.before w.end.node w.end.is i.before i.node i.after m c i.is i.some i.fits i.sum

  -- delete -------------------------------------------------------------------------------------------------

  pub delete_last : (b y : ℕ) → DeleteAt n t b y → Standing n t y
  delete_last b y w = last_node b y w.may.file w.end

  pub delete_stepped : (b y h : ℕ) (u x : Bytes) → DeleteAt n t b y → h ≡ head_at t → u ≡ join_at t y h → x ≡ set_head u (b + 1) → x ≡ deleted n t b
  delete_stepped b y h u x w e p q =
      q
      ∙ ap (λ (z : Bytes). set_head z (b + 1)) (p ∙ ap (λ (z : ℕ). join_at t z h) (sym w.end.at) ∙ ap (join_at t w.end.node.start) e)
      ∙ deleted_few n t (whole_of n t v g) b w.may.file w.end.before w.end.node w.end.is

  -- to the same count
  pub resize_kept : (b c : ℕ) (p : ResizePlan) → ResizePlanned n t b c (Ok p) → p ≡ Same → ResizeSound n t b c (change_gives is.Done t)
  resize_kept b c p s e =
      let w : SameAt n t b c = subst (λ (q : ResizePlan). ResizePlanned n t b c (Ok q)) e s in
      subst (λ (x : Bytes). ResizeSound n t b c (change_gives is.Done x)) (ap (resized n t b) w.same ∙ resized_same n t (whole_of n t v g) b w.may.file)
      (tests_passed (λ a. change_gives a t) (resize_done n t b c) (resize_tests n t b c) (none_resize n t b c w.may))

pub recut_part : (n : ℕ) (t : Bytes) (y x m : ℕ) → Recut n t y x m → 1 ≤ m
recut_part n t y x m w = w.at.cut.some

-- the calls ----------------------------------------------------------------------------------------------------

module _ (n : ℕ) (t : Bytes) (c : ℕ) where
  pub create_refused : (a : Answer) → Given (create_tests n t c) a → CreateSound n t c (create_gives a 0 t)
  create_refused a s = test_refused (λ a. create_gives a 0 t) (create_done n t c) (create_tests n t c) a s

  module _ (f x m : ℕ) (w : CreateAt n t c f x m) where
    pub create_done_lem : (u : Bytes) → ((c : ℕ) → Inside (free_at n t) c x m → u ≡ created n t c) → CreateSound n t c (create_gives is.Done f u)
    create_done_lem u p =
        subst⁻¹ (λ (z : Bytes). CreateSound n t c (create_gives is.Done f z)) (p c w.cut)
        (subst⁻¹ (λ (z : ℕ). CreateSound n t c (create_gives is.Done z (created n t c))) w.at
        (tests_passed (λ a. create_gives a 0 t) (create_done n t c) (create_tests n t c) (none_create n t c w.may)))

module _ (n : ℕ) (t : Bytes) (b c : ℕ) where
  pub resize_refused : (a : Answer) → Given (resize_tests n t b c) a → ResizeSound n t b c (change_gives a t)
  resize_refused a s = test_refused (λ a. change_gives a t) (resize_done n t b c) (resize_tests n t b c) a s

  pub shrink_as : (y x m : ℕ) → ShrinkAt n t b c y x m → RecutAt n t b c y x m
  shrink_as y x m a =
      let w : Inside (file_at n t b) c x m = a.cut in
      record {
        may = a.may;
        end = a.end;
        cut = record {
          before = w.before;
          node = w.node;
          after = w.after ++ free_at n t;
          is = ap (λ (l : List Run). l ++ free_at n t) w.is ∙ append_assoc w.before (w.node ∷ w.after) (free_at n t);
          at = w.at;
          sum = w.sum;
          some = w.some;
          fits = w.fits;
        };
      }

  pub grow_as : (y x m : ℕ) → GrowAt n t b c y x m → RecutAt n t b c y x m
  grow_as y x m a =
      let w : Inside (free_at n t) (c - total (file_at n t b)) x m = a.cut in
      record {
        may = a.may;
        end = a.end;
        cut = record {
          before = file_at n t b ++ w.before;
          node = w.node;
          after = w.after;
          is = ap (λ (l : List Run). file_at n t b ++ l) w.is ∙ sym (append_assoc (file_at n t b) w.before (w.node ∷ w.after));
          at = w.at;
          sum = omega (arith, a.more, w.sum, total_append (file_at n t b) w.before);
          some = w.some;
          fits = w.fits;
        };
      }

  -- a shrink or a grow, judged
  module _ (p : ResizePlan) (s : ResizePlanned n t b c (Ok p)) (y x m : ℕ) (d : (p ≡ Shrink y x m) ⊎ (p ≡ Grow y x m)) where
    recut_as : RecutAt n t b c y x m
    recut_as = ⊎_elim
        (λ e. shrink_as y x m (subst (λ (q : ResizePlan). ResizePlanned n t b c (Ok q)) e s))
        (λ e. grow_as y x m (subst (λ (q : ResizePlan). ResizePlanned n t b c (Ok q)) e s))
        d

    pub recut_goes : Recut n t y x m
    recut_goes = record { file = b; count = c; at = recut_as }

    pub recut_done : (u : Bytes) → ((b c : ℕ) → RecutAt n t b c y x m → u ≡ resized n t b c) → ResizeSound n t b c (change_gives is.Done u)
    recut_done u q =
        subst⁻¹ (λ (z : Bytes). ResizeSound n t b c (change_gives is.Done z)) (q b c recut_as)
        (tests_passed (λ a. change_gives a t) (resize_done n t b c) (resize_tests n t b c) (none_resize n t b c recut_as.may))

module _ (n : ℕ) (t : Bytes) (b : ℕ) where
  pub delete_refused : (a : Answer) → Given (delete_tests n t b) a → DeleteSound n t b (change_gives a t)
  delete_refused a s = test_refused (λ a. change_gives a t) (delete_done n t b) (delete_tests n t b) a s

  pub delete_done_lem : (y : ℕ) → DeleteAt n t b y → (u : Bytes) → u ≡ deleted n t b → DeleteSound n t b (change_gives is.Done u)
  delete_done_lem y w u p =
      subst⁻¹ (λ (z : Bytes). DeleteSound n t b (change_gives is.Done z)) p
      (tests_passed (λ a. change_gives a t) (delete_done n t b) (delete_tests n t b) (none_delete n t b w.may))
