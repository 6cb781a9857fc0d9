-- The free chain after each call, and so the map that is kept.
use mathlib.Core.Path.{◌≡◌, refl, sym, ap, subst, subst⁻¹, ◌∙◌}
use mathlib.Core.List.{List, ◌∷◌, ◌++◌, append_assoc}
use Prim.Native.Nat.{ℕ, ◌+◌, ◌-◌, ◌≤◌, ◌<◌}
use native.Mathlib.Omega.{arith}
use mathlib.Core.Logic.{inl, inr, ⊎_elim}
use lib.ListN.{replicate}
use Rattle.words.proofs.Laws as words
use Rattle.std.specs.Prelude.{Ok}
use Rattle.order.specs.Given.{Given}
use Rattle.order.specs.Answer.{Answer}
use Rattle.order.specs.Answer as is
use Rattle.map_bits.specs.Bits.{words_from, words_in}
use Rattle.fat_node.specs.Entry.{Bytes}
use Rattle.fat_node.specs.Node.{Run}
use Rattle.fat_node.proofs.Nodes.{le_or_lt}
use Rattle.fat_table.specs.Sound.{File}
use Rattle.fat_table.specs.Chain.{total, head_at, free_at, file_at}
use Rattle.fat_table.specs.Layout.{layout, taken, left, covers}
use Rattle.fat_table.specs.Steps.{created, resized, deleted}
use Rattle.fat_table.proofs.Stepped.{free_read, holds_create, holds_delete}
use Rattle.fat_table.proofs.Files.{Whole, seen, seen_file, holds_resize_less, holds_resize_more}
use Rattle.fat_table.proofs.Unchanged.{total_append}
use Rattle.fat_promises.specs.Calls.{create_gives, create_tests, change_gives, resize_tests, delete_tests}
use Rattle.fat_walk.specs.Volume.{Volume}
use Rattle.fat_walk.specs.Inner.Chains.{Inside}
use Rattle.fat_judge.specs.Inner.Plans.{TakeAt, CreateAt, ShrinkAt, GrowAt, ResizePlanned, RecutAt, DeleteAt}
use Rattle.fat_walk.specs.declared.Sought.{Sought}
use Rattle.fat_walk.specs.declared.Sought.TheVariants.{Within, Past}
use Rattle.fat_judge.specs.declared.ResizePlan.{ResizePlan}
use Rattle.fat_judge.specs.declared.ResizePlan.TheVariants.{Same, Shrink, Grow}
use Rattle.fat_walk.proofs.Hops.{whole_of}
use Rattle.fat_walk.proofs.Found.{inside_count, inside_first}
use Rattle.fat_walk.proofs.Chains.{free_chain, file_chain}
use Rattle.fat_step.proofs.Steps.{create_refused, create_done_lem, resize_refused, resize_kept, shrink_as, grow_as, recut_done, delete_refused, delete_done_lem}
use Rattle.map_inner.specs.Map.{map_of}
use Rattle.map_inner.specs.Sounds.{CreateMapped, ResizeMapped, DeleteMapped}
use Rattle.map_inner.specs.Inner.Moves.{CutAt, TakenIn, TakenAll, TakeSays}

module _ (n : ℕ) (t : Bytes) (w : Whole n t) where
  pub free_created : (c : ℕ) → 1 ≤ c → c ≤ total (free_at n t) → free_at n (created n t c) ≡ left (free_at n t) c
  free_created c h k =
      let s = seen n t w in
      free_read n w.small (created n t c) (layout (left (free_at n t) c) (taken (free_at n t) c ∷ s.files))
      (holds_create n w.small t (free_at n t) s.files s.holds c h k)

  pub free_deleted : (b : ℕ) → File t n b → free_at n (deleted n t b) ≡ file_at n t b ++ free_at n t
  free_deleted b i =
      let s = seen_file n t b w i in
      free_read n w.small (deleted n t b) (layout (file_at n t b ++ free_at n t) s.others)
      (holds_delete n w.small t (free_at n t) (file_at n t b) s.others s.holds b s.at)

  pub free_shrunk : (b c : ℕ) → File t n b → 1 ≤ c → c ≤ total (file_at n t b) → free_at n (resized n t b c) ≡ left (file_at n t b) c ++ free_at n t
  free_shrunk b c i h k =
      let s = seen_file n t b w i in
      free_read n w.small (resized n t b c) (layout (left (file_at n t b) c ++ free_at n t) (taken (file_at n t b) c ∷ s.others))
      (holds_resize_less n w.small t (free_at n t) (file_at n t b) s.others s.holds b s.at c h k)

  pub free_grown : (b c d : ℕ) → File t n b → 1 ≤ d → d ≤ total (free_at n t) → total (file_at n t b) + d ≡ c → free_at n (resized n t b c) ≡ left (free_at n t) d
  free_grown b c d i h k e =
      let s = seen_file n t b w i in
      subst (λ (x : ℕ). free_at n (resized n t b x) ≡ left (free_at n t) d) e
      (free_read n w.small (resized n t b (total (file_at n t b) + d)) (layout (left (free_at n t) d) ((file_at n t b ++ taken (free_at n t) d) ∷ s.others))
      (holds_resize_more n w.small t (free_at n t) (file_at n t b) s.others s.holds b s.at d h k))

-- a map of the blocks of a chain is the table's, where that is its free chain
pub map_as : (n : ℕ) (t : Bytes) (l : List Run) (map : List ℕ) → map ≡ words_from (words_in n) 0 (λ x. covers x l) → free_at n t ≡ l → map ≡ map_of n t
unfolding map_of
map_as n t l map e f = e ∙ ap (λ (k : List Run). words_from (words_in n) 0 (λ x. covers x k)) (sym f)

module _ (n : ℕ) (t : Bytes) (v : Volume n t) (g : words.Bytes t) where
  -- create
  module _ (c : ℕ) where
    create_kept : (a : Answer) (map : List ℕ) → Given (create_tests n t c) a → map ≡ map_of n t → CreateMapped n t c (create_gives a 0 t) map
    create_kept a map s q = record { sound = create_refused n t c a s; kept = q }

    create_mapped : (f x m : ℕ) → CreateAt n t c f x m → (u : Bytes) (map : List ℕ) → ((c : ℕ) → Inside (free_at n t) c x m → u ≡ created n t c)
        → map ≡ words_from (words_in n) 0 (λ (x : ℕ). covers x (left (free_at n t) c))
        → CreateMapped n t c (create_gives is.Done f u) map
    create_mapped f x m k u map p q = record {
      sound = create_done_lem n t c f x m k u p;
      kept = subst⁻¹ (λ (z : Bytes). map ≡ map_of n z) (p c k.cut)
          (map_as n (created n t c) (left (free_at n t) c) map q (free_created n t (whole_of n t v g) c k.may.some k.may.enough));
    }

  -- create, with the blocks taken out while they are sought
  pub create_zero : (c : ℕ) (map : List ℕ) → c ≡ 0 → map ≡ map_of n t → CreateMapped n t c (create_gives is.InvalidValue 0 t) map
  create_zero c map z q = create_kept c is.InvalidValue map (inl (z, refl)) q

  module _ (c : ℕ) (r : Sought) (map : List ℕ) (s : TakeSays n t c r map) where
    pub all_out : (i m : ℕ) → r ≡ Past i m → map ≡ replicate (words_in n) 0
    all_out i m e = let k : TakenAll n t c i m map = subst (λ (o : Sought). TakeSays n t c o map) e s in k.shows

    pub create_full : (i m : ℕ) → r ≡ Past i m → (c ≡ 0 → ⊥) → (map' : List ℕ) → map' ≡ map_of n t → CreateMapped n t c (create_gives is.NoSpace 0 t) map'
    create_full i m e z map' q =
        let k : TakenAll n t c i m map = subst (λ (o : Sought). TakeSays n t c o map) e s in
        create_kept c is.NoSpace map' (inr (z, inl (omega (arith, k.is.sum, k.is.some), refl))) q

    module _ (x m : ℕ) (e : r ≡ Within x m) where
      taken_in : TakenIn n t c x m map
      taken_in = subst (λ (o : Sought). TakeSays n t c o map) e s

      pub cut_at : TakeAt n t x m
      cut_at = record { count = c; cut = taken_in.is }

      pub front_some : (h : ℕ) → h ≡ head_at t → 1 ≤ h
      front_some h q =
          let f = free_chain n t (whole_of n t v g) in
          omega (arith, inside_first n t (free_at n t) c x m f.chain taken_in.is, f.at, q)

      pub create_cut : (h : ℕ) → h ≡ head_at t → (c ≡ 0 → ⊥) → (u : Bytes) → ((c : ℕ) → Inside (free_at n t) c x m → u ≡ created n t c)
          → CreateMapped n t c (create_gives is.Done (h - 1) u) map
      create_cut h q z u p =
          let f = free_chain n t (whole_of n t v g) in
          let at : CreateAt n t c (h - 1) x m =
          record {
            may = record { some = ⊎_elim (λ k. k) (λ k. absurd (z (omega (arith, k)))) (le_or_lt 1 c); enough = inside_count n t (free_at n t) c x m f.chain taken_in.is };
            at = ap (λ (j : ℕ). j - 1) q;
            cut = taken_in.is;
          } in
          create_mapped c (h - 1) x m at u map p taken_in.shows

  -- resize
  module _ (b c : ℕ) where
    pub resize_left : (a : Answer) (map : List ℕ) → Given (resize_tests n t b c) a → map ≡ map_of n t → ResizeMapped n t b c (change_gives a t) map
    resize_left a map s q = record { sound = resize_refused n t b c a s; kept = q }

    module _ (r : ResizePlan) (s : ResizePlanned n t b c (Ok r)) where
      pub resize_same : (map : List ℕ) → r ≡ Same → map ≡ map_of n t → ResizeMapped n t b c (change_gives is.Done t) map
      resize_same map e q = record { sound = resize_kept n t v g b c r s e; kept = q }

      module _ (y x m : ℕ) (e : r ≡ Shrink y x m) where
        shrunk : ShrinkAt n t b c y x m
        shrunk = subst (λ (p : ResizePlan). ResizePlanned n t b c (Ok p)) e s

        pub shrink_cut : CutAt n t x m
        shrink_cut = record { file = b; count = c; is = shrunk.may.file; cut = shrunk.cut }

        pub shrink_mapped : (u : Bytes) (map : List ℕ) → ((b c : ℕ) → RecutAt n t b c y x m → u ≡ resized n t b c)
            → ((f c : ℕ) → File t n f → Inside (file_at n t f) c x m → map ≡ words_from (words_in n) 0 (λ (x : ℕ). covers x (left (file_at n t f) c ++ free_at n t)))
            → ResizeMapped n t b c (change_gives is.Done u) map
        shrink_mapped u map p q =
            let k : ShrinkAt n t b c y x m = shrunk in
            let w : Whole n t = whole_of n t v g in
            let few : c ≤ total (file_at n t b) = inside_count n t (file_at n t b) c x m (file_chain n t w b k.may.file).chain k.cut in
            record {
              sound = recut_done n t b c r s y x m (inl e) u p;
              kept = subst⁻¹ (λ (z : Bytes). map ≡ map_of n z) (p b c (shrink_as n t b c y x m k))
                  (map_as n (resized n t b c) (left (file_at n t b) c ++ free_at n t) map (q b c k.may.file k.cut) (free_shrunk n t w b c k.may.file k.may.some few));
            }

      module _ (y x m : ℕ) (e : r ≡ Grow y x m) where
        grown : GrowAt n t b c y x m
        grown = subst (λ (p : ResizePlan). ResizePlanned n t b c (Ok p)) e s

        pub grow_take : TakeAt n t x m
        grow_take = record { count = c - total (file_at n t b); cut = grown.cut }

        pub grow_mapped : (u : Bytes) (map : List ℕ) → ((b c : ℕ) → RecutAt n t b c y x m → u ≡ resized n t b c)
            → ((c : ℕ) → Inside (free_at n t) c x m → map ≡ words_from (words_in n) 0 (λ (x : ℕ). covers x (left (free_at n t) c)))
            → ResizeMapped n t b c (change_gives is.Done u) map
        grow_mapped u map p q =
            let k : GrowAt n t b c y x m = grown in
            let d : ℕ = c - total (file_at n t b) in
            record {
              sound = recut_done n t b c r s y x m (inr e) u p;
              kept = subst⁻¹ (λ (z : Bytes). map ≡ map_of n z) (p b c (grow_as n t b c y x m k))
                  (map_as n (resized n t b c) (left (free_at n t) d) map (q d k.cut)
                  (free_grown n t (whole_of n t v g) b c d k.may.file (omega (arith, k.more)) (omega (arith, k.more, k.may.enough)) (omega (arith, k.more))));
            }

  -- delete
  module _ (b : ℕ) where
    pub delete_left : (a : Answer) (map : List ℕ) → Given (delete_tests n t b) a → map ≡ map_of n t → DeleteMapped n t b (change_gives a t) map
    delete_left a map s q = record { sound = delete_refused n t b a s; kept = q }

    pub delete_mapped : (y : ℕ) → DeleteAt n t b y → (u : Bytes) (map : List ℕ) → u ≡ deleted n t b
        → map ≡ words_from (words_in n) 0 (λ (x : ℕ). covers x (file_at n t b ++ free_at n t)) → DeleteMapped n t b (change_gives is.Done u) map
    delete_mapped y w u map p q = record {
      sound = delete_done_lem n t b y w u p;
      kept = subst⁻¹ (λ (z : Bytes). map ≡ map_of n z) p
          (map_as n (deleted n t b) (file_at n t b ++ free_at n t) map q (free_deleted n t (whole_of n t v g) b w.may.file));
    }
