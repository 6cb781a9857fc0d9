-- What the calls with both maps give.
use mathlib.Core.Path.{◌≡◌, refl, sym, ap, subst, subst⁻¹, ◌∙◌}
use mathlib.Core.List.{List}
use mathlib.Core.Bool.{Bool, true, false, not}
use mathlib.Core.Logic.{◌⊎◌, inl, inr, ⊎_elim}
use Prim.Native.Nat.{ℕ, zero, suc, ◌+◌, ◌-◌, ◌≤◌, ◌<◌}
use native.Mathlib.Omega.{arith}
use lib.ListN.{length}
use borrow.Author.Tests.{not-true, not-false}
use Rattle.words.proofs.Laws as words
use Rattle.order.specs.Tells.{Tells}
use Rattle.order.specs.First.{First}
use Rattle.std.specs.Prelude.{Err}
use Rattle.order.specs.declared.Refusal as why
use Rattle.order.specs.Answer.{Answer, Done, ReadOnlyVolume}
use Rattle.order.specs.Answer as is
use Rattle.map_bits.specs.Bits.{words_from, words_in}
use Rattle.map_bits.specs.Inner.Turns.{Turn, Turnable}
use Rattle.fat_node.specs.Entry.{Bytes}
use Rattle.fat_table.specs.Sound.{File}
use Rattle.fat_table.specs.Chain.{total, head_at, chain_at, free_at, file_at}
use Rattle.fat_table.specs.Steps.{created, created_at, resized, deleted}
use Rattle.fat_table.proofs.Decided.{file_decided}
use Rattle.fat_table.proofs.Files.{Whole, whole_created, whole_deleted, whole_resized}
use Rattle.fat_test.specs.Gate.{InUse}
use Rattle.fat_test.proofs.Change.{not_in_use}
use Rattle.fat_promises.specs.Calls.{Create, create_gives, CreateSound, MayCreate, Change, change_gives, ResizeSound, MayResize, DeleteSound, Carry, carry_gives, carry_rows, write_done, WriteSound}
use Rattle.fat_promises.specs.Promise.{change_rows}
use Rattle.fat_promises.proofs.May.{may_create, may_resize}
use Rattle.fat_walk.specs.Volume.{Volume}
use Rattle.fat_walk.proofs.Hops.{whole_of}
use Rattle.fat_walk.proofs.Found.{head_chain, first_below}
use Rattle.map_inner.specs.Map.{map_of}
use Rattle.map_inner.specs.Sounds.{CreateMapped, ResizeMapped, DeleteMapped}
use Rattle.fat_first.specs.Firsts.{first_at, firsts_of}
use Rattle.fat_first.specs.Calls.{CreateFirst, ResizeFirst, DeleteFirst}
use Rattle.fat_first.proofs.Begun.{same}
use Rattle.fat_first.proofs.Kept.{firsts_created, firsts_deleted, firsts_resized, firsts_after, firsts_same, turn_in, turn_out}

-- a chain with blocks has an index
headed : (n : ℕ) (t : Bytes) (h : ℕ) → 1 ≤ total (chain_at t n h) → 1 ≤ h
headed zero t h k = let z : ⊥ = omega arith in absurd z
headed (suc n) t zero k = let z : ⊥ = omega arith in absurd z
headed (suc n) t (suc h) k = omega arith

-- create -----------------------------------------------------------------------------------------------

-- it is done
record Made (n : ℕ) (t : Bytes) (count f : ℕ) (u : Bytes) : Type 0 where
  may : MayCreate n t count
  at : f ≡ created_at t
  is : u ≡ created n t count

module _ (n : ℕ) (t : Bytes) (count f : ℕ) (u : Bytes) where
  made : CreateSound n t count (create_gives Done f u) → Made n t count f u
  made (inl p) = let e : Done ≡ is.InvalidValue = ap (λ (o : Create). o.answer) p.1 in absurd (cc)
  made (inr (some, inl p)) = let e : Done ≡ is.NoSpace = ap (λ (o : Create). o.answer) p.1 in absurd (cc)
  made (inr (some, inr (enough, e))) = record {
    may = may_create n t count (some, (enough, tt));
    at = ap (λ (o : Create). o.first) e;
    is = ap (λ (o : Create). o.table) e;
  }

  unmade : (a : why.Refusal) → CreateSound n t count (create_gives (Err a) f u) → u ≡ t
  unmade a (inl p) = ap (λ (o : Create). o.table) p.1
  unmade a (inr (some, inl p)) = ap (λ (o : Create). o.table) p.1
  unmade a (inr (some, inr (enough, e))) = let q : Err a ≡ Done = ap (λ (o : Create). o.answer) e in absurd (cc)

-- resize, delete ---------------------------------------------------------------------------------------

module _ (n : ℕ) (t : Bytes) (w : Whole n t) (b : ℕ) (u : Bytes) where
  sized : (a : Answer) (count : ℕ) → ResizeSound n t b count (change_gives a u) → (u ≡ t) ⊎ (MayResize n t b count × (u ≡ resized n t b count))
  sized a count (inl p) = inl (ap (λ (o : Change). o.table) p.1)
  sized a count (inr (is, inl p)) = inl (ap (λ (o : Change). o.table) p.1)
  sized a count (inr (is, inr (some, inl p))) = inl (ap (λ (o : Change). o.table) p.1)
  sized a count (inr (is, inr (some, inr (enough, e)))) =
      inr (may_resize n t w b count (is, (some, (enough, tt))), ap (λ (o : Change). o.table) e)

  gone : DeleteSound n t b (change_gives Done u) → File t n b × (u ≡ deleted n t b)
  gone (inl p) = let e : Done ≡ is.NotAFile = ap (λ (o : Change). o.answer) p.1 in absurd (cc)
  gone (inr (is, e)) = (⊎_elim (λ f. f) (λ k. absurd (is k)) (file_decided n t b w), ap (λ (o : Change). o.table) e)

  ungone : (a : why.Refusal) → DeleteSound n t b (change_gives (Err a) u) → u ≡ t
  ungone a (inl p) = ap (λ (o : Change). o.table) p.1
  ungone a (inr (is, e)) = let q : Err a ≡ Done = ap (λ (o : Change). o.answer) e in absurd (cc)

module _ (n : ℕ) (t : Bytes) (v : Volume n t) (g : words.Bytes t) (l : ℕ) (r : Bool) (u : Tells (InUse l) r) where
  used : not r ≡ false → (InUse l → ⊥) → ⊥
  used e k = k (u.yes (not-false r e))

  shut : not r ≡ true → InUse l → ⊥
  shut e = not_in_use l r u (not-true r e)

  whole : Whole n t
  whole = whole_of n t v g

  -- a block length that is not in use
  module _ (map firsts : List ℕ) (p : map ≡ map_of n t) (q : firsts ≡ firsts_of n t) (e : not r ≡ true) where
    pub create_shut : (count : ℕ) → CreateFirst n t l count (create_gives ReadOnlyVolume 0 t) map firsts
    create_shut count = record { sound = inl (shut e, refl); free = p; first = q }

    pub resize_shut : (b count : ℕ) → ResizeFirst n t l b count (change_gives ReadOnlyVolume t) map firsts
    resize_shut b count = record { sound = inl (shut e, refl); free = p; first = q }

    pub delete_shut : (b : ℕ) → DeleteFirst n t l b (change_gives ReadOnlyVolume t) map firsts
    delete_shut b = record { sound = inl (shut e, refl); free = p; first = q }

  module _ (firsts : List ℕ) (q : firsts ≡ firsts_of n t) (map : List ℕ) where
    -- create
    module _ (count f : ℕ) (t' : Bytes) where
      pub create_left : not r ≡ false → (a : why.Refusal) → CreateMapped n t count (create_gives (Err a) f t') map
          → CreateFirst n t l count (create_gives (Err a) f t') map firsts
      create_left e a c = record {
        sound = inr (used e, c.sound);
        free = c.kept;
        first = subst⁻¹ (λ (x : Bytes). firsts ≡ firsts_of n x) (unmade n t count f t' a c.sound) q;
      }

      module _ (c : CreateMapped n t count (create_gives Done f t') map) where
        done : Made n t count f t'
        done = made n t count f t' c.sound

        some : 1 ≤ head_at t
        some = headed n t (head_at t) (omega (arith, done.may.some, done.may.enough))

        index : head_at t ≡ suc f
        index = omega (arith, some, done.at)

        inside : f < n
        inside = omega (arith, index, first_below n t (head_at t) (head_chain n t v g (head_at t) refl))

        turn : Turn true firsts (first_at n t) (first_at n (created n t count)) f (f + 1)
        turn =
            turn_in n t (created n t count) whole (whole_created n t whole count done.may.some done.may.enough) firsts q f inside
            (λ x. firsts_created n t whole count done.may.some done.may.enough x ∙ ap (λ (i : ℕ). first_at n t x + same i x) index)

        pub create_turnable : Turnable true firsts f (f + 1)
        create_turnable = record { from = first_at n t; to = first_at n (created n t count); turn = turn }

        pub create_done_lem : not r ≡ false → (firsts' : List ℕ)
            → ((c d : ℕ → ℕ) → Turn true firsts c d f (f + 1) → firsts' ≡ words_from (length firsts) 0 d)
            → CreateFirst n t l count (create_gives Done f t') map firsts'
        create_done_lem e firsts' s = record {
          sound = inr (used e, c.sound);
          free = c.kept;
          first =
              subst⁻¹ (λ (x : Bytes). firsts' ≡ firsts_of n x) done.is
              (firsts_after n t (created n t count) whole (whole_created n t whole count done.may.some done.may.enough) firsts q firsts'
              (s (first_at n t) (first_at n (created n t count)) turn));
        }

    -- resize
    pub resize_first : (b count : ℕ) (a : Answer) (t' : Bytes) → not r ≡ false → ResizeMapped n t b count (change_gives a t') map
        → ResizeFirst n t l b count (change_gives a t') map firsts
    resize_first b count a t' e c = record {
      sound = inr (used e, c.sound);
      free = c.kept;
      first = ⊎_elim
          (λ h. subst⁻¹ (λ (x : Bytes). firsts ≡ firsts_of n x) h q)
          (λ h.
          let m : MayResize n t b count = h.0 in
          subst⁻¹ (λ (x : Bytes). firsts ≡ firsts_of n x) h.1
          (firsts_same n t (resized n t b count) whole (whole_resized n t whole b count m.file m.some m.enough) firsts q
          (firsts_resized n t whole b m.file count m.some m.enough)))
          (sized n t whole b t' a count c.sound);
    }

    -- delete
    module _ (b : ℕ) (t' : Bytes) where
      pub delete_left : not r ≡ false → (a : why.Refusal) → DeleteMapped n t b (change_gives (Err a) t') map → DeleteFirst n t l b (change_gives (Err a) t') map firsts
      delete_left e a c = record {
        sound = inr (used e, c.sound);
        free = c.kept;
        first = subst⁻¹ (λ (x : Bytes). firsts ≡ firsts_of n x) (ungone n t whole b t' a c.sound) q;
      }

      module _ (c : DeleteMapped n t b (change_gives Done t') map) where
        file : File t n b
        file = (gone n t whole b t' c.sound).0

        turn_gone : Turn false firsts (first_at n t) (first_at n (deleted n t b)) b (b + 1)
        turn_gone = turn_out n t (deleted n t b) whole (whole_deleted n t whole b file) firsts q b file.0.1 (firsts_deleted n t whole b file)

        pub delete_turnable : Turnable false firsts b (b + 1)
        delete_turnable = record { from = first_at n t; to = first_at n (deleted n t b); turn = turn_gone }

        pub delete_done_lem : not r ≡ false → (firsts' : List ℕ)
            → ((c d : ℕ → ℕ) → Turn false firsts c d b (b + 1) → firsts' ≡ words_from (length firsts) 0 d)
            → DeleteFirst n t l b (change_gives Done t') map firsts'
        delete_done_lem e firsts' s = record {
          sound = inr (used e, c.sound);
          free = c.kept;
          first =
              subst⁻¹ (λ (x : Bytes). firsts' ≡ firsts_of n x) (gone n t whole b t' c.sound).1
              (firsts_after n t (deleted n t b) whole (whole_deleted n t whole b file) firsts q firsts'
              (s (first_at n t) (first_at n (deleted n t b)) turn_gone));
        }

-- write
module _ (n : ℕ) (t d : Bytes) (l b pos : ℕ) (buf : Bytes) (r : Bool) (u : Tells (InUse l) r) where
  abbrev Says : Carry → Type 0
  Says o = First (change_rows (λ a. carry_gives a d) l (carry_rows n t l b pos (length buf) d)) (write_done n t d l b pos buf) o

  pub write_used : (o : Carry) → not r ≡ false → WriteSound n t d l b pos buf o → Says o
  write_used o e c = inr ((λ k. k (u.yes (not-false r e))), c)

  pub write_shut : not r ≡ true → Says (carry_gives ReadOnlyVolume d)
  write_shut e = inl (not_in_use l r u (not-true r e), refl)
