-- The checks of the block table's history.
use mathlib.Core.Path.{◌≡◌, refl, ap, ◌∙◌}
use mathlib.Core.List.{List, [], ◌∷◌}
use mathlib.Core.Logic.{inl, inr}
use Prim.Native.Nat.{ℕ, ◌+◌, ◌*◌, ◌<◌, ◌≤◌}
use native.Mathlib.Omega.{arith}
use lib.ListN.{length}
use Rattle.words.specs.Word.{word, put_word}
use Rattle.order.specs.First.{Row, First}
use Rattle.order.specs.Answer.{Answer}
use Rattle.order.specs.Answer.{NoSpace, OutOfBound}
use Rattle.fat_node.specs.Entry.{Bytes, get, put}
use Rattle.fat_node.specs.Sizes.{blocks}
use Rattle.fat_node.specs.Node.{set_node, set_head, prev_half, next_half}
use Rattle.fat_node.specs.Format.{formatted}
use Rattle.fat_table.specs.Chain.{total, free_at, file_at}
use Rattle.fat_table.specs.Sound.{File}
use Rattle.fat_table.specs.Steps.{created, deleted, shrunk, grown, resized}
use Rattle.fat_table.specs.Counts.{starts}
use Rattle.fat_table.proofs.Files.{Whole}
use Rattle.fat_test.specs.Gate.{test_gate}
use Rattle.fat_test.specs.Promise.{test_refused, test_done, TestPromise}
use Rattle.fat_test.specs.Promise.{Tested}
use Rattle.order.specs.Beside.{beside}
use Rattle.fat_promises.specs.Promise.{Promise, ChangePromise}
use Rattle.fat_promises.specs.Calls.{
  Create,
  create_gives,
  create_rows,
  create_done,
  CreatePromise,
  Change,
  change_gives,
  resize_rows,
  resize_done,
  ResizePromise,
  delete_rows,
  delete_done,
  DeletePromise,
  Listing,
  list_gives,
  list_rows,
  list_done,
  ListPromise,
  Carry,
  carry_gives,
  carry_rows,
  read_done,
  ReadPromise,
}
use Rattle.checks.specs.Check.{Check, Shows}
use Rattle.checks.specs.Blocks.{
  zeros,
  nines,
  data4,
  work4,
  creates,
  deletes,
  resizes,
  tests,
  opens,
  reads,
  format4,
  create1,
  create2,
  delete0,
  free2,
  create2again,
  open0,
  resize1,
  resize3,
  read0,
  read1,
  four_blocks,
}
use Rattle.checks.proofs.Passes.{none_first, Sole, sole, SoleGiven, settles, changes, test_passes}
use Rattle.checks.proofs.Then.{then}
use Rattle.checks.proofs.Formats.{sees4, shows_format}
use Rattle.checks.proofs.History.{
  t0,
  t1,
  t2,
  t3,
  t4,
  t5,
  whole0,
  whole1,
  whole2,
  whole3,
  whole4,
  whole5,
  file2,
  file4_0,
  file4_1,
  file5_1,
  free0,
  free1,
  free3,
  free4,
  free5,
  size4,
  size5,
}

-- a call on a whole table of 4 blocks, and the checks after it
module _ (t : Bytes) (w : Whole 4 t) where
  settled : {A : Type 0} (refuse : Answer → A) (own : ℕ → List (Row A)) (done : ℕ → A) (x : A) → First (own 4) (done 4) x
      → SoleGiven (Promise refuse t 2048 512 work4 (own (blocks t)) (done (blocks t))) x
  settled refuse = settles 4 (omega arith) t w work4 (omega arith) refuse 2048 512 refl (omega arith) (omega arith)

  changed : {A : Type 0} (refuse : Answer → A) (own : ℕ → List (Row A)) (done : ℕ → A) (x : A) → First (own 4) (done 4) x
      → SoleGiven (ChangePromise refuse t 2048 512 work4 (own (blocks t)) (done (blocks t))) x
  changed refuse = changes 4 (omega arith) t w work4 (omega arith) refuse 2048 512 refl (omega arith) (omega arith) (inl refl)

  module _ (c : ℕ) (wanted : List ℕ) (cs : List (Check Bytes)) where
    shows_create : (c ≡ 0 → ⊥) → c ≤ total (free_at 4 t) → (creates c wanted).seen (beside (create_done 4 t c) work4) ≡ wanted
        → Shows cs (created 4 t c) → Shows (creates c wanted ∷ cs) t
    shows_create some enough sees rest =
        let q : SoleGiven (CreatePromise t 2048 512 work4 c) (create_done 4 t c) =
        changed (λ a. create_gives a 0 t) (λ n. create_rows n t c) (λ n. create_done n t c) (create_done 4 t c)
        (none_first (create_rows 4 t c) (create_done 4 t c) (some, (λ h. omega (arith, enough, h), tt))) in
        then (creates c wanted) cs t (created 4 t c) q.0
        (λ o p. (
          ap (λ (x : Create). (creates c wanted).seen (beside x work4)) (q.1 o p) ∙ sees,
          ap (λ (x : Create). x.table) (q.1 o p),
        )) rest

  module _ (b : ℕ) (file : File t 4 b) (wanted : List ℕ) (cs : List (Check Bytes)) where
    shows_delete : (deletes b wanted).seen (beside (delete_done 4 t b) work4) ≡ wanted → Shows cs (deleted 4 t b) → Shows (deletes b wanted ∷ cs) t
    shows_delete sees rest =
        let q : SoleGiven (DeletePromise t 2048 512 work4 b) (delete_done 4 t b) =
        changed (λ a. change_gives a t) (λ n. delete_rows n t b) (λ n. delete_done n t b) (delete_done 4 t b)
        (none_first (delete_rows 4 t b) (delete_done 4 t b) (λ h. h file, tt)) in
        then (deletes b wanted) cs t (deleted 4 t b) q.0
        (λ o p. (
          ap (λ (x : Change). (deletes b wanted).seen (beside x work4)) (q.1 o p) ∙ sees,
          ap (λ (x : Change). x.table) (q.1 o p),
        )) rest

    -- where the call's own rows give x
    shows_resize : (c : ℕ) (x : Change) → First (resize_rows 4 t b c) (resize_done 4 t b c) x → (resizes b c wanted).seen (beside x work4) ≡ wanted
        → Shows cs x.table → Shows (resizes b c wanted ∷ cs) t
    shows_resize c x f sees rest =
        let q : SoleGiven (ResizePromise t 2048 512 work4 b c) x =
        changed (λ a. change_gives a t) (λ n. resize_rows n t b c) (λ n. resize_done n t b c) x f in
        then (resizes b c wanted) cs t x.table q.0
        (λ o p. (
          ap (λ (x : Change). (resizes b c wanted).seen (beside x work4)) (q.1 o p) ∙ sees,
          ap (λ (x : Change). x.table) (q.1 o p),
        )) rest

    shows_open : total (file_at 4 t b) ≤ 4 → (opens b wanted).seen (beside (list_done 4 t b (nines 4)) work4) ≡ wanted → Shows cs t
        → Shows (opens b wanted ∷ cs) t
    shows_open enough sees rest =
        let q : SoleGiven (ListPromise t 2048 512 work4 b (nines 4)) (list_done 4 t b (nines 4)) =
        settled (λ a. list_gives a 0 (nines 4)) (λ n. list_rows n t b (nines 4)) (λ n. list_done n t b (nines 4))
        (list_done 4 t b (nines 4))
        (none_first (list_rows 4 t b (nines 4)) (list_done 4 t b (nines 4)) (λ h. h file, (λ h. omega (arith, enough, h), tt))) in
        then (opens b wanted) cs t t q.0
        (λ o p. (ap (λ (x : Listing). (opens b wanted).seen (beside x work4)) (q.1 o p) ∙ sees, refl)) rest

    shows_read : (pos many : ℕ) (x : Carry) → First (carry_rows 4 t 512 b pos (length (nines many)) (nines many)) (read_done 4 t data4 512 b pos (nines many)) x
        → (reads b pos many wanted).seen (beside x work4) ≡ wanted → Shows cs t → Shows (reads b pos many wanted ∷ cs) t
    shows_read pos many x f sees rest =
        let q : SoleGiven (ReadPromise t data4 512 work4 b pos (nines many)) x =
        settled (λ a. carry_gives a (nines many)) (λ n. carry_rows n t 512 b pos (length (nines many)) (nines many))
        (λ n. read_done n t data4 512 b pos (nines many)) x f in
        then (reads b pos many wanted) cs t t q.0
        (λ o p. (ap (λ (x : Carry). (reads b pos many wanted).seen (beside x work4)) (q.1 o p) ∙ sees, refl)) rest

  shows_test : (wanted : List ℕ) (cs : List (Check Bytes)) → (tests wanted).seen (test_done t work4) ≡ wanted → Shows cs t → Shows (tests wanted ∷ cs) t
  shows_test wanted cs sees rest =
      let q : Sole (TestPromise t work4) (test_done t work4) =
      sole (test_gate test_refused t work4) (test_done t work4) (test_done t work4)
      (none_first (test_gate test_refused t work4) (test_done t work4) (test_passes 4 (omega arith) t w work4 (omega arith) test_refused)) in
      then (tests wanted) cs t t q.0
      (λ o p. (ap (λ (x : Tested × List ℕ). (tests wanted).seen x) (q.1 o p) ∙ sees, refl)) rest

sees_create1 : create1.seen (beside (create_done 4 t0 1) work4) ≡ create1.wanted
unfolding word put_word get put prev_half next_half set_node set_head formatted created
sees_create1 = refl

sees_create2 : create2.seen (beside (create_done 4 t1 2) work4) ≡ create2.wanted
unfolding word put_word get put prev_half next_half set_node set_head formatted created
sees_create2 = refl

sees_delete0 : delete0.seen (beside (delete_done 4 t2 0) work4) ≡ delete0.wanted
unfolding word put_word get put prev_half next_half set_node set_head formatted created deleted
sees_delete0 = refl

sees_free2 : free2.seen (test_done t3 work4) ≡ free2.wanted
unfolding word put_word get put prev_half next_half set_node set_head formatted created deleted starts
sees_free2 = refl

sees_create2again : create2again.seen (beside (create_done 4 t3 2) work4) ≡ create2again.wanted
unfolding word put_word get put prev_half next_half set_node set_head formatted created deleted
sees_create2again = refl

sees_open0 : open0.seen (beside (list_done 4 t4 0 (nines 4)) work4) ≡ open0.wanted
unfolding word put_word get put prev_half next_half set_node set_head formatted created deleted
sees_open0 = refl

sees_resize1 : resize1.seen (beside (resize_done 4 t4 1 1) work4) ≡ resize1.wanted
unfolding word put_word get put prev_half next_half set_node set_head formatted created deleted shrunk grown resized
sees_resize1 = refl

sees_resize3 : resize3.seen (beside (change_gives NoSpace t5) work4) ≡ resize3.wanted
unfolding word put_word get put prev_half next_half set_node set_head formatted created deleted shrunk grown resized
sees_resize3 = refl

-- from the last check to the first
reads5 : Shows (read0 ∷ read1 ∷ []) t5
reads5 =
    shows_read t5 whole5 1 file5_1 read0.wanted (read1 ∷ []) 512 0 (read_done 4 t5 data4 512 1 512 [])
    (none_first (carry_rows 4 t5 512 1 512 0 []) (read_done 4 t5 data4 512 1 512 []) (λ h. h file5_1, (λ h. omega (arith, size5, h), tt))) refl
    (shows_read t5 whole5 1 file5_1 read1.wanted [] 512 1 (carry_gives OutOfBound (9 ∷ []))
    (inr (λ h. h file5_1, inl (omega (arith, size5), refl))) refl tt)

resizes4 : Shows (resize1 ∷ resize3 ∷ read0 ∷ read1 ∷ []) t4
resizes4 =
    shows_resize t4 whole4 1 file4_1 resize1.wanted (resize3 ∷ read0 ∷ read1 ∷ []) 1 (resize_done 4 t4 1 1)
    (none_first (resize_rows 4 t4 1 1) (resize_done 4 t4 1 1) (λ h. h file4_1, (λ e. omega (arith, e), (λ h. omega (arith, free4, h), tt)))) sees_resize1
    (shows_resize t5 whole5 1 file5_1 resize3.wanted (read0 ∷ read1 ∷ []) 3 (change_gives NoSpace t5)
    (inr (λ h. h file5_1, inr (λ e. omega (arith, e), inl (omega (arith, free5), refl)))) sees_resize3 reads5)

again3 : Shows (free2 ∷ create2again ∷ open0 ∷ resize1 ∷ resize3 ∷ read0 ∷ read1 ∷ []) t3
again3 =
    shows_test t3 whole3 free2.wanted (create2again ∷ open0 ∷ resize1 ∷ resize3 ∷ read0 ∷ read1 ∷ []) sees_free2
    (shows_create t3 whole3 2 create2again.wanted (open0 ∷ resize1 ∷ resize3 ∷ read0 ∷ read1 ∷ []) (λ e. omega (arith, e)) (omega (arith, free3)) sees_create2again
    (shows_open t4 whole4 0 file4_0 open0.wanted (resize1 ∷ resize3 ∷ read0 ∷ read1 ∷ []) (omega (arith, size4)) sees_open0 resizes4))

abbrev rest2 : List (Check Bytes)
rest2 = free2 ∷ create2again ∷ open0 ∷ resize1 ∷ resize3 ∷ read0 ∷ read1 ∷ []

pub four_blocks_lem : Shows four_blocks.checks (zeros 4)
four_blocks_lem =
    shows_format (zeros 4) 4 refl (omega arith) (omega arith) format4.wanted (create1 ∷ create2 ∷ delete0 ∷ rest2) sees4
    (shows_create t0 whole0 1 create1.wanted (create2 ∷ delete0 ∷ rest2) (λ e. omega (arith, e)) (omega (arith, free0)) sees_create1
    (shows_create t1 whole1 2 create2.wanted (delete0 ∷ rest2) (λ e. omega (arith, e)) (omega (arith, free1)) sees_create2
    (shows_delete t2 whole2 0 file2 delete0.wanted rest2 sees_delete0 again3)))
