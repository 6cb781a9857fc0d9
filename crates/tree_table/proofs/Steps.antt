-- The steps as writes are the steps on views, whatever the width.
use mathlib.Core.Path.{◌≡◌, refl, sym, ap, ◌∙◌}
use mathlib.Core.List.{List, [], ◌∷◌, ◌++◌}
use mathlib.Core.Logic.{⊎_elim, ◌≢◌}
use mathlib.Core.Bool.{Bool, true, false, ◌&&◌}
use Prim.Native.Nat.{ℕ, zero, suc, ◌+◌, ◌-◌, ◌*◌, ◌/◌, ◌≤◌, ◌<◌}
use native.Mathlib.Omega.{arith}
use lib.Dec.{eqb}
use borrow.Author.Tests.{eq-eqb, ne_eqb}
use Rattle.links.specs.Change.{pick, upd}
use Rattle.links.proofs.Laws.{by_eq}
use Rattle.links.proofs.Held.{same_or, upd_other}
use Rattle.tree_table.specs.Field.{Write, write}
use Rattle.tree_table.specs.View.{View, place, key_at, view_of}
use Rattle.tree_table.specs.Steps.{cut_writes, copy_writes, give_writes, bucket_before, child_before}
use Rattle.tree_table.proofs.Field.{put_at, reads}
use Rattle.tree_table.proofs.Table.{unlink, give, not_zero}
use Rattle.tree_table.proofs.Linked.{link}
use Rattle.tree_table.proofs.Agree.{Agree, keys5}

pub reads_append : (ws vs : List Write) (m : ℕ → ℕ → ℕ) (y g : ℕ) → reads (ws ++ vs) m y g ≡ reads vs (reads ws m) y g
reads_append [] vs m y g = refl
reads_append (a ∷ ws) vs m y g = reads_append ws vs (put_at a m) y g

-- ---- take

abbrev pub taken_t : Bool → View → ℕ
taken_t t v = pick t v.count (v.coll 0)

abbrev pub take_t : Bool → View → View
take_t t v = record {
  buckets = v.buckets;
  room = v.room;
  root = v.root;
  count = pick t (v.count + 1) v.count;
  maximum = v.maximum;
  hash = v.hash;
  coll = pick t v.coll (upd v.coll 0 (v.coll (v.coll 0)));
  next = v.next;
  head = v.head;
  key = v.key;
}

-- ---- give

put_field : (x f v : ℕ) (m : ℕ → ℕ → ℕ) (y g : ℕ) → g ≢ f → put_at (write x f v) m y g ≡ m y g
put_field x f v m y g n = ap (λ t. pick (t && eqb y x) v (m y g)) (ne_eqb g f n)

put_same : (x f v : ℕ) (m : ℕ → ℕ → ℕ) (y g : ℕ) → g ≡ f → put_at (write x f v) m y g ≡ upd (λ z. m z g) x v y
put_same x f v m y g e = ap (λ t. pick (t && eqb y x) v (m y g)) (eq-eqb g f e)

uncopied : (n f : ℕ) (m m' : ℕ → ℕ → ℕ) (x y g : ℕ) → g < f → reads (copy_writes n f m x) m' y g ≡ m' y g
uncopied zero f m m' x y g h = refl
uncopied (suc n) f m m' x y g h =
    uncopied n (suc f) m (put_at (write x f (m 0 f)) m') x y g (omega arith) ∙ put_field x f (m 0 f) m' y g (λ (e : g ≡ f). omega arith)

copied : (n f : ℕ) (m m' : ℕ → ℕ → ℕ) (x y g : ℕ) → f ≤ g → g < f + n → reads (copy_writes n f m x) m' y g ≡ upd (λ z. m' z g) x (m 0 g) y
copied zero f m m' x y g h k = absurd (omega arith)
copied (suc n) f m m' x y g h k =
    ⊎_elim
    (λ (e : g ≡ f).
    uncopied n (suc f) m (put_at (write x f (m 0 f)) m') x y g (omega arith)
    ∙ put_same x f (m 0 f) m' y g e ∙ ap (λ z. upd (λ u. m' u g) x (m 0 z) y) (sym e))
    (λ (d : g ≢ f).
    copied n (suc f) m (put_at (write x f (m 0 f)) m') x y g (omega arith) (omega arith)
    ∙ ap (λ z. pick (eqb y x) (m 0 g) z) (put_field x f (m 0 f) m' y g d))
    (same_or g f)

module _ (w : ℕ) (m : ℕ → ℕ → ℕ) (x : ℕ) where
  -- entry x has entry 0's words
  pub gave_field : (y g : ℕ) → 0 < g → 4 * g + 4 ≤ w → reads (give_writes w m x) m y g ≡ upd (λ z. m z g) x (m 0 g) y
  gave_field y g h k =
      reads_append (copy_writes (w / 4 - 1) 1 m x) (write x 0 (m 0 0) ∷ write 0 0 x ∷ []) m y g
      ∙ put_field 0 0 x (put_at (write x 0 (m 0 0)) (reads (copy_writes (w / 4 - 1) 1 m x) m)) y g (not_zero h)
      ∙ put_field x 0 (m 0 0) (reads (copy_writes (w / 4 - 1) 1 m x) m) y g (not_zero h)
      ∙ copied (w / 4 - 1) 1 m m x y g (omega arith) (omega arith)

  pub gave_coll : (y : ℕ) → reads (give_writes w m x) m y 0 ≡ upd (upd (λ z. m z 0) x (m 0 0)) 0 x y
  gave_coll y =
      reads_append (copy_writes (w / 4 - 1) 1 m x) (write x 0 (m 0 0) ∷ write 0 0 x ∷ []) m y 0
      ∙ ap (λ z. pick (eqb y 0) x (pick (eqb y x) (m 0 0) z)) (uncopied (w / 4 - 1) 1 m m x y 0 (omega arith))

five : {a1 a2 a3 a4 a5 b1 b2 b3 b4 b5 : ℕ} → a1 ≡ b1 → a2 ≡ b2 → a3 ≡ b3 → a4 ≡ b4 → a5 ≡ b5 → a1 ∷ a2 ∷ a3 ∷ a4 ∷ a5 ∷ [] ≡ b1 ∷ b2 ∷ b3 ∷ b4 ∷ b5 ∷ []
five p1 p2 p3 p4 p5 = cc

module _ (n r o : ℕ) (m : ℕ → ℕ → ℕ) (h hd : ℕ → ℕ) (x : ℕ) (hx : 0 < x) (w : ℕ) (hw : 28 ≤ w) where
  nx : 0 ≢ x
  nx e = not_zero hx (sym e)

  pub gave_agrees : Agree (give (view_of n r o m h hd) x) (view_of n r o (reads (give_writes w m x) m) h hd)
  gave_agrees = record {
    buckets = refl;
    room = refl;
    root = refl;
    count = gave_field w m x 0 1 (omega arith) (omega arith) ∙ upd_other (λ y. m y 1) x (m 0 1) 0 nx;
    maximum = gave_field w m x 0 2 (omega arith) (omega arith) ∙ upd_other (λ y. m y 2) x (m 0 2) 0 nx;
    hash = λ b. refl;
    coll = λ y. gave_coll w m x y;
    next = λ y _. gave_field w m x y 6 (omega arith) (omega arith);
    head = λ y _. refl;
    key = λ y _.
        five (gave_field w m x y 1 (omega arith) (omega arith)) (gave_field w m x y 2 (omega arith) (omega arith)) (gave_field w m x y 3 (omega arith) (omega arith))
        (gave_field w m x y 4 (omega arith) (omega arith)) (gave_field w m x y 5 (omega arith) (omega arith))
        ∙ keys5 (λ z. m z 1) (λ z. m z 1) (λ z. m z 2) (λ z. m z 3) (λ z. m z 4) (λ z. m z 5) x (m 0 1) (m 0 2) (m 0 3) (m 0 4) (m 0 5) y refl;
  }

-- ---- unlink: p before x in its bucket, q before x in its list, 0 for none

upd_own : (f : ℕ → ℕ) (b y : ℕ) → upd f b (f b) y ≡ f y
upd_own f b y = by_eq y b (λ t. pick t (f b) (f y) ≡ f y) (λ e. ap f (sym e)) (λ _. refl)

module _ (n r o : ℕ) (m : ℕ → ℕ → ℕ) (h hd : ℕ → ℕ) (x : ℕ) where
  abbrev v : View
  v = view_of n r o m h hd

  abbrev b : ℕ
  b = place v (key_at m x)

  -- by the two tests: the hash word or the link before, the head or the next field before
  pub cut_agrees : (t u : Bool) (p q : ℕ) →
      Agree
      (record {
        buckets = n;
        room = r;
        root = o;
        count = m 0 1;
        maximum = m 0 2;
        hash = upd h b (pick t (m x 0) (h b));
        coll = pick t (λ z. m z 0) (upd (λ z. m z 0) p (m x 0));
        next = pick u (λ z. m z 6) (upd (λ z. m z 6) q (m x 6));
        head = upd hd (m x 1) (pick u (m x 6) (hd (m x 1)));
        key = λ z. key_at m z;
      })
      (view_of n r o (reads (cut_writes t p 0 (m x 0) ++ cut_writes u q 6 (m x 6)) m) (pick t (upd h b (m x 0)) h) (pick u (upd hd (m x 1) (m x 6)) hd))
  cut_agrees true true p q = record {
    buckets = refl;
    room = refl;
    root = refl;
    count = refl;
    maximum = refl;
    hash = λ y. refl;
    coll = λ y. refl;
    next = λ y _. refl;
    head = λ y _. refl;
    key = λ y _. refl;
  }
  cut_agrees true false p q = record {
    buckets = refl;
    room = refl;
    root = refl;
    count = refl;
    maximum = refl;
    hash = λ y. refl;
    coll = λ y. refl;
    next = λ y _. refl;
    head = λ y _. sym (upd_own hd (m x 1) y);
    key = λ y _. refl;
  }
  cut_agrees false true p q = record {
    buckets = refl;
    room = refl;
    root = refl;
    count = refl;
    maximum = refl;
    hash = λ y. sym (upd_own h b y);
    coll = λ y. refl;
    next = λ y _. refl;
    head = λ y _. refl;
    key = λ y _. refl;
  }
  cut_agrees false false p q = record {
    buckets = refl;
    room = refl;
    root = refl;
    count = refl;
    maximum = refl;
    hash = λ y. sym (upd_own h b y);
    coll = λ y. refl;
    next = λ y _. refl;
    head = λ y _. sym (upd_own hd (m x 1) y);
    key = λ y _. refl;
  }

  -- the two tests put in: the step on views
  pub unlink_agrees :
      Agree (unlink v x)
      (view_of n r o (reads (cut_writes (eqb (bucket_before v x) 0) (bucket_before v x) 0 (m x 0) ++ cut_writes (eqb (child_before v x) 0) (child_before v x) 6 (m x 6)) m)
      (pick (eqb (bucket_before v x) 0) (upd h b (m x 0)) h) (pick (eqb (child_before v x) 0) (upd hd (m x 1) (m x 6)) hd))
  unlink_agrees = cut_agrees (eqb (bucket_before v x) 0) (eqb (child_before v x) 0) (bucket_before v x) (child_before v x)

-- ---- link as writes
pub link_writes : (n r o : ℕ) (m : ℕ → ℕ → ℕ) (h hd : ℕ → ℕ) (x k0 k1 k2 k3 k4 : ℕ) → 0 < x → (m' : ℕ → ℕ → ℕ)
    → ((y : ℕ) → (m' y 0 ≡ upd (λ z. m z 0) x (h (place (view_of n r o m h hd) (k0 ∷ k1 ∷ k2 ∷ k3 ∷ k4 ∷ []))) y) × (m' y 6 ≡ upd (λ z. m z 6) x (hd k0) y))
    → ((y : ℕ) → (m' y 1 ≡ upd (λ z. m z 1) x k0 y) × (m' y 2 ≡ upd (λ z. m z 2) x k1 y) × (m' y 3 ≡ upd (λ z. m z 3) x k2 y) × (m' y 4 ≡ upd (λ z. m z 4) x k3 y) × (m' y 5 ≡ upd (λ z. m z 5) x k4 y))
    → Agree (link (view_of n r o m h hd) x (k0 ∷ k1 ∷ k2 ∷ k3 ∷ k4 ∷ []))
    (view_of n r o m' (upd h (place (view_of n r o m h hd) (k0 ∷ k1 ∷ k2 ∷ k3 ∷ k4 ∷ [])) x) (upd hd k0 x))
link_writes n r o m h hd x k0 k1 k2 k3 k4 hx m' a b = record {
  buckets = refl;
  room = refl;
  root = refl;
  count = (b 0).0 ∙ upd_other (λ z. m z 1) x k0 0 (λ e. not_zero hx (sym e));
  maximum = (b 0).1 ∙ upd_other (λ z. m z 2) x k1 0 (λ e. not_zero hx (sym e));
  hash = λ y. refl;
  coll = λ y. (a y).0;
  next = λ y _. (a y).1;
  head = λ y _. refl;
  key = λ y _.
      five (b y).0 (b y).1 (b y).2 (b y).3 (b y).4 ∙ keys5 (λ z. m z 1) (λ z. m z 1) (λ z. m z 2) (λ z. m z 3) (λ z. m z 4) (λ z. m z 5) x k0 k1 k2 k3 k4 y refl;
}
