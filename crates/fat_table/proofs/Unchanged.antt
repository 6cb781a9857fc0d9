-- Each step keeps every byte outside the head and the few entries that it may write.
use mathlib.Core.Path.{◌≡◌, refl, sym, ap, subst, subst⁻¹, ◌∙◌}
use mathlib.Core.List.{List, [], ◌∷◌, ◌++◌, append_assoc}
use mathlib.Core.Bool.{Bool, true, false, cond}
use mathlib.Core.Logic.{◌≢◌, ◌⊎◌, inl, inr, ⊎_elim}
use Prim.Native.Nat.{ℕ, suc, ◌+◌, ◌-◌, ◌≤◌, ◌<◌}
use native.Mathlib.Omega.{arith}
use lib.Dec.{eqb, leb}
use lib.ListN.{length, get_or}
use borrow.Author.Tests.{eqb-true, eqb-false, eq-eqb, ne_eqb, lt-ltb, le-ltb, le-leb, lt-leb}
use Rattle.words.proofs.Laws as words
use Rattle.links.specs.Links.{◌∈◌}
use Rattle.links.proofs.Way.{in_left, in_right}
use Rattle.fat_node.specs.Entry.{Bytes, get}
use Rattle.fat_node.specs.Node.{Run, run, set_node}
use Rattle.fat_node.proofs.Nodes.{le_or_lt, set_head_other, bytes_set_node}
use Rattle.fat_node.specs.Format.{formatted}
use Rattle.fat_table.specs.Sound.{File}
use Rattle.fat_table.specs.Chain.{total, free_at, file_at}
use Rattle.fat_table.specs.Layout.{layout, taken, left, joined, hits, covers, empties}
use Rattle.fat_table.specs.Steps.{first, created, grown, shrunk, resized, deleted}
use Rattle.fat_table.specs.Holds.{Laid, Holds}
use Rattle.fat_table.specs.Changes.{
  Kept,
  entries_of,
  first_entry,
  link_entries,
  cut_entries,
  create_entries,
  delete_entries,
  grow_entries,
  shrink_entries,
  resize_entries,
}
use Rattle.fat_table.proofs.Layouts.{empties_append, covers_append, hits_split, hits_most}
use Rattle.fat_table.proofs.Stepped.{holds_create}
use Rattle.fat_table.proofs.Files.{Whole, seen, seen_file, bytes_formatted, bytes_created, bytes_deleted, bytes_grown, bytes_shrunk}
use Rattle.fat_table.proofs.Writes.{last_of, relink, laid_suffix, keep_laid, cut_within, cut_between, created_whole, created_split, deleted_writes}
use Rattle.fat_table.proofs.Resizes.{Cut, first_left, grown_linked, shrunk_split, shrunk_between, resized_same, resized_less, resized_more}
use Rattle.fat_table.proofs.Kept.{KeptEntries, kept_bytes, set_node_keeps, relink_keeps, both_keep, link_last}

-- where a cut falls --------------------------------------------------------------------------------------

-- a chain as its nodes before the last, and the last
pub snoc : (l : List Run) → 1 ≤ length l → (A : List Run) × (x : Run) × (l ≡ A ++ x ∷ [])
snoc [] h = let z : ⊥ = omega arith in absurd z
snoc (r ∷ []) h = ([], r, refl)
snoc (r ∷ s ∷ l) h = let w = snoc (s ∷ l) (omega arith) in (r ∷ w.0, w.1, ap {B = List Run} (λ m. r ∷ m) w.2)

-- where a cut falls: after a node, or within one
pub record CutAfter (l : List Run) (c : ℕ) : Type 0 where
  pub before : List Run
  pub last : Run
  pub behind : List Run
  pub is : l ≡ (before ++ last ∷ []) ++ behind
  pub count : c ≡ total (before ++ last ∷ [])

pub record CutWithin (l : List Run) (c : ℕ) : Type 0 where
  pub before : List Run
  pub split : Run
  pub behind : List Run
  pub part : ℕ
  pub is : l ≡ before ++ split ∷ behind
  pub count : c ≡ total before + part
  pub some : 1 ≤ part
  pub less : part < split.size

pub cut_cases : (l : List Run) (c : ℕ) → 1 ≤ c → c ≤ total l → CutAfter l c ⊎ CutWithin l c
cut_cases [] c h k = let z : ⊥ = omega arith in absurd z
cut_cases (r ∷ l) c h k =
    ⊎_elim
    (λ p. inr (record { before = []; split = r; behind = l; part = c; is = refl; count = omega arith; some = h; less = omega (arith, p) }))
    (λ p.
    ⊎_elim
    (λ q. inl (record { before = []; last = r; behind = l; is = refl; count = omega (arith, p, q) }))
    (λ q.
    ⊎_elim
    (λ w.
    inl
    (record {
      before = r ∷ w.before;
      last = w.last;
      behind = w.behind;
      is = ap {B = List Run} (λ m. r ∷ m) w.is;
      count = omega (arith, w.count, q);
    }))
    (λ w.
    inr
    (record {
      before = r ∷ w.before;
      split = w.split;
      behind = w.behind;
      part = w.part;
      is = ap {B = List Run} (λ m. r ∷ m) w.is;
      count = omega (arith, w.count, q);
      some = w.some;
      less = w.less;
    }))
    (cut_cases l (c - r.size) (omega (arith, q)) (omega (arith, q, k))))
    (le_or_lt c r.size))
    (le_or_lt (c + 1) r.size)

bytes_relink : (l : List Run) (p : ℕ) (t : Bytes) → words.Bytes t → words.Bytes (relink l p t)
bytes_relink [] p t g = g
bytes_relink (r ∷ l) p t g = bytes_set_node t r p (first l) g

pub total_append : (a b : List Run) → total (a ++ b) ≡ total a + total b
total_append [] b = omega arith
total_append (r ∷ a) b = omega (arith, total_append a b)

-- a cut, by its entries ----------------------------------------------------------------------------------

cut_after_is : (A : List Run) (x : Run) (B : List Run) (c : ℕ) → 1 ≤ x.size → c ≡ total (A ++ x ∷ []) → cut_entries ((A ++ x ∷ []) ++ B) c ≡ link_entries (x ∷ []) B
cut_after_is [] x B c h q = rw (eq-eqb c x.size (omega arith))
cut_after_is (a ∷ A) x B c h q =
    let k = total_append A (x ∷ []) in
    rw (ne_eqb c a.size (λ z. omega (arith, z, k)), le-ltb c a.size (omega arith)) (cut_after_is A x B (c - a.size) h (omega arith))

cut_within_is : (A : List Run) (x : Run) (B : List Run) (m c : ℕ) → 1 ≤ m → m < x.size → c ≡ total A + m
    → cut_entries (A ++ x ∷ B) c ≡ entries_of (run x.start m) ++ (entries_of (run (x.start + m) (x.size - m)) ++ first_entry B)
cut_within_is [] x B m c h k q =
    let e : c ≡ m = omega arith in
    rw (e, ne_eqb m x.size (λ z. omega (arith, z)), lt-ltb m x.size k)
cut_within_is (a ∷ A) x B m c h k q =
    rw (ne_eqb c a.size (λ z. omega (arith, z)), le-ltb c a.size (omega arith)) (cut_within_is A x B m (c - a.size) h k (omega arith))

-- of free nodes of one block each, create of one may write entries 1 and 2; of one free node of four blocks, entries 1 to 4
cut_between_ones : cut_entries (run 0 1 ∷ run 1 1 ∷ run 2 1 ∷ []) 1 ≡ 1 ∷ 2 ∷ []
cut_between_ones = refl

cut_within_one : cut_entries (run 0 4 ∷ []) 1 ≡ 1 ∷ 2 ∷ 3 ∷ 4 ∷ []
cut_within_one = refl

-- a chain that is laid, its nodes apart
record Chain (t : Bytes) (l : List Run) : Type 0 where
  laid : Laid t l 0
  sizes : empties l ≡ 0
  apart : (z : ℕ) → covers z l ≤ 1

module _ (t : Bytes) (g : words.Bytes t) (e : ℕ) where
  after_keeps : (A : List Run) (x : Run) (B : List Run) (c : ℕ) → Chain t ((A ++ x ∷ []) ++ B) → c ≡ total (A ++ x ∷ []) → (e ∈ cut_entries ((A ++ x ∷ []) ++ B) c → ⊥)
      → get (relink B 0 (set_node t x (last_of A 0) 0)) e ≡ get t e
  after_keeps A x B c ch q none =
      let es : empties A + ((1 - x.size) + empties B) ≡ 0 = omega (arith, ch.sizes, empties_append (A ++ x ∷ []) B, empties_append A (x ∷ [])) in
      let cs : (z : ℕ) → hits z x + covers z B ≤ 1 = λ z. omega (arith, ch.apart z, covers_append z (A ++ x ∷ []) B, covers_append z A (x ∷ [])) in
      let l = laid_suffix t A (x ∷ B) 0 (subst (λ (y : List Run). Laid t y 0) (append_assoc A (x ∷ []) B) ch.laid) in
      both_keep t x B (last_of A 0) (first B) 0 (suc x.start) 0 e g (omega arith) (omega arith) cs l.0 l.1 (λ z. z)
      (λ h. none (subst⁻¹ (λ (y : List ℕ). e ∈ y) (cut_after_is A x B c (omega arith) q) h))

  within_keeps : (A : List Run) (x : Run) (B : List Run) (m c : ℕ) → Chain t (A ++ x ∷ B) → 1 ≤ m → m < x.size → c ≡ total A + m → (e ∈ cut_entries (A ++ x ∷ B) c → ⊥)
      → get (relink B (suc (x.start + m)) (set_node (set_node t (run x.start m) (last_of A 0) 0) (run (x.start + m) (x.size - m)) 0 (first B))) e ≡ get t e
  within_keeps A x B m c ch h k q none =
      let x₁ : Run = run x.start m in
      let x₂ : Run = run (x.start + m) (x.size - m) in
      let t₁ : Bytes = set_node t x₁ (last_of A 0) 0 in
      let t₂ : Bytes = set_node t₁ x₂ 0 (first B) in
      let eb : empties B ≡ 0 = omega (arith, ch.sizes, empties_append A (x ∷ B)) in
      let cs : (z : ℕ) → hits z x + covers z B ≤ 1 = λ z. omega (arith, ch.apart z, covers_append z A (x ∷ B)) in
      let sp : (z : ℕ) → hits z x₁ + hits z x₂ ≡ hits z x = λ z. hits_split z x m (omega arith) in
      let l : Laid t B (suc x.start) = (laid_suffix t A (x ∷ B) 0 ch.laid).1 in
      let l₁ : Laid t₁ B (suc x.start) = keep_laid t x₁ (last_of A 0) 0 B (suc x.start) h eb (λ z. omega (arith, cs z, sp z)) l in
      let l₂ : Laid t₂ B (suc x.start) = keep_laid t₁ x₂ 0 (first B) B (suc x.start) (omega arith) eb (λ z. omega (arith, cs z, sp z)) l₁ in
      let no : e ∈ (entries_of x₁ ++ (entries_of x₂ ++ first_entry B)) → ⊥ = λ i. none (subst⁻¹ (λ (y : List ℕ). e ∈ y) (cut_within_is A x B m c h k q) i) in
      relink_keeps t₂ B (suc x.start) (suc (x.start + m)) e (bytes_set_node t₁ x₂ 0 (first B) (bytes_set_node t x₁ (last_of A 0) 0 g)) l₂
      (λ i. no (in_right e (entries_of x₁) (entries_of x₂ ++ first_entry B) (in_right e (entries_of x₂) (first_entry B) i)))
      ∙ set_node_keeps t₁ x₂ 0 (first B) e (λ i. no (in_right e (entries_of x₁) (entries_of x₂ ++ first_entry B) (in_left e (entries_of x₂) (first_entry B) i)))
      ∙ set_node_keeps t x₁ (last_of A 0) 0 e (λ i. no (in_left e (entries_of x₁) (entries_of x₂ ++ first_entry B) i))

-- the steps ----------------------------------------------------------------------------------------------

free_chain : (n : ℕ) (t : Bytes) (free : List Run) (files : List (List Run)) → Holds n t (layout free files) → Chain t free
free_chain n t free files s = record {
  laid = s.free;
  sizes = omega (arith, s.tiled.positive, empties_append free (joined files));
  apart = λ z. omega (arith, s.tiled.once z, hits_most z (run 0 n), covers_append z free (joined files));
}

file_chain : (n : ℕ) (t : Bytes) (free f : List Run) (files : List (List Run)) → Holds n t (layout free (f ∷ files)) → Chain t f
file_chain n t free f files s = record {
  laid = s.files.0;
  sizes = omega (arith, s.tiled.positive, empties_append free (f ++ joined files), empties_append f (joined files));
  apart = λ z. omega (arith, s.tiled.once z, hits_most z (run 0 n), covers_append z free (f ++ joined files), covers_append z f (joined files));
}

-- create's changes, where the chain and the count are known
create_keeps : (n : ℕ) → n ≤ 1000000 → (t : Bytes) → words.Bytes t → (free : List Run) (files : List (List Run)) → Holds n t (layout free files) → (c : ℕ) → 1 ≤ c → c ≤ total free
    → KeptEntries (cut_entries free c) t (created n t c)
create_keeps n small t g free files s c h k e pos none = ⊎_elim after within (cut_cases free c h k)
  where
    after : CutAfter free c → get (created n t c) e ≡ get t e
    after w =
        let A : List Run = w.before in
        let x : Run = w.last in
        let B : List Run = w.behind in
        let s' : Holds n t (layout ((A ++ x ∷ []) ++ B) files) = subst (λ (l : List Run). Holds n t (layout l files)) w.is s in
        ap (λ (d : ℕ). get (created n t d) e) w.count
        ∙ ap (λ (y : Bytes). get y e) (created_whole n small t g A x B files s')
        ∙ set_head_other (relink B 0 (set_node t x (last_of A 0) 0)) (first B) e pos
        ∙ after_keeps t g e A x B c (free_chain n t ((A ++ x ∷ []) ++ B) files s') w.count (subst (λ (l : List Run). e ∈ cut_entries l c → ⊥) w.is none)

    within : CutWithin free c → get (created n t c) e ≡ get t e
    within w =
        let A : List Run = w.before in
        let x : Run = w.split in
        let B : List Run = w.behind in
        let m : ℕ = w.part in
        let i : ℕ = suc (x.start + m) in
        let s' : Holds n t (layout (A ++ x ∷ B) files) = subst (λ (l : List Run). Holds n t (layout l files)) w.is s in
        ap (λ (d : ℕ). get (created n t d) e) w.count
        ∙ ap (λ (y : Bytes). get y e) (created_split n small t g A x B files m s' w.some w.less)
        ∙ set_head_other (relink B i (set_node (set_node t (run x.start m) (last_of A 0) 0) (run (x.start + m) (x.size - m)) 0 (first B))) i e pos
        ∙ within_keeps t g e A x B m c (free_chain n t (A ++ x ∷ B) files s') w.some w.less w.count (subst (λ (l : List Run). e ∈ cut_entries l c → ⊥) w.is none)

delete_keeps : (n : ℕ) → n ≤ 1000000 → (t : Bytes) → words.Bytes t → (free f : List Run) (files : List (List Run)) → Holds n t (layout free (f ∷ files)) → (b : ℕ) → first f ≡ suc b
    → KeptEntries (link_entries f free) t (deleted n t b)
delete_keeps n small t g free f files s b at e pos none =
    let w = snoc f (omega (arith, s.tiled.nonempty)) in
    let A : List Run = w.0 in
    let x : Run = w.1 in
    let s' : Holds n t (layout free ((A ++ x ∷ []) ∷ files)) = subst (λ (l : List Run). Holds n t (layout free (l ∷ files))) w.2 s in
    let T = s'.tiled in
    let F : List Run = (A ++ x ∷ []) ++ joined files in
    let es : empties free + (1 - x.size) ≡ 0 = omega (arith, T.positive, empties_append free F, empties_append (A ++ x ∷ []) (joined files), empties_append A (x ∷ [])) in
    let cs : (z : ℕ) → hits z x + covers z free ≤ 1 =
    λ z. omega (arith, T.once z, hits_most z (run 0 n), covers_append z free F, covers_append z (A ++ x ∷ []) (joined files), covers_append z A (x ∷ [])) in
    ap (λ (y : Bytes). get y e) (deleted_writes n small t g A x free files b s' (ap first (sym w.2) ∙ at))
    ∙ set_head_other (relink free (suc x.start) (set_node t x (last_of A 0) (first free))) (suc b) e pos
    ∙ both_keep t x free (last_of A 0) 0 (first free) 0 (suc x.start) e g (omega arith) (omega arith) cs
    (laid_suffix t A (x ∷ []) 0 s'.files.0).0 s'.free (λ z. sym z)
    (λ h. none (subst⁻¹ (λ (y : List ℕ). e ∈ y) (ap (λ (l : List Run). link_entries l free) w.2 ∙ link_last A x free) h))

grow_keeps : (n : ℕ) → n ≤ 1000000 → (t : Bytes) → words.Bytes t → (free f : List Run) (files : List (List Run)) → Holds n t (layout free (f ∷ files)) → (b : ℕ) → first f ≡ suc b
    → (c : ℕ) → 1 ≤ c → c ≤ total free → KeptEntries (cut_entries free c ++ link_entries f (taken free c)) t (grown n t b c)
grow_keeps n small t g free f files s b at c h k e pos none =
    let w = snoc f (omega (arith, s.tiled.nonempty)) in
    let F : List Run = w.0 in
    let y : Run = w.1 in
    let K : List Run = taken free c in
    let R : List Run = left free c in
    let t₁ : Bytes = created n t c in
    let s' : Holds n t (layout free ((F ++ y ∷ []) ∷ files)) = subst (λ (l : List Run). Holds n t (layout free (l ∷ files))) w.2 s in
    let s₁ : Holds n t₁ (layout R (K ∷ ((F ++ y ∷ []) ∷ files))) = holds_create n small t free ((F ++ y ∷ []) ∷ files) s' c h k in
    let T = s₁.tiled in
    let G : List Run = (F ++ y ∷ []) ++ joined files in
    let es : empties K + (1 - y.size) ≡ 0 =
    omega (arith, T.positive, empties_append R (K ++ G), empties_append K G, empties_append (F ++ y ∷ []) (joined files), empties_append F (y ∷ [])) in
    let cs : (z : ℕ) → hits z y + covers z K ≤ 1 =
    λ z. omega (arith, T.once z, hits_most z (run 0 n), covers_append z R (K ++ G), covers_append z K G, covers_append z (F ++ y ∷ []) (joined files), covers_append z F (y ∷ [])) in
    ap (λ (z : Bytes). get z e) (grown_linked n small t g F y free files b c s' (ap first (sym w.2) ∙ at))
    ∙ both_keep t₁ y K (last_of F 0) 0 (first K) 0 (suc y.start) e (bytes_created n t 0 c g) (omega arith) (omega arith) cs
    (laid_suffix t₁ F (y ∷ []) 0 s₁.files.1.0).0 s₁.files.0 (λ z. sym z)
    (λ i.
    none (in_right e (cut_entries free c) (link_entries f K)
    (subst⁻¹ (λ (l : List ℕ). e ∈ l) (ap (λ (l : List Run). link_entries l K) w.2 ∙ link_last F y K) i)))
    ∙ create_keeps n small t g free (f ∷ files) s c h k e pos (λ i. none (in_left e (cut_entries free c) (link_entries f K) i))

-- the file cut in two, and the second part's delete
shrink_keeps : (n : ℕ) → n ≤ 1000000 → (t : Bytes) → words.Bytes t → (free f : List Run) (files : List (List Run)) → Holds n t (layout free (f ∷ files)) → (b : ℕ) → first f ≡ suc b
    → (c : ℕ) → 1 ≤ c → c < total f → KeptEntries (cut_entries f c ++ link_entries (left f c) free) t (shrunk n t b c)
shrink_keeps n small t g free f files s b at c h k e pos none = ⊎_elim after within (cut_cases f c h (omega (arith, k)))
  where
    cut : e ∈ cut_entries f c → ⊥
    cut i = none (in_left e (cut_entries f c) (link_entries (left f c) free) i)

    -- what delete of the second part keeps
    second : (t' : Bytes) (W D : List Run) (d : ℕ) → words.Bytes t' → Cut n t t' b c free W D files d → left f c ≡ D → get (shrunk n t b c) e ≡ get t' e
    second t' W D d g' u q =
        ap (λ (y : Bytes). get y e) u.gives
        ∙ delete_keeps n small t' g' free D (W ∷ files) u.holds d u.at e pos
        (λ i. none (in_right e (cut_entries f c) (link_entries (left f c) free) (subst⁻¹ (λ (l : List Run). e ∈ link_entries l free) q i)))

    within : CutWithin f c → get (shrunk n t b c) e ≡ get t e
    within w =
        let A : List Run = w.before in
        let x : Run = w.split in
        let B : List Run = w.behind in
        let m : ℕ = w.part in
        let x₁ : Run = run x.start m in
        let x₂ : Run = run (x.start + m) (x.size - m) in
        let s' : Holds n t (layout free ((A ++ x ∷ B) ∷ files)) = subst (λ (l : List Run). Holds n t (layout free (l ∷ files))) w.is s in
        let ch : Chain t (A ++ x ∷ B) = file_chain n t free (A ++ x ∷ B) files s' in
        let o = cut_within A x B m c (omega (arith, ch.sizes, empties_append A (x ∷ B))) w.some w.less w.count in
        let t₁ : Bytes = set_node t x₁ (last_of A 0) 0 in
        let t₂ : Bytes = set_node t₁ x₂ 0 (first B) in
        let i : ℕ = suc (x.start + m) in
        let u = shrunk_split n small t g A x B free files b m s' (ap first (sym w.is) ∙ at) w.some w.less in
        let u' : Cut n t (relink B i t₂) b c free (A ++ x₁ ∷ []) (x₂ ∷ B) files (x.start + m) =
        subst⁻¹ (λ (d : ℕ). Cut n t (relink B i t₂) b d free (A ++ x₁ ∷ []) (x₂ ∷ B) files (x.start + m)) w.count u in
        second (relink B i t₂) (A ++ x₁ ∷ []) (x₂ ∷ B) (x.start + m) (bytes_relink B i t₂ (bytes_set_node t₁ x₂ 0 (first B) (bytes_set_node t x₁ (last_of A 0) 0 g))) u'
        (ap (λ (l : List Run). left l c) w.is ∙ o.1)
        ∙ within_keeps t g e A x B m c ch w.some w.less w.count (subst (λ (l : List Run). e ∈ cut_entries l c → ⊥) w.is cut)

    after : CutAfter f c → get (shrunk n t b c) e ≡ get t e
    after w = go w.before w.last w.behind w.is w.count
      where
        go : (A : List Run) (x : Run) (B : List Run) → f ≡ (A ++ x ∷ []) ++ B → c ≡ total (A ++ x ∷ []) → get (shrunk n t b c) e ≡ get t e
        go A x [] is count = let z : ⊥ = omega (arith, k, count, ap total is, total_append (A ++ x ∷ []) []) in absurd z
        go A x (y ∷ B) is count =
            let W : List Run = A ++ x ∷ [] in
            let s' : Holds n t (layout free ((W ++ y ∷ B) ∷ files)) = subst (λ (l : List Run). Holds n t (layout free (l ∷ files))) is s in
            let ch : Chain t (W ++ y ∷ B) = file_chain n t free (W ++ y ∷ B) files s' in
            let o = cut_between W (y ∷ B) c (omega (arith, ch.sizes, empties_append W (y ∷ B))) count in
            let t₁ : Bytes = set_node t x (last_of A 0) 0 in
            let t₂ : Bytes = set_node t₁ y 0 (first B) in
            let u = shrunk_between n small t g A x y B free files b s' (sym (first_left A x (y ∷ B)) ∙ ap first (sym is) ∙ at) in
            let u' : Cut n t t₂ b c free W (y ∷ B) files y.start = subst⁻¹ (λ (d : ℕ). Cut n t t₂ b d free W (y ∷ B) files y.start) count u in
            second t₂ W (y ∷ B) y.start (bytes_set_node t₁ y 0 (first B) (bytes_set_node t x (last_of A 0) 0 g)) u' (ap (λ (l : List Run). left l c) is ∙ o.1)
            ∙ after_keeps t g e A x (y ∷ B) c ch count (subst (λ (l : List Run). e ∈ cut_entries l c → ⊥) is cut)

-- format writes the entries of one node, and the head
format_keeps : (n : ℕ) (t : Bytes) → KeptEntries (entries_of (run 0 n)) t (formatted n t)
unfolding formatted
format_keeps n t e pos none = set_head_other (set_node t (run 0 n) 0 0) 1 e pos ∙ set_node_keeps t (run 0 n) 0 0 e none

pub formatted_keeps : (n : ℕ) (t : Bytes) → words.Bytes t → Kept (entries_of (run 0 n)) t (formatted n t)
formatted_keeps n t g = kept_bytes (entries_of (run 0 n)) t (formatted n t) g (bytes_formatted n t 0 0 g) (format_keeps n t)

-- the theorems ---------------------------------------------------------------------------------------------

module _ (n : ℕ) (t : Bytes) (w : Whole n t) where
  pub created_keeps : (c : ℕ) → 1 ≤ c → c ≤ total (free_at n t) → Kept (create_entries n t c) t (created n t c)
  created_keeps c h k =
      let s = seen n t w in
      kept_bytes (create_entries n t c) t (created n t c) w.bytes (bytes_created n t 0 c w.bytes)
      (create_keeps n w.small t w.bytes (free_at n t) s.files s.holds c h k)

  pub deleted_keeps : (b : ℕ) → File t n b → Kept (delete_entries n t b) t (deleted n t b)
  deleted_keeps b i =
      let s = seen_file n t b w i in
      kept_bytes (delete_entries n t b) t (deleted n t b) w.bytes (bytes_deleted n t b 0 w.bytes)
      (delete_keeps n w.small t w.bytes (free_at n t) (file_at n t b) s.others s.holds b s.at)

  pub grown_keeps : (b c : ℕ) → File t n b → 1 ≤ c → c ≤ total (free_at n t) → Kept (grow_entries n t b c) t (grown n t b c)
  grown_keeps b c i h k =
      let s = seen_file n t b w i in
      kept_bytes (grow_entries n t b c) t (grown n t b c) w.bytes (bytes_grown n t b c w.bytes)
      (grow_keeps n w.small t w.bytes (free_at n t) (file_at n t b) s.others s.holds b s.at c h k)

  pub shrunk_keeps : (b c : ℕ) → File t n b → 1 ≤ c → c < total (file_at n t b) → Kept (shrink_entries n t b c) t (shrunk n t b c)
  shrunk_keeps b c i h k =
      let s = seen_file n t b w i in
      kept_bytes (shrink_entries n t b c) t (shrunk n t b c) w.bytes (bytes_shrunk n t b c w.bytes)
      (shrink_keeps n w.small t w.bytes (free_at n t) (file_at n t b) s.others s.holds b s.at c h k)

  pub resized_keeps : (b c : ℕ) → File t n b → 1 ≤ c → c ≤ total (file_at n t b) + total (free_at n t) → Kept (resize_entries n t b c) t (resized n t b c)
  resized_keeps b c i h k = go (eqb c (total (file_at n t b))) refl
    where
      other : c ≢ total (file_at n t b) → Kept (cond (leb c (total (file_at n t b))) (shrink_entries n t b c) (grow_entries n t b (c - total (file_at n t b)))) t (resized n t b c)
      other ne =
          ⊎_elim
          (λ l. rw (le-leb c (total (file_at n t b)) l, resized_less n t b c l) (shrunk_keeps b c i h (omega (arith, l, ne))))
          (λ l. rw (lt-leb c (total (file_at n t b)) l, resized_more n t b c l) (grown_keeps b (c - total (file_at n t b)) i (omega (arith, l)) (omega (arith, l, k))))
          (le_or_lt c (total (file_at n t b)))

      go : (y : Bool) → eqb c (total (file_at n t b)) ≡ y → Kept (cond y [] (cond (leb c (total (file_at n t b))) (shrink_entries n t b c) (grow_entries n t b (c - total (file_at n t b))))) t (resized n t b c)
      go true e = λ j p q. ap (λ (y : Bytes). get_or y j 0) (ap (resized n t b) (eqb-true c (total (file_at n t b)) e) ∙ resized_same n t b w i)
      go false e = other (eqb-false c (total (file_at n t b)) e)
