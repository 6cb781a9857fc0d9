-- A table is sound exactly when it holds a layout.
use mathlib.Core.Path.{◌≡◌, refl, sym, ap, subst, ◌∙◌}
use mathlib.Core.List.Memᴰ
use mathlib.Core.List.Permᴰ
use mathlib.Core.List.{List, [], ◌∷◌, ◌++◌, Permᴰ}
use mathlib.Core.Logic.{◌≢◌, ◌⊎◌, inl, inr, ⊎_elim}
use Prim.Native.Nat.{ℕ, zero, suc, ◌+◌, ◌*◌, ◌≤◌}
use native.Mathlib.Omega.{arith}
use lib.ListN.{length}
use Rattle.words.proofs.Laws as words
use Rattle.fat_node.specs.Entry.{Bytes, Entry, entry, get, top, u_at, v_at}
use Rattle.fat_node.specs.Node.{Run, run, prev_at, next_at, NodeAt, prev_half, next_half}
use Rattle.fat_node.proofs.Entries.{v_fits}
use Rattle.fat_node.proofs.Nodes.{one_or_more, le_or_lt, prev_half_none, prev_half_some, prev_half_form, next_half_one, next_half_more, node_one}
use Rattle.fat_table.specs.Sound.{Starts, begin, after, IsNode, Covered, Path, here, on, Reached, Sound}
use Rattle.fat_table.specs.Chain.{head_at, size_at}
use Rattle.fat_table.specs.Layout.{Layout, layout, joined, hits, covers, empties, blanks, runs, Tiled}
use Rattle.fat_table.specs.Steps.{first}
use Rattle.fat_table.specs.Holds.{HoldsNode, Laid, AllLaid, Holds}
use Rattle.fat_table.proofs.Layouts.{EndToEnd, hits_most, covers_append, covers_perm, empties_append, empties_perm, blanks_perm, sorted, end_after}
use Rattle.fat_table.proofs.Laying.{first_inside}
use Rattle.fat_table.proofs.Stepped.{size_one, size_more, all_laid_order}
use Rattle.fat_table.proofs.Chains as chains
use Rattle.fat_table.proofs.Chains.{In, mem_perm, mem_size, mem_left, chain_of, zero_or_not, Linked, AllPath, Named, Namer, into_chains, path_next, path_prev}
use Rattle.fat_table.proofs.Laid.{end_sizes, whole_covers, all_path_order, all_path_laid, laid_path, place}
pub use Rattle.fat_table.proofs.Laid.{joined_perm}

-- a node as the rules read it, and as it is written --------------------------------------------------

pub node_size : (t : Bytes) (n b s : ℕ) → NodeAt t n b s → size_at t b ≡ s
node_size t n b s w =
    ⊎_elim
    (λ e. size_one t b (w.one e) ∙ sym e)
    (λ e. let m = w.more (omega (arith, e, w.some)) in size_more t b s m.0 m.1.1)
    (one_or_more s)

-- what an index names
named : (a : ℕ) → a ≢ 0 → (j : ℕ) × (a ≡ j + 1)
named zero h = absurd (h refl)
named (suc j) h = (j, omega arith)

module _ (t : Bytes) (n b s : ℕ) (bytes : words.Bytes t) (w : NodeAt t n b s) where
  prev_half_lem : u_at t (b + 1) ≡ prev_half (prev_at t b)
  prev_half_lem =
      ⊎_elim
      (λ h. let e : prev_at t b ≡ 0 = omega (arith, h, w.prev.1) in omega (arith, h, w.prev.1, prev_half_none (prev_at t b) e))
      (λ h. omega (arith, h, prev_half_some (prev_at t b) (λ e. omega (arith, h, e, w.prev.0))))
      (le_or_lt top (u_at t (b + 1)))

  next_half_lem : v_at t (b + 1) ≡ next_half s (next_at t b)
  next_half_lem =
      ⊎_elim
      (λ e. omega (arith, w.one e, next_half_one s (next_at t b) e))
      (λ e. omega (arith, (w.more (omega (arith, e, w.some))).0, v_fits t (b + 1) bytes, next_half_more s (next_at t b) e))
      (one_or_more s)

  pub node_holds : HoldsNode t (run b s) (prev_at t b) (next_at t b)
  node_holds = record {
    start = λ i. entry (prev_half_lem i) (next_half_lem i);
    second = λ h. let m = w.more (omega (arith, h, w.some)) in λ i. entry (m.1.0 i) (m.1.1 i);
    last = λ h. let m = w.more (omega (arith, h, w.some)) in λ i. entry (m.2.0 i) (m.2.1 i);
  }

pub holds_node : (n : ℕ) → n ≤ 1000000 → (t : Bytes) (r : Run) (p q : ℕ) → p ≤ n → q ≤ n → 1 ≤ r.size → r.start + r.size ≤ n → HoldsNode t r p q
    → NodeAt t n r.start r.size
holds_node n small t r p q hp hq pos inside w =
    let u : u_at t (r.start + 1) ≡ prev_half p = ap (λ (x : Entry). x.u) w.start in
    let v : v_at t (r.start + 1) ≡ next_half r.size q = ap (λ (x : Entry). x.v) w.start in
    let f = prev_half_form p (omega arith) in
    record {
      some = omega arith;
      within = inside;
      prev = (omega (arith, f.0, u), omega (arith, f.1, u));
      one = λ e. omega (arith, v, next_half_one r.size q e);
      more = λ h.
          let e : r.size ≢ 1 = λ k. omega (arith, h, k) in (
            omega (arith, v, next_half_more r.size q e),
            (ap (λ (x : Entry). x.u) (w.second e), ap (λ (x : Entry). x.v) (w.second e)),
            (ap (λ (x : Entry). x.u) (w.last e), ap (λ (x : Entry). x.v) (w.last e)),
          );
    }

-- the nodes from block 0 on, as a list ---------------------------------------------------------------

-- after a run comes the next, or the end
next_run : (b : ℕ) (T : List Run) (n : ℕ) → EndToEnd b T n → {r : Run} → In r T
    → (r.start + r.size ≡ n) ⊎ ((s : Run) × In s T × (s.start ≡ r.start + r.size))
next_run b [] n e m = absurd (Memᴰ.not-nil m)
next_run b (a ∷ []) n e {r} m =
    ⊎_elim
    (λ q. inl (omega (arith, ap (λ (x : Run). x.start) q, ap (λ (x : Run). x.size) q, e.0, e.2)))
    (λ k. absurd (Memᴰ.not-nil k))
    (Memᴰ.cases_cons m)
next_run b (a ∷ c ∷ T) n e {r} m =
    ⊎_elim
    (λ q.
    inr (c, Memᴰ.tail (Memᴰ.head refl), omega (arith, ap (λ (x : Run). x.start) q, ap (λ (x : Run). x.size) q, e.0, e.2.0)))
    (λ k. ⊎_elim (λ o. inl o) (λ o. inr (o.0, Memᴰ.tail o.1, o.2)) (next_run (b + a.size) (c ∷ T) n e.2 k))
    (Memᴰ.cases_cons m)

-- a run of the list ends by n
pub in_below : (b : ℕ) (T : List Run) (n : ℕ) → EndToEnd b T n → {r : Run} → In r T → r.start + r.size ≤ n
in_below b T n e m = ⊎_elim (λ q. omega (arith, q)) (λ o. omega (arith, o.2, below b T n e o.1)) (next_run b T n e m)
  where
    below : (b : ℕ) (T : List Run) (n : ℕ) → EndToEnd b T n → {r : Run} → In r T → r.start ≤ n
    below b [] n e m = absurd (Memᴰ.not-nil m)
    below b (a ∷ T) n e m =
        ⊎_elim
        (λ q. omega (arith, ap (λ (x : Run). x.start) q, e.0, e.1, end_after (b + a.size) T n e.2))
        (λ k. below (b + a.size) T n e.2 k)
        (Memᴰ.cases_cons m)

module _ (n : ℕ) (t : Bytes) where
  -- a node is due at b, with the list of the nodes from there
  record Due (b : ℕ) : Type 0 where
    list : List Run
    cover : EndToEnd b list n
    node : (r : Run) → In r list → NodeAt t n r.start r.size

  due_end : (b : ℕ) → b ≡ n → Due b
  due_end b e = record { list = []; cover = e; node = λ r m. absurd (Memᴰ.not-nil m) }

  due_node : (b s : ℕ) → NodeAt t n b s → Due (b + s) → Due b
  due_node b s w d = record {
    list = run b s ∷ d.list;
    cover = (refl, w.some, d.cover);
    node = λ r m. ⊎_elim
        (λ q. subst (λ (x : Run). NodeAt t n x.start x.size) (sym q) w)
        (λ k. d.node r k)
        (Memᴰ.cases_cons m);
  }

  due : Covered t n → (k b : ℕ) → Starts t n b → b ≤ n → n ≤ b + k → Due b
  due c zero b st h l = due_end b (omega arith)
  due c (suc k) b st h l =
      ⊎_elim
      (λ e. due_end b (omega (arith, e)))
      (λ e. let w = c b (st, e) in due_node b w.0 w.1 (due c k (b + w.0) (after st w.1 refl) w.1.within (omega (arith, w.1.some))))
      (le_or_lt n b)

  module _ (ns : List Run) (E : EndToEnd 0 ns n) (node : (r : Run) → In r ns → NodeAt t n r.start r.size) where
    first_run : (T : List Run) → EndToEnd 0 T n → (0 ≡ n) ⊎ ((r : Run) × In r T × (r.start ≡ 0))
    first_run [] e = inl e
    first_run (r ∷ T) e = inr (r, Memᴰ.head refl, e.0)

    -- where a node is due, the list has one, or it is the end
    starts_in : {c : ℕ} → Starts t n c → (c ≡ n) ⊎ ((r : Run) × In r ns × (r.start ≡ c))
    starts_in begin = first_run ns E
    starts_in (after {b} {s} {c} st w e) =
        ⊎_elim
        (λ q. let z : ⊥ = omega (arith, q, w.some, w.within) in absurd z)
        (λ o.
        let same : o.0.size ≡ s = node_one t n b o.0.size s (subst (λ (x : ℕ). NodeAt t n x o.0.size) o.2 (node o.0 o.1)) w in
        ⊎_elim
        (λ q. inl (omega (arith, q, same, e, o.2)))
        (λ x. inr (x.0, x.1, omega (arith, x.2, same, e, o.2)))
        (next_run 0 ns n E o.1))
        (starts_in st)

    pub node_in : {c : ℕ} → IsNode t n c → (r : Run) × In r ns × (r.start ≡ c)
    node_in i = ⊎_elim (λ q. let z : ⊥ = omega (arith, q, i.1) in absurd z) (λ o. o) (starts_in i.0)

    in_starts : (b : ℕ) (T : List Run) → EndToEnd b T n → Starts t n b → ((r : Run) → In r T → NodeAt t n r.start r.size) → {r : Run} → In r T
        → Starts t n r.start
    in_starts b [] e st g m = absurd (Memᴰ.not-nil m)
    in_starts b (a ∷ T) e st g {r} m =
        let sa : Starts t n a.start = subst (Starts t n) (sym e.0) st in
        ⊎_elim
        (λ q. subst (Starts t n) (ap (λ (x : Run). x.start) (sym q)) sa)
        (λ k. in_starts (b + a.size) T e.2 (after sa (g a (Memᴰ.head refl)) (ap (λ (x : ℕ). x + a.size) (sym e.0))) (λ x i. g x (Memᴰ.tail i)) k)
        (Memᴰ.cases_cons m)

    pub in_node : {r : Run} → In r ns → IsNode t n r.start
    in_node {r} m = (in_starts 0 ns E begin node m, omega (arith, in_below 0 ns n E m, (node r m).some))

-- a table whose nodes are tied holds a layout ------------------------------------------------------------

-- what soundness says, over a list of the nodes; R is how a node is reached
pub record Tied (R : ℕ → Type 0) (n : ℕ) (t : Bytes) (ns : List Run) : Type 0 where
  pub room : length t ≡ 8 * (n + 1)
  pub head : (get t 0).u ≡ 0
  -- the nodes cover blocks 0 to n - 1 end to end, and each has its form
  pub cover : EndToEnd 0 ns n
  pub node : (r : Run) → In r ns → HoldsNode t r (prev_at t r.start) (next_at t r.start)
  -- each next names a node whose previous names it back, and the reverse
  pub next : (r : Run) → In r ns → next_at t r.start ≢ 0 → Named (prev_at t) (next_at t) ns (next_at t r.start) (suc r.start)
  pub prev : (r : Run) → In r ns → prev_at t r.start ≢ 0 → Namer (prev_at t) (next_at t) ns (prev_at t r.start) (suc r.start)
  -- every node is reached from a node with no previous
  pub reached : (r : Run) → In r ns → R r.start
  -- the head names none or a node with no previous
  pub free : head_at t ≢ 0 → Named (prev_at t) (next_at t) ns (head_at t) 0

module _ (R : ℕ → Type 0) (n : ℕ) (t : Bytes) (ns : List Run) (s : Tied R n t ns) where
  tied_chains : ((r : Run) → In r ns → chains.Reached (prev_at t) (next_at t) r.start)
      → (cs : List (List Run)) × Permᴰ ns (joined cs) × AllPath (prev_at t) (next_at t) cs × (blanks cs ≡ 0)
  tied_chains w = into_chains (prev_at t) (next_at t) ns (end_sizes 0 ns n s.cover)
      (λ x. omega (arith, whole_covers ns n s.cover x, hits_most x (run 0 n)))
      s.next s.prev w

  tiled_by : (c : List Run) (rest : List (List Run)) → Permᴰ ns (c ++ joined rest) → blanks rest ≡ 0 → Tiled n (layout c rest)
  tiled_by c rest π b = record {
    positive = omega (arith, empties_perm π, end_sizes 0 ns n s.cover);
    once = λ x. sym (covers_perm x π) ∙ whole_covers ns n s.cover x;
    nonempty = b;
  }

  module _ (cs : List (List Run)) (π : Permᴰ ns (joined cs)) (ps : AllPath (prev_at t) (next_at t) cs) (b : blanks cs ≡ 0) where
    laid_all : AllLaid t cs
    laid_all = all_path_laid t cs ps (λ r m. s.node r (mem_perm (Permᴰ.symm π) m))

    holds_none : head_at t ≡ 0 → Holds n t (layout [] cs)
    holds_none z = record { room = s.room; head = λ i. entry (s.head i) (z i); free = tt; files = laid_all; tiled = tiled_by [] cs π b }

    holds_some : (x : Run) (c : List Run) (rest : List (List Run)) → Permᴰ cs (c ∷ rest) → In x c → suc x.start ≡ head_at t → prev_at t x.start ≡ 0
        → Holds n t (layout c rest)
    holds_some x c rest ρ m e z =
        let w : Laid t c 0 × AllLaid t rest = all_laid_order t ρ laid_all in
        let p = path_prev (prev_at t) (next_at t) 0 c (all_path_order (prev_at t) (next_at t) ρ ps).0 x m in
        let f : first c ≡ suc x.start = ⊎_elim (λ o. o.1) (λ o. let k : ⊥ = omega (arith, o.2, z) in absurd k) p in
        let v : head_at t ≡ first c = sym e ∙ sym f in
        record {
          room = s.room;
          head = λ i. entry (s.head i) (v i);
          free = w.0;
          files = w.1;
          tiled = tiled_by c rest (Permᴰ.trans π (joined_perm ρ)) (omega (arith, b, blanks_perm ρ));
        }

  pub tied_holds : ((r : Run) → In r ns → chains.Reached (prev_at t) (next_at t) r.start) → (L : Layout) × Holds n t L
  tied_holds reached =
      let g = tied_chains reached in
      ⊎_elim
      (λ z. (layout [] g.0, holds_none g.0 g.1 g.2 g.3 z))
      (λ h.
      let w = s.free h in
      let o = chain_of w.0 g.0 (mem_perm g.1 w.1) in
      (layout o.0 o.1, holds_some g.0 g.1 g.2 g.3 w.0 o.0 o.1 o.2 o.3 w.2 w.3))
      (zero_or_not (head_at t))

-- a sound table holds a layout -----------------------------------------------------------------------

module _ (n : ℕ) (t : Bytes) (s : Sound t n) (ns : List Run) (E : EndToEnd 0 ns n) (node : (r : Run) → In r ns → NodeAt t n r.start r.size) where
  sound_next : (r : Run) → In r ns → next_at t r.start ≢ 0 → Named (prev_at t) (next_at t) ns (next_at t r.start) (suc r.start)
  sound_next r m h =
      let j = named (next_at t r.start) h in
      let f = s.forth r.start j.0 (in_node n t ns E node m) j.1 in
      let o = node_in n t ns E node f.0 in
      (o.0, o.1, omega (arith, o.2, j.1), omega (arith, ap (prev_at t) o.2, f.1))

  sound_prev : (r : Run) → In r ns → prev_at t r.start ≢ 0 → Namer (prev_at t) (next_at t) ns (prev_at t r.start) (suc r.start)
  sound_prev r m h =
      let j = named (prev_at t r.start) h in
      let f = s.back r.start j.0 (in_node n t ns E node m) j.1 in
      let o = node_in n t ns E node f.0 in
      (o.0, o.1, omega (arith, o.2, j.1), omega (arith, ap (next_at t) o.2, f.1))

  path_reached : {i j : ℕ} → IsNode t n i → prev_at t i ≡ 0 → Path (next_at t) i j → IsNode t n j × chains.Reached (prev_at t) (next_at t) j
  path_reached h e here = (h, chains.root e)
  path_reached h e (on {j} {m} p q) =
      let w = path_reached h e p in
      let f = s.forth j m w.0 q in
      (f.0, chains.after {b = m} w.1 (omega (arith, q)) (omega (arith, f.1)))

  sound_free : head_at t ≢ 0 → Named (prev_at t) (next_at t) ns (head_at t) 0
  sound_free h =
      let j = named (head_at t) h in
      let f = s.free j.0 j.1 in
      let w = node_in n t ns E node f.0 in
      (w.0, w.1, omega (arith, j.1, w.2), ap (prev_at t) w.2 ∙ f.1)

  sound_tied : words.Bytes t → length t ≡ 8 * (n + 1) → Tied (chains.Reached (prev_at t) (next_at t)) n t ns
  sound_tied bytes room = record {
    room = room;
    head = s.head.0;
    cover = E;
    node = λ r m. node_holds t n r.start r.size bytes (node r m);
    next = sound_next;
    prev = sound_prev;
    reached = λ r m. let w = s.whole r.start (in_node n t ns E node m) in (path_reached w.node w.first w.path).1;
    free = sound_free;
  }

pub sound_holds : (n : ℕ) (t : Bytes) → words.Bytes t → length t ≡ 8 * (n + 1) → Sound t n → (L : Layout) × Holds n t L
sound_holds n t bytes room s =
    let d = due n t s.covered n 0 begin (omega arith) (omega arith) in
    let w = sound_tied n t s d.list d.cover d.node bytes room in
    tied_holds (chains.Reached (prev_at t) (next_at t)) n t d.list w w.reached

-- a table that holds a layout is sound ---------------------------------------------------------------

-- the nodes of a chain are come to from its first
path_to : (t : Bytes) (i p : ℕ) (a : Run) (l : List Run) → Path (next_at t) i a.start → Linked (prev_at t) (next_at t) p (a ∷ l) → {r : Run} → In r (a ∷ l)
    → Path (next_at t) i r.start
path_to t i p a [] w k {r} m =
    ⊎_elim (λ q. subst (Path (next_at t) i) (ap (λ (x : Run). x.start) (sym q)) w) (λ o. absurd (Memᴰ.not-nil o)) (Memᴰ.cases_cons m)
path_to t i p a (b ∷ l) w k {r} m =
    ⊎_elim
    (λ q. subst (Path (next_at t) i) (ap (λ (x : Run). x.start) (sym q)) w)
    (λ o. path_to t i (suc a.start) b l (on w (omega (arith, k.1))) k.2 o)
    (Memᴰ.cases_cons m)

module _ (n : ℕ) (small : n ≤ 1000000) (t : Bytes) (L : Layout) (s : Holds n t L) where
  module _ (ns : List Run) (π : Permᴰ (runs L) ns) (E : EndToEnd 0 ns n) where
    pub node_of : (r : Run) → In r ns → NodeAt t n r.start r.size
    node_of r m =
        let p = place n small t L s ns π r m in
        holds_node n small t r (prev_at t r.start) (next_at t r.start) p.prev_in p.next_in
        (mem_size m (end_sizes 0 ns n E)) (in_below 0 ns n E m) p.form

    is : {r : Run} → In r ns → IsNode t n r.start
    is m = in_node n t ns E node_of m

    chain_reached : (c : List Run) → Linked (prev_at t) (next_at t) 0 c → ((x : Run) → In x c → In x ns) → (r : Run) → In r c → Reached t n r.start
    chain_reached [] p o r m = absurd (Memᴰ.not-nil m)
    chain_reached (f ∷ c) p o r m = record { start = f.start; node = is (o f (Memᴰ.head refl)); first = omega (arith, p.0); path = path_to t f.start 0 f c here p m }

    head_free : (l : List Run) → Linked (prev_at t) (next_at t) 0 l → ((x : Run) → In x l → In x ns) → (j : ℕ) → first l ≡ j + 1 → IsNode t n j × (prev_at t j ≡ 0)
    head_free [] p o j e = let z : ⊥ = omega (arith, e) in absurd z
    head_free (f ∷ l) p o j e =
        let q : f.start ≡ j = omega (arith, e) in
        (subst (IsNode t n) q (is (o f (Memᴰ.head refl))), ap (prev_at t) (sym q) ∙ p.0)

    sound_at : Sound t n
    sound_at =
        let ef : empties L.free ≡ 0 = omega (arith, s.tiled.positive, empties_append L.free (joined L.files)) in
        let kf : (x : ℕ) → covers x L.free ≤ hits x (run 0 n) = λ x. omega (arith, s.tiled.once x, covers_append x L.free (joined L.files)) in
        let v : v_at t 0 ≡ first L.free = ap (λ (w : Entry). w.v) s.head in
        record {
          head = (ap (λ (w : Entry). w.u) s.head, omega (arith, v, first_inside n L.free ef kf));
          covered = λ b i. let o = node_in n t ns E node_of i in (o.0.size, subst (λ (x : ℕ). NodeAt t n x o.0.size) o.2 (node_of o.0 o.1));
          forth = λ b j i e.
              let o = node_in n t ns E node_of i in
              let p = place n small t L s ns π o.0 o.1 in
              let w = path_next (prev_at t) (next_at t) 0 p.chain p.path o.0 p.within (λ z. omega (arith, e, ap (next_at t) o.2, z)) in
              let q : w.0.start ≡ j = omega (arith, w.2, ap (next_at t) o.2, e) in
              (subst (IsNode t n) q (is (p.out w.0 w.1)), omega (arith, ap (prev_at t) q, w.3, o.2));
          back = λ b j i e.
              let o = node_in n t ns E node_of i in
              let p = place n small t L s ns π o.0 o.1 in
              ⊎_elim
              (λ w. let z : ⊥ = omega (arith, w.0, ap (prev_at t) o.2, e) in absurd z)
              (λ w.
              let q : w.0.start ≡ j = omega (arith, w.2, ap (prev_at t) o.2, e) in
              (subst (IsNode t n) q (is (p.out w.0 w.1)), omega (arith, ap (next_at t) q, w.3, o.2)))
              (path_prev (prev_at t) (next_at t) 0 p.chain p.path o.0 p.within);
          whole = λ b i.
              let o = node_in n t ns E node_of i in
              let p = place n small t L s ns π o.0 o.1 in
              subst (Reached t n) o.2 (chain_reached p.chain p.path p.out o.0 p.within);
          free = λ j e.
              head_free L.free (laid_path n small t L.free 0 (omega arith) ef kf s.free).0 (λ x i. mem_perm π (mem_left (joined L.files) i)) j (sym v ∙ e);
        }

  -- the runs of the layout in their places' order
  pub in_order : (T : List Run) × Permᴰ (runs L) T × EndToEnd 0 T n
  in_order = sorted (length (runs L)) 0 n n (runs L) (omega arith) (omega arith) s.tiled.positive s.tiled.once

  pub holds_sound : Sound t n
  holds_sound = let w = in_order in sound_at w.0 w.1 w.2

  -- the nodes of the table are the runs of the layout
  pub run_node : (r : Run) → In r (runs L) → IsNode t n r.start × NodeAt t n r.start r.size
  run_node r m = let w = in_order in let i = mem_perm w.1 m in (is w.0 w.1 w.2 i, node_of w.0 w.1 w.2 r i)

  pub node_run : (b : ℕ) → IsNode t n b → (r : Run) × In r (runs L) × (r.start ≡ b)
  node_run b i =
      let w = in_order in
      let o = node_in n t w.0 w.2 (node_of w.0 w.1 w.2) i in
      (o.0, mem_perm (Permᴰ.symm w.1) o.1, o.2)
