-- Whether a table is sound is decided, by a test over the list of its nodes; and so is whether a block is a file's first.
use mathlib.Core.Path.{◌≡◌, refl, sym, ap, subst, subst⁻¹, ◌∙◌}
use mathlib.Core.List.Memᴰ
use mathlib.Core.List.{List, [], ◌∷◌, Permᴰ}
use mathlib.Core.Bool.{Bool, true, false, ◌&&◌, ◌||◌, false≢true}
use mathlib.Core.Logic.{◌≢◌, ◌⊎◌, inl, inr, ⊎_elim}
use Prim.Native.Nat.{ℕ, zero, suc, ◌+◌, ◌*◌, ◌≤◌}
use native.Mathlib.Omega.{arith}
use lib.Dec.{leb, eqb}
use lib.ListN.{length}
use borrow.Author.Tests.{eqb-true, eqb-false, eq-eqb, leb-true, le-leb}
use Rattle.words.proofs.Laws as words
use Rattle.fat_node.specs.Entry.{Bytes, Entry, entry, get, v_at}
use Rattle.fat_node.specs.Node.{Run, run, prev_at, next_at, start_entry, span_entry}
use Rattle.links.proofs.Held.{same_or}
use Rattle.fat_table.specs.Sound.{IsNode, Sound, File}
use Rattle.fat_table.specs.Chain.{head_at, chain_at, free_at}
use Rattle.fat_table.specs.Layout.{Layout, layout, joined, hits, covers, empties, runs}
use Rattle.fat_table.specs.Steps.{first}
use Rattle.fat_table.specs.Holds.{HoldsNode, Holds}
use Rattle.fat_table.specs.Counts.{nodes}
use Rattle.fat_table.proofs.Layouts.{EndToEnd, covers_append, empties_append, end_after}
use Rattle.fat_table.proofs.Chains as chains
use Rattle.fat_table.proofs.Chains.{In, mem_perm, mem_left, zero_or_not, Linked, Named, Namer, path_next, path_prev}
use Rattle.fat_table.proofs.Sounds.{Tied, tied_holds, node_size, sound_holds, holds_sound, node_of, in_order, run_node, node_run}
use Rattle.fat_table.proofs.Laid.{laid_path, place}
use Rattle.fat_table.proofs.Counting.{scan_read}
use Rattle.fat_table.proofs.Files.{Whole, seen}

-- soundness over the list of the nodes -------------------------------------------------------------------

-- a node is reached along the chain of a node with no previous
abbrev pub ReachedBy : ℕ → Bytes → List Run → ℕ → Type 0
ReachedBy n t l b = (f : Run) × In f l × (prev_at t f.start ≡ 0) × (s : Run) × In s (chain_at t n (suc f.start)) × (s.start ≡ b)

abbrev pub Listed : ℕ → Bytes → List Run → Type 0
Listed n t ns = Tied (ReachedBy n t ns) n t ns

chain_none : (t : Bytes) (k : ℕ) → chain_at t k 0 ≡ []
chain_none t zero = refl
chain_none t (suc k) = refl

module _ (n : ℕ) (small : n ≤ 1000000) (t : Bytes) where
  module _ (L : Layout) (s : Holds n t L) (ns : List Run) (π : Permᴰ (runs L) ns) where
    first_reached : (c : List Run) → Linked (prev_at t) (next_at t) 0 c → chain_at t n (first c) ≡ c → ((x : Run) → In x c → In x ns) → (r : Run) → In r c
        → (f : Run) × In f ns × (prev_at t f.start ≡ 0) × (s : Run) × In s (chain_at t n (suc f.start)) × (s.start ≡ r.start)
    first_reached [] p q o r m = absurd (Memᴰ.not-nil m)
    first_reached (f ∷ c) p q o r m = (f, o f (Memᴰ.head refl), p.0, r, subst (λ (l : List Run). In r l) (sym q) m, refl)

    head_named : (l : List Run) → Linked (prev_at t) (next_at t) 0 l → ((x : Run) → In x l → In x ns) → first l ≢ 0 → Named (prev_at t) (next_at t) ns (first l) 0
    head_named [] p o h = absurd (h refl)
    head_named (f ∷ l) p o h = (f, o f (Memᴰ.head refl), refl, p.0)

    listed_of : EndToEnd 0 ns n → Listed n t ns
    listed_of E = record {
      room = s.room;
      head = ap (λ (w : Entry). w.u) s.head;
      cover = E;
      node = λ r m. (place n small t L s ns π r m).form;
      next = λ r m h. let p = place n small t L s ns π r m in let w = path_next (prev_at t) (next_at t) 0 p.chain p.path r p.within h in (w.0, p.out w.0 w.1, w.2, w.3);
      prev = λ r m h. let p = place n small t L s ns π r m in ⊎_elim
          (λ w. absurd (h w.0))
          (λ w. (w.0, p.out w.0 w.1, w.2, w.3))
          (path_prev (prev_at t) (next_at t) 0 p.chain p.path r p.within);
      reached = λ r m. let p = place n small t L s ns π r m in first_reached p.chain p.path p.read p.out r p.within;
      free =
          let e : empties L.free ≡ 0 = omega (arith, s.tiled.positive, empties_append L.free (joined L.files)) in
          let k : (x : ℕ) → covers x L.free ≤ hits x (run 0 n) = λ x. omega (arith, s.tiled.once x, covers_append x L.free (joined L.files)) in
          subst⁻¹ (λ (i : ℕ). i ≢ 0 → Named (prev_at t) (next_at t) ns i 0) (ap (λ (w : Entry). w.v) s.head) (head_named L.free (laid_path n small t L.free 0 (omega arith) e k s.free).0 (λ x i. mem_perm π (mem_left (joined L.files) i)));
    }

  -- a sound table holds a layout
  module _ (ns : List Run) (s : Listed n t ns) where
    walk_reached : (k b : ℕ) → (f : Run) → In f ns → f.start ≡ b → chains.Reached (prev_at t) (next_at t) b → (r : Run) → In r (chain_at t k (suc b)) → chains.Reached (prev_at t) (next_at t) r.start
    walk_reached zero b f m e w r i = absurd (Memᴰ.not-nil i)
    walk_reached (suc k) b f m e w r i = ⊎_elim
        (λ q. subst (chains.Reached (prev_at t) (next_at t)) (ap (λ (x : Run). x.start) (sym q)) w)
        (λ j. ⊎_elim
        (λ z. absurd (Memᴰ.not-nil (subst (λ (l : List Run). In r l) (ap (chain_at t k) z ∙ chain_none t k) j)))
        (λ h.
        let o = s.next f m (λ z. h (ap (next_at t) (sym e) ∙ z)) in
        let a : suc o.0.start ≡ next_at t b = o.2 ∙ ap (next_at t) e in
        walk_reached k o.0.start o.0 o.1 refl (chains.after {b = o.0.start} w (sym a) (o.3 ∙ ap suc e)) r (subst (λ (i : ℕ). In r (chain_at t k i)) (sym a) j))
        (zero_or_not (next_at t b)))
        (Memᴰ.cases_cons i)

    of_listed : (L : Layout) × Holds n t L
    of_listed =
        tied_holds (ReachedBy n t ns) n t ns s
        (λ r m. let w = s.reached r m in
        subst (chains.Reached (prev_at t) (next_at t)) w.5 (walk_reached n w.0.start w.0 w.1 refl (chains.root w.2) w.3 w.4))

-- tests that tell facts ---------------------------------------------------------------------------

abbrev pub all_runs : (Run → Bool) → List Run → Bool
all_runs p [] = true
all_runs p (r ∷ l) = p r && all_runs p l

abbrev pub any_run : (Run → Bool) → List Run → Bool
any_run p [] = false
any_run p (r ∷ l) = p r || any_run p l

-- the test is true exactly where the fact holds
pub record Tells (b : Bool) (P : Type 0) : Type 0 where
  pub yes_if : b ≡ true → P
  pub if_yes : P → b ≡ true

tells_eq : (a b : ℕ) → Tells (eqb a b) (a ≡ b)
tells_eq a b = record { yes_if = eqb-true a b; if_yes = eq-eqb a b }

tells_le : (a b : ℕ) → Tells (leb a b) (a ≤ b)
tells_le a b = record { yes_if = leb-true a b; if_yes = le-leb a b }

tells_as : {b : Bool} {P Q : Type 0} → Tells b P → (P → Q) → (Q → P) → Tells b Q
tells_as t f g = record { yes_if = λ e. f (t.yes_if e); if_yes = λ q. t.if_yes (g q) }

tells_and : (a b : Bool) {P Q : Type 0} → Tells a P → Tells b Q → Tells (a && b) (P × Q)
tells_and true b t u = record { yes_if = λ e. (t.yes_if refl, u.yes_if e); if_yes = λ w. u.if_yes w.1 }
tells_and false b t u = record { yes_if = λ e. absurd (false≢true e); if_yes = λ w. t.if_yes w.0 }

-- where the first fails the second holds
tells_or : (a b : Bool) {P Q : Type 0} → Tells a P → Tells b Q → Tells (a || b) ((P → ⊥) → Q)
tells_or true b t u = record { yes_if = λ e h. absurd (h (t.yes_if refl)); if_yes = λ w. refl }
tells_or false b t u = record { yes_if = λ e h. u.yes_if e; if_yes = λ w. u.if_yes (w (λ p. false≢true (t.if_yes p))) }

module _ (P : Run → Type 0) where
  tells_here : (b c : Bool) (r : Run) (l : List Run) → Tells b (P r) → Tells c ((s : Run) × In s l × P s) → Tells (b || c) ((s : Run) × In s (r ∷ l) × P s)
  tells_here true c r l u v = record { yes_if = λ e. (r, Memᴰ.head refl, u.yes_if refl); if_yes = λ w. refl }
  tells_here false c r l u v = record {
    yes_if = λ e. let w = v.yes_if e in (w.0, Memᴰ.tail w.1, w.2);
    if_yes = λ w. ⊎_elim
        (λ q. absurd (false≢true (u.if_yes (subst P q w.2))))
        (λ k. v.if_yes (w.0, k, w.2))
        (Memᴰ.cases_cons w.1);
  }

module _ (p : Run → Bool) (P : Run → Type 0) (t : (r : Run) → Tells (p r) (P r)) where
  tells_all : (l : List Run) → Tells (all_runs p l) ((r : Run) → In r l → P r)
  tells_all [] = record { yes_if = λ e r m. absurd (Memᴰ.not-nil m); if_yes = λ w. refl }
  tells_all (r ∷ l) = tells_as (tells_and (p r) (all_runs p l) (t r) (tells_all l))
      (λ w s m. ⊎_elim (λ q. subst P (sym q) w.0) (λ k. w.1 s k) (Memᴰ.cases_cons m))
      (λ w. (w r (Memᴰ.head refl), λ s m. w s (Memᴰ.tail m)))

  tells_any : (l : List Run) → Tells (any_run p l) ((r : Run) × In r l × P r)
  tells_any [] = record { yes_if = λ e. absurd (false≢true e); if_yes = λ w. absurd (Memᴰ.not-nil w.1) }
  tells_any (r ∷ l) = tells_here P (p r) (any_run p l) r l (t r) (tells_any l)

-- the test -----------------------------------------------------------------------------------------

abbrev pub same_entry : Entry → Entry → Bool
same_entry a b = eqb a.u b.u && eqb a.v b.v

tells_entry : (a b : Entry) → Tells (same_entry a b) (a ≡ b)
tells_entry a b = tells_as (tells_and _ _ (tells_eq a.u b.u) (tells_eq a.v b.v))
    (λ w i. entry (w.0 i) (w.1 i))
    (λ e. (ap (λ (x : Entry). x.u) e, ap (λ (x : Entry). x.v) e))

-- the table holds the node r with the links p and q
abbrev pub holds_node : Bytes → Run → ℕ → ℕ → Bool
holds_node t r p q = same_entry (get t (r.start + 1)) (start_entry r p q)
    && (eqb r.size 1 || (same_entry (get t (r.start + 2)) (span_entry r) && same_entry (get t (r.start + r.size)) (span_entry r)))

tells_node : (t : Bytes) (r : Run) (p q : ℕ) → Tells (holds_node t r p q) (HoldsNode t r p q)
tells_node t r p q = tells_as
    (tells_and _ _ (tells_entry (get t (r.start + 1)) (start_entry r p q))
    (tells_or _ _ (tells_eq r.size 1) (tells_and _ _ (tells_entry (get t (r.start + 2)) (span_entry r)) (tells_entry (get t (r.start + r.size)) (span_entry r)))))
    (λ w. record { start = w.0; second = λ h. (w.1 h).0; last = λ h. (w.1 h).1 })
    (λ w. (w.start, λ h. (w.second h, w.last h)))

abbrev pub end_to_end : ℕ → List Run → ℕ → Bool
end_to_end b [] n = eqb b n
end_to_end b (r ∷ l) n = eqb r.start b && (leb 1 r.size && end_to_end (b + r.size) l n)

tells_end : (b : ℕ) (l : List Run) (n : ℕ) → Tells (end_to_end b l n) (EndToEnd b l n)
tells_end b [] n = tells_eq b n
tells_end b (r ∷ l) n = tells_as (tells_and _ _ (tells_eq r.start b) (tells_and _ _ (tells_le 1 r.size) (tells_end (b + r.size) l n)))
    (λ w. (w.0, w.1.0, w.1.1)) (λ w. (w.0, (w.1, w.2)))

-- a node of the list that the index i names, and whose previous is p; and whose next is q
abbrev pub is_named : Bytes → List Run → ℕ → ℕ → Bool
is_named t l i p = any_run (λ s. eqb (suc s.start) i && eqb (prev_at t s.start) p) l

abbrev pub is_namer : Bytes → List Run → ℕ → ℕ → Bool
is_namer t l i q = any_run (λ s. eqb (suc s.start) i && eqb (next_at t s.start) q) l

tells_named : (t : Bytes) (l : List Run) (i p : ℕ) → Tells (is_named t l i p) (Named (prev_at t) (next_at t) l i p)
tells_named t l i p = tells_as
    (tells_any (λ s. eqb (suc s.start) i && eqb (prev_at t s.start) p) (λ s. (suc s.start ≡ i) × (prev_at t s.start ≡ p))
    (λ s. tells_and _ _ (tells_eq (suc s.start) i) (tells_eq (prev_at t s.start) p)) l)
    (λ w. (w.0, w.1, w.2.0, w.2.1)) (λ w. (w.0, w.1, (w.2, w.3)))

tells_namer : (t : Bytes) (l : List Run) (i q : ℕ) → Tells (is_namer t l i q) (Namer (prev_at t) (next_at t) l i q)
tells_namer t l i q = tells_as
    (tells_any (λ s. eqb (suc s.start) i && eqb (next_at t s.start) q) (λ s. (suc s.start ≡ i) × (next_at t s.start ≡ q))
    (λ s. tells_and _ _ (tells_eq (suc s.start) i) (tells_eq (next_at t s.start) q)) l)
    (λ w. (w.0, w.1, w.2.0, w.2.1)) (λ w. (w.0, w.1, (w.2, w.3)))

-- the node at block b is in the chain of one of the list's nodes with no previous
abbrev pub is_reached : ℕ → Bytes → List Run → ℕ → Bool
is_reached n t l b = any_run (λ f. eqb (prev_at t f.start) 0 && any_run (λ s. eqb s.start b) (chain_at t n (suc f.start))) l

tells_reached : (n : ℕ) (t : Bytes) (l : List Run) (b : ℕ) → Tells (is_reached n t l b) (ReachedBy n t l b)
tells_reached n t l b = tells_as
    (tells_any (λ f. eqb (prev_at t f.start) 0 && any_run (λ s. eqb s.start b) (chain_at t n (suc f.start)))
    (λ f. (prev_at t f.start ≡ 0) × ((s : Run) × In s (chain_at t n (suc f.start)) × (s.start ≡ b)))
    (λ f. tells_and _ _ (tells_eq (prev_at t f.start) 0)
    (tells_any (λ s. eqb s.start b) (λ s. s.start ≡ b) (λ s. tells_eq s.start b) (chain_at t n (suc f.start)))) l)
    (λ w. (w.0, w.1, w.2.0, w.2.1.0, w.2.1.1, w.2.1.2))
    (λ w. (w.0, w.1, (w.2, (w.3, w.4, w.5))))

unfoldable pub sound_with : ℕ → Bytes → List Run → Bool
sound_with n t ns =
    eqb (length t) (8 * (n + 1))
    && (eqb (get t 0).u 0
    && (end_to_end 0 ns n
    && (all_runs (λ r. holds_node t r (prev_at t r.start) (next_at t r.start)) ns
    && (all_runs (λ r. eqb (next_at t r.start) 0 || is_named t ns (next_at t r.start) (suc r.start)) ns
    && (all_runs (λ r. eqb (prev_at t r.start) 0 || is_namer t ns (prev_at t r.start) (suc r.start)) ns
    && (all_runs (λ r. is_reached n t ns r.start) ns
    && (eqb (head_at t) 0 || is_named t ns (head_at t) 0)))))))

tells_sound_with : (n : ℕ) (t : Bytes) (ns : List Run) → Tells (sound_with n t ns) (Listed n t ns)
unfolding sound_with
tells_sound_with n t ns = tells_as
    (tells_and _ _ (tells_eq (length t) (8 * (n + 1)))
    (tells_and _ _ (tells_eq (get t 0).u 0)
    (tells_and _ _ (tells_end 0 ns n)
    (tells_and _ _ (tells_all _ (λ r. HoldsNode t r (prev_at t r.start) (next_at t r.start)) (λ r. tells_node t r (prev_at t r.start) (next_at t r.start)) ns)
    (tells_and _ _ (tells_all _ (λ r. next_at t r.start ≢ 0 → Named (prev_at t) (next_at t) ns (next_at t r.start) (suc r.start))
    (λ r. tells_or _ _ (tells_eq (next_at t r.start) 0) (tells_named t ns (next_at t r.start) (suc r.start))) ns)
    (tells_and _ _ (tells_all _ (λ r. prev_at t r.start ≢ 0 → Namer (prev_at t) (next_at t) ns (prev_at t r.start) (suc r.start))
    (λ r. tells_or _ _ (tells_eq (prev_at t r.start) 0) (tells_namer t ns (prev_at t r.start) (suc r.start))) ns)
    (tells_and _ _ (tells_all _ (λ r. ReachedBy n t ns r.start) (λ r. tells_reached n t ns r.start) ns)
    (tells_or _ _ (tells_eq (head_at t) 0) (tells_named t ns (head_at t) 0)))))))))
    (λ w. record {
      room = w.0;
      head = w.1.0;
      cover = w.1.1.0;
      node = w.1.1.1.0;
      next = w.1.1.1.1.0;
      prev = w.1.1.1.1.1.0;
      reached = w.1.1.1.1.1.1.0;
      free = w.1.1.1.1.1.1.1;
    })
    (λ s. (s.room, (s.head, (s.cover, (s.node, (s.next, (s.prev, (s.reached, s.free))))))))

-- decided ---------------------------------------------------------------------------------------------------

module _ (n : ℕ) (small : n ≤ 1000000) (t : Bytes) (g : words.Bytes t) where
  listed_sound : Listed n t (nodes n t) → Sound t n
  listed_sound s = let w = of_listed n small t (nodes n t) s in holds_sound n small t w.0 w.1

  sound_listed : length t ≡ 8 * (n + 1) → Sound t n → Listed n t (nodes n t)
  sound_listed room s =
      let w = sound_holds n t g room s in
      let o = in_order n small t w.0 w.1 in
      let nd = node_of n small t w.0 w.1 o.0 o.1 o.2 in
      let q : nodes n t ≡ o.0 =
      scan_read n t o.0 n 0 (omega (arith, end_after 0 o.0 n o.2)) o.2 (λ r m. node_size t n r.start r.size (nd r m)) in
      subst⁻¹ (Listed n t) q (listed_of n small t w.0 w.1 o.0 o.1 o.2)

  pub sound_decided : length t ≡ 8 * (n + 1) → Sound t n ⊎ (Sound t n → ⊥)
  sound_decided room = go (sound_with n t (nodes n t)) refl
    where
      go : (x : Bool) → sound_with n t (nodes n t) ≡ x → Sound t n ⊎ (Sound t n → ⊥)
      go true e = inl (listed_sound ((tells_sound_with n t (nodes n t)).yes_if e))
      go false e = inr (λ s. false≢true (sym e ∙ (tells_sound_with n t (nodes n t)).if_yes (sound_listed room s)))

-- a run of the list starts at b, or none does
start_in : (l : List Run) (b : ℕ) → ((r : Run) × In r l × (r.start ≡ b)) ⊎ ((r : Run) → In r l → r.start ≢ b)
start_in [] b = inr (λ r m. absurd (Memᴰ.not-nil m))
start_in (a ∷ l) b = go (eqb a.start b) refl (start_in l b)
  where
    rest : (a.start ≢ b) → ((r : Run) × In r l × (r.start ≡ b)) ⊎ ((r : Run) → In r l → r.start ≢ b)
        → ((r : Run) × In r (a ∷ l) × (r.start ≡ b)) ⊎ ((r : Run) → In r (a ∷ l) → r.start ≢ b)
    rest ne (inl w) = inl (w.0, Memᴰ.tail w.1, w.2)
    rest ne (inr f) = inr (λ r m. ⊎_elim (λ q e. ne (ap (λ (x : Run). x.start) (sym q) ∙ e)) (λ k. f r k) (Memᴰ.cases_cons m))

    go : (x : Bool) → eqb a.start b ≡ x → ((r : Run) × In r l × (r.start ≡ b)) ⊎ ((r : Run) → In r l → r.start ≢ b)
        → ((r : Run) × In r (a ∷ l) × (r.start ≡ b)) ⊎ ((r : Run) → In r (a ∷ l) → r.start ≢ b)
    go true e w = inl (a, Memᴰ.head refl, eqb-true a.start b e)
    go false e w = rest (eqb-false a.start b e) w

pub file_decided : (n : ℕ) (t : Bytes) (b : ℕ) → Whole n t → File t n b ⊎ (File t n b → ⊥)
file_decided n t b w =
    let s = seen n t w in
    let L : Layout = layout (free_at n t) s.files in
    ⊎_elim
    (λ o.
    let i : IsNode t n b = subst (IsNode t n) o.2 (run_node n w.small t L s.holds o.0 o.1).0 in
    ⊎_elim
    (λ p. ⊎_elim (λ h. inr (λ f. f.2 h)) (λ h. inl (i, p, h)) (same_or (v_at t 0) (b + 1)))
    (λ p. inr (λ f. p f.1))
    (zero_or_not (prev_at t b)))
    (λ none. inr (λ f. let o = node_run n w.small t L s.holds b f.0 in none o.0 o.1 o.2))
    (start_in (runs L) b)
