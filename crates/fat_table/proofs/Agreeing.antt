-- Two tables that hold one layout agree; a table that agrees with one that holds a layout holds it.
use mathlib.Core.Path.{refl, sym, subst, ◌∙◌}
use mathlib.Core.List.Memᴰ
use mathlib.Core.List.{List, [], ◌∷◌}
use mathlib.Core.Logic.{◌≢◌, ⊎_elim}
use Prim.Native.Nat.{ℕ, suc, ◌≤◌, ◌<◌}
use native.Mathlib.Omega.{arith}
use Rattle.fat_node.specs.Entry.{Bytes}
use Rattle.fat_node.specs.Node.{Run, NodeAt}
use Rattle.fat_node.proofs.Nodes.{node_one}
use Rattle.fat_table.specs.Layout.{Layout, joined, runs}
use Rattle.fat_table.specs.Holds.{HoldsNode, Laid, AllLaid, Holds}
use Rattle.fat_table.specs.Agree.{SameNode, Agree}
use Rattle.fat_table.proofs.Chains.{In, mem_left, mem_right, mem_either}
use Rattle.fat_table.proofs.Sounds.{run_node, node_run}

same_node : {t t' : Bytes} {r : Run} {p q : ℕ} → HoldsNode t r p q → HoldsNode t' r p q → SameNode t t' r.start r.size
same_node {t} {t'} {r} w w' = record {
  start = w.start ∙ sym w'.start;
  second = λ h. let e : r.size ≢ 1 = λ k. omega (arith, h, k) in w.second e ∙ sym (w'.second e);
  last = λ h. let e : r.size ≢ 1 = λ k. omega (arith, h, k) in w.last e ∙ sym (w'.last e);
}

laid_same : (t t' : Bytes) (l : List Run) (p : ℕ) → Laid t l p → Laid t' l p → (r : Run) → In r l → SameNode t t' r.start r.size
laid_same t t' [] p w w' r m = absurd (Memᴰ.not-nil m)
laid_same t t' (a ∷ l) p w w' r m =
    ⊎_elim
    (λ q. subst (λ (x : Run). SameNode t t' x.start x.size) (sym q) (same_node w.0 w'.0))
    (λ k. laid_same t t' l (suc a.start) w.1 w'.1 r k)
    (Memᴰ.cases_cons m)

all_same : (t t' : Bytes) (fs : List (List Run)) → AllLaid t fs → AllLaid t' fs → (r : Run) → In r (joined fs) → SameNode t t' r.start r.size
all_same t t' [] w w' r m = absurd (Memᴰ.not-nil m)
all_same t t' (f ∷ fs) w w' r m =
    ⊎_elim
    (λ k. laid_same t t' f 0 w.0 w'.0 r k)
    (λ k. all_same t t' fs w.1 w'.1 r k)
    (mem_either f (joined fs) m)

-- each run of the list has its entries in t as in t'
abbrev SameIn : Bytes → Bytes → List Run → Type 0
SameIn t t' l = (r : Run) → In r l → SameNode t t' r.start r.size × (0 < r.size)

laid_as : (t t' : Bytes) (l : List Run) (p : ℕ) → SameIn t t' l → Laid t' l p → Laid t l p
laid_as t t' [] p g w = tt
laid_as t t' (r ∷ l) p g w =
    let s = g r (Memᴰ.head refl) in (
      record {
        start = s.0.start ∙ w.0.start;
        second = λ h. s.0.second (omega (arith, h, s.1)) ∙ w.0.second h;
        last = λ h. s.0.last (omega (arith, h, s.1)) ∙ w.0.last h;
      },
      laid_as t t' l (suc r.start) (λ x m. g x (Memᴰ.tail m)) w.1,
    )

all_as : (t t' : Bytes) (fs : List (List Run)) → SameIn t t' (joined fs) → AllLaid t' fs → AllLaid t fs
all_as t t' [] g w = tt
all_as t t' (f ∷ fs) g w = (laid_as t t' f 0 (λ r m. g r (mem_left (joined fs) m)) w.0, all_as t t' fs (λ r m. g r (mem_right f m)) w.1)

module _ (n : ℕ) (small : n ≤ 1000000) (t t' : Bytes) (L : Layout) where
  pub holds_agree : Holds n t L → Holds n t' L → Agree n t t'
  holds_agree s s' = record {
    room = s.room ∙ sym s'.room;
    head = s.head ∙ sym s'.head;
    node = λ b z i w.
        let o = node_run n small t' L s' b i in
        let a : SameNode t t' o.0.start o.0.size = all_same t t' (L.free ∷ L.files) (s.free, s.files) (s'.free, s'.files) o.0 o.1 in
        let w' : NodeAt t' n b o.0.size = subst (λ (x : ℕ). NodeAt t' n x o.0.size) o.2 (run_node n small t' L s' o.0 o.1).1 in
        subst (SameNode t t' b) (node_one t' n b o.0.size z w' w) (subst (λ (x : ℕ). SameNode t t' x o.0.size) o.2 a);
  }

  pub agree_holds : Agree n t t' → Holds n t' L → Holds n t L
  agree_holds a s =
      let g : SameIn t t' (runs L) =
      λ r m. let o = run_node n small t' L s r m in (a.node r.start r.size o.0 o.1, o.1.some) in
      record {
        room = a.room ∙ s.room;
        head = a.head ∙ s.head;
        free = laid_as t t' L.free 0 (λ r m. g r (mem_left (joined L.files) m)) s.free;
        files = all_as t t' L.files (λ r m. g r (mem_right L.free m)) s.files;
        tiled = s.tiled;
      }
