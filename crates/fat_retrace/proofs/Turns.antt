-- The two walks over the nodes: a create for each node, and the calls for each file.
use mathlib.Core.Path.{◌≡◌, refl, sym, ap, subst, ◌∙◌}
use mathlib.Core.List.{List, [], ◌∷◌, ◌++◌, append_assoc}
use Prim.Native.Nat.{ℕ, ◌+◌, ◌*◌, ◌≤◌, ◌<◌}
use native.Mathlib.Omega.{arith}
use lib.ListN.{length}
use Rattle.fat_node.specs.Entry.{Bytes}
use Rattle.fat_node.specs.Node.{Run}
use Rattle.fat_table.specs.Sound.{IsNode}
use Rattle.fat_table.specs.Chain.{size_at, file_at}
use Rattle.fat_table.specs.Counts.{nodes, starts}
use Rattle.fat_walk.specs.Volume.{Volume}
use Rattle.fat_walk.specs.Inner.Chains.{Standing}
use Rattle.fat_retrace.specs.History.{Call, create, makes, joins, joins_all, marked, files_in}
use Rattle.fat_retrace.specs.Inner.Written.{Written, joins_at}
use Rattle.fat_retrace.proofs.Few.{length_makes}
use Rattle.fat_retrace.proofs.Scans.{Folds, Going, going_begin, going_node, going_standing, going_size, going_room, going_on, going_end}

-- a create for each node ----------------------------------------------------------------------------------------

makes_fold : Folds makes (λ r. create r.size ∷ [])
makes_fold = record { nil = refl; cons = λ r l. refl }

pub make_begin : (n : ℕ) (t : Bytes) (l : List ℕ) → Going makes n t 0 l 0 0 l
make_begin n t l = going_begin makes (λ r. create r.size ∷ []) makes_fold n t 0 l

module _ (n : ℕ) (t : Bytes) (l₀ : List ℕ) (b k : ℕ) (l : List ℕ) (v : Volume n t) (g : Going makes n t 0 l₀ b k l) where
  pub make_end : n ≤ b → Written (makes (nodes n t)) 0 l₀ k l
  make_end h = going_end makes (λ r. create r.size ∷ []) makes_fold n t 0 l₀ b k l g h

  module _ (h : b < n) where
    pub make_standing : Standing n t b
    make_standing = going_standing makes (λ r. create r.size ∷ []) makes_fold n t 0 l₀ b k l g v h

    pub make_size : (s : ℕ) → s ≡ size_at t b → (1 ≤ s) × (b + s ≤ n)
    make_size s e = let z = going_size makes (λ r. create r.size ∷ []) makes_fold n t 0 l₀ b k l g v h in (omega (arith, z.0), omega (arith, z.1))

    pub make_room : 2 * length (nodes n t) ≤ length l₀ → 2 * k + 2 ≤ length l
    make_room o =
        let z = going_room makes (λ r. create r.size ∷ []) makes_fold n t 0 l₀ b k l g v h (omega (arith, o, length_makes (nodes n t))) in
        omega (arith, z)

    pub make_small : (s : ℕ) → s ≡ size_at t b → s ≤ 1000000
    make_small s e = omega (arith, (make_size s e).1, v.few)

    pub make_on : (s r : ℕ) (l' : List ℕ) → s ≡ size_at t b → Written (create s ∷ []) k l r l' → Going makes n t 0 l₀ (b + s) r l'
    make_on s r l' e p =
        going_on makes (λ r. create r.size ∷ []) makes_fold n t 0 l₀ b k l g v h s r l' e (subst (λ (x : ℕ). Written (create x ∷ []) k l r l') e p)

-- the calls for each file ---------------------------------------------------------------------------------------

abbrev pub joins_of : ℕ → Bytes → List Run → List Call
joins_of n t l = joins_all (files_in n t l)

joins_append : (a b : List (List Run)) → joins_all (a ++ b) ≡ joins_all a ++ joins_all b
joins_append [] b = refl
joins_append (f ∷ a) b = ap (λ (x : List Call). joins f ++ x) (joins_append a b) ∙ sym (append_assoc (joins f) (joins_all a) (joins_all b))

joins_fold : (n : ℕ) (t : Bytes) → Folds (joins_of n t) (λ r. joins_at n t r.start)
joins_fold n t = record { nil = refl; cons = λ r l. joins_append (marked (starts t r.start) (file_at n t r.start)) (files_in n t l) }

pub join_begin : (n : ℕ) (t : Bytes) (k : ℕ) (l : List ℕ) → Going (joins_of n t) n t k l 0 k l
join_begin n t k l = going_begin (joins_of n t) (λ r. joins_at n t r.start) (joins_fold n t) n t k l

module _ (n : ℕ) (t : Bytes) (k₀ : ℕ) (l₀ : List ℕ) (b k : ℕ) (l : List ℕ) (v : Volume n t) (g : Going (joins_of n t) n t k₀ l₀ b k l) where
  pub join_end : n ≤ b → Written (joins_all (files_in n t (nodes n t))) k₀ l₀ k l
  join_end h = going_end (joins_of n t) (λ r. joins_at n t r.start) (joins_fold n t) n t k₀ l₀ b k l g h

  module _ (h : b < n) where
    pub join_node : IsNode t n b
    join_node = going_node (joins_of n t) (λ r. joins_at n t r.start) (joins_fold n t) n t k₀ l₀ b k l g v h

    pub join_standing : Standing n t b
    join_standing = going_standing (joins_of n t) (λ r. joins_at n t r.start) (joins_fold n t) n t k₀ l₀ b k l g v h

    pub join_size : (s : ℕ) → s ≡ size_at t b → (1 ≤ s) × (b + s ≤ n)
    join_size s e =
        let z = going_size (joins_of n t) (λ r. joins_at n t r.start) (joins_fold n t) n t k₀ l₀ b k l g v h in
        (omega (arith, z.0), omega (arith, z.1))

    pub join_fits : 2 * (k₀ + length (joins_all (files_in n t (nodes n t)))) ≤ length l₀ → 2 * (k + length (joins_at n t b)) ≤ length l
    join_fits o = going_room (joins_of n t) (λ r. joins_at n t r.start) (joins_fold n t) n t k₀ l₀ b k l g v h o

    pub join_on : (s r : ℕ) (l' : List ℕ) → s ≡ size_at t b → Written (joins_at n t b) k l r l' → Going (joins_of n t) n t k₀ l₀ (b + s) r l'
    join_on s r l' e p = going_on (joins_of n t) (λ r. joins_at n t r.start) (joins_fold n t) n t k₀ l₀ b k l g v h s r l' e p
