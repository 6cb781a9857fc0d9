-- What a history does to layouts: from one free run to any tiled layout. No table here.
use mathlib.Core.Path.{◌≡◌, refl, sym, ap, ◌∙◌}
use mathlib.Core.List.Permᴰ
use mathlib.Core.List.{List, [], ◌∷◌, ◌++◌, append_assoc, append-nil, Permᴰ}
use Prim.Native.Nat.{ℕ, suc, ◌+◌, ◌-◌, ◌≤◌, ◌<◌}
use native.Mathlib.Omega.{arith}
use lib.ListN.{length}
use Rattle.fat_node.specs.Node.{Run, run}
use Rattle.fat_table.specs.Chain.{total}
use Rattle.fat_table.specs.Steps.{first}
use Rattle.fat_table.specs.Layout.{Layout, layout, taken, left, joined, empties, blanks, runs, Tiled}
use Rattle.fat_table.proofs.Layouts.{EndToEnd, empties_append, end_after}
use Rattle.fat_history.proofs.Reaches.{singles, singles_append, singles_perm, run_path, cut_all, cut_part, total_positive}
use Rattle.fat_retrace.specs.History.{Call, create, delete, makes, gives, joins, joins_all}

-- the calls take one layout to the other; the order of the files is not seen
pub data Goes : List Call → Layout → Layout → Type 0 where
  none : {L : Layout} → Goes [] L L
  order : {h : List Call} {free : List Run} {fs gs : List (List Run)} {M : Layout} → Permᴰ fs gs → Goes h (layout free gs) M → Goes h (layout free fs) M
  creates : {h : List Call} {free : List Run} {files : List (List Run)} {M : Layout} (c : ℕ) → 1 ≤ c → c ≤ total free
      → Goes h (layout (left free c) (taken free c ∷ files)) M
      → Goes (create c ∷ h) (layout free files) M
  deletes : {h : List Call} {free f : List Run} {files : List (List Run)} {M : Layout} (b : ℕ) → first f ≡ suc b
      → Goes h (layout (f ++ free) files) M
      → Goes (delete b ∷ h) (layout free (f ∷ files)) M

pub goes_on : {g h : List Call} {L M N : Layout} → Goes g L M → Goes h M N → Goes (g ++ h) L N
goes_on none w = w
goes_on (order p v) w = order p (goes_on v w)
goes_on (creates c a b v) w = creates c a b (goes_on v w)
goes_on (deletes b e v) w = deletes b e (goes_on v w)

pub ends : {h : List Call} {L : Layout} {free : List Run} {fs gs : List (List Run)} → Permᴰ fs gs → Goes h L (layout free fs) → Goes h L (layout free gs)
ends p none = order p none
ends p (order q v) = order q (ends p v)
ends p (creates c a b v) = creates c a b (ends p v)
ends p (deletes b e v) = deletes b e (ends p v)

-- a file for each run
fresh : (T : List Run) (b m e : ℕ) (fs : List (List Run)) → 1 ≤ length T → EndToEnd b T e → b + m ≡ e
    → Goes (makes T) (layout (run b m ∷ []) fs) (layout [] (singles T ++ fs))
fresh [] b m e fs h t q = let z : ⊥ = omega arith in absurd z
fresh (r ∷ []) b m e fs h t q =
    let f : List Run = run b m ∷ [] in
    let p : empties f ≡ 0 = omega arith in
    let z = cut_all f r.size p (omega arith) in
    let o : run b m ≡ r = ap (λ (s : ℕ). run b s) (omega arith) ∙ run_path r b t.0 in
    let v : Goes [] (layout (left f r.size) (taken f r.size ∷ fs)) (layout [] ((r ∷ []) ∷ fs)) =
    rw (z.0, z.1, o) none in
    creates {free = f} r.size t.1 (omega arith) v
fresh (r ∷ r' ∷ T) b m e fs h t q =
    let f : List Run = run b m ∷ [] in
    let lt : r.size < m = omega (arith, end_after (b + r.size) (r' ∷ T) e t.2) in
    let z = cut_part b m r.size t.1 lt in
    let g = fresh (r' ∷ T) (b + r.size) (m - r.size) e ((r ∷ []) ∷ fs) (omega arith) t.2 (omega arith) in
    let u : Goes (makes (r' ∷ T)) (layout (left f r.size) (taken f r.size ∷ fs)) (layout [] (singles (r ∷ r' ∷ T) ++ fs)) =
    rw (z.0, z.1, run_path r b t.0) (ends (Permᴰ.middle (r ∷ []) (singles (r' ∷ T)) fs) g) in
    creates {free = f} r.size t.1 (omega arith) u

-- the files of one run each are put before the free chain, the last first
gather : (f g : List Run) (rest : List (List Run)) → Goes (gives f) (layout g (singles f ++ rest)) (layout (f ++ g) rest)
gather [] g rest = none
gather (a ∷ f) g rest =
    goes_on (order (Permᴰ.symm (Permᴰ.middle (a ∷ []) (singles f) rest)) (gather f g ((a ∷ []) ∷ rest))) (deletes a.start refl none)

-- and a file is made of its runs
join_file : (f : List Run) (rest : List (List Run)) → 1 ≤ length f → empties f ≡ 0 → Goes (joins f) (layout [] (singles f ++ rest)) (layout [] (f ∷ rest))
join_file [] rest h p = let z : ⊥ = omega arith in absurd z
join_file (r ∷ []) rest h p = none
join_file (r ∷ s ∷ l) rest h p =
    let f : List Run = r ∷ s ∷ l in
    let z = cut_all f (total f) p refl in
    let v : Goes (gives f) (layout [] (singles f ++ rest)) (layout f rest) = rw append-nil at (gather f [] rest) in
    let u : Goes [] (layout (left f (total f)) (taken f (total f) ∷ rest)) (layout [] (f ∷ rest)) = rw (z.0, z.1) none in
    goes_on v (creates {free = f} (total f) (total_positive f h p) (omega arith) u)

assemble : (files rest : List (List Run)) → blanks files ≡ 0 → empties (joined files) ≡ 0
    → Goes (joins_all files) (layout [] (singles (joined files) ++ rest)) (layout [] (files ++ rest))
assemble [] rest h p = none
assemble (f ∷ fs) rest h p =
    let pe : empties f + empties (joined fs) ≡ 0 = sym (empties_append f (joined fs)) ∙ p in
    let v = join_file f (singles (joined fs) ++ rest) (omega arith) (omega arith) in
    let w = ends (Permᴰ.middle f fs rest) (assemble fs (f ∷ rest) (omega arith) (omega arith)) in
    let x = goes_on v (order (Permᴰ.symm (Permᴰ.middle f (singles (joined fs)) rest)) w) in
    rw (singles_append, append_assoc) x

-- the runs in their order, T, then the files, then the free chain
pub tiled_goes : (n : ℕ) (free : List Run) (files : List (List Run)) (T : List Run) → 1 ≤ length T → Tiled n (layout free files)
    → Permᴰ (runs (layout free files)) T
    → EndToEnd 0 T n
    → Goes (makes T ++ (joins_all files ++ gives free)) (layout (run 0 n ∷ []) []) (layout free files)
tiled_goes n free files T h t π E =
    let pe : empties free + empties (joined files) ≡ 0 = sym (empties_append free (joined files)) ∙ t.positive in
    let a = fresh T 0 n n [] h E (omega arith) in
    let b = ends (Permᴰ.trans (Permᴰ.append-nil (singles T)) (singles_perm (Permᴰ.symm π))) a in
    let c = ends (Permᴰ.append_comm (singles free) (singles (joined files))) (rw singles_append at b) in
    let d = assemble files (singles free) t.nonempty (omega arith) in
    let e : Goes (gives free) (layout [] (singles free ++ files)) (layout free files) = rw append-nil at (gather free [] files) in
    goes_on c (goes_on d (order (Permᴰ.append_comm files (singles free)) e))
