-- A plan applied is two steps: the targets become a file of one node, and the old file is deleted.
use mathlib.Core.Path.{◌≡◌, refl, sym, ap, ◌∙◌}
use mathlib.Core.List.{List, [], ◌∷◌, ◌++◌}
use Prim.Native.Nat.{ℕ, suc, ◌+◌, ◌≤◌}
use native.Mathlib.Omega.{arith}
use Rattle.fat_node.specs.Entry.{Bytes, entry}
use Rattle.fat_node.specs.Node.{Run, run, set_node, set_head}
use Rattle.fat_node.proofs.Entries.{put_put}
use Rattle.fat_table.specs.Sound.{File}
use Rattle.fat_table.specs.Chain.{total, free_at, file_at}
use Rattle.fat_table.specs.Layout.{hits, covers, empties, joined}
use Rattle.fat_table.specs.Steps.{first, lay, deleted}
use Rattle.fat_table.proofs.Layouts.{hits_most, covers_append, empties_append}
use Rattle.fat_table.proofs.Overwrites.{set_node_set_node, set_head_set_node, lay_set_node}
use Rattle.fat_table.proofs.Files.{Whole, seen_file}
use Rattle.fat_carve.specs.Carve.{carved, Window}
use Rattle.fat_carve.proofs.Carves.{covers_carved, empties_carved}
use Rattle.fat_place.specs.Place.{applied, placed}
use Rattle.fat_place.proofs.Tables.{place_free, place_leaves}

-- a chain laid over itself
lay_self : (l : List Run) (p o : ℕ) (u : Bytes) → empties l ≡ 0 → ((x : ℕ) → covers x l ≤ 1) → lay l p (lay l o u) ≡ lay l p u
lay_self [] p o u e c = refl
lay_self (r ∷ l) p o u e c =
    ap (lay l (suc r.start))
    (sym (lay_set_node l (suc r.start) (set_node u r o (first l)) r p (first l) (omega (arith, e)) (omega (arith, e)) (λ x. omega (arith, c x)))
    ∙ ap (lay l (suc r.start)) (set_node_set_node u r o (first l) p (first l) (omega (arith, e))))
    ∙ lay_self l (suc r.start) (suc r.start) (set_node u r p (first l)) (omega (arith, e)) (λ x. omega (arith, c x))

-- and with more before it
lay_behind : (F C : List Run) (p o : ℕ) (u : Bytes) → empties F ≡ 0 → empties C ≡ 0 → ((x : ℕ) → covers x F + covers x C ≤ 1)
    → lay (F ++ C) p (lay C o u) ≡ lay (F ++ C) p u
lay_behind [] C p o u e k c = lay_self C p o u k (λ x. omega (arith, c x))
lay_behind (r ∷ F) C p o u e k c =
    ap (lay (F ++ C) (suc r.start))
    (sym (lay_set_node C o u r p (first (F ++ C)) (omega (arith, e)) k (λ x. omega (arith, c x))))
    ∙ lay_behind F C (suc r.start) o (set_node u r p (first (F ++ C))) (omega (arith, e)) k (λ x. omega (arith, c x))

head_out : (l : List Run) (p h : ℕ) (u : Bytes) → empties l ≡ 0 → lay l p (set_head u h) ≡ set_head (lay l p u) h
head_out [] p h u e = refl
head_out (r ∷ l) p h u e =
    ap (lay l (suc r.start)) (sym (set_head_set_node u h r p (first l) (omega (arith, e))))
    ∙ head_out l (suc r.start) h (set_node u r p (first l)) (omega (arith, e))

head_twice : (u : Bytes) (h i : ℕ) → set_head (set_head u h) i ≡ set_head u i
unfolding set_head
head_twice u h i = put_put u 0 (entry 0 h) (entry 0 i)

-- the targets made a file, then the old file deleted
pub applied_steps : (n : ℕ) (t : Bytes) (w : Whole n t) (b : ℕ) → File t n b → (m : ℕ) → Window m (total (file_at n t b)) (free_at n t)
    → deleted n (placed n t m (total (file_at n t b))) b ≡ applied n t b m
unfolding deleted placed applied
applied_steps n t w b i m q =
    let k : ℕ = total (file_at n t b) in
    let F : List Run = file_at n t b in
    let C : List Run = carved m k (free_at n t) in
    let u : Bytes = set_node t (run m k) 0 0 in
    let T : Bytes = set_head (lay C 0 u) (first C) in
    let s = seen_file n t b w i in
    let cf : (x : ℕ) → covers x (free_at n t) + (covers x F + covers x (joined s.others)) ≡ hits x (run 0 n) =
    λ x. omega (arith, s.holds.tiled.once x, covers_append x (free_at n t) (F ++ joined s.others), covers_append x F (joined s.others)) in
    let es : empties (free_at n t) + (empties F + empties (joined s.others)) ≡ 0 =
    omega (arith, s.holds.tiled.positive, empties_append (free_at n t) (F ++ joined s.others), empties_append F (joined s.others)) in
    let ec : empties C ≡ 0 = empties_carved m k (free_at n t) (omega (arith, es)) in
    let cc' : (x : ℕ) → covers x F + covers x C ≤ 1 =
    λ x. omega (arith, cf x, hits_most x (run 0 n), covers_carved x m k (free_at n t) (omega (arith, cf x, hits_most x (run 0 n))) (q.each x)) in
    let a : file_at n T b ≡ F = (place_leaves n t w m k q b i).same in
    let d : free_at n T ≡ C = place_free n t w m k q in
    ap (λ (f : List Run). set_head (lay (f ++ free_at n T) 0 T) (first (f ++ free_at n T))) a
    ∙ ap (λ (c : List Run). set_head (lay (F ++ c) 0 T) (first (F ++ c))) d
    ∙ ap (λ (y : Bytes). set_head y (first (F ++ C)))
    (head_out (F ++ C) 0 (first C) (lay C 0 u) (omega (arith, empties_append F C, es, ec))
    ∙ ap (λ (y : Bytes). set_head y (first C)) (lay_behind F C 0 0 u (omega (arith, es)) ec cc'))
    ∙ head_twice (lay (F ++ C) 0 u) (first C) (first (F ++ C))
