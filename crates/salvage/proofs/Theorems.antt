-- What a followed chain is worth.
use mathlib.Core.Path.{◌≡◌, refl, sym, ap, subst, subst⁻¹, ◌∙◌}
use mathlib.Core.List.Memᴰ
use mathlib.Core.List.{List, [], ◌∷◌, ◌++◌, append-nil, append_assoc}
use mathlib.Core.Bool.{true}
use Prim.Native.Nat.{ℕ, zero, suc, ◌+◌, ◌≤◌, ◌<◌}
use native.Mathlib.Omega.{arith}
use lib.ListN.{length}
use Rattle.order.specs.Answer.{unbroken}
use Rattle.order.specs.Gate.{cleared}
use Rattle.order.specs.Beside.{Beside, beside, within}
use Rattle.order.proofs.One.{one}
use Rattle.fat_node.specs.Entry.{Bytes}
use Rattle.fat_node.specs.Sizes.{blocks}
use Rattle.fat_node.specs.Node.{Run, run, next_at}
use Rattle.fat_table.specs.Sound.{File}
use Rattle.fat_table.specs.Chain.{file_at, free_at}
use Rattle.fat_table.specs.Layout.{hits, covers, empties, joined}
use Rattle.fat_table.specs.Steps.{first}
use Rattle.fat_table.specs.Holds.{Laid}
use Rattle.fat_table.proofs.Layouts.{hits_in, hits_most, covers_append, empties_append}
use Rattle.fat_table.proofs.Laying.{inside_of, first_inside}
use Rattle.fat_table.proofs.Stepped.{read_prev, read_next, read_size}
use Rattle.fat_table.proofs.Sounds.{holds_node}
use Rattle.fat_table.proofs.Files.{Whole, seen_file}
use Rattle.salvage.specs.Follow.{readable, shared, salvage, follow, salvaged, SameIn}
use Rattle.salvage.specs.Calls.{Followed, chain_gives, chain_rows, chain_done, salvage_gate, ChainPromise}
use Rattle.salvage.proofs.Reading.{node_readable}
use Rattle.salvage.proofs.Bounds.{Apart, apart_none, total_apart, length_total, none_shared}
use Rattle.salvage.proofs.Follows.{left, stands_same, follow_whole, follow_on}

-- a whole chain is the file's in every table that has the chain's entries, so in every sound one of which b is a file
pub truthful : (n : ℕ) (t : Bytes) (b : ℕ) (c : List Run) → salvaged n t b ≡ salvage c unbroken
    → (t' : Bytes) → SameIn t t' c → file_at n t' b ≡ c
truthful n t b c h t' g =
    let o = left (suc n) n t [] 0 (suc b) (apart_none n) in
    let q : (salvaged n t b).runs ≡ c = ap (λ s. s.runs) h in
    let r : o.rest ≡ c = sym o.is ∙ q in
    let a : Apart n c = subst (Apart n) q o.apart in
    stands_same n t t' 0 (suc b) o.end o.rest o.stands (o.whole (ap (λ s. s.why.rule) h)) (subst⁻¹ (SameIn t t') r g) n
    (omega (arith, ap length r, length_total c a.some, total_apart n c a))
    ∙ r

-- a chain that is laid is followed to its end
follow_laid : (n : ℕ) → n ≤ 1000000 → (t : Bytes) (k : ℕ) (seen l : List Run) (p : ℕ) → p ≤ n → Laid t l p → Apart n (seen ++ l) → length l < k
    → follow k n t seen p (first l) ≡ salvage (seen ++ l) unbroken
follow_laid n small t zero seen l p hp w a h = let z : ⊥ = omega (arith, h) in absurd z
follow_laid n small t (suc k) seen [] p hp w a h = follow_whole k n t seen p ∙ ap (λ l. salvage l unbroken) (sym (append-nil seen))
follow_laid n small t (suc k) seen (r ∷ l) p hp w a h =
    let cl : (x : ℕ) → covers x l ≤ hits x (run 0 n) = λ x. omega (arith, a.inside x, covers_append x seen (r ∷ l)) in
    let e : empties (r ∷ l) ≡ 0 = omega (arith, a.some, empties_append seen (r ∷ l)) in
    let f : first l ≤ n = first_inside n l (omega (arith, e)) cl in
    let i : r.start + r.size ≤ n = inside_of n r (omega (arith, e)) (λ x. omega (arith, a.inside x, covers_append x seen (r ∷ l))) in
    let pos : 1 ≤ r.size = omega (arith, e) in
    let rp = read_prev n small t r p (first l) hp f w.0 in
    let rn = read_next n small t r p (first l) hp f w.0 in
    let rs = read_size n small t r p (first l) hp f w.0 pos in
    let here : readable n t r.start ≡ true = node_readable n t r.start r.size small (holds_node n small t r p (first l) hp f pos i w.0) in
    let sh : shared r.size r.start seen ≡ 0 = none_shared r.size r.start seen
    (λ x lo hi. omega (arith, a.inside x, covers_append x seen (r ∷ l), hits_in x r lo hi, hits_most x (run 0 n))) in
    let grouped : seen ++ (r ∷ l) ≡ (seen ++ r ∷ []) ++ l = sym (append_assoc seen (r ∷ []) l) in
    follow_on k n t seen p r.start here rp (subst⁻¹ (λ (s : ℕ). shared s r.start seen ≡ 0) rs sh)
    ∙ ap (λ (s : ℕ). follow k n t (seen ++ run r.start s ∷ []) (suc r.start) (next_at t r.start)) rs
    ∙ ap (follow k n t (seen ++ r ∷ []) (suc r.start)) rn
    ∙ follow_laid n small t k (seen ++ r ∷ []) l (suc r.start) (omega (arith, i, pos)) w.1 (subst (Apart n) grouped a) (omega (arith, h))
    ∙ ap (λ l. salvage l unbroken) (sym grouped)

laid_as : (t t' : Bytes) (l : List Run) (p : ℕ) → empties l ≡ 0 → SameIn t t' l → Laid t' l p → Laid t l p
laid_as t t' [] p e g w = tt
laid_as t t' (r ∷ l) p e g w =
    let s = g r (Memᴰ.head refl) in (
      record {
        start = s.start ∙ w.0.start;
        second = λ h. s.second (omega (arith, h, e)) ∙ w.0.second h;
        last = λ h. s.last (omega (arith, h, e)) ∙ w.0.last h;
      },
      laid_as t t' l (suc r.start) (omega (arith, e)) (λ x m. g x (Memᴰ.tail m)) w.1,
    )

-- where t has the entries of the chain of a file of some sound table, the walk is whole, and gives that file's chain
pub complete : (n : ℕ) (t t' : Bytes) (b : ℕ) → Whole n t' → File t' n b → SameIn t t' (file_at n t' b)
    → salvaged n t b ≡ salvage (file_at n t' b) unbroken
complete n t t' b w i g =
    let s = seen_file n t' b w i in
    let f : List Run = file_at n t' b in
    let j : List Run = joined s.others in
    let e : empties f ≡ 0 = omega (arith, s.holds.tiled.positive, empties_append (free_at n t') (f ++ j), empties_append f j) in
    let a : Apart n f = record {
      inside = λ x. omega (arith, s.holds.tiled.once x, covers_append x (free_at n t') (f ++ j), covers_append x f j);
      some = e;
    } in
    ap (follow (suc n) n t [] 0) (sym s.at)
    ∙ follow_laid n w.small t (suc n) [] f 0 (omega arith) (laid_as t t' f 0 e g s.holds.files.0) a
    (omega (arith, length_total f e, total_apart n f a))

-- so on a sound table every file is whole
pub sound_whole : (n : ℕ) (t : Bytes) (b : ℕ) → Whole n t → File t n b → salvaged n t b ≡ salvage (file_at n t b) unbroken
sound_whole n t b w i = complete n t t b w i (λ r m. record { start = refl; second = λ h. refl; last = λ h. refl })

-- the promise and what is lent leave one outcome
pub one_chain : (t : Bytes) (work : List ℕ) (b : ℕ) (list : List ℕ) (o o' : Beside Followed) → ChainPromise t work b list o → ChainPromise t work b list o' → o ≡ o'
one_chain t work b list o o' p q =
    one (salvage_gate (λ a w. beside (chain_gives a 0 unbroken list) w) t work ++ within (cleared (blocks t) work) (chain_rows (blocks t) t b list))
    (beside (chain_done (blocks t) t b list) (cleared (blocks t) work)) o o' p q
