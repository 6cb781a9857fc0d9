-- The tables of the history are whole, and which of their blocks are files' first ones.
use mathlib.Core.Path.{◌≡◌, refl, sym, ◌∙◌}
use Prim.Native.Nat.{ℕ, zero, suc, ◌+◌, ◌<◌, ◌≤◌}
use native.Mathlib.Omega.{arith}
use lib.ListN.{get_or, replicate}
use Rattle.words.specs.Word.{word, put_word}
use Rattle.words.proofs.Laws as words
use Rattle.fat_node.specs.Entry.{Bytes, get, put, u_at, v_at}
use Rattle.fat_node.specs.Node.{NodeAt, prev_at, set_node, set_head, prev_half, next_half}
use Rattle.fat_node.specs.Format.{formatted}
use Rattle.fat_table.specs.Sound.{Starts, File}
use Rattle.fat_table.specs.Chain.{total, free_at, file_at}
use Rattle.fat_table.specs.Steps.{created, deleted, shrunk, grown, resized}
use Rattle.fat_table.proofs.Files.{Whole, whole_formatted, whole_created, whole_deleted, whole_resized}
use Rattle.checks.specs.Blocks.{zeros}

-- the tables of the history: format, create 1, create 2, delete 0, create 2, resize 1 to 1
abbrev pub t0 : Bytes
t0 = formatted 4 (zeros 4)

abbrev pub t1 : Bytes
t1 = created 4 t0 1

abbrev pub t2 : Bytes
t2 = created 4 t1 2

abbrev pub t3 : Bytes
t3 = deleted 4 t2 0

abbrev pub t4 : Bytes
t4 = created 4 t3 2

abbrev pub t5 : Bytes
t5 = resized 4 t4 1 1

zero_bytes : (n : ℕ) → words.Bytes (replicate n 0)
zero_bytes n = record { byte = go n }
  where
    go : (k i : ℕ) → get_or (replicate k 0) i 0 < 256
    go zero i = omega arith
    go (suc k) zero = omega arith
    go (suc k) (suc i) = go k i

pub whole0 : Whole 4 t0
whole0 = whole_formatted 4 (zeros 4) (omega arith) (omega arith) (zero_bytes 40) refl

pub free0 : total (free_at 4 t0) ≡ 4
unfolding word put_word get put prev_half next_half set_node set_head formatted
free0 = refl

pub whole1 : Whole 4 t1
whole1 = whole_created 4 t0 whole0 1 (omega arith) (omega (arith, free0))

pub free1 : total (free_at 4 t1) ≡ 3
unfolding word put_word get put prev_half next_half set_node set_head formatted created
free1 = refl

pub whole2 : Whole 4 t2
whole2 = whole_created 4 t1 whole1 2 (omega arith) (omega (arith, free1))

-- block 0 starts a file where nothing is before it and the head does not name it
first_file : (t : Bytes) (h : ℕ) → prev_at t 0 ≡ 0 → v_at t 0 ≡ h → (h ≡ 1 → ⊥) → File t 4 0
first_file t h p v ne = ((Starts.begin, omega arith), p, λ e. ne (sym v ∙ e))

pub file2 : File t2 4 0
unfolding word put_word get put prev_half next_half set_node set_head formatted created
file2 = first_file t2 4 refl refl (λ e. omega (arith, e))

pub whole3 : Whole 4 t3
whole3 = whole_deleted 4 t2 whole2 0 file2

pub free3 : total (free_at 4 t3) ≡ 2
unfolding word put_word get put prev_half next_half set_node set_head formatted created deleted
free3 = refl

pub whole4 : Whole 4 t4
whole4 = whole_created 4 t3 whole3 2 (omega arith) (omega (arith, free3))

pub file4_0 : File t4 4 0
unfolding word put_word get put prev_half next_half set_node set_head formatted created deleted
file4_0 = first_file t4 0 refl refl (λ e. omega (arith, e))

-- a node of one block from its start entry
single : (t : Bytes) (u v : ℕ) → u_at t 1 ≡ u → v_at t 1 ≡ v → 0 < u → u ≤ 2147483648 → v < 2147483648 → NodeAt t 4 0 1
single t u v eu ev lo hi one =
    record {
      some = omega arith;
      within = omega arith;
      prev = (omega (arith, eu, lo), omega (arith, eu, hi));
      one = λ e. omega (arith, ev, one);
      more = λ m. let z : ⊥ = omega (arith, m) in absurd z;
    }

-- block 1 starts a file where a node of one block stands before it
second_file : (t : Bytes) (h : ℕ) → NodeAt t 4 0 1 → prev_at t 1 ≡ 0 → v_at t 0 ≡ h → (h ≡ 2 → ⊥) → File t 4 1
second_file t h w p v ne = ((Starts.after Starts.begin w refl, omega arith), p, λ e. ne (sym v ∙ e))

pub file4_1 : File t4 4 1
unfolding word put_word get put prev_half next_half set_node set_head formatted created deleted
file4_1 = second_file t4 0 (single t4 2147483648 4 refl refl (omega arith) (omega arith) (omega arith)) refl refl (λ e. omega (arith, e))

pub free4 : total (file_at 4 t4 1) + total (free_at 4 t4) ≡ 2
unfolding word put_word get put prev_half next_half set_node set_head formatted created deleted
free4 = refl

pub whole5 : Whole 4 t5
whole5 = whole_resized 4 t4 whole4 1 1 file4_1 (omega arith) (omega (arith, free4))

pub file5_1 : File t5 4 1
unfolding word put_word get put prev_half next_half set_node set_head formatted created deleted shrunk grown resized
file5_1 = second_file t5 3 (single t5 2147483648 4 refl refl (omega arith) (omega arith) (omega arith)) refl refl (λ e. omega (arith, e))

pub free5 : total (file_at 4 t5 1) + total (free_at 4 t5) ≡ 2
unfolding word put_word get put prev_half next_half set_node set_head formatted created deleted shrunk grown resized
free5 = refl

pub size5 : total (file_at 4 t5 1) ≡ 1
unfolding word put_word get put prev_half next_half set_node set_head formatted created deleted shrunk grown resized
size5 = refl

pub size4 : total (file_at 4 t4 0) ≡ 2
unfolding word put_word get put prev_half next_half set_node set_head formatted created deleted
size4 = refl
