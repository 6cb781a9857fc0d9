-- The history of an accepted table. The statements name definitions of specs/ alone.
use mathlib.Core.Path.{◌≡◌, refl, ap, subst⁻¹, ◌∙◌}
use mathlib.Core.List.{List, [], ◌∷◌, ◌++◌}
use mathlib.Core.Logic.{inl, inr}
use Prim.Native.Nat.{ℕ, suc, ◌+◌, ◌-◌, ◌*◌, ◌/◌, ◌≤◌}
use native.Mathlib.Omega.{arith}
use lib.ListN.{length}
use lib.Seq.{sets}
use Rattle.words.specs.Word.{AreBytes}
use Rattle.order.specs.Answer.{number_of}
use Rattle.order.specs.Beside.{Beside, beside}
use Rattle.order.specs.Beside as rows
use Rattle.order.specs.Gate.{cleared}
use Rattle.order.proofs.One.{one}
use Rattle.order.specs.Answer.{Done}
use Rattle.fat_node.specs.Entry.{Bytes}
use Rattle.fat_node.specs.Node.{run}
use Rattle.fat_node.specs.Sizes.{blocks}
use Rattle.fat_node.specs.Format.{formatted, FormatPromise}
use Rattle.order.specs.Answer.{Answer}
use Rattle.fat_table.specs.Sound.{Sound, IsNode, Counted}
use Rattle.fat_table.specs.Chain.{free_at}
use Rattle.fat_table.specs.Layout.{Layout, layout}
use Rattle.fat_table.specs.Counts.{nodes}
use Rattle.fat_table.specs.Holds.{Holds}
use Rattle.fat_table.specs.Agree.{Agree}
use Rattle.fat_table.proofs.Stepped.{holds_format}
use Rattle.fat_table.proofs.Agreeing.{holds_agree}
use Rattle.fat_table.proofs.Files.{bytes_formatted}
use Rattle.fat_test.specs.Gate.{InUse, test_gate}
use Rattle.fat_test.specs.Promise.{TestPromise}
use Rattle.fat_test.specs.Promise.{Tested}
use Rattle.fat_history.specs.History as histories
use Rattle.fat_history.specs.History.{formats, creates, deletes, resizes_in}
use Rattle.fat_history.proofs.Passes.{are_bytes, Fits, fits, sound_stable, whole_of_fits}
use Rattle.fat_history.proofs.Means.{format_means, format_done_lem, test_means}
use Rattle.fat_history.proofs.Reaches.{end_some}
use Rattle.fat_retrace.specs.History.{Call, history, files_in, encoded}
use Rattle.fat_retrace.specs.Ends.{Ends}
use Rattle.fat_retrace.specs.Promise.{Retrace, RetracePromise, retrace_gives, retrace_rows, retrace_done}
use Rattle.fat_retrace.specs.Within.{node_count, most_calls, ReachedWithin}
use Rattle.fat_retrace.proofs.Goes.{Goes, tiled_goes}
use Rattle.fat_retrace.proofs.Found.{Read, read}
use Rattle.fat_retrace.proofs.Few.{Short, short}
use Rattle.fat_retrace.proofs.Nodes.{counted}
use Rattle.fat_retrace.proofs.Runs.{Ran, ran_none, ran_create, ran_delete, Held, Led, led, sure}

-- the history of a table takes the one free run to the table's layout
history_goes : (n : ℕ) (t : Bytes) → 1 ≤ n → (r : Read n t) → Goes (history n t) (layout (run 0 n ∷ []) []) (layout (free_at n t) (files_in n t (nodes n t)))
unfolding history
history_goes n t h r =
    tiled_goes n (free_at n t) (files_in n t (nodes n t)) (nodes n t) (end_some (nodes n t) n h r.cover) r.holds.tiled r.perm r.cover

module _ (t : Bytes) (g : AreBytes t) (F : Fits t) (s : Sound t (blocks t)) where
  abbrev n : ℕ
  n = blocks t

  abbrev M : Layout
  M = layout (free_at n t) (files_in n t (nodes n t))

  as_read : Read n t
  as_read = read n t (whole_of_fits t (are_bytes t g) F s)

  few : Short n t
  few = short n t (whole_of_fits t (are_bytes t g) F s)

  agrees : (u : Bytes) → Holds n u M → Agree n t u
  agrees u h = holds_agree n F.few t u M as_read.holds h

  -- a formatted table of the same length
  begins : (t₀ : Bytes) → AreBytes t₀ → length t₀ ≡ length t → Held n (formatted n t₀) (layout (run 0 n ∷ []) [])
  begins t₀ g₀ e = record { bytes = bytes_formatted n t₀ 0 0 (are_bytes t₀ g₀); holds = holds_format n F.few t₀ F.some (e ∙ F.room) }

  remade : (l : ℕ) → InUse l → (t₀ t₁ : Bytes) (f : Answer) → AreBytes t₀ → length t₀ ≡ length t → FormatPromise t₀ f t₁ → f ≡ Done
      → Ends (history n t) l t₁ (Agree n t)
  remade l z t₀ t₁ f g₀ e p d =
      let v = format_means t₀ t₁ f p d in
      let same : blocks t₀ ≡ n = ap (λ (x : ℕ). x / 8 - 1) e in
      let q : t₁ ≡ formatted n t₀ = v.1 ∙ ap (λ (x : ℕ). formatted x t₀) same in
      subst⁻¹ (λ (x : Bytes). Ends (history n t) l x (Agree n t)) q
      (sure n F.some F.few l z (Agree n t) (history_goes n t F.some as_read) agrees (formatted n t₀) (begins t₀ g₀ e))

  -- the run of the history
  reached : Led n (history n t) (formatted n t) M
  reached = led n F.some F.few (history_goes n t F.some as_read) (formatted n t) (begins t g refl)

-- a run goes on with calls that are not resize
run_on : {h : List Call} {t t' : Bytes} → Ran h t t' → (k : ℕ) (r : histories.History k t) → resizes_in r ≡ 0
    → (j : ℕ) × (j ≡ k + length h) × (r' : histories.History j t') × (resizes_in r' ≡ 0)
run_on ran_none k r e = (k, omega arith, r, e)
run_on (ran_create {t = t} d l work c o p q w) k r e =
    let z = run_on w (suc k) (creates k t r d l work c o p q) e in
    (z.0, omega (arith, z.1), z.2, z.3)
run_on (ran_delete {t = t} d l work b o p q w) k r e =
    let z = run_on w (suc k) (deletes k t r d l work b o p q) e in
    (z.0, omega (arith, z.1), z.2, z.3)

module _ (t : Bytes) (work : List ℕ) (o : Tested × List ℕ) (g : AreBytes t) (p : TestPromise t work o) (d : o.0.answer ≡ Done) where
  -- the number of nodes is how many of the blocks start a node, by the word of soundness
  pub nodes_counted : Counted (IsNode t (blocks t)) (blocks t) (node_count t)
  nodes_counted =
      let w = test_means t work o (are_bytes t g) p d in
      counted (blocks t) t (whole_of_fits t (are_bytes t g) w.0 w.1)

  -- within_half: an accepted table with k nodes is reached, in the entries that the rules read, from a formatted one by at most 5 x k / 2 calls after format,
  -- rounded down, create and delete alone, each answered Done
  pub within_half : ReachedWithin (most_calls (node_count t)) t
  within_half =
      let w = test_means t work o (are_bytes t g) p d in
      let n : ℕ = blocks t in
      let k = reached t g w.0 w.1 in
      let z = run_on k.runs_to 0 (formats t (formatted n t) Done g (format_done_lem t w.0) refl) refl in
      record {
        calls = z.0;
        end = k.end;
        run_to = z.2;
        few = omega (arith, z.1, (few t g w.0 w.1).half);
        plain = z.3;
        agrees = agrees t g w.0 w.1 k.end k.holds;
      }

  -- within: .. by at most 3 x k calls
  pub within : ReachedWithin (3 * node_count t) t
  within =
      let r = within_half in
      record { calls = r.calls; end = r.end; run_to = r.run_to; few = omega (arith, r.few); plain = r.plain; agrees = r.agrees }

-- what retrace answered Done says
retrace_means : (t : Bytes) (work list : List ℕ) (o : Beside Retrace) → AreBytes t → RetracePromise t work list o → o.given.answer ≡ Done
    → Fits t × Sound t (blocks t) × (o.given ≡ retrace_done (blocks t) t list)
retrace_means t work list o g (inl p) e = let z : ⊥ = omega (arith, ap number_of e, ap (λ (x : Beside Retrace). number_of x.given.answer) p.1) in absurd z
retrace_means t work list o g (inr (_, inl p)) e =
    let z : ⊥ = omega (arith, ap number_of e, ap (λ (x : Beside Retrace). number_of x.given.answer) p.1) in absurd z
retrace_means t work list o g (inr (_, inr (_, inl p))) e =
    let z : ⊥ = omega (arith, ap number_of e, ap (λ (x : Beside Retrace). number_of x.given.answer) p.1) in absurd z
retrace_means t work list o g (inr (_, inr (_, inr (_, inl p)))) e =
    let z : ⊥ = omega (arith, ap number_of e, ap (λ (x : Beside Retrace). number_of x.given.answer) p.1) in absurd z
retrace_means t work list o g (inr (_, inr (_, inr (_, inr (_, inl p))))) e =
    let z : ⊥ = omega (arith, ap number_of e, ap (λ (x : Beside Retrace). number_of x.given.answer) p.1) in absurd z
retrace_means t work list o g (inr (a, inr (b, inr (_, inr (c, inr (_, p)))))) e =
    let f : Fits t = fits t a b in
    (f, sound_stable t (are_bytes t g) f c, ap (λ (x : Beside Retrace). x.given) p)

-- retraced: what retrace, answered Done, has written is a history h of at most 5 calls for every 2 nodes; run from any formatted table of that length, with
-- any block length in use, every call of it is answered Done, and the table that it ends in is equal to the given one in every entry that the rules read
pub retraced : (t : Bytes) (work list : List ℕ) (o : Beside Retrace) → AreBytes t → RetracePromise t work list o → o.given.answer ≡ Done
    → (h : List Call)
    × (o.given.calls ≡ length h)
    × (o.given.list ≡ sets list 0 (encoded h))
    × (length h ≤ most_calls (node_count t))
    × ((l : ℕ)
    → InUse l
    → (t₀ t₁ : Bytes) (f : Answer)
    → AreBytes t₀
    → length t₀ ≡ length t
    → FormatPromise t₀ f t₁
    → f ≡ Done
    → Ends h l t₁ (Agree (blocks t) t))
retraced t work list o g p d =
    let w = retrace_means t work list o g p d in (
      history (blocks t) t,
      ap (λ (x : Retrace). x.calls) w.2,
      ap (λ (x : Retrace). x.list) w.2,
      omega (arith, (few t g w.0 w.1).half),
      remade t g w.0 w.1,
    )

-- one answer: retrace's promise and its input leave one outcome
pub one_retrace : (t : Bytes) (work list : List ℕ) (o o' : Beside Retrace) → RetracePromise t work list o → RetracePromise t work list o' → o ≡ o'
one_retrace t work list o o' p q =
    one (test_gate (λ a w. beside (retrace_gives a 0 list) w) t work ++ rows.within (cleared (blocks t) work) (retrace_rows (blocks t) list))
    (beside (retrace_done (blocks t) t list) (cleared (blocks t) work)) o o' p q
