-- A file that no call names stays until a format is answered Done, which leaves no file.
use mathlib.Core.Path.{◌≡◌, ap, subst}
use mathlib.Core.List.{[], ◌∷◌}
use mathlib.Core.Logic.{◌⊎◌, inl, inr, ⊎_elim}
use Prim.Native.Nat.{ℕ}
use native.Mathlib.Omega.{arith}
use Rattle.order.specs.Answer.{Done}
use Rattle.words.specs.Word.{AreBytes}
use Rattle.fat_node.specs.Entry.{Bytes}
use Rattle.fat_node.specs.Node.{run}
use Rattle.fat_node.specs.Sizes.{blocks, Misfit, Outside}
use Rattle.fat_node.specs.Format.{formatted, FormatPromise}
use Rattle.order.specs.Answer.{Answer}
use Rattle.fat_table.specs.Sound.{Sound, File}
use Rattle.fat_table.specs.Layout.{layout}
use Rattle.fat_table.specs.Holds.{Holds}
use Rattle.fat_table.proofs.Layouts.{length_perm}
use Rattle.fat_table.proofs.Stepped.{holds_format}
use Rattle.fat_table.proofs.Files.{file_of}
use Rattle.fat_history.specs.Away.{Away, none, creates, resizes, deletes, writes}
use Rattle.fat_history.specs.Formats.{Calls, away, formats, Stays, Ended}
use Rattle.fat_history.proofs.Passes.{Fits}
use Rattle.fat_history.proofs.Means.{format_means}
use Rattle.fat_history.proofs.Honest.{blocks_of_lem}
use Rattle.fat_history.proofs.Theorems.{apart}

-- a format that is answered Done leaves no file
pub format_empty : (t t' : Bytes) (r : Answer) → FormatPromise t r t' → r ≡ Done → (c : ℕ) → File t' (blocks t') c → ⊥
format_empty t t' r p e c i =
    let w = format_means t t' r p e in
    let f : Fits t = w.0 in
    let n : ℕ = blocks t in
    let h : Holds n (formatted n t) (layout (run 0 n ∷ []) []) = holds_format n f.few t f.some f.room in
    let j : File (formatted n t) (blocks (formatted n t)) c = subst (λ (x : Bytes). File x (blocks x) c) w.1 i in
    let k : File (formatted n t) n c = subst (λ (m : ℕ). File (formatted n t) m c) (blocks_of_lem n (formatted n t) h.room) j in
    let o = file_of n f.few (formatted n t) (layout (run 0 n ∷ []) []) c h k in
    omega (arith, length_perm o.2)

-- a format that is not answered Done changes nothing
pub format_cases : (t t' : Bytes) (r : Answer) → FormatPromise t r t' → (t' ≡ t) ⊎ (r ≡ Done)
format_cases t t' r (inl q) = inl (ap (λ (x : Answer × Bytes). x.1) q.1)
format_cases t t' r (inr (_, inl q)) = inl (ap (λ (x : Answer × Bytes). x.1) q.1)
format_cases t t' r (inr (_, inr (_, q))) = inr (ap (λ (x : Answer × Bytes). x.0) q)

-- calls after calls
together : (l b : ℕ) (t d t₁ d₁ : Bytes) → Away l b t d t₁ d₁ → {t' d' : Bytes} → Away l b t₁ d₁ t' d' → Away l b t d t' d'
together l b t d t₁ d₁ a none = a
together l b t d t₁ d₁ a (creates t₂ d₂ v work count o p) = creates t₂ d₂ (together l b t d t₁ d₁ a v) work count o p
together l b t d t₁ d₁ a (resizes t₂ d₂ v work c count o ne p) = resizes t₂ d₂ (together l b t d t₁ d₁ a v) work c count o ne p
together l b t d t₁ d₁ a (deletes t₂ d₂ v work c o ne p) = deletes t₂ d₂ (together l b t d t₁ d₁ a v) work c o ne p
together l b t d t₁ d₁ a (writes t₂ d₂ v work c pos buf o ne p) = writes t₂ d₂ (together l b t d t₁ d₁ a v) work c pos buf o ne p

module _ (l b : ℕ) (t d : Bytes) (g : AreBytes t) (m : Misfit t → ⊥) (u : Outside t → ⊥) (s : Sound t (blocks t)) (i : File t (blocks t) b) where
  stays : (t' d' : Bytes) → Away l b t d t' d' → Stays l b t d t' d'
  stays t' d' a = let w = apart l b t d t' d' g m u s i a in record { file = w.0; chain = w.1; bytes = w.2 }

  -- until the first format that is answered Done the calls are as in Away
  first_done : (t' d' : Bytes) → Calls l b t d t' d' → Away l b t d t' d' ⊎ Ended l b t d
  first_done t' d' (away _ _ a) = inl a
  first_done t' d' (formats t₁ d₁ t₂ _ _ r c p a) = ⊎_elim go (λ e. inr e) (first_done t₁ d₁ c)
    where
      go : Away l b t d t₁ d₁ → Away l b t d t' d' ⊎ Ended l b t d
      go v =
          ⊎_elim
          (λ e. inl (together l b t d t₁ d₁ v (subst (λ (x : Bytes). Away l b x d₁ t' d') e a)))
          (λ e.
          inr
          (record {
            table = t₁;
            bytes = d₁;
            before = v;
            stays = stays t₁ d₁ v;
            formatted = t₂;
            answer = r;
            format = p;
            done = e;
            empty = format_empty t₁ t₂ r p e;
          }))
          (format_cases t₁ t₂ r p)

  -- apart, over any calls: at their end the file stays, or a format was answered Done, until the first of which it stays, and which leaves no file
  pub apart_until : (t' d' : Bytes) → Calls l b t d t' d' → Stays l b t d t' d' ⊎ Ended l b t d
  apart_until t' d' c = ⊎_elim (λ a. inl (stays t' d' a)) (λ e. inr e) (first_done t' d' c)
