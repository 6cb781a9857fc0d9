-- Names that are legal stay so: what the steps leave, and what a new name is once it stands in a key.
use mathlib.Core.Path.{◌≡◌, refl, sym, ap, ◌∙◌}
use mathlib.Core.List.{List, [], ◌∷◌, ◌++◌}
use mathlib.Core.Bool.{Bool, true, false}
use mathlib.Core.Logic.{◌⊎◌, ⊎_elim}
use Prim.Native.Nat.{ℕ, ◌+◌, ◌*◌, ◌/◌, ◌%◌, ◌<◌}
use native.Mathlib.Omega.{arith}
use lib.ListN.{get_or}
use Rattle.words.specs.Word.{AreBytes, word}
use Rattle.tree_key.specs.Key.{name_key}
use Rattle.tree_table.specs.View.{View, LiveIn}
use Rattle.tree_table.specs.Steps.{taken}
use Rattle.tree_sound.specs.Tables.{Tables, dirs, files}
use Rattle.tree_promises.specs.declared.Kind.{Kind}
use Rattle.tree_promises.specs.declared.Kind.TheVariants.{Directory, File}
use Rattle.tree_promises.specs.Kinds.{kind_view}
use Rattle.tree_promises.specs.Legal.{padded, legal}
use Rattle.tree_promises.specs.Steps.{made, deleted, renamed, with_carried}
use Rattle.tree_kept.proofs.Keys.{
  ToldIn,
  SameIn,
  made_dir_told,
  made_file_told,
  made_file_same,
  renamed_dir_told,
  renamed_file_told,
  renamed_file_same,
  deleted_dir_same,
  deleted_file_same,
  deleted_file_dirs,
  carried_dir_same,
  carried_file_same,
}
use Rattle.tree_history.specs.Whole.{Whole}
use Rattle.tree_history.specs.May.{MayMake, MayRename, MayDelete}
use Rattle.tree_history.specs.Names.{bytes_of, name_in, LegalIn, AllLegal}
use Rattle.tree_history.proofs.Sizes.{are_bytes, fine}

-- ---- a name in a key

abbrev four : List ℕ → ℕ → List ℕ
four s a = get_or s a 0 ∷ get_or s (a + 1) 0 ∷ get_or s (a + 2) 0 ∷ get_or s (a + 3) 0 ∷ []

-- the bytes of a word are those that it was read from
four_bytes : (s : List ℕ) (a : ℕ) → AreBytes s → bytes_of (word s a) ≡ four s a
unfolding word
four_bytes s a B = bytes4 (get_or s a 0) (get_or s (a + 1) 0) (get_or s (a + 2) 0) (get_or s (a + 3) 0) (B a) (B (a + 1)) (B (a + 2)) (B (a + 3))
  where
    bytes4 : (b0 b1 b2 b3 : ℕ) → b0 < 256 → b1 < 256 → b2 < 256 → b3 < 256
        → bytes_of (b0 + b1 * 256 + b2 * 65536 + b3 * 16777216) ≡ b0 ∷ b1 ∷ b2 ∷ b3 ∷ []
    bytes4 b0 b1 b2 b3 h0 h1 h2 h3 =
        let w : ℕ = b0 + b1 * 256 + b2 * 65536 + b3 * 16777216 in
        let q1 : w / 256 ≡ b1 + b2 * 256 + b3 * 65536 = omega arith in
        let q2 : w / 65536 ≡ b2 + b3 * 256 = omega arith in
        let q3 : w / 16777216 ≡ b3 = omega arith in
        let e0 : w % 256 ≡ b0 = omega arith in
        let e1 : (b1 + b2 * 256 + b3 * 65536) % 256 ≡ b1 = omega arith in
        let e2 : (b2 + b3 * 256) % 256 ≡ b2 = omega arith in
        let e3 : b3 % 256 ≡ b3 = omega arith in
        λ i. e0 i ∷ (ap (λ z. z % 256) q1 ∙ e1) i ∷ (ap (λ z. z % 256) q2 ∙ e2) i ∷ (ap (λ z. z % 256) q3 ∙ e3) i ∷ []

abbrev sixteen : List ℕ → List ℕ
sixteen name = four name 0 ++ (four name 4 ++ (four name 8 ++ four name 12))

name_is : (p : ℕ) (name : List ℕ) → AreBytes name → name_in (name_key p name) ≡ sixteen name
name_is p name B = λ i. four_bytes name 0 B i ++ (four_bytes name 4 B i ++ (four_bytes name 8 B i ++ four_bytes name 12 B i))

legal_sixteen : (name : List ℕ) → legal (sixteen name) ≡ legal name
unfolding legal padded
legal_sixteen name = refl

-- a new name that is legal is so in its entry
pub legal_key : (p : ℕ) (name : List ℕ) → AreBytes name → legal name ≡ true → legal (name_in (name_key p name)) ≡ true
legal_key p name B e = ap legal (name_is p name B) ∙ legal_sixteen name ∙ e

pub legal_sure : (name : List ℕ) → (legal name ≡ false → ⊥) → legal name ≡ true
legal_sure name n = go (legal name) refl
  where
    go : (t : Bool) → legal name ≡ t → legal name ≡ true
    go true e = e
    go false e = absurd (n e)

-- ---- the steps

module _ (v v' : View) (r : v'.root ≡ v.root) (L : LegalIn v) where
  legal_same : SameIn v v' → LegalIn v'
  legal_same S y l n = let h = S y l in ap (λ k. legal (name_in k)) h.1 ∙ L y h.0 (λ e. n (e ∙ sym r))

  legal_told : (x : ℕ) (k : List ℕ) → ToldIn v v' x k → legal (name_in k) ≡ true → LegalIn v'
  legal_told x k T e y l n =
      ⊎_elim
      (λ (h : (y ≡ x) × (v'.key y ≡ k)). ap (λ k. legal (name_in k)) h.1 ∙ e)
      (λ (h : LiveIn v y × (v'.key y ≡ v.key y)). ap (λ k. legal (name_in k)) h.1 ∙ L y h.0 (λ e. n (e ∙ sym r)))
      (T y l)

module _ (s : Tables) (w : Whole s) (A : AllLegal s) where
  pub legal_make : (kind : Kind) (p : ℕ) (name bytes : List ℕ) → AreBytes name → AreBytes bytes → MayMake kind s p name → AllLegal (made kind s p name bytes)
  legal_make Directory p name bytes bn bb m = record {
    of_dirs =
        legal_told (dirs s) (dirs (made Directory s p name bytes)) refl A.of_dirs (taken (dirs s)) (name_key p name)
        (made_dir_told s (fine s w) w.sound p name bytes (are_bytes name bn) (are_bytes bytes bb) m.parent m.new_key m.space)
        (legal_key p name bn (legal_sure name m.legal_name));
    of_files = A.of_files;
  }
  legal_make File p name bytes bn bb m = record {
    of_dirs =
        legal_same (dirs s) (dirs (made File s p name bytes)) refl A.of_dirs
        (made_file_same s (fine s w) w.sound p name bytes (are_bytes name bn) (are_bytes bytes bb) m.parent m.new_key m.space);
    of_files =
        legal_told (files s) (files (made File s p name bytes)) refl A.of_files (taken (files s)) (name_key p name)
        (made_file_told s (fine s w) w.sound p name bytes (are_bytes name bn) (are_bytes bytes bb) m.parent m.new_key m.space)
        (legal_key p name bn (legal_sure name m.legal_name));
  }

  pub legal_rename : (kind : Kind) (x p : ℕ) (name : List ℕ) → AreBytes name → MayRename kind s x p name → legal name ≡ true → AllLegal (renamed kind s x p name)
  legal_rename Directory x p name bn m e = record {
    of_dirs =
        legal_told (dirs s) (dirs (renamed Directory s x p name)) refl A.of_dirs x (name_key p name)
        (renamed_dir_told s (fine s w) w.sound x p name (are_bytes name bn) m.parent m.subject (m.not_root refl) (m.not_into_itself refl) m.free_key)
        (legal_key p name bn e);
    of_files = A.of_files;
  }
  legal_rename File x p name bn m e = record {
    of_dirs =
        legal_same (dirs s) (dirs (renamed File s x p name)) refl A.of_dirs
        (renamed_file_same s (fine s w) w.sound x p name (are_bytes name bn) m.parent m.subject m.free_key);
    of_files =
        legal_told (files s) (files (renamed File s x p name)) refl A.of_files x (name_key p name)
        (renamed_file_told s (fine s w) w.sound x p name (are_bytes name bn) m.parent m.subject m.free_key) (legal_key p name bn e);
  }

  pub legal_delete : (kind : Kind) (opens : List ℕ) (x : ℕ) → MayDelete kind s opens x → AllLegal (deleted kind s x)
  legal_delete Directory opens x m = record {
    of_dirs = legal_same (dirs s) (dirs (deleted Directory s x)) refl A.of_dirs (deleted_dir_same s (fine s w) w.sound x m.subject (m.not_root refl));
    of_files = A.of_files;
  }
  legal_delete File opens x m = record {
    of_dirs = legal_same (dirs s) (dirs (deleted File s x)) refl A.of_dirs (deleted_file_dirs s (fine s w) w.sound x m.subject);
    of_files = legal_same (files s) (files (deleted File s x)) refl A.of_files (deleted_file_same s (fine s w) w.sound x m.subject);
  }

  pub legal_carry : (kind : Kind) (x : ℕ) (bytes : List ℕ) → AreBytes bytes → LiveIn (kind_view kind s) x → AllLegal (with_carried kind s x bytes)
  legal_carry Directory x bytes bb l = record {
    of_dirs = legal_same (dirs s) (dirs (with_carried Directory s x bytes)) refl A.of_dirs (carried_dir_same s (fine s w) w.sound x bytes (are_bytes bytes bb) l);
    of_files = A.of_files;
  }
  legal_carry File x bytes bb l = record {
    of_dirs = A.of_dirs;
    of_files = legal_same (files s) (files (with_carried File s x bytes)) refl A.of_files (carried_file_same s (fine s w) w.sound x bytes (are_bytes bytes bb) l);
  }
