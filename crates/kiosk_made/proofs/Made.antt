-- A make of a file leaves tables that have a record for it and are else as they were.
use mathlib.Core.Path.{◌≡◌, refl, sym, ap, subst, ◌∙◌}
use mathlib.Core.List.{List, [], ◌∷◌, ◌++◌}
use mathlib.Core.Bool.{Bool, true, false}
use mathlib.Core.Logic.{◌≢◌, ◌⊎◌, inl, inr, ⊎_elim}
use Prim.Native.Nat.{ℕ, ◌+◌, ◌*◌, ◌/◌, ◌≤◌, ◌<◌}
use native.Mathlib.Omega.{arith}
use lib.Dec.{eqb}
use lib.ListN.{length, get_or}
use borrow.Author.Tests.{eq-eqb}
use Rattle.words.specs.Word.{word, AreBytes}
use Rattle.words.proofs.Laws.{Bytes, word_lt}
use Rattle.links.specs.Change.{pick}
use Rattle.order.specs.Beside.{Beside}
use Rattle.order.specs.Answer.{Done}
use Rattle.fat_node.specs.Sizes.{blocks}
use Rattle.fat_promises.specs.Calls.{Create}
use Rattle.tree_key.specs.Key.{name_key}
use Rattle.tree_table.specs.Field.{field, Write, write, wrote}
use Rattle.tree_table.specs.View.{View, LiveIn, removed_of}
use Rattle.tree_table.specs.Steps.{taken, take_writes}
use Rattle.tree_table.proofs.Field.{Fit, field_wrote, length_wrote}
use Rattle.tree_table.proofs.Table.{took_live}
use Rattle.tree_sound.specs.Tables.{Tables, dirs, files, SoundIn}
use Rattle.tree_sound.proofs.Tree.{Tree}
use Rattle.tree_sound.proofs.Equal.{tree_of}
use Rattle.tree_promises.specs.declared.Kind.TheVariants.{File}
use Rattle.tree_promises.specs.Steps.{made, taken_from, linked_to, entered, carry_writes}
use Rattle.tree_kept.proofs.Kept.{kept_make_file}
use Rattle.tree_kept.proofs.Keys.{made_file_told, made_file_same}
use Rattle.tree_history.specs.Whole.{Whole}
use Rattle.tree_history.specs.May.{MayMake}
use Rattle.tree_history.proofs.Sizes.{are_bytes, fine}
use Rattle.tree_history.proofs.Steps.{after_made}
use Rattle.tree_history.proofs.Lives.{live_make, live_new}
use Rattle.audit_inner.specs.Volume.{record_block, record_size}
use Rattle.kiosk_create.specs.Create.{KioskPromise}
use Rattle.kiosk_inner.specs.Profile.{most_files, live_files, simple, name_of}
use Rattle.kiosk.specs.Reader.{InProfile, Recorded}
use Rattle.kiosk.proofs.Again.{again}
use Rattle.kiosk_made.proofs.Bytes as stays
use Rattle.kiosk_made.proofs.Named.{name_is}

module _ (s : Tables) (w : Whole s) (p : ℕ) (name bytes : List ℕ) (bn : AreBytes name) (bb : AreBytes bytes) (m : MayMake File s p name) where
  abbrev x : ℕ
  x = taken (files s)

  abbrev s' : Tables
  s' = made File s p name bytes

  abbrev f : List ℕ
  f = s.file_table

  abbrev f₁ : List ℕ
  f₁ = (taken_from File s).file_table

  abbrev f₂ : List ℕ
  f₂ = (linked_to File (taken_from File s) x p name).file_table

  -- how large the files' table is
  long_one : length f₁ ≡ length f
  long_one = length_wrote 48 (take_writes (eqb ((files s).coll 0) 0) (field 48 f)) f

  long_two : length f₂ ≡ length f
  long_two = length_wrote 48 (entered (files (taken_from File s)) x p name) f₁ ∙ long_one

  long : length s'.file_table ≡ length f
  long = length_wrote 48 (carry_writes File x bytes) f₂ ∙ long_two

  sound_after : SoundIn s'
  sound_after = kept_make_file s (fine s w) w.sound p name bytes (are_bytes name bn) (are_bytes bytes bb) m.parent m.new_key m.space

  new_in : LiveIn (files s') x
  new_in = live_new s w p name bytes bn bb File m

  inside : x * 48 + 48 ≤ length f₂
  inside =
      let t = sound_after.files.table in
      let a : length s'.file_table / 48 ≡ length f₂ / 48 = ap (λ (k : ℕ). k / 48) (long ∙ sym long_two) in
      omega (arith, new_in.1, t.count_max, t.max_room, a)

  -- the record of the new file
  fit : Fit 48 (length f₂) (carry_writes File x bytes)
  fit =
      let b = are_bytes bytes bb in
      ((inside, omega arith, word_lt bytes b 0), ((inside, omega arith, word_lt bytes b 4), ((inside, omega arith, word_lt bytes b 8), ((inside, omega arith, word_lt bytes b 12), ((inside, omega arith, word_lt bytes b 16), tt)))))

  new_block : record_block s'.file_table x ≡ word bytes 4
  unfolding record_block
  new_block =
      field_wrote 48 (carry_writes File x bytes) f₂ (field 48 f₂) fit (λ y g h. refl) x 8 (omega arith)
      ∙ ap (λ (t : Bool). pick t (word bytes 4) (field 48 f₂ x 8)) (eq-eqb x x refl)

  new_size : record_size s'.file_table x ≡ word bytes 8 + 4294967296 * word bytes 12
  unfolding record_size
  new_size =
      let a : field 48 s'.file_table x 9 ≡ word bytes 8 =
      field_wrote 48 (carry_writes File x bytes) f₂ (field 48 f₂) fit (λ y g h. refl) x 9 (omega arith)
      ∙ ap (λ (t : Bool). pick t (word bytes 8) (field 48 f₂ x 9)) (eq-eqb x x refl) in
      let b : field 48 s'.file_table x 10 ≡ word bytes 12 =
      field_wrote 48 (carry_writes File x bytes) f₂ (field 48 f₂) fit (λ y g h. refl) x 10 (omega arith)
      ∙ ap (λ (t : Bool). pick t (word bytes 12) (field 48 f₂ x 10)) (eq-eqb x x refl) in
      λ i. a i + 4294967296 * b i

  -- the entries of the others
  T : Tree (dirs s) (files s) (removed_of (dirs s)) (removed_of (files s))
  T = tree_of (dirs s) (files s) refl refl w.sound

  not_new : LiveIn (files s) x → ⊥
  not_new = (took_live (files s) _ (removed_of (files s)) T.files).1

  module _ (z : ℕ) (l : LiveIn (files s) z) where
    other : x ≢ z
    other e = not_new (subst (LiveIn (files s)) (sym e) l)

    not_zero : 0 ≢ z
    not_zero e = omega (arith, l.0, e)

    take_beside : (b : Bool) → stays.Beside 48 z (take_writes b (field 48 f))
    take_beside true = ((not_zero, omega arith), tt)
    take_beside false = ((not_zero, omega arith), tt)

    byte_same : (j : ℕ) → j < 48 → get_or s'.file_table (z * 48 + j) 0 ≡ get_or f (z * 48 + j) 0
    byte_same j h =
        stays.byte_stays 48 (carry_writes File x bytes) f₂ z
        ((other, omega arith), ((other, omega arith), ((other, omega arith), ((other, omega arith), ((other, omega arith), tt))))) j h
        ∙ stays.byte_stays 48 (entered (files (taken_from File s)) x p name) f₁ z
        ((other, omega arith), ((other, omega arith), ((other, omega arith), ((other, omega arith), ((other, omega arith), ((other, omega arith), ((other, omega arith), tt))))))) j h
        ∙ stays.byte_stays 48 (take_writes (eqb ((files s).coll 0) 0) (field 48 f)) f z (take_beside (eqb ((files s).coll 0) 0)) j h

    old_inside : z * 48 + 48 ≤ length f
    old_inside = let t = w.sound.files.table in omega (arith, l.1, t.count_max, t.max_room)

  -- recorded: the tables after make have the record, and are else as they were
  pub recorded : Recorded s s' x (word bytes 4) (word bytes 8 + 4294967296 * word bytes 12)
  recorded = record {
    live = new_in;
    block = new_block;
    bytes = new_size;
    only = λ z l.
        ⊎_elim (λ h. inr h.0) (λ h. inl h.0)
        (made_file_told s (fine s w) w.sound p name bytes (are_bytes name bn) (are_bytes bytes bb) m.parent m.new_key m.space z l);
    stays = λ z l. live_make s w p name bytes bn bb File m File z l;
    fresh = not_new;
    blocks = λ z l. stays.block_same f s'.file_table z long (old_inside z l) (byte_same z l);
    sizes = λ z l. stays.size_same f s'.file_table z long (old_inside z l) (byte_same z l);
    names = λ z l. stays.name_same f s'.file_table z long (old_inside z l) (byte_same z l);
    dirs = λ z l. (made_file_same s (fine s w) w.sound p name bytes (are_bytes name bn) (are_bytes bytes bb) m.parent m.new_key m.space z l).0;
  }

  -- named: the name that stands in the new entry is the one that make was given
  new_key : (files s').key x ≡ name_key p name
  new_key =
      ⊎_elim (λ h. h.1) (λ h. absurd (not_new h.0))
      (made_file_told s (fine s w) w.sound p name bytes (are_bytes name bn) (are_bytes bytes bb) m.parent m.new_key m.space x new_in)

  pub named : length name ≡ 16 → name_of s'.file_table x ≡ name
  unfolding field
  named sixteen =
      name_is s'.file_table name x ((after_made File s p name bytes).lent w.lent).file_table bn (omega (arith, inside, long, long_two)) sixteen
      (ap (λ (k : List ℕ). get_or k 1 0) new_key)
      (ap (λ (k : List ℕ). get_or k 2 0) new_key)
      (ap (λ (k : List ℕ). get_or k 3 0) new_key)
      (ap (λ (k : List ℕ). get_or k 4 0) new_key)

  -- again_made: a volume in the profile that gets a kiosk create answered Done, and then a make whose carried bytes name the answered block and a size
  -- above 0 that its blocks hold, is in the profile again, if the name is one of the profile and there are at most 64 live files
  pub again_made : (t : List ℕ) (d l : ℕ) (work : List ℕ) (count : ℕ) (o : Beside Create) → AreBytes t → KioskPromise t d l work count o → o.given.answer ≡ Done
      → word bytes 4 ≡ o.given.first
      → 1 ≤ word bytes 8 + 4294967296 * word bytes 12
      → word bytes 8 + 4294967296 * word bytes 12 ≤ count * l
      → length name ≡ 16
      → simple name ≡ true
      → live_files s'.file_table ≤ most_files
      → InProfile (blocks t) t l s
      → InProfile (blocks t) o.given.table l s'
  again_made t d l work count o g q e b some fits sixteen simple-name few v =
      again t d l work count o g q e s s' x (word bytes 8 + 4294967296 * word bytes 12)
      (subst (λ (k : ℕ). Recorded s s' x k (word bytes 8 + 4294967296 * word bytes 12)) b recorded) v some fits (ap simple (named sixteen) ∙ simple-name) few
