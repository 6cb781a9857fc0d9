-- The steps are writes, of directories and files alike.
use mathlib.Core.List.{List, [], ◌∷◌, ◌++◌}
use Prim.Native.Nat.{ℕ}
use lib.Dec.{eqb}
use Rattle.tree_key.specs.Key.{name_key}
use Rattle.tree_table.specs.Field.{field, Write, write, collision_field, sub_dir_field, sub_file_field}
use Rattle.tree_table.specs.View.{View, place, parent}
use Rattle.tree_table.specs.Steps.{taken, take_writes, bucket_before, child_before, head_writes, give_writes}
use Rattle.tree_sound.specs.Tables.{Tables}
use Rattle.tree_promises.specs.declared.Kind.{Kind}
use Rattle.tree_promises.specs.declared.Kind.TheVariants.{Directory, File}
use Rattle.tree_promises.specs.Kinds.{width, head_field, kind_table, kind_view, wrote_entries, wrote_lists}
use Rattle.tree_promises.specs.Steps.{taken_from, entered, linked_to, cut, unlinked_from, given_up, carry_writes, with_carried, childless, made, deleted, renamed}
use Rattle.tree_history.proofs.Sizes.{After, after_wrote, after_then}

after_entries : (kind : Kind) (s : Tables) (entries : List Write) → After s (wrote_entries kind s entries)
after_entries Directory s entries = after_wrote s [] entries [] []
after_entries File s entries = after_wrote s [] [] [] entries

after_lists : (kind : Kind) (s : Tables) (hash entries heads : List Write) → After s (wrote_lists kind s hash entries heads)
after_lists Directory s hash entries heads = after_wrote s hash (entries ++ heads) [] []
after_lists File s hash entries heads = after_wrote s [] heads hash entries

after_childless : (kind : Kind) (s : Tables) (x : ℕ) → After s (childless kind s x)
after_childless Directory s x = after_entries Directory s (write x sub_dir_field 0 ∷ write x sub_file_field 0 ∷ [])
after_childless File s x = after_wrote s [] [] [] []

module _ (kind : Kind) (s : Tables) where
  abbrev v : View
  v = kind_view kind s

  pub after_carried : (x : ℕ) (bytes : List ℕ) → After s (with_carried kind s x bytes)
  after_carried x bytes = after_entries kind s (carry_writes kind x bytes)

  after_linked : (x p : ℕ) (name : List ℕ) → After s (linked_to kind s x p name)
  after_linked x p name =
      after_lists kind s (write (place v (name_key p name)) collision_field x ∷ []) (entered v x p name) (write p (head_field kind) x ∷ [])

  after_unlinked : (x : ℕ) → After s (unlinked_from kind s x)
  after_unlinked x =
      after_lists kind s (head_writes (eqb (bucket_before v x) 0) (place v (v.key x)) collision_field (v.coll x)) (cut v x)
      (head_writes (eqb (child_before v x) 0) (parent (v.key x)) (head_field kind) (v.next x))

module _ (kind : Kind) (s : Tables) where
  pub after_made : (p : ℕ) (name bytes : List ℕ) → After s (made kind s p name bytes)
  after_made p name bytes =
      let x : ℕ = taken (kind_view kind s) in
      let t : Tables = taken_from kind s in
      let u : Tables = childless kind t x in
      let v : Tables = linked_to kind u x p name in
      after_then s t (with_carried kind v x bytes)
      (after_entries kind s (take_writes (eqb ((kind_view kind s).coll 0) 0) (field (width kind) (kind_table kind s))))
      (after_then t u (with_carried kind v x bytes) (after_childless kind t x)
      (after_then u v (with_carried kind v x bytes) (after_linked kind u x p name) (after_carried kind v x bytes)))

  pub after_deleted : (x : ℕ) → After s (deleted kind s x)
  after_deleted x =
      let t : Tables = unlinked_from kind s x in
      after_then s t (given_up kind t x) (after_unlinked kind s x) (after_entries kind t (give_writes (width kind) (field (width kind) (kind_table kind t)) x))

  pub after_renamed : (x p : ℕ) (name : List ℕ) → After s (renamed kind s x p name)
  after_renamed x p name =
      let t : Tables = unlinked_from kind s x in after_then s t (linked_to kind t x p name) (after_unlinked kind s x) (after_linked kind t x p name)
