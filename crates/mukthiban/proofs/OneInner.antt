-- One answer for every inner export, whatever its rows are: each promises rows in order over one of these outcomes, and x is all of it but the answer.
use mathlib.Core.Path.{refl}
use mathlib.Core.List.{List}
use Prim.Native.Nat.{ℕ}
use Rattle.order.specs.First.{Row, First}
use Rattle.order.specs.Answer.{Answer}
use Rattle.order.proofs.One.{one}
use Rattle.fat_node.specs.Entry.{Bytes}
use Rattle.fat_promises.specs.Calls as fat
use Rattle.tree_sound.specs.Tables.{Tables}
use Rattle.tree_packed.specs.Opens.{Opens}
use Rattle.tree_promises.specs.Calls as tree
use Rattle.tree_promises.specs.Inner.Opening.{OpeningIn, opening_in}
use Rattle.mukthiban.specs.Name.{Naming, named_gives}
use Rattle.mukthiban.proofs.One.{OneExport, one_export, OneLocated, one_located}

-- create
pub inner_create : (rs : List (Row fat.Create)) (d : fat.Create) → OneLocated {X = ℕ × Bytes} (λ a x. fat.create_gives a x.0 x.1) (First rs d)
inner_create rs d = one_located (λ (a : Answer) (x : ℕ × Bytes). fat.create_gives a x.0 x.1) (λ g. g.answer) (λ g. (g.first, g.table)) (First rs d) (λ a x. refl) (λ a x. refl) (one rs d)

-- resize and delete
pub inner_change : (rs : List (Row fat.Change)) (d : fat.Change) → OneLocated {X = Bytes} (λ a x. fat.change_gives a x) (First rs d)
inner_change rs d = one_located (λ (a : Answer) (x : Bytes). fat.change_gives a x) (λ g. g.answer) (λ g. g.table) (First rs d) (λ a x. refl) (λ a x. refl) (one rs d)

-- open list
pub inner_open_list : (rs : List (Row fat.Listing)) (d : fat.Listing) → OneLocated {X = ℕ × List ℕ} (λ a x. fat.list_gives a x.0 x.1) (First rs d)
inner_open_list rs d = one_located (λ (a : Answer) (x : ℕ × List ℕ). fat.list_gives a x.0 x.1) (λ g. g.answer) (λ g. (g.count, g.list)) (First rs d) (λ a x. refl) (λ a x. refl) (one rs d)

-- read and write
pub inner_carry : (rs : List (Row fat.Carry)) (d : fat.Carry) → OneLocated {X = Bytes} (λ a x. fat.carry_gives a x) (First rs d)
inner_carry rs d = one_located (λ (a : Answer) (x : Bytes). fat.carry_gives a x) (λ g. g.answer) (λ g. g.bytes) (First rs d) (λ a x. refl) (λ a x. refl) (one rs d)

-- lookup
pub inner_lookup : (rs : List (Row tree.Lookup)) (d : tree.Lookup) → OneExport {X = ℕ × ℕ} (λ a x. tree.lookup_gives a x.0 x.1) (First rs d)
inner_lookup rs d = one_export (λ (a : Answer) (x : ℕ × ℕ). tree.lookup_gives a x.0 x.1) (λ g. g.answer) (λ g. (g.inode, g.compared)) (First rs d) (λ a x. refl) (λ a x. refl) (one rs d)

-- listing
pub inner_list : (rs : List (Row tree.Listing)) (d : tree.Listing) → OneExport {X = ℕ × List ℕ} (λ a x. tree.list_gives a x.0 x.1) (First rs d)
inner_list rs d = one_export (λ (a : Answer) (x : ℕ × List ℕ). tree.list_gives a x.0 x.1) (λ g. g.answer) (λ g. (g.count, g.list)) (First rs d) (λ a x. refl) (λ a x. refl) (one rs d)

-- stat
pub inner_stat : (rs : List (Row tree.Stat)) (d : tree.Stat) → OneExport {X = (ℕ × ℕ) × (ℕ × ℕ)} (λ a x. tree.stat_gives a x.0.0 x.0.1 x.1.0 x.1.1) (First rs d)
inner_stat rs d = one_export (λ (a : Answer) (x : (ℕ × ℕ) × (ℕ × ℕ)). tree.stat_gives a x.0.0 x.0.1 x.1.0 x.1.1) (λ g. g.answer) (λ g. ((g.dir_total, g.dir_free), (g.file_total, g.file_free))) (First rs d) (λ a x. refl) (λ a x. refl) (one rs d)

-- carried bytes read
pub inner_carried : (rs : List (Row tree.Shown)) (d : tree.Shown) → OneExport {X = List ℕ} (λ a x. tree.shown_gives a x) (First rs d)
inner_carried rs d = one_export (λ (a : Answer) (x : List ℕ). tree.shown_gives a x) (λ g. g.answer) (λ g. g.bytes) (First rs d) (λ a x. refl) (λ a x. refl) (one rs d)

-- carried bytes set
pub inner_set_carried : (rs : List (Row tree.Carry)) (d : tree.Carry) → OneExport {X = Tables} (λ a x. tree.carry_gives a x) (First rs d)
inner_set_carried rs d = one_export (λ (a : Answer) (x : Tables). tree.carry_gives a x) (λ g. g.answer) (λ g. g.tables) (First rs d) (λ a x. refl) (λ a x. refl) (one rs d)

-- open and close of one table by itself; make, rename and delete are in OneOpens.antt
pub inner_opens : (rs : List (Row OpeningIn)) (d : OpeningIn) → OneExport {X = Opens} (λ a x. opening_in a x) (First rs d)
inner_opens rs d = one_export (λ (a : Answer) (x : Opens). opening_in a x) (λ g. g.answer) (λ g. g.opens) (First rs d) (λ a x. refl) (λ a x. refl) (one rs d)

-- name
pub inner_name : (rs : List (Row Naming)) (d : Naming) → OneExport {X = ℕ} (λ a x. named_gives a x) (First rs d)
inner_name rs d = one_export (λ (a : Answer) (x : ℕ). named_gives a x) (λ g. g.answer) (λ g. g.offset) (First rs d) (λ a x. refl) (λ a x. refl) (one rs d)
