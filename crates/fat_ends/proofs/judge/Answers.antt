-- `fat_ends::judge` meets its contract.
use Rattle.std.proofs.Common.{◌≡◌, sym, ◌∙◌, ℕ, length, arith}
use mathlib.Core.Path.{subst, subst⁻¹}
use Rattle.fat_node.proofs.Cases.{untrue}
use Rattle.fat_table.specs.Sound.{Counted, File, IsNode}
use Rattle.fat_ends.proofs.Counts.{counted, headless}
use Rattle.fat_ends.proofs.Ends.{links_ready, head_is, head_fits, tile_covered, free_ready, all_good, sound_long, backs_long}
use Rattle.fat_ends.proofs.judge.Goals as goal
use Rattle.fat_ends.proofs.judge.Goals.{
  then-headless-via-then-headless,
  then-headless-via-else-headless+then-not-head_fits,
  then-headless-via-else-headless+else-not-head_fits+then-not-links,
}

pub links-requires : goal.links-requires
links-requires c =
    let l : length c.tile.new.work ≡ length c.args.work.now = c.tile.auto.work in
    let q = c.in_ok-tiles.ensures in
    record { table_len = omega arith; work_len_bound = omega arith; covered = links_ready l q.0; backs = backs_long l q.1 }

pub returns-then-headless : goal.returns-then-headless
returns-then-headless c = (
  λ s.
      let l : length c.tile.new.work ≡ length c.args.work.now = c.tile.auto.work in
      let q = c.in_ok-tiles.ensures in
      let hd = c.in_ok-h.ensures in
      elim c.then-headless.branch [
        | then-headless-via-then-headless w ↦
            headless c.requires.work_nonzero.0 q.2 hd.1 (c.headless.ensures w.if-headless.true) s
        | then-headless-via-else-headless+then-not-head_fits w ↦
            untrue (sym w.if-not-head_fits.true ∙ w.head_fits.ensures.1 (head_fits l q.0 hd.1 s))
        | then-headless-via-else-headless+else-not-head_fits+then-not-links w ↦
            untrue (sym w.if-not-links.true ∙ w.links.ensures.1 (sound_long l s))
      ],
  tt,
)

pub free_of-requires : goal.free_of-requires
free_of-requires c =
    let l : length c.tile.new.work ≡ length c.args.work.now = c.tile.auto.work in
    let f = free_ready l (c.links.ensures.0 c.if-not-links.false) (head_is l c.in_ok-tiles.ensures.0 (c.head_fits.ensures.0 c.if-not-head_fits.false)) in
    let e = f.0 in
    record { table_len = omega arith; work_len_bound = omega arith; by_index = f.1.0; by_index_2 = f.1.1 }

pub returns : goal.returns
returns c =
    let l : length c.tile.new.work ≡ length c.args.work.now = c.tile.auto.work in
    let q = c.in_ok-tiles.ensures in
    let hd = c.in_ok-h.ensures in
    let linked = c.links.ensures.0 c.if-not-links.false in (
      counted (all_good l
          (linked, subst⁻¹ (λ (y : ℕ). Counted (File c.args.table.now y) y c.in_ok-tiles.tiles.files) l q.2)
          hd.0 (tile_covered q.0) hd.1 (head_is l q.0 (c.head_fits.ensures.0 c.if-not-head_fits.false)) c.free_of.ensures),
      λ x m. subst (λ (y : ℕ). IsNode c.args.table.now y x) l (linked.1.0.node x m),
    )
