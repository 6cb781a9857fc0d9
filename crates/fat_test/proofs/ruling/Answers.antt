-- `fat_test::ruling` meets its contract.
use Rattle.std.proofs.Common.{◌≡◌, sym, ap, ◌∙◌, ℕ, length, replicate, arith}
use Rattle.order.specs.declared.Refusal.TheVariants.{BrokenFat}
use Rattle.fat_fault.specs.Fault.{fault_of}
use mathlib.Core.Path.{subst⁻¹}
use Rattle.fat_table.specs.Sound.{Sound}
use Rattle.fat_fault.proofs.Exact.{finds_err}
use Rattle.fat_test.proofs.Cases.{finds_is}
use Rattle.fat_test.proofs.ruling.Goals as goal

pub locate-requires : goal.locate-requires
locate-requires c =
    let l : length c.run.new.work ≡ length c.args.work.now = c.run.auto.work in
    record { table_len = omega arith; work_len_bound = omega arith; work_value = c.in_default.ensures.1 ∙ ap (λ (m : ℕ). replicate m 0) (sym l) }

pub unwrap_err-found-requires : goal.unwrap_err-found-requires
unwrap_err-found-requires c =
    let l : length c.run.new.work ≡ length c.args.work.now = c.run.auto.work in
    finds_err _ _ (omega arith) (λ i. omega (arith, c.type_inv.table i)) (omega arith) _ c.locate.ensures.0 (subst⁻¹ (λ (m : ℕ). Sound c.args.table.now m → ⊥) l c.in_default.ensures.0)

pub returns : goal.returns
returns c =
    let l : length c.run.new.work ≡ length c.args.work.now = c.run.auto.work in (
      (c.in_default.ensures.0, ap BrokenFat (finds_is _ c.locate.ensures.0 c.unwrap_err-found.ensures ∙ ap (λ (m : ℕ). fault_of m c.args.table.now) l)),
      c.locate.ensures.1 ∙ ap (λ (m : ℕ). replicate m 0) l,
    )
