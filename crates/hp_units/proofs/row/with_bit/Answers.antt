use Rattle.std.proofs.Common.{◌==◌, ℕ, sym, ◌∙◌, ap, w32}
use Rattle.std.proofs.lemmas.Nat.Bits.{bit_at_set_same, bit_at_set_other, bit_at_clear_same, bit_at_clear_other}
use Rattle.hp_units.proofs.row.with_bit.Goals as goal

pub returns-then-on-clause-own : goal.returns-then-on-clause-own
returns-then-on-clause-own c = ap (λ (b : ℕ). b == 1) (bit_at_set_same w32 c.args.row c.args.u c.requires) ∙ sym c.if-on.true

pub returns-then-on-clause-others : goal.returns-then-on-clause-others
returns-then-on-clause-others c = λ k. λ lt. λ ne. ap (λ (b : ℕ). b == 1) (bit_at_set_other w32 c.args.row c.args.u c.requires k ne)

pub returns-else-on-clause-own : goal.returns-else-on-clause-own
returns-else-on-clause-own c = ap (λ (b : ℕ). b == 1) (bit_at_clear_same w32 c.args.row c.args.u c.requires) ∙ sym c.if-on.false

pub returns-else-on-clause-others : goal.returns-else-on-clause-others
returns-else-on-clause-others c = λ k. λ lt. λ ne. ap (λ (b : ℕ). b == 1) (bit_at_clear_other w32 c.args.row c.args.u c.requires k lt ne)
