use Rattle.std.proofs.Common.{◌∙◌, arith}
use Rattle.mass_text.specs.Numbers.{base_of}
use Rattle.mass_text.proofs.NumberLaws.{base_small, next_value, too_large}
use Rattle.mass_text.proofs.numbers.value_of.Goals as goal

pub returns-then-next-from : goal.returns-then-next-from
returns-then-next-from c =
    let value =
    next_value (base_of c.args.radix) c.args.digits.now c.loop-byte.byte-index c.from.result
    c.from-in-loop-byte.result c.from-in-loop-byte-2.result
    (omega arith) (c.from.ensures ∙ c.loop-byte.invariant.value)
    (c.from-in-loop-byte.ensures ∙ c.base.ensures) (c.from-in-loop-byte-2.ensures ∙ c.digit-digit.ensures) in
    too_large (base_of c.args.radix) c.args.digits.now c.loop-byte.byte-index _ c.args.max (base_small c.args.radix) value
    (omega arith)

pub loop-byte-preserved : goal.loop-byte-preserved
loop-byte-preserved c = record {
  value =
      next_value (base_of c.args.radix) c.args.digits.now c.loop-byte.byte-index c.from.result
      c.from-in-loop-byte.result c.from-in-loop-byte-2.result
      (omega arith) (c.from.ensures ∙ c.loop-byte.invariant.value)
      (c.from-in-loop-byte.ensures ∙ c.base.ensures) (c.from-in-loop-byte-2.ensures ∙ c.digit-digit.ensures);
  bound = omega arith;
}
