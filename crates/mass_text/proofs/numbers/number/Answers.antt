use Rattle.std.proofs.Common.{sym, ◌∙◌}
use Rattle.mass_text.specs.Numbers.{base_of}
use Rattle.mass_text.proofs.NumberLaws.{all_digits}
use Rattle.mass_text.proofs.numbers.number.Goals as goal

pub value_of-requires : goal.value_of-requires
value_of-requires c = all_digits (base_of c.args.radix) c.args.text.now (sym c.first_other.ensures ∙ c.in-None.is)
