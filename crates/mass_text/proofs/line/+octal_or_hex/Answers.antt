use Rattle.std.proofs.Common.{◌<◌, length, ap, arith}
use Rattle.std.proofs.lemmas.Grind.{common_steps}
use Rattle.mass_text.proofs.DigitLaws.{digits-last, digits-step, length-digits-22, length-digits-step, quotient_less}
use Rattle.mass_text.proofs.line.+octal_or_hex.Goals as goal

pub octal_or_hex-text-requires : goal.octal_or_hex-text-requires
octal_or_hex-text-requires t c =
    let less = quotient_less c.args.base c.args.value c.requires (omega arith) in (omega (arith, less), c.requires)

pub push-requires-else-value-base : goal.push-requires-else-value-base
push-requires-else-value-base t c = (
  omega arith,
  omega (arith, length-digits-22 c.args.base c.args.value c.requires (omega arith), length-digits-step c.args.base c.args.value c.requires (omega arith) (omega arith), ap length c.octal_or_hex-text.ensures),
)

pub returns-then-value-base : goal.returns-then-value-base
returns-then-value-base t c =
    let some : 0 < c.args.base = grind arith in
    grind (arith, common_steps, digits-last c.args.base c.args.value some (omega arith))

pub returns-else-value-base : goal.returns-else-value-base
returns-else-value-base t c =
    grind (arith, common_steps, digits-step c.args.base c.args.value c.requires (omega arith) (omega arith))
