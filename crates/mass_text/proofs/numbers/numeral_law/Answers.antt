use Rattle.mass_text.proofs.NumberLaws.{length-numeral-le, number_of-numeral}
use Rattle.mass_text.proofs.numbers.numeral_law.Goals as goal

pub returns-clause-read : goal.returns-clause-read
returns-clause-read c = number_of-numeral c.args.radix

pub returns-clause-room : goal.returns-clause-room
returns-clause-room c = length-numeral-le c.args.radix
