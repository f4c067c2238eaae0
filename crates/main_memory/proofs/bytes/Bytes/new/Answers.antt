use Rattle.std.proofs.Common.{◌∙◌, arith}
use Rattle.std.proofs.lemmas.List.{get_or_past}
use Rattle.main_memory.proofs.ByteLaws.{length-filled}
use Rattle.main_memory.proofs.HeldLaws.{filled_at}
use Rattle.main_memory.proofs.bytes.Bytes.new.Goals as goal

pub returns-clause-size : goal.returns-clause-size
returns-clause-size c = length-filled 8388608 c.in_ok-with_capacity.field-0.items (omega (arith, c.in_ok-with_capacity.ensures.len, c.in_ok-with_capacity.field-0.ok.0))

pub returns-clause-zeros : goal.returns-clause-zeros
returns-clause-zeros c = λ place.
    filled_at 8388608 c.in_ok-with_capacity.field-0.items place
    ∙ get_or_past c.in_ok-with_capacity.field-0.items place 0 (omega (arith, c.in_ok-with_capacity.ensures.len))
