use Rattle.std.proofs.Common.{Bool, sym, ap, ◌∙◌}
use Rattle.std.specs.Prelude.{if◌then◌else◌}
use Rattle.driver_machine.specs.Acts.{Rtc}
use Rattle.driver_machine.specs.Due.{judged}
use Rattle.hp_driver.proofs.verdicts.judge.Goals as goal

pub returns-then-is_centred : goal.returns-then-is_centred
returns-then-is_centred c = λ h a is.
    c.follow.ensures h a is ∙ ap (λ (b : Bool). if b then judged c.args.moved c.args.verdict c.args.unit.now h else Rtc) (sym c.if-is_centred.true ∙ c.is_centred.ensures)

pub returns-else-is_centred : goal.returns-else-is_centred
returns-else-is_centred c = λ h a is.
    ap (λ (b : Bool). if b then judged c.args.moved c.args.verdict c.args.unit.now h else Rtc) (sym c.if-is_centred.false ∙ c.is_centred.ensures)
