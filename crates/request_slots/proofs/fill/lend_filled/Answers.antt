use Rattle.std.proofs.Common.{refl, ap, ◌∙◌}
use Rattle.main_memory.specs.Blocks.{Loan}
use Rattle.driver_machine.specs.World.{pieces}
use Rattle.request_slots.proofs.FillLaws.{has_lent}
use Rattle.request_slots.proofs.fill.lend_filled.Goals as goal

pub returns-then-not-asked-clause-lent : goal.returns-then-not-asked-clause-lent
returns-then-not-asked-clause-lent c =
    has_lent c.in-Ok.ensures.buffer c.in-Ok.ensures.memory c.requires.room c.in-Ok.ensures.lent.0 c.in-Ok.ensures.lent.1 c.in-Ok.ensures.apart c.in-Ok.ensures.others (λ other shape was apart. refl) (λ other was. was) refl c.in-Ok.ensures.sound

pub fill-requires-clause-shape : goal.fill-requires-clause-shape
fill-requires-clause-shape c = c.in-Ok.ensures.lent.0

pub fill-requires-clause-lent : goal.fill-requires-clause-lent
fill-requires-clause-lent c = c.in-Ok.ensures.lent.1

pub fill-requires-clause-sound : goal.fill-requires-clause-sound
fill-requires-clause-sound c = c.in-Ok.ensures.sound

pub returns-clause-lent : goal.returns-clause-lent
returns-clause-lent c =
    has_lent c.in-Ok.ensures.buffer c.in-Ok.ensures.memory c.requires.room c.in-Ok.ensures.lent.0 c.in-Ok.ensures.lent.1 c.in-Ok.ensures.apart c.in-Ok.ensures.others c.fill.ensures.others c.fill.ensures.lent c.fill.ensures.free c.fill.ensures.sound

pub returns-clause-content : goal.returns-clause-content
returns-clause-content c = λ on. c.fill.ensures.held ∙ ap (λ (l : Loan). pieces l.count c.args.bytes.now) c.in-Ok.ensures.buffer
