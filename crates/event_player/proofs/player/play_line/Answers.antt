use Rattle.hp_driver.specs.Inputs.{input_of}
use Rattle.script_reader.specs.Stored.{digits_at}
use Rattle.event_player.proofs.Lines.{line_at, line_happens}
use Rattle.event_player.proofs.Statements.{may_event}
use Rattle.event_player.proofs.player.play_line.Goals as goal

pub returns-in-Some : goal.returns-in-Some
returns-in-Some g c =
    let at = c.in-Some.ensures.some (digits_at c.args.script.now.text) in
    line_at c.from.ensures at
    (line_happens c.happen.result c.requires.ready.none_waits (input_of c.in-Some.event) (may_event c.in-Some.event _ _ at c.requires.may) (c.in-Some.ensures.silent _) c.happen.ensures)
