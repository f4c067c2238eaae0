use Rattle.std.proofs.Common.{ℕ, List, [], take, refl, subst, ◌≡◌}
use Rattle.std.specs.Box.{box_value}
use Rattle.hardware_table.specs.Noise.{LiveNoise}
use Rattle.hp_driver.specs.declared.drain.Event.TheVariants as event
use Rattle.hp_driver.specs.Subsystem.{asked}
use Rattle.event_player.specs.Steps.{MayPlay}
use Rattle.event_player.proofs.Lines.{line_at, line_asks, line_opens, line_unsaid, line_drains}
use Rattle.event_player.proofs.Statements.{may_event, read_says, write_says, noise_says, drain_says}
use Rattle.event_player.proofs.player.play_other.Goals as goal

pub returns-in-Read : goal.returns-in-Read
returns-in-Read g c =
    let request = c.request_for.result in
    let at = read_says c.args.script.now.text c.args.line.now c.in-Read.request request c.in-Read.is c.request_for.ensures in
    line_at c.from-number.ensures at
    (line_asks c.ask.result c.requires.ready.none_waits (asked request []) (subst (MayPlay (g.V.Venue.at c.args.venue.now).driver) at c.requires.may) c.ask.ensures)

pub returns-in-Write : goal.returns-in-Write
returns-in-Write g c =
    let request = c.request_for-in-Write.result in
    let bytes : List ℕ = take c.put_data-size.result c.put_data-size.new.room in
    let at = write_says c.args.script.now.text c.args.line.now c.in-Write.request c.in-Write.content request bytes c.in-Write.is c.request_for-in-Write.ensures c.put_data-size.ensures.bytes in
    line_at c.from-number.ensures at
    (line_asks c.ask-in-Write.result c.requires.ready.none_waits (asked request bytes) (subst (MayPlay (g.V.Venue.at c.args.venue.now).driver) at c.requires.may) c.ask-in-Write.ensures)

pub returns-in_ok-say_noise-in-Noise : goal.returns-in_ok-say_noise-in-Noise
returns-in_ok-say_noise-in-Noise g c =
    let noise = c.in-Noise in
    let live : LiveNoise = record { unit = noise.unit; block = noise.block; span = noise.span; places = c.copy.result } in
    let same : c.copy.result ≡ box_value noise.places = cc in
    let seen_same : c.copy.result ≡ c.deref.result.now = cc in
    let at = noise_says c.args.script.now.text c.args.line.now noise.unit noise.block noise.span noise.places c.copy.result noise.is same in
    line_at c.from-number.ensures at
    (line_opens c.happen.result c.requires.ready.none_waits _ (may_event (event.Noise noise.unit noise.block c.copy.result noise.span) _ _ at c.requires.may)
    (c.in_ok-say_noise-in-Noise.ensures.says live seen_same) c.in_ok-say_noise-in-Noise.ensures.driver c.happen.ensures)

pub returns-in_err-say_noise-in-Noise : goal.returns-in_err-say_noise-in-Noise
returns-in_err-say_noise-in-Noise g c =
    let noise = c.in-Noise in
    let live : LiveNoise = record { unit = noise.unit; block = noise.block; span = noise.span; places = box_value noise.places } in
    let at = noise_says c.args.script.now.text c.args.line.now noise.unit noise.block noise.span noise.places live.places noise.is refl in
    line_at c.from-number.ensures at
    (line_unsaid c.from_residual.result c.requires.ready.none_waits live (may_event (event.Noise noise.unit noise.block live.places noise.span) _ _ at c.requires.may) c.from_residual.ensures.1
    (c.in_err-say_noise-in-Noise.ensures.says live cc))

pub returns-in-Drain : goal.returns-in-Drain
returns-in-Drain g c =
    line_at c.from-number.ensures (drain_says c.args.script.now.text c.args.line.now c.in-Drain.is) (line_drains c.drain.result c.requires.ready.none_waits c.drain.ensures)
