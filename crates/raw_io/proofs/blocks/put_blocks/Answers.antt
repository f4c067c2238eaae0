use Rattle.std.proofs.Common.{◌≡◌, Bool, true, false, [], refl, ap}
use Rattle.std.specs.Prelude.{if◌then◌else◌, Some, None, Ok, Err}
use Rattle.trace_replay.specs.requests.Requests as told
use Rattle.blocking_io.specs.declared.reached.Reached.TheVariants.{Before}
use Rattle.blocking_io.specs.FrontsPasses.{asked}
use Rattle.blocking_io.specs.Sites.{kind_at}
use Rattle.blocking_io.specs.Spots.{Spot, giving}
use Rattle.blocking_io.proofs.FrontsBlocks.{is_request, all_written, write_stops_of}
use Rattle.blocking_io.proofs.Spots.{waits_keeps, stopped}
use Rattle.raw_io.proofs.Breaks.{breaks_of}
use Rattle.raw_io.proofs.Exits.{is_ask, wrote_of}
use Rattle.raw_io.proofs.blocks.put_blocks.Goals as goal

both : {b : Bool} → b ≡ true → b ≡ false → ⊥
both one other = cc

pub ask_write-requires-clause-may : goal.ask_write-requires-clause-may
ask_write-requires-clause-may g c = record {
  ready = c.requires.may.may.ready;
  room = c.requires.may.may.room;
  unit = c.requires.may.may.unit_is;
  request = is_request (kind_at (g.S.Site.at c.args.site.now).driver.world c.args.request.unit) (asked c.args.request c.args.from.now) c.requires.may.blocks
      (all_written (asked c.args.request c.args.from.now) c.args.from.now (ap (λ b. if b then Some c.args.from.now else None) c.requires.writes) c.requires.size);
  none = λ e. absurd (both c.requires.writes e);
}

pub returns-in_err-reached-clause-turns : goal.returns-in_err-reached-clause-turns
returns-in_err-reached-clause-turns g c =
    let r : told.Request = asked c.args.request c.args.from.now in
    let old : Spot = g.S.Site.at c.args.site.now in
    let new : Spot = g.S.Site.at c.ask_write.new.self in
    let may = c.requires.may.may in
    let blocks = c.requires.may.blocks in
    let waits = c.in_err-reached.ensures.waits in
    stopped c.from_residual.result c.in_err-reached.field-0.0 c.from_residual.ensures.1
    (write_stops_of c.in_err-reached.field-0.0 r (giving old (Before 0) []) (giving new (Before 0) []) may.unit_is blocks c.fronts_law.ensures c.law.ensures.sound (c.law.ensures.work may.ready.going) may.ready.quiet
    (is_request (kind_at old.driver.world r.unit) r blocks (all_written r c.args.from.now (ap (λ b. if b then Some c.args.from.now else None) c.requires.writes) c.requires.size)) waits.stops)
    (breaks_of false c.in_err-reached.field-0.0 r (giving old (Before 0) []) (giving new (Before 0) []) (is_ask false (kind_at old.driver.world r.unit) r blocks (λ never. absurd (both never refl))) waits.stops)
    (waits_keeps (Err c.in_err-reached.field-0.0) waits)

pub returns-clause-turns : goal.returns-clause-turns
returns-clause-turns g c =
    let old : Spot = g.S.Site.at c.args.site.now in
    let new : Spot = g.S.Site.at c.ask_write.new.self in
    let waits = c.in_ok-reached.ensures.waits in
    record {
      done = wrote_of (asked c.args.request c.args.from.now) c.blocks_done.result (giving old (Before 0) []) (giving new c.in_ok-reached.reached []) c.requires.may.may.unit_is c.requires.may.blocks c.blocks_done.ensures
          waits.answers c.sessions_law.ensures.answered;
      left = tt;
      stopped = tt;
      keeps = waits_keeps (Ok c.in_ok-reached.reached) waits;
    }
