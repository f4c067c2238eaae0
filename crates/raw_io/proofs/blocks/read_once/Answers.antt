use Rattle.std.proofs.Common.{◌≡◌, [], refl, ap, true}
use Rattle.std.specs.Prelude.{if◌then◌else◌, Some, None, Ok, Err}
use Rattle.trace_replay.specs.requests.Requests as told
use Rattle.blocking_io.specs.declared.reached.Reached.TheVariants.{Before}
use Rattle.blocking_io.specs.FrontsPasses.{asked}
use Rattle.blocking_io.specs.Sites.{kind_at}
use Rattle.blocking_io.specs.Spots.{Spot, giving}
use Rattle.blocking_io.proofs.FrontsBlocks.{is_request, none_written, read_stops_of}
use Rattle.blocking_io.proofs.Spots.{waits_keeps, stopped}
use Rattle.raw_io.proofs.Breaks.{breaks_of}
use Rattle.raw_io.proofs.Exits.{is_ask, reads_of}
use Rattle.raw_io.proofs.blocks.read_once.Goals as goal

pub ask_read-requires-clause-may : goal.ask_read-requires-clause-may
ask_read-requires-clause-may g c = record {
  ready = c.requires.may.may.ready;
  room = c.requires.may.may.room;
  unit = c.requires.may.may.unit_is;
  request = is_request (kind_at (g.S.Site.at c.args.site.now).driver.world c.args.request.unit) (asked c.args.request []) c.requires.may.blocks
      (none_written (asked c.args.request []) (ap (λ b. if b then Some [] else None) c.requires.reads));
  none = λ e. refl;
}

pub returns-in_err-reached-clause-turns : goal.returns-in_err-reached-clause-turns
returns-in_err-reached-clause-turns g c =
    let r : told.Request = asked c.args.request [] in
    let old : Spot = g.S.Site.at c.args.site.now in
    let new : Spot = g.S.Site.at c.ask_read.new.self in
    let may = c.requires.may.may in
    let blocks = c.requires.may.blocks in
    let none : r.written ≡ None = ap (λ b. if b then Some [] else None) c.requires.reads in
    let waits = c.in_err-reached.ensures.waits in
    stopped c.from_residual.result c.in_err-reached.field-0.0 c.from_residual.ensures.1
    (read_stops_of c.in_err-reached.field-0.0 r (giving old (Before 0) c.args.into.now) (giving new (Before 0) c.ask_read.new.into) may.unit_is blocks c.fronts_law.ensures c.law.ensures.sound
    (c.law.ensures.work may.ready.going) may.ready.quiet (is_request (kind_at old.driver.world r.unit) r blocks (none_written r none)) waits.stops none)
    (breaks_of true c.in_err-reached.field-0.0 r (giving old (Before 0) c.args.into.now) (giving new (Before 0) c.ask_read.new.into) (is_ask true (kind_at old.driver.world r.unit) r blocks (λ same. none)) waits.stops)
    (waits_keeps (Err c.in_err-reached.field-0.0) waits)

pub returns-clause-turns : goal.returns-clause-turns
returns-clause-turns g c =
    let r : told.Request = asked c.args.request [] in
    let old : Spot = g.S.Site.at c.args.site.now in
    let new : Spot = g.S.Site.at c.ask_read.new.self in
    let may = c.requires.may.may in
    let waits = c.in_ok-reached.ensures.waits in
    record {
      done = reads_of r c.blocks_done.result (giving old (Before 0) c.args.into.now) (giving new c.in_ok-reached.reached c.ask_read.new.into) may.unit_is c.requires.may.blocks c.blocks_done.ensures waits.answers
          c.sessions_law.ensures.answered c.clean_law.ensures c.law.ensures.sound (c.law.ensures.work may.ready.going) may.ready.quiet (ap (λ b. if b then Some [] else None) c.requires.reads);
      left = tt;
      stopped = tt;
      keeps = waits_keeps (Ok c.in_ok-reached.reached) waits;
    }
