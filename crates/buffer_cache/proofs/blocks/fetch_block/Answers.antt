use Rattle.std.proofs.Common.{[], refl, sym, ap, subst}
use Rattle.std.specs.Prelude.{Ok, Err, None}
use Rattle.blocking_io.specs.declared.reached.Reached.TheVariants.{Before}
use Rattle.blocking_io.specs.FrontsPasses.{asked, Stage, MayAsk, Answers, Stops}
use Rattle.blocking_io.specs.Sites.{kind_at}
use Rattle.blocking_io.specs.Spots.{Spot, giving}
use Rattle.blocking_io.proofs.FrontsBlocks.{is_request, none_written, read_stops_of}
use Rattle.blocking_io.proofs.Spots.{stopped, waits_keeps}
use Rattle.driver_laws.specs.rules.Requests.{reads}
use Rattle.buffer_cache.proofs.Maps.{are_blocks}
use Rattle.buffer_cache.proofs.Exits.{fetches_of}
use Rattle.buffer_cache.proofs.Tills.{till_one}
use Rattle.buffer_cache.proofs.blocks.fetch_block.Goals as goal

pub ask_read-requires-clause-may : goal.ask_read-requires-clause-may
ask_read-requires-clause-may g c =
    let old : Spot = g.S.Site.at c.args.site.now in
    subst (λ q. MayAsk old.driver q []) (sym c.one_block.ensures) (record {
      ready = c.requires.may.ready;
      room = c.requires.may.room;
      unit = c.requires.block.unit_is;
      request = is_request (kind_at old.driver.world c.args.unit) (reads c.args.unit c.args.block) (are_blocks old.driver.world c.args.unit c.args.block None c.requires.block)
          (none_written (reads c.args.unit c.args.block) refl);
      none = λ e. refl;
    })

pub ask_read-requires-clause-reads : goal.ask_read-requires-clause-reads
ask_read-requires-clause-reads g c = ap (λ q. q.write) c.one_block.ensures

pub returns-in_err-reached-clause-turns : goal.returns-in_err-reached-clause-turns
returns-in_err-reached-clause-turns g c =
    let old : Spot = g.S.Site.at c.args.site.now in
    let new : Spot = g.S.Site.at c.ask_read.new.self in
    let before : Stage = giving old (Before 0) c.args.into.now in
    let after : Stage = giving new (Before 0) c.ask_read.new.into in
    let may = c.requires.may in
    let waits = c.in_err-reached.ensures.waits in
    let blocks = are_blocks old.driver.world c.args.unit c.args.block None c.requires.block in
    let stops = subst (λ q. Stops c.in_err-reached.field-0.0 c.args.line (asked q []) before after) c.one_block.ensures waits.stops in
    stopped c.from_residual.result c.in_err-reached.field-0.0 c.from_residual.ensures.1
    (read_stops_of c.in_err-reached.field-0.0 (reads c.args.unit c.args.block) before after c.requires.block.unit_is blocks c.fronts_law.ensures c.law.ensures.sound (c.law.ensures.work may.ready.going)
    may.ready.quiet (is_request (kind_at old.driver.world c.args.unit) (reads c.args.unit c.args.block) blocks (none_written (reads c.args.unit c.args.block) refl)) stops refl)
    (till_one c.in_err-reached.field-0.0 c.args.line (reads c.args.unit c.args.block) before after stops)
    (waits_keeps (Err c.in_err-reached.field-0.0) waits)

pub returns-clause-turns : goal.returns-clause-turns
returns-clause-turns g c =
    let old : Spot = g.S.Site.at c.args.site.now in
    let new : Spot = g.S.Site.at c.ask_read.new.self in
    let before : Stage = giving old (Before 0) c.args.into.now in
    let after : Stage = giving new c.in_ok-reached.reached c.ask_read.new.into in
    let waits = c.in_ok-reached.ensures.waits in
    record {
      done = fetches_of c.args.line c.args.unit c.args.block before after c.requires.block c.sessions_law.ensures.answered c.is_done.result (cc) c.is_done.ensures
          (subst (λ q. Answers c.args.line (asked q []) before after) c.one_block.ensures waits.answers);
      left = tt;
      stopped = tt;
      keeps = waits_keeps (Ok c.in_ok-reached.reached) waits;
    }
