use Rattle.std.proofs.Common.{◌≡◌, true, false, [], refl, sym, subst}
use Rattle.std.specs.Prelude.{Ok, Err, Some}
use Rattle.blocking_io.specs.declared.reached.Reached.TheVariants.{Before}
use Rattle.blocking_io.specs.FrontsPasses.{asked, Stage, MayAsk, Answers, Stops}
use Rattle.blocking_io.specs.Sites.{kind_at}
use Rattle.blocking_io.specs.Spots.{Spot, giving}
use Rattle.blocking_io.proofs.FrontsBlocks.{is_request, all_written, write_stops_of}
use Rattle.blocking_io.proofs.Spots.{stopped, waits_keeps}
use Rattle.driver_laws.specs.rules.Requests.{writes}
use Rattle.buffer_cache.proofs.Maps.{are_blocks}
use Rattle.buffer_cache.proofs.Exits.{front_leaves, stores_of}
use Rattle.buffer_cache.proofs.Tills.{till_one}
use Rattle.buffer_cache.proofs.blocks.store_block.Goals as goal

no : true ≡ false → ⊥
no e = cc

pub ask_write-requires-clause-may : goal.ask_write-requires-clause-may
ask_write-requires-clause-may g c =
    let old : Spot = g.S.Site.at c.args.site.now in
    subst (λ q. MayAsk old.driver q c.args.from.now) (sym c.one_block.ensures) (record {
      ready = c.requires.may.ready;
      room = c.requires.may.room;
      unit = c.requires.block.unit_is;
      request = is_request (kind_at old.driver.world c.args.unit) (writes c.args.unit c.args.block c.args.from.now) (are_blocks old.driver.world c.args.unit c.args.block (Some c.args.from.now) c.requires.block)
          (all_written (writes c.args.unit c.args.block c.args.from.now) c.args.from.now refl (cc));
      none = λ e. absurd (no e);
    })

pub returns-in_err-ask_write-clause-turns : goal.returns-in_err-ask_write-clause-turns
returns-in_err-ask_write-clause-turns g c =
    let old : Spot = g.S.Site.at c.args.site.now in
    let new : Spot = g.S.Site.at c.ask_write.new.self in
    let before : Stage = giving old (Before 0) [] in
    let after : Stage = giving new (Before 0) [] in
    let may = c.requires.may in
    let waits = c.in_err-ask_write.ensures.waits in
    let blocks = are_blocks old.driver.world c.args.unit c.args.block (Some c.args.from.now) c.requires.block in
    let stops = subst (λ q. Stops c.in_err-ask_write.field-0.0 c.args.line (asked q c.args.from.now) before after) c.one_block.ensures waits.stops in
    stopped c.from_residual.result c.in_err-ask_write.field-0.0 c.from_residual.ensures.1
    (λ t tables. front_leaves c.args.line c.args.unit c.args.block before after c.requires.block c.args.from.now (cc)
    (write_stops_of c.in_err-ask_write.field-0.0 (writes c.args.unit c.args.block c.args.from.now) before after c.requires.block.unit_is blocks c.fronts_law.ensures c.law.ensures.sound (c.law.ensures.work may.ready.going)
    may.ready.quiet (is_request (kind_at old.driver.world c.args.unit) (writes c.args.unit c.args.block c.args.from.now) blocks (all_written (writes c.args.unit c.args.block c.args.from.now) c.args.from.now refl (cc))) stops t tables))
    (till_one c.in_err-ask_write.field-0.0 c.args.line (writes c.args.unit c.args.block c.args.from.now) before after stops)
    (waits_keeps (Err c.in_err-ask_write.field-0.0) waits)

pub returns-clause-turns : goal.returns-clause-turns
returns-clause-turns g c =
    let old : Spot = g.S.Site.at c.args.site.now in
    let new : Spot = g.S.Site.at c.ask_write.new.self in
    let before : Stage = giving old (Before 0) [] in
    let after : Stage = giving new c.in_ok-ask_write.field-0 [] in
    let waits = c.in_ok-ask_write.ensures.waits in
    record {
      done = stores_of c.args.line c.args.unit c.args.block before after c.requires.block c.args.from.now (cc) c.sessions_law.ensures.answered
          (subst (λ q. Answers c.args.line (asked q c.args.from.now) before after) c.one_block.ensures waits.answers);
      left = tt;
      stopped = tt;
      keeps = waits_keeps (Ok c.in_ok-ask_write.field-0) waits;
    }
