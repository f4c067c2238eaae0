use Rattle.std.proofs.Common.{◌≤◌, false, true, refl, sym, ap, ◌∙◌, subst}
use Rattle.std.specs.Prelude.{not}
use Rattle.std.specs.List.{AllByRecursion}
use Rattle.driver_laws.specs.rules.Entries.{State, put}
use Rattle.driver_laws.specs.rules.Calls.{entry}
use Rattle.blocking_io.proofs.Spots.{keeps_none, stopped}
use Rattle.buffer_cache.specs.Passes.{Spot, seen}
use Rattle.buffer_cache.specs.Asks.{IsData}
use Rattle.buffer_cache.proofs.Joins.{asks_none}
use Rattle.buffer_cache.proofs.Stays.{data_stays, all_data, put_data}
use Rattle.buffer_cache.proofs.slots.Cache.place.Goals as goal

pub returns-then-insert-clause-turns : goal.returns-then-insert-clause-turns
returns-then-insert-clause-turns g c =
    let old : Spot = g.S.Site.at c.args.site.now in
    record {
      done = record {
        refuses = false;
        state = c.insert.ensures ∙ ap (λ b. put (not b) (entry c.args.unit c.args.block c.args.from.now true) c.args.self.now) c.if-insert.true;
        asks = asks_none c.args.line (seen old);
      };
      left = tt;
      stopped = tt;
      keeps = keeps_none old c.requires.may.ready;
    }

pub returns-then-insert-clause-may : goal.returns-then-insert-clause-may
returns-then-insert-clause-may g c =
    let old : Spot = g.S.Site.at c.args.site.now in
    record {
      ready = c.requires.may.ready;
      room = c.requires.may.room;
      entries = subst (λ (s : State). AllByRecursion (λ e. IsData old.driver.world e.unit e.block) s.entries) (sym c.insert.ensures)
          (put_data old.driver.world (not c.insert.result) c.args.unit c.args.block c.args.from.now true c.args.self.now c.requires.block c.requires.may.entries);
    }

pub store_block-requires-clause-may : goal.store_block-requires-clause-may
store_block-requires-clause-may g c = record { ready = c.requires.may.ready; room = c.requires.may.room; unit_is = c.requires.block.unit_is }

pub returns-in_err-store_block-clause-turns : goal.returns-in_err-store_block-clause-turns
returns-in_err-store_block-clause-turns g c =
    let m = c.in_err-store_block.ensures.turns in
    stopped c.from_residual.result c.in_err-store_block.field-0.0 c.from_residual.ensures.1 m.left m.stopped m.keeps

pub returns-clause-turns : goal.returns-clause-turns
returns-clause-turns g c =
    let m = c.in_ok-store_block.ensures.turns in
    record {
      done = record {
        refuses = true;
        state = c.insert.ensures ∙ ap (λ b. put (not b) (entry c.args.unit c.args.block c.args.from.now true) c.args.self.now) c.if-insert.false;
        asks = m.done;
      };
      left = tt;
      stopped = tt;
      keeps = m.keeps;
    }

pub returns-clause-may : goal.returns-clause-may
returns-clause-may g c =
    let old : Spot = g.S.Site.at c.args.site.now in
    let mid : Spot = g.S.Site.at c.store_block.new.site in
    let m = c.in_ok-store_block.ensures.turns in
    record {
      ready = m.keeps.ready refl;
      room = subst (λ n. 1 ≤ n) (sym m.keeps.outstanding) c.requires.may.room;
      entries = subst (λ (s : State). AllByRecursion (λ e. IsData mid.driver.world e.unit e.block) s.entries) (sym c.insert.ensures)
          (put_data mid.driver.world (not c.insert.result) c.args.unit c.args.block c.args.from.now true c.args.self.now
          (data_stays (seen old) (seen mid) c.args.unit c.args.block m.done.goes.setup (m.keeps.units refl) c.requires.block)
          (all_data (seen old) (seen mid) c.args.self.now.entries m.done.goes.setup (m.keeps.units refl) c.requires.may.entries));
    }
