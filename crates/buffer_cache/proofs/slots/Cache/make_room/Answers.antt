use Rattle.std.proofs.Common.{◌≤◌, [], refl, sym, ap, ◌∙◌, subst}
use Rattle.std.specs.Prelude.{None}
use Rattle.buffer_cache.specs.Passes.{Spot, map_at, seen}
use Rattle.blocking_io.proofs.Spots.{keeps_none, stopped}
use Rattle.driver_laws.specs.declared.rules.cached.Entry.{Entry}
use Rattle.driver_laws.specs.rules.Requests.{writes}
use Rattle.driver_laws.specs.rules.Entries.{State, write_backs, written_last}
use Rattle.driver_laws.proofs.rules.Ones.{IsFound, each_found, back_all, back_one, none_one}
use Rattle.buffer_cache.specs.Asks.{IsData, Asks, AsksTill}
use Rattle.buffer_cache.proofs.Joins.{asks_none}
use Rattle.buffer_cache.proofs.Stays.{all_data, holds_left, unchanged_data}
use Rattle.buffer_cache.proofs.slots.Cache.make_room.Goals as goal

pub returns-in_default-clause-turns : goal.returns-in_default-clause-turns
returns-in_default-clause-turns g c =
    let old : Spot = g.S.Site.at c.args.site.now in
    record {
      done = subst (λ w. Asks c.args.line (write_backs w) (seen old) (seen old)) (sym (sym c.last_changed.ensures ∙ c.in_default.is)) (asks_none c.args.line (seen old));
      left = tt;
      stopped = tt;
      keeps = keeps_none old c.requires.may.ready;
    }

pub returns-in_default-clause-state : goal.returns-in_default-clause-state
returns-in_default-clause-state g c =
    sym (ap (λ last. record c.args.self.now { entries = written_last last c.args.self.now.entries }) (sym c.last_changed.ensures ∙ c.in_default.is))

pub store_block-requires-clause-may : goal.store_block-requires-clause-may
store_block-requires-clause-may g c = record {
  ready = c.requires.may.ready;
  room = c.requires.may.room;
  unit_is = (back_all (λ (e : Entry). IsData (g.S.Site.at c.args.site.now).driver.world e.unit e.block) c.args.self.now c.in-Some.last c.requires.may.entries (sym c.last_changed.ensures ∙ c.in-Some.is)).unit_is;
}

pub store_block-requires-clause-block : goal.store_block-requires-clause-block
store_block-requires-clause-block g c =
    back_all (λ (e : Entry). IsData (g.S.Site.at c.args.site.now).driver.world e.unit e.block) c.args.self.now c.in-Some.last c.requires.may.entries (sym c.last_changed.ensures ∙ c.in-Some.is)

pub returns-in_err-store_block-clause-turns : goal.returns-in_err-store_block-clause-turns
returns-in_err-store_block-clause-turns g c =
    let old : Spot = g.S.Site.at c.args.site.now in
    let new : Spot = g.S.Site.at c.store_block.new.site in
    let m = c.in_err-store_block.ensures.turns in
    let some = sym c.last_changed.ensures ∙ c.in-Some.is in
    let found = back_all (IsFound c.args.self.now.entries) c.args.self.now c.in-Some.last (each_found c.args.self.now.entries c.law.ensures.apart) some in
    let first = none_one (map_at (seen old)) c.args.self.now.entries 0 0 None in
    stopped c.from_residual.result c.in_err-store_block.field-0.0 c.from_residual.ensures.1
    (λ t tables fit. holds_left c.args.line [] (writes c.in-Some.last.unit c.in-Some.last.block c.in-Some.last.bytes) 0 0 None c.args.self.now (seen old) (seen old) (seen new) (asks_none c.args.line (seen old)) first
    (back_one (map_at (seen old)) c.args.self.now.entries 0 0 None (map_at (seen old)) c.in-Some.last found first) m.keeps.never_again m.left t tables)
    (subst (λ last. AsksTill c.in_err-store_block.field-0.0 c.args.line (write_backs last) (seen old) (seen new)) (sym some) m.stopped) m.keeps

pub returns-clause-turns : goal.returns-clause-turns
returns-clause-turns g c =
    let old : Spot = g.S.Site.at c.args.site.now in
    let new : Spot = g.S.Site.at c.store_block.new.site in
    let m = c.in_ok-store_block.ensures.turns in
    record {
      done = subst (λ last. Asks c.args.line (write_backs last) (seen old) (seen new)) (sym (sym c.last_changed.ensures ∙ c.in-Some.is)) m.done;
      left = tt;
      stopped = tt;
      keeps = m.keeps;
    }

pub returns-clause-state : goal.returns-clause-state
returns-clause-state g c =
    c.last_is_written.ensures ∙ sym (ap (λ last. record c.args.self.now { entries = written_last last c.args.self.now.entries }) (sym c.last_changed.ensures ∙ c.in-Some.is))

pub returns-clause-may : goal.returns-clause-may
returns-clause-may g c =
    let old : Spot = g.S.Site.at c.args.site.now in
    let new : Spot = g.S.Site.at c.store_block.new.site in
    let m = c.in_ok-store_block.ensures.turns in
    record {
      ready = m.keeps.ready refl;
      room = subst (λ n. 1 ≤ n) (sym m.keeps.outstanding) c.requires.may.room;
      entries = unchanged_data new.driver.world c.args.self.now c.last_is_written.new.self c.last_is_written.ensures
          (all_data (seen old) (seen new) c.args.self.now.entries m.done.goes.setup (m.keeps.units refl) c.requires.may.entries);
    }

pub returns-clause-refused : goal.returns-clause-refused
returns-clause-refused g c = ap (λ (s : State). s.refused) c.last_is_written.ensures
