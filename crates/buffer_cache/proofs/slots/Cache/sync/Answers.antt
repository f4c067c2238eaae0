use Rattle.std.proofs.Common.{rules, ◌≡◌, ◌≤◌, refl, sym, ap, subst}
use Rattle.std.specs.Prelude.{None, Ok}
use Rattle.std.specs.List.{AllByRecursion}
use Rattle.buffer_cache.specs.Passes.{Spot, map_at, seen, spot}
use Rattle.driver_laws.specs.rules.Entries.{State, IsCache, written_back}
use Rattle.buffer_cache.specs.Asks.{IsData, Asks, AsksTill}
use Rattle.buffer_cache.specs.Views.{entries_of, state_of}
use Rattle.buffer_cache.specs.Calls.{Syncs, SyncsOrStops}
use Rattle.buffer_cache.proofs.Serving.{sync_stopped}
use Rattle.buffer_cache.proofs.Stays.{all_data, holds_alike, holds_asked}
use Rattle.buffer_cache.proofs.Turns.{flushed_data, syncs_of}
use Rattle.buffer_cache.proofs.slots.Cache.sync.Goals as goal

pub write_all_back-requires-clause-kept : goal.write_all_back-requires-clause-kept
write_all_back-requires-clause-kept g c = c.self.invariant

pub write_all_back-requires-clause-may : goal.write_all_back-requires-clause-may
write_all_back-requires-clause-may g c = record {
  ready = c.requires.may.ready;
  room = c.requires.may.room;
  entries = subst (λ (s : State). AllByRecursion (λ e. IsData c.args.subsystem.now.world e.unit e.block) s.entries) (sym c.self.view_is) c.requires.may.entries;
}

pub returns-in_err-write_all_back : goal.returns-in_err-write_all_back
returns-in_err-write_all_back g c =
    let old : Spot = spot g.P.Packs.tells g.P.Packs.held g.P.Packs.faults g.T.Sink.tells g.T.Sink.taken g.T.Sink.faults c.args.subsystem.now c.args.packs.now c.args.trace.now in
    let new : Spot = spot g.P.Packs.tells g.P.Packs.held g.P.Packs.faults g.T.Sink.tells g.T.Sink.taken g.T.Sink.faults c.write_all_back.new.site.subsystem.now c.write_all_back.new.site.packs.now c.write_all_back.new.site.trace.now in
    let back : Spot = spot g.P.Packs.tells g.P.Packs.held g.P.Packs.faults g.T.Sink.tells g.T.Sink.taken g.T.Sink.faults c.subsystem-1.given.0 c.packs-1.given.0 c.trace-1.given.0 in
    let same : new ≡ back = search rules in
    let m = c.in_err-write_all_back.ensures.turns in
    subst (λ (z : Spot). SyncsOrStops c.args.line c.from_residual.result c.args.self.now (state_of c.self.inside.order c.write_all_back.new.slots.items c.self.inside.refused) old z) same
    (sync_stopped c.from_residual.result c.in_err-write_all_back.field-0.0 c.from_residual.ensures.1
    (holds_alike 0 0 None (state_of c.self.inside.order c.self.inside.slots.items 0) c.args.self.now (seen old) (seen new) (ap (λ (s : State). s.entries) c.self.view_is) m.left)
    (ap (λ (s : State). s.refused) c.self.view_is)
    (subst (λ (s : State). AsksTill c.in_err-write_all_back.field-0.0 c.args.line (written_back s.entries) (seen old) (seen new)) c.self.view_is m.stopped) m.keeps)

pub returns : goal.returns
returns g c =
    let old : Spot = spot g.P.Packs.tells g.P.Packs.held g.P.Packs.faults g.T.Sink.tells g.T.Sink.taken g.T.Sink.faults c.args.subsystem.now c.args.packs.now c.args.trace.now in
    let new : Spot = spot g.P.Packs.tells g.P.Packs.held g.P.Packs.faults g.T.Sink.tells g.T.Sink.taken g.T.Sink.faults c.write_all_back.new.site.subsystem.now c.write_all_back.new.site.packs.now c.write_all_back.new.site.trace.now in
    let back : Spot = spot g.P.Packs.tells g.P.Packs.held g.P.Packs.faults g.T.Sink.tells g.T.Sink.taken g.T.Sink.faults c.subsystem-1.given.0 c.packs-1.given.0 c.trace-1.given.0 in
    let same : new ≡ back = search rules in
    let m = c.in_ok-write_all_back.ensures.turns in
    let s' : State = state_of c.self.inside.order c.write_all_back.new.slots.items c.self.inside.refused in
    subst (λ (z : Spot). SyncsOrStops c.args.line (Ok tt) c.args.self.now s' old z) same (record {
      done = subst (λ (s : State). Syncs c.args.line s s' (seen old) (seen new)) c.self.view_is
          (syncs_of c.cache_law.ensures.syncs c.args.line c.self.inside.order c.self.inside.slots.items c.write_all_back.new.slots.items c.self.inside.refused (seen old) (seen new)
          (subst IsCache (sym c.self.view_is) c.law.ensures) m.done c.in_ok-write_all_back.ensures.slots);
      holds = λ t tables fit. holds_asked c.args.line (written_back c.args.self.now.entries) 0 0 None c.args.self.now (seen old) (seen new)
          (subst (λ (s : State). Asks c.args.line (written_back s.entries) (seen old) (seen new)) c.self.view_is m.done)
          (c.cache_law.ensures.sync_leaves (map_at (seen old)) c.args.self.now 0 0 c.law.ensures) t tables;
      may = record {
        ready = m.keeps.ready refl;
        room = subst (λ n. 1 ≤ n) (sym m.keeps.outstanding) c.requires.may.room;
        entries = subst (AllByRecursion (λ e. IsData new.driver.world e.unit e.block)) (sym c.in_ok-write_all_back.ensures.slots)
            (flushed_data new.driver.world (entries_of c.self.inside.order.entries c.self.inside.slots.items)
            (all_data (seen old) (seen new) (entries_of c.self.inside.order.entries c.self.inside.slots.items) m.done.goes.setup (m.keeps.units refl)
            (subst (λ (s : State). AllByRecursion (λ e. IsData old.driver.world e.unit e.block) s.entries) (sym c.self.view_is) c.requires.may.entries)));
      };
      refused = ap (λ (s : State). s.refused) c.self.view_is;
      till = tt;
      keeps = m.keeps;
    })
