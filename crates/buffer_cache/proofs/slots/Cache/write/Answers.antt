use Rattle.std.proofs.Common.{rules, ◌≡◌, true, refl, sym, ap, ◌∙◌, subst}
use Rattle.std.specs.Prelude.{None, Some}
use Rattle.std.specs.List.{AllByRecursion}
use Rattle.buffer_cache.specs.Passes.{Spot, map_at, seen, spot}
use Rattle.driver_laws.specs.rules.Entries.{State, entry_of}
use Rattle.driver_laws.specs.rules.Calls.{write_done, write_found}
use Rattle.driver_laws.specs.rules.Contents.{cached}
use Rattle.buffer_cache.specs.Asks.{IsData}
use Rattle.buffer_cache.specs.Calls.{MayUse, Writes, is_done}
use Rattle.buffer_cache.proofs.Serving.{served_as, served_here}
use Rattle.buffer_cache.proofs.Stays.{never_some, no_entry, some_entry, change_data}
use Rattle.buffer_cache.proofs.Tills.{write_asks}
use Rattle.buffer_cache.proofs.Wholes.{write_entry, not_changed}
use Rattle.buffer_cache.proofs.slots.Cache.write.Goals as goal

pub returns-then-change-clause-serves : goal.returns-then-change-clause-serves
returns-then-change-clause-serves g c =
    let here : Spot = spot g.P.Packs.tells g.P.Packs.held g.P.Packs.faults g.T.Sink.tells g.T.Sink.taken g.T.Sink.faults c.args.subsystem.now c.args.packs.now c.args.trace.now in
    let found = some_entry c.args.unit c.args.block c.args.self.now.entries (sym c.if-change.true ∙ c.change.ensures.found) in
    served_here {here = here} refl
    (write_entry c.cache_law.ensures.writes c.args.line c.args.unit c.args.block c.args.from.now found.entry c.args.self.now c.change.new.self (seen here) c.law.ensures found.is c.change.ensures.changes)
    (record {
      ready = c.requires.may.ready;
      room = c.requires.may.room;
      entries = subst (λ (s : State). AllByRecursion (λ e. IsData c.args.subsystem.now.world e.unit e.block) s.entries) (sym c.change.ensures.changes)
          (change_data c.args.subsystem.now.world c.args.unit c.args.block c.args.from.now c.args.self.now.entries c.requires.may.entries);
    })
    (ap (λ (s : State). s.refused) c.change.ensures.changes)

pub returns-then-change-clause-no_call : goal.returns-then-change-clause-no_call
returns-then-change-clause-no_call g c = λ some. (refl, (refl, refl))

pub write_new-requires-clause-may : goal.write_new-requires-clause-may
write_new-requires-clause-may g c =
    let none = no_entry c.args.unit c.args.block c.args.self.now.entries (sym c.if-change.false ∙ c.change.ensures.found) in
    subst (λ (s : State). MayUse s c.args.subsystem.now) (sym (c.change.ensures.changes ∙ not_changed c.args.unit c.args.block c.args.from.now c.args.self.now none)) c.requires.may

pub write_new-requires-clause-new : goal.write_new-requires-clause-new
write_new-requires-clause-new g c =
    let none = no_entry c.args.unit c.args.block c.args.self.now.entries (sym c.if-change.false ∙ c.change.ensures.found) in
    subst (λ (s : State). entry_of c.args.unit c.args.block s.entries ≡ None) (sym (c.change.ensures.changes ∙ not_changed c.args.unit c.args.block c.args.from.now c.args.self.now none)) none

pub returns-clause-no_call : goal.returns-clause-no_call
returns-clause-no_call g c =
    let none = no_entry c.args.unit c.args.block c.args.self.now.entries (sym c.if-change.false ∙ c.change.ensures.found) in
    λ some. absurd (never_some c.args.unit c.args.block c.args.self.now.entries none some)

pub returns-clause-serves : goal.returns-clause-serves
returns-clause-serves g c =
    let old : Spot = spot g.P.Packs.tells g.P.Packs.held g.P.Packs.faults g.T.Sink.tells g.T.Sink.taken g.T.Sink.faults c.args.subsystem.now c.args.packs.now c.args.trace.now in
    let new : Spot = spot g.P.Packs.tells g.P.Packs.held g.P.Packs.faults g.T.Sink.tells g.T.Sink.taken g.T.Sink.faults c.write_new.new.site.subsystem.now c.write_new.new.site.packs.now c.write_new.new.site.trace.now in
    let back : Spot = spot g.P.Packs.tells g.P.Packs.held g.P.Packs.faults g.T.Sink.tells g.T.Sink.taken g.T.Sink.faults c.subsystem-1.given.0 c.packs-1.given.0 c.trace-1.given.0 in
    let same : new ≡ back = search rules in
    let none = no_entry c.args.unit c.args.block c.args.self.now.entries (sym c.if-change.false ∙ c.change.ensures.found) in
    served_as (λ s. Writes c.args.line c.args.unit c.args.block (is_done c.write_new.result) c.args.from.now s c.write_new.new.self) c.args.line c.args.unit c.args.block (Some c.args.from.now)
    (λ s z. (write_found (map_at z c.args.unit c.args.block) true s c.args.unit c.args.block c.args.from.now).asked) (λ s z. (write_done (cached s.entries (map_at z) c.args.unit c.args.block) true s c.args.unit c.args.block c.args.from.now).asked) c.write_new.result
    (c.change.ensures.changes ∙ not_changed c.args.unit c.args.block c.args.from.now c.args.self.now none) same (write_asks c.args.self.now c.args.unit c.args.block c.args.from.now (map_at (seen old) c.args.unit c.args.block) none) c.write_new.ensures.serves
