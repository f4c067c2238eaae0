use Rattle.std.proofs.Common.{rules, ◌≡◌, true, refl, sym, ap, ◌∙◌, subst}
use Rattle.std.specs.Prelude.{None}
use Rattle.std.specs.List.{AllByRecursion}
use Rattle.buffer_cache.specs.Passes.{Spot, map_at, seen, spot}
use Rattle.driver_laws.specs.rules.Entries.{State, entry_of}
use Rattle.driver_laws.specs.rules.Calls.{read_done, read_found}
use Rattle.driver_laws.specs.rules.Contents.{cached}
use Rattle.buffer_cache.specs.Asks.{IsData}
use Rattle.buffer_cache.specs.Calls.{MayUse, Reads, given_by}
use Rattle.buffer_cache.proofs.Serving.{served_as, served_here}
use Rattle.buffer_cache.proofs.Stays.{never_some, no_entry, some_entry, front_data}
use Rattle.buffer_cache.proofs.Tills.{read_asks}
use Rattle.buffer_cache.proofs.Wholes.{read_entry, not_fronted}
use Rattle.buffer_cache.proofs.slots.Cache.read.Goals as goal

pub returns-then-give-clause-serves : goal.returns-then-give-clause-serves
returns-then-give-clause-serves g c =
    let here : Spot = spot g.P.Packs.tells g.P.Packs.held g.P.Packs.faults g.T.Sink.tells g.T.Sink.taken g.T.Sink.faults c.args.subsystem.now c.args.packs.now c.args.trace.now in
    let found = some_entry c.args.unit c.args.block c.args.self.now.entries (sym c.if-give.true ∙ c.give.ensures.found) in
    served_here {here = here} refl
    (read_entry c.cache_law.ensures.reads c.args.line c.args.unit c.args.block c.args.into.now c.give.new.into found.entry c.args.self.now c.give.new.self (seen here) c.law.ensures found.is c.give.ensures.fronts c.give.ensures.gives)
    (record {
      ready = c.requires.may.ready;
      room = c.requires.may.room;
      entries = subst (λ (s : State). AllByRecursion (λ e. IsData c.args.subsystem.now.world e.unit e.block) s.entries) (sym c.give.ensures.fronts)
          (front_data c.args.subsystem.now.world c.args.unit c.args.block c.args.self.now.entries c.requires.may.entries);
    })
    (ap (λ (s : State). s.refused) c.give.ensures.fronts)

pub returns-then-give-clause-no_call : goal.returns-then-give-clause-no_call
returns-then-give-clause-no_call g c = λ some. (refl, (refl, refl))

pub read_new-requires-clause-may : goal.read_new-requires-clause-may
read_new-requires-clause-may g c =
    let none = no_entry c.args.unit c.args.block c.args.self.now.entries (sym c.if-give.false ∙ c.give.ensures.found) in
    subst (λ (s : State). MayUse s c.args.subsystem.now) (sym (c.give.ensures.fronts ∙ not_fronted c.args.unit c.args.block c.args.self.now none)) c.requires.may

pub read_new-requires-clause-new : goal.read_new-requires-clause-new
read_new-requires-clause-new g c =
    let none = no_entry c.args.unit c.args.block c.args.self.now.entries (sym c.if-give.false ∙ c.give.ensures.found) in
    subst (λ (s : State). entry_of c.args.unit c.args.block s.entries ≡ None) (sym (c.give.ensures.fronts ∙ not_fronted c.args.unit c.args.block c.args.self.now none)) none

pub returns-clause-no_call : goal.returns-clause-no_call
returns-clause-no_call g c =
    let none = no_entry c.args.unit c.args.block c.args.self.now.entries (sym c.if-give.false ∙ c.give.ensures.found) in
    λ some. absurd (never_some c.args.unit c.args.block c.args.self.now.entries none some)

pub returns-clause-serves : goal.returns-clause-serves
returns-clause-serves g c =
    let old : Spot = spot g.P.Packs.tells g.P.Packs.held g.P.Packs.faults g.T.Sink.tells g.T.Sink.taken g.T.Sink.faults c.args.subsystem.now c.args.packs.now c.args.trace.now in
    let new : Spot = spot g.P.Packs.tells g.P.Packs.held g.P.Packs.faults g.T.Sink.tells g.T.Sink.taken g.T.Sink.faults c.read_new.new.site.subsystem.now c.read_new.new.site.packs.now c.read_new.new.site.trace.now in
    let back : Spot = spot g.P.Packs.tells g.P.Packs.held g.P.Packs.faults g.T.Sink.tells g.T.Sink.taken g.T.Sink.faults c.subsystem-1.given.0 c.packs-1.given.0 c.trace-1.given.0 in
    let same : new ≡ back = search rules in
    let none = no_entry c.args.unit c.args.block c.args.self.now.entries (sym c.if-give.false ∙ c.give.ensures.found) in
    served_as (λ s. Reads c.args.line c.args.unit c.args.block (given_by c.read_new.result c.read_new.new.into) s c.read_new.new.self) c.args.line c.args.unit c.args.block None
    (λ s z. (read_found (map_at z c.args.unit c.args.block) true s c.args.unit c.args.block).asked) (λ s z. (read_done (cached s.entries (map_at z) c.args.unit c.args.block) true s c.args.unit c.args.block).asked) c.read_new.result
    (c.give.ensures.fronts ∙ not_fronted c.args.unit c.args.block c.args.self.now none) same (read_asks c.args.self.now c.args.unit c.args.block (map_at (seen old) c.args.unit c.args.block) none) c.read_new.ensures.serves
