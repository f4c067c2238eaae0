use Rattle.std.proofs.Common.{ap}
use Rattle.driver_laws.specs.rules.Entries.{State}
use Rattle.script_runs.proofs.CachedLines.{units_first}
use Rattle.script_runs.specs.Stops.{took}
use Rattle.script_reader.specs.cached.Meaning.{meaning_of}
use Rattle.cached_run.proofs.Causes.{caused_more, never_before, never_long, leaves_as}
use Rattle.cached_run.proofs.Numbers.{itself}
use Rattle.cached_run.proofs.Starts.{made_may, made_plays, made_stops, made_units}
use Rattle.cached_run.proofs.play.play_cached.Goals as goal

pub attach_units-requires : goal.attach_units-requires
attach_units-requires g c = record { first = units_first c.args.script.now c.law.ensures }

pub play_over-requires-clause-units : goal.play_over-requires-clause-units
play_over-requires-clause-units g c = made_units c.as_slice.ensures.value c.in_ok-units.ensures.set c.in_ok-bench.ensures.subsystem

pub play_over-requires-clause-may : goal.play_over-requires-clause-may
play_over-requires-clause-may g c = made_may c.as_slice.ensures.value c.in_ok-units.ensures.set c.in_ok-bench.ensures.subsystem (ap (λ (s : State). s.entries) c.in_ok-bench.ensures.cache)

pub play_over-requires-clause-desk : goal.play_over-requires-clause-desk
play_over-requires-clause-desk g c = c.in_ok-bench.ensures.desk

pub play_over-requires-clause-empty : goal.play_over-requires-clause-empty
play_over-requires-clause-empty g c = ap (λ (s : State). s.entries) c.in_ok-bench.ensures.cache

pub returns-clause-plays : goal.returns-clause-plays
returns-clause-plays g c =
    made_plays c.args.script.now c.args.capacity c.as_slice.ensures.value c.in_ok-units.ensures.set c.in_ok-bench.ensures.subsystem c.in_ok-bench.ensures.cache c.in_ok-units.ensures.same c.in_ok-units.ensures.tables c.play_over.ensures c.law.ensures

pub returns-clause-stopped : goal.returns-clause-stopped
returns-clause-stopped g c =
    leaves_as _ c.play_over.result c.args.capacity (meaning_of c.args.script.now) (g.P.Packs.held c.args.packs.now) (g.P.Packs.held c.play_over.new.packs) (g.P.Packs.failed_at c.play_over.new.packs)
    (took g.O.Sink.tells g.O.Sink.taken g.O.Sink.faults c.args.out.now c.play_over.new.out) (took g.T.Sink.tells g.T.Sink.taken g.T.Sink.faults c.args.trace.now c.play_over.new.trace)
    (made_stops c.args.script.now c.args.capacity c.as_slice.ensures.value c.in_ok-units.ensures.set c.in_ok-bench.ensures.subsystem c.in_ok-bench.ensures.cache c.in_ok-units.ensures.same c.in_ok-units.ensures.tables c.play_over.ensures)

pub returns-clause-fits : goal.returns-clause-fits
returns-clause-fits g c = λ playing t. c.in_ok-units.ensures.fits (c.play_over.ensures.passes.told.never_again t)

pub returns-clause-too_long : goal.returns-clause-too_long
returns-clause-too_long g c = never_long c.play_over.result c.play_over.ensures.passes.causes (meaning_of c.args.script.now) (g.P.Packs.tells c.play_over.new.packs) (g.P.Packs.held c.args.packs.now)

pub returns-clause-told : goal.returns-clause-told
returns-clause-told g c =
    let told = c.play_over.ensures.passes.told in
    record {
      never_again = λ t. c.in_ok-units.ensures.never_again (told.never_again t);
      never_again_out = told.never_again_out;
      never_again_trace = told.never_again_trace;
    }

pub returns-clause-causes : goal.returns-clause-causes
returns-clause-causes g c =
    (caused_more c.play_over.result c.in_ok-units.ensures.later (itself (g.O.Sink.faults c.args.out.now)) (itself (g.T.Sink.faults c.args.trace.now)) c.play_over.ensures.passes.causes).rise

pub returns-clause-untouched : goal.returns-clause-untouched
returns-clause-untouched g c = λ before. absurd (never_before c.play_over.result c.play_over.ensures.passes.causes before)
