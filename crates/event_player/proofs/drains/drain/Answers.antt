use Rattle.std.proofs.Common.{inr, sym, ap, subst, ◌∙◌}
use Rattle.hp_driver.specs.Inputs.{input_of}
use Rattle.hp_driver.specs.Subsystem.{State}
use Rattle.script_runs.specs.declared.fault.PlayFault.TheVariants as faults
use Rattle.trace_replay.specs.Script.{Plays, Drain}
use Rattle.event_player.specs.Spots.{Spot}
use Rattle.event_player.specs.Steps.{Brings}
use Rattle.event_player.proofs.Draining.{drain_plays}
use Rattle.event_player.proofs.Halting.{idle_halts, first_halts, rest_halts}
use Rattle.event_player.proofs.Inputs.{plays_none}
use Rattle.event_player.proofs.Rooms.{drain_brings, still_brings, brings_both}
use Rattle.event_player.proofs.Saying.{idle_passes, idle_drains}
use Rattle.event_player.proofs.Spots.{stopped, stopped_behind, keeps_none, keeps_join, idle_keeps}
use Rattle.event_player.proofs.drains.drain.Goals as goal

pub go_on-requires : goal.go_on-requires
go_on-requires g c =
    let happens = c.in_ok-happen.ensures in
    record { ready = record { going = happens.goes.going; none_waits = plays_none happens.plays.plays } }

pub returns-in_err-idle : goal.returns-in_err-idle
returns-in_err-idle g c =
    let old : Spot = g.V.Venue.at c.args.venue.now in
    let new : Spot = g.V.Venue.at c.idle.new.self in
    let idles = c.in_err-idle.ensures in
    stopped c.from_residual.result faults.Sink c.from_residual.ensures.1 (idle_keeps idles) (inr idles.gathers.cause.failed)
    (λ t. idle_halts c.args.number old new c.in_default.ensures.over (ap (λ (s : Spot). s.packs.held) idles.same) (idle_passes c.args.number _ old new idles))

pub returns-in_default : goal.returns-in_default
returns-in_default g c =
    let idles = c.in_ok-idle.ensures in
    let driver = ap (λ (s : Spot). s.driver) idles.same in
    record {
      plays = record {
        plays = λ t. idle_drains c.args.number _ _ c.in_default.ensures.over idles;
        brings = subst (λ (s : State). Brings (Plays Drain) (g.V.Venue.at c.args.venue.now).driver.world s.world) (sym driver) (still_brings _);
      };
      goes = record { going = ap (λ (s : State). s.failed) driver ∙ c.requires.ready.going; outstanding = ap (λ (s : State). s.outstanding) driver };
      stops = tt;
      caused = tt;
      keeps = idle_keeps idles;
    }

pub returns-in_err-happen : goal.returns-in_err-happen
returns-in_err-happen g c =
    let happens = c.in_err-happen.ensures in
    let fault = c.in_err-happen.field-0.0 in
    stopped_behind c.from_residual-in_err-happen.result fault c.from_residual-in_err-happen.ensures.1 (keeps_none _) happens
    (λ stops t. first_halts c.args.number fault (input_of c.in-Some.first) _ _ c.in-Some.ensures.next c.in-Some.ensures.there c.requires.ready.none_waits stops t)

pub returns-in_err-go_on : goal.returns-in_err-go_on
returns-in_err-go_on g c =
    let happens = c.in_ok-happen.ensures in
    let goes = c.in_err-go_on.ensures in
    let fault = c.in_err-go_on.field-0.0 in
    stopped_behind c.from_residual-in_err-go_on.result fault c.from_residual-in_err-go_on.ensures.1 happens.keeps goes
    (λ stops t. rest_halts c.args.number fault (input_of c.in-Some.first) _ _ _ (goes.keeps.told.never_again t) c.in-Some.ensures.next c.requires.ready.none_waits happens.plays (stops t))

pub returns : goal.returns
returns g c =
    let old : Spot = g.V.Venue.at c.args.venue.now in
    let mid : Spot = g.V.Venue.at c.happen.new.venue in
    let new : Spot = g.V.Venue.at c.go_on.new.venue in
    let first = input_of c.in-Some.first in
    let happens = c.in_ok-happen.ensures in
    let goes = c.in_ok-go_on.ensures in
    record {
      plays = record {
        plays = λ t. drain_plays c.args.number first old mid new (goes.keeps.told.never_again t) c.in-Some.ensures.next c.requires.ready.none_waits c.requires.few happens.plays (goes.plays.plays t);
        brings = brings_both old.driver.world mid.driver.world new.driver.world (drain_brings c.args.number first old mid c.in-Some.ensures.next happens.plays) goes.plays.brings;
      };
      goes = record { going = goes.goes.going; outstanding = goes.goes.outstanding ∙ happens.goes.outstanding };
      stops = tt;
      caused = tt;
      keeps = keeps_join happens.keeps goes.keeps;
    }
