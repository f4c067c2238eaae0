use Rattle.std.proofs.Common.{refl, ◌∙◌}
use Rattle.hp_driver.specs.Inputs.{input_of}
use Rattle.event_player.specs.Spots.{Spot}
use Rattle.event_player.proofs.Draining.{draining_starts, draining_next, draining_over, draining_never}
use Rattle.event_player.proofs.Halting.{draining_halts}
use Rattle.event_player.proofs.Inputs.{plays_none}
use Rattle.event_player.proofs.Rooms.{drain_brings, still_brings, brings_both}
use Rattle.event_player.proofs.Spots.{stopped_behind, keeps_none, keeps_join}
use Rattle.event_player.proofs.drains.go_on.Goals as goal

pub loop-turn-init : goal.loop-turn-init
loop-turn-init g c =
    let old : Spot = g.V.Venue.at c.args.venue.now in
    record {
      ready = c.requires.ready;
      outstanding = refl;
      keeps = keeps_none old;
      brings = still_brings old.driver.world;
      plays = λ t. draining_starts c.args.number old;
    }

pub loop-turn-preserved : goal.loop-turn-preserved
loop-turn-preserved g c =
    let old : Spot = g.V.Venue.at c.args.venue.now in
    let mid : Spot = g.V.Venue.at c.loop-turn.venue in
    let new : Spot = g.V.Venue.at c.happen.new.venue in
    let so = c.loop-turn.invariant in
    let happens = c.in_ok-happen.ensures in
    let event = input_of c.in-Some.event in
    record {
      ready = record { going = happens.goes.going; none_waits = plays_none happens.plays.plays };
      outstanding = happens.goes.outstanding ∙ so.outstanding;
      keeps = keeps_join so.keeps happens.keeps;
      brings = brings_both old.driver.world mid.driver.world new.driver.world so.brings (drain_brings c.args.number event mid new c.in-Some.ensures.next happens.plays);
      plays = λ t. draining_next c.args.number c.loop-turn.turn event old mid new t c.in-Some.ensures.next so.ready.none_waits happens.plays (so.plays (happens.keeps.told.never_again t));
    }

pub returns-in_default : goal.returns-in_default
returns-in_default g c =
    let so = c.loop-turn.invariant in
    record {
      plays = record { plays = λ t. draining_over c.args.number c.loop-turn.turn _ _ c.in_default.ensures.over (so.plays t); brings = so.brings };
      goes = record { going = so.ready.going; outstanding = so.outstanding };
      stops = tt;
      caused = tt;
      keeps = so.keeps;
    }

pub returns-in_err-happen : goal.returns-in_err-happen
returns-in_err-happen g c =
    let so = c.loop-turn.invariant in
    let happens = c.in_err-happen.ensures in
    let fault = c.in_err-happen.field-0.0 in
    stopped_behind c.from_residual.result fault c.from_residual.ensures.1 so.keeps happens
    (λ stops t. draining_halts c.args.number c.loop-turn.turn fault (input_of c.in-Some.event) _ _ _ c.in-Some.ensures.next c.in-Some.ensures.there so.ready.none_waits
    (so.plays (happens.keeps.told.never_again t)) stops t)

pub returns : goal.returns
returns g c =
    let so = c.loop-turn.invariant in
    record {
      plays = record { plays = λ t. draining_never c.args.number c.loop-turn.turn _ _ c.loop-turn-test.false (so.plays t); brings = so.brings };
      goes = record { going = so.ready.going; outstanding = so.outstanding };
      stops = tt;
      caused = tt;
      keeps = so.keeps;
    }
