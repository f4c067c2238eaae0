use Rattle.std.proofs.Common.{refl, subst}
use Rattle.trace_replay.specs.Script as script
use Rattle.hp_driver.specs.declared.drain.Event.{Event}
use Rattle.hp_driver.specs.Inputs.{input_of}
use Rattle.hp_driver.specs.Subsystem.{IsThere}
use Rattle.hp_driver.proofs.Happens.{arrives, attends, moves, changes}
use Rattle.hp_driver.proofs.happening.happen.Goals as goal

pub returns-in-Arrive : goal.returns-in-Arrive
returns-in-Arrive g c = arrives _ _ _ _ _ _ _ _ _ _ c.requires.stands _ _ _ _ _ c.in-Arrive.is c.arrive.ensures

pub returns-in-Attend : goal.returns-in-Attend
returns-in-Attend g c = attends _ _ _ _ _ _ _ _ _ _ c.requires.stands _ _ _ _ _ c.in-Attend.is c.attend.ensures

pub returns-in-Move : goal.returns-in-Move
returns-in-Move g c = moves _ _ _ _ _ _ _ _ _ _ c.requires.stands _ _ _ _ _ _ c.in-Move.is c.move_sector.ensures

pub returns-in-Turn : goal.returns-in-Turn
returns-in-Turn g c =
    changes _ _ _ _ _ _ _ _ _ _ c.requires.stands _ _ tt (script.Turn c.in-Turn.unit c.in-Turn.sector) _ c.in-Turn.is refl refl
    (subst (λ (e : Event). IsThere c.args.core.now.world (input_of e)) c.in-Turn.is c.requires.there) tt c.turn.ensures

pub returns-in-Noise : goal.returns-in-Noise
returns-in-Noise g c =
    changes _ _ _ _ _ _ _ _ _ _ c.requires.stands _ _ tt _ _ c.in-Noise.is refl refl
    (subst (λ (e : Event). IsThere c.args.core.now.world (input_of e)) c.in-Noise.is c.requires.there) tt c.arm_noise.ensures

pub returns-in-Fault : goal.returns-in-Fault
returns-in-Fault g c =
    changes _ _ _ _ _ _ _ _ _ _ c.requires.stands _ _ tt _ _ c.in-Fault.is refl refl
    (subst (λ (e : Event). IsThere c.args.core.now.world (input_of e)) c.in-Fault.is c.requires.there) tt c.arm.ensures

pub returns-in-Online : goal.returns-in-Online
returns-in-Online g c =
    changes _ _ _ _ _ _ _ _ _ _ c.requires.stands _ _ tt _ _ c.in-Online.is refl refl
    (subst (λ (e : Event). IsThere c.args.core.now.world (input_of e)) c.in-Online.is c.requires.there) tt c.set_online.ensures

pub returns-in-Lock : goal.returns-in-Lock
returns-in-Lock g c =
    changes _ _ _ _ _ _ _ _ _ _ c.requires.stands _ _ tt _ _ c.in-Lock.is refl refl
    (subst (λ (e : Event). IsThere c.args.core.now.world (input_of e)) c.in-Lock.is c.requires.there) tt c.set_locked.ensures
