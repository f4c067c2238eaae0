use Rattle.hp_core.proofs.Acting.{may_as, did_as}
use Rattle.hp_core.proofs.Deeds.{has_hand, can_move}
use Rattle.hp_core.proofs.Rooms.{answers_room, frames_there, loan_there}
use Rattle.hp_core.proofs.driver.Core.put.Goals as goal

pub put_arrive-requires : goal.put_arrive-requires
put_arrive-requires c = record { sound = c.requires.sound; may = may_as c.args.self.now.world c.args.line c.args.u c.args.id _ _ c.in-Arrive.is c.requires.may }

pub returns-in-Arrive : goal.returns-in-Arrive
returns-in-Arrive c = did_as _ _ c.args.line c.args.u c.args.id _ _ c.in-Arrive.is c.put_arrive.ensures

pub put_attend-requires : goal.put_attend-requires
put_attend-requires c = record { sound = c.requires.sound; may = may_as c.args.self.now.world c.args.line c.args.u c.args.id _ _ c.in-Attend.is c.requires.may }

pub returns-in-Attend : goal.returns-in-Attend
returns-in-Attend c = did_as _ _ c.args.line c.args.u c.args.id _ _ c.in-Attend.is c.put_attend.ensures

pub put_interrupt-requires : goal.put_interrupt-requires
put_interrupt-requires c = record { sound = c.requires.sound; may = may_as c.args.self.now.world c.args.line c.args.u c.args.id _ _ c.in-Interrupt.is c.requires.may }

pub returns-in-Interrupt : goal.returns-in-Interrupt
returns-in-Interrupt c = did_as _ _ c.args.line c.args.u c.args.id _ _ c.in-Interrupt.is c.put_interrupt.ensures

pub put_search-requires : goal.put_search-requires
put_search-requires c = record { sound = c.requires.sound; may = may_as c.args.self.now.world c.args.line c.args.u c.args.id _ _ c.in-Search.is c.requires.may }

pub returns-in-Search : goal.returns-in-Search
returns-in-Search c = did_as _ _ c.args.line c.args.u c.args.id _ _ c.in-Search.is c.put_search.ensures

pub put_step-requires : goal.put_step-requires
put_step-requires c = record { sound = c.requires.sound; may = may_as c.args.self.now.world c.args.line c.args.u c.args.id _ _ c.in-Step.is c.requires.may }

pub returns-in-Step : goal.returns-in-Step
returns-in-Step c = did_as _ _ c.args.line c.args.u c.args.id _ _ c.in-Step.is c.put_step.ensures

pub put_pack-requires : goal.put_pack-requires
put_pack-requires c = record { sound = c.requires.sound; may = may_as c.args.self.now.world c.args.line c.args.u c.args.id _ _ c.in-Pack.is c.requires.may }

pub returns-in-Pack : goal.returns-in-Pack
returns-in-Pack c = did_as _ _ c.args.line c.args.u c.args.id _ _ c.in-Pack.is c.put_pack.ensures

pub put_clear-requires : goal.put_clear-requires
put_clear-requires c = record { sound = c.requires.sound; may = may_as c.args.self.now.world c.args.line c.args.u c.args.id _ _ c.in-Clear.is c.requires.may }

pub returns-in-Clear : goal.returns-in-Clear
returns-in-Clear c = did_as _ _ c.args.line c.args.u c.args.id _ _ c.in-Clear.is c.put_clear.ensures

pub put_centre-requires : goal.put_centre-requires
put_centre-requires c = record { sound = c.requires.sound; may = may_as c.args.self.now.world c.args.line c.args.u c.args.id _ _ c.in-Centre.is c.requires.may }

pub returns-in-Centre : goal.returns-in-Centre
returns-in-Centre c = did_as _ _ c.args.line c.args.u c.args.id _ _ c.in-Centre.is c.put_centre.ensures

pub put_ready-requires : goal.put_ready-requires
put_ready-requires c = record { sound = c.requires.sound; may = may_as c.args.self.now.world c.args.line c.args.u c.args.id _ _ c.in-Ready.is c.requires.may }

pub returns-in-Ready : goal.returns-in-Ready
returns-in-Ready c = did_as _ _ c.args.line c.args.u c.args.id _ _ c.in-Ready.is c.put_ready.ensures

pub put_begin-requires : goal.put_begin-requires
put_begin-requires c = record { sound = c.requires.sound; may = may_as c.args.self.now.world c.args.line c.args.u c.args.id _ _ c.in-Begin.is c.requires.may }

pub returns-in-Begin : goal.returns-in-Begin
returns-in-Begin c = did_as _ _ c.args.line c.args.u c.args.id _ _ c.in-Begin.is c.put_begin.ensures

pub put_repair-requires : goal.put_repair-requires
put_repair-requires c = record { sound = c.requires.sound; may = may_as c.args.self.now.world c.args.line c.args.u c.args.id _ _ c.in-Repair.is c.requires.may }

pub returns-in-Repair : goal.returns-in-Repair
returns-in-Repair c = did_as _ _ c.args.line c.args.u c.args.id _ _ c.in-Repair.is c.put_repair.ensures

pub put_forward-requires : goal.put_forward-requires
put_forward-requires c = record { sound = c.requires.sound; may = may_as c.args.self.now.world c.args.line c.args.u c.args.id _ _ c.in-Forward.is c.requires.may }

pub returns-in-Forward : goal.returns-in-Forward
returns-in-Forward c = did_as _ _ c.args.line c.args.u c.args.id _ _ c.in-Forward.is c.put_forward.ensures

pub put_continue-requires : goal.put_continue-requires
put_continue-requires c = record { sound = c.requires.sound; may = may_as c.args.self.now.world c.args.line c.args.u c.args.id _ _ c.in-Continue.is c.requires.may }

pub returns-in-Continue : goal.returns-in-Continue
returns-in-Continue c = did_as _ _ c.args.line c.args.u c.args.id _ _ c.in-Continue.is c.put_continue.ensures

pub put_try-requires : goal.put_try-requires
put_try-requires c = record { sound = c.requires.sound; may = may_as c.args.self.now.world c.args.line c.args.u c.args.id _ _ c.in-Try.is c.requires.may }

pub returns-in-Try : goal.returns-in-Try
returns-in-Try c = did_as _ _ c.args.line c.args.u c.args.id _ _ c.in-Try.is c.put_try.ensures

pub put_move-requires : goal.put_move-requires
put_move-requires c =
    let may = may_as c.args.self.now.world c.args.line c.args.u c.args.id _ _ c.in-Transfer.is c.requires.may in
    let can = can_move _ c.args.line _ _ c.requires.sound _ _ may in
    record {
      hand = has_hand _ c.args.line _ _ c.requires.sound c.requires.may.0;
      cpu = can.cpu;
      free = may.1.1;
      count = can.count;
      inside = can.inside;
      block = can.block;
      ready = can.go.ready;
      online = can.go.online;
    }

pub returns-in-Transfer : goal.returns-in-Transfer
returns-in-Transfer c = did_as _ _ c.args.line c.args.u c.args.id _ _ c.in-Transfer.is c.put_move.ensures

pub put_end-requires : goal.put_end-requires
put_end-requires c =
    let shape = (loan_there _ _ _ c.requires.sound c.requires.may.0).shape in
    record {
      hand = has_hand _ c.args.line _ _ c.requires.sound c.requires.may.0;
      blocks = shape.some;
      few = shape.few;
      inside = shape.inside;
      last = shape.last_few;
      frames = frames_there _ _ _ c.requires.sound c.requires.may.0;
      room = answers_room _ _ _ c.requires.sound c.requires.may.0;
    }

pub returns-in-End : goal.returns-in-End
returns-in-End c = did_as _ _ c.args.line c.args.u c.args.id _ _ c.in-End.is c.put_end.ensures
