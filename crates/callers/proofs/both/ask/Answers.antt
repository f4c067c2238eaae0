use Rattle.std.proofs.Common.{rules, ◌≢◌, ℕ, ◌+◌, [], sym, subst}
use Rattle.driver_machine.specs.World.{World}
use Rattle.hp_driver.specs.Subsystem.{asked}
use Rattle.callers.specs.Asking.{Fits}
use Rattle.callers.proofs.Carrying.{next_fresh, next_room, submitted_fits, may_call, taken_fits}
use Rattle.callers.proofs.both.ask.Goals as goal

pub submit-requires-clause-asked : goal.submit-requires-clause-asked
submit-requires-clause-asked g c =
    let w : World = c.args.subsystem.now.world in
    record {
      unit = c.requires.may.fits.units c.one_block.result.unit c.one_block.ensures.unit;
      request = search rules;
      none = search rules;
      fresh = λ p h at going. subst (λ (id : ℕ). h.id ≢ id) (sym c.one_block.ensures.id) (next_fresh c.args.id w c.requires.may.fits p h at going);
      room = next_room c.args.id c.args.subsystem.now.outstanding w c.requires.may.fits c.requires.room;
    }

pub returns-in-Ok-clause-may : goal.returns-in-Ok-clause-may
returns-in-Ok-clause-may g c =
    let old : World = c.args.subsystem.now.world in
    let now : World = c.submit.new.self.world in
    let before : Fits c.one_block.result.id old = subst (λ (id : ℕ). Fits id old) (sym c.one_block.ensures.id) c.requires.may.fits in
    let behind : Fits (c.one_block.result.id + 1) now =
    submitted_fits g.T.Sink.tells g.T.Sink.taken c.args.trace.now c.submit.new.trace c.args.line (asked c.one_block.result []) old now c.args.subsystem.now.kept c.submit.new.self.kept
    c.law.ensures.sound (c.law.ensures.work c.requires.may.call.going) c.in-Ok.ensures.does before in
    record {
      call = may_call c.submit.new.self c.take_answers.new.subsystem c.take_answers.ensures c.in-Ok.ensures.going;
      fits = taken_fits (c.args.id + 1) c.submit.new.self c.take_answers.new.subsystem c.take_answers.ensures
          (subst (λ (id : ℕ). Fits (id + 1) now) c.one_block.ensures.id behind);
    }
