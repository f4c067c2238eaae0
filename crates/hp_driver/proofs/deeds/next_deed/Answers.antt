use Rattle.std.proofs.Common.{◌≡◌, ◌∷◌, [], true, false, sym, subst, List, Ok, Err, Bool}
use Rattle.std.specs.Prelude.{◌≢◌}
use Rattle.std.proofs.lemmas.Bool.{false≢true}
use Rattle.hp_core.specs.Deeds.{act_of, deed_in}
use Rattle.driver_machine.specs.World.{World, unit_at, adapter_at, adapter_of}
use Rattle.driver_machine.specs.Acts.{Act}
use Rattle.driver_machine.specs.Events.{next_acts}
use Rattle.driver_machine.specs.Sound.{Sound}
use Rattle.hp_driver.specs.Done.{DoesActs}
use Rattle.hp_driver.specs.Free.{IsFree}
use Rattle.hp_driver.specs.Hand.{hand_at}
use Rattle.hp_driver.proofs.Exits.{handed, err_if}
use Rattle.hp_driver.proofs.Facts.{asked_here}
use Rattle.hp_driver.proofs.Joined.{done_nothing, of_act}
use Rattle.hp_driver.proofs.Next.{none_waiting}
use Rattle.hp_driver.proofs.Whole.{IsDueHere, due_here, none_here, may_here, stopped_here, done_here, some_here, sound_here, free_here}
use Rattle.hp_driver.proofs.deeds.next_deed.Goals as goal

pub due_deed-requires : goal.due_deed-requires
due_deed-requires g c = record { hand = asked_here c.args.core.now.world c.args.u c.in-Some.asked _ c.requires.sound c.requires.unit c.in-Some.ensures.some c.in-Some.ensures.asked c.unit.ensures }

pub act-requires : goal.act-requires
act-requires g c =
    let w : World = c.args.core.now.world in
    let is : IsDueHere w c.args.u c.in-Some.asked.id (deed_in c.in-Some-due_deed.deed (unit_at w c.args.u) (hand_at w c.args.u) (adapter_at w (adapter_of c.args.u)).state) =
    due_here w c.args.u c.in-Some.asked c.in-Some-due_deed.deed _ c.requires.sound c.requires.unit c.requires.free c.in-Some.ensures.some c.in-Some.ensures.asked c.unit.ensures c.in-Some-due_deed.ensures in
    record { sound = c.requires.sound; may = may_here w c.args.line c.args.u c.in-Some.asked.id _ is }

pub returns : goal.returns
returns g c =
    let w : World = c.args.core.now.world in
    let is : IsDueHere w c.args.u c.in-Some.asked.id (deed_in c.in-Some-due_deed.deed (unit_at w c.args.u) (hand_at w c.args.u) (adapter_at w (adapter_of c.args.u)).state) =
    due_here w c.args.u c.in-Some.asked c.in-Some-due_deed.deed _ c.requires.sound c.requires.unit c.requires.free c.in-Some.ensures.some c.in-Some.ensures.asked c.unit.ensures c.in-Some-due_deed.ensures in
    let does : DoesActs g.T.Sink.tells g.T.Sink.taken g.T.Sink.faults c.args.trace.now c.act.new.trace c.args.core.now c.act.new.self (Ok tt) (act_of w c.args.line c.args.u c.in-Some.asked.id c.in-Some-due_deed.deed ∷ []) = of_act g.T.Sink.tells g.T.Sink.taken g.T.Sink.faults c.args.trace.now c.act.new.trace c.args.core.now c.act.new.self (Ok tt) _ c.in_ok-act.ensures in
    record {
      does = done_here g.T.Sink.tells g.T.Sink.taken g.T.Sink.faults c.args.trace.now c.act.new.trace c.args.core.now c.act.new.self c.args.line c.args.u c.in-Some.asked.id _ tt true is does;
      some = λ e. some_here g.T.Sink.tells g.T.Sink.taken g.T.Sink.faults c.args.trace.now c.act.new.trace c.args.core.now c.act.new.self c.args.line c.args.u c.in-Some.asked.id _ is;
      none = λ e. absurd (false≢true (sym e));
      sound = sound_here g.T.Sink.tells g.T.Sink.taken g.T.Sink.faults c.args.trace.now c.act.new.trace c.args.core.now c.act.new.self c.args.line c.args.u c.in-Some.asked.id _ tt is does;
      free = free_here g.T.Sink.tells g.T.Sink.taken g.T.Sink.faults c.args.trace.now c.act.new.trace c.args.core.now c.act.new.self c.args.line c.args.u c.in-Some.asked.id _ tt is does;
    }

pub returns-in_err-act : goal.returns-in_err-act
returns-in_err-act g c =
    let w : World = c.args.core.now.world in
    let is : IsDueHere w c.args.u c.in-Some.asked.id (deed_in c.in-Some-due_deed.deed (unit_at w c.args.u) (hand_at w c.args.u) (adapter_at w (adapter_of c.args.u)).state) =
    due_here w c.args.u c.in-Some.asked c.in-Some-due_deed.deed _ c.requires.sound c.requires.unit c.requires.free c.in-Some.ensures.some c.in-Some.ensures.asked c.unit.ensures c.in-Some-due_deed.ensures in
    record {
      does = handed g.T.Sink.tells g.T.Sink.taken g.T.Sink.faults c.args.trace.now c.act.new.trace c.args.core.now c.act.new.self c.from_residual.result (next_acts c.args.line c.args.u w) c.from_residual.ensures.1
          (stopped_here g.T.Sink.tells g.T.Sink.taken g.T.Sink.faults c.args.trace.now c.act.new.trace c.args.core.now c.act.new.self c.args.line c.args.u c.in-Some.asked.id _ c.in_err-act.field-0.0 is (of_act g.T.Sink.tells g.T.Sink.taken g.T.Sink.faults c.args.trace.now c.act.new.trace c.args.core.now c.act.new.self (Err c.in_err-act.field-0.0) _ c.in_err-act.ensures));
      some = err_if (λ (more : Bool). more ≡ true → next_acts c.args.line c.args.u w ≢ []) c.from_residual.result c.in_err-act.field-0.0 c.from_residual.ensures.1;
      none = err_if (λ (more : Bool). more ≡ false → next_acts c.args.line c.args.u w ≡ []) c.from_residual.result c.in_err-act.field-0.0 c.from_residual.ensures.1;
      sound = err_if (λ (more : Bool). Sound c.act.new.self.world) c.from_residual.result c.in_err-act.field-0.0 c.from_residual.ensures.1;
      free = err_if (λ (more : Bool). IsFree c.act.new.self.world c.args.u) c.from_residual.result c.in_err-act.field-0.0 c.from_residual.ensures.1;
    }

pub returns-in_default : goal.returns-in_default
returns-in_default g c =
    let w : World = c.args.core.now.world in
    let nothing : next_acts c.args.line c.args.u w ≡ [] = none_waiting w c.args.line c.args.u c.in_default.ensures.none in
    record {
      does = subst (λ (acts : List Act). DoesActs {A = Bool} g.T.Sink.tells g.T.Sink.taken g.T.Sink.faults c.args.trace.now c.args.trace.now c.args.core.now c.args.core.now (Ok false) acts) (sym nothing)
          (done_nothing g.T.Sink.tells g.T.Sink.taken g.T.Sink.faults c.args.trace.now c.args.core.now false);
      some = λ e. absurd (false≢true e);
      none = λ _. nothing;
      sound = c.requires.sound;
      free = c.requires.free;
    }

pub returns-in_default-due_deed : goal.returns-in_default-due_deed
returns-in_default-due_deed g c =
    let w : World = c.args.core.now.world in
    let nothing : next_acts c.args.line c.args.u w ≡ [] = none_here w c.args.line c.args.u c.in-Some.asked _ c.in-Some.ensures.asked c.unit.ensures c.in_default-due_deed.ensures in
    record {
      does = subst (λ (acts : List Act). DoesActs {A = Bool} g.T.Sink.tells g.T.Sink.taken g.T.Sink.faults c.args.trace.now c.args.trace.now c.args.core.now c.args.core.now (Ok false) acts) (sym nothing)
          (done_nothing g.T.Sink.tells g.T.Sink.taken g.T.Sink.faults c.args.trace.now c.args.core.now false);
      some = λ e. absurd (false≢true e);
      none = λ _. nothing;
      sound = c.requires.sound;
      free = c.requires.free;
    }
