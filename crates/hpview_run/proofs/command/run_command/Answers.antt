use Rattle.std.proofs.Common.{List, ℕ, ◌++◌, ap, sym, ◌∙◌, subst}
use Rattle.outside_traits.specs.Puts.{TakesFront}
use Rattle.hpview_run.proofs.CommandLaws.{drawn_no_usage, drawn_some, no_done, no_sink, no_usage, none_told, silent_by, refusal_told}
use Rattle.hpview_run.proofs.command.run_command.Goals as goal

pub returns-in-Ok-clause-no_usage : goal.returns-in-Ok-clause-no_usage
returns-in-Ok-clause-no_usage g c = drawn_no_usage c.put_picture.result c.put_picture.ensures.status

pub returns-in-Ok-clause-none : goal.returns-in-Ok-clause-none
returns-in-Ok-clause-none g c = λ e. absurd (drawn_some c.put_picture.result c.put_picture.ensures.status e)

pub returns-in-Ok-clause-done : goal.returns-in-Ok-clause-done
returns-in-Ok-clause-done g c = λ e. record {
  picture = c.in-Ok.picture.items;
  draws = λ t u. c.in-Ok.ensures.ok t u;
  told = λ t. c.put_picture.ensures.done e t ∙ ap (λ (text : List ℕ). g.O.Sink.taken c.args.out.now ++ text) c.as_slice.ensures.value;
}

pub returns-in-Ok-clause-stopped : goal.returns-in-Ok-clause-stopped
returns-in-Ok-clause-stopped g c = λ e. record {
  picture = c.in-Ok.picture.items;
  draws = λ t u. c.in-Ok.ensures.ok t u;
  told = λ t. subst (λ (text : List ℕ). TakesFront (g.O.Sink.taken c.args.out.now) (g.O.Sink.taken c.put_picture.new.out) text) c.as_slice.ensures.value (c.put_picture.ensures.stopped e t);
}

pub returns-in-Err-clause-no_usage : goal.returns-in-Err-clause-no_usage
returns-in-Err-clause-no_usage g c = λ e. no_usage c.in-Err.fault (sym c.put_fault.ensures.status ∙ e)

pub returns-in-Err-clause-done : goal.returns-in-Err-clause-done
returns-in-Err-clause-done g c = λ e. absurd (no_done c.in-Err.fault (sym c.put_fault.ensures.status ∙ e))

pub returns-in-Err-clause-stopped : goal.returns-in-Err-clause-stopped
returns-in-Err-clause-stopped g c = λ e. absurd (no_sink c.in-Err.fault (sym c.put_fault.ensures.status ∙ e))

pub returns-in-Err-clause-sink : goal.returns-in-Err-clause-sink
returns-in-Err-clause-sink g c = λ e. absurd (no_sink c.in-Err.fault (sym c.put_fault.ensures.status ∙ e))

pub returns-in-Err-clause-refused : goal.returns-in-Err-clause-refused
returns-in-Err-clause-refused g c = λ e.
    refusal_told c.args.command c.in-Err.fault _ _ _ _ _ _ _ _ _ c.in-Err.ensures.refused (sym c.put_fault.ensures.status ∙ e) c.put_fault.ensures.told

pub returns-in-Err-clause-none : goal.returns-in-Err-clause-none
returns-in-Err-clause-none g c = λ e.
    none_told c.args.command c.in-Err.fault _ _ _ _ _ _ _ _ _ c.in-Err.ensures.refused (sym c.put_fault.ensures.status ∙ e) c.put_fault.ensures.told

pub returns-in-Err-clause-silent : goal.returns-in-Err-clause-silent
returns-in-Err-clause-silent g c = λ e. c.put_fault.ensures.silent (silent_by c.put_fault.result c.in-Err.fault c.put_fault.ensures.status e)
