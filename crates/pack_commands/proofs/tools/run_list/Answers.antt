use Rattle.std.proofs.Common.{ap, Err, subst}
use Rattle.pack_commands.specs.Tools.{fault_text}
use Rattle.command_parts.specs.Lines.{Told}
use Rattle.pack_commands.proofs.ToolLaws.{list_front, list_run, sink_text}
use Rattle.pack_commands.proofs.tools.run_list.Goals as goal

pub returns-in-Err-clause-runs : goal.returns-in-Err-clause-runs
returns-in-Err-clause-runs g c =
    list_run c.in-Err.fault c.refuse.ensures.status c.in-Err.ensures.faults c.in-Err.ensures.why c.in-Err.ensures.same
    (λ e. list_front _ _ (c.in-Err.ensures.front (ap (λ f. Err f) e)) c.refuse.ensures.never_again (λ t. sink_text _ _ _ _ _ c.in-Err.fault e (c.refuse.ensures.told t)))
    (λ ne t. subst (λ o. Told (g.O.Sink.taken o) (g.O.Sink.taken c.refuse.new.out) (fault_text c.args.unit c.in-Err.fault) (g.O.Sink.faults o) (g.O.Sink.faults c.refuse.new.out))
    (c.in-Err.ensures.silent ne) (c.refuse.ensures.told t))
