-- What each sink took in a run.
use Rattle.command_parts.specs.Outside.{Outside}
use Rattle.event_player.specs.Passes.{Took}

abbrev pub out_took : (old new : Outside) → Took
out_took old new = record { tells = new.out_tells; before = old.said; after = new.said; faults = old.out_faults; faults_after = new.out_faults }

abbrev pub trace_took : (old new : Outside) → Took
trace_took old new = record { tells = new.trace_tells; before = old.taken; after = new.taken; faults = old.trace_faults; faults_after = new.trace_faults }
