-- WHETHER SCRIPT AND TRACE ARE RIGHT.
use Rattle.std.specs.Prelude.{◌≡◌, ◌⊎◌, ℕ, ◌<◌, List}
use Rattle.script_lines.specs.Known.{Numbered}
use Rattle.script_lines.specs.Words.{all_verbs}
use Rattle.script_lines.specs.declared.kinds.ScriptKind.{ScriptKind}
use Rattle.script_reader.specs.Grammar as scripts
use Rattle.script_reader.specs.Stored.{Stored}
use Rattle.trace_reader.specs.Grammar as traces
use Rattle.trace_reader.specs.declared.fault.TraceKind.{TraceKind}
use Rattle.trace_reader.specs.declared.line.TraceLine.{TraceLine}
use Rattle.run_view.specs.Legal.{IsLegalTrace}
use Rattle.run_view.specs.Plays.{plays_of}
use Rattle.run_view.specs.Runs.{run_of}
use Rattle.run_view.specs.Views.{events_of}
use Rattle.hpview_run.specs.declared.words.Command.{Command}
use Rattle.hpview_run.specs.Loading.{Loads}

-- RIGHT: the one spells a script, and the other spells a trace of it, or is the trace of a legal run of it
abbrev pub IsTrace : Stored → List ℕ → Type 0
IsTrace stored trace = ((told : List TraceLine) × traces.Spells stored trace told) ⊎ IsLegalTrace stored trace

pub record AreRight (text trace : List ℕ) : Type 0 where
  pub lines : List Numbered
  pub count : ℕ
  pub script : scripts.Spells all_verbs text lines count
  pub beside : (stored : Stored) → Loads text stored → IsTrace stored trace

-- FAULTY: the script has a fault, or the trace beside it
abbrev pub ScriptFaulty : List ℕ → Type 0
ScriptFaulty text = (line : ℕ) × (kind : ScriptKind) × scripts.IsRefused all_verbs text line kind

abbrev pub TraceFaulty : List ℕ → List ℕ → Type 0
TraceFaulty text trace = (stored : Stored) → Loads text stored → (line : ℕ) × (kind : TraceKind) × traces.IsRefused stored trace line kind

abbrev pub AreFaulty : List ℕ → List ℕ → Type 0
AreFaulty text trace = ScriptFaulty text ⊎ TraceFaulty text trace

-- THE WINDOW IS EMPTY: of the events of the run that script and trace tell of none is shown
abbrev pub HaveNone : Command → List ℕ → List ℕ → Type 0
HaveNone command text trace =
    (stored : Stored) → Loads text stored → (told : List TraceLine) × traces.Spells stored trace told × (events_of (run_of (plays_of stored) told) < command.from)

-- what spells a script or a trace has no fault
abbrev pub NoScriptFault : Type 0
NoScriptFault = (text : List ℕ) (lines : List Numbered) (count : ℕ) → scripts.Spells all_verbs text lines count → (line : ℕ) (kind : ScriptKind)
    → ¬ scripts.IsRefused all_verbs text line kind

abbrev pub NoTraceFault : Type 0
NoTraceFault = (stored : Stored) (trace : List ℕ) (told : List TraceLine) → traces.Spells stored trace told → (line : ℕ) (kind : TraceKind)
    → ¬ traces.IsRefused stored trace line kind

abbrev pub OneTrace : Type 0
OneTrace = (stored : Stored) (trace : List ℕ) (told others : List TraceLine) → traces.Spells stored trace told → traces.Spells stored trace others → told ≡ others
