-- WHAT IS READ from outside, and what is wrong with it.
use Rattle.std.specs.Prelude.{◌≡◌, ◌⊎◌, ℕ, ◌<◌, Bool, IsTrue, List, [], ◌++◌, length}
use Rattle.outside_traits.specs.declared.whole.ReadAllFault.{ReadAllFault}
use Rattle.outside_traits.specs.declared.whole.ReadAllFault.TheVariants as all
use Rattle.script_reader.specs.declared.fault.ReadFault.{ReadFault}
use Rattle.script_reader.specs.declared.fault.ReadFault.TheVariants as read
use Rattle.script_reader.specs.Grammar.{Spells}
use Rattle.script_reader.specs.Grammar as scripts
use Rattle.script_reader.specs.Stored.{Stored, lines_in}
use Rattle.script_lines.specs.Words.{all_verbs}
use Rattle.trace_reader.specs.declared.fault.TraceFault.{TraceFault}
use Rattle.trace_reader.specs.declared.fault.TraceFault.TheVariants as traces
use Rattle.trace_reader.specs.declared.fault.TraceKind.{TraceKind}
use Rattle.trace_reader.specs.declared.line.TraceLine.{TraceLine}
use Rattle.trace_reader.specs.Grammar as grammar
use Rattle.run_view.specs.Plays.{plays_of}
use Rattle.run_view.specs.Runs.{run_of}
use Rattle.run_view.specs.Views.{events_of}
use Rattle.hpview_run.specs.declared.words.Command.{Command}
use Rattle.hpview_run.specs.declared.load.ViewFault.{ViewFault}
use Rattle.hpview_run.specs.declared.load.ViewFault.TheVariants as faults

abbrev pub from_read_all : ReadAllFault → ViewFault
from_read_all all.Memory = faults.Memory
from_read_all all.Failed = faults.Failed

abbrev pub from_read : ReadFault → ViewFault
from_read read.Memory = faults.Memory
from_read (read.Refused line kind) = faults.Script line kind

abbrev pub from_trace : TraceFault → ViewFault
from_trace traces.Memory = faults.Memory
from_trace (traces.Refused line kind) = faults.Trace line kind

-- all bytes of a source were read, or more than a limit
pub record IsRead (limit : ℕ) (source bytes : List ℕ) : Type 0 where
  pub rest : List ℕ
  pub front : source ≡ bytes ++ rest
  pub end : (rest ≡ []) ⊎ (limit < length bytes)

-- A SCRIPT as it is stored
pub record Loads (bytes : List ℕ) (stored : Stored) : Type 0 where
  pub text : stored.text ≡ bytes
  pub spells : Spells all_verbs bytes (lines_in stored) stored.count

-- THE FIRST FAULT of a trace, beside the script that other bytes spell
pub record RefusesBeside (line : ℕ) (kind : TraceKind) (text trace : List ℕ) : Type 0 where
  pub stored : Stored
  pub loads : Loads text stored
  pub refused : grammar.IsRefused stored trace line kind

-- THE WINDOW IS EMPTY: the run has so many events, and the first that the command names is behind them
pub record ShowsNone (command : Command) (events : ℕ) (text trace : List ℕ) : Type 0 where
  pub stored : Stored
  pub loads : Loads text stored
  pub lines : List TraceLine
  pub spells : grammar.Spells stored trace lines
  pub events_are : events ≡ events_of (run_of (plays_of stored) lines)
  pub fewer : events < command.from

-- what is refused of a view: events that it does not have
abbrev pub IsOfView : Command → ℕ → ViewFault → Type 0
IsOfView command events (faults.Window other) = (other ≡ events) × (events < command.from)
IsOfView command events faults.Memory = Unit {0}
IsOfView command events fault = ⊥

-- A REFUSAL says the first fault of the script; or, where the source of the trace tells, that of the trace, or that the window is empty
abbrev pub Refuses : Command → Bool → ViewFault → List ℕ → List ℕ → Type 0
Refuses command tells (faults.Script line kind) text trace = scripts.IsRefused all_verbs text line kind
Refuses command tells (faults.Trace line kind) text trace = IsTrue tells → RefusesBeside line kind text trace
Refuses command tells (faults.Window events) text trace = IsTrue tells → ShowsNone command events text trace
Refuses command tells fault text trace = Unit {0}
