-- WHAT IS DRAWN, and what is told of it.
use Rattle.std.specs.Prelude.{◌≡◌, ◌⊎◌, ℕ, ◌≤◌, ◌-◌, Bool, IsTrue, List, ◌++◌}
use Rattle.outside_traits.specs.Causes.{Rose}
use Rattle.outside_traits.specs.Puts.{TakesFront}
use Rattle.picture_chart.specs.Pages.{IsChartOf}
use Rattle.run_plan.specs.declared.sheet.Sheet.{Sheet}
use Rattle.picture_svg.specs.Pictures.{IsPicture}
use Rattle.run_plan.specs.declared.plan.Plan.{Plan}
use Rattle.run_plan.specs.Events.{events_of}
use Rattle.run_plan.specs.Figures.{IsSummary}
use Rattle.run_plan.specs.Plans.{Plans}
use Rattle.run_plan.specs.Rows.{requests_of}
use Rattle.run_view.specs.Captions.{caption_of}
use Rattle.run_view.specs.declared.view.View.{View}
use Rattle.run_view.specs.Views.{Views}
use Rattle.script_lines.specs.declared.kinds.ScriptKind.{ScriptKind}
use Rattle.script_reader.specs.Grammar as scripts
use Rattle.script_reader.specs.Stored.{Stored}
use Rattle.script_lines.specs.Refusals.{refusal_text}
use Rattle.script_lines.specs.Words.{all_verbs}
use Rattle.trace_reader.specs.declared.fault.TraceKind.{TraceKind}
use Rattle.hpview_run.specs.declared.load.ViewFault.{ViewFault}
use Rattle.hpview_run.specs.declared.load.ViewFault.TheVariants as faults
use Rattle.hpview_run.specs.declared.words.Command.{Command}
use Rattle.hpview_run.specs.declared.words.Form.{Form}
use Rattle.hpview_run.specs.declared.words.Form.TheVariants.{Svg, Chart, Requests, Summary, Events}
use Rattle.hpview_run.specs.Loading.{Loads, RefusesBeside, ShowsNone}
use Rattle.hpview_run.specs.Words.{trace_refusal, window_refusal}

-- a text is told from the plan of a sheet
pub record IsTold (Tells : Plan → List ℕ → Type 0) (sheet : Sheet) (text : List ℕ) : Type 0 where
  pub plan : Plan
  pub plans : Plans sheet plan
  pub tells : Tells plan text

abbrev pub TellsRequests : Plan → List ℕ → Type 0
TellsRequests plan text = text ≡ requests_of plan.rows.items

abbrev pub TellsEvents : Plan → List ℕ → Type 0
TellsEvents plan text = text ≡ events_of plan

-- what is shown of a sheet, in a form: for a browser a picture, for a terminal a chart; of its plan the lines of the requests, the
-- lines of the drives, and the trace events
abbrev pub IsDrawnAs : Form → Sheet → List ℕ → Type 0
IsDrawnAs Svg sheet text = IsPicture sheet text
IsDrawnAs Chart sheet text = IsChartOf sheet text
IsDrawnAs Requests sheet text = IsTold TellsRequests sheet text
IsDrawnAs Summary sheet text = IsTold IsSummary sheet text
IsDrawnAs Events sheet text = IsTold TellsEvents sheet text

-- DRAWN IN A FORM: a text is the picture of a sheet with what is shown, under a caption
pub record IsDrawn (form : Form) (caption : List ℕ) (view : View) (text : List ℕ) : Type 0 where
  pub sheet : Sheet
  pub caption_is : sheet.caption.now ≡ caption
  pub run : sheet.run.now ≡ view.run
  pub window : sheet.window ≡ view.window
  pub texts : sheet.texts.now ≡ view.texts.items
  pub notes : sheet.notes.now ≡ view.notes.items
  pub picture : IsDrawnAs form sheet text

-- THE PICTURE is of what is shown of the run that script and trace tell of: of the events that the command names, of which the run
-- has the first, under the script's own caption
pub record Draws (command : Command) (text trace picture : List ℕ) : Type 0 where
  pub stored : Stored
  pub loads : Loads text stored
  pub view : View
  pub views : Views stored trace (command.from - 1) command.to view
  pub some : command.from ≤ view.events
  pub drawn : IsDrawn command.form (caption_of text) view picture

-- A text was taken whole; or the sink failed, and took a front of it.
abbrev pub Told : List ℕ → List ℕ → List ℕ → ℕ → ℕ → Type 0
Told taken taken' text faults faults' = (taken' ≡ taken ++ text) ⊎ (Rose faults faults' × TakesFront taken taken' text)

-- What is told of a fault: of a refusal its line, else nothing.
abbrev pub TellsFault : ViewFault → List ℕ → List ℕ → ℕ → ℕ → Type 0
TellsFault (faults.Script line kind) taken taken' before after = Told taken taken' (refusal_text line kind) before after
TellsFault (faults.Trace line kind) taken taken' before after = Told taken taken' (trace_refusal line kind) before after
TellsFault (faults.Window events) taken taken' before after = Told taken taken' (window_refusal events) before after
TellsFault fault taken taken' before after = Unit {0}

-- IT IS DONE: where the sources tell, what they gave is drawn; where the sink tells, it took the picture, and nothing else.
pub record HasDrawn (command : Command) (tells : Bool) (text : List ℕ) (trace_tells : Bool) (trace : List ℕ) (out_tells : Bool) (taken taken' : List ℕ) : Type 0 where
  pub picture : List ℕ
  pub draws : IsTrue tells → IsTrue trace_tells → Draws command text trace picture
  pub told : IsTrue out_tells → taken' ≡ taken ++ picture

-- THE SINK FAILED under the picture, and took a front of it.
pub record HasStopped (command : Command) (tells : Bool) (text : List ℕ) (trace_tells : Bool) (trace : List ℕ) (out_tells : Bool) (taken taken' : List ℕ) : Type 0 where
  pub picture : List ℕ
  pub draws : IsTrue tells → IsTrue trace_tells → Draws command text trace picture
  pub told : IsTrue out_tells → TakesFront taken taken' picture

-- IT IS REFUSED: the script, or the trace beside it, with the first fault
pub record ScriptRefused (tells : Bool) (text : List ℕ) (out_tells : Bool) (taken taken' : List ℕ) (faults faults' : ℕ) : Type 0 where
  pub line : ℕ
  pub kind : ScriptKind
  pub first : IsTrue tells → scripts.IsRefused all_verbs text line kind
  pub told : IsTrue out_tells → Told taken taken' (refusal_text line kind) faults faults'

pub record TraceRefused (tells : Bool) (text : List ℕ) (trace_tells : Bool) (trace : List ℕ) (out_tells : Bool) (taken taken' : List ℕ) (faults faults' : ℕ) : Type 0 where
  pub line : ℕ
  pub kind : TraceKind
  pub first : IsTrue tells → IsTrue trace_tells → RefusesBeside line kind text trace
  pub told : IsTrue out_tells → Told taken taken' (trace_refusal line kind) faults faults'

abbrev pub TellsRefusal : Bool → List ℕ → Bool → List ℕ → Bool → List ℕ → List ℕ → ℕ → ℕ → Type 0
TellsRefusal tells text trace_tells trace out_tells taken taken' faults faults' =
    ScriptRefused tells text out_tells taken taken' faults faults' ⊎ TraceRefused tells text trace_tells trace out_tells taken taken' faults faults'

-- NO EVENT IS SHOWN: the run has none of those that the command names, and it is told how many the run has
pub record TellsNone (command : Command) (tells : Bool) (text : List ℕ) (trace_tells : Bool) (trace : List ℕ) (out_tells : Bool) (taken taken' : List ℕ) (faults faults' : ℕ) : Type 0 where
  pub events : ℕ
  pub none : IsTrue tells → IsTrue trace_tells → ShowsNone command events text trace
  pub told : IsTrue out_tells → Told taken taken' (window_refusal events) faults faults'
