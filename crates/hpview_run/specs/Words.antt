-- The words of the command line, and the texts of refusals.
use Rattle.std.specs.Prelude.{ℕ, ◌++◌, ◌-◌, ◌^◌, nat_le, ◌==◌, if◌then◌else◌, Bool, true, false, not, ◌&&◌, List, [], ◌∷◌, slice_index, map, Option, Some, None, codes, decimal, String}
use Rattle.std.specs.declared.alloc.Global.{Global}
use Rattle.std.specs.Result.{result_ok}
use Rattle.std.specs.Str.{bytes_eq}
use Rattle.std.specs.String.{string_bytes}
use Rattle.mass_text.specs.Numbers.{number_of}
use Rattle.mass_text.specs.declared.numbers.Radix.TheVariants.{Decimal}
use Rattle.trace_reader.specs.declared.fault.TraceKind.{TraceKind}
use Rattle.trace_reader.specs.declared.fault.TraceKind.TheVariants as kinds
use Rattle.hpview_run.specs.declared.words.Command.{Command}
use Rattle.hpview_run.specs.declared.words.Form.{Form}
use Rattle.hpview_run.specs.declared.words.Form.TheVariants.{Svg, Chart, Requests, Summary, Events}

-- the word of a form
unfoldable pub form_named : List ℕ → Option Form
form_named word =
    if bytes_eq word (codes "svg")
    then Some Svg
    else if bytes_eq word (codes "text")
    then Some Chart
    else if bytes_eq word (codes "tsv")
    then Some Requests
    else if bytes_eq word (codes "summary") then Some Summary else if bytes_eq word (codes "json") then Some Events else None

-- an event's number, from 1 and below 2^32, in decimal without a zero too many
abbrev pub is_spare : List ℕ → Bool
is_spare word = slice_index word 0 == 48

abbrev pub event_named : List ℕ → Option ℕ
event_named word = if is_spare word then None else result_ok (number_of Decimal (2 ^ 32 - 1) word)

-- the summary is of the whole run
abbrev pub is_whole : Form → Bool
is_whole Summary = true
is_whole Svg = false
is_whole Chart = false
is_whole Requests = false
is_whole Events = false

-- the events from one to another, counted from 1
abbrev pub is_span : Form → ℕ → ℕ → Bool
is_span form from to = nat_le from to && not (is_whole form)

abbrev pub span_of : Form → Option ℕ → Option ℕ → Option Command
span_of form (Some from) (Some to) = if is_span form from to then Some (record { form = form; from = from; to = to }) else None
span_of form None to = None
span_of form (Some from) None = None

abbrev pub command_by : Option Form → List (List ℕ) → Option Command
command_by None words = None
command_by (Some form) [] = Some (record { form = form; from = 0; to = 2 ^ 32 - 1 })
command_by (Some form) (from ∷ to ∷ []) = span_of form (event_named from) (event_named to)
command_by (Some form) words = None

abbrev pub command_named : List (List ℕ) → Option Command
command_named [] = None
command_named (word ∷ words) = command_by (form_named word) words

-- THE COMMAND that the words name: the whole run, or its events from one to another
abbrev pub command_of : List (String Global) → Option Command
command_of words = command_named (map string_bytes words)

unfoldable pub usage_text : List ℕ
usage_text = codes "usage: hpview summary, or svg, text, tsv or json [FROM TO] < SCRIPT, with the trace in hp.trace" ++ 10 ∷ []

unfoldable pub trace_word : TraceKind → List ℕ
trace_word kinds.Long = codes "long"
trace_word kinds.Word = codes "word"
trace_word kinds.Order = codes "order"
trace_word kinds.Script = codes "script"
trace_word kinds.Ended = codes "ended"

unfoldable pub trace_refused : List ℕ
trace_refused = codes "refused trace line "

-- `refused trace line L KIND`
abbrev pub trace_refusal : ℕ → TraceKind → List ℕ
trace_refusal line kind = trace_refused ++ decimal line ++ codes " " ++ trace_word kind ++ 10 ∷ []

unfoldable pub window_refused : List ℕ
window_refused = codes "refused window "

-- `refused window E`: of a run with so many events
abbrev pub window_refusal : ℕ → List ℕ
window_refusal events = window_refused ++ decimal events ++ 10 ∷ []
