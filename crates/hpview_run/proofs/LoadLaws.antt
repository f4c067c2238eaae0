-- What was read of a source, and what its bytes spell.
use Rattle.std.proofs.Common.{◌≡◌, ◌⊎◌, inl, inr, ℕ, ◌<◌, ◌≤◌, List, [], ◌++◌, length, Bool, IsTrue, Result, Ok, Err, IfOk, OnOk, sym, ap, ◌∙◌, subst, append-nil, arith, length-append}
use Rattle.script_lines.specs.declared.kinds.ScriptKind.{ScriptKind}
use Rattle.script_reader.specs.Grammar as scripts
use Rattle.script_reader.specs.Stored.{Stored}
use Rattle.script_lines.specs.Words.{all_verbs}
use Rattle.trace_reader.specs.declared.fault.TraceKind.{TraceKind}
use Rattle.trace_reader.specs.Grammar as traces
use Rattle.run_view.specs.declared.view.View.{View}
use Rattle.run_view.specs.Views.{Views}
use Rattle.script_reader.specs.declared.fault.ReadFault.{ReadFault}
use Rattle.script_reader.specs.declared.fault.ReadFault.TheVariants as read
use Rattle.script_reader.specs.Reading as reading
use Rattle.trace_reader.specs.declared.fault.TraceFault.{TraceFault}
use Rattle.trace_reader.specs.declared.fault.TraceFault.TheVariants as told
use Rattle.hpview_run.specs.declared.load.ViewFault.{ViewFault}
use Rattle.hpview_run.specs.declared.load.ViewFault.TheVariants as faults
use Rattle.hpview_run.specs.declared.words.Command.{Command}
use Rattle.hpview_run.specs.Drawing.{Draws}
use Rattle.hpview_run.specs.Loading.{IsOfView, IsRead, Loads, Refuses, ShowsNone, from_read, from_trace}

whole_by : (n : ℕ) (source bytes rest : List ℕ) → source ≡ bytes ++ rest → (rest ≡ []) ⊎ (n < length bytes) → length bytes ≤ n → source ≡ bytes
whole_by n source bytes rest front (inl none) short = front ∙ ap (λ (r : List ℕ). bytes ++ r) none ∙ append-nil bytes
whole_by n source bytes rest front (inr long) short = absurd (omega (arith, long, short))

-- what is short was read whole
pub whole : (n : ℕ) (source bytes : List ℕ) → IsRead n source bytes → length bytes ≤ n → source ≡ bytes
whole n source bytes r short = whole_by n source bytes r.rest r.front r.end short

longer : (n : ℕ) (source bytes : List ℕ) → IsRead n source bytes → n < length bytes → n < length source
longer n source bytes r long = subst (λ (s : List ℕ). n < length s) (sym r.front) (omega (arith, long, length-append bytes r.rest))

-- A REFUSAL of what was read is one of the source
pub script_refused : (source text : List ℕ) (line : ℕ) (kind : ScriptKind) → IsRead 16777216 source text → scripts.IsRefused all_verbs text line kind → scripts.IsRefused all_verbs source line kind
script_refused source text line kind r (inl (long, n, k)) = inl (longer 16777216 source text r long, n, k)
script_refused source text line kind r (inr (short, first)) =
    subst (λ (s : List ℕ). scripts.IsRefused all_verbs s line kind) (sym (whole 16777216 source text r short)) (inr (short, first))

pub trace_refused : (stored : Stored) (source bytes : List ℕ) (line : ℕ) (kind : TraceKind) → IsRead 268435456 source bytes → traces.IsRefused stored bytes line kind → traces.IsRefused stored source line kind
trace_refused stored source bytes line kind r (inl (long, n, k)) = inl (longer 268435456 source bytes r long, n, k)
trace_refused stored source bytes line kind r (inr (short, first)) =
    subst (λ (s : List ℕ). traces.IsRefused stored s line kind) (sym (whole 268435456 source bytes r short)) (inr (short, first))

-- A VIEW of what was read is one of the source
pub view_of : (stored : Stored) (source bytes : List ℕ) (first last : ℕ) (view : View) → IsRead 268435456 source bytes → Views stored bytes first last view → Views stored source first last view
view_of stored source bytes first last view r v =
    subst (λ (s : List ℕ). Views stored s first last view) (sym (whole 268435456 source bytes r v.spells.short)) v

-- WHATEVER A READER REFUSES
pub read_refuses : (command : Command) (tells : Bool) (source text trace : List ℕ) (fault : ReadFault) (made : ViewFault) → made ≡ from_read fault → IsRead 16777216 source text → reading.Refuses all_verbs fault text
    → Refuses command tells made source trace
read_refuses command tells source text trace fault made e r refused = subst (λ (f : ViewFault). Refuses command tells f source trace) (sym e) (by_fault fault refused)
  where
    by_fault : (fault : ReadFault) → reading.Refuses all_verbs fault text → Refuses command tells (from_read fault) source trace
    by_fault read.Memory refused = tt
    by_fault (read.Refused line kind) refused = script_refused source text line kind r refused

pub trace_refuses : (command : Command) (tells : Bool) (stored : Stored) (text bytes : List ℕ) (fault : TraceFault) (made : ViewFault) → made ≡ from_trace fault → Loads text stored
    → traces.Refuses stored bytes fault → Refuses command tells made text bytes
trace_refuses command tells stored text bytes fault made e loads refused = subst (λ (f : ViewFault). Refuses command tells f text bytes) (sym e) (by_fault fault refused)
  where
    by_fault : (fault : TraceFault) → traces.Refuses stored bytes fault → Refuses command tells (from_trace fault) text bytes
    by_fault told.Memory refused = tt
    by_fault (told.Refused line kind) refused = λ t. record { stored = stored; loads = loads; refused = refused }

pub trace_is_inside : (fault : TraceFault) (made : ViewFault) → made ≡ from_trace fault → made ≡ faults.Failed → ⊥
trace_is_inside told.Memory made e failed = cc
trace_is_inside (told.Refused line kind) made e failed = cc

-- WHAT WAS READ is of the sources
pub draws_of : (command : Command) (text trace bytes picture : List ℕ) → IsRead 268435456 trace bytes → Draws command text bytes picture → Draws command text trace picture
draws_of command text trace bytes picture r d = record {
  stored = d.stored;
  loads = d.loads;
  view = d.view;
  views = view_of d.stored trace bytes _ _ d.view r d.views;
  some = d.some;
  drawn = d.drawn;
}

pub refuses_of : (command : Command) (tells : Bool) (fault : ViewFault) (text trace bytes : List ℕ) → (IsTrue tells → IsRead 268435456 trace bytes) → Refuses command tells fault text bytes
    → Refuses command tells fault text trace
refuses_of command tells (faults.Trace line kind) text trace bytes r refused = λ t. let beside = refused t in record {
  stored = beside.stored;
  loads = beside.loads;
  refused = trace_refused beside.stored trace bytes line kind (r t) beside.refused;
}
refuses_of command tells (faults.Window events) text trace bytes r refused = λ t.
    subst (λ (s : List ℕ). ShowsNone command events text s) (sym (whole 268435456 trace bytes (r t) (refused t).spells.short)) (refused t)
refuses_of command tells (faults.Script line kind) text trace bytes r refused = refused
refuses_of command tells other text trace bytes r refused = tt

-- what is neither of the script nor of the trace refuses nothing of them
pub refuses_none : (command : Command) (tells : Bool) (fault : ViewFault) (text trace : List ℕ) → (fault ≡ faults.Memory) ⊎ (fault ≡ faults.Failed) → Refuses command tells fault text trace
refuses_none command tells fault text trace (inl e) = subst (λ (f : ViewFault). Refuses command tells f text trace) (sym e) tt
refuses_none command tells fault text trace (inr e) = subst (λ (f : ViewFault). Refuses command tells f text trace) (sym e) tt

-- WHAT IS REFUSED OF A VIEW is refused of the run, and no source has failed
pub view_refuses : (command : Command) (tells : Bool) (stored : Stored) (text trace : List ℕ) (first last : ℕ) (view : View) (fault : ViewFault) → Loads text stored → Views stored trace first last view
    → IsOfView command view.events fault → Refuses command tells fault text trace
view_refuses command tells stored text trace first last view (faults.Window events) loads v is = λ t. record {
  stored = stored;
  loads = loads;
  lines = v.lines;
  spells = v.spells;
  events_are = is.0 ∙ v.events;
  fewer = subst (λ (n : ℕ). n < command.from) (sym is.0) is.1;
}
view_refuses command tells stored text trace first last view faults.Memory loads v is = tt
view_refuses command tells stored text trace first last view other loads v is = absurd is

pub view_inside : (command : Command) (events : ℕ) (fault : ViewFault) → IsOfView command events fault → fault ≡ faults.Failed → ⊥
view_inside command events faults.Failed is e = is
view_inside command events other is e = cc

-- two facts of what is drawn
pub both_ok : {T E : Type 0} (P : T → Type 0) (Q : Type 0) (result : Result T E) → IfOk result P → OnOk result Q → IfOk result (λ value. P value × Q)
both_ok P Q (Ok value) p q = (p, q)
both_ok P Q (Err fault) p q = tt
