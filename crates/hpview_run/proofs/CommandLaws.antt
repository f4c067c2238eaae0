-- What a command comes to, from what its calls answer.
use Rattle.std.proofs.Common.{◌≡◌, ◌⊎◌, inl, inr, ℕ, ◌<◌, ◌≤◌, ◌==◌, ◌++◌, List, Bool, IsTrue, Result, Ok, Err, OnOk, OnErr, Option, Some, refl, ap, subst, sym, arith, ◌∙◌}
use Rattle.std.specs.Prelude.{if◌then◌else◌}
use Rattle.outside_traits.specs.Causes.{HasCause}
use Rattle.outside_traits.specs.Puts.{TakesFront}
use Rattle.run_view.specs.Plays.{plays_of}
use Rattle.run_view.specs.Runs.{run_of}
use Rattle.run_view.specs.Views.{events_of}
use Rattle.script_reader.specs.Stored.{Stored, lines_in}
use Rattle.run_view.specs.Legal.{ReadsLegal}
use Rattle.trace_reader.specs.declared.line.TraceLine.{TraceLine}
use Rattle.trace_reader.specs.Grammar as traces
use Rattle.trace_reader.specs.RoundTrip.{lines_told}
use Rattle.hpview_run.specs.declared.load.ViewFault.{ViewFault}
use Rattle.hpview_run.specs.declared.load.ViewFault.TheVariants as faults
use Rattle.hpview_run.specs.declared.status.Status.{Status}
use Rattle.hpview_run.specs.declared.status.Status.TheVariants.{Done, Usage, Refused, SourceFailed, SinkFailed, OutOfMemory, NoEvent}
use Rattle.hpview_run.specs.declared.words.Command.{Command}
use Rattle.hpview_run.specs.Drawing.{Draws, HasDrawn, HasStopped, TellsFault, TellsNone, TellsRefusal, Told}
use Rattle.hpview_run.specs.Inputs.{AreRight, AreFaulty, HaveNone, IsTrace, NoScriptFault, NoTraceFault, OneTrace}
use Rattle.hpview_run.specs.Loading.{Refuses}
use Rattle.hpview_run.specs.Statuses.{status_code, status_of}

-- THE STATUS of a number
abbrev status_at : ℕ → Status
status_at code =
    if code == 0 then Done else if code == 2 then Usage else if code == 3 then Refused else if code == 4 then SourceFailed
    else if code == 5 then SinkFailed else if code == 9 then OutOfMemory else NoEvent

own : (s : Status) → status_at (status_code s) ≡ s
own Done = refl
own Usage = refl
own Refused = refl
own SourceFailed = refl
own SinkFailed = refl
own OutOfMemory = refl
own NoEvent = refl

pub decoded : (status other : Status) (code : ℕ) → code ≡ status_code status → code ≡ status_code other → status ≡ other
decoded status other code is same = sym (own status) ∙ ap status_at (sym is ∙ same) ∙ own other

pub is_silent : (status : Status) (code : ℕ) → code ≡ status_code status → (code ≡ status_code SourceFailed) ⊎ (code ≡ status_code OutOfMemory)
    → (status ≡ SourceFailed) ⊎ (status ≡ OutOfMemory)
is_silent status code is (inl e) = inl (decoded status SourceFailed code is e)
is_silent status code is (inr e) = inr (decoded status OutOfMemory code is e)

-- a text that was written whole, or whose sink failed
written : {T E : Type 0} (result : Result T E) (taken after text : List ℕ) (faults faults_after : ℕ) (tells : Bool)
    → OnOk result (IsTrue tells → after ≡ taken ++ text) → OnErr result (IsTrue tells → TakesFront taken after text) → HasCause faults faults_after result
    → IsTrue tells → Told taken after text faults faults_after
written (Ok value) taken after text faults faults_after tells all front cause t = inl (all t)
written (Err failed) taken after text faults faults_after tells all front cause t = inr (cause.failed, front t)

pub told_of : {T E : Type 0} (result : Result T E) (taken after bytes line text : List ℕ) (faults faults_after : ℕ) (tells : Bool) → bytes ≡ line → line ≡ text
    → OnOk result (IsTrue tells → after ≡ taken ++ bytes) → OnErr result (IsTrue tells → TakesFront taken after bytes) → HasCause faults faults_after result
    → IsTrue tells → Told taken after text faults faults_after
told_of result taken after bytes line text faults faults_after tells same is all front cause t =
    subst (λ (x : List ℕ). Told taken after x faults faults_after) is
    (subst (λ (x : List ℕ). Told taken after x faults faults_after) same (written result taken after bytes faults faults_after tells all front cause t))

-- WHAT A PICTURE COMES TO
pub drawn_no_usage : (status : Status) → (status ≡ Done) ⊎ (status ≡ SinkFailed) → status ≡ Usage → ⊥
drawn_no_usage status (inl e) is = cc
drawn_no_usage status (inr e) is = cc

pub drawn_some : (status : Status) → (status ≡ Done) ⊎ (status ≡ SinkFailed) → status ≡ NoEvent → ⊥
drawn_some status (inl e) is = cc
drawn_some status (inr e) is = cc

-- WHAT A FAULT COMES TO
pub no_usage : (fault : ViewFault) → status_of fault ≡ Usage → ⊥
no_usage faults.Memory is = cc
no_usage other is = cc

pub no_done : (fault : ViewFault) → status_of fault ≡ Done → ⊥
no_done faults.Memory is = cc
no_done other is = cc

pub no_sink : (fault : ViewFault) → status_of fault ≡ SinkFailed → ⊥
no_sink faults.Memory is = cc
no_sink other is = cc

pub failed_by : (fault : ViewFault) → status_of fault ≡ SourceFailed → fault ≡ faults.Failed
failed_by faults.Failed is = refl
failed_by other is = absurd cc

memory_by : (fault : ViewFault) → status_of fault ≡ OutOfMemory → fault ≡ faults.Memory
memory_by faults.Memory is = refl
memory_by other is = absurd cc

pub silent_by : (status : Status) (fault : ViewFault) → status ≡ status_of fault → (status ≡ SourceFailed) ⊎ (status ≡ OutOfMemory)
    → (fault ≡ faults.Memory) ⊎ (fault ≡ faults.Failed)
silent_by status fault e (inl is) = inr (failed_by fault (sym e ∙ is))
silent_by status fault e (inr is) = inl (memory_by fault (sym e ∙ is))

pub refusal_told : (command : Command) (fault : ViewFault) (tells : Bool) (text : List ℕ) (trace_tells : Bool) (trace : List ℕ) (out_tells : Bool) (taken after : List ℕ) (before behind : ℕ)
    → (IsTrue tells → Refuses command trace_tells fault text trace) → status_of fault ≡ Refused → (IsTrue out_tells → TellsFault fault taken after before behind)
    → TellsRefusal tells text trace_tells trace out_tells taken after before behind
refusal_told command (faults.Script line kind) tells text trace_tells trace out_tells taken after before behind refuses is told =
    inl (record { line = line; kind = kind; first = refuses; told = told })
refusal_told command (faults.Trace line kind) tells text trace_tells trace out_tells taken after before behind refuses is told =
    inr (record { line = line; kind = kind; first = refuses; told = told })
refusal_told command other tells text trace_tells trace out_tells taken after before behind refuses is told = absurd cc

pub none_told : (command : Command) (fault : ViewFault) (tells : Bool) (text : List ℕ) (trace_tells : Bool) (trace : List ℕ) (out_tells : Bool) (taken after : List ℕ) (before behind : ℕ)
    → (IsTrue tells → Refuses command trace_tells fault text trace) → status_of fault ≡ NoEvent → (IsTrue out_tells → TellsFault fault taken after before behind)
    → TellsNone command tells text trace_tells trace out_tells taken after before behind
none_told command (faults.Window events) tells text trace_tells trace out_tells taken after before behind refuses is told =
    record { events = events; none = refuses; told = told }
none_told command other tells text trace_tells trace out_tells taken after before behind refuses is told = absurd cc

-- WHAT IS RIGHT is not refused, and what is faulty or shows no event is not drawn
trace_spelled : (stored : Stored) (trace : List ℕ) → ReadsLegal → IsTrace stored trace → (told : List TraceLine) × traces.Spells stored trace told
trace_spelled stored trace reads (inl spelled) = spelled
trace_spelled stored trace reads (inr legal) = (lines_told legal.moments, reads stored trace legal)

pub right_stays : (tells : Bool) (text : List ℕ) (trace_tells : Bool) (trace : List ℕ) (out_tells : Bool) (taken after : List ℕ) (before behind : ℕ)
    → NoScriptFault → NoTraceFault → ReadsLegal → IsTrue tells → IsTrue trace_tells → AreRight text trace
    → TellsRefusal tells text trace_tells trace out_tells taken after before behind → ⊥
right_stays tells text trace_tells trace out_tells taken after before behind no_script no_trace reads t u right (inl refused) =
    no_script text right.lines right.count right.script refused.line refused.kind (refused.first t)
right_stays tells text trace_tells trace out_tells taken after before behind no_script no_trace reads t u right (inr refused) =
    let beside = refused.first t u in
    let spelled = trace_spelled beside.stored trace reads (right.beside beside.stored beside.loads) in
    no_trace beside.stored trace spelled.0 spelled.1 refused.line refused.kind beside.refused

faulty_goes : (command : Command) (text trace picture : List ℕ) → NoScriptFault → NoTraceFault → AreFaulty text trace → Draws command text trace picture → ⊥
faulty_goes command text trace picture no_script no_trace (inl fault) draws =
    no_script text (lines_in draws.stored) draws.stored.count draws.loads.spells fault.0 fault.1 fault.2
faulty_goes command text trace picture no_script no_trace (inr faults_of) draws =
    let fault = faults_of draws.stored draws.loads in
    no_trace draws.stored trace draws.views.lines draws.views.spells fault.0 fault.1 fault.2

none_goes : (command : Command) (text trace picture : List ℕ) → OneTrace → HaveNone command text trace → Draws command text trace picture → ⊥
none_goes command text trace picture one none draws =
    let told = none draws.stored draws.loads in
    let same : told.0 ≡ draws.views.lines = one draws.stored trace told.0 draws.views.lines told.1 draws.views.spells in
    let few : events_of (run_of (plays_of draws.stored) draws.views.lines) < command.from =
    subst (λ (lines : List TraceLine). events_of (run_of (plays_of draws.stored) lines) < command.from) same told.2 in
    fewer (events_of (run_of (plays_of draws.stored) draws.views.lines)) draws.view.events command.from draws.views.events draws.some few
  where
    fewer : (n m from : ℕ) → m ≡ n → from ≤ m → n < from → ⊥
    fewer n m from e some few = omega (arith, e, some, few)

pub nothing_drawn : (command : Command) (tells : Bool) (text : List ℕ) (trace_tells : Bool) (trace : List ℕ) (out_tells : Bool) (taken after : List ℕ)
    → NoScriptFault → NoTraceFault → OneTrace → IsTrue tells → IsTrue trace_tells → AreFaulty text trace ⊎ HaveNone command text trace
    → HasDrawn command tells text trace_tells trace out_tells taken after → ⊥
nothing_drawn command tells text trace_tells trace out_tells taken after no_script no_trace one t u (inl faulty) drawn =
    faulty_goes command text trace drawn.picture no_script no_trace faulty (drawn.draws t u)
nothing_drawn command tells text trace_tells trace out_tells taken after no_script no_trace one t u (inr none) drawn =
    none_goes command text trace drawn.picture one none (drawn.draws t u)

-- OF THE COMMAND that the words name
pub one_command : (named other : Option Command) (mine command : Command) → named ≡ other → named ≡ Some mine → other ≡ Some command → mine ≡ command
one_command named other mine command same is e = one (sym is ∙ same ∙ e)
  where
    one : Some mine ≡ Some command → mine ≡ command
    one e = cc

pub drawn_for : (mine command : Command) (tells : Bool) (text : List ℕ) (trace_tells : Bool) (trace : List ℕ) (out_tells : Bool) (taken after : List ℕ)
    → mine ≡ command → HasDrawn mine tells text trace_tells trace out_tells taken after → HasDrawn command tells text trace_tells trace out_tells taken after
drawn_for mine command tells text trace_tells trace out_tells taken after same drawn =
    subst (λ (x : Command). HasDrawn x tells text trace_tells trace out_tells taken after) same drawn

pub stopped_for : (mine command : Command) (tells : Bool) (text : List ℕ) (trace_tells : Bool) (trace : List ℕ) (out_tells : Bool) (taken after : List ℕ)
    → mine ≡ command → HasStopped mine tells text trace_tells trace out_tells taken after → HasStopped command tells text trace_tells trace out_tells taken after
stopped_for mine command tells text trace_tells trace out_tells taken after same stopped =
    subst (λ (x : Command). HasStopped x tells text trace_tells trace out_tells taken after) same stopped

pub none_for : (mine command : Command) (tells : Bool) (text : List ℕ) (trace_tells : Bool) (trace : List ℕ) (out_tells : Bool) (taken after : List ℕ) (before behind : ℕ)
    → mine ≡ command → TellsNone mine tells text trace_tells trace out_tells taken after before behind → TellsNone command tells text trace_tells trace out_tells taken after before behind
none_for mine command tells text trace_tells trace out_tells taken after before behind same none =
    subst (λ (x : Command). TellsNone x tells text trace_tells trace out_tells taken after before behind) same none
