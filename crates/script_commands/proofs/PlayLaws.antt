-- What a run of `play` comes to.
use Rattle.std.proofs.Common.{◌≡◌, inl, inr, ℕ, ◌++◌, List, Bool, IsTrue, Result, Ok, Err, OnOk, OnErr, ap, subst, sym}
use Rattle.outside_traits.specs.Causes.{HasCause}
use Rattle.outside_traits.specs.Puts.{TakesFront}
use Rattle.outside_traits.specs.declared.traits.PackCall.{PackCall}
use Rattle.pack_geometry.specs.Pack.{Pack}
use Rattle.script_lines.specs.declared.kinds.ScriptKind.{ScriptKind}
use Rattle.trace_replay.specs.Script.{Script}
use Rattle.trace_lines.specs.declared.answers.tally.Tally.{Tally}
use Rattle.event_player.specs.PlayFault.{PlayFault}
use Rattle.event_player.specs.PlayFault.TheVariants as faults
use Rattle.event_player.specs.Faults.{IsPlaying, IsBefore, IsLongFor}
use Rattle.command_parts.specs.declared.load.LoadFault.{LoadFault}
use Rattle.command_parts.specs.declared.load.LoadFault.TheVariants as loading
use Rattle.command_parts.specs.Loading.{MeanNone}
use Rattle.command_parts.specs.Loading.{RefusesAll}
use Rattle.command_parts.specs.Lines.{Told}
use Rattle.script_lines.specs.Refusals.{refusal_text}
use Rattle.event_player.specs.Lengths.{NamesTooLong}
use Rattle.event_player.specs.Passes.{Took}
use Rattle.event_player.specs.Stops.{Leaves}

-- a text that was written whole, or whose sink failed
written : {T E : Type 0} (result : Result T E) (taken after text : List ℕ) (faults faults_after : ℕ) (tells : Bool)
    → OnOk result (IsTrue tells → after ≡ taken ++ text) → OnErr result (IsTrue tells → TakesFront taken after text) → HasCause faults faults_after result
    → IsTrue tells → Told taken after text faults faults_after
written (Ok value) taken after text faults faults_after tells all front cause t = inl (all t)
written (Err failed) taken after text faults faults_after tells all front cause t = inr (cause.failed, front t)

pub told_of : {T E : Type 0} (result : Result T E) (taken after bytes line text : List ℕ) (faults faults_after : ℕ) (tells : Bool) → bytes ≡ line → line ≡ text
    → OnOk result (IsTrue tells → after ≡ taken ++ bytes) → OnErr result (IsTrue tells → TakesFront taken after bytes) → HasCause faults faults_after result
    → IsTrue tells → Told taken after text faults faults_after
told_of result taken after bytes line text faults faults_after tells same is all front cause t =
    subst (λ (x : List ℕ). Told taken after x faults faults_after) is
    (subst (λ (x : List ℕ). Told taken after x faults faults_after) same (written result taken after bytes faults faults_after tells all front cause t))

-- what a refusal says
pub refused_parts : (Means : List ℕ → Script → Type 0) (First : List ℕ → ℕ → ScriptKind → Type 0) (left : List ℕ) (fault : LoadFault) (line : ℕ) (kind : ScriptKind)
    → fault ≡ loading.Refused line kind → RefusesAll Means First fault left → MeanNone Means left × First left line kind
refused_parts Means First left fault line kind e is = subst (λ (f : LoadFault). RefusesAll Means First f left) e is

-- an image that is too long
pub long_parts : (script : Script) (tells : Bool) (packs : ℕ → Pack) (fault : PlayFault) (unit length_is : ℕ) → fault ≡ faults.TooLong unit length_is
    → IsLongFor script tells packs fault → NamesTooLong script tells packs unit length_is
long_parts script tells packs fault unit length_is e is = subst (λ (f : PlayFault). IsLongFor script tells packs f) e is

-- a sink that failed did so in playing
pub sink_plays : (fault : PlayFault) → fault ≡ faults.Sink → IsPlaying {T = Tally} (Err fault)
sink_plays fault e = subst (λ (f : PlayFault). IsPlaying {T = Tally} (Err f)) (sym e) tt

-- nothing was played where an image is too long
pub long_before : (fault : PlayFault) (unit length_is : ℕ) → fault ≡ faults.TooLong unit length_is → IsBefore {T = Tally} (Err fault)
long_before fault unit length_is e = subst (λ (f : PlayFault). IsBefore {T = Tally} (Err f)) (sym e) tt

-- a text that was written to a sink as it was
pub told_from : {O : Type 0} (taken : O → List ℕ) (count : O → ℕ) (old mid : O) (after text : List ℕ) (faults_after : ℕ) → mid ≡ old
    → Told (taken mid) after text (count mid) faults_after → Told (taken old) after text (count old) faults_after
told_from taken count old mid after text faults_after e told = subst (λ o. Told (taken o) after text (count o) faults_after) e told

-- the text of a refusal, by its line and kind
pub refusal_is : (text : List ℕ) (line other : ℕ) (kind another : ScriptKind) → line ≡ other → kind ≡ another → text ≡ refusal_text other another → text ≡ refusal_text line kind
refusal_is text line other kind another e f is =
    subst (λ (k : ScriptKind). text ≡ refusal_text line k) (sym f) (subst (λ (n : ℕ). text ≡ refusal_text n another) (sym e) is)

-- what a fault leaves
pub left_by : (fault other : PlayFault) (script : Script) (first left : ℕ → Pack) (call : PackCall) (out trace : Took) → fault ≡ other
    → Leaves fault script first left call out trace → Leaves other script first left call out trace
left_by fault other script first left call out trace e is = subst (λ (f : PlayFault). Leaves f script first left call out trace) e is

-- a fault by its name
pub err_is : {T E : Type 0} {fault other : E} → fault ≡ other → ◌≡◌ {A = Result T E} (Err fault) (Err other)
err_is {T} {E} e = ap {B = Result T E} (λ (x : E). Err x) e
