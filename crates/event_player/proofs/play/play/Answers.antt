use Rattle.std.proofs.Common.{ℕ, ◌≡◌, ◌≤◌, inl, refl, ap, sym, subst, ◌∙◌, arith, IsTrue, Bool}
use Rattle.std.specs.Prelude.{Result, Ok, Err, IfOk, IfErr, IsErrOf}
use Rattle.std.specs.Result.{IsErrAnd}
use Rattle.pack_geometry.specs.Pack.{Pack}
use Rattle.trace_replay.specs.Script.{Script}
use Rattle.trace_lines.specs.declared.answers.tally.Tally.{Tally}
use Rattle.outside_traits.specs.Causes.{Rose}
use Rattle.outside_traits.specs.declared.traits.PackCall.{PackCall}
use Rattle.script_runs.specs.Attaching.{AttachesOne}
use Rattle.script_runs.specs.declared.fault.PlayFault.{PlayFault}
use Rattle.script_runs.specs.declared.fault.PlayFault.TheVariants as faults
use Rattle.script_runs.specs.Faults.{IsLongFor, IsPlaying, Rise}
use Rattle.script_runs.specs.Stops.{Took, took}
use Rattle.script_reader.specs.Meaning.{meaning_of}
use Rattle.event_player.specs.Plays.{Tallied}
use Rattle.event_player.specs.Stops.{Leaves}
use Rattle.event_player.proofs.play.play.Goals as goal

-- ---- THE UNITS WERE NOT ATTACHED: the fault is handed on
err_same : {a b : PlayFault} → ◌≡◌ {A = Result Tally PlayFault} (Err a) (Err b) → a ≡ b
err_same is = cc

fault_is : (result : Result Tally PlayFault) (fault other : PlayFault) → IsErrAnd result (λ x. x ≡ fault) → IsErrOf result other → fault ≡ other
fault_is (Ok x) fault other is e = absurd is
fault_is (Err f) fault other is e = sym is ∙ err_same e

err_is : (Q : PlayFault → Type 0) (result : Result Tally PlayFault) (fault : PlayFault) → IsErrAnd result (λ x. x ≡ fault) → Q fault → IfErr result Q
err_is Q (Ok value) fault is holds = tt
err_is Q (Err other) fault is holds = subst Q (sym is) holds

no_tally : (Q : Tally → Type 0) (result : Result Tally PlayFault) (fault : PlayFault) → IsErrAnd result (λ x. x ≡ fault) → IfOk result Q
no_tally Q (Ok x) fault is = absurd is
no_tally Q (Err f) fault is = tt

not_played : (result : Result Tally PlayFault) (fault : PlayFault) → IsErrAnd result (λ x. x ≡ fault) → (fault ≡ faults.Sink → ⊥) → IsPlaying result → ⊥
not_played (Ok x) fault is sinks playing = is
not_played (Err faults.Memory) fault is sinks playing = playing
not_played (Err (faults.TooLong u n)) fault is sinks playing = playing
not_played (Err faults.Store) fault is sinks playing = playing
not_played (Err faults.Sink) fault is sinks playing = sinks (sym is)

leaves_unplayed : (fault : PlayFault) (script : Script) (first left : ℕ → Pack) (call : PackCall) (out trace : Took) → (fault ≡ faults.Sink → ⊥)
    → (fault ≡ faults.Store → AttachesOne script call) → left ≡ first → out.after ≡ out.before → trace.after ≡ trace.before
    → Leaves fault script first left call out trace
leaves_unplayed faults.Store script first left call out trace sinks at same unsaid untold = inl (record { attaches = at refl; packs = same; unsaid = unsaid; untold = untold })
leaves_unplayed faults.Sink script first left call out trace sinks at same unsaid untold = absurd (sinks refl)
leaves_unplayed other script first left call out trace sinks at same unsaid untold = tt

stays : (n : ℕ) → n ≤ n
stays n = omega arith

rises_alone : (p p' o t : ℕ) (result : Result Tally PlayFault) (fault : PlayFault) → IsErrAnd result (λ x. x ≡ fault) → (fault ≡ faults.Sink → ⊥) → p ≤ p'
    → (fault ≡ faults.Store → Rose p p') → Rise p p' o o t t result
rises_alone p p' o t result fault is sinks later rose = record {
  later = later;
  later_out = stays o;
  later_trace = stays t;
  store = λ e. rose (fault_is result fault faults.Store is e);
  sink = λ e. absurd (sinks (fault_is result fault faults.Sink is e));
}

pub attach_units-requires : goal.attach_units-requires
attach_units-requires g c = record { first = (c.meaning_law.ensures.read c.args.script.now.text c.args.script.now c.requires.good).units }

pub returns-in_err-units : goal.returns-in_err-units
returns-in_err-units g c =
    let is = c.from_residual.ensures.1 in
    let units = c.in_err-units.ensures in
    record {
      tallied = no_tally _ _ _ is;
      requests = no_tally _ _ _ is;
      stopped = err_is _ _ _ is (λ t. leaves_unplayed _ (meaning_of c.args.script.now) _ _ _ _ _ (λ e. units.no_sink (ap Err e)) (λ e. units.at (ap Err e)) (units.same t) refl refl);
      fits = λ playing. absurd (not_played _ _ is (λ e. units.no_sink (ap Err e)) playing);
      too_long = err_is _ _ _ is units.too_long;
      told = record { never_again = λ t. units.never_again t; never_again_out = λ t. t; never_again_trace = λ t. t };
      causes = rises_alone _ _ _ _ _ _ is (λ e. units.no_sink (ap Err e)) units.later (λ e. units.store (ap Err e));
      untouched = λ before. record { same = λ t. units.same t; silent = refl; untraced = refl };
    }

-- ---- THEY WERE, and the packs stayed as they were attached
tallied_at : (told : Type 0) (Of : (ℕ → Pack) → Tally → Type 0) (h first : ℕ → Pack) (result : Result Tally PlayFault) → (told → h ≡ first)
    → IfOk result (λ tally. told → Of h tally) → IfOk result (λ tally. told → Of first tally)
tallied_at told Of h first (Ok x) same is = λ t. subst (λ (held : ℕ → Pack). Of held x) (same t) (is t)
tallied_at told Of h first (Err f) same is = tt

stopped_at : (told : Type 0) (Of : (ℕ → Pack) → PackCall → PlayFault → Type 0) (h first : ℕ → Pack) (call : PackCall) (result : Result Tally PlayFault) → (told → h ≡ first)
    → IfErr result (λ fault. told → (call : PackCall) → Of h call fault) → IfErr result (λ fault. told → Of first call fault)
stopped_at told Of h first call (Ok x) same is = tt
stopped_at told Of h first call (Err f) same is = λ t. subst (λ (held : ℕ → Pack). Of held call f) (same t) (is t call)

long_never : (script : Script) (tells : Bool) (packs : ℕ → Pack) (result : Result Tally PlayFault)
    → ((unit n : ℕ) → IsErrOf result (faults.TooLong unit n) → ⊥) → IfErr result (IsLongFor script tells packs)
long_never script tells packs (Ok x) never = tt
long_never script tells packs (Err faults.Memory) never = tt
long_never script tells packs (Err (faults.TooLong u n)) never = absurd (never u n refl)
long_never script tells packs (Err faults.Store) never = tt
long_never script tells packs (Err faults.Sink) never = tt

later_from : (a b c : ℕ) → a ≤ b → b ≤ c → a ≤ c
later_from a b c le more = omega (arith, le, more)

rose_from : (a b c : ℕ) → a ≤ b → Rose b c → Rose a c
rose_from a b c le rose = omega (arith, le, rose)

rises_from : (first p p' o o' t t' : ℕ) (result : Result Tally PlayFault) → first ≤ p → Rise p p' o o' t t' result → Rise first p' o o' t t' result
rises_from first p p' o o' t t' result le rise = record {
  later = later_from first p p' le rise.later;
  later_out = rise.later_out;
  later_trace = rise.later_trace;
  store = λ e. rose_from first p p' le (rise.store e);
  sink = rise.sink;
}

pub returns : goal.returns
returns g c =
    let units = c.in_ok-units.ensures in
    let plays = c.play_units.ensures.plays in
    let told = plays.told in
    let script : Script = meaning_of c.args.script.now in
    let attached : ℕ → Pack = g.P.Packs.held c.attach_units.new.packs in
    let first : ℕ → Pack = g.P.Packs.held c.args.packs.now in
    let left : ℕ → Pack = g.P.Packs.held c.play_units.new.packs in
    let out : Took = took g.O.Sink.tells g.O.Sink.taken g.O.Sink.faults c.args.out.now c.play_units.new.out in
    let trace : Took = took g.T.Sink.tells g.T.Sink.taken g.T.Sink.faults c.args.trace.now c.play_units.new.trace in
    record {
      tallied = tallied_at (IsTrue (g.P.Packs.tells c.play_units.new.packs)) (λ h tally. Tallied script h left out.tells out.before out.after trace.tells trace.before trace.after tally)
          attached first c.play_units.result (λ t. units.same (told.never_again t)) plays.tallied;
      requests = plays.requests;
      stopped = stopped_at (IsTrue (g.P.Packs.tells c.play_units.new.packs)) (λ h call fault. Leaves fault script h left call out trace)
          attached first _ c.play_units.result (λ t. units.same (told.never_again t)) plays.stopped;
      fits = λ playing t. units.fits (told.never_again t);
      too_long = long_never _ _ _ c.play_units.result plays.too_long;
      told = record { never_again = λ t. units.never_again (told.never_again t); never_again_out = λ t. told.never_again_out t; never_again_trace = λ t. told.never_again_trace t };
      causes = rises_from _ _ _ _ _ _ _ c.play_units.result units.later plays.causes;
      untouched = λ before.
          let stay = c.play_units.ensures.untouched before in
          record { same = λ t. stay.same t ∙ units.same (told.never_again t); silent = stay.silent; untraced = stay.untraced };
    }
