-- A run of `cached`, by its status.
use Rattle.std.proofs.Common.{◌≡◌, ◌⊎◌, ℕ, Bool, IsTrue, List, Err, refl, sym, ap, subst, arith, ◌∙◌}
use Rattle.outside_traits.specs.declared.traits.PackCall.{PackCall}
use Rattle.pack_geometry.specs.Pack.{Pack}
use Rattle.outside_traits.specs.Causes.{Rose}
use Rattle.trace_replay.specs.Script.{Script}
use Rattle.script_reader.specs.declared.cached.statement.Line.{Line}
use Rattle.script_reader.specs.cached.Scripts.{IsRefused}
use Rattle.script_reader.proofs.cached.Narrow.{one_script}
use Rattle.script_commands.specs.Faults.{IsBefore, IsLongFor, IsPlaying}
use Rattle.script_reader.specs.cached.Meaning.{meaning_of}
use Rattle.cached_run.specs.Theorem.{CachedLeaves}
use Rattle.script_commands.specs.PlayFault.{PlayFault}
use Rattle.script_commands.specs.PlayFault.TheVariants as faults
use Rattle.cached_run.specs.Stops.{Took}
use Rattle.script_commands.specs.Lengths.{IsTooLong, NamesTooLong}
use Rattle.command_parts.specs.Outside.{Outside}
use Rattle.command_parts.specs.Loading.{MeansCached}
use Rattle.hpsim_run.specs.Cached.{HasCached, HasStoppedCached, RunsCached}
use Rattle.script_commands.specs.Scripts.{RunsScript}
use Rattle.script_commands.proofs.ScriptRuns.{IsApart, IsRead, MeanOne, script_done, script_sink, script_store}

pub one_cached : MeanOne MeansCached
one_cached bytes script other means read =
    let same : (means.lines.lines ≡ read.lines.lines) × (means.lines.count ≡ read.lines.count) =
    one_script bytes means.lines.lines read.lines.lines means.lines.count read.lines.count means.spelled read.spelled in
    means.is ∙ ap (λ (ls : List Line). meaning_of (record { lines = ls; count = means.lines.count })) same.0
    ∙ ap (λ (n : ℕ). meaning_of (record { lines = read.lines.lines; count = n })) same.1 ∙ sym read.is

module _ (capacity : ℕ) (old new : Outside) (read : IsRead old new) where
  pub cached_done : HasCached capacity old new → RunsCached capacity 0 old new
  cached_done h = record {
    script = script_done _ one_cached old new read (meaning_of h.lines) (λ t. record { lines = h.lines; spelled = h.spelled t; is = refl }) h.fits;
    done = λ e. h;
    stopped = λ e. absurd (omega (arith, e));
    stopped_packs = λ e. absurd (omega (arith, e));
  }

  abbrev Stop : PlayFault → Type 0
  Stop fault = HasStoppedCached capacity fault old new

  pub cached_sink : (s : Stop faults.Sink) → (IsTrue new.packs_tell → (unit n : ℕ) → ¬ (IsTooLong (meaning_of s.lines) old.held unit n))
      → Rose old.out_faults new.out_faults ⊎ Rose old.trace_faults new.trace_faults → RunsCached capacity 5 old new
  cached_sink s fits rose = record {
    script = script_sink _ one_cached old new read (meaning_of s.lines) (λ t. record { lines = s.lines; spelled = s.spelled t; is = refl }) fits rose;
    done = λ e. absurd (omega (arith, e));
    stopped = λ e. s;
    stopped_packs = λ e. absurd (omega (arith, e));
  }

  pub cached_store : (s : Stop faults.Store) → Rose old.packs_faults new.packs_faults → RunsCached capacity 6 old new
  cached_store s rose = record {
    script = script_store _ one_cached old new read (meaning_of s.lines) (λ t. record { lines = s.lines; spelled = s.spelled t; is = refl }) rose;
    done = λ e. absurd (omega (arith, e));
    stopped = λ e. absurd (omega (arith, e));
    stopped_packs = λ e. s;
  }

-- nothing was played
pub uncached : {capacity : ℕ} {old new : Outside} {code : ℕ} → IsApart code → RunsScript MeansCached IsRefused code old new → RunsCached capacity code old new
uncached apart script = record {
  script = script;
  done = λ e. absurd (apart.done e);
  stopped = λ e. absurd (apart.sink e);
  stopped_packs = λ e. absurd (apart.store e);
}

-- ---- by a fault's name
pub cached_long : (script : Script) (tells : Bool) (packs : ℕ → Pack) (fault : PlayFault) (unit length_is : ℕ) → fault ≡ faults.TooLong unit length_is
    → IsLongFor script tells packs fault → NamesTooLong script tells packs unit length_is
cached_long script tells packs fault unit length_is e is = subst (λ (f : PlayFault). IsLongFor script tells packs f) e is

pub cached_plays : (T : Type 0) (fault : PlayFault) → fault ≡ faults.Sink → IsPlaying {T = T} (Err fault)
cached_plays T fault e = subst (λ (f : PlayFault). IsPlaying {T = T} (Err f)) (sym e) tt

pub cached_before : (T : Type 0) (fault : PlayFault) (unit length_is : ℕ) → fault ≡ faults.TooLong unit length_is → IsBefore {T = T} (Err fault)
cached_before T fault unit length_is e = subst (λ (f : PlayFault). IsBefore {T = T} (Err f)) (sym e) tt

pub cached_leaves : (capacity : ℕ) (fault other : PlayFault) (script : Script) (first left : ℕ → Pack) (call : PackCall) (out trace : Took) → fault ≡ other
    → CachedLeaves capacity fault script first left call out trace → CachedLeaves capacity other script first left call out trace
cached_leaves capacity fault other script first left call out trace e is = subst (λ (f : PlayFault). CachedLeaves capacity f script first left call out trace) e is
