-- What is played at a line is what its statement says.
use Rattle.std.proofs.Common.{◌≡◌, ℕ, ◌≤◌, IsTrue, List, [], ◌∷◌, ◌++◌, Some, refl, sym, ap, ◌∙◌, subst, append-nil}
use Rattle.std.specs.Prelude.{Result, Ok, Err, IsErrAnd}
use Rattle.outside_traits.specs.Puts.{Puts}
use Rattle.trace_replay.specs.requests.Requests.{Request}
use Rattle.trace_replay.specs.declared.requests.answers.AnswerKind.{AnswerKind}
use Rattle.trace_replay.specs.declared.requests.answers.AnswerKind.TheVariants as answer
use Rattle.trace_replay.specs.Script.{Numbered, Script, with_input, inputs_of}
use Rattle.driver_machine.specs.World.{World}
use Rattle.driver_machine.specs.Guards.{IsSetUp}
use Rattle.driver_laws.specs.declared.answers.outcome.Stop.{Stop}
use Rattle.driver_laws.specs.rules.Rest.{HasTables}
use Rattle.driver_laws.specs.rules.Entries.{State}
use Rattle.buffer_cache.proofs.Passes.{still}
use Rattle.buffer_cache.specs.Passes.{kind_at, seen, setup_at}
use Rattle.buffer_cache.specs.Calls.{MayUse, SyncsOrStops}
use Rattle.script_runs.specs.Saying.{said_text}
use Rattle.script_runs.specs.Faults.{from_stop}
use Rattle.script_runs.specs.declared.fault.PlayFault.{PlayFault}
use Rattle.script_runs.specs.declared.fault.PlayFault.TheVariants as fault
use Rattle.script_reader.specs.declared.cached.statement.Statement.{Statement as Says}
use Rattle.script_reader.specs.declared.cached.statement.Line.{Line as Said}
use Rattle.script_reader.specs.cached.Meaning.{statement_of}
use Rattle.cached_run.specs.Answers.{replaced_with}
use Rattle.cached_run.specs.Going.{Scene, IsFar, GoesOn, Halts, HaltsScript, syncs_at}
use Rattle.cached_run.specs.Lines.{MayPlay, input_at}
use Rattle.cached_run.specs.Places.{Answers, IsSilent, OnlySays, Passes, Place, Plays, PlaysScript, contents_at, plays_at, scene_at, world_at}
use Rattle.cached_run.proofs.Causes.{caused_more, caused_ok, sink_caused, stop_caused}
use Rattle.cached_run.proofs.Goings.{goes_sync, halts_sync, request_goes, request_halts, saying_halts}
use Rattle.cached_run.proofs.Keepings.{setup_asked}
use Rattle.cached_run.proofs.Numbers.{itself}

-- a line with no input
pub goes_none : (s : State) (here : Scene) → GoesOn [] s s here here
goes_none s here first begun inputs far = subst (λ (z : List Numbered). IsFar first begun z s here) (sym (append-nil inputs)) far

-- THE INPUT of a line, by the number and the statement that it has
module _ (line : Said) (number : ℕ) (st : Says) (is : line.statement ≡ st) (numbered : number ≡ line.number) where
  its_input : with_input number (statement_of st) [] ≡ input_at line
  its_input = ap (λ n. with_input n (statement_of st) []) numbered ∙ ap (λ z. with_input line.number (statement_of z) []) (sym is)

  pub line_plays : {result : Result (Unit {0}) PlayFault} {old new : Place} → Plays (with_input number (statement_of st) []) result old new → Plays (input_at line) result old new
  line_plays {result} {old} {new} plays = subst (λ (z : List Numbered). Plays z result old new) its_input plays

  pub may_as : (w : World) → MayPlay w line.statement → MayPlay w st
  may_as w may = subst (MayPlay w) is may

  pub numbered_so : 1 ≤ line.number → 1 ≤ number
  numbered_so some = subst (λ n. 1 ≤ n) (sym numbered) some

-- A SCRIPT that stopped at the one input of a line
pub halts_script : (script : Script) (before own rest : List Numbered) (begun s : State) (first old new : Scene) → inputs_of script ≡ before ++ (own ++ rest) → IsFar first begun before s old → Halts own s old new → HaltsScript script begun first new
halts_script script before [] rest begun s first old new split far halts = absurd halts
halts_script script before (n ∷ own) rest begun s first old new split far halts = record { before = before; at = n; later = own ++ rest; inputs = split; halted = halts first begun before far }

-- ---- PLACES
pub passes_none : (here : Place) → Passes (Ok tt) here here
passes_none here = record {
  told = record { never_again = λ t. t; never_again_out = λ t. t; never_again_trace = λ t. t };
  causes = caused_ok tt (itself here.spot.packs_faults) (itself here.out_faults) (itself here.spot.trace_faults);
}

pub passes_more : {first old new : Place} (result : Result (Unit {0}) PlayFault) → Passes (Ok tt) first old → Passes result old new → Passes result first new
passes_more result before next = record {
  told = record {
    never_again = λ t. before.told.never_again (next.told.never_again t);
    never_again_out = λ t. before.told.never_again_out (next.told.never_again_out t);
    never_again_trace = λ t. before.told.never_again_trace (next.told.never_again_trace t);
  };
  causes = caused_more result before.causes.rise.later before.causes.rise.later_out before.causes.rise.later_trace next.causes;
}

-- nothing is played,
pub plays_none : (here : Place) → MayUse here.cache here.spot.driver → Plays [] (Ok tt) here here
plays_none here may = record {
  goes = λ t. goes_none here.cache (scene_at here);
  halts = tt;
  may = may;
  units = λ u up. up;
  passes = passes_none here;
}

-- a request: the driver stopped in it,
pub plays_cut : {line : ℕ} {r : Request} (blocks : List (List ℕ)) {old new : Place} (result : Result (Unit {0}) PlayFault) (stop : Stop) → IsErrAnd result (λ x. x ≡ from_stop stop) → IsSetUp (world_at old) r.unit
    → Answers line r blocks (Err stop) old new → Plays (plays_at line r) result old new
plays_cut blocks (Ok value) stop is up a = absurd is
plays_cut {line} {r} blocks {old} {new} (Err why) stop is up a = subst (λ (z : Place). Plays (plays_at line r) (Err why) old z) (sym a.silent) (record {
  goes = tt;
  halts = λ t. request_halts line r (replaced_with (kind_at (world_at old) r.unit) (contents_at old r.unit) r) answer.Eof [] old.cache old.cache (scene_at old) (scene_at (record old { cache = new.cache; spot = new.spot })) t up refl
      stop (still a.keeps) (λ e. a.keeps.causes.sink (ap (λ (z : Stop). Some z) e)) a.cut a.left (λ o. o) refl;
  may = tt;
  units = tt;
  passes = record {
    told = record { never_again = a.keeps.never_again; never_again_out = λ t. t; never_again_trace = a.keeps.never_again_trace };
    causes = stop_caused (Err why) stop old.spot.packs_faults new.spot.packs_faults old.out_faults old.spot.trace_faults new.spot.trace_faults is a.keeps.causes;
  };
})

-- or its answer was not written,
module _ (line : ℕ) (r : Request) (blocks : List (List ℕ)) (how : AnswerKind) (old mid new : Place) {E : Type 0} (up : IsSetUp (world_at old) r.unit) (a : Answers line r blocks (Ok how) old mid) (only : OnlySays mid new) where
  puts_at : (result : Result (Unit {0}) E) → Puts (λ (p : Place). p.out_tells) (λ (p : Place). p.said) (λ (p : Place). p.out_faults) mid new result (said_text line r.id how blocks)
      → Puts (λ (p : Place). p.out_tells) (λ (p : Place). p.said) (λ (p : Place). p.out_faults) (record old { cache = mid.cache; spot = mid.spot }) new result (said_text line r.id how blocks)
  puts_at result puts = subst (λ (z : Place). Puts (λ (p : Place). p.out_tells) (λ (p : Place). p.said) (λ (p : Place). p.out_faults) z new result (said_text line r.id how blocks)) a.silent puts

  pub plays_unsaid : (result : Result (Unit {0}) PlayFault) (failed : E) → IsErrAnd result (λ x. x ≡ fault.Sink)
      → Puts {T = Unit {0}} {E = E} (λ (p : Place). p.out_tells) (λ (p : Place). p.said) (λ (p : Place). p.out_faults) mid new (Err failed) (said_text line r.id how blocks) → Plays (plays_at line r) result old new
  plays_unsaid (Ok value) failed is puts = absurd is
  plays_unsaid (Err why) failed is puts =
      let p = puts_at (Err failed) puts in
      subst (λ (z : Place). Plays (plays_at line r) (Err why) old z) (sym only) (record {
        goes = tt;
        halts = λ t. saying_halts line r (replaced_with (kind_at (world_at old) r.unit) (contents_at old r.unit) r) how blocks old.cache mid.cache (scene_at old)
            (scene_at (record mid { out_tells = new.out_tells; said = new.said; out_faults = new.out_faults })) t up refl a.done (still a.keeps) p.never_again p.front p.cause.failed;
        may = tt;
        units = tt;
        passes = record {
          told = record { never_again = a.keeps.never_again; never_again_out = p.never_again; never_again_trace = a.keeps.never_again_trace };
          causes = sink_caused (Err why) old.spot.packs_faults mid.spot.packs_faults old.out_faults new.out_faults old.spot.trace_faults mid.spot.trace_faults is a.keeps.causes.later_packs a.keeps.causes.later p.cause.later p.cause.failed;
        };
      })

  -- or it was
  pub plays_said : (value : Unit {0}) → Puts {T = Unit {0}} {E = E} (λ (p : Place). p.out_tells) (λ (p : Place). p.said) (λ (p : Place). p.out_faults) mid new (Ok value) (said_text line r.id how blocks)
      → Plays (plays_at line r) (Ok tt) old new
  plays_said value puts =
      let p = puts_at (Ok value) puts in
      subst (λ (z : Place). Plays (plays_at line r) (Ok tt) old z) (sym only) (record {
        goes = λ t. request_goes line r (replaced_with (kind_at (world_at old) r.unit) (contents_at old r.unit) r) how blocks old.cache mid.cache (scene_at old)
            (scene_at (record mid { out_tells = new.out_tells; said = new.said; out_faults = new.out_faults })) t up refl a.done a.setup (still a.keeps) p.never_again p.bytes p.cause.later a.keeps.causes.later;
        halts = tt;
        may = a.may;
        units = a.keeps.units refl;
        passes = record {
          told = record { never_again = a.keeps.never_again; never_again_out = p.never_again; never_again_trace = a.keeps.never_again_trace };
          causes = caused_ok tt a.keeps.causes.later_packs p.cause.later a.keeps.causes.later;
        };
      })

-- ---- a sync: it stopped, or everything is written back
pub plays_stopped : {line : ℕ} {old new : Place} (result : Result (Unit {0}) PlayFault) (stop : Stop) → IsErrAnd result (λ x. x ≡ from_stop stop) → SyncsOrStops line (Err stop) old.cache new.cache old.spot new.spot → IsSilent old new
    → Plays (syncs_at line) result old new
plays_stopped (Ok value) stop is s silent = absurd is
plays_stopped {line} {old} {new} (Err why) stop is s silent = subst (λ (z : Place). Plays (syncs_at line) (Err why) old z) (sym silent) (record {
  goes = tt;
  halts = λ t. halts_sync stop line old.cache (scene_at old) (seen new.spot) new.spot.trace_faults t (still s.keeps) (λ e. s.keeps.causes.sink (ap (λ (z : Stop). Some z) e)) s.till s.holds;
  may = tt;
  units = tt;
  passes = record {
    told = record { never_again = s.keeps.never_again; never_again_out = λ t. t; never_again_trace = s.keeps.never_again_trace };
    causes = stop_caused (Err why) stop old.spot.packs_faults new.spot.packs_faults old.out_faults old.spot.trace_faults new.spot.trace_faults is s.keeps.causes;
  };
})

pub plays_synced : {line : ℕ} {old new : Place} (value : Unit {0}) → SyncsOrStops line (Ok value) old.cache new.cache old.spot new.spot → IsSilent old new → Plays (syncs_at line) (Ok tt) old new
plays_synced {line} {old} {new} value s silent = subst (λ (z : Place). Plays (syncs_at line) (Ok tt) old z) (sym silent) (record {
  goes = λ t. goes_sync line old.cache new.cache (scene_at old) (seen new.spot) new.spot.trace_faults s.keeps.causes.later t (still s.keeps) (setup_asked (seen old.spot) (seen new.spot) s.done.asks) s.done s.holds;
  halts = tt;
  may = s.may;
  units = s.keeps.units refl;
  passes = record {
    told = record { never_again = s.keeps.never_again; never_again_out = λ t. t; never_again_trace = s.keeps.never_again_trace };
    causes = caused_ok tt s.keeps.causes.later_packs (itself old.out_faults) s.keeps.causes.later;
  };
})

-- ---- LINES, one behind the other
module _ {script : Script} {inputs own : List Numbered} (rest : List Numbered) {first old new : Place} (split : inputs_of script ≡ inputs ++ (own ++ rest))
    (far : IsTrue old.spot.packs_tell → HasTables (setup_at (seen first.spot)) → IsFar (scene_at first) first.cache inputs old.cache (scene_at old)) (before : Passes (Ok tt) first old) where
  -- one of them stopped,
  pub script_cut : (result : Result (Unit {0}) PlayFault) (why : PlayFault) → IsErrAnd result (λ x. x ≡ why) → Plays own (Err why) old new → PlaysScript script result first new
  script_cut (Ok value) why is plays = absurd is
  script_cut (Err other) why is plays = subst (λ z. PlaysScript script (Err z) first new) (sym is) (record {
    plays = tt;
    stops = λ t tables. halts_script script inputs own rest first.cache old.cache (scene_at first) (scene_at old) (scene_at new) split (far (plays.passes.told.never_again t) tables) (plays.halts t);
    passes = passes_more (Err why) before plays.passes;
  })

  -- or the last one came to its end
  pub script_ends : (result : Result (Unit {0}) PlayFault) → rest ≡ [] → Plays own result old new → PlaysScript script result first new
  script_ends (Ok value) none plays = record {
    plays = λ t tables. subst (λ z. IsFar (scene_at first) first.cache z new.cache (scene_at new)) (sym (split ∙ ap (λ z. inputs ++ (own ++ z)) none ∙ ap (λ z. inputs ++ z) (append-nil own)))
        (plays.goes t (scene_at first) first.cache inputs (far (plays.passes.told.never_again t) tables));
    stops = tt;
    passes = passes_more (Ok value) before plays.passes;
  }
  script_ends (Err why) none plays = script_cut (Err why) why refl plays
