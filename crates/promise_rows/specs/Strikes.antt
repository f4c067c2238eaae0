-- A wrong outcome of `play`: tries fail more often than the script makes them.
use Rattle.std.specs.Prelude.{◌≡◌, ℕ, ◌+◌, ◌<◌, true, false, List, ◌∷◌, ◌++◌, Option, Some, IsSome, is_some}
use Rattle.pack_geometry.specs.declared.DriveKind.{DriveKind}
use Rattle.pack_geometry.specs.Pack.{Pack}
use Rattle.pack_geometry.specs.TableSpelling.{Table}
use Rattle.pack_geometry.specs.Homes.{home_of}
use Rattle.trace_replay.specs.requests.Requests.{Request, Failed, Fault, first_block}
use Rattle.trace_replay.specs.Conditions.{online_behind, locked_behind}
use Rattle.trace_replay.specs.Moments.{Moment, Played, Told, End}
use Rattle.trace_replay.specs.Replay.{Joined, submission, after_moments}
use Rattle.trace_replay.specs.Runs.{start_of}
use Rattle.trace_replay.specs.Script.{Script, Submit, drives_of}
use Rattle.driver_laws.specs.rules.Strikes.{AreFewStrikes}
use Rattle.driver_laws.specs.rules.Promises.{Promises}

-- FAILED BY FEW STRIKES: a request that joins, whose unit is online and not locked and whose blocks can be used, is answered `fault`, and the
-- script's faults and noise that shows strike its unit fewer than 28 times.
abbrev pub FailedByFewStrikes : Type 0
FailedByFewStrikes = (script : Script) (tables : ℕ → Option Table) (old new : ℕ → Pack) (moments : List Moment) → Promises script tables old new moments
    → (ahead between after : List Moment) (at line done : ℕ) (r : Request) (kind : DriveKind)
    → moments ≡ ahead ++ Played at (Submit r) ∷ (between ++ Told line r.unit r.id (End (Failed Fault done)) ∷ after) → drives_of script r.unit ≡ Some kind
    → submission (after_moments (start_of script tables old) ahead) r ≡ Joined
    → ((front back : List Moment) → between ≡ front ++ back → online_behind r.unit true (ahead ++ Played at (Submit r) ∷ front) ≡ true)
    → (is_some r.written ≡ true → locked_behind r.unit false (ahead ++ Played at (Submit r) ∷ between) ≡ false)
    → ((k : ℕ) → k < r.count → IsSome (home_of kind (tables r.unit) (old r.unit) (first_block kind r + k)))
    → ¬ AreFewStrikes script r.unit
