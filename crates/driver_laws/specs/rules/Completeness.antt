-- A REQUEST THAT NOTHING HINDERS. Such a request is answered ok.
use Rattle.std.specs.Prelude.{◌≡◌, ◌⊎◌, ℕ, ◌<◌, ◌+◌, ◌==◌, if◌then◌else◌, true, false, List, [], ◌∷◌, ◌++◌, Option, IsSome, is_some}
use Rattle.pack_geometry.specs.declared.DriveKind.{DriveKind}
use Rattle.pack_geometry.specs.Pack.{Pack}
use Rattle.pack_geometry.specs.TableSpelling.{Table}
use Rattle.pack_geometry.specs.Homes.{home_of}
use Rattle.trace_replay.specs.requests.Requests.{Request, first_block}
use Rattle.trace_replay.specs.Script.{Script, Submit}
use Rattle.trace_replay.specs.Moments.{Moment, Played, Deed, Try}
use Rattle.trace_replay.specs.Conditions.{online_behind, locked_behind}
use Rattle.trace_replay.specs.History.{lines_of}
use Rattle.trace_replay.specs.Replay.{Replay, Joined, submission, after_moments}
use Rattle.driver_laws.specs.rules.Strikes.{AreFewStrikes}

-- how many of some lines are tries at a block of the pack that failed
abbrev pub tried_at : ℕ → Deed → ℕ
tried_at block (Try b failures) = if b == block then 1 else 0
tried_at block deed = 0

abbrev pub tries_at : ℕ → List Deed → ℕ
tries_at block [] = 0
tries_at block (deed ∷ lines) = tried_at block deed + tries_at block lines

-- A request that is submitted at a line, behind some moments, and is answered behind others. It lies inside its partition and its
-- frames are there; its unit stays online, and, where it writes, is unlocked as it is answered; each of its blocks can be used; and
-- fewer than 28 tries fail at each block of the pack, as they do where the script's faults and noise strike its unit fewer than 28 times.
pub record IsUnhindered (script : Script) (kind : DriveKind) (table : Option Table) (pack : Pack) (start : Replay) (ahead : List Moment) (at : ℕ) (r : Request) (between : List Moment) : Type 0 where
  pub joined : submission (after_moments start ahead) r ≡ Joined
  pub online : (front back : List Moment) → between ≡ front ++ back → online_behind r.unit true (ahead ++ Played at (Submit r) ∷ front) ≡ true
  pub unlocked : is_some r.written ≡ true → locked_behind r.unit false (ahead ++ Played at (Submit r) ∷ between) ≡ false
  pub usable : (k : ℕ) → k < r.count → IsSome (home_of kind table pack (first_block kind r + k))
  pub tries : ((block : ℕ) → tries_at block (lines_of r.unit (ahead ++ Played at (Submit r) ∷ between)) < 28) ⊎ AreFewStrikes script r.unit
