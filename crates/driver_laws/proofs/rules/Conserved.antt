-- Work is conserved: wherever an event is over, and between two events of a drain, all units are at work.
use Rattle.std.proofs.Common.{◌≡◌, ◌⊎◌, inl, inr, ℕ, Bool, true, false, List, Option, ap}
use Rattle.std.proofs.lemmas.Bool.{false≢true}
use Rattle.pack_geometry.specs.declared.DriveKind.{DriveKind}
use Rattle.pack_geometry.specs.TableSpelling.{Table}
use Rattle.trace_replay.specs.Moments.{Moment}
use Rattle.trace_replay.specs.Packs.{Surface}
use Rattle.trace_replay.specs.Events.{is_no_line, NoLine}
use Rattle.trace_replay.specs.Replay.{Replay, are_at_work, WorkMay, new_replay, after_moments, next_wish, Follows}
use Rattle.driver_laws.proofs.rules.Working.{all_at_work}
use Rattle.driver_laws.proofs.rules.Consistency.{always_consistent}

pub work_of : (b : Bool) (s : Replay) → b ≡ true → WorkMay b s → are_at_work s ≡ true
work_of true s is w = w
work_of false s is w = absurd (false≢true is)

pub is_conserved : (drives : ℕ → Option DriveKind) (tables : ℕ → Option Table) (surface : Surface) (ms : List Moment)
    → Follows (new_replay drives tables surface) ms
    → (next_wish (after_moments (new_replay drives tables surface) ms) ≡ NoLine) ⊎ ((after_moments (new_replay drives tables surface) ms).event.between ≡ true)
    → are_at_work (after_moments (new_replay drives tables surface) ms) ≡ true
is_conserved drives tables surface ms follows (inl over) =
    all_at_work (after_moments (new_replay drives tables surface) ms) (always_consistent drives tables surface ms follows) (ap is_no_line over)
is_conserved drives tables surface ms follows (inr between) =
    work_of (after_moments (new_replay drives tables surface) ms).event.between (after_moments (new_replay drives tables surface) ms) between (always_consistent drives tables surface ms follows).event.at_work
