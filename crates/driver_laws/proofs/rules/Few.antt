-- What is done of a request in hand is some of it.
use Rattle.std.proofs.Common.{◌≡◌, ◌≤◌, true, false, List, rules}
use Rattle.trace_replay.specs.Moments.{Deed}
use Rattle.trace_replay.specs.Conversation.{Hand, Stage, is_waiting}
use Rattle.trace_replay.proofs.Histories.{Fits}
use Rattle.driver_laws.specs.rules.Consistent.{is_well_said}

pub done_few : (h : Hand) (stage : Stage) (lines : List Deed) → is_well_said stage ≡ true → is_waiting stage ≡ false → Fits h stage lines → h.progress.done ≤ h.request.count
done_few h stage lines said held f = search rules
