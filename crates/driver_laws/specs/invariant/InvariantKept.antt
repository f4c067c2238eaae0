-- Each act keeps what holds of the driver between any two acts, and between any two calls nothing is left undone.
use Rattle.std.specs.Prelude.{◌≡◌, ℕ, ◌<◌, List, [], ◌∷◌, length}
use Rattle.trace_replay.specs.requests.Requests.{Request}
use Rattle.trace_replay.specs.Script.{Input}
use Rattle.driver_machine.specs.World.{World, Held}
use Rattle.driver_machine.specs.Acts.{Act, Taken, Tried, after, after_all}
use Rattle.driver_machine.specs.Events.{choose_acts, adapter_start, submit_acts, event_acts}
use Rattle.driver_machine.specs.Guards.{Allowed}
use Rattle.driver_machine.specs.Sound.{Sound, AtWork}
use Rattle.driver_machine.specs.Runs.{Run, Works, MaySubmit, MayCome}

-- each act that is allowed leaves the driver sound, and so do acts that run
abbrev pub EachActKeeps : Type 0
EachActKeeps = (w : World) (act : Act) → Sound w → Allowed w act → Sound (after w act)

abbrev pub RunsKeep : Type 0
RunsKeep = (w : World) (acts : List Act) → Sound w → Run w acts → Sound (after_all w acts)

-- what a submission does, what any other input does, and the taking of an answer, run from a sound driver at work, and leave one
abbrev pub SubmissionsWork : Type 0
SubmissionsWork = (w : World) (line p : ℕ) (r : Request) (h : Held) → Sound w → AtWork w → MaySubmit w r p h → Works w (submit_acts r line p h w)

abbrev pub EventsWork : Type 0
EventsWork = (w : World) (line : ℕ) (input : Input) (tried : Tried) → Sound w → AtWork w → MayCome w input tried → Works w (event_acts line input tried w)

abbrev pub TakingWorks : Type 0
TakingWorks = (w : World) → Sound w → AtWork w → 0 < length w.answers → Works w (Taken ∷ [])

-- the start of an adapter goes on until the adapter is busy or no unit waits for it
abbrev pub StartsRun : Type 0
StartsRun = (w : World) (line a : ℕ) → Sound w → Run w (adapter_start line a w)

abbrev pub StartsEnd : Type 0
StartsEnd = (w : World) (line a : ℕ) → Sound w → choose_acts line a (after_all w (adapter_start line a w)) ≡ []
