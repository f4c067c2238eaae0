-- HOW LONG IMAGES BECOME: if a block is written, the image of its unit ends no earlier than that block, and nothing else makes it
-- longer.
use Rattle.std.specs.Prelude.{◌≡◌, ℕ, ◌+◌, ◌*◌, ◌==◌, ◌&&◌, nat_lt, if◌then◌else◌, List, [], ◌∷◌, ◌++◌, length}
use Rattle.hardware_table.specs.Moves.{was_written}
use Rattle.pack_geometry.specs.Pack.{Pack}
use Rattle.trace_replay.specs.requests.Requests.{Request}
use Rattle.trace_replay.specs.Moments.{Moment, Told, Sector}
use Rattle.trace_replay.specs.Script as script
use Rattle.trace_replay.specs.Script.{Input}
use Rattle.trace_replay.specs.Replay.{Replay, after_moment, after_moments}
use Rattle.driver_machine.specs.World.{World, Held}
use Rattle.driver_machine.specs.Acts.{Nothing, Tried}
use Rattle.driver_machine.specs.Lines.{lines_of_all}
use Rattle.driver_machine.specs.Events.{submit_acts, event_acts}
use Rattle.driver_machine.specs.Sound.{Sound}
use Rattle.driver_laws.specs.answers.Packs.{packs_after_all}
use Rattle.driver_laws.specs.shown.Within.{ShowsAll}
use Rattle.driver_laws.specs.shown.Runs.{with_call}
use Rattle.driver_machine.specs.Runs.{Run}

-- so many bytes, or as many as there are up to the end of a block
abbrev pub reaching : (long block : ℕ) → ℕ
reaching long block = if nat_lt long (512 * (block + 1)) then 512 * (block + 1) else long

-- the length of a unit's image behind a line: that of a sector that was written there
abbrev pub length_told : Replay → Moment → (unit long : ℕ) → ℕ
length_told s (Told line u id (Sector block verdict)) unit long = if (unit == u) && was_written (s.units u).drive verdict then reaching long block else long
length_told s moment unit long = long

abbrev pub length_behind : Replay → List Moment → (unit long : ℕ) → ℕ
length_behind s [] unit long = long
length_behind s (m ∷ ms) unit long = length_behind (after_moment s m) ms unit (length_told s m unit long)

-- EACH IMAGE IS AS LONG as the blocks that the moments wrote make it.
abbrev pub AreAsLong : Replay → List Moment → (old held : ℕ → Pack) → Type 0
AreAsLong start moments old held = (unit : ℕ) → length (held unit).image ≡ length_behind start moments unit (length (old unit).image)

-- The acts of an event keep it so,
abbrev pub EventsKeepLengths : Type 0
EventsKeepLengths = (start : Replay) (moments : List Moment) (old held : ℕ → Pack) (w : World) (next : ℕ) (input : Input) (tried : Tried)
    → Sound w → ShowsAll w (after_moments start moments) → Run w (event_acts next input tried w) → AreAsLong start moments old held
    → AreAsLong start (with_call moments next input w (event_acts next input tried w)) old (packs_after_all w held (event_acts next input tried w))

-- in a drain, the first ones and the later ones too,
abbrev pub FirstEventsKeepLengths : Type 0
FirstEventsKeepLengths = (start : Replay) (moments : List Moment) (old held : ℕ → Pack) (w : World) (next : ℕ) (input : Input) (tried : Tried)
    → Sound w → ShowsAll w (after_moments start moments) → Run w (event_acts next input tried w) → AreAsLong start moments old held
    → AreAsLong start (with_call moments next script.Drain w (event_acts next input tried w)) old (packs_after_all w held (event_acts next input tried w))

abbrev pub LaterEventsKeepLengths : Type 0
LaterEventsKeepLengths = (start : Replay) (moments : List Moment) (old held : ℕ → Pack) (w : World) (line : ℕ) (input : Input) (tried : Tried)
    → Sound w → ShowsAll w (after_moments start moments) → Run w (event_acts line input tried w) → AreAsLong start moments old held
    → AreAsLong start (moments ++ lines_of_all w (event_acts line input tried w)) old (packs_after_all w held (event_acts line input tried w))

abbrev pub EmptyDrainsKeepLengths : Type 0
EmptyDrainsKeepLengths = (start : Replay) (moments : List Moment) (old held : ℕ → Pack) (w : World) (next : ℕ) → AreAsLong start moments old held
    → AreAsLong start (with_call moments next script.Drain w (Nothing next ∷ [])) old held

-- and so do those of a submission.
abbrev pub SubmissionsKeepLengths : Type 0
SubmissionsKeepLengths = (start : Replay) (moments : List Moment) (old held : ℕ → Pack) (w : World) (next p : ℕ) (r : Request) (h : Held) → AreAsLong start moments old held
    → AreAsLong start (with_call moments next (script.Submit r) w (submit_acts r next p h w)) old (packs_after_all w held (submit_acts r next p h w))
