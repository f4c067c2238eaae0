-- The ids of the requests in slots are among those that were submitted.
use Rattle.std.specs.Prelude.{◌≡◌, ◌≢◌, ℕ, List, [], ◌∷◌, Some, Contains}
use Rattle.trace_replay.specs.requests.Requests.{Request}
use Rattle.trace_replay.specs.Script.{Input}
use Rattle.driver_machine.specs.World.{World, Held, Setup, new_world, slot_at}
use Rattle.driver_machine.specs.Acts.{Act, Submit, Taken, Tried, after, after_all}
use Rattle.driver_machine.specs.Events.{submit_acts, event_acts}
use Rattle.driver_machine.specs.Guards.{Allowed, IsFresh}
use Rattle.driver_machine.specs.Sound.{Sound, AtWork}
use Rattle.driver_machine.specs.Runs.{Run, MaySubmit, MayCome}

-- each request that stands in a slot has one of these ids
abbrev pub AreOf : List ℕ → World → Type 0
AreOf ids w = (p : ℕ) (h : Held) → slot_at w p ≡ Some h → Contains ids h.id

-- those ids with that of the request that an act lets join, and with those of acts
abbrev pub ids_with : Act → List ℕ → List ℕ
ids_with (Submit line p h) ids = h.id ∷ ids
ids_with act ids = ids

abbrev pub ids_with_all : List Act → List ℕ → List ℕ
ids_with_all [] ids = ids
ids_with_all (act ∷ acts) ids = ids_with_all acts (ids_with act ids)

-- At the start there is no request.
abbrev pub StartsOfNone : Type 0
StartsOfNone = (setups : List Setup) (outstanding noises : ℕ) → AreOf [] (new_world setups outstanding noises)

-- An act adds the id of the request that joins, and no other; and so do acts that run:
abbrev pub ActsAdd : Type 0
ActsAdd = (ids : List ℕ) (w : World) (act : Act) → Allowed w act → AreOf ids w → AreOf (ids_with act ids) (after w act)

abbrev pub RunsAdd : Type 0
RunsAdd = (ids : List ℕ) (w : World) (acts : List Act) → Run w acts → AreOf ids w → AreOf (ids_with_all acts ids) (after_all w acts)

-- an event adds none,
abbrev pub EventsAddNone : Type 0
EventsAddNone = (ids : List ℕ) (w : World) (line : ℕ) (input : Input) (tried : Tried) → Sound w → AtWork w → MayCome w input tried
    → AreOf ids w → AreOf ids (after_all w (event_acts line input tried w))

-- nor does the taking of an answer,
abbrev pub TakingAddsNone : Type 0
TakingAddsNone = (ids : List ℕ) (w : World) → AreOf ids w → AreOf ids (after w Taken)

-- and a submission adds at most the id of its request.
abbrev pub SubmissionsAdd : Type 0
SubmissionsAdd = (ids : List ℕ) (w : World) (line p : ℕ) (r : Request) (h : Held) → Sound w → AtWork w → MaySubmit w r p h → h.id ≡ r.id
    → AreOf ids w → AreOf (r.id ∷ ids) (after_all w (submit_acts r line p h w))

-- An id that is not among them is that of no request in a slot,
abbrev pub NoOthers : Type 0
NoOthers = (ids : List ℕ) (w : World) (id : ℕ) → AreOf ids w → ¬ (Contains ids id) → (p : ℕ) (h : Held) → slot_at w p ≡ Some h → h.id ≢ id

-- so it is fresh where no answer waits.
abbrev pub OthersAreFresh : Type 0
OthersAreFresh = (ids : List ℕ) (w : World) (id : ℕ) → AreOf ids w → ¬ (Contains ids id) → w.answers ≡ [] → IsFresh w id
