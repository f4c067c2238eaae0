-- What is proved of the driver's bytes: a driver with nothing outstanding stands for what its packs hold, and each call keeps what
-- the driver stands for.
use Rattle.std.specs.Prelude.{◌≡◌, ℕ, ◌<◌, List, [], ◌∷◌, ◌++◌, length, Contains, Some, true}
use Rattle.pack_geometry.specs.Pack.{Pack}
use Rattle.pack_geometry.specs.PackTable.{IsTableOf}
use Rattle.pack_geometry.specs.Homes.{content_of}
use Rattle.hardware_table.specs.Noise.{LiveNoise}
use Rattle.trace_replay.specs.Script.{Input}
use Rattle.trace_replay.specs.requests.Requests.{Request}
use Rattle.driver_laws.specs.rules.Machine.{Blocks}
use Rattle.driver_laws.specs.rules.Stands.{armed_by}
use Rattle.driver_machine.specs.declared.Made.{Made}
use Rattle.driver_machine.specs.World.{World, Held, Setup, new_world, unit_at, slot_at}
use Rattle.driver_machine.specs.Acts.{Act, Change, Taken, Tried, after, after_all}
use Rattle.driver_machine.specs.Events.{submit_acts, event_acts}
use Rattle.driver_machine.specs.Guards.{IsSetUp, Allowed}
use Rattle.driver_machine.specs.Sound.{Sound, AtWork}
use Rattle.driver_laws.specs.invariant.Setups.{AreSetups}
use Rattle.driver_machine.specs.Runs.{Run, NoneOutstanding}
use Rattle.driver_laws.specs.answers.Packs.{Reads, ReadAll, packs_after, packs_after_all}
use Rattle.driver_laws.specs.shown.Bytes.{Bears, maps_behind}

-- AT REST: no request is outstanding, no answer waits, and no noise is live. Where the tables are those of the packs, the map is what
-- the packs hold, whatever led to it.
abbrev pub contents_in : World → (ℕ → Pack) → ℕ → Blocks
contents_in w held unit block = content_of (unit_at w unit).drive.kind (unit_at w unit).table (held unit) block

pub record Rests (w : World) (held : ℕ → Pack) : Type 0 where
  pub none : NoneOutstanding w
  pub taken : w.answers ≡ []
  pub live : w.book.live ≡ []
  pub tables : (u : ℕ) → IsSetUp w u → IsTableOf (unit_at w u).drive.kind (held u) (unit_at w u).table

abbrev pub RestBears : Type 0
RestBears = (w : World) (held : ℕ → Pack) → Sound w → AtWork w → Rests w held → Bears [] w held (contents_in w held)

-- so it is of a new driver, with the tables that its packs tell
abbrev pub HaveTables : (setups : List Setup) → (held : ℕ → Pack) → Type 0
HaveTables setups held = (s : Setup) → Contains setups s → IsTableOf s.kind (held s.unit) s.table

abbrev pub NewRests : Type 0
NewRests = (setups : List Setup) (outstanding noises : ℕ) (held : ℕ → Pack) → AreSetups setups → HaveTables setups held
    → Rests (new_world setups outstanding noises) held

-- EACH ACT that may come, and reads what the packs hold, keeps the map: its answers wait behind it. Noise that it arms may be an alias.
-- The taking of an answer goes on to the map behind that answer.
abbrev pub armed_with : List LiveNoise → Act → List LiveNoise
armed_with armed (Change input) = armed_by armed input
armed_with armed act = armed

abbrev pub maps_taken : World → List Made → (ℕ → Blocks) → ℕ → Blocks
maps_taken w [] maps = maps
maps_taken w (made ∷ rest) maps = maps_behind w maps made.slot made.answer.kind

abbrev pub maps_after : World → Act → (ℕ → Blocks) → ℕ → Blocks
maps_after w Taken maps = maps_taken w w.answers maps
maps_after w act maps = maps

abbrev pub ActsBear : Type 0
ActsBear = (armed : List LiveNoise) (w : World) (act : Act) (held : ℕ → Pack) (maps : ℕ → Blocks) → Sound w → Allowed w act → Reads w held act
    → Bears armed w held maps → Bears (armed_with armed act) (after w act) (packs_after w held act) (maps_after w act maps)

-- So do the acts of a submission, and of an event, and the first ones of them where the trace failed,
abbrev pub SubmissionsBear : Type 0
SubmissionsBear = (armed : List LiveNoise) (w : World) (line p : ℕ) (r : Request) (h : Held) (done left : List Act) (held : ℕ → Pack) (maps : ℕ → Blocks)
    → Sound w → submit_acts r line p h w ≡ done ++ left → Run w done → ReadAll w held done
    → Bears armed w held maps → Bears armed (after_all w done) (packs_after_all w held done) maps

abbrev pub EventsBear : Type 0
EventsBear = (armed : List LiveNoise) (w : World) (line : ℕ) (input : Input) (tried : Tried) (done left : List Act) (held : ℕ → Pack) (maps : ℕ → Blocks)
    → Sound w → event_acts line input tried w ≡ done ++ left → Run w done → ReadAll w held done
    → Bears armed w held maps → Bears (armed_by armed input) (after_all w done) (packs_after_all w held done) maps

-- and the taking of an answer.
abbrev pub TakingsBear : Type 0
TakingsBear = (armed : List LiveNoise) (w : World) (held : ℕ → Pack) (maps : ℕ → Blocks) → Sound w → 0 < length w.answers
    → Bears armed w held maps → Bears armed (after w Taken) held (maps_taken w w.answers maps)

-- A WRITE'S BUFFER holds what was asked until its answer is taken: no act changes its blocks.
abbrev pub WritesStay : Type 0
WritesStay = (w : World) (act : Act) (p : ℕ) (h g : Held) → Sound w → Allowed w act → slot_at w p ≡ Some h → h.write ≡ true
    → slot_at (after w act) p ≡ Some g → g.blocks ≡ h.blocks
