-- What comes next in a drain, as the replay names it, and the sector that it tries.
use Rattle.std.specs.Prelude.{IsTrue}
use Rattle.hardware_table.specs.Adapter.{next_block}
use Rattle.trace_replay.specs.Script as script
use Rattle.trace_replay.specs.Script.{Input}
use Rattle.trace_replay.specs.Events.{Act, Done, Arriving, Trying, serving}
use Rattle.trace_replay.specs.Replay.{Replay}
use Rattle.driver_machine.specs.World.{World, adapter_at, unit_of}
use Rattle.driver_machine.specs.Acts.{Tried, Sector, scene_of}
use Rattle.driver_machine.specs.Events.{can_move}
use Rattle.driver_laws.proofs.shown.Showing.{IsOnSurface}

-- the event that a drain goes on with, as the replay names it
abbrev pub act_named : Replay → Input → Act
act_named s (script.ArriveAt u) = Arriving u
act_named s (script.MoveAt a) = Trying a
act_named s (script.AttendTo a) = serving a (s.adapters a).state
act_named s input = Done

-- a sector that a move tries is that of the surface
abbrev pub IsTriedOn : World → Replay → Input → Tried → Type 0
IsTriedOn w s (script.MoveAt a) tried =
    IsTrue (can_move (adapter_at w a)) → IsOnSurface s (unit_of w a) (Sector (next_block (adapter_at w a).state) tried) (scene_of w (unit_of w a))
IsTriedOn w s input tried = Unit {0}
