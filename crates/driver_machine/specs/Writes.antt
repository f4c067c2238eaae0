-- Which events touch the packs, and which may write.
use Rattle.std.specs.Prelude.{ℕ, Bool, true, false, ◌&&◌}
use Rattle.trace_replay.specs.Script as script
use Rattle.trace_replay.specs.Script.{Input}
use Rattle.driver_machine.specs.World.{World, adapter_at}
use Rattle.driver_machine.specs.Events.{can_move}

-- the next sector that an adapter moves may be written
abbrev pub writes_next : World → ℕ → Bool
writes_next w a = can_move (adapter_at w a) && (adapter_at w a).state.write

-- only a move touches the packs, and only the move of a write may change them
abbrev pub is_move : Input → Bool
is_move (script.MoveAt a) = true
is_move input = false

abbrev pub writes_by : World → Input → Bool
writes_by w (script.MoveAt a) = writes_next w a
writes_by w input = false
