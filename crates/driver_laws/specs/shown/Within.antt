-- What the replay shows inside an event: a drain does not go on to its next event there.
use Rattle.std.specs.Prelude.{◌≡◌, ℕ, ◌<◌, Bool, false}
use Rattle.trace_replay.specs.Conversation.{goes_on}
use Rattle.trace_replay.specs.Events.{Act}
use Rattle.trace_replay.specs.Replay.{Replay, WorkMay}
use Rattle.driver_machine.specs.World.{World, adapter_of, unit_at, adapter_at, held_in}
use Rattle.driver_machine.specs.Guards.{IsSetUp}
use Rattle.driver_machine.specs.Sound.{Sound}
use Rattle.driver_laws.specs.shown.Shows.{IsUnitSeen, IsAdapterSeen, outstanding_in}

-- THE REPLAY shows a world in which no unit speaks.
pub record ShowsAll (w : World) (s : Replay) : Type 0 where
  pub units : (x : ℕ) → IsSetUp w x → IsUnitSeen (held_in w) (unit_at w x) (adapter_at w (adapter_of x)).state (s.units x)
  pub adapters : (a : ℕ) → a < 4 → IsAdapterSeen (adapter_at w a).state (s.adapters a).state
  pub ready : (a : ℕ) → a < 4 → (s.adapters a).ready ≡ (adapter_at w a).queue
  pub noise : s.surface.live ≡ w.book.live
  pub frames : s.frames ≡ w.frames
  pub outstanding : s.outstanding ≡ outstanding_in w.slots

-- WHAT AN EVENT IS, as the replay sees it: its line, whether it is a drain's, and what is still to come.
pub record IsEvent (line : ℕ) (drains : Bool) (act : Act) (s : Replay) : Type 0 where
  pub line_is : s.event.line ≡ line
  pub drains_is : s.event.drains ≡ drains
  pub act_is : s.event.act ≡ act
  pub work : WorkMay s.event.between s

-- NO UNIT SPEAKS: the world is sound and shown, and no line is due for a unit by itself.
pub record Rests (line : ℕ) (drains : Bool) (act : Act) (w : World) (s : Replay) : Type 0 where
  pub sound : Sound w
  pub shows : ShowsAll w s
  pub event : IsEvent line drains act s
  pub quiet : (x : ℕ) → goes_on (s.units x).stage ≡ false
