-- Acts that come one after another, each when it may; and the conditions under which an input comes.
use Rattle.std.specs.Prelude.{◌≡◌, ℕ, ◌<◌, true, IsTrue, List, [], ◌∷◌, None, Some}
use Rattle.hardware_table.specs.Adapter.{next_block}
use Rattle.trace_replay.specs.requests.Requests.{Request}
use Rattle.trace_replay.specs.Script as script
use Rattle.trace_replay.specs.Script.{Input}
use Rattle.driver_machine.specs.World.{World, Held, unit_at, adapter_at, slot_at, unit_of}
use Rattle.driver_machine.specs.Acts.{Act, Tried, scene_of, after, after_all}
use Rattle.driver_machine.specs.Events.{can_arrive, can_move, can_attend, refusal_of}
use Rattle.driver_machine.specs.Guards.{Allowed, IsTried, IsSetUp, IsFresh, IsNew, MayChange}
use Rattle.driver_machine.specs.Sound.{Sound, AtWork}

-- A RUN: each act is allowed where it comes.
abbrev pub Run : World → List Act → Type 0
Run w [] = Unit {0}
Run w (act ∷ acts) = Allowed w act × Run (after w act) acts

-- acts of an event: they run, and behind the last one the driver is sound and at work
pub record Works (w : World) (acts : List Act) : Type 0 where
  pub run : Run w acts
  pub sound : Sound (after_all w acts)
  pub work : AtWork (after_all w acts)

-- A request may be submitted to a unit that is set up, with a fresh id; where it is not refused it may join in the slot.
pub record MaySubmit (w : World) (r : Request) (p : ℕ) (h : Held) : Type 0 where
  pub unit : IsSetUp w r.unit
  pub fresh : IsFresh w r.id
  pub new : refusal_of r w ≡ None → IsNew w p h

-- Any other input may come: a move with a sector that is tried as the rules say, where the adapter can move; a condition where it
-- may change; a positioning or an interrupt always.
abbrev pub MayCome : World → Input → Tried → Type 0
MayCome w (script.ArriveAt u) tried = Unit {0}
MayCome w (script.MoveAt a) tried =
    IsTrue (can_move (adapter_at w a)) → IsTried (unit_of w a) (next_block (adapter_at w a).state) tried (scene_of w (unit_of w a))
MayCome w (script.AttendTo a) tried = Unit {0}
MayCome w input tried = MayChange w input

-- AN EVENT THAT CAN COME finds something to do.
abbrev pub CanCome : World → Input → Type 0
CanCome w (script.ArriveAt u) = IsSetUp w u × IsTrue (can_arrive (unit_at w u))
CanCome w (script.MoveAt a) = (a < 4) × IsTrue (can_move (adapter_at w a))
CanCome w (script.AttendTo a) = (a < 4) × IsTrue (can_attend (adapter_at w a))
CanCome w input = ⊥

-- no request is outstanding
abbrev pub NoneOutstanding : World → Type 0
NoneOutstanding w = (p : ℕ) (h : Held) → slot_at w p ≡ Some h → h.ended ≡ true
