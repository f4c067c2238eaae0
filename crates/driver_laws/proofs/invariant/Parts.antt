use Rattle.std.specs.Prelude.{◌≡◌, ◌≢◌, ℕ, ◌<◌, ◌≤◌, false, [], length, Some, None, Contains, IsTrue}
use Rattle.disksort.specs.declared.Waiter.{Waiter}
use Rattle.trace_replay.specs.requests.ServiceOrder.{IsInOrder}
use Rattle.driver_machine.specs.declared.Made.{Made}
use Rattle.driver_machine.specs.World.{World, UnitView, Held, slot_at}
use Rattle.driver_machine.specs.Guards.{IsApart}
use Rattle.driver_machine.specs.Refusals.{refuses}
use Rattle.driver_machine.specs.Sound.{Once, slots_of, is_waiting, IsOutstanding, SlotOk, IsMade, slots_made, frames_used}

-- What each act keeps of queues, slots, frames, answers and sizes.

-- THE QUEUE of a unit: those in it are outstanding, each once, in service order; unless the unit waits there is a head, and a
-- unit that is not set up has none.
pub record IsServed (w : World) (u : ℕ) (v : UnitView) : Type 0 where
  pub queue : (x : Waiter) → Contains v.queue x → IsOutstanding w u x
  pub once : Once (slots_of v.queue)
  pub order : IsInOrder (λ (x : Waiter). x.cylinder) v.queue
  pub head : is_waiting v.phase ≡ false → 0 < length v.queue
  pub undeclared : v.declared ≡ false → v.queue ≡ []

-- THE SLOTS: each one is as it has to be, no two requests that are outstanding have an id, and no two share a frame; there are
-- 32 units and four adapters.
pub record AreSlots (w : World) : Type 0 where
  pub units : length w.units ≡ 32
  pub adapters : length w.adapters ≡ 4
  pub each : (p : ℕ) (h : Held) → slot_at w p ≡ Some h → SlotOk w p h
  pub differ : (p q : ℕ) (g h : Held) → slot_at w p ≡ Some g → slot_at w q ≡ Some h
      → g.ended ≡ false → h.ended ≡ false → g.id ≡ h.id → p ≡ q
  pub apart : (p q : ℕ) (g h : Held) → slot_at w p ≡ Some g → slot_at w q ≡ Some h → p ≢ q → IsApart g.loan.frames h.loan.frames

-- THE FRAMES are those that the outstanding requests need, and there are no more than the memory has.
pub record AreFrames (w : World) : Type 0 where
  pub used : w.frames ≡ frames_used w.slots
  pub room : w.frames ≤ 16384

-- THE ANSWERS that wait: each one for a slot is that of the request there, any other is that of a request that was refused, and
-- no slot has two.
pub record AreAnswers (w : World) : Type 0 where
  pub each : (made : Made) (p : ℕ) → Contains w.answers made → made.slot ≡ Some p → IsMade w made p
  pub refused : (made : Made) → Contains w.answers made → made.slot ≡ None → IsTrue (refuses made.answer.kind)
  pub once : Once (slots_made w.answers)

-- another world has as many units, adapters and slots
pub record IsAsLarge (w now : World) : Type 0 where
  pub units : length now.units ≡ length w.units
  pub adapters : length now.adapters ≡ length w.adapters
  pub slots : length now.slots ≡ length w.slots
