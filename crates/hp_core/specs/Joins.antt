-- What a submission does.
use Rattle.std.specs.Prelude.{◌≡◌, ℕ, ◌+◌, ◌<◌, ◌≤◌, List, length, Some, None, slice_set}
use Rattle.pack_geometry.specs.Geometry.{limit_of}
use Rattle.main_memory.specs.Frames.{frames_needed}
use Rattle.driver_machine.specs.World.{World, Held, no_held, unit_at, slot_at}
use Rattle.driver_machine.specs.Acts.{Submit, joined}
use Rattle.driver_machine.specs.Guards.{IsApart, IsNew, IsSetUp, IsFresh}
use Rattle.request_slots.specs.declared.asked.Asked.{Asked}
use Rattle.request_slots.specs.Requests.{HasFree, IsAskable, IsHeldFor}
use Rattle.hp_core.specs.State.{State}
use Rattle.hp_core.specs.Done.{DoesSilently}

-- IT MAY JOIN with these bytes: a slot is free, no answer waits, its unit is set up, its id is fresh, its blocks lie before the tables at
-- the end of the pack, and there are frames for it.
pub record MayJoin (w : World) (asked : Asked) (bytes : List ℕ) : Type 0 where
  pub free : HasFree w.slots
  pub unit : IsSetUp w asked.unit
  pub fresh : IsFresh w asked.id
  pub below : asked.first + asked.count ≤ limit_of (unit_at w asked.unit).drive.kind
  pub room : w.frames + frames_needed asked.count asked.offset asked.last ≤ 16384
  pub is : IsAskable asked bytes

-- A request is put into a free slot with these bytes, in frames that no other has.
pub record IsPut (slot : ℕ) (asked : Asked) (bytes : List ℕ) (old new : State) : Type 0 where
  pub inside : slot < length old.world.slots
  pub free : slot_at old.world slot ≡ None
  pub held : Held
  pub is : IsHeldFor asked bytes held
  pub apart : (q : ℕ) (g : Held) → slot_at old.world q ≡ Some g → IsApart held.loan.frames g.loan.frames
  pub state : new ≡ record old {
    world = record old.world {
      slots = slice_set old.world.slots slot (Some held);
      frames = old.world.frames + frames_needed asked.count asked.offset asked.last;
    };
  }

-- a unit with a request in its queue, by its slot and its first block
abbrev pub in_queue : ℕ → ℕ → ℕ → State → State
in_queue u slot first old = record old {
  world = record old.world { units = slice_set old.world.units u (joined slot (record no_held { first = first }) (unit_at old.world u)) };
}

-- A REQUEST JOINS with these bytes: as it then stands in its slot, the call does the act of its submission.
pub record Joins (line slot : ℕ) (asked : Asked) (bytes : List ℕ) (old new : State) : Type 0 where
  pub held : Held
  pub is : IsHeldFor asked bytes held
  pub may : IsNew old.world slot held
  pub does : DoesSilently old new (Submit line slot held)
