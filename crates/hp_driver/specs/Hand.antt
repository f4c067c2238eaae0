-- The request in hand.
use Rattle.std.specs.Prelude.{◌≡◌, ℕ, ◌<◌}
use Rattle.pack_geometry.specs.Geometry.{block_count}
use Rattle.hp_core.specs.Asked.{Asked}
use Rattle.hp_core.specs.Requests.{asked_of}
use Rattle.driver_machine.specs.World.{World, UnitView, AdapterView, Held, unit_at, held_in, slot_in_hand}
use Rattle.driver_machine.specs.Sound.{IsDrive, IsPhase}

-- the request that is first in the queue of a unit
abbrev pub hand_at : World → ℕ → Held
hand_at w u = held_in w (slot_in_hand (unit_at w u))

-- a unit as it is between two deeds, where the request in hand asks this
pub record IsAskedAt (v : UnitView) (asked : Asked) : Type 0 where
  pub unit : ℕ
  pub adapter : AdapterView
  pub held : Held
  pub is : asked ≡ asked_of held
  pub drive : IsDrive v.drive
  pub below : held.first < block_count v.drive.kind
  pub phase : IsPhase unit v adapter held v.phase
