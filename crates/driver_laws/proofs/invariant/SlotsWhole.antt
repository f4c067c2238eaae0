-- What holds of queues, slots, frames and answers, of drives and tables, of phases, and of adapters, is all that holds of the world.
use Rattle.std.proofs.Common.{◌≡◌, ℕ, ◌<◌, Some}
use Rattle.pack_geometry.specs.TableSpelling.{Table}
use Rattle.driver_machine.specs.World.{World, unit_at, adapter_at, held_in, slot_in_hand, adapter_of}
use Rattle.driver_machine.specs.Sound.{IsDrive, IsPhase, IsTableFor, AdapterOk, Sound}
use Rattle.driver_laws.proofs.invariant.Parts.{IsServed, AreSlots, AreFrames, AreAnswers}

pub sound_from : (w : World) → ((u : ℕ) → u < 32 → IsServed w u (unit_at w u)) → AreSlots w → AreFrames w → AreAnswers w
    → ((u : ℕ) → u < 32 → IsDrive (unit_at w u).drive)
    → ((u : ℕ) → u < 32 → (table : Table) → (unit_at w u).table ≡ Some table → IsTableFor (unit_at w u).drive.kind table)
    → ((u : ℕ) → u < 32 → IsPhase u (unit_at w u) (adapter_at w (adapter_of u)) (held_in w (slot_in_hand (unit_at w u))) (unit_at w u).phase)
    → ((a : ℕ) → a < 4 → AdapterOk w a (adapter_at w a)) → Sound w
sound_from w queues slots frames answers drives tables phases adapters = record {
  units = slots.units;
  adapters = slots.adapters;
  each_unit = λ u lt.
      let served = queues u lt in
      record {
        queue = served.queue;
        once = served.once;
        order = served.order;
        drive = drives u lt;
        head = served.head;
        phase = phases u lt;
        table = tables u lt;
        undeclared = served.undeclared;
      };
  each_adapter = adapters;
  each_slot = slots.each;
  differ = slots.differ;
  apart = slots.apart;
  frames = frames.used;
  room = frames.room;
  answers = answers.each;
  refused = answers.refused;
  once = answers.once;
}
