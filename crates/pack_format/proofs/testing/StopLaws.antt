-- What is known better of the bytes that were written where a test stopped.
use Rattle.std.proofs.Common.{Bool, ℕ, List}
use Rattle.pack_format.specs.testing.Stops.{CameBack, IsStop}
use Rattle.pack_format.specs.declared.fault.FormatFault.{FormatFault}
use Rattle.pack_format.specs.declared.fault.FormatFault.TheVariants.{Differs, Store}

came_as : (Wrote Known : ℕ → List ℕ → Type 0) (block at wrote read : ℕ) → CameBack Wrote block at wrote read → ((bytes : List ℕ) → Wrote block bytes → Known block bytes)
    → CameBack Known block at wrote read
came_as Wrote Known block at wrote read came more = record {
  bytes = came.bytes;
  written = more came.bytes came.written;
  back = came.back;
  size = came.size;
  within = came.within;
  before = came.before;
  wrote_is = came.wrote_is;
  read_is = came.read_is;
  other = came.other;
}

pub stop_as : (told : Bool) (Wrote Known : ℕ → List ℕ → Type 0) → ((block : ℕ) (bytes : List ℕ) → Wrote block bytes → Known block bytes) → (f : FormatFault)
    → IsStop told Wrote f → IsStop told Known f
stop_as told Wrote Known more (Differs block at wrote read) stop = (stop.0, came_as Wrote Known block at wrote read stop.1 (more block))
stop_as told Wrote Known more Store stop = tt
stop_as told Wrote Known more other stop = absurd stop
