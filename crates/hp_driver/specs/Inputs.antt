-- What an event is in a script.
use Rattle.trace_replay.specs.Script as script
use Rattle.trace_replay.specs.Script.{Input}
use Rattle.hp_driver.specs.declared.drain.Event.{Event}
use Rattle.hp_driver.specs.declared.drain.Event.TheVariants.{Arrive, Move, Attend, Turn, Noise, Fault, Online, Lock}

-- the input that stands for it
abbrev pub input_of : Event → Input
input_of (Arrive u) = script.ArriveAt u
input_of (Move a) = script.MoveAt a
input_of (Attend a) = script.AttendTo a
input_of (Turn u sector) = script.Turn u sector
input_of (Noise u block noise span) = script.Noise (record { unit = u; block = block; span = span; places = noise })
input_of (Fault u kind times) = script.Arm u kind times
input_of (Online u on) = script.SetOnline u on
input_of (Lock u on) = script.SetLocked u on
