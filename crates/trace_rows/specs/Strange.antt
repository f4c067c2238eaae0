-- States that no run comes to, in which a line breaks a rule that all runs keep by the others.
use Rattle.std.specs.Prelude.{◌==◌, false, if◌then◌else◌, [], ◌∷◌, None}
use Rattle.pack_geometry.specs.declared.DriveKind.TheVariants.{Rp06}
use Rattle.drive_registers.specs.declared.Function.TheVariants as function
use Rattle.hardware_table.specs.declared.Moved.TheVariants as verdict
use Rattle.hardware_table.specs.Functions.{performed}
use Rattle.partitions.specs.declared.Part.TheVariants as part
use Rattle.trace_replay.specs.Script.{Declares, Submit, Drain}
use Rattle.trace_replay.specs.Moments.{Played, Told, Search, Arrive, Attn, Transfer}
use Rattle.trace_replay.specs.Conversation.{Moving, OwnBlocks}
use Rattle.trace_replay.specs.Replay.{Replay, after_moments}
use Rattle.trace_rows.specs.Accepted.{over_zeros}

-- unit 0 is an RP06, over a pack that holds nothing
abbrev pub one_drive : Replay
one_drive = over_zeros (record { lines = record { number = 1; statement = Declares 0 Rp06 } ∷ []; count = 1 })

-- each drive positions, though nothing was asked of it
abbrev pub busy_start : Replay
busy_start = record one_drive {
  units = λ unit. record (one_drive.units unit) { drive = performed function.Recal (one_drive.units unit).drive };
}

-- a second unit moves sectors, and its adapter knows nothing of it
abbrev pub stranded_start : Replay
stranded_start = record one_drive {
  there = 0 ∷ 1 ∷ [];
  units = λ unit. if unit == 1 then record (one_drive.units unit) { stage = Moving OwnBlocks 1 verdict.Clean } else one_drive.units unit;
}

-- in the middle of a transfer, with the adapter one sector further on
abbrev pub in_transfer : Replay
in_transfer = after_moments one_drive (
    Played 2 (Submit (record { id = 1; unit = 0; part = part.C; block = 0; count = 1; last = 512; offset = 0; written = None }))
    ∷ Told 2 0 1 (Search 0 19) ∷ Played 3 Drain ∷ Told 3 0 1 Arrive ∷ Told 3 0 1 Attn ∷ Told 3 0 1 (Transfer false 0 1) ∷ []
    )

abbrev pub skewed_start : Replay
skewed_start = record in_transfer {
  adapters = λ adapter. record (in_transfer.adapters adapter) { state = record (in_transfer.adapters adapter).state { moved = 1 } };
}
