-- Rows of traces, as docs/trace-rows/rows.py writes them.
use Rattle.std.specs.Prelude.{◌++◌, true, false, [], ◌∷◌, Some, None, replicate}
use Rattle.pack_geometry.specs.declared.DriveKind.TheVariants.{Rp06}
use Rattle.partitions.specs.declared.Part.TheVariants as part
use Rattle.hardware_table.specs.declared.FaultKind.TheVariants as kind
use Rattle.hardware_table.specs.declared.Moved.TheVariants.{Clean, Faulted}
use Rattle.trace_replay.specs.requests.Requests.{ReadOk, WriteOk}
use Rattle.trace_replay.specs.Script.{Submit, ArriveAt, MoveAt, AttendTo, Drain, Arm, Declares, Plays}
use Rattle.trace_replay.specs.Moments.{Search, Recal, Clear, Transfer, Arrive, Sector, Intr, Try, Attn, End}
use Rattle.trace_rows.specs.Accepted.{over_zeros, Row, row, Says, clean}

-- write_by_events: a write of two blocks event by event, and a read
abbrev pub write_by_events : Row
write_by_events = row (record { number = 1; statement = Declares 0 Rp06 } ∷ record { number = 2; statement = Plays (Submit (record { id = 1; unit = 0; part = part.C; block = 418; count = 2; last = 512; offset = 0; written = Some (replicate 1024 17) })) } ∷ record { number = 3; statement = Plays (ArriveAt 0) } ∷ record { number = 4; statement = Plays (AttendTo 0) } ∷ record { number = 5; statement = Plays (MoveAt 0) } ∷ record { number = 6; statement = Plays (MoveAt 0) } ∷ record { number = 7; statement = Plays (AttendTo 0) } ∷ record { number = 8; statement = Plays (Submit (record { id = 2; unit = 0; part = part.C; block = 418; count = 2; last = 512; offset = 0; written = None })) } ∷ []) 8 over_zeros (
    Says 2 0 1 (Search 1 19 ∷ []) ∷
    Says 3 0 1 (Arrive ∷ []) ∷
    Says 4 0 1 (Attn ∷ Transfer true 418 2 ∷ []) ∷
    Says 5 0 1 (Sector 418 Clean ∷ []) ∷
    Says 6 0 1 (Sector 419 Clean ∷ []) ∷
    Says 7 0 1 (Intr ∷ End WriteOk ∷ []) ∷
    Says 8 0 2 (Search 1 19 ∷ []) ∷
    Says 9 0 2 (Arrive ∷ Attn ∷ Transfer false 418 2 ∷ Sector 418 Clean ∷ Sector 419 Clean ∷ Intr ∷ End (ReadOk (replicate 1024 17)) ∷ []) ∷
    [])

-- written_as_far_as_done: a write is tried again where it failed, and not from its beginning
abbrev pub written_as_far_as_done : Row
written_as_far_as_done = row (record { number = 1; statement = Declares 0 Rp06 } ∷ record { number = 2; statement = Plays (Submit (record { id = 1; unit = 0; part = part.C; block = 5; count = 4; last = 512; offset = 0; written = Some (replicate 2048 119) })) } ∷ record { number = 3; statement = Plays (MoveAt 0) } ∷ record { number = 4; statement = Plays (MoveAt 0) } ∷ record { number = 5; statement = Plays (Arm 0 kind.Opi 5) } ∷ record { number = 6; statement = Plays (Drain) } ∷ record { number = 7; statement = Plays (Submit (record { id = 2; unit = 0; part = part.C; block = 5; count = 4; last = 512; offset = 0; written = None })) } ∷ []) 7 over_zeros (
    Says 2 0 1 (Transfer true 5 4 ∷ []) ∷
    Says 3 0 1 (Sector 5 Clean ∷ []) ∷
    Says 4 0 1 (Sector 6 Clean ∷ []) ∷
    Says 6 0 1 (Sector 7 (Faulted kind.Opi) ∷ Intr ∷ Clear ∷ Try 7 1 ∷
    Transfer true 7 2 ∷ Sector 7 (Faulted kind.Opi) ∷ Intr ∷ Clear ∷ Try 7 2 ∷
    Transfer true 7 2 ∷ Sector 7 (Faulted kind.Opi) ∷ Intr ∷ Clear ∷ Try 7 3 ∷
    Transfer true 7 2 ∷ Sector 7 (Faulted kind.Opi) ∷ Intr ∷ Clear ∷ Try 7 4 ∷
    Recal ∷ Arrive ∷ Attn ∷ Transfer true 7 2 ∷ Sector 7 (Faulted kind.Opi) ∷ Intr ∷ Clear ∷ Try 7 5 ∷
    Transfer true 7 2 ∷ Sector 7 Clean ∷ Sector 8 Clean ∷ Intr ∷ End WriteOk ∷ []) ∷
    Says 7 0 2 (Search 0 2 ∷ []) ∷
    Says 8 0 2 (Arrive ∷ Attn ∷ Transfer false 5 4 ∷ clean 5 4 (Intr ∷ End (ReadOk (replicate 2048 119)) ∷ [])) ∷
    [])

-- written_short: a write of 515 bytes, and a read of the two blocks
abbrev pub written_short : Row
written_short = row (record { number = 1; statement = Declares 0 Rp06 } ∷ record { number = 2; statement = Plays (Submit (record { id = 1; unit = 0; part = part.C; block = 5; count = 2; last = 3; offset = 0; written = Some (replicate 515 119) })) } ∷ record { number = 3; statement = Plays (Submit (record { id = 2; unit = 0; part = part.C; block = 5; count = 2; last = 512; offset = 0; written = None })) } ∷ []) 3 over_zeros (
    Says 2 0 1 (Transfer true 5 2 ∷ []) ∷
    Says 4 0 1 (Sector 5 Clean ∷ Sector 6 Clean ∷ Intr ∷ End WriteOk ∷ []) ∷
    Says 4 0 2 (Search 0 2 ∷ Arrive ∷ Attn ∷ Transfer false 5 2 ∷ Sector 5 Clean ∷ Sector 6 Clean ∷ Intr ∷
    End (ReadOk (replicate 515 119 ++ replicate 509 0)) ∷ []) ∷
    [])
