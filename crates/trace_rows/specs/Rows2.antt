-- Rows of traces, as docs/trace-rows/rows.py writes them.
use Rattle.std.specs.Prelude.{true, false, [], ◌∷◌, Some, None, replicate}
use Rattle.pack_geometry.specs.declared.DriveKind.TheVariants.{Rp06}
use Rattle.partitions.specs.declared.Part.TheVariants as part
use Rattle.drive_registers.specs.declared.OffsetCode.TheVariants.{Plus400}
use Rattle.hardware_table.specs.declared.FaultKind.TheVariants as kind
use Rattle.hardware_table.specs.declared.NoiseSpan.TheVariants.{Until}
use Rattle.hardware_table.specs.declared.Moved.TheVariants.{Clean, Faulted}
use Rattle.trace_replay.specs.requests.Requests.{Offline, ReadOk, WriteOk, OutsidePartition, EndOfPartition, Failed}
use Rattle.trace_replay.specs.Script.{Submit, ArriveAt, MoveAt, AttendTo, Drain, Noise, Arm, SetOnline, Declares, Plays}
use Rattle.trace_replay.specs.Moments.{Search, Recal, Offset, Centre, Clear, Pack, Transfer, Arrive, Sector, Intr, Try, Attn, End}
use Rattle.trace_rows.specs.Accepted.{over_zeros, Row, row, Says, Waits}

-- offset_outlasts: an offset that outlasts its request ends noise that waits for it
abbrev pub offset_outlasts : Row
offset_outlasts = row (record { number = 1; statement = Declares 0 Rp06 } ∷ record { number = 2; statement = Plays (Arm 0 kind.Opi 16) } ∷ record { number = 3; statement = Plays (Submit (record { id = 1; unit = 0; part = part.C; block = 5; count = 1; last = 512; offset = 0; written = None })) } ∷ record { number = 4; statement = Plays (MoveAt 0) } ∷ record { number = 5; statement = Plays (AttendTo 0) } ∷ record { number = 6; statement = Plays (MoveAt 0) } ∷ record { number = 7; statement = Plays (AttendTo 0) } ∷ record { number = 8; statement = Plays (MoveAt 0) } ∷ record { number = 9; statement = Plays (AttendTo 0) } ∷ record { number = 10; statement = Plays (MoveAt 0) } ∷ record { number = 11; statement = Plays (AttendTo 0) } ∷ record { number = 12; statement = Plays (ArriveAt 0) } ∷ record { number = 13; statement = Plays (AttendTo 0) } ∷ record { number = 14; statement = Plays (MoveAt 0) } ∷ record { number = 15; statement = Plays (AttendTo 0) } ∷ record { number = 16; statement = Plays (MoveAt 0) } ∷ record { number = 17; statement = Plays (AttendTo 0) } ∷ record { number = 18; statement = Plays (MoveAt 0) } ∷ record { number = 19; statement = Plays (AttendTo 0) } ∷ record { number = 20; statement = Plays (MoveAt 0) } ∷ record { number = 21; statement = Plays (AttendTo 0) } ∷ record { number = 22; statement = Plays (MoveAt 0) } ∷ record { number = 23; statement = Plays (AttendTo 0) } ∷ record { number = 24; statement = Plays (MoveAt 0) } ∷ record { number = 25; statement = Plays (AttendTo 0) } ∷ record { number = 26; statement = Plays (MoveAt 0) } ∷ record { number = 27; statement = Plays (AttendTo 0) } ∷ record { number = 28; statement = Plays (MoveAt 0) } ∷ record { number = 29; statement = Plays (AttendTo 0) } ∷ record { number = 30; statement = Plays (ArriveAt 0) } ∷ record { number = 31; statement = Plays (AttendTo 0) } ∷ record { number = 32; statement = Plays (MoveAt 0) } ∷ record { number = 33; statement = Plays (AttendTo 0) } ∷ record { number = 34; statement = Plays (MoveAt 0) } ∷ record { number = 35; statement = Plays (AttendTo 0) } ∷ record { number = 36; statement = Plays (MoveAt 0) } ∷ record { number = 37; statement = Plays (AttendTo 0) } ∷ record { number = 38; statement = Plays (MoveAt 0) } ∷ record { number = 39; statement = Plays (AttendTo 0) } ∷ record { number = 40; statement = Plays (SetOnline 0 false) } ∷ record { number = 41; statement = Plays (ArriveAt 0) } ∷ record { number = 42; statement = Plays (AttendTo 0) } ∷ record { number = 43; statement = Plays (SetOnline 0 true) } ∷ record { number = 44; statement = Plays (Noise (record { unit = 0; block = 5; span = Until Plus400; places = 0 ∷ 7 ∷ 14 ∷ [] })) } ∷ record { number = 45; statement = Plays (Submit (record { id = 2; unit = 0; part = part.C; block = 5; count = 1; last = 512; offset = 0; written = None })) } ∷ []) 45 over_zeros (
    Says 3 0 1 (Transfer false 5 1 ∷ []) ∷
    Says 4 0 1 (Sector 5 (Faulted kind.Opi) ∷ []) ∷
    Says 5 0 1 (Intr ∷ Clear ∷ Try 5 1 ∷ Transfer false 5 1 ∷ []) ∷
    Says 6 0 1 (Sector 5 (Faulted kind.Opi) ∷ []) ∷
    Says 7 0 1 (Intr ∷ Clear ∷ Try 5 2 ∷ Transfer false 5 1 ∷ []) ∷
    Says 8 0 1 (Sector 5 (Faulted kind.Opi) ∷ []) ∷
    Says 9 0 1 (Intr ∷ Clear ∷ Try 5 3 ∷ Transfer false 5 1 ∷ []) ∷
    Says 10 0 1 (Sector 5 (Faulted kind.Opi) ∷ []) ∷
    Says 11 0 1 (Intr ∷ Clear ∷ Try 5 4 ∷ Recal ∷ []) ∷
    Says 12 0 1 (Arrive ∷ []) ∷
    Says 13 0 1 (Attn ∷ Transfer false 5 1 ∷ []) ∷
    Says 14 0 1 (Sector 5 (Faulted kind.Opi) ∷ []) ∷
    Says 15 0 1 (Intr ∷ Clear ∷ Try 5 5 ∷ Transfer false 5 1 ∷ []) ∷
    Says 16 0 1 (Sector 5 (Faulted kind.Opi) ∷ []) ∷
    Says 17 0 1 (Intr ∷ Clear ∷ Try 5 6 ∷ Transfer false 5 1 ∷ []) ∷
    Says 18 0 1 (Sector 5 (Faulted kind.Opi) ∷ []) ∷
    Says 19 0 1 (Intr ∷ Clear ∷ Try 5 7 ∷ Transfer false 5 1 ∷ []) ∷
    Says 20 0 1 (Sector 5 (Faulted kind.Opi) ∷ []) ∷
    Says 21 0 1 (Intr ∷ Clear ∷ Try 5 8 ∷ Transfer false 5 1 ∷ []) ∷
    Says 22 0 1 (Sector 5 (Faulted kind.Opi) ∷ []) ∷
    Says 23 0 1 (Intr ∷ Clear ∷ Try 5 9 ∷ Transfer false 5 1 ∷ []) ∷
    Says 24 0 1 (Sector 5 (Faulted kind.Opi) ∷ []) ∷
    Says 25 0 1 (Intr ∷ Clear ∷ Try 5 10 ∷ Transfer false 5 1 ∷ []) ∷
    Says 26 0 1 (Sector 5 (Faulted kind.Opi) ∷ []) ∷
    Says 27 0 1 (Intr ∷ Clear ∷ Try 5 11 ∷ Transfer false 5 1 ∷ []) ∷
    Says 28 0 1 (Sector 5 (Faulted kind.Opi) ∷ []) ∷
    Says 29 0 1 (Intr ∷ Clear ∷ Try 5 12 ∷ Recal ∷ []) ∷
    Says 30 0 1 (Arrive ∷ []) ∷
    Says 31 0 1 (Attn ∷ Transfer false 5 1 ∷ []) ∷
    Says 32 0 1 (Sector 5 (Faulted kind.Opi) ∷ []) ∷
    Says 33 0 1 (Intr ∷ Clear ∷ Try 5 13 ∷ Transfer false 5 1 ∷ []) ∷
    Says 34 0 1 (Sector 5 (Faulted kind.Opi) ∷ []) ∷
    Says 35 0 1 (Intr ∷ Clear ∷ Try 5 14 ∷ Transfer false 5 1 ∷ []) ∷
    Says 36 0 1 (Sector 5 (Faulted kind.Opi) ∷ []) ∷
    Says 37 0 1 (Intr ∷ Clear ∷ Try 5 15 ∷ Transfer false 5 1 ∷ []) ∷
    Says 38 0 1 (Sector 5 (Faulted kind.Opi) ∷ []) ∷
    Says 39 0 1 (Intr ∷ Clear ∷ Try 5 16 ∷ Offset Plus400 ∷ []) ∷
    Says 41 0 1 (Arrive ∷ []) ∷
    Says 42 0 1 (Attn ∷ End (Failed Offline 0) ∷ []) ∷
    Says 45 0 2 (Pack ∷ Transfer false 5 1 ∷ []) ∷
    Says 46 0 2 (Sector 5 Clean ∷ Intr ∷ Centre ∷ End (ReadOk (replicate 512 0)) ∷ []) ∷
    [])

-- pack_in_a_retry: a unit that was offline: PACK before the next step of its retry
abbrev pub pack_in_a_retry : Row
pack_in_a_retry = row (record { number = 1; statement = Declares 0 Rp06 } ∷ record { number = 2; statement = Plays (Arm 0 kind.Opi 4) } ∷ record { number = 3; statement = Plays (Submit (record { id = 1; unit = 0; part = part.C; block = 5; count = 1; last = 512; offset = 0; written = None })) } ∷ record { number = 4; statement = Plays (MoveAt 0) } ∷ record { number = 5; statement = Plays (AttendTo 0) } ∷ record { number = 6; statement = Plays (MoveAt 0) } ∷ record { number = 7; statement = Plays (AttendTo 0) } ∷ record { number = 8; statement = Plays (MoveAt 0) } ∷ record { number = 9; statement = Plays (AttendTo 0) } ∷ record { number = 10; statement = Plays (MoveAt 0) } ∷ record { number = 11; statement = Plays (AttendTo 0) } ∷ record { number = 12; statement = Plays (SetOnline 0 false) } ∷ record { number = 13; statement = Plays (SetOnline 0 true) } ∷ record { number = 14; statement = Plays (ArriveAt 0) } ∷ record { number = 15; statement = Plays (AttendTo 0) } ∷ record { number = 16; statement = Plays (Drain) } ∷ []) 16 over_zeros (
    Says 3 0 1 (Transfer false 5 1 ∷ []) ∷
    Says 4 0 1 (Sector 5 (Faulted kind.Opi) ∷ []) ∷
    Says 5 0 1 (Intr ∷ Clear ∷ Try 5 1 ∷ Transfer false 5 1 ∷ []) ∷
    Says 6 0 1 (Sector 5 (Faulted kind.Opi) ∷ []) ∷
    Says 7 0 1 (Intr ∷ Clear ∷ Try 5 2 ∷ Transfer false 5 1 ∷ []) ∷
    Says 8 0 1 (Sector 5 (Faulted kind.Opi) ∷ []) ∷
    Says 9 0 1 (Intr ∷ Clear ∷ Try 5 3 ∷ Transfer false 5 1 ∷ []) ∷
    Says 10 0 1 (Sector 5 (Faulted kind.Opi) ∷ []) ∷
    Says 11 0 1 (Intr ∷ Clear ∷ Try 5 4 ∷ Recal ∷ []) ∷
    Says 14 0 1 (Arrive ∷ []) ∷
    Says 15 0 1 (Attn ∷ Pack ∷ Transfer false 5 1 ∷ []) ∷
    Says 16 0 1 (Sector 5 Clean ∷ Intr ∷ End (ReadOk (replicate 512 0)) ∷ []) ∷
    Waits 17 ∷
    [])

-- partition_ends: requests at the end of a partition, beyond it, and in one that is empty
abbrev pub partition_ends : Row
partition_ends = row (record { number = 1; statement = Declares 0 Rp06 } ∷ record { number = 2; statement = Plays (Submit (record { id = 1; unit = 0; part = part.C; block = 340522; count = 1; last = 512; offset = 0; written = None })) } ∷ record { number = 3; statement = Plays (Submit (record { id = 2; unit = 0; part = part.C; block = 340521; count = 2; last = 512; offset = 0; written = None })) } ∷ record { number = 4; statement = Plays (Submit (record { id = 3; unit = 0; part = part.H; block = 0; count = 1; last = 512; offset = 0; written = None })) } ∷ []) 4 over_zeros (
    Says 2 0 1 (End EndOfPartition ∷ []) ∷
    Says 3 0 2 (End OutsidePartition ∷ []) ∷
    Says 4 0 3 (End EndOfPartition ∷ []) ∷
    Waits 5 ∷
    [])

-- read_short: a read of four bytes
abbrev pub read_short : Row
read_short = row (record { number = 1; statement = Declares 0 Rp06 } ∷ record { number = 2; statement = Plays (Submit (record { id = 1; unit = 0; part = part.C; block = 5; count = 1; last = 512; offset = 0; written = Some (replicate 512 44) })) } ∷ record { number = 3; statement = Plays (Submit (record { id = 2; unit = 0; part = part.C; block = 5; count = 1; last = 4; offset = 0; written = None })) } ∷ []) 3 over_zeros (
    Says 2 0 1 (Transfer true 5 1 ∷ []) ∷
    Says 4 0 1 (Sector 5 Clean ∷ Intr ∷ End WriteOk ∷ []) ∷
    Says 4 0 2 (Search 0 2 ∷ Arrive ∷ Attn ∷ Transfer false 5 1 ∷ Sector 5 Clean ∷ Intr ∷ End (ReadOk (replicate 4 44)) ∷ []) ∷
    [])
