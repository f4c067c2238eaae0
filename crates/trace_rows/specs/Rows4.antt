-- Rows of traces, as docs/trace-rows/rows.py writes them.
use Rattle.std.specs.Prelude.{false, [], ◌∷◌, None, replicate}
use Rattle.pack_geometry.specs.declared.DriveKind.TheVariants.{Rp06, Rm03, Rm05}
use Rattle.partitions.specs.declared.Part.TheVariants as part
use Rattle.drive_registers.specs.declared.OffsetCode.TheVariants.{Plus400, Minus400, Plus800, Minus800, Plus1200, Minus1200}
use Rattle.hardware_table.specs.declared.NoiseSpan.TheVariants.{Times}
use Rattle.hardware_table.specs.declared.Moved.TheVariants.{Clean, Burst, Hard}
use Rattle.trace_replay.specs.requests.Requests.{Fault, ReadOk, EndOfPartition, Failed}
use Rattle.trace_replay.specs.Script.{Submit, ArriveAt, MoveAt, AttendTo, Drain, Turn, Noise, Declares, Plays}
use Rattle.trace_replay.specs.Moments.{Search, Recal, Clear, Transfer, Arrive, Sector, Intr, Try, Attn, End}
use Rattle.trace_rows.specs.Accepted.{over_zeros, Row, row, Says, Waits, clean, again, offset_again}

-- retries_run_out_in_the_request: 28 failures at the last of four blocks
abbrev pub retries_run_out_in_the_request : Row
retries_run_out_in_the_request = row (record { number = 1; statement = Declares 0 Rp06 } ∷ record { number = 2; statement = Plays (Noise (record { unit = 0; block = 8; span = Times 28; places = 0 ∷ 7 ∷ 14 ∷ [] })) } ∷ record { number = 3; statement = Plays (Submit (record { id = 1; unit = 0; part = part.C; block = 5; count = 4; last = 512; offset = 0; written = None })) } ∷ []) 3 over_zeros (
    Says 3 0 1 (Transfer false 5 4 ∷ []) ∷
    Says 4 0 1 (clean 5 3 (Sector 8 Hard ∷ Intr ∷ Clear ∷ Try 8 1 ∷ again 8 2 3 (
    Recal ∷ Arrive ∷ Attn ∷ again 8 5 8 (
    Recal ∷ Arrive ∷ Attn ∷ again 8 13 4 (
    offset_again 8 17 (Plus400 ∷ Minus400 ∷ Plus400 ∷ Minus400 ∷ []) (
    Recal ∷ Arrive ∷ Attn ∷
    offset_again 8 21 (Plus800 ∷ Minus800 ∷ Plus800 ∷ Minus800 ∷ Plus1200 ∷ Minus1200 ∷ Plus1200 ∷ Minus1200 ∷ []) (
    End (Failed Fault 3) ∷ []))))))) ∷
    [])

-- rm03_partition_g: a partition that does not begin at cylinder 0
abbrev pub rm03_partition_g : Row
rm03_partition_g = row (record { number = 1; statement = Declares 0 Rm03 } ∷ record { number = 2; statement = Plays (Submit (record { id = 1; unit = 0; part = part.G; block = 82079; count = 1; last = 512; offset = 0; written = None })) } ∷ []) 2 over_zeros (
    Says 2 0 1 (Search 821 28 ∷ []) ∷
    Says 3 0 1 (Arrive ∷ Attn ∷ Transfer false 131519 1 ∷ Sector 131519 Clean ∷ Intr ∷ End (ReadOk (replicate 512 0)) ∷ []) ∷
    [])

-- rm05_last_block: the last data block of an RM05
abbrev pub rm05_last_block : Row
rm05_last_block = row (record { number = 1; statement = Declares 0 Rm05 } ∷ record { number = 2; statement = Plays (Submit (record { id = 1; unit = 0; part = part.C; block = 500225; count = 1; last = 512; offset = 0; written = None })) } ∷ record { number = 3; statement = Plays (Submit (record { id = 2; unit = 0; part = part.G; block = 450369; count = 1; last = 512; offset = 0; written = None })) } ∷ record { number = 4; statement = Plays (Submit (record { id = 3; unit = 0; part = part.C; block = 500226; count = 1; last = 512; offset = 0; written = None })) } ∷ record { number = 5; statement = Plays (Submit (record { id = 4; unit = 0; part = part.D; block = 0; count = 1; last = 512; offset = 0; written = None })) } ∷ []) 5 over_zeros (
    Says 2 0 1 (Search 822 30 ∷ []) ∷
    Says 4 0 3 (End EndOfPartition ∷ []) ∷
    Says 5 0 4 (End EndOfPartition ∷ []) ∷
    Says 6 0 1 (Arrive ∷ Attn ∷ Transfer false 500225 1 ∷ Sector 500225 Clean ∷ Intr ∷ End (ReadOk (replicate 512 0)) ∷ []) ∷
    Says 6 0 2 (Search 822 30 ∷ Arrive ∷ Attn ∷ Transfer false 500225 1 ∷ Sector 500225 Clean ∷ Intr ∷
    End (ReadOk (replicate 512 0)) ∷ []) ∷
    [])

-- second_adapter: a unit of the second adapter, and events that find nothing to do
abbrev pub second_adapter : Row
second_adapter = row (record { number = 1; statement = Declares 9 Rm03 } ∷ record { number = 2; statement = Plays (Submit (record { id = 1; unit = 9; part = part.C; block = 5; count = 1; last = 512; offset = 0; written = None })) } ∷ record { number = 3; statement = Plays (ArriveAt 9) } ∷ record { number = 4; statement = Plays (AttendTo 0) } ∷ record { number = 5; statement = Plays (AttendTo 1) } ∷ record { number = 6; statement = Plays (MoveAt 1) } ∷ record { number = 7; statement = Plays (MoveAt 1) } ∷ []) 7 over_zeros (
    Says 2 9 1 (Transfer false 5 1 ∷ []) ∷
    Waits 3 ∷
    Waits 4 ∷
    Waits 5 ∷
    Says 6 9 1 (Sector 5 Clean ∷ []) ∷
    Waits 7 ∷
    Says 8 9 1 (Intr ∷ End (ReadOk (replicate 512 0)) ∷ []) ∷
    [])

-- short_burst_repaired: a burst in the check alone
abbrev pub short_burst_repaired : Row
short_burst_repaired = row (record { number = 1; statement = Declares 0 Rp06 } ∷ record { number = 2; statement = Plays (Noise (record { unit = 0; block = 5; span = Times 1; places = 4090 ∷ 4100 ∷ [] })) } ∷ record { number = 3; statement = Plays (Submit (record { id = 1; unit = 0; part = part.C; block = 5; count = 1; last = 512; offset = 0; written = None })) } ∷ []) 3 over_zeros (
    Says 3 0 1 (Transfer false 5 1 ∷ []) ∷
    Says 4 0 1 (Sector 5 (Burst 4091 1025) ∷ Intr ∷ Clear ∷ End (ReadOk (replicate 512 0)) ∷ []) ∷
    [])

-- turned: a pack that turned: a search, and none
abbrev pub turned : Row
turned = row (record { number = 1; statement = Declares 0 Rp06 } ∷ record { number = 2; statement = Plays (Turn 0 5) } ∷ record { number = 3; statement = Plays (Submit (record { id = 1; unit = 0; part = part.C; block = 5; count = 1; last = 512; offset = 0; written = None })) } ∷ record { number = 4; statement = Plays (MoveAt 0) } ∷ record { number = 5; statement = Plays (AttendTo 0) } ∷ record { number = 6; statement = Plays (Drain) } ∷ record { number = 7; statement = Plays (Turn 0 2) } ∷ record { number = 8; statement = Plays (Submit (record { id = 2; unit = 0; part = part.C; block = 5; count = 1; last = 512; offset = 0; written = None })) } ∷ []) 8 over_zeros (
    Says 3 0 1 (Search 0 2 ∷ []) ∷
    Waits 4 ∷
    Waits 5 ∷
    Says 6 0 1 (Arrive ∷ Attn ∷ Transfer false 5 1 ∷ Sector 5 Clean ∷ Intr ∷ End (ReadOk (replicate 512 0)) ∷ []) ∷
    Says 8 0 2 (Transfer false 5 1 ∷ []) ∷
    Says 9 0 2 (Sector 5 Clean ∷ Intr ∷ End (ReadOk (replicate 512 0)) ∷ []) ∷
    [])
