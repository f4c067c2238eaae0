-- Rows of traces, as docs/trace-rows/rows.py writes them.
use Rattle.std.specs.Prelude.{◌==◌, ◌&&◌, ◌++◌, true, false, if◌then◌else◌, [], ◌∷◌, Some, None, replicate}
use Rattle.pack_geometry.specs.declared.DriveKind.TheVariants.{Rp06, Rm03}
use Rattle.partitions.specs.declared.Part.TheVariants as part
use Rattle.drive_registers.specs.declared.OffsetCode.TheVariants.{Plus400, Minus400, Plus800, Minus800, Plus1200, Minus1200}
use Rattle.hardware_table.specs.declared.NoiseSpan.TheVariants.{Times}
use Rattle.hardware_table.specs.declared.Moved.TheVariants.{Clean, Hard, Marked}
use Rattle.trace_replay.specs.requests.Requests.{Unforwarded, ReadOk, WriteOk, Failed}
use Rattle.trace_replay.specs.Script.{Submit, ArriveAt, MoveAt, AttendTo, Noise, Declares, Plays}
use Rattle.trace_replay.specs.Moments.{Search, Recal, Offset, Centre, Clear, Transfer, Arrive, Sector, Intr, Try, Attn, End}
use Rattle.trace_rows.specs.Accepted.{over, over_zeros, Row, row, Says, Waits, clean, again, offset_again}

-- twenty_seven_retries: 27 failures by noise that shows, and then the sector
abbrev pub twenty_seven_retries : Row
twenty_seven_retries = row (record { number = 1; statement = Declares 0 Rp06 } ∷ record { number = 2; statement = Plays (Noise (record { unit = 0; block = 5; span = Times 27; places = 0 ∷ 7 ∷ 14 ∷ [] })) } ∷ record { number = 3; statement = Plays (Submit (record { id = 1; unit = 0; part = part.C; block = 5; count = 1; last = 512; offset = 0; written = None })) } ∷ []) 3 over_zeros (
    Says 3 0 1 (Transfer false 5 1 ∷ []) ∷
    Says 4 0 1 (Sector 5 Hard ∷ Intr ∷ Clear ∷ Try 5 1 ∷ again 5 2 3 (
    Recal ∷ Arrive ∷ Attn ∷ again 5 5 8 (
    Recal ∷ Arrive ∷ Attn ∷ again 5 13 4 (
    offset_again 5 17 (Plus400 ∷ Minus400 ∷ Plus400 ∷ Minus400 ∷ []) (
    Recal ∷ Arrive ∷ Attn ∷ offset_again 5 21 (Plus800 ∷ Minus800 ∷ Plus800 ∷ Minus800 ∷ Plus1200 ∷ Minus1200 ∷ Plus1200 ∷ []) (
    Offset Minus1200 ∷ Arrive ∷ Attn ∷ Transfer false 5 1 ∷ Sector 5 Clean ∷ Intr ∷ Centre ∷ End (ReadOk (replicate 512 0)) ∷ [])))))) ∷
    [])

-- two_adapters_overlap: two adapters transfer at once
abbrev pub two_adapters_overlap : Row
two_adapters_overlap = row (record { number = 1; statement = Declares 0 Rp06 } ∷ record { number = 2; statement = Declares 1 Rm03 } ∷ record { number = 3; statement = Declares 8 Rp06 } ∷ record { number = 4; statement = Plays (Submit (record { id = 10; unit = 0; part = part.C; block = 1000; count = 1; last = 512; offset = 0; written = Some (replicate 512 17) })) } ∷ record { number = 5; statement = Plays (Submit (record { id = 11; unit = 1; part = part.C; block = 2000; count = 1; last = 512; offset = 0; written = Some (replicate 512 34) })) } ∷ record { number = 6; statement = Plays (Submit (record { id = 12; unit = 8; part = part.C; block = 3000; count = 1; last = 512; offset = 0; written = Some (replicate 512 51) })) } ∷ record { number = 7; statement = Plays (ArriveAt 1) } ∷ record { number = 8; statement = Plays (AttendTo 0) } ∷ record { number = 9; statement = Plays (ArriveAt 0) } ∷ record { number = 10; statement = Plays (MoveAt 0) } ∷ record { number = 11; statement = Plays (AttendTo 0) } ∷ record { number = 12; statement = Plays (ArriveAt 8) } ∷ record { number = 13; statement = Plays (AttendTo 1) } ∷ record { number = 14; statement = Plays (MoveAt 1) } ∷ record { number = 15; statement = Plays (MoveAt 0) } ∷ record { number = 16; statement = Plays (AttendTo 1) } ∷ record { number = 17; statement = Plays (AttendTo 0) } ∷ []) 17 over_zeros (
    Says 4 0 10 (Search 2 7 ∷ []) ∷
    Says 5 1 11 (Search 12 13 ∷ []) ∷
    Says 6 8 12 (Search 7 5 ∷ []) ∷
    Says 7 1 11 (Arrive ∷ []) ∷
    Says 8 1 11 (Attn ∷ Transfer true 2000 1 ∷ []) ∷
    Says 9 0 10 (Arrive ∷ []) ∷
    Says 10 1 11 (Sector 2000 Clean ∷ []) ∷
    Says 11 1 11 (Intr ∷ End WriteOk ∷ []) ∷
    Says 11 0 10 (Attn ∷ Transfer true 1000 1 ∷ []) ∷
    Says 12 8 12 (Arrive ∷ []) ∷
    Says 13 8 12 (Attn ∷ Transfer true 3000 1 ∷ []) ∷
    Says 14 8 12 (Sector 3000 Clean ∷ []) ∷
    Says 15 0 10 (Sector 1000 Clean ∷ []) ∷
    Says 16 8 12 (Intr ∷ End WriteOk ∷ []) ∷
    Says 17 0 10 (Intr ∷ End WriteOk ∷ []) ∷
    Waits 18 ∷
    [])

-- two_sweeps: requests below the head wait for the next sweep
abbrev pub two_sweeps : Row
two_sweeps = row (record { number = 1; statement = Declares 0 Rp06 } ∷ record { number = 2; statement = Plays (Submit (record { id = 1; unit = 0; part = part.C; block = 4180; count = 1; last = 512; offset = 0; written = None })) } ∷ record { number = 3; statement = Plays (Submit (record { id = 2; unit = 0; part = part.C; block = 20900; count = 1; last = 512; offset = 0; written = None })) } ∷ record { number = 4; statement = Plays (Submit (record { id = 3; unit = 0; part = part.C; block = 8360; count = 1; last = 512; offset = 0; written = None })) } ∷ record { number = 5; statement = Plays (Submit (record { id = 4; unit = 0; part = part.C; block = 2090; count = 1; last = 512; offset = 0; written = None })) } ∷ record { number = 6; statement = Plays (Submit (record { id = 5; unit = 0; part = part.C; block = 8360; count = 1; last = 512; offset = 0; written = None })) } ∷ []) 6 over_zeros (
    Says 2 0 1 (Search 10 19 ∷ []) ∷
    Says 7 0 1 (Arrive ∷ Attn ∷ Transfer false 4180 1 ∷ Sector 4180 Clean ∷ Intr ∷ End (ReadOk (replicate 512 0)) ∷ []) ∷
    Says 7 0 3 (Search 20 19 ∷ Arrive ∷ Attn ∷ Transfer false 8360 1 ∷ Sector 8360 Clean ∷ Intr ∷ End (ReadOk (replicate 512 0)) ∷ []) ∷
    Says 7 0 5 (Search 20 19 ∷ Arrive ∷ Attn ∷ Transfer false 8360 1 ∷ Sector 8360 Clean ∷ Intr ∷ End (ReadOk (replicate 512 0)) ∷ []) ∷
    Says 7 0 2 (Search 50 19 ∷ Arrive ∷ Attn ∷ Transfer false 20900 1 ∷ Sector 20900 Clean ∷ Intr ∷ End (ReadOk (replicate 512 0)) ∷ []) ∷
    Says 7 0 4 (Search 5 19 ∷ Arrive ∷ Attn ∷ Transfer false 2090 1 ∷ Sector 2090 Clean ∷ Intr ∷ End (ReadOk (replicate 512 0)) ∷ []) ∷
    [])

-- unforwarded: a marked block on a pack without a table
abbrev pub unforwarded : Row
unforwarded = row (record { number = 1; statement = Declares 0 Rp06 } ∷ record { number = 2; statement = Plays (Submit (record { id = 1; unit = 0; part = part.C; block = 998; count = 5; last = 512; offset = 0; written = None })) } ∷ []) 2 (over (λ unit. None) (λ unit block. replicate 512 0) (λ unit block. if (unit == 0) && (block == 1000) then true else false)) (
    Says 2 0 1 (Search 2 5 ∷ []) ∷
    Says 3 0 1 (Arrive ∷ Attn ∷ Transfer false 998 5 ∷ Sector 998 Clean ∷ Sector 999 Clean ∷ Sector 1000 Marked ∷ Intr ∷ Clear ∷
    End (Failed Unforwarded 2) ∷ []) ∷
    [])

-- unmarked_block_reads_its_own_sector: a block that the table lists and that is not marked
abbrev pub unmarked_block_reads_its_own_sector : Row
unmarked_block_reads_its_own_sector = row (record { number = 1; statement = Declares 0 Rp06 } ∷ record { number = 2; statement = Plays (Submit (record { id = 1; unit = 0; part = part.C; block = 998; count = 5; last = 512; offset = 0; written = None })) } ∷ []) 2 (over (λ unit. if unit == 0 then Some (record { kind = Rp06; serial = 1; places = record { cylinder = 2; track = 7; sector = 10 } ∷ [] }) else None) (λ unit block. if (unit == 0) && (block == 340647) then (replicate 512 90) else if (unit == 0) && (block == 340648) then (replicate 1 1 ++ replicate 7 0 ++ replicate 1 2 ++ replicate 1 0 ++ replicate 1 10 ++ replicate 1 7 ++ replicate 500 255) else replicate 512 0) (λ unit block. false)) (
    Says 2 0 1 (Search 2 5 ∷ []) ∷
    Says 3 0 1 (Arrive ∷ Attn ∷ Transfer false 998 5 ∷ clean 998 5 (Intr ∷ End (ReadOk (replicate 2560 0)) ∷ [])) ∷
    [])
