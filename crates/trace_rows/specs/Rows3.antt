-- Rows of traces, as docs/trace-rows/rows.py writes them.
use Rattle.std.specs.Prelude.{false, [], ◌∷◌, None}
use Rattle.pack_geometry.specs.declared.DriveKind.TheVariants.{Rp06}
use Rattle.partitions.specs.declared.Part.TheVariants as part
use Rattle.drive_registers.specs.declared.OffsetCode.TheVariants.{Plus400, Minus400, Plus800, Minus800, Plus1200, Minus1200}
use Rattle.hardware_table.specs.declared.NoiseSpan.TheVariants.{Times}
use Rattle.hardware_table.specs.declared.Moved.TheVariants.{Hard}
use Rattle.trace_replay.specs.requests.Requests.{Fault, Failed}
use Rattle.trace_replay.specs.Script.{Submit, Noise, Declares, Plays}
use Rattle.trace_replay.specs.Moments.{Recal, Clear, Transfer, Arrive, Sector, Intr, Try, Attn, End}
use Rattle.trace_rows.specs.Accepted.{over_zeros, Row, row, Says, again, offset_again}

-- retries_run_out: 28 failures end the request
abbrev pub retries_run_out : Row
retries_run_out = row (record { number = 1; statement = Declares 0 Rp06 } ∷ record { number = 2; statement = Plays (Noise (record { unit = 0; block = 5; span = Times 28; places = 0 ∷ 7 ∷ 14 ∷ [] })) } ∷ record { number = 3; statement = Plays (Submit (record { id = 1; unit = 0; part = part.C; block = 5; count = 1; last = 512; offset = 0; written = None })) } ∷ []) 3 over_zeros (
    Says 3 0 1 (Transfer false 5 1 ∷ []) ∷
    Says 4 0 1 (Sector 5 Hard ∷ Intr ∷ Clear ∷ Try 5 1 ∷ again 5 2 3 (
    Recal ∷ Arrive ∷ Attn ∷ again 5 5 8 (
    Recal ∷ Arrive ∷ Attn ∷ again 5 13 4 (
    offset_again 5 17 (Plus400 ∷ Minus400 ∷ Plus400 ∷ Minus400 ∷ []) (
    Recal ∷ Arrive ∷ Attn ∷
    offset_again 5 21 (Plus800 ∷ Minus800 ∷ Plus800 ∷ Minus800 ∷ Plus1200 ∷ Minus1200 ∷ Plus1200 ∷ Minus1200 ∷ []) (
    End (Failed Fault 0) ∷ [])))))) ∷
    [])
