-- Rows of traces, as docs/trace-rows/rows.py writes them.
use Rattle.std.specs.Prelude.{◌==◌, ◌&&◌, ◌++◌, true, false, if◌then◌else◌, [], ◌∷◌, Some, None, replicate}
use Rattle.pack_geometry.specs.declared.DriveKind.TheVariants.{Rp06, Rm03}
use Rattle.partitions.specs.declared.Part.TheVariants as part
use Rattle.hardware_table.specs.declared.NoiseSpan.TheVariants.{Times}
use Rattle.hardware_table.specs.declared.Moved.TheVariants.{Clean, Burst, Marked}
use Rattle.trace_replay.specs.requests.Requests.{ReadOk, WriteOk}
use Rattle.trace_replay.specs.Script.{Submit, Noise, Declares, Plays}
use Rattle.trace_replay.specs.Moments.{Search, Clear, Transfer, Arrive, Sector, Intr, Attn, End}
use Rattle.trace_rows.specs.Accepted.{over, Row, row, Says, clean}
use Rattle.trace_rows.specs.Sequences.{sequence}

-- users_run: twenty writes on three units and the reads of what they wrote, with two bursts and a marked block
abbrev pub users_run : Row
users_run = row (record { number = 1; statement = Declares 0 Rp06 } ∷ record { number = 2; statement = Declares 1 Rp06 } ∷ record { number = 3; statement = Declares 2 Rm03 } ∷ record { number = 4; statement = Plays (Noise (record { unit = 0; block = 11; span = Times 1; places = 100 ∷ 105 ∷ [] })) } ∷ record { number = 5; statement = Plays (Noise (record { unit = 2; block = 49525; span = Times 2; places = 8 ∷ 18 ∷ [] })) } ∷ record { number = 6; statement = Plays (Submit (record { id = 0; unit = 0; part = part.A; block = 10; count = 8; last = 512; offset = 0; written = Some (sequence 0 4096) })) } ∷ record { number = 7; statement = Plays (Submit (record { id = 1; unit = 1; part = part.B; block = 47; count = 8; last = 512; offset = 0; written = Some (sequence 1 4096) })) } ∷ record { number = 8; statement = Plays (Submit (record { id = 2; unit = 2; part = part.G; block = 84; count = 8; last = 512; offset = 0; written = Some (sequence 2 4096) })) } ∷ record { number = 9; statement = Plays (Submit (record { id = 3; unit = 0; part = part.A; block = 121; count = 8; last = 512; offset = 0; written = Some (sequence 3 4096) })) } ∷ record { number = 10; statement = Plays (Submit (record { id = 4; unit = 1; part = part.B; block = 158; count = 8; last = 512; offset = 0; written = Some (sequence 4 4096) })) } ∷ record { number = 11; statement = Plays (Submit (record { id = 5; unit = 2; part = part.G; block = 195; count = 8; last = 512; offset = 0; written = Some (sequence 5 4096) })) } ∷ record { number = 12; statement = Plays (Submit (record { id = 6; unit = 0; part = part.A; block = 232; count = 8; last = 512; offset = 0; written = Some (sequence 6 4096) })) } ∷ record { number = 13; statement = Plays (Submit (record { id = 7; unit = 1; part = part.B; block = 269; count = 8; last = 512; offset = 0; written = Some (sequence 7 4096) })) } ∷ record { number = 14; statement = Plays (Submit (record { id = 8; unit = 2; part = part.G; block = 306; count = 8; last = 512; offset = 0; written = Some (sequence 8 4096) })) } ∷ record { number = 15; statement = Plays (Submit (record { id = 9; unit = 0; part = part.A; block = 343; count = 8; last = 512; offset = 0; written = Some (sequence 9 4096) })) } ∷ record { number = 16; statement = Plays (Submit (record { id = 10; unit = 1; part = part.B; block = 380; count = 8; last = 512; offset = 0; written = Some (sequence 10 4096) })) } ∷ record { number = 17; statement = Plays (Submit (record { id = 11; unit = 2; part = part.G; block = 417; count = 8; last = 512; offset = 0; written = Some (sequence 11 4096) })) } ∷ record { number = 18; statement = Plays (Submit (record { id = 12; unit = 0; part = part.A; block = 454; count = 8; last = 512; offset = 0; written = Some (sequence 12 4096) })) } ∷ record { number = 19; statement = Plays (Submit (record { id = 13; unit = 1; part = part.B; block = 491; count = 8; last = 512; offset = 0; written = Some (sequence 13 4096) })) } ∷ record { number = 20; statement = Plays (Submit (record { id = 14; unit = 2; part = part.G; block = 528; count = 8; last = 512; offset = 0; written = Some (sequence 14 4096) })) } ∷ record { number = 21; statement = Plays (Submit (record { id = 15; unit = 0; part = part.A; block = 565; count = 8; last = 512; offset = 0; written = Some (sequence 15 4096) })) } ∷ record { number = 22; statement = Plays (Submit (record { id = 16; unit = 1; part = part.B; block = 602; count = 8; last = 512; offset = 0; written = Some (sequence 16 4096) })) } ∷ record { number = 23; statement = Plays (Submit (record { id = 17; unit = 2; part = part.G; block = 639; count = 8; last = 512; offset = 0; written = Some (sequence 17 4096) })) } ∷ record { number = 24; statement = Plays (Submit (record { id = 18; unit = 0; part = part.A; block = 676; count = 8; last = 512; offset = 0; written = Some (sequence 18 4096) })) } ∷ record { number = 25; statement = Plays (Submit (record { id = 19; unit = 1; part = part.B; block = 713; count = 8; last = 512; offset = 0; written = Some (sequence 19 4096) })) } ∷ record { number = 26; statement = Plays (Submit (record { id = 100; unit = 0; part = part.A; block = 10; count = 8; last = 512; offset = 0; written = None })) } ∷ record { number = 27; statement = Plays (Submit (record { id = 101; unit = 1; part = part.B; block = 47; count = 8; last = 512; offset = 0; written = None })) } ∷ record { number = 28; statement = Plays (Submit (record { id = 102; unit = 2; part = part.G; block = 84; count = 8; last = 512; offset = 0; written = None })) } ∷ record { number = 29; statement = Plays (Submit (record { id = 103; unit = 0; part = part.A; block = 121; count = 8; last = 512; offset = 0; written = None })) } ∷ record { number = 30; statement = Plays (Submit (record { id = 104; unit = 1; part = part.B; block = 158; count = 8; last = 512; offset = 0; written = None })) } ∷ record { number = 31; statement = Plays (Submit (record { id = 105; unit = 2; part = part.G; block = 195; count = 8; last = 512; offset = 0; written = None })) } ∷ record { number = 32; statement = Plays (Submit (record { id = 106; unit = 0; part = part.A; block = 232; count = 8; last = 512; offset = 0; written = None })) } ∷ record { number = 33; statement = Plays (Submit (record { id = 107; unit = 1; part = part.B; block = 269; count = 8; last = 512; offset = 0; written = None })) } ∷ record { number = 34; statement = Plays (Submit (record { id = 108; unit = 2; part = part.G; block = 306; count = 8; last = 512; offset = 0; written = None })) } ∷ record { number = 35; statement = Plays (Submit (record { id = 109; unit = 0; part = part.A; block = 343; count = 8; last = 512; offset = 0; written = None })) } ∷ record { number = 36; statement = Plays (Submit (record { id = 110; unit = 1; part = part.B; block = 380; count = 8; last = 512; offset = 0; written = None })) } ∷ record { number = 37; statement = Plays (Submit (record { id = 111; unit = 2; part = part.G; block = 417; count = 8; last = 512; offset = 0; written = None })) } ∷ record { number = 38; statement = Plays (Submit (record { id = 112; unit = 0; part = part.A; block = 454; count = 8; last = 512; offset = 0; written = None })) } ∷ record { number = 39; statement = Plays (Submit (record { id = 113; unit = 1; part = part.B; block = 491; count = 8; last = 512; offset = 0; written = None })) } ∷ record { number = 40; statement = Plays (Submit (record { id = 114; unit = 2; part = part.G; block = 528; count = 8; last = 512; offset = 0; written = None })) } ∷ record { number = 41; statement = Plays (Submit (record { id = 115; unit = 0; part = part.A; block = 565; count = 8; last = 512; offset = 0; written = None })) } ∷ record { number = 42; statement = Plays (Submit (record { id = 116; unit = 1; part = part.B; block = 602; count = 8; last = 512; offset = 0; written = None })) } ∷ record { number = 43; statement = Plays (Submit (record { id = 117; unit = 2; part = part.G; block = 639; count = 8; last = 512; offset = 0; written = None })) } ∷ record { number = 44; statement = Plays (Submit (record { id = 118; unit = 0; part = part.A; block = 676; count = 8; last = 512; offset = 0; written = None })) } ∷ record { number = 45; statement = Plays (Submit (record { id = 119; unit = 1; part = part.B; block = 713; count = 8; last = 512; offset = 0; written = None })) } ∷ []) 45 (over (λ unit. if unit == 0 then Some (record { kind = Rp06; serial = 1; places = record { cylinder = 0; track = 5; sector = 15 } ∷ [] }) else None) (λ unit block. if (unit == 0) && (block == 340648) then (replicate 1 1 ++ replicate 9 0 ++ replicate 1 15 ++ replicate 1 5 ++ replicate 500 255) else replicate 512 0) (λ unit block. if (unit == 0) && (block == 125) then true else false)) (
    Says 6 0 0 (Search 0 7 ∷ []) ∷
    Says 7 1 1 (Search 38 0 ∷ []) ∷
    Says 8 2 2 (Search 309 17 ∷ []) ∷
    Says 46 0 0 (Arrive ∷ []) ∷
    Says 46 1 1 (Arrive ∷ []) ∷
    Says 46 2 2 (Arrive ∷ []) ∷
    Says 46 0 0 (Attn ∷ []) ∷
    Says 46 1 1 (Attn ∷ []) ∷
    Says 46 2 2 (Attn ∷ []) ∷
    Says 46 0 0 (Transfer true 10 8 ∷ clean 10 8 (Intr ∷ End WriteOk ∷ [])) ∷
    Says 46 0 3 (Search 0 8 ∷ []) ∷
    Says 46 1 1 (Transfer true 15931 8 ∷ []) ∷
    Says 46 0 3 (Arrive ∷ []) ∷
    Says 46 1 1 (clean 15931 8 (Intr ∷ End WriteOk ∷ [])) ∷
    Says 46 1 4 (Search 38 1 ∷ []) ∷
    Says 46 0 3 (Attn ∷ []) ∷
    Says 46 2 2 (Transfer true 49524 8 ∷ []) ∷
    Says 46 1 4 (Arrive ∷ []) ∷
    Says 46 2 2 (clean 49524 8 (Intr ∷ End WriteOk ∷ [])) ∷
    Says 46 2 102 (Search 309 17 ∷ []) ∷
    Says 46 1 4 (Attn ∷ []) ∷
    Says 46 0 3 (Transfer true 121 8 ∷ []) ∷
    Says 46 2 102 (Arrive ∷ []) ∷
    Says 46 0 3 (clean 121 4 (Sector 125 Marked ∷ Intr ∷ Clear ∷ Transfer true 340647 1 ∷ [])) ∷
    Says 46 2 102 (Attn ∷ []) ∷
    Says 46 0 3 (Sector 340647 Clean ∷ Intr ∷ Transfer true 126 3 ∷ clean 126 3 (Intr ∷ End WriteOk ∷ [])) ∷
    Says 46 0 6 (Search 0 9 ∷ []) ∷
    Says 46 1 4 (Transfer true 16042 8 ∷ []) ∷
    Says 46 0 6 (Arrive ∷ []) ∷
    Says 46 1 4 (clean 16042 8 (Intr ∷ End WriteOk ∷ [])) ∷
    Says 46 1 7 (Search 38 2 ∷ []) ∷
    Says 46 0 6 (Attn ∷ []) ∷
    Says 46 2 102 (Transfer false 49524 8 ∷ []) ∷
    Says 46 1 7 (Arrive ∷ []) ∷
    Says 46 2 102 (Sector 49524 Clean ∷ Sector 49525 (Burst 9 1025) ∷ Intr ∷ Clear ∷ Transfer false 49526 6 ∷ []) ∷
    Says 46 1 7 (Attn ∷ []) ∷
    Says 46 2 102 (clean 49526 6 (Intr ∷ End (ReadOk (sequence 2 4096)) ∷ [])) ∷
    Says 46 2 5 (Search 310 0 ∷ []) ∷
    Says 46 0 6 (Transfer true 232 8 ∷ []) ∷
    Says 46 2 5 (Arrive ∷ []) ∷
    Says 46 0 6 (clean 232 8 (Intr ∷ End WriteOk ∷ [])) ∷
    Says 46 0 9 (Search 0 10 ∷ []) ∷
    Says 46 2 5 (Attn ∷ []) ∷
    Says 46 1 7 (Transfer true 16153 8 ∷ []) ∷
    Says 46 0 9 (Arrive ∷ []) ∷
    Says 46 1 7 (clean 16153 8 (Intr ∷ End WriteOk ∷ [])) ∷
    Says 46 1 10 (Search 38 3 ∷ []) ∷
    Says 46 0 9 (Attn ∷ []) ∷
    Says 46 2 5 (Transfer true 49635 8 ∷ []) ∷
    Says 46 1 10 (Arrive ∷ []) ∷
    Says 46 2 5 (clean 49635 8 (Intr ∷ End WriteOk ∷ [])) ∷
    Says 46 2 8 (Search 310 15 ∷ []) ∷
    Says 46 1 10 (Attn ∷ []) ∷
    Says 46 0 9 (Transfer true 343 8 ∷ []) ∷
    Says 46 2 8 (Arrive ∷ []) ∷
    Says 46 0 9 (clean 343 8 (Intr ∷ End WriteOk ∷ [])) ∷
    Says 46 0 100 (Search 0 7 ∷ []) ∷
    Says 46 2 8 (Attn ∷ []) ∷
    Says 46 1 10 (Transfer true 16264 8 ∷ []) ∷
    Says 46 0 100 (Arrive ∷ []) ∷
    Says 46 1 10 (clean 16264 8 (Intr ∷ End WriteOk ∷ [])) ∷
    Says 46 1 101 (Search 38 0 ∷ []) ∷
    Says 46 0 100 (Attn ∷ []) ∷
    Says 46 2 8 (Transfer true 49746 8 ∷ []) ∷
    Says 46 1 101 (Arrive ∷ []) ∷
    Says 46 2 8 (clean 49746 8 (Intr ∷ End WriteOk ∷ [])) ∷
    Says 46 2 105 (Search 310 0 ∷ []) ∷
    Says 46 1 101 (Attn ∷ []) ∷
    Says 46 0 100 (Transfer false 10 8 ∷ []) ∷
    Says 46 2 105 (Arrive ∷ []) ∷
    Says 46 0 100 (Sector 10 Clean ∷ Sector 11 (Burst 101 33) ∷ Intr ∷ Clear ∷ Transfer false 12 6 ∷ []) ∷
    Says 46 2 105 (Attn ∷ []) ∷
    Says 46 0 100 (clean 12 6 (Intr ∷ End (ReadOk (sequence 0 4096)) ∷ [])) ∷
    Says 46 0 103 (Search 0 8 ∷ []) ∷
    Says 46 1 101 (Transfer false 15931 8 ∷ []) ∷
    Says 46 0 103 (Arrive ∷ []) ∷
    Says 46 1 101 (clean 15931 8 (Intr ∷ End (ReadOk (sequence 1 4096)) ∷ [])) ∷
    Says 46 1 104 (Search 38 1 ∷ []) ∷
    Says 46 0 103 (Attn ∷ []) ∷
    Says 46 2 105 (Transfer false 49635 8 ∷ []) ∷
    Says 46 1 104 (Arrive ∷ []) ∷
    Says 46 2 105 (clean 49635 8 (Intr ∷ End (ReadOk (sequence 5 4096)) ∷ [])) ∷
    Says 46 2 108 (Search 310 15 ∷ []) ∷
    Says 46 1 104 (Attn ∷ []) ∷
    Says 46 0 103 (Transfer false 121 8 ∷ []) ∷
    Says 46 2 108 (Arrive ∷ []) ∷
    Says 46 0 103 (clean 121 4 (Sector 125 Marked ∷ Intr ∷ Clear ∷ Transfer false 340647 1 ∷ [])) ∷
    Says 46 2 108 (Attn ∷ []) ∷
    Says 46 0 103 (Sector 340647 Clean ∷ Intr ∷ Transfer false 126 3 ∷ clean 126 3 (Intr ∷ End (ReadOk (sequence 3 4096)) ∷ [])) ∷
    Says 46 0 106 (Search 0 9 ∷ []) ∷
    Says 46 1 104 (Transfer false 16042 8 ∷ []) ∷
    Says 46 0 106 (Arrive ∷ []) ∷
    Says 46 1 104 (clean 16042 8 (Intr ∷ End (ReadOk (sequence 4 4096)) ∷ [])) ∷
    Says 46 1 107 (Search 38 2 ∷ []) ∷
    Says 46 0 106 (Attn ∷ []) ∷
    Says 46 2 108 (Transfer false 49746 8 ∷ []) ∷
    Says 46 1 107 (Arrive ∷ []) ∷
    Says 46 2 108 (clean 49746 8 (Intr ∷ End (ReadOk (sequence 8 4096)) ∷ [])) ∷
    Says 46 2 11 (Search 311 30 ∷ []) ∷
    Says 46 1 107 (Attn ∷ []) ∷
    Says 46 0 106 (Transfer false 232 8 ∷ []) ∷
    Says 46 2 11 (Arrive ∷ []) ∷
    Says 46 0 106 (clean 232 8 (Intr ∷ End (ReadOk (sequence 6 4096)) ∷ [])) ∷
    Says 46 0 109 (Search 0 10 ∷ []) ∷
    Says 46 2 11 (Attn ∷ []) ∷
    Says 46 1 107 (Transfer false 16153 8 ∷ []) ∷
    Says 46 0 109 (Arrive ∷ []) ∷
    Says 46 1 107 (clean 16153 8 (Intr ∷ End (ReadOk (sequence 7 4096)) ∷ [])) ∷
    Says 46 1 110 (Search 38 3 ∷ []) ∷
    Says 46 0 109 (Attn ∷ []) ∷
    Says 46 2 11 (Transfer true 49857 8 ∷ []) ∷
    Says 46 1 110 (Arrive ∷ []) ∷
    Says 46 2 11 (clean 49857 8 (Intr ∷ End WriteOk ∷ [])) ∷
    Says 46 2 111 (Search 311 30 ∷ []) ∷
    Says 46 1 110 (Attn ∷ []) ∷
    Says 46 0 109 (Transfer false 343 8 ∷ []) ∷
    Says 46 2 111 (Arrive ∷ []) ∷
    Says 46 0 109 (clean 343 8 (Intr ∷ End (ReadOk (sequence 9 4096)) ∷ [])) ∷
    Says 46 0 12 (Search 1 11 ∷ []) ∷
    Says 46 2 111 (Attn ∷ []) ∷
    Says 46 1 110 (Transfer false 16264 8 ∷ []) ∷
    Says 46 0 12 (Arrive ∷ []) ∷
    Says 46 1 110 (clean 16264 8 (Intr ∷ End (ReadOk (sequence 10 4096)) ∷ [])) ∷
    Says 46 1 13 (Search 39 4 ∷ []) ∷
    Says 46 0 12 (Attn ∷ []) ∷
    Says 46 2 111 (Transfer false 49857 8 ∷ []) ∷
    Says 46 1 13 (Arrive ∷ []) ∷
    Says 46 2 111 (clean 49857 8 (Intr ∷ End (ReadOk (sequence 11 4096)) ∷ [])) ∷
    Says 46 2 14 (Search 312 13 ∷ []) ∷
    Says 46 1 13 (Attn ∷ []) ∷
    Says 46 0 12 (Transfer true 454 8 ∷ []) ∷
    Says 46 2 14 (Arrive ∷ []) ∷
    Says 46 0 12 (clean 454 8 (Intr ∷ End WriteOk ∷ [])) ∷
    Says 46 0 15 (Search 1 12 ∷ []) ∷
    Says 46 2 14 (Attn ∷ []) ∷
    Says 46 1 13 (Transfer true 16375 8 ∷ []) ∷
    Says 46 0 15 (Arrive ∷ []) ∷
    Says 46 1 13 (clean 16375 8 (Intr ∷ End WriteOk ∷ [])) ∷
    Says 46 1 16 (Search 39 5 ∷ []) ∷
    Says 46 0 15 (Attn ∷ []) ∷
    Says 46 2 14 (Transfer true 49968 8 ∷ []) ∷
    Says 46 1 16 (Arrive ∷ []) ∷
    Says 46 2 14 (clean 49968 8 (Intr ∷ End WriteOk ∷ [])) ∷
    Says 46 2 17 (Search 312 28 ∷ []) ∷
    Says 46 1 16 (Attn ∷ []) ∷
    Says 46 0 15 (Transfer true 565 8 ∷ []) ∷
    Says 46 2 17 (Arrive ∷ []) ∷
    Says 46 0 15 (clean 565 8 (Intr ∷ End WriteOk ∷ [])) ∷
    Says 46 0 18 (Search 1 13 ∷ []) ∷
    Says 46 2 17 (Attn ∷ []) ∷
    Says 46 1 16 (Transfer true 16486 8 ∷ []) ∷
    Says 46 0 18 (Arrive ∷ []) ∷
    Says 46 1 16 (clean 16486 8 (Intr ∷ End WriteOk ∷ [])) ∷
    Says 46 1 19 (Search 39 6 ∷ []) ∷
    Says 46 0 18 (Attn ∷ []) ∷
    Says 46 2 17 (Transfer true 50079 8 ∷ []) ∷
    Says 46 1 19 (Arrive ∷ []) ∷
    Says 46 2 17 (clean 50079 8 (Intr ∷ End WriteOk ∷ [])) ∷
    Says 46 2 114 (Search 312 13 ∷ []) ∷
    Says 46 1 19 (Attn ∷ []) ∷
    Says 46 0 18 (Transfer true 676 8 ∷ []) ∷
    Says 46 2 114 (Arrive ∷ []) ∷
    Says 46 0 18 (clean 676 8 (Intr ∷ End WriteOk ∷ [])) ∷
    Says 46 0 112 (Search 1 11 ∷ []) ∷
    Says 46 2 114 (Attn ∷ []) ∷
    Says 46 1 19 (Transfer true 16597 8 ∷ []) ∷
    Says 46 0 112 (Arrive ∷ []) ∷
    Says 46 1 19 (clean 16597 8 (Intr ∷ End WriteOk ∷ [])) ∷
    Says 46 1 113 (Search 39 4 ∷ []) ∷
    Says 46 0 112 (Attn ∷ []) ∷
    Says 46 2 114 (Transfer false 49968 8 ∷ []) ∷
    Says 46 1 113 (Arrive ∷ []) ∷
    Says 46 2 114 (clean 49968 8 (Intr ∷ End (ReadOk (sequence 14 4096)) ∷ [])) ∷
    Says 46 2 117 (Search 312 28 ∷ []) ∷
    Says 46 1 113 (Attn ∷ []) ∷
    Says 46 0 112 (Transfer false 454 8 ∷ []) ∷
    Says 46 2 117 (Arrive ∷ []) ∷
    Says 46 0 112 (clean 454 8 (Intr ∷ End (ReadOk (sequence 12 4096)) ∷ [])) ∷
    Says 46 0 115 (Search 1 12 ∷ []) ∷
    Says 46 2 117 (Attn ∷ []) ∷
    Says 46 1 113 (Transfer false 16375 8 ∷ []) ∷
    Says 46 0 115 (Arrive ∷ []) ∷
    Says 46 1 113 (clean 16375 8 (Intr ∷ End (ReadOk (sequence 13 4096)) ∷ [])) ∷
    Says 46 1 116 (Search 39 5 ∷ []) ∷
    Says 46 0 115 (Attn ∷ []) ∷
    Says 46 2 117 (Transfer false 50079 8 ∷ []) ∷
    Says 46 1 116 (Arrive ∷ []) ∷
    Says 46 2 117 (clean 50079 8 (Intr ∷ End (ReadOk (sequence 17 4096)) ∷ [])) ∷
    Says 46 1 116 (Attn ∷ []) ∷
    Says 46 0 115 (Transfer false 565 8 ∷ clean 565 8 (Intr ∷ End (ReadOk (sequence 15 4096)) ∷ [])) ∷
    Says 46 0 118 (Search 1 13 ∷ []) ∷
    Says 46 1 116 (Transfer false 16486 8 ∷ []) ∷
    Says 46 0 118 (Arrive ∷ []) ∷
    Says 46 1 116 (clean 16486 8 (Intr ∷ End (ReadOk (sequence 16 4096)) ∷ [])) ∷
    Says 46 1 119 (Search 39 6 ∷ []) ∷
    Says 46 0 118 (Attn ∷ Transfer false 676 8 ∷ []) ∷
    Says 46 1 119 (Arrive ∷ []) ∷
    Says 46 0 118 (clean 676 8 (Intr ∷ End (ReadOk (sequence 18 4096)) ∷ [])) ∷
    Says 46 1 119 (Attn ∷ Transfer false 16597 8 ∷ clean 16597 8 (Intr ∷ End (ReadOk (sequence 19 4096)) ∷ [])) ∷
    [])
